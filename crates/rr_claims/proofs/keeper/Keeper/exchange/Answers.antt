use Rattle.std.proofs.Common.{ap, subst, ◌∙◌}
use Rattle.rr_claims.specs.Rosters.{put_at}
use Rattle.rr_claims.proofs.Puts.{unclaimed_after}
use Rattle.rr_claims.proofs.keeper.Keeper.exchange.Goals as goal

pub add-requires : goal.add-requires
add-requires g c =
    let says = g.P.Says.says in let n = g.A.Named.number c.args.named.now in
    ap (λ puts. put_at puts n) c.leave.ensures.1
    ∙ unclaimed_after says c.self.inside.shown.value c.self.inside.roster.puts c.args.claim.number n c.self.invariant
    (λ apart w h. c.requires.free apart w (subst (λ s. says s n w) (ap (λ k. k.state) c.self.view_is) h))
