use Rattle.std.proofs.Common.{ap, subst}
use Rattle.rr_claims.proofs.Puts.{unclaimed}
use Rattle.rr_claims.proofs.keeper.Keeper.grant.Goals as goal

pub add-requires : goal.add-requires
add-requires g c =
    let says = g.P.Says.says in let n = g.A.Named.number c.args.named.now in
    unclaimed says c.self.inside.shown.value c.self.inside.roster.puts n c.self.invariant
    (λ w h. c.requires.free w (subst (λ s. says s n w) (ap (λ k. k.state) c.self.view_is) h))
