use Rattle.std.proofs.Common.{◌≡◌, ◌∙◌, ◌++◌}
use Rattle.rr_shared_ports.proofs.Words.{IfErr, Ok, [], ap, append-nil, refl, rules, subst, after_release, empty_hub, FindsOver, Finishes, MakesCall, state_after, over_after, goes_on, ends_as}
use Rattle.rr_shared_ports.proofs.typed.exchange.Claimed+N+PendingResponse+QB.finish_since.Goals as goal

pub loop-init : goal.loop-init
loop-init g c = (search rules, search rules, refl, ([], append-nil c.args.seat.now.1), refl)

pub loop-preserved : goal.loop-preserved
loop-preserved g c = (
  search rules,
  search rules,
  ap (λ seat. seat.0) c.finish.ensures.2 ∙ c.loop.invariant.2,
  goes_on _ _ _ _ _ c.finish.ensures.2 c.loop.invariant.3,
  (subst (λ r. Finishes (state_after (empty_hub g.N.Naming.limits g.N.Naming.node_id) (c.loop.seat.1 ++ c.finish.ensures.0)) c.loop.pending r c.finish.ensures.1) c.in-Err.is c.finish.ensures.4).0 ∙ c.loop.invariant.4,
)

pub returns-in-Ok-clause-seen : goal.returns-in-Ok-clause-seen
returns-in-Ok-clause-seen g c = goes_on _ _ _ _ _ c.finish.ensures.2 c.loop.invariant.3

pub returns-in-Err-after-clause-seen : goal.returns-in-Err-after-clause-seen
returns-in-Err-after-clause-seen g c = goes_on _ _ _ _ _ c.release.ensures.2 (goes_on _ _ _ _ _ c.finish.ensures.2 c.loop.invariant.3)

-- the finish is the last call
pub returns-in-Ok-clause-call : goal.returns-in-Ok-clause-call
returns-in-Ok-clause-call g c =
    ends_as (empty_hub g.N.Naming.limits g.N.Naming.node_id) (λ result before after. Finishes before c.args.self result after) c.finish.result (Ok c.in-Ok.value) c.loop.seat c.finish.new.seat c.in-Ok.is
    (subst (λ n. MakesCall (empty_hub g.N.Naming.limits g.N.Naming.node_id) (λ before after. Finishes before n c.finish.result after) c.loop.seat c.finish.new.seat) c.loop.invariant.4 c.finish.ensures)

-- or one that found nothing comes before the release
pub returns-in-Err-after-clause-call : goal.returns-in-Err-after-clause-call
returns-in-Err-after-clause-call g c =
    over_after (empty_hub g.N.Naming.limits g.N.Naming.node_id) (λ before after. after ≡ after_release before c.in-Err.refused.message) c.args.self c.finish.result c.in-Err.refused c.in-Err-after.over c.loop.seat c.finish.new.seat c.release.new.seat c.in-Err.is (subst (λ r. IfErr r (λ over. FindsOver over c.in-Err.refused.error)) c.in-Err-after.is c.after.ensures)
    (subst (λ n. MakesCall (empty_hub g.N.Naming.limits g.N.Naming.node_id) (λ before after. Finishes before n c.finish.result after) c.loop.seat c.finish.new.seat) c.loop.invariant.4 c.finish.ensures)
    c.release.ensures
