use Rattle.std.proofs.Common.{sym, subst}
use Rattle.rr_laws.specs.Unreduced.{ServerHasPool}
use Rattle.rr_store.specs.Sound.{empty_hand}
use Rattle.rr_store.specs.Views.{state_of}
use Rattle.rr_store.specs.Opened.{opened}
use Rattle.rr_hub.proofs.laws.NextNumber.{next_names_nothing}
use Rattle.rr_hub.proofs.Unnamed.{by_response}
use Rattle.rr_hub.proofs.state.Core.loan_response.Goals as goal

pub returns-then-is_place_of-clause-unreduced : goal.returns-then-is_place_of-clause-unreduced
returns-then-is_place_of-clause-unreduced g c pool same =
    c.loan_response_at.ensures.unreduced
    (rw c.number-then-is_place_of.ensures (subst (λ s. ServerHasPool s.limits s c.args.active.now c.args.len) (sym c.self.view_is) pool))
    same

pub returns-then-is_place_of-clause-unnamed : goal.returns-then-is_place_of-clause-unnamed
returns-then-is_place_of-clause-unnamed g c =
    rw (← c.self.view_is) (by_response (state_of (opened c.self.inside.parts))
    (next_names_nothing (opened c.self.inside.parts) empty_hand c.self.invariant.sound) g.PH.Default.is_default _ c.args.len _ _
    c.loan_response_at.ensures.loans)

pub returns-else-is_place_of-clause-unreduced : goal.returns-else-is_place_of-clause-unreduced
returns-else-is_place_of-clause-unreduced g c pool same =
    c.loan_response_at-else-is_place_of.ensures.unreduced
    (rw c.number-else-is_place_of.ensures (subst (λ s. ServerHasPool s.limits s c.args.active.now c.args.len) (sym c.self.view_is)
    pool)) same

pub returns-else-is_place_of-clause-unnamed : goal.returns-else-is_place_of-clause-unnamed
returns-else-is_place_of-clause-unnamed g c =
    rw (← c.self.view_is) (by_response (state_of (opened c.self.inside.parts))
    (next_names_nothing (opened c.self.inside.parts) empty_hand c.self.invariant.sound) g.PH.Default.is_default _ c.args.len _ _
    c.loan_response_at-else-is_place_of.ensures.loans)
