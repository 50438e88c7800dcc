use Rattle.std.proofs.Common.{Some, ap, ◌∙◌}
use Rattle.std.proofs.lemmas.Option.{slice_get-get_or}
use Rattle.rr_slots.proofs.HolderLaws.{first_within_holders, first_is_free}
use Rattle.rr_slots.proofs.holders.Holders.first_free.Goals as goal

pub returns-clause-free : goal.returns-clause-free
returns-clause-free c = rw (← c.self.view_is) (slice_get-get_or _ _ 1 (first_within_holders _ _ _ c.self.invariant c.if-self-eq0.false)
    ∙ ap Some (first_is_free _ _ _ c.self.invariant c.if-self-eq0.false))
