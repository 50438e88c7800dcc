use Rattle.std.proofs.Common.{sym, ◌∙◌}
use Rattle.rr_store.proofs.base.lookups.Placed.{found_at}
use Rattle.rr_store.proofs.store.handles.end_loan_from.Goals as goal

pub at-entry-requires : goal.at-entry-requires
at-entry-requires c = found_at c.args.table.now c.args.number c.in-Some-find.place (sym c.find.ensures ∙ c.in-Some-find.is)
