use Rattle.std.proofs.Common.{sym, ◌∙◌}
use Rattle.rr_creating.proofs.steps.Making.{core_then, view_then}
use Rattle.rr_creating.proofs.making.new_store.Goals as goal

pub returns-in-None-clause-core : goal.returns-in-None-clause-core
returns-in-None-clause-core g c =
    core_then c.args.limits (sym c.refusal.ensures ∙ c.in-None.is) c.args.node_id.0 _ c.start.ensures

pub returns-in-None-clause-view : goal.returns-in-None-clause-view
returns-in-None-clause-view g c =
    let fits = sym c.refusal.ensures ∙ c.in-None.is in
    (fits, view_then c.args.limits fits c.args.node_id.0 _ c.start.ensures)
