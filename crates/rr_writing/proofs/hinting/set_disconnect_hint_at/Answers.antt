use Rattle.std.proofs.Common.{ap}
use Rattle.rr_store.specs.Opened.{opened}
use Rattle.rr_writing.proofs.steps.Hinting.{core_then, view_then}
use Rattle.rr_writing.proofs.hinting.set_disconnect_hint_at.Goals as goal

pub at-entry-requires : goal.at-entry-requires
at-entry-requires g c = c.requires.at

pub set_at-requires : goal.set_at-requires
set_at-requires g c = c.requires.at

pub returns-clause-core : goal.returns-clause-core
returns-clause-core g c =
    core_then (opened c.args.store.now) c.requires.core c.args.number c.args.place _ c.at-entry.ensures c.requires.kind _ c.hinted.ensures _
    (ap (λ t. opened (record c.args.store.now { table = t })) c.set_at.ensures)

pub returns-clause-view : goal.returns-clause-view
returns-clause-view g c =
    view_then (opened c.args.store.now) c.requires.core c.args.number c.args.place _ c.at-entry.ensures c.requires.kind _ c.hinted.ensures _
    (ap (λ t. opened (record c.args.store.now { table = t })) c.set_at.ensures)
