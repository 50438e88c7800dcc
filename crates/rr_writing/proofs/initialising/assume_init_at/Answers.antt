use Rattle.std.proofs.Common.{ap}
use Rattle.rr_store.specs.Opened.{opened}
use Rattle.rr_writing.proofs.steps.Initialising.{core_then, uninit_asked, view_then}
use Rattle.rr_writing.proofs.initialising.assume_init_at.Goals as goal

pub at-entry-requires : goal.at-entry-requires
at-entry-requires g c = c.requires.at

pub set_at-requires : goal.set_at-requires
set_at-requires g c = c.requires.at

pub initialised-requires : goal.initialised-requires
initialised-requires g c =
    uninit_asked (opened c.args.store.now) c.args.number c.args.place _ c.at-entry.ensures c.requires.uninit

pub returns-clause-core : goal.returns-clause-core
returns-clause-core g c =
    core_then (opened c.args.store.now) c.args.number c.args.place _ c.at-entry.ensures _ c.initialised.ensures _ (ap (λ t. opened
    (record c.args.store.now { table = t })) c.set_at.ensures) c.requires.core
    (uninit_asked (opened c.args.store.now) c.args.number c.args.place _ c.at-entry.ensures c.requires.uninit) c.requires.complete

pub returns-clause-view : goal.returns-clause-view
returns-clause-view g c =
    view_then (opened c.args.store.now) c.args.number c.args.place _ c.at-entry.ensures _ c.initialised.ensures _ (ap (λ t. opened
    (record c.args.store.now { table = t })) c.set_at.ensures)
