use Rattle.rr_run.proofs.Pools.{noted_result, full_result}
use Rattle.rr_run.proofs.least.filling.Filling.carry_out.Goals as goal

pub returns-clause-noted : goal.returns-clause-noted
returns-clause-noted c =
    noted_result c.args.self.now c.note.new.self c.requires.noted c.note.ensures.hub c.args.command c.requires.later c.note.result c.note.ensures.step

pub returns-clause-full : goal.returns-clause-full
returns-clause-full c =
    full_result c.args.self.now c.note.new.self c.requires.noted c.note.ensures.hub c.args.command c.note.result c.note.ensures.step
