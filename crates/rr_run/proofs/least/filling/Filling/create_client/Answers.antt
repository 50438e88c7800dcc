use Rattle.std.proofs.Common.{Some, subst}
use Rattle.rr_protocol.specs.declared.command.Command.{Command}
use Rattle.rr_run.specs.declared.least.outcome.Outcome.TheVariants.{Created}
use Rattle.rr_run.specs.Filled.{Does}
use Rattle.rr_run.proofs.PoolSteps.{client_begins}
use Rattle.rr_run.proofs.least.filling.Filling.create_client.Goals as goal

-- all settings but the pool are the defaults
pub returns-in-Created-clause-filled : goal.returns-in-Created-clause-filled
returns-in-Created-clause-filled c =
    let pool = c.args.self.now.pool in
    let done = subst (Does c.args.self.now c.note.new.self _) c.in-Created.is c.in_ok-note.ensures.step in
    client_begins c.args.self.now c.note.new.self c.requires c.note.ensures.hub c.note.ensures.live c.in-Created.field-0
    (subst (λ settings. Does c.args.self.now c.note.new.self (Command.CreateClient (record settings { pool = Some pool })) (Created c.in-Created.field-0))
    c.default.ensures done)
