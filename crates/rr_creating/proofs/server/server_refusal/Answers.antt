use Rattle.std.proofs.Common.{rules}
use Rattle.rr_creating.proofs.steps.Refusals.{server_allowed, server_too_large}
use Rattle.rr_creating.proofs.server.server_refusal.Goals as goal

pub returns-in-Some : goal.returns-in-Some
returns-in-Some g c =
    server_allowed c.args.store.now c.args.settings.now c.if-store-ge-NUMBERS.false c.port_count.result c.port_count.ensures
    c.if-store-port_count.false c.max.result c.max.ensures c.in-Some.field-0 (search rules) c.in-Some.ensures.some

pub returns-in-None : goal.returns-in-None
returns-in-None g c =
    server_too_large c.args.store.now c.args.settings.now c.if-store-ge-NUMBERS.false c.port_count.result c.port_count.ensures
    c.if-store-port_count.false c.max.result c.max.ensures c.in-None.ensures.none
