use Rattle.std.proofs.Common.{ap, ◌∙◌}
use Rattle.rr_slots.proofs.Queues.{sound-empty, queues-empty}
use Rattle.rr_slots.specs.Connections.{entries, queues_of}
use Rattle.rr_slots.proofs.connection.Connection.new.Goals as goal

pub invariant_of-result : goal.invariant_of-result
invariant_of-result c = rw c.in_ok-queues.ensures (sound-empty c.args.channels c.args.capacity)

pub returns : goal.returns
returns c = ap (λ q. entries q c.args.capacity) (ap queues_of c.in_ok-queues.ensures ∙ queues-empty c.args.channels c.args.capacity)
