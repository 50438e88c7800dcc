use Rattle.std.proofs.Common.{◌≡◌, [], replicate}
use Rattle.circular_buffer.specs.Buffer.{buffer}
use Rattle.rr_slots.proofs.connection.empty_queues.Given as goal

-- the queues so far are empty
abbrev pub invariant-loop-made : goal.invariant-loop-made
invariant-loop-made l = l.queues.items ≡ replicate l.made (buffer [] l.capacity)
