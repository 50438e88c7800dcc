use Rattle.std.proofs.Common.{◌≡◌, ◌≤◌}
use Rattle.std.specs.Prelude.{vec_len, vec_capacity}
use Rattle.rr_slots.specs.Threads.{all_free}
use Rattle.rr_slots.proofs.slot.free_slots.Given as goal

-- the slots so far, and room for all
abbrev pub invariant-loop-slot : goal.invariant-loop-slot
invariant-loop-slot l = record {
  items : l.free.items ≡ all_free l.slot;
  len : vec_len l.free ≡ l.slot;
  room : l.slots ≤ vec_capacity l.free;
}
