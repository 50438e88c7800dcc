use Rattle.std.proofs.Common.{◌≡◌, ◌≤◌, All, map, replicate}
use Rattle.std.specs.Prelude.{vec_len, vec_capacity}
use Rattle.rr_slots.specs.Pools.{written, nothing_written}
use Rattle.rr_slots.proofs.pool.bodies.Given as goal

-- the bodies so far, and room for all
abbrev pub invariant-loop : goal.invariant-loop
invariant-loop g l = record {
  written : map (written g.B.Body.asked_len g.B.Body.elements) l.bodies.items ≡ replicate l.counter (nothing_written l.room);
  roomy : All (λ b. l.room ≤ g.B.Body.room b) l.bodies.items;
  len : vec_len l.bodies ≡ l.counter;
  room : l.slots ≤ vec_capacity l.bodies;
}
