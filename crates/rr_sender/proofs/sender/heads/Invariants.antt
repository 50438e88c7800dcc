use Rattle.std.proofs.Common.{◌≡◌, ◌≤◌, map, replicate}
use Rattle.std.specs.Prelude.{vec_len, vec_capacity}
use Rattle.rr_sender.proofs.sender.heads.Given as goal

-- the heads so far, and room for all
abbrev pub invariant-loop : goal.invariant-loop
invariant-loop g l = record {
  details : map (λ head. head.details) l.heads.items ≡ replicate l.counter l.details;
  len : vec_len l.heads ≡ l.counter;
  room : l.slots ≤ vec_capacity l.heads;
}
