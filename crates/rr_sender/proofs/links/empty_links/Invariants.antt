use Rattle.std.proofs.Common.{◌≡◌, ◌≤◌, All, length, replicate}
use Rattle.std.specs.Prelude.{vec_len, vec_capacity}
use Rattle.rr_slots.specs.Connections.{no_entries}
use Rattle.rr_sender.proofs.links.empty_links.Given as goal

-- the links so far, and room for all
abbrev pub invariant-loop : goal.invariant-loop
invariant-loop l = record {
  connections : All (λ link. link.connection ≡ no_entries l.channels l.capacity) l.links.items;
  borrowed : All (λ link. link.borrowed.items ≡ replicate l.channels 0) l.links.items;
  items : length l.links.items ≡ l.counter;
  len : vec_len l.links ≡ l.counter;
  room : l.receivers ≤ vec_capacity l.links;
}
