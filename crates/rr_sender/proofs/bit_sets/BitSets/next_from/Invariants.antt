use Rattle.std.proofs.Common.{◌≡◌, ℕ, ◌/◌, ◌<◌, ◌≤◌}
use Rattle.rr_sender.specs.BitSets.{has}
use Rattle.rr_sender.proofs.bit_sets.BitSets.next_from.Given as goal

-- none of the words so far has a number from the one on that is asked for
abbrev pub invariant-loop-index : goal.invariant-loop-index
invariant-loop-index l = (m : ℕ) → l.from ≤ m → m / 64 < l.index → has l.self l.set m ≡ 0
