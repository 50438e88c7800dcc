use Rattle.std.proofs.Common.{ℕ, length}
use Rattle.rr_sender.specs.Senders.{queue_at}
use Rattle.rr_store.specs.Ports.{sender_part}
use Rattle.rr_store.specs.Skimming.{SkimsSender}
use Rattle.rr_store.proofs.side.skimming.skim_sender.Given as goal

-- so many requests left the front so far
abbrev pub invariant-loop-slot : goal.invariant-loop-slot
invariant-loop-slot g l = (n : ℕ) × SkimsSender l.table l.receiver n (sender_part l.fn.sender) (sender_part l.sender)

abbrev pub decreases-loop-slot : goal.decreases-loop-slot
decreases-loop-slot g l = length (queue_at l.sender.messages l.receiver 0)
