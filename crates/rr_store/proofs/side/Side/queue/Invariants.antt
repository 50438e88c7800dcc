use Rattle.std.proofs.Common.{◌≡◌, ◌+◌, ◌*◌, drop, length, map}
use Rattle.rr_store.specs.Sending.{IsPutting, with_marks}
use Rattle.rr_store.proofs.side.Side.queue.Given as goal

-- what remains to be put completes the queues, what remains to be set completes the row of marks, which is as long as it was, and
-- nothing else of the sender has changed
abbrev pub invariant-loop-server : goal.invariant-loop-server
invariant-loop-server g l =
    IsPutting l.overflow l.slot l.initial.owned.messages l.owned.messages l.servers l.server-index
    × (with_marks l.owned.may_answer.items (map (λ s. (l.slot * l.receivers + s.port.receiver, s.port.id)) (drop l.server-index l.servers))
    ≡ with_marks l.initial.owned.may_answer.items (map (λ s. (l.slot * l.receivers + s.port.receiver, s.port.id)) l.servers))
    × (length l.owned.may_answer.items ≡ length l.initial.owned.may_answer.items)
    × (l.owned ≡ record l.initial.owned { messages = l.owned.messages; may_answer = l.owned.may_answer })
