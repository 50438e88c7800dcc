use Rattle.std.proofs.Common.{◌≡◌, drop, take}
use Rattle.rr_sender.specs.Senders.{emptied_among, queue_at, with_queue}
use Rattle.rr_sender.proofs.sender.Sender.clear_queue.Given as goal

-- so many of the oldest entries are dropped
abbrev pub invariant-loop : goal.invariant-loop
invariant-loop g l = l.self ≡ emptied_among (take l.counter (queue_at l.fn.self l.receiver l.channel))
    (with_queue l.fn.self l.receiver l.channel (drop l.counter (queue_at l.fn.self l.receiver l.channel)))
