use Rattle.std.proofs.Common.{◌≡◌, ◌≤◌, not, count_by, take}
use Rattle.rr_store.specs.Sending.{is_blocked_at}
use Rattle.rr_sending.proofs.request.open_count.Given as goal

-- the queues so far were counted
abbrev pub invariant-loop-server : goal.invariant-loop-server
invariant-loop-server g l =
    (l.count ≡ count_by (λ s. not (is_blocked_at l.overflow l.messages s.port.receiver)) (take l.server-index l.servers))
    × (l.count ≤ l.server-index)
