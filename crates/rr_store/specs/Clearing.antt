-- A channel's queues from all senders are emptied, and the parts of a core after a pending response was removed.
use Rattle.std.specs.Prelude.{◌≡◌, ◌<◌, ◌≤◌, ℕ, ◌-◌, Bool, true, false, List, [], length}
use Rattle.rr_sender.specs.Senders.{queue_cleared, with_queue}
use Rattle.rr_protocol.specs.Messages.{Handle, PendingResponse}
use Rattle.rr_store.specs.Loaning.{with_messages}
use Rattle.rr_store.specs.Parts.{Sender}
use Rattle.rr_store.specs.Views.{sender_of}

-- a request that was sent
abbrev pub is_pending_response : {Q QH P PH : Type 0} → Handle Q QH P PH → Bool
is_pending_response (PendingResponse p) = true
is_pending_response _ = false

-- a sender whose queue for a receiver on a channel is empty
abbrev pub with_empty_queue : {T N H : Type 0} → ℕ → ℕ → Sender T N H → Sender T N H
with_empty_queue receiver channel sender = with_messages sender (with_queue sender.messages receiver channel [])

-- and each slot is emptied whose last use that was
abbrev pub channel_cleared : {T N H : Type 0} → ℕ → ℕ → Sender T N H → Sender T N H
channel_cleared receiver channel sender = with_messages sender (queue_cleared sender.messages receiver channel)

-- the first senders are like that, and the others as they were
pub record IsClearedBelow {T N H : Type 0} (receiver channel n : ℕ) (before after : List (Sender T N H)) : Type 0
  where
    pub many : length after ≡ length before
    pub done : (l : ℕ) → l < n → l < length before
        → sender_of l after ≡ channel_cleared receiver channel (sender_of l before)
    pub rest : (l : ℕ) → n ≤ l → sender_of l after ≡ sender_of l before

-- a sender with one pending response less
abbrev pub without_pending : {T N H : Type 0} → Sender T N H → Sender T N H
without_pending l = record l { pendings = l.pendings - 1 }
