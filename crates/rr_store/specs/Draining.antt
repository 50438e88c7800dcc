-- Some queues of senders lose all their entries when a port leaves, and the contents of their slots may be dropped.
use Rattle.std.specs.Prelude.{◌≡◌, ◌<◌, ℕ, Bool, List, Some, length, slice_get}
use Rattle.rr_sender.specs.Draining.{MessagesDrained}
use Rattle.rr_store.specs.declared.port.LeftPort.{LeftPort}
use Rattle.rr_store.specs.Parts.{Sender}
use Rattle.rr_store.specs.Views.{sender_of}

-- a sender of which the queues to some receivers lost all their entries
pub record SenderDrained {T N H : Type 0} (cut : ℕ → Bool) (before after : Sender T N H) : Type 0 where
  pub rest : after ≡ record before { messages = after.messages }
  pub messages : MessagesDrained cut before.messages after.messages

-- senders of which the queues from some to some receivers did
pub record SendersDrained {T N H : Type 0} (cut : ℕ → ℕ → Bool) (before after : List (Sender T N H)) : Type 0 where
  pub many : length after ≡ length before
  pub each : (sender : ℕ) → SenderDrained (cut sender) (sender_of sender before) (sender_of sender after)

module _ {T N H : Type 0} (senders : List (Sender T N H)) where
  -- each sender has queues to a receiver
  abbrev pub HaveQueues : ℕ → Type 0
  HaveQueues receiver = (l : ℕ) → l < length senders → receiver < length (sender_of l senders).messages.queues

  -- each port that left has a sender
  abbrev pub AreThere : List LeftPort → Type 0
  AreThere left = (i : ℕ) (l : LeftPort) → slice_get left i ≡ Some l → l.sender < length senders

-- no two elements have one number
abbrev pub AreApart : {X : Type 0} → (X → ℕ) → List X → Type 0
AreApart {X} read xs =
    (i j : ℕ) (x y : X) → slice_get xs i ≡ Some x → slice_get xs j ≡ Some y → read x ≡ read y → i ≡ j
