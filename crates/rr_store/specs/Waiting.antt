-- Whether a message waits for a receiver.
use Rattle.std.specs.Prelude.{ℕ, Bool, List, length, nat_lt}
use Rattle.std.specs.List.{list_any}
use Rattle.rr_sender.specs.Senders.{queue_at}
use Rattle.rr_store.specs.Parts.{Sender}

-- whether the queue from some sender to a receiver's channel has an entry
abbrev pub has_entry : {T N H : Type 0} → ℕ → ℕ → List (Sender T N H) → Bool
has_entry receiver channel senders = list_any (λ l. nat_lt 0 (length (queue_at l.messages receiver channel))) senders
