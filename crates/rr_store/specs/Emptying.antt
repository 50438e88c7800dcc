-- Facts that stay true when unused slots lose their contents: everything else is unchanged.
use Rattle.std.specs.Prelude.{◌≡◌, ◌<◌, ℕ, List, length}
use Rattle.rr_sender.specs.Senders.{Messages, content_at, uses}
use Rattle.rr_store.specs.Parts.{Sender, Parts}
use Rattle.rr_store.specs.Views.{sender_of}

-- the contents of the slots in use are unchanged, and so is everything else
pub record MessagesEmptied {T N H : Type 0} (before after : Messages T N H) : Type 0 where
  pub rest : after ≡ record before { contents = after.contents }
  pub many : length after.contents ≡ length before.contents
  pub used : (slot : ℕ) → 0 < uses before slot → content_at after slot ≡ content_at before slot

-- in a sender
pub record SenderEmptied {T N H : Type 0} (before after : Sender T N H) : Type 0 where
  pub rest : after ≡ record before { messages = after.messages }
  pub messages : MessagesEmptied before.messages after.messages

-- in each sender
pub record SendersEmptied {T N H : Type 0} (before after : List (Sender T N H)) : Type 0 where
  pub many : length after ≡ length before
  pub each : (sender : ℕ) → SenderEmptied (sender_of sender before) (sender_of sender after)

-- in the senders of a core
pub record PartsEmptied {Q QH P PH K : Type 0} (before after : Parts Q QH P PH K) : Type 0 where
  pub rest : after ≡ record before { client_senders = after.client_senders; server_senders = after.server_senders }
  pub client_senders : SendersEmptied before.client_senders after.client_senders
  pub server_senders : SendersEmptied before.server_senders after.server_senders
