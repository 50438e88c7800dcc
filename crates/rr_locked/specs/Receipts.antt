-- The number of a receipt and of an opening, by which a ledger counts them.
use Rattle.std.specs.Prelude.{ℕ, ◌+◌, ◌⊎◌, List, [], ◌∷◌, ◌++◌}
use Rattle.std.proofs.Common.{inl, inr}
use Rattle.std.specs.Coded.{Coded, coded_ℕ, coded×, coded⊎}
use denote.Builtin.{u64}
use Rattle.rr_protocol.specs.declared.limits.Limits.{Limits}
use Rattle.rr_protocol.specs.Codes.{limits_code}
use Rattle.rr_protocol.specs.contracts.command.Command as command_type
use Rattle.rr_protocol.specs.contracts.reply.Reply as reply_type
use Rattle.rr_locked.specs.Numbers.{number}
use Rattle.rr_protocol.specs.contracts.no_handler.NoHandler as no_handler_type
use Rattle.rr_locked.specs.declared.receipt.Receipt.{Receipt}
use Rattle.rr_locked.specs.Machine.{HubCommand, HubReply, Entry}

abbrev pub receipt : ℕ → HubCommand → HubReply → Receipt
receipt place command reply = record { place = place; command = command; reply = reply }

-- limits and a node id, or an entry of the history with its place
abbrev pub Mark : Type 0
Mark = (Limits × ℕ) ⊎ (ℕ × Entry)

abbrev pub command_code : Coded HubCommand
command_code = (command_type.the_row u64 u64 no_handler_type.the_row).coded

abbrev pub reply_code : Coded HubReply
reply_code = (reply_type.the_row u64 u64).coded

abbrev pub mark_code : Coded Mark
mark_code = coded⊎ (coded× limits_code coded_ℕ) (coded× coded_ℕ (coded× command_code reply_code))

-- the number of an entry at a place
unfoldable pub entry_number : ℕ → HubCommand → HubReply → ℕ
entry_number place command reply = number mark_code (inr (place, (command, reply)))

-- the number of an opening
unfoldable pub opening_number : Limits → ℕ → ℕ
opening_number limits node_id = number mark_code (inl (limits, node_id))

-- the numbers of the entries of a history whose first entry is at this place
abbrev pub history_numbers : ℕ → List Entry → List ℕ
history_numbers place [] = []
history_numbers place (e ∷ es) = entry_number place e.0 e.1 ∷ history_numbers (place + 1) es

-- the numbers of receipts
abbrev pub receipt_numbers : List Receipt → List ℕ
receipt_numbers [] = []
receipt_numbers (r ∷ rs) = entry_number r.place r.command r.reply ∷ receipt_numbers rs

-- all receipts of all seats
abbrev pub joined : List (List Receipt) → List Receipt
joined [] = []
joined (rs ∷ rss) = rs ++ joined rss
