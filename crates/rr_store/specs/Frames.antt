-- The parts that changes of messages and handles leave alone: the ports, the sizes of their senders, and the rows of
-- the table.
use Rattle.std.specs.Prelude.{◌≡◌, ◌≤◌, ℕ, List, length, map}
use Rattle.std.specs.Ordering.{nat_cmp}
use Rattle.std.specs.FinMap as fin_map
use Rattle.rr_table.specs.TableView.{TableEntry}
use Rattle.rr_store.specs.declared.handle_entry.HandleEntry.{HandleEntry}
use Rattle.rr_store.specs.declared.details.RequestDetails.{RequestDetails}
use Rattle.rr_store.specs.declared.details.ResponseDetails.{ResponseDetails}
use Rattle.rr_store.specs.Parts.{ClientPart, Sender, Parts}
use Rattle.rr_store.specs.Views.{sender_of}
use Rattle.rr_store.specs.Sound.{IsShaped}

-- a sender of the same port and of the same size
pub record SenderAlike {T N H : Type 0} (before after : Sender T N H) : Type 0 where
  pub owner : after.owner ≡ before.owner
  pub row : after.row ≡ before.row
  pub receiver : after.receiver ≡ before.receiver
  pub has_value : after.has_value ≡ before.has_value
  pub slots : length after.messages.held ≡ length before.messages.held
  pub room : after.messages.room ≡ before.messages.room
  pub marks : length after.may_answer ≡ length before.may_answer
  pub shaped : (receivers channels capacity : ℕ) → IsShaped receivers channels capacity before.messages
      → IsShaped receivers channels capacity after.messages

-- as many senders, each alike
pub record SendersAlike {T N H : Type 0} (before after : List (Sender T N H)) : Type 0 where
  pub many : length after ≡ length before
  pub each : (sender : ℕ) → SenderAlike (sender_of sender before) (sender_of sender after)

module _ {Q QH P PH K : Type 0} where
  -- a core in which some of these changed
  abbrev pub moved : Parts Q QH P PH K → List (ClientPart K) → List (Sender Q RequestDetails QH)
      → List (Sender P ResponseDetails PH) → fin_map.FinMap nat_cmp (TableEntry HandleEntry) → ℕ → Parts Q QH P PH K
  moved p clients client_senders server_senders entries next =
      record p {
        next = next;
        clients = clients;
        client_senders = client_senders;
        server_senders = server_senders;
        table = record { entries = entries; rows = p.table.rows };
      }

  -- the ports and senders are as many and of the same sizes
  pub record SameFrame (p : Parts Q QH P PH K) (clients : List (ClientPart K))
      (client_senders : List (Sender Q RequestDetails QH)) (server_senders : List (Sender P ResponseDetails PH))
      (next : ℕ) : Type 0 where
    pub clients_alike : map (λ c. c.connected) clients ≡ map (λ c. c.connected) p.clients
    pub client_senders_alike : SendersAlike p.client_senders client_senders
    pub server_senders_alike : SendersAlike p.server_senders server_senders
    pub numbers : p.next ≤ next
