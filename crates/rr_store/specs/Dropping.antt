-- Further changes when a handle in hand is dropped: its message has one holder less, and the stored counts of it are
-- decremented.
use Rattle.std.specs.Prelude.{◌≡◌, ◌≤◌, ◌<◌, ℕ, ◌+◌, List, [], length, Some, slice_get, slice_index, false}
use Rattle.std.specs.FinMap as fin_map
use Rattle.rr_table.specs.Maps.{mark}
use Rattle.rr_table.specs.TableView.{TableEntry}
use Rattle.rr_sender.specs.Senders.{times, all_entries, queue_at, borrowed_at}
use Rattle.rr_store.specs.declared.handle_entry.HandleEntry.{HandleEntry}
use Rattle.rr_store.specs.declared.handle_entry.Stage.TheVariants as stage
use Rattle.rr_store.specs.declared.details.RequestDetails.{RequestDetails}
use Rattle.rr_store.specs.declared.details.ResponseDetails.{ResponseDetails}
use Rattle.rr_store.specs.Parts.{ClientPart, Sender, Parts}
use Rattle.rr_store.specs.Views.{sender_of}
use Rattle.rr_store.specs.Sound.{is_request_loan, is_pending, is_active_of, is_response_loan, is_request_at, is_response_at, is_in_sender, is_loan_from, is_received_at, server_place}
use Rattle.rr_store.specs.Frames.{SameFrame}

-- ports and senders after a handle was dropped: no message comes, and each count has one less exactly if the handle
-- was counted in it
pub record IsDropped {Q QH P PH K : Type 0} (p : Parts Q QH P PH K) (entry : HandleEntry)
    (client_senders : List (Sender Q RequestDetails QH))
    (server_senders : List (Sender P ResponseDetails PH)) : Type 0 where
  pub frame : SameFrame p p.clients client_senders server_senders p.next
  pub requests_held : (l i : ℕ) → slice_index (sender_of l client_senders).messages.held i + mark
      (is_request_at l i entry) ≡ slice_index (sender_of l p.client_senders).messages.held i
  pub responses_held : (l i : ℕ) → slice_index (sender_of l server_senders).messages.held i + mark
      (is_response_at l i entry) ≡ slice_index (sender_of l p.server_senders).messages.held i
  pub all_request_details : (l : ℕ) → (sender_of l client_senders).messages.details
      ≡ (sender_of l p.client_senders).messages.details
  pub all_response_details : (l : ℕ) → (sender_of l server_senders).messages.details
      ≡ (sender_of l p.server_senders).messages.details
  pub requests_wait : (l : ℕ) → (sender_of l client_senders).messages.queues
      ≡ (sender_of l p.client_senders).messages.queues
  pub responses_used : (l i : ℕ) → times i (all_entries (sender_of l server_senders).messages.queues)
      ≤ times i (all_entries (sender_of l p.server_senders).messages.queues)
  pub responses_wait : (l receiver channel i : ℕ)
      → times i (queue_at (sender_of l server_senders).messages receiver channel)
      ≤ times i (queue_at (sender_of l p.server_senders).messages receiver channel)
  pub responses_none : (l receiver channel : ℕ)
      → queue_at (sender_of l p.server_senders).messages receiver channel ≡ []
      → queue_at (sender_of l server_senders).messages receiver channel ≡ []
  pub requests_borrowed : (l receiver channel : ℕ)
      → borrowed_at (sender_of l client_senders).messages receiver channel
      ≤ borrowed_at (sender_of l p.client_senders).messages receiver channel
  pub responses_borrowed : (l receiver channel : ℕ)
      → borrowed_at (sender_of l server_senders).messages receiver channel
      ≤ borrowed_at (sender_of l p.server_senders).messages receiver channel
  pub marks : (l : ℕ) → (sender_of l client_senders).may_answer ≡ (sender_of l p.client_senders).may_answer
  pub request_loans : (l : ℕ) → (sender_of l client_senders).loans + mark (is_in_sender is_request_loan l entry)
      ≡ (sender_of l p.client_senders).loans
  pub pendings : (l : ℕ) → (sender_of l client_senders).pendings + mark (is_in_sender is_pending l entry)
      ≡ (sender_of l p.client_senders).pendings
  pub response_loans : (l : ℕ) → (sender_of l server_senders).loans + mark (is_in_sender is_response_loan l entry)
      ≡ (sender_of l p.server_senders).loans
  pub loans_from : (k server loans : ℕ) (s : TableEntry HandleEntry) → fin_map.get p.table.entries k ≡ Some s
      → s.value.stage ≡ stage.ActiveRequest server loans → is_loan_from p k entry ≡ false
  pub request_borrows : (l server : ℕ) → l < length p.client_senders →
      borrowed_at (sender_of l client_senders).messages (server_place p server) 0 + mark
      (is_in_sender (is_active_of server) l entry)
      ≡ borrowed_at (sender_of l p.client_senders).messages (server_place p server) 0
  pub response_borrows : (l i channel : ℕ) (c : ClientPart K) → l < length p.server_senders
      → slice_get p.clients i ≡ Some c →
      borrowed_at (sender_of l server_senders).messages c.receiver channel + mark
      (is_received_at p l c.port.id channel entry)
      ≡ borrowed_at (sender_of l p.server_senders).messages c.receiver channel
