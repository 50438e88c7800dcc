-- The effect of each call of a store on its parts.
use Rattle.std.specs.Prelude.{ℕ, ◌+◌, ◌&&◌, ◌||◌, Bool, true, List, [], ◌∷◌, ◌++◌, length, not, if◌then◌else◌, Option, Some, None, drop, nat_le, map, slice_set}
use Rattle.std.specs.List.{list_any, remove}
use Rattle.rr_table.specs.declared.place.Place.{Place}
use Rattle.rr_table.specs.TableView.{TableView, inserted, removed, with_row}
use Rattle.rr_sender.specs.Senders.{Messages, queue_at, taken}
use Rattle.rr_protocol.specs.Backpressure.{discards}
use Rattle.rr_protocol.specs.declared.settings.BackpressureAction.{BackpressureAction}
use Rattle.rr_protocol.specs.declared.error.LoanError.{LoanError}
use Rattle.rr_protocol.specs.declared.error.RequestSendError.{RequestSendError}
use Rattle.rr_protocol.specs.declared.error.SendError.{SendError}
use Rattle.rr_protocol.specs.Limits.{max_loaned_responses}
use Rattle.rr_protocol.specs.Loans.{is_too_long}
use Rattle.rr_protocol.specs.declared.settings.ClientSettings.{ClientSettings}
use Rattle.rr_protocol.specs.declared.settings.ServerSettings.{ServerSettings}
use Rattle.rr_store.specs.declared.details.RequestDetails.{RequestDetails}
use Rattle.rr_store.specs.declared.details.ResponseDetails.{ResponseDetails}
use Rattle.rr_store.specs.declared.handle_entry.HandleEntry.{HandleEntry}
use Rattle.rr_store.specs.Clearing.{channel_cleared}
use Rattle.rr_store.specs.Creating.{client_port, left_at, server_port}
use Rattle.rr_store.specs.Loaning.{with_messages, with_sender_at}
use Rattle.rr_store.specs.Parts.{Parts, ClientPart, ServerPart, Sender}
use Rattle.rr_store.specs.Sending.{after_queued, is_blocked_at}
use Rattle.rr_store.specs.Views.{sender_of}

module _ {Q QH P PH K : Type 0} (p : Parts Q QH P PH K) where
  -- with a handle under a number, in a place
  abbrev pub with_handle : ℕ → Place → HandleEntry → Parts Q QH P PH K
  with_handle n place entry = record p { table = inserted p.table n place entry }

  -- with a handle under the next number, in a place
  abbrev pub with_new_handle : Place → HandleEntry → Parts Q QH P PH K
  with_new_handle place entry = record p { next = p.next + 1; table = inserted p.table p.next place entry }

  -- without the handle under a number
  abbrev pub without_handle : ℕ → Parts Q QH P PH K
  without_handle n = record p { table = removed p.table n }

  -- with the messages of a client's sender changed
  abbrev pub with_requests : ℕ → (Messages Q RequestDetails QH → Messages Q RequestDetails QH) → Parts Q QH P PH K
  with_requests sender change =
      record p {
        client_senders =
            slice_set p.client_senders sender (with_messages (sender_of sender p.client_senders)
            (change (sender_of sender p.client_senders).messages));
      }

  -- with the messages of a server's sender changed
  abbrev pub with_responses : ℕ → (Messages P ResponseDetails PH → Messages P ResponseDetails PH) → Parts Q QH P PH K
  with_responses sender change =
      record p {
        server_senders =
            slice_set p.server_senders sender (with_messages (sender_of sender p.server_senders)
            (change (sender_of sender p.server_senders).messages));
      }

  -- with another client at an index
  abbrev pub with_client_at : ℕ → ClientPart K → Parts Q QH P PH K
  with_client_at index client = record p { clients = slice_set p.clients index client }

  -- with a client's sender changed, or a server's
  abbrev pub with_client_sender_at : ℕ → (Sender Q RequestDetails QH → Sender Q RequestDetails QH) → Parts Q QH P PH K
  with_client_sender_at sender change = record p { client_senders = with_sender_at p.client_senders sender change }

  abbrev pub with_server_sender_at : ℕ → (Sender P ResponseDetails PH → Sender P ResponseDetails PH)
      → Parts Q QH P PH K
  with_server_sender_at sender change = record p { server_senders = with_sender_at p.server_senders sender change }

  -- with nothing in the queues from all servers to a client's channel
  abbrev pub with_channel_cleared : ℕ → ℕ → Parts Q QH P PH K
  with_channel_cleared receiver channel =
      record p { server_senders = map (channel_cleared receiver channel) p.server_senders }

  -- the first reason of the client's own that refuses a loan of a request of this length
  abbrev pub request_loan_limit : ClientPart K → ℕ → Option LoanError
  request_loan_limit c len =
      if is_too_long c.port len then Some LoanError.ExceedsMaxLoanSize
      else if nat_le p.limits.max_loaned_requests (sender_of c.sender p.client_senders).loans then Some
      LoanError.ExceedsMaxLoans
      else None

  -- the same for a server and a response from an active request that has this many on loan
  abbrev pub response_loan_limit : ServerPart K → ℕ → ℕ → Option LoanError
  response_loan_limit s len loans =
      if is_too_long s.port len then Some LoanError.ExceedsMaxLoanSize
      else if nat_le s.max_loaned_responses_per_request loans || nat_le s.max_loaned_responses
      (sender_of s.sender p.server_senders).loans then Some LoanError.ExceedsMaxLoans
      else None

  -- whether the queue from a client's sender to a server is full and may not overflow
  abbrev pub is_closed_to : ℕ → ServerPart K → Bool
  is_closed_to sender s =
      is_blocked_at p.limits.enable_safe_overflow_for_requests (sender_of sender p.client_senders).messages s.receiver

  -- whether it takes one more entry
  abbrev pub is_open_to : ℕ → ServerPart K → Bool
  is_open_to sender s = not (is_closed_to sender s)

  -- the first reason of a client that refuses one more request from its sender
  abbrev pub request_send_limit : (K → ℕ → ℕ → BackpressureAction) → ClientPart K → ℕ → Option RequestSendError
  request_send_limit action c sender =
      if nat_le p.limits.max_active_requests_per_client (sender_of sender p.client_senders).pendings then Some
      RequestSendError.ExceedsMaxActiveRequests
      else if list_any (λ s. is_closed_to sender s && not (discards action c.port s.port.id)) p.servers then Some
      (RequestSendError.SendError SendError.UnableToDeliver)
      else None

  -- with a request in the queues to all connected servers, which may answer it
  abbrev pub with_request_queued : ℕ → ℕ → Parts Q QH P PH K
  with_request_queued sender slot =
      with_client_sender_at sender (after_queued p.limits.enable_safe_overflow_for_requests p.limits.max_servers slot
      p.servers)

  -- with other senders of clients
  abbrev pub with_request_senders : List (Sender Q RequestDetails QH) → Parts Q QH P PH K
  with_request_senders senders = record p { client_senders = senders }

  -- with the oldest request of a queue, in this slot, taken out of it; and with the oldest response
  abbrev pub with_first_request_taken : ℕ → ℕ → ℕ → Parts Q QH P PH K
  with_first_request_taken sender receiver slot =
      with_requests sender (λ m. taken m receiver 0 slot (drop 1 (queue_at m receiver 0)))

  abbrev pub with_first_response_taken : ℕ → ℕ → ℕ → ℕ → Parts Q QH P PH K
  with_first_response_taken sender receiver channel slot =
      with_responses sender (λ m. taken m receiver channel slot (drop 1 (queue_at m receiver channel)))

  -- with a client under the next number, with this many slots and this receiver
  abbrev pub with_new_client : ClientSettings K → ℕ → ℕ → Messages Q RequestDetails QH → List ℕ → ℕ
      → Parts Q QH P PH K
  with_new_client settings slots receiver messages marks row_len =
      record p {
        next = p.next + 1;
        clients =
            p.clients ++ record {
              connected = record {
                port = record (client_port p settings) { pool_size = slots };
                sender = length p.client_senders;
                receiver = receiver;
              };
              loans_made = 0;
            } ∷ [];
        client_senders =
            p.client_senders ++ record {
              owner = p.next;
              row = length p.table.rows;
              receiver = receiver;
              has_value = true;
              loans = 0;
              pendings = 0;
              may_answer = marks;
              messages = messages;
            } ∷ [];
        table = with_row p.table row_len;
      }

  -- with a server under the next number, which may have this many responses on loan for each request
  abbrev pub with_new_server : ServerSettings K → ℕ → ℕ → ℕ → Messages P ResponseDetails PH → Parts Q QH P PH K
  with_new_server settings loans slots receiver messages =
      record p {
        next = p.next + 1;
        servers =
            p.servers ++ record {
              connected = record {
                port = record (server_port p settings) { pool_size = slots };
                sender = length p.server_senders;
                receiver = receiver;
              };
              max_loaned_responses_per_request = loans;
              max_loaned_responses = max_loaned_responses p.limits loans;
            } ∷ [];
        server_senders =
            p.server_senders ++ record {
              owner = p.next;
              row = length p.table.rows;
              receiver = receiver;
              has_value = true;
              loans = 0;
              pendings = 0;
              may_answer = [];
              messages = messages;
            } ∷ [];
        table = with_row p.table slots;
      }

  -- with a client under the next number that reuses the sender of the client at an index of those that left
  abbrev pub with_client_again : ClientSettings K → ℕ → ℕ → Messages Q RequestDetails QH → List ℕ → ℕ
      → TableView HandleEntry → Parts Q QH P PH K
  with_client_again settings slots receiver messages marks index table =
      let sender = (left_at index p.left_clients).sender in
      record p {
        next = p.next + 1;
        clients =
            p.clients ++ record {
              connected = record
                  { port = record (client_port p settings) { pool_size = slots }; sender = sender; receiver = receiver };
              loans_made = 0;
            } ∷ [];
        client_senders =
            slice_set p.client_senders sender (record {
              owner = p.next;
              row = (sender_of sender p.client_senders).row;
              receiver = receiver;
              has_value = true;
              loans = 0;
              pendings = 0;
              may_answer = marks;
              messages = messages;
            });
        left_clients = remove p.left_clients index;
        table = table;
      }

  -- with a server under the next number that reuses the sender of the server at an index of those that left
  abbrev pub with_server_again : ServerSettings K → ℕ → ℕ → ℕ → Messages P ResponseDetails PH → ℕ
      → TableView HandleEntry → Parts Q QH P PH K
  with_server_again settings loans slots receiver messages index table =
      let sender = (left_at index p.left_servers).sender in
      record p {
        next = p.next + 1;
        servers =
            p.servers ++ record {
              connected = record
                  { port = record (server_port p settings) { pool_size = slots }; sender = sender; receiver = receiver };
              max_loaned_responses_per_request = loans;
              max_loaned_responses = max_loaned_responses p.limits loans;
            } ∷
            [];
        server_senders =
            slice_set p.server_senders sender (record {
              owner = p.next;
              row = (sender_of sender p.server_senders).row;
              receiver = receiver;
              has_value = true;
              loans = 0;
              pendings = 0;
              may_answer = [];
              messages = messages;
            });
        left_servers = remove p.left_servers index;
        table = table;
      }
