-- The parts of a core after a response was loaned, and which active request it is loaned from.
use Rattle.std.specs.Prelude.{ℕ, ◌+◌, ◌==◌, List, Option, Some, None, option_and_then, slice_set}
use Rattle.std.specs.List.{position}
use Rattle.rr_table.specs.TableView.{inserted}
use Rattle.rr_table.specs.declared.place.Place.{Place}
use Rattle.rr_sender.specs.Senders.{loaned}
use Rattle.rr_store.specs.declared.handle_entry.HandleEntry.{HandleEntry}
use Rattle.rr_store.specs.declared.handle_entry.Stage.{Stage}
use Rattle.rr_store.specs.declared.handle_entry.Stage.TheVariants as stage
use Rattle.rr_store.specs.declared.details.RequestDetails.{RequestDetails}
use Rattle.rr_store.specs.declared.details.ResponseDetails.{ResponseDetails}
use Rattle.rr_store.specs.declared.port.ServerPort.{ServerPort}
use Rattle.rr_store.specs.Loaning.{with_messages, with_one_loan}
use Rattle.rr_store.specs.Parts.{ServerPart, Parts}
use Rattle.rr_store.specs.Sound.{request_details}
use Rattle.rr_store.specs.Views.{sender_of}

-- the server of an active request, and how many responses it has on loan from it
abbrev pub active_in : Stage → Option (ℕ × ℕ)
active_in (stage.ActiveRequest server loans) = Some (server, loans)
active_in _ = None

-- the handle of a server's active request with this many responses on loan
abbrev pub active_entry : ℕ → ℕ → ℕ → ℕ → HandleEntry
active_entry server sender slot loans =
    record { stage = stage.ActiveRequest server loans; sender = sender; slot = slot }

module _ {K : Type 0} where
  -- the index of an active request's server
  abbrev pub server_index : List (ServerPort K) → HandleEntry → Option ℕ
  server_index servers entry = option_and_then (λ a. position (λ s. s.port.id == a.0) servers) (active_in entry.stage)

-- the handle of a response on loan
abbrev pub response_loan_held : {K : Type 0} → ServerPart K → ℕ → HandleEntry
response_loan_held c slot = record { stage = stage.ResponseMutUninit; sender = c.sender; slot = slot }

-- the details of a response with a number: its server, the active request that it is loaned from, and the sender, the
-- number and the slot of that one's request
abbrev pub response_loan_details_of : ℕ → ℕ → ℕ → RequestDetails → ℕ → ℕ → ResponseDetails
response_loan_details_of server n sender request slot number =
    record {
      number = number;
      server = server;
      active_request = n;
      request = request.number;
      request_id = request.request_id;
      client = request.client;
      client_sender = sender;
      channel = slot;
    }

module _ {Q QH P PH K : Type 0} (p : Parts Q QH P PH K) where
  -- the details of a response that a server loans from an active request, whose request is in this sender and slot
  abbrev pub response_loan_details : ServerPart K → ℕ → ℕ → ℕ → ResponseDetails
  response_loan_details c n sender slot =
      response_loan_details_of c.port.id n sender (request_details p sender slot) slot p.next

  -- the place of the response's handle
  abbrev pub response_loan_place : ServerPart K → ℕ → Place
  response_loan_place c slot = record { row = (sender_of c.sender p.server_senders).row; index = slot }

  -- a server loaned a response in a slot, with these details; it has no handle yet
  abbrev pub with_response_loan_in_hand : ServerPart K → ResponseDetails → ℕ → ℕ → PH → Parts Q QH P PH K
  with_response_loan_in_hand c details slot len header =
      record p {
        next = p.next + 1;
        server_senders = slice_set p.server_senders c.sender
            (with_one_loan (with_messages (sender_of c.sender p.server_senders)
            (loaned (sender_of c.sender p.server_senders).messages slot len details header)));
      }

  -- and has one, and the active request counts it
  abbrev pub with_response_loan : ServerPart K → ℕ → Place → HandleEntry → ResponseDetails → ℕ → ℕ → PH
      → Parts Q QH P PH K
  with_response_loan c n place active details slot len header =
      let q = with_response_loan_in_hand c details slot len header in record q {
        table = inserted (inserted p.table n place active) p.next (response_loan_place c slot)
            (response_loan_held c slot);
      }
