-- The parts of a core after a loan.
use Rattle.std.specs.Prelude.{ℕ, ◌+◌, List, slice_set}
use Rattle.rr_table.specs.TableView.{inserted}
use Rattle.rr_table.specs.declared.place.Place.{Place}
use Rattle.rr_sender.specs.Senders.{Messages, loaned}
use Rattle.rr_store.specs.declared.handle_entry.HandleEntry.{HandleEntry}
use Rattle.rr_store.specs.declared.handle_entry.Stage.TheVariants as stage
use Rattle.rr_store.specs.declared.details.RequestDetails.{RequestDetails}
use Rattle.rr_store.specs.Parts.{ClientPart, Sender, Parts}
use Rattle.rr_store.specs.Views.{sender_of}

module _ {K : Type 0} where
  -- a client that made one more loan
  abbrev pub with_loan_made : ClientPart K → ClientPart K
  with_loan_made c = record c { loans_made = c.loans_made + 1 }

module _ {T N H : Type 0} where
  -- a sender with other messages
  abbrev pub with_messages : Sender T N H → Messages T N H → Sender T N H
  with_messages l m = record l { messages = m }

  -- a sender with one message more on loan
  abbrev pub with_one_loan : Sender T N H → Sender T N H
  with_one_loan l = record l { loans = l.loans + 1 }

  -- senders of which the one at an index changed
  abbrev pub with_sender_at : List (Sender T N H) → ℕ → (Sender T N H → Sender T N H) → List (Sender T N H)
  with_sender_at senders sender change = slice_set senders sender (change (sender_of sender senders))

module _ {Q QH P PH K : Type 0} (p : Parts Q QH P PH K) where
  -- the details of a request that a client loans
  abbrev pub loan_details : ClientPart K → RequestDetails
  loan_details c = record { number = p.next; client = c.port.id; request_id = c.loans_made }

  -- the handle of a request on loan
  abbrev pub loan_held : ClientPart K → ℕ → HandleEntry
  loan_held c slot = record { stage = stage.RequestMutUninit; sender = c.sender; slot = slot }

  -- the place of the handle
  abbrev pub loan_place : ClientPart K → ℕ → Place
  loan_place c slot = record { row = (sender_of c.sender p.client_senders).row; index = slot }

  -- the client at an index loaned a request in this slot, which has no handle yet
  abbrev pub with_loan_in_hand : ℕ → ClientPart K → ℕ → ℕ → QH → Parts Q QH P PH K
  with_loan_in_hand index c slot len header =
      record p {
        next = p.next + 1;
        clients = slice_set p.clients index (with_loan_made c);
        client_senders = slice_set p.client_senders c.sender
            (with_one_loan (with_messages (sender_of c.sender p.client_senders)
            (loaned (sender_of c.sender p.client_senders).messages slot len (loan_details c) header)));
      }

  -- and has one
  abbrev pub with_request_loan : ℕ → ClientPart K → ℕ → ℕ → QH → Parts Q QH P PH K
  with_request_loan index c slot len header =
      let q = with_loan_in_hand index c slot len header in record q
      { table = inserted p.table p.next (loan_place c slot) (loan_held c slot) }
