-- The queue that a response would reach is looked at.
use Rattle.std.proofs.Common.{◌≡◌, ◌<◌, ℕ, Bool, Option, Some, length, refl, sym, ap, ◌∙◌, subst}
use Rattle.std.specs.Prelude.{◌==◌, IsSomeAnd, not, option_and_then}
use Rattle.std.specs.FinMap as fin_map
use Rattle.rr_table.specs.TableView.{table_entry, value_at}
use Rattle.rr_table.specs.declared.place.Place.{Place}
use Rattle.rr_protocol.specs.declared.kind.Kind.{Kind}
use Rattle.rr_protocol.specs.Messages.{Handle, ResponseMessage, ResponseMut, as_response_mut}
use Rattle.rr_protocol.specs.Queries.{kind_at}
use Rattle.rr_protocol.specs.Sends.{is_response_deliverable}
use Rattle.rr_protocol.specs.State.{handle_at, response_at}
use Rattle.rr_store.specs.declared.details.ResponseDetails.{ResponseDetails}
use Rattle.rr_store.specs.declared.handle_entry.HandleEntry.{HandleEntry}
use Rattle.rr_store.specs.Delivering.{HasQueue, is_blocked_in, reached}
use Rattle.rr_store.specs.Kinds.{stage_kind}
use Rattle.rr_store.specs.Parts.{Parts, ServerPart}
use Rattle.rr_store.specs.Reaching.{IsCore}
use Rattle.rr_store.specs.Sound.{is_response_loan, response_details}
use Rattle.rr_store.specs.Views.{handle_in, response_at as stored_at, sender_of, state_of}
use Rattle.rr_store.proofs.base.lookups.Looking.{shown}
use Rattle.rr_store.proofs.base.lookups.Placed.{value_there}
use Rattle.rr_store.proofs.base.lookups.Shown.{held_within}
use Rattle.rr_store.proofs.base.senders.Owners.{First, port_of_sender}
use Rattle.rr_store.proofs.querying.Connected.{of_kind}
use Rattle.rr_releasing.proofs.laws.response_loan.Fields.{ResponseLoanFound, response_loan_found}
use Rattle.rr_sending.proofs.laws.response.Fields as fields

module _ {Q QH P PH K : Type 0} (p : Parts Q QH P PH K) (core : IsCore p) (n : ℕ) (place : Place) (entry : HandleEntry)
    (at : fin_map.get p.table.entries n ≡ Some (table_entry place entry))
    (kind : kind_at (state_of p) n ≡ Some Kind.ResponseMut) where
  -- the handle is under its number
  here : value_at p.table n ≡ Some entry
  here = value_there p.table n place entry at

  -- it is of a response that can be sent
  kind_is : stage_kind entry.stage ≡ Kind.ResponseMut
  kind_is = of_kind p (state_of p) n n refl refl Kind.ResponseMut (λ e. cc) (λ e. cc) kind entry here

  found : ResponseLoanFound p n entry
  found = response_loan_found p core.sound (state_of p) n n refl refl (fields.loaned_kind (state_of p) n kind) entry here

  -- the server that sends from its sender
  server : First (λ (s : ServerPart K). s.sender) (λ (s : ServerPart K). s.sender == entry.sender) p.servers entry.sender
  server =
      port_of_sender (λ (s : ServerPart K). s.sender) p.servers entry.sender
      ((core.sound.have_ports.handles n (table_entry place entry) at).response_loan
      (ap (λ (h : HandleEntry). is_response_loan h.stage) (sym found.is) ∙ found.loan))

  pub sender_asked : entry.sender < length p.server_senders
  sender_asked = found.sender

  pub slot_asked : entry.slot < length (sender_of entry.sender p.server_senders).messages.held
  slot_asked = held_within (sender_of entry.sender p.server_senders).messages.held entry.slot found.slot

  -- the response that contracts see
  seen : handle_at (state_of p) n ≡ Some (ResponseMut (stored_at p entry.sender entry.slot))
  seen = shown p n entry here ∙ ap (λ g. Some (handle_in p g entry.sender entry.slot)) (fields.mut_stage entry.stage kind_is)

  module _ (details : ResponseDetails) (are : details ≡ response_details p entry.sender entry.slot) (reach : Option ℕ)
      (reaches : reach ≡ reached p.client_senders p.table details) where
    -- the queue that is reached is there
    pub queue_asked : HasQueue (sender_of entry.sender p.server_senders).messages details.channel reach
    queue_asked =
        fields.queue_asked p core.sound n entry found server.index server.it server.at server.is details (sym are) reach reaches

    -- what it tells
    pub told_then : (told : Bool) → told ≡ not (is_blocked_in (sender_of entry.sender p.server_senders).messages
        p.limits.enable_safe_overflow_for_responses details.channel reach)
        → IsSomeAnd (response_at (state_of p) n) (λ m. told ≡ is_response_deliverable (state_of p) m)
    told_then told tells =
        subst (λ (o : Option (Handle Q QH P PH)). IsSomeAnd (option_and_then as_response_mut o)
        (λ (m : ResponseMessage P PH). told ≡ is_response_deliverable (state_of p) m)) (sym seen)
        (tells ∙ fields.deliverable_then p core.sound n entry found server.index server.it server.at server.is details (sym are) reach
        reaches)
