-- A request on loan leaves its place, its slot and its client's count.
use Rattle.std.proofs.Common.{[], ◌∷◌, ◌≡◌, ◌<◌, ℕ, true, Some, length, refl, sym, ap, ◌∙◌, subst, arith}
use Rattle.std.specs.Prelude.{◌==◌, IsSomeAnd, slice_index, slice_set}
use Rattle.std.specs.FinMap as fin_map
use Rattle.std.proofs.lemmas.List.{length-set}
use Rattle.rr_table.specs.TableView.{table_entry}
use Rattle.rr_table.specs.declared.place.Place.{Place}
use Rattle.rr_protocol.specs.State.{handle_at}
use Rattle.rr_sender.specs.Senders.{given_back}
use Rattle.rr_store.specs.declared.details.RequestDetails.{RequestDetails}
use Rattle.rr_store.specs.declared.handle_entry.HandleEntry.{HandleEntry}
use Rattle.rr_store.specs.Changes.{with_client_sender_at, with_requests, without_handle}
use Rattle.rr_store.specs.Loaning.{with_messages}
use Rattle.rr_store.specs.Emptying.{PartsEmptied}
use Rattle.rr_store.specs.Parts.{ClientPart, Parts, Sender}
use Rattle.rr_store.specs.Reaching.{IsCore}
use Rattle.rr_store.specs.Releasing.{IsHandleGone, held_once_less, is_loaned_request, without_loan}
use Rattle.rr_store.specs.Sound.{HasPort, IsSoundStore, empty_hand, is_request_loan}
use Rattle.rr_store.specs.Views.{no_sender, sender_of, state_of}
use Rattle.rr_store.proofs.base.frames.Emptied.{emptied_sound, emptied_view}
use Rattle.rr_store.proofs.base.senders.Emptied.{among_emptied, requests_emptied}
use Rattle.rr_store.proofs.base.lists.Replaced.{set_alike}
use Rattle.rr_store.proofs.base.lookups.Placed.{value_there}
use Rattle.rr_store.proofs.base.senders.Owners.{First, port_of_sender, client_owner}
use Rattle.rr_store.proofs.base.senders.Stored.{stored_twice}
use Rattle.rr_releasing.proofs.laws.request.Fields.{LoanFound, loan_found}
use Rattle.rr_releasing.proofs.laws.request.Sound.{after_loan, has_loan, released_sound, released_view}
use Rattle.rr_releasing.proofs.laws.View.{gone_as}

module _ {Q QH P PH K : Type 0} (p : Parts Q QH P PH K) (core : IsCore p) (n : ℕ) (place : Place) (entry : HandleEntry)
    (taken : fin_map.get p.table.entries n ≡ Some (table_entry place entry))
    (kind : IsSomeAnd (handle_at (state_of p) n) (λ handle. is_loaned_request handle ≡ true)) where
  found : LoanFound p n entry
  found = loan_found p core.sound (state_of p) n n refl refl kind entry (value_there p.table n place entry taken)

  client : First (λ (c : ClientPart K). c.sender) (λ (c : ClientPart K). c.sender == entry.sender) p.clients entry.sender
  client =
      port_of_sender (λ (c : ClientPart K). c.sender) p.clients entry.sender
      ((core.sound.have_ports.handles n (table_entry place entry) taken).request_loan
      (ap (λ (h : HandleEntry). is_request_loan h.stage) (sym found.is) ∙ found.loan))

  sends : client.it.sender ≡ found.table_entry.value.sender
  sends = client.is ∙ sym (ap (λ (h : HandleEntry). h.sender) found.is)

  -- the sender without the hold of a handle
  abbrev given : HandleEntry → Sender Q RequestDetails QH
  given h = with_messages (sender_of h.sender p.client_senders) (held_once_less (sender_of h.sender p.client_senders).messages h.slot)

  -- and of which the slot is emptied if that was its last use
  abbrev left : Sender Q RequestDetails QH
  left = with_messages (sender_of entry.sender p.client_senders) (given_back (sender_of entry.sender p.client_senders).messages entry.slot)

  -- the sender has the request on loan
  on_loan : 0 < (sender_of entry.sender p.client_senders).loans
  on_loan = subst (λ (h : HandleEntry). 0 < (sender_of h.sender p.client_senders).loans) found.is
      (has_loan p core.sound n found.table_entry found.at found.loan client.index client.it client.at sends)

  module _ (q : Parts Q QH P PH K) (gone : q ≡ without_handle p n) where
    pub sender_asked : entry.sender < length q.client_senders
    sender_asked = subst (λ (q : Parts Q QH P PH K). entry.sender < length q.client_senders) (sym gone) found.sender

    pub slot_asked : 0 < slice_index (sender_of entry.sender q.client_senders).messages.held entry.slot
    slot_asked = subst (λ (q : Parts Q QH P PH K). 0 < slice_index (sender_of entry.sender q.client_senders).messages.held entry.slot)
        (sym gone) found.slot

    module _ (r : Parts Q QH P PH K) (freed : r ≡ with_requests q entry.sender (λ m. given_back m entry.slot)) where
      steps : r ≡ with_requests (without_handle p n) entry.sender (λ m. given_back m entry.slot)
      steps = freed ∙ ap (λ q. with_requests q entry.sender (λ m. given_back m entry.slot)) gone

      pub sender_still : entry.sender < length r.client_senders
      sender_still = subst (λ (r : Parts Q QH P PH K). entry.sender < length r.client_senders) (sym steps)
          (omega (arith, found.sender, length-set p.client_senders entry.sender left))

      pub loan_asked : 0 < (sender_of entry.sender r.client_senders).loans
      loan_asked = subst (λ (r : Parts Q QH P PH K). 0 < (sender_of entry.sender r.client_senders).loans) (sym steps)
          (omega (arith, on_loan, set_alike p.client_senders entry.sender left no_sender (λ l. l.loans) refl entry.sender))

      module _ (t : Parts Q QH P PH K) (ended : t ≡ with_client_sender_at r entry.sender without_loan) where
        -- where the slot is not emptied
        abbrev before : Parts Q QH P PH K
        before = record (without_handle p n) {
          client_senders = slice_set p.client_senders entry.sender (without_loan (given entry));
        }

        before_is : before ≡ after_loan p core.sound n found.table_entry found.at found.loan client.index client.it client.at sends
        before_is = ap (λ (h : HandleEntry). record (without_handle p n) {
          client_senders = slice_set p.client_senders h.sender (without_loan (given h));
        }) (sym found.is)

        before_sound : IsSoundStore before empty_hand
        before_sound = subst (λ q. IsSoundStore q empty_hand) (sym before_is)
            (released_sound p core.sound n found.table_entry found.at found.loan client.index client.it client.at sends)

        -- and where it may be
        abbrev after : Parts Q QH P PH K
        after = record (without_handle p n) { client_senders = slice_set p.client_senders entry.sender (without_loan left) }

        after_is : t ≡ after
        after_is = ended ∙ ap (λ r. with_client_sender_at r entry.sender without_loan) steps
            ∙ ap (λ ls. record (without_handle p n) { client_senders = ls })
            (stored_twice p.client_senders entry.sender left without_loan found.sender)

        emptied : PartsEmptied before after
        emptied = requests_emptied (without_handle p n) p.client_senders entry.sender (without_loan (given entry)) (without_loan left)
            (record { rest = refl; messages = among_emptied (entry.slot ∷ []) (given entry).messages })

        -- the client is as it was
        owner_is : (sender_of entry.sender t.client_senders).owner ≡ client.it.port.id
        owner_is = ap (λ (q : Parts Q QH P PH K). (sender_of entry.sender q.client_senders).owner) after_is
            ∙ set_alike p.client_senders entry.sender (without_loan left) no_sender (λ l. l.owner) refl entry.sender
            ∙ client_owner p empty_hand core.sound entry.sender client

        pub port_then : HasPort (λ (c : ClientPart K). c.sender) t.clients entry.sender
        port_then = subst (λ (q : Parts Q QH P PH K). HasPort (λ (c : ClientPart K). c.sender) q.clients entry.sender) (sym after_is)
            (client.index, client.it, client.at, client.is)

        pub sound_then : IsSoundStore t empty_hand
        sound_then = subst (λ q. IsSoundStore q empty_hand) (sym after_is) (emptied_sound before after emptied empty_hand before_sound)

        -- contracts see the handle go
        pub gone_then : IsHandleGone (state_of p) n (sender_of entry.sender t.client_senders).owner (state_of t)
        gone_then =
            subst (λ port. IsHandleGone (state_of p) n port (state_of t)) (sym owner_is)
            (gone_as (state_of p)
            (state_of (after_loan p core.sound n found.table_entry found.at found.loan client.index client.it client.at sends))
            (state_of t) n client.it.port.id
            (released_view p core.sound n found.table_entry found.at found.loan client.index client.it client.at sends)
            (ap state_of after_is ∙ emptied_view before after emptied empty_hand before_sound ∙ ap state_of before_is))
