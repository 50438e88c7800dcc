-- A response on loan leaves its place, its slot, and the counts of its server and of its active request.
use Rattle.std.proofs.Common.{[], ◌∷◌, ◌≡◌, ◌<◌, ℕ, true, Option, Some, length, refl, sym, ap, ◌∙◌, subst, arith}
use Rattle.std.specs.Prelude.{◌==◌, IfSome, IsSomeAnd, slice_index, slice_set}
use Rattle.std.specs.FinMap as fin_map
use Rattle.std.proofs.lemmas.List.{length-set}
use Rattle.rr_table.specs.TableView.{table_entry}
use Rattle.rr_table.specs.declared.place.Place.{Place}
use Rattle.rr_protocol.specs.State.{handle_at}
use Rattle.rr_sender.specs.Senders.{given_back}
use Rattle.rr_store.specs.declared.details.ResponseDetails.{ResponseDetails}
use Rattle.rr_store.specs.declared.handle_entry.HandleEntry.{HandleEntry}
use Rattle.rr_store.specs.Changes.{with_responses, with_server_sender_at, without_handle}
use Rattle.rr_store.specs.Loaning.{with_messages}
use Rattle.rr_store.specs.Emptying.{PartsEmptied}
use Rattle.rr_store.specs.Ending.{IsAskedPlace, IsLoanEnded, found_under}
use Rattle.rr_store.specs.Parts.{ServerPart, Parts, Sender}
use Rattle.rr_store.specs.Reaching.{IsCore}
use Rattle.rr_store.specs.Releasing.{IsHandleGone, held_once_less, is_loaned_response, without_loan}
use Rattle.rr_store.specs.Sound.{HasPort, IsSoundStore, empty_hand, response_details, is_response_loan}
use Rattle.rr_store.specs.Views.{no_sender, sender_of, state_of}
use Rattle.rr_store.proofs.base.frames.Emptied.{emptied_sound, emptied_view}
use Rattle.rr_store.proofs.base.senders.Emptied.{among_emptied, responses_emptied}
use Rattle.rr_store.proofs.base.lists.Replaced.{set_alike}
use Rattle.rr_store.proofs.base.lookups.Placed.{value_there}
use Rattle.rr_store.proofs.base.lookups.Shown.{held_within}
use Rattle.rr_store.proofs.base.senders.Owners.{First, port_of_sender, server_receiver, server_owner}
use Rattle.rr_store.proofs.base.senders.Stored.{stored_twice}
use Rattle.rr_releasing.proofs.laws.response_loan.Fields.{ResponseLoanFound, response_loan_found, has_loan, response_loan_parts}
use Rattle.rr_releasing.proofs.laws.View.{gone_as}

module _ {Q QH P PH K : Type 0} (p : Parts Q QH P PH K) (core : IsCore p) (n : ℕ) (place : Place) (entry : HandleEntry)
    (taken : fin_map.get p.table.entries n ≡ Some (table_entry place entry))
    (kind : IsSomeAnd (handle_at (state_of p) n) (λ handle. is_loaned_response handle ≡ true)) where
  found : ResponseLoanFound p n entry
  found = response_loan_found p core.sound (state_of p) n n refl refl kind entry (value_there p.table n place entry taken)

  server : First (λ (s : ServerPart K). s.sender) (λ (s : ServerPart K). s.sender == entry.sender) p.servers entry.sender
  server =
      port_of_sender (λ (s : ServerPart K). s.sender) p.servers entry.sender
      ((core.sound.have_ports.handles n (table_entry place entry) taken).response_loan
      (ap (λ (h : HandleEntry). is_response_loan h.stage) (sym found.is) ∙ found.loan))

  -- the sender without the hold of the response
  abbrev given : Sender P ResponseDetails PH
  given = with_messages (sender_of entry.sender p.server_senders) (held_once_less (sender_of entry.sender p.server_senders).messages entry.slot)

  -- and of which the slot is emptied if that was its last use
  abbrev left : Sender P ResponseDetails PH
  left = with_messages (sender_of entry.sender p.server_senders) (given_back (sender_of entry.sender p.server_senders).messages entry.slot)

  module _ (q : Parts Q QH P PH K) (gone : q ≡ without_handle p n) where
    pub sender_asked : entry.sender < length q.server_senders
    sender_asked = subst (λ (q : Parts Q QH P PH K). entry.sender < length q.server_senders) (sym gone) found.sender

    pub slot_asked : entry.slot < length (sender_of entry.sender q.server_senders).messages.held
    slot_asked =
        subst (λ (q : Parts Q QH P PH K). entry.slot < length (sender_of entry.sender q.server_senders).messages.held) (sym gone)
        (held_within (sender_of entry.sender p.server_senders).messages.held entry.slot found.slot)

    pub held_asked : 0 < slice_index (sender_of entry.sender q.server_senders).messages.held entry.slot
    held_asked = subst (λ (q : Parts Q QH P PH K). 0 < slice_index (sender_of entry.sender q.server_senders).messages.held entry.slot)
        (sym gone) found.slot

    module _ (details : ResponseDetails) (are : details ≡ response_details q entry.sender entry.slot)
        (r : Parts Q QH P PH K) (free : r ≡ with_responses q entry.sender (λ m. given_back m entry.slot)) where
      details_are : response_details p entry.sender entry.slot ≡ details
      details_are = sym (are ∙ ap (λ q. response_details q entry.sender entry.slot) gone)

      abbrev freed : Parts Q QH P PH K
      freed = with_responses (without_handle p n) entry.sender (λ m. given_back m entry.slot)

      r_is : r ≡ freed
      r_is = free ∙ ap (λ q. with_responses q entry.sender (λ m. given_back m entry.slot)) gone

      pub sender_still : entry.sender < length r.server_senders
      sender_still = subst (λ (r : Parts Q QH P PH K). entry.sender < length r.server_senders) (sym r_is)
          (omega (arith, found.sender, length-set p.server_senders entry.sender left))

      pub loan_asked : 0 < (sender_of entry.sender r.server_senders).loans
      loan_asked = subst (λ (r : Parts Q QH P PH K). 0 < (sender_of entry.sender r.server_senders).loans) (sym r_is) (omega (
        arith,
        has_loan p core.sound n entry found server.index server.it server.at server.is,
        set_alike p.server_senders entry.sender left no_sender (λ l. l.loans) refl entry.sender,
      ))

      module _ (receiver : ℕ) (s : Parts Q QH P PH K) (its : receiver ≡ (sender_of entry.sender r.server_senders).receiver)
          (counted : s ≡ with_server_sender_at r entry.sender without_loan) where
        abbrev loan_ended : Parts Q QH P PH K
        loan_ended = record (without_handle p n) { server_senders = slice_set p.server_senders entry.sender (without_loan left) }

        receiver_is : receiver ≡ server.it.receiver
        receiver_is = its ∙ ap (λ (r : Parts Q QH P PH K). (sender_of entry.sender r.server_senders).receiver) r_is
            ∙ set_alike p.server_senders entry.sender left no_sender (λ l. l.receiver) refl entry.sender
            ∙ server_receiver p empty_hand core.sound entry.sender server

        s_is : s ≡ loan_ended
        s_is = counted ∙ ap (λ r. with_server_sender_at r entry.sender without_loan) r_is
            ∙ ap (λ ls. record (without_handle p n) { server_senders = ls })
            (stored_twice p.server_senders entry.sender left without_loan found.sender)

        module _ (t : Parts Q QH P PH K) (rest : t ≡ record s { table = t.table })
            (ended : (at : Option Place) × IfSome at (IsAskedPlace s.client_senders details receiver)
            × IsLoanEnded details.active_request (found_under s.table details.active_request at) s.table t.table) where
          t_is : t ≡ record loan_ended { table = t.table }
          t_is = rest ∙ ap (λ (s : Parts Q QH P PH K). record s { table = t.table }) s_is

          -- where the slot is not emptied
          abbrev before : Parts Q QH P PH K
          before = record (without_handle p n) {
            table = t.table;
            server_senders = slice_set p.server_senders entry.sender (without_loan given);
          }

          both : IsSoundStore before empty_hand × IsHandleGone (state_of p) n server.it.port.id (state_of before)
          both =
              response_loan_parts p core.sound n entry found server.index server.it server.at server.is details details_are
              before.server_senders t.table refl ended.0
              (subst (λ x. IfSome ended.0 (IsAskedPlace p.client_senders details x)) receiver_is
              (subst (λ (s : Parts Q QH P PH K). IfSome ended.0 (IsAskedPlace s.client_senders details receiver)) s_is ended.1))
              (subst (λ (s : Parts Q QH P PH K). IsLoanEnded details.active_request
              (found_under s.table details.active_request ended.0) s.table
              t.table) s_is ended.2)

          emptied : PartsEmptied before (record loan_ended { table = t.table })
          emptied = responses_emptied (record (without_handle p n) { table = t.table }) p.server_senders entry.sender (without_loan given)
              (without_loan left) (record { rest = refl; messages = among_emptied (entry.slot ∷ []) given.messages })

          -- the server is as it was
          owner_is : (sender_of entry.sender t.server_senders).owner ≡ server.it.port.id
          owner_is = ap (λ (q : Parts Q QH P PH K). (sender_of entry.sender q.server_senders).owner) t_is
              ∙ set_alike p.server_senders entry.sender (without_loan left) no_sender (λ l. l.owner) refl entry.sender
              ∙ server_owner p empty_hand core.sound entry.sender server

          pub port_then : HasPort (λ (s : ServerPart K). s.sender) t.servers entry.sender
          port_then = subst (λ (q : Parts Q QH P PH K). HasPort (λ (s : ServerPart K). s.sender) q.servers entry.sender) (sym t_is)
              (server.index, server.it, server.at, server.is)

          pub sound_then : IsSoundStore t empty_hand
          sound_then = subst (λ q. IsSoundStore q empty_hand) (sym t_is)
              (emptied_sound before (record loan_ended { table = t.table }) emptied empty_hand both.0)

          -- contracts see the handle go
          pub gone_then : IsHandleGone (state_of p) n (sender_of entry.sender t.server_senders).owner (state_of t)
          gone_then =
              subst (λ port. IsHandleGone (state_of p) n port (state_of t)) (sym owner_is)
              (gone_as (state_of p) (state_of before) (state_of t) n server.it.port.id both.1
              (ap state_of t_is ∙ emptied_view before (record loan_ended { table = t.table }) emptied empty_hand both.0))
