-- The fields of a core after the release of a response on loan, as parts.
use Rattle.std.proofs.Common.{◌≡◌, ◌<◌, ℕ, true, List, [], ◌∷◌, Option, Some, length, refl, sym, ap, ◌∙◌, subst, arith}
use Rattle.std.specs.Prelude.{IfSome, IsSomeAnd, slice_get, slice_index, slice_set}
use Rattle.std.specs.FinMap as fin_map
use Rattle.std.proofs.lemmas.Bool.{eq-eqb}
use Rattle.rr_table.specs.Maps.{mark}
use Rattle.rr_table.specs.TableView.{TableEntry, TableView, removed, value_at}
use Rattle.rr_table.specs.declared.place.Place.{Place}
use Rattle.rr_protocol.specs.State.{State, handle_at}
use Rattle.rr_store.specs.declared.handle_entry.HandleEntry.{HandleEntry}
use Rattle.rr_store.specs.declared.handle_entry.Stage.{Stage}
use Rattle.rr_store.specs.declared.handle_entry.Stage.TheVariants as stage
use Rattle.rr_store.specs.declared.details.ResponseDetails.{ResponseDetails}
use Rattle.rr_store.specs.Ending.{IsAskedPlace, IsLoanEnded, found_under}
use Rattle.rr_store.specs.Loaning as part
use Rattle.rr_store.specs.Parts.{ServerPart, Sender, Parts}
use Rattle.rr_store.specs.Views.{sender_of, handle_in, state_of}
use Rattle.rr_store.specs.Sound.{IsSoundStore, empty_hand, is_in_sender, is_response_loan, response_details}
use Rattle.rr_store.specs.Releasing.{IsHandleGone, is_loaned_response, held_once_less, without_loan}
use Rattle.rr_store.proofs.base.lists.Adding.{with_responders, same_responders}
use Rattle.rr_releasing.proofs.laws.response_loan.View.{response_loan_gone}
use Rattle.rr_releasing.proofs.laws.response_loan.Place.{asked_right}
use Rattle.rr_releasing.proofs.laws.response_loan.Taken.{ended, ended_well}
use Rattle.rr_store.proofs.base.hands.Hands.{count-cons, removed_sound}
use Rattle.rr_store.proofs.base.lookups.Looking.{table_entry_under}
use Rattle.rr_releasing.proofs.laws.View.{gone_as, removed_view}
use Rattle.rr_releasing.proofs.laws.request.Fields.{of_handle}
use Rattle.rr_releasing.proofs.laws.response.Sound.{response_there}
use Rattle.rr_store.proofs.base.hands.Stages.{response_loan_is_response}

module _ {Q QH P PH K : Type 0} (p : Parts Q QH P PH K) where
  -- contracts see a response on loan where its stage is one
  response_loan_stage : (g : Stage) (sender slot : ℕ) → is_loaned_response (handle_in p g sender slot) ≡ true → is_response_loan g ≡ true
  response_loan_stage stage.RequestMutUninit sender slot h = h
  response_loan_stage stage.RequestMut sender slot h = h
  response_loan_stage (stage.PendingResponse hint connections) sender slot h = h
  response_loan_stage (stage.ActiveRequest server loans) sender slot h = h
  response_loan_stage stage.ResponseMutUninit sender slot h = refl
  response_loan_stage stage.ResponseMut sender slot h = refl
  response_loan_stage stage.Response sender slot h = h

  -- the entry of a response on loan, and that its sender and slot are there
  pub record ResponseLoanFound (n : ℕ) (entry : HandleEntry) : Type 0 where
    pub table_entry : TableEntry HandleEntry
    pub at : fin_map.get p.table.entries n ≡ Some table_entry
    pub is : table_entry.value ≡ entry
    pub loan : is_response_loan table_entry.value.stage ≡ true
    pub sender : entry.sender < length p.server_senders
    pub slot : 0 < slice_index (sender_of entry.sender p.server_senders).messages.held entry.slot

  pub response_loan_found : IsSoundStore p empty_hand → (s : State Q QH P PH K) (n m : ℕ) → state_of p ≡ s → n ≡ m
      → IsSomeAnd (handle_at s m) (λ handle. is_loaned_response handle ≡ true)
      → (entry : HandleEntry) → value_at p.table n ≡ Some entry → ResponseLoanFound n entry
  response_loan_found sound s n m view same told entry h =
      let f = table_entry_under p.table n entry h in
      let stage = response_loan_stage entry.stage entry.sender entry.slot
      (of_handle p s n m view same (λ handle. is_loaned_response handle ≡ true) told entry h) in
      let loan : is_response_loan f.0.value.stage ≡ true = ap (λ (v : HandleEntry). is_response_loan v.stage) f.2 ∙ stage in
      let spot = response_there p sound n f.0 f.1 (response_loan_is_response f.0.value.stage loan) in
      record {
        table_entry = f.0;
        at = f.1;
        is = f.2;
        loan = loan;
        sender = subst (λ (v : HandleEntry). v.sender < length p.server_senders) f.2 spot.0;
        slot = subst (λ (v : HandleEntry). 0 < slice_index (sender_of v.sender p.server_senders).messages.held v.slot) f.2 spot.1;
      }

  module _ (sound : IsSoundStore p empty_hand) (k : ℕ) (entry : HandleEntry) (f : ResponseLoanFound k entry) (index : ℕ) (c : ServerPart K)
      (there : slice_get p.servers index ≡ Some c) (sends : c.sender ≡ entry.sender) where
    abbrev taken : Parts Q QH P PH K
    taken = record p { table = removed p.table k }

    pub loan_is : is_response_loan entry.stage ≡ true
    loan_is = ap (λ (h : HandleEntry). is_response_loan h.stage) (sym f.is) ∙ f.loan

    -- the response in hand
    pub taken_sound : IsSoundStore taken (entry ∷ [])
    taken_sound = subst (λ (h : HandleEntry). IsSoundStore taken (h ∷ [])) f.is (removed_sound p [] k f.table_entry f.at sound)

    -- its sender has it on loan
    pub has_loan : 0 < (sender_of entry.sender p.server_senders).loans
    has_loan =
        let here : is_in_sender is_response_loan entry.sender entry ≡ true = rw loan_is (eq-eqb entry.sender entry.sender refl) in
        omega (
          arith,
          taken_sound.stored.response_loans entry.sender f.sender,
          count-cons (is_in_sender is_response_loan entry.sender) entry [],
          ap mark here,
        )

    -- the parts without it
    pub response_loan_parts : (details : ResponseDetails) → response_details p entry.sender entry.slot ≡ details
        → (senders : List (Sender P ResponseDetails PH)) (table : TableView HandleEntry)
        → senders ≡ slice_set p.server_senders entry.sender (without_loan (part.with_messages (sender_of entry.sender p.server_senders)
        (held_once_less (sender_of entry.sender p.server_senders).messages entry.slot)))
        → (place : Option Place) → IfSome place (IsAskedPlace p.client_senders details c.receiver)
        → IsLoanEnded details.active_request (found_under (removed p.table k) details.active_request place) (removed p.table k) table
        → IsSoundStore (with_responders p senders table p.next) empty_hand
        × IsHandleGone (state_of p) k c.port.id (state_of (with_responders p senders table p.next))
    response_loan_parts details noted senders table ls place asked told =
        let R : ResponseDetails → Type 0 = λ n. IfSome place (IsAskedPlace p.client_senders n c.receiver)
        × IsLoanEnded n.active_request (found_under (removed p.table k) n.active_request place) (removed p.table k) table in
        let r = subst R (sym noted) (asked, told) in
        let e = ended_well taken entry taken_sound loan_is place
        (λ server loans t here is. asked_right taken entry taken_sound loan_is index c there sends server loans t here is place r.0) table
        r.1 in
        let same : with_responders p senders table p.next ≡ ended taken entry taken_sound loan_is table =
        same_responders p (ended taken entry taken_sound loan_is table) senders table p.next ls refl refl refl
        in
        let without : State Q QH P PH K = record (state_of p) { handles = fin_map.remove (state_of p).handles k } in
        let gone : IsHandleGone (state_of p) k c.port.id without = response_loan_gone p sound k f.table_entry f.at f.loan index c there (sends ∙ sym (ap (λ (h : HandleEntry). h.sender) f.is))
        (state_of p).responses in (
          subst (λ q. IsSoundStore q empty_hand) (sym same) e.0,
          gone_as (state_of p) without (state_of (with_responders p senders table p.next)) k c.port.id gone
              (ap state_of same ∙ e.1 ∙ removed_view p k),
        )
