-- The fields of a core after a release, as parts.
use Rattle.std.proofs.Common.{◌≡◌, ◌<◌, ℕ, true, List, Some, length, map, refl, sym, ap, ◌∙◌, subst}
use Rattle.std.specs.Prelude.{IsSomeAnd, slice_get, slice_index}
use Rattle.std.specs.FinMap as fin_map
use Rattle.rr_table.specs.TableView.{TableEntry, value_at}
use Rattle.rr_protocol.specs.Messages.{Handle}
use Rattle.rr_protocol.specs.State.{State, handle_at}
use Rattle.rr_store.specs.declared.handle_entry.HandleEntry.{HandleEntry}
use Rattle.rr_store.specs.declared.handle_entry.Stage.{Stage}
use Rattle.rr_store.specs.declared.handle_entry.Stage.TheVariants as stage
use Rattle.rr_store.specs.declared.port.OwnedSender.{OwnedSender}
use Rattle.rr_store.specs.Ports.{sender_part}
use Rattle.rr_store.specs.Parts.{Sender, Parts}
use Rattle.rr_store.specs.Views.{sender_of, handle_in, state_of}
use Rattle.rr_store.specs.Sound.{IsSoundStore, empty_hand, is_request_loan}
use Rattle.rr_store.specs.Releasing.{is_loaned_request}
use Rattle.rr_store.proofs.base.lookups.Looking.{table_entry_under}
use Rattle.rr_store.proofs.base.lookups.Stands.{request_there}
use Rattle.rr_store.proofs.base.lookups.Shown.{shown_there}
use Rattle.rr_store.proofs.base.hands.Stages.{loan_is_request}
use Rattle.rr_store.proofs.writing.View.{stored_sender}

module _ {B N H T : Type 0} (senders : List (OwnedSender B N H T)) (l : ℕ) (there : l < length (map sender_part senders)) where
  -- what is asked of the sender at an index
  pub sender_asked : (R : OwnedSender B N H T → Type 0) (S : Sender T N H → Type 0) → ((x : OwnedSender B N H T) → S (sender_part x) → R x)
      → S (sender_of l (map sender_part senders)) → IsSomeAnd (slice_get senders l) R
  sender_asked R S each s =
      let x = stored_sender senders l there in
      subst (λ o. IsSomeAnd o R) (sym x.1) (each x.0 (subst S (sym x.2) s))

module _ {Q QH P PH K : Type 0} (p : Parts Q QH P PH K) where
  -- contracts see a request on loan where its stage is one
  loaned_stage : (g : Stage) (sender slot : ℕ) → is_loaned_request (handle_in p g sender slot) ≡ true → is_request_loan g ≡ true
  loaned_stage stage.RequestMutUninit sender slot h = refl
  loaned_stage stage.RequestMut sender slot h = refl
  loaned_stage (stage.PendingResponse hint connections) sender slot h = h
  loaned_stage (stage.ActiveRequest server loans) sender slot h = h
  loaned_stage stage.ResponseMutUninit sender slot h = h
  loaned_stage stage.ResponseMut sender slot h = h
  loaned_stage stage.Response sender slot h = h

  module _ (s : State Q QH P PH K) (n m : ℕ) (view : state_of p ≡ s) (same : n ≡ m) (R : Handle Q QH P PH → Type 0)
      (told : IsSomeAnd (handle_at s m) R) where
    -- what is asked of the handle under a number
    pub of_handle : (entry : HandleEntry) → value_at p.table n ≡ Some entry → R (handle_in p entry.stage entry.sender entry.slot)
    of_handle entry h = subst (λ o. IsSomeAnd o R) (shown_there p s n m view same entry h) told

  -- the entry of a request on loan, and that its sender and slot are there
  pub record LoanFound (n : ℕ) (entry : HandleEntry) : Type 0 where
    pub table_entry : TableEntry HandleEntry
    pub at : fin_map.get p.table.entries n ≡ Some table_entry
    pub is : table_entry.value ≡ entry
    pub loan : is_request_loan table_entry.value.stage ≡ true
    pub sender : entry.sender < length p.client_senders
    pub slot : 0 < slice_index (sender_of entry.sender p.client_senders).messages.held entry.slot

  pub loan_found : IsSoundStore p empty_hand → (s : State Q QH P PH K) (n m : ℕ) → state_of p ≡ s → n ≡ m
      → IsSomeAnd (handle_at s m) (λ handle. is_loaned_request handle ≡ true)
      → (entry : HandleEntry) → value_at p.table n ≡ Some entry → LoanFound n entry
  loan_found sound s n m view same told entry h =
      let f = table_entry_under p.table n entry h in
      let stage = loaned_stage entry.stage entry.sender entry.slot
      (of_handle s n m view same (λ handle. is_loaned_request handle ≡ true) told entry h) in
      let loan : is_request_loan f.0.value.stage ≡ true = ap (λ (v : HandleEntry). is_request_loan v.stage) f.2 ∙ stage in
      let spot = request_there p sound n f.0 f.1 (loan_is_request f.0.value.stage loan) in
      record {
        table_entry = f.0;
        at = f.1;
        is = f.2;
        loan = loan;
        sender = subst (λ (v : HandleEntry). v.sender < length p.client_senders) f.2 spot.0;
        slot = subst (λ (v : HandleEntry). 0 < slice_index (sender_of v.sender p.client_senders).messages.held v.slot) f.2 spot.1;
      }
