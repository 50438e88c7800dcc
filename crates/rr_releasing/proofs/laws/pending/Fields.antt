-- The fields of a core after the release of a pending response, as parts.
use Rattle.std.proofs.Common.{◌≡◌, ◌<◌, ℕ, Bool, true, Some, length, refl, ap, ◌∙◌, subst}
use Rattle.std.specs.Prelude.{IsSomeAnd, slice_index}
use Rattle.std.specs.FinMap as fin_map
use Rattle.std.proofs.lemmas.Bool.{false≢true}
use Rattle.rr_table.specs.TableView.{TableEntry, value_at}
use Rattle.rr_protocol.specs.State.{State, handle_at}
use Rattle.rr_store.specs.declared.handle_entry.HandleEntry.{HandleEntry}
use Rattle.rr_store.specs.declared.handle_entry.Stage.{Stage}
use Rattle.rr_store.specs.declared.handle_entry.Stage.TheVariants as stage
use Rattle.rr_store.specs.Clearing.{is_pending_response}
use Rattle.rr_store.specs.Parts.{Parts}
use Rattle.rr_store.specs.Views.{sender_of, handle_in, state_of}
use Rattle.rr_store.specs.Sound.{IsSoundStore, empty_hand, is_of_request}
use Rattle.rr_store.proofs.base.lookups.Looking.{table_entry_under}
use Rattle.rr_releasing.proofs.laws.request.Fields.{of_handle}
use Rattle.rr_store.proofs.base.lookups.Stands.{request_there}

module _ {Q QH P PH K : Type 0} (p : Parts Q QH P PH K) where
  -- contracts see a pending response where its stage is one
  pending_stage : (g : Stage) (sender slot : ℕ) → is_pending_response (handle_in p g sender slot) ≡ true → (hint : Bool) × (connections : ℕ)
      × (g ≡ stage.PendingResponse hint connections)
  pending_stage stage.RequestMutUninit sender slot h = absurd (false≢true h)
  pending_stage stage.RequestMut sender slot h = absurd (false≢true h)
  pending_stage (stage.PendingResponse hint connections) sender slot h = (hint, connections, refl)
  pending_stage (stage.ActiveRequest server loans) sender slot h = absurd (false≢true h)
  pending_stage stage.ResponseMutUninit sender slot h = absurd (false≢true h)
  pending_stage stage.ResponseMut sender slot h = absurd (false≢true h)
  pending_stage stage.Response sender slot h = absurd (false≢true h)

  -- the entry of a pending response, and that its sender and slot are there
  pub record PendingFound (n : ℕ) (entry : HandleEntry) : Type 0 where
    pub table_entry : TableEntry HandleEntry
    pub at : fin_map.get p.table.entries n ≡ Some table_entry
    pub is : table_entry.value ≡ entry
    pub hint : Bool
    pub connections : ℕ
    pub pending : table_entry.value.stage ≡ stage.PendingResponse hint connections
    pub sender : entry.sender < length p.client_senders
    pub slot : 0 < slice_index (sender_of entry.sender p.client_senders).messages.held entry.slot

  pub pending_found : IsSoundStore p empty_hand → (s : State Q QH P PH K) (n m : ℕ) → state_of p ≡ s → n ≡ m
      → IsSomeAnd (handle_at s m) (λ handle. is_pending_response handle ≡ true)
      → (entry : HandleEntry) → value_at p.table n ≡ Some entry → PendingFound n entry
  pending_found sound s n m view same told entry h =
      let f = table_entry_under p.table n entry h in
      let g = pending_stage entry.stage entry.sender entry.slot (of_handle p s n m view same
      (λ handle. is_pending_response handle ≡ true) told entry h) in
      let pending : f.0.value.stage ≡ stage.PendingResponse g.0 g.1 = ap (λ (v : HandleEntry). v.stage) f.2 ∙ g.2 in
      let spot = request_there p sound n f.0 f.1 (ap is_of_request pending) in
      record {
        table_entry = f.0;
        at = f.1;
        is = f.2;
        hint = g.0;
        connections = g.1;
        pending = pending;
        sender = subst (λ (v : HandleEntry). v.sender < length p.client_senders) f.2 spot.0;
        slot = subst (λ (v : HandleEntry). 0 < slice_index (sender_of v.sender p.client_senders).messages.held v.slot) f.2 spot.1;
      }
