-- The fields of a core after the release of a received response, as parts.
use Rattle.std.proofs.Common.{◌≡◌, ◌<◌, ℕ, true, [], Some, length, ap, ◌∙◌, subst, arith}
use Rattle.std.specs.Prelude.{IsSomeAnd, slice_index, slice_index_or}
use Rattle.std.specs.FinMap as fin_map
use Rattle.rr_table.specs.TableView.{TableEntry, value_at}
use Rattle.rr_sender.specs.Senders.{Messages, borrowed_at}
use Rattle.rr_protocol.specs.State.{State, handle_at}
use Rattle.rr_store.specs.declared.handle_entry.HandleEntry.{HandleEntry}
use Rattle.rr_store.specs.declared.handle_entry.Stage.{Stage}
use Rattle.rr_store.specs.declared.handle_entry.Stage.TheVariants as stage
use Rattle.rr_store.specs.Parts.{Parts}
use Rattle.rr_store.specs.Views.{sender_of, handle_in, state_of}
use Rattle.rr_store.specs.Sound.{IsSoundStore, IsShaped, empty_hand, is_received}
use Rattle.rr_store.specs.Releasing.{is_received_response}
use Rattle.rr_releasing.proofs.laws.BorrowEnded.{row_there, column_there}
use Rattle.rr_store.proofs.base.lookups.Looking.{table_entry_under}
use Rattle.rr_releasing.proofs.laws.request.Fields.{of_handle}
use Rattle.rr_releasing.proofs.laws.response.Sound.{response_there}
use Rattle.rr_store.proofs.base.hands.Stages.{received_is_response}

-- a channel from which something was received has a queue
pub queue_there : {T N H : Type 0} {receivers channels capacity : ℕ} (m : Messages T N H) → IsShaped receivers channels capacity m
    → (receiver channel : ℕ) → 0 < borrowed_at m receiver channel
    → (receiver < length m.queues) × (channel < length (slice_index_or m.queues receiver []))
queue_there {T} {N} {H} {receivers} m shaped receiver channel some =
    let row = row_there m.borrowed receiver channel some in
    let inside : receiver < receivers = omega (arith, row, shaped.borrowed) in (
      omega (arith, inside, shaped.queues),
      omega (
        arith,
        column_there m.borrowed receiver channel some,
        shaped.queue_channels receiver inside,
        shaped.borrowed_channels receiver
            inside,
      ),
    )

module _ {Q QH P PH K : Type 0} (p : Parts Q QH P PH K) where
  -- contracts see a received response where its stage is one
  received_stage : (g : Stage) (sender slot : ℕ) → is_received_response (handle_in p g sender slot) ≡ true → is_received g ≡ true
  received_stage stage.RequestMutUninit sender slot h = h
  received_stage stage.RequestMut sender slot h = h
  received_stage (stage.PendingResponse hint connections) sender slot h = h
  received_stage (stage.ActiveRequest server loans) sender slot h = h
  received_stage stage.ResponseMutUninit sender slot h = h
  received_stage stage.ResponseMut sender slot h = h
  received_stage stage.Response sender slot h = h

  -- the entry of a received response, and that its sender and slot are there
  pub record ReceivedFound (n : ℕ) (entry : HandleEntry) : Type 0 where
    pub table_entry : TableEntry HandleEntry
    pub at : fin_map.get p.table.entries n ≡ Some table_entry
    pub is : table_entry.value ≡ entry
    pub got : is_received table_entry.value.stage ≡ true
    pub sender : entry.sender < length p.server_senders
    pub slot : 0 < slice_index (sender_of entry.sender p.server_senders).messages.held entry.slot

  pub received_found : IsSoundStore p empty_hand → (s : State Q QH P PH K) (n m : ℕ) → state_of p ≡ s → n ≡ m
      → IsSomeAnd (handle_at s m) (λ handle. is_received_response handle ≡ true)
      → (entry : HandleEntry) → value_at p.table n ≡ Some entry → ReceivedFound n entry
  received_found sound s n m view same told entry h =
      let f = table_entry_under p.table n entry h in
      let stage = received_stage entry.stage entry.sender entry.slot
      (of_handle p s n m view same (λ handle. is_received_response handle ≡ true) told entry h) in
      let got : is_received f.0.value.stage ≡ true = ap (λ (v : HandleEntry). is_received v.stage) f.2 ∙ stage in
      let spot = response_there p sound n f.0 f.1 (received_is_response f.0.value.stage got) in
      record {
        table_entry = f.0;
        at = f.1;
        is = f.2;
        got = got;
        sender = subst (λ (v : HandleEntry). v.sender < length p.server_senders) f.2 spot.0;
        slot = subst (λ (v : HandleEntry). 0 < slice_index (sender_of v.sender p.server_senders).messages.held v.slot) f.2 spot.1;
      }
