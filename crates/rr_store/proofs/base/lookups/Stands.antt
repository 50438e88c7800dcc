-- Where the request of a handle stands.
use Rattle.std.proofs.Common.{◌≡◌, ◌<◌, ℕ, true, Some, length, refl, arith}
use Rattle.std.specs.Prelude.{slice_index}
use Rattle.std.specs.FinMap as fin_map
use Rattle.std.proofs.lemmas.Bool.{eq-eqb}
use Rattle.rr_table.specs.TableView.{TableEntry}
use Rattle.rr_table.proofs.MapLaws.{tally-at}
use Rattle.rr_store.specs.declared.handle_entry.HandleEntry.{HandleEntry}
use Rattle.rr_store.specs.Parts.{Parts}
use Rattle.rr_store.specs.Views.{sender_of}
use Rattle.rr_store.specs.Sound.{IsSoundStore, empty_hand, is_of_request, has_request_at}
use Rattle.rr_store.proofs.base.views.Agreeing.{request_sender}

module _ {Q QH P PH K : Type 0} (p : Parts Q QH P PH K) (sound : IsSoundStore p empty_hand) (k : ℕ) (s : TableEntry HandleEntry)
    (at : fin_map.get p.table.entries k ≡ Some s) where
  -- a request with a handle stands in a sender that is there, in a slot that is held
  pub request_there : is_of_request s.value.stage ≡ true → (s.value.sender < length p.client_senders)
      × (0 < slice_index (sender_of s.value.sender p.client_senders).messages.held s.value.slot)
  request_there is =
      let here : has_request_at s.value.sender s.value.slot s ≡ true = rw is
      (rw (eq-eqb s.value.sender s.value.sender refl) (rw (eq-eqb s.value.slot s.value.slot refl) refl)) in (
        request_sender p empty_hand sound.counted k s at is,
        omega (
          arith,
          sound.counted.requests s.value.sender s.value.slot,
          tally-at (has_request_at s.value.sender s.value.slot) p.table.entries k s at here,
        ),
      )
