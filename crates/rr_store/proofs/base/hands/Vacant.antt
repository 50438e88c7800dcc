-- No handle stands where a new one is to stand.
use Rattle.std.proofs.Common.{◌≡◌, ◌<◌, ◌+◌, ◌*◌, ℕ, true, Some, length, refl, sym, ap, ◌∙◌, mul-add, arith}
use Rattle.std.specs.Prelude.{slice_index}
use Rattle.std.specs.FinMap as fin_map
use Rattle.std.proofs.Math.Nat.{mul_comm}
use Rattle.std.proofs.lemmas.Bool.{eq-eqb}
use Rattle.rr_table.specs.TableView.{TableEntry}
use Rattle.rr_table.specs.declared.place.Place.{Place}
use Rattle.rr_table.proofs.MapLaws.{tally-at}
use Rattle.rr_store.specs.declared.handle_entry.HandleEntry.{HandleEntry}
use Rattle.rr_store.specs.declared.handle_entry.Stage.{Stage}
use Rattle.rr_store.specs.declared.handle_entry.Stage.TheVariants as stage
use Rattle.rr_store.specs.Parts.{Parts}
use Rattle.rr_store.specs.Views.{sender_of}
use Rattle.rr_store.specs.Sound.{IsSoundStore, empty_hand, is_of_request, is_of_response, has_request_at, has_response_at, own_place, response_place, place_at, server_place}
use Rattle.rr_store.proofs.base.views.Agreeing.{request_sender, response_sender}

module _ {Q QH P PH K : Type 0} (p : Parts Q QH P PH K) (sound : IsSoundStore p empty_hand) (sender slot : ℕ) where
  -- a slot without a handle has none in its own place
  pub own_vacant : sender < length p.client_senders → slot < length (sender_of sender p.client_senders).messages.held
      → slice_index (sender_of sender p.client_senders).messages.held slot ≡ 0
      → (k : ℕ) (s : TableEntry HandleEntry) → fin_map.get p.table.entries k ≡ Some s → s.place ≡ own_place p sender slot → ⊥
  own_vacant there within none k s at is = go s.value.stage refl (sym (sound.inserted.placed k s at) ∙ is)
    where
      of_request : is_of_request s.value.stage ≡ true → (sender_of s.value.sender p.client_senders).row
          ≡ (sender_of sender p.client_senders).row
          → s.value.slot ≡ slot → ⊥
      of_request kind row e =
          let same = sound.inserted.client_rows_apart s.value.sender sender (request_sender p empty_hand sound.counted k s at kind) there
          row in
          let here : has_request_at sender slot s ≡ true = rw kind (rw (eq-eqb s.value.sender sender same) (eq-eqb s.value.slot slot e)) in
          omega (arith, tally-at (has_request_at sender slot) p.table.entries k s at here, sound.counted.requests sender slot, none)

      of_response : is_of_response s.value.stage ≡ true → (sender_of s.value.sender p.server_senders).row
          ≡ (sender_of sender p.client_senders).row → ⊥
      of_response kind row = sound.inserted.rows_apart sender s.value.sender there (response_sender p empty_hand sound.counted k s at kind)
          (sym row)

      past : (n : ℕ) → (sender_of s.value.sender p.client_senders).row ≡ (sender_of sender p.client_senders).row
          → is_of_request s.value.stage ≡ true
          → (n + 1) * length (sender_of s.value.sender p.client_senders).messages.held + s.value.slot ≡ slot → ⊥
      past n row kind e =
          let same = sound.inserted.client_rows_apart s.value.sender sender (request_sender p empty_hand sound.counted k s at kind) there
          row in
          let slots = length (sender_of s.value.sender p.client_senders).messages.held in
          omega (
            arith,
            within,
            e,
            ap (λ l. length (sender_of l p.client_senders).messages.held) same,
            mul_comm (n + 1) slots,
            mul-add slots n 1,
          )

      row_of : {a b : Place} → a ≡ b → a.row ≡ b.row
      row_of e = ap (λ (x : Place). x.row) e

      index_of : {a b : Place} → a ≡ b → a.index ≡ b.index
      index_of e = ap (λ (x : Place). x.index) e

      go : (g : Stage) → s.value.stage ≡ g → place_at p g s.value.sender s.value.slot ≡ own_place p sender slot → ⊥
      go stage.RequestMutUninit e f = of_request (ap is_of_request e) (row_of f) (index_of f)
      go stage.RequestMut e f = of_request (ap is_of_request e) (row_of f) (index_of f)
      go (stage.PendingResponse hint connections) e f = of_request (ap is_of_request e) (row_of f) (index_of f)
      go (stage.ActiveRequest server loans) e f = past (server_place p server) (row_of f) (ap is_of_request e) (index_of f)
      go stage.ResponseMutUninit e f = of_response (ap is_of_response e) (row_of f)
      go stage.ResponseMut e f = of_response (ap is_of_response e) (row_of f)
      go stage.Response e f = of_response (ap is_of_response e) (row_of f)

  -- the same of a response's place
  pub response_vacant : sender < length p.server_senders → slice_index (sender_of sender p.server_senders).messages.held slot ≡ 0
      → (k : ℕ) (s : TableEntry HandleEntry) → fin_map.get p.table.entries k ≡ Some s → s.place ≡ response_place p sender slot → ⊥
  response_vacant there none k s at is = go s.value.stage refl (sym (sound.inserted.placed k s at) ∙ is)
    where
      of_request : is_of_request s.value.stage ≡ true → (sender_of s.value.sender p.client_senders).row
          ≡ (sender_of sender p.server_senders).row → ⊥
      of_request kind row = sound.inserted.rows_apart s.value.sender sender (request_sender p empty_hand sound.counted k s at kind) there
          row

      of_response : is_of_response s.value.stage ≡ true → (sender_of s.value.sender p.server_senders).row
          ≡ (sender_of sender p.server_senders).row
          → s.value.slot ≡ slot → ⊥
      of_response kind row e =
          let same = sound.inserted.server_rows_apart s.value.sender sender (response_sender p empty_hand sound.counted k s at kind) there
          row in
          let here : has_response_at sender slot s ≡ true = rw kind (rw (eq-eqb s.value.sender sender same) (eq-eqb s.value.slot slot e)) in
          omega (arith, tally-at (has_response_at sender slot) p.table.entries k s at here, sound.counted.responses sender slot, none)

      row_of : {a b : Place} → a ≡ b → a.row ≡ b.row
      row_of e = ap (λ (x : Place). x.row) e

      index_of : {a b : Place} → a ≡ b → a.index ≡ b.index
      index_of e = ap (λ (x : Place). x.index) e

      go : (g : Stage) → s.value.stage ≡ g → place_at p g s.value.sender s.value.slot ≡ response_place p sender slot → ⊥
      go stage.RequestMutUninit e f = of_request (ap is_of_request e) (row_of f)
      go stage.RequestMut e f = of_request (ap is_of_request e) (row_of f)
      go (stage.PendingResponse hint connections) e f = of_request (ap is_of_request e) (row_of f)
      go (stage.ActiveRequest server loans) e f = of_request (ap is_of_request e) (row_of f)
      go stage.ResponseMutUninit e f = of_response (ap is_of_response e) (row_of f) (index_of f)
      go stage.ResponseMut e f = of_response (ap is_of_response e) (row_of f) (index_of f)
      go stage.Response e f = of_response (ap is_of_response e) (row_of f) (index_of f)
