-- No handle stands where a server's handle of a request that waits for it is to stand.
use Rattle.std.proofs.Common.{◌≡◌, ◌<◌, ◌≤◌, ◌+◌, ◌*◌, ℕ, true, Some, length, refl, sym, ap, ◌∙◌, ⊎_elim, mul-add, arith}
use Rattle.std.specs.Prelude.{slice_get}
use Rattle.std.specs.FinMap as fin_map
use Rattle.std.proofs.Math.Nat.{mul_comm, mul-le-mul_right}
use Rattle.std.proofs.lemmas.Bool.{cases_lt, eq-eqb}
use Rattle.rr_table.specs.TableView.{TableEntry}
use Rattle.rr_table.specs.declared.place.Place.{Place}
use Rattle.rr_table.proofs.MapLaws.{tally-at}
use Rattle.rr_store.specs.declared.handle_entry.HandleEntry.{HandleEntry}
use Rattle.rr_store.specs.declared.handle_entry.Stage.{Stage}
use Rattle.rr_store.specs.declared.handle_entry.Stage.TheVariants as stage
use Rattle.rr_store.specs.Parts.{Parts}
use Rattle.rr_store.specs.Receiving.{queue_from}
use Rattle.rr_store.specs.Sound.{IsSoundStore, empty_hand, active_place, is_active_at, is_active_of, is_of_request, is_of_response, place_at, server_place}
use Rattle.rr_store.specs.Views.{sender_of}
use Rattle.rr_store.proofs.base.senders.Connected.{servers_apart}
use Rattle.rr_store.proofs.base.views.Agreeing.{request_sender, response_sender}
use Rattle.rr_store.proofs.base.lookups.Stands.{request_there}
use Rattle.rr_receiving.proofs.laws.response.Inserted.{entry_waits}
use Rattle.rr_store.proofs.base.lookups.Shown.{held_within}

-- in rows of equal length, an index tells the row
apart : (a b n i j : ℕ) → i < n → a * n + i ≡ b * n + j → a < b → ⊥
apart a b n i j h e less = omega (
  arith,
  h,
  e,
  mul-le-mul_right {m = a + 1} {n = b} n (omega (arith, less)),
  mul_comm (a + 1) n,
  mul-add n a 1,
  mul_comm a n,
)

pub same_row : (a b n i j : ℕ) → i < n → j < n → a * n + i ≡ b * n + j → (a ≡ b) × (i ≡ j)
same_row a b n i j h g e =
    let same : a ≡ b =
    ⊎_elim (λ l. absurd (apart a b n i j h e l))
    (λ k. ⊎_elim (λ l. absurd (apart b a n j i g (sym e) l)) (λ m. omega (arith, k, m)) (cases_lt b a))
    (cases_lt a b) in
    (same, omega (arith, e, ap (λ a. a * n) same))

-- a handle's place is within its row
pub within_row : (receiver servers slots slot : ℕ) → receiver < servers → slot < slots
    → ((receiver + 1) * slots + slot < (servers + 1) * slots)
    × (receiver + 1 ≤ (servers + 1) * slots)
within_row receiver servers slots slot h g =
    let most = mul-le-mul_right {m = receiver + 1 + 1} {n = servers + 1} slots (omega (arith, h)) in
    let more = mul-le-mul_right {m = 1} {n = slots} (receiver + 1) (omega (arith, g)) in (
      omega (arith, g, most, mul_comm (receiver + 1 + 1) slots, mul-add slots (receiver + 1) 1, mul_comm (receiver + 1) slots),
      omega (
        arith,
        more,
        mul_comm slots (receiver + 1),
        most,
        mul_comm (receiver + 1 + 1) slots,
        mul-add slots (receiver + 1) 1,
        mul_comm (receiver + 1) slots,
      ),
    )

module _ {Q QH P PH K : Type 0} (p : Parts Q QH P PH K) (sound : IsSoundStore p empty_hand) (sender : ℕ)
    (there : sender < length p.client_senders)
    (server slot : ℕ) (within : slot < length (sender_of sender p.client_senders).messages.held)
    (first : slice_get (queue_from p.client_senders (server_place p server) 0 sender) 0 ≡ Some slot) where
  abbrev slots : ℕ
  slots = length (sender_of sender p.client_senders).messages.held

  pub active_vacant : (k : ℕ) (s : TableEntry HandleEntry) → fin_map.get p.table.entries k ≡ Some s → s.place ≡ active_place p sender slot
      server → ⊥
  active_vacant k s at is = go s.value.stage refl (sym (sound.inserted.placed k s at) ∙ is)
    where
      row_of : {a b : Place} → a ≡ b → a.row ≡ b.row
      row_of e = ap (λ (x : Place). x.row) e

      index_of : {a b : Place} → a ≡ b → a.index ≡ b.index
      index_of e = ap (λ (x : Place). x.index) e

      same_sender : is_of_request s.value.stage ≡ true → (sender_of s.value.sender p.client_senders).row
          ≡ (sender_of sender p.client_senders).row
          → s.value.sender ≡ sender
      same_sender kind row = sound.inserted.client_rows_apart s.value.sender sender (request_sender p empty_hand sound.counted k s at kind)
          there row

      inside : is_of_request s.value.stage ≡ true → s.value.sender ≡ sender → s.value.slot < slots
      inside kind same =
          let spot = request_there p sound k s at kind in
          omega (
            arith,
            held_within (sender_of s.value.sender p.client_senders).messages.held s.value.slot spot.1,
            ap (λ l. length (sender_of l p.client_senders).messages.held) same,
          )

      of_own : is_of_request s.value.stage ≡ true → (sender_of s.value.sender p.client_senders).row
          ≡ (sender_of sender p.client_senders).row
          → s.value.slot ≡ (server_place p server + 1) * slots + slot → ⊥
      of_own kind row e =
          omega (
            arith,
            inside kind (same_sender kind row),
            e,
            mul_comm (server_place p server + 1) slots,
            mul-add slots (server_place p server) 1,
          )

      of_response : is_of_response s.value.stage ≡ true → (sender_of s.value.sender p.server_senders).row
          ≡ (sender_of sender p.client_senders).row → ⊥
      of_response kind row = sound.inserted.rows_apart sender s.value.sender there (response_sender p empty_hand sound.counted k s at kind)
          (sym row)

      of_active : (other loans : ℕ) → s.value.stage ≡ stage.ActiveRequest other loans
          → (sender_of s.value.sender p.client_senders).row ≡ (sender_of sender p.client_senders).row
          → (server_place p other + 1) * length (sender_of s.value.sender p.client_senders).messages.held + s.value.slot ≡
          (server_place p server + 1) * slots + slot → ⊥
      of_active other loans g row e =
          let kind : is_of_request s.value.stage ≡ true = ap is_of_request g in
          let same = same_sender kind row in
          let both = same_row (server_place p other + 1) (server_place p server + 1) slots s.value.slot slot (inside kind same) within
          (ap (λ l. (server_place p other + 1) * length (sender_of l p.client_senders).messages.held + s.value.slot) (sym same) ∙ e) in
          let placed = sound.inserted.active_servers k other s at (ap (is_active_of other) g ∙ eq-eqb other other refl) in
          let one = servers_apart p sound other server placed
          ∙ eq-eqb (server_place p other) (server_place p server) (omega (arith, both.0)) in
          let here : is_active_at sender slot server s.value ≡ true = rw g
          (rw (eq-eqb s.value.sender sender same) (rw (eq-eqb s.value.slot slot both.1) one)) in
          omega (
            arith,
            sound.held_once.servers sender slot server,
            tally-at (λ (t : TableEntry HandleEntry). is_active_at sender slot server t.value) p.table.entries k s at here,
            entry_waits (queue_from p.client_senders (server_place p server) 0 sender) slot first,
          )

      go : (g : Stage) → s.value.stage ≡ g → place_at p g s.value.sender s.value.slot ≡ active_place p sender slot server → ⊥
      go stage.RequestMutUninit e f = of_own (ap is_of_request e) (row_of f) (index_of f)
      go stage.RequestMut e f = of_own (ap is_of_request e) (row_of f) (index_of f)
      go (stage.PendingResponse hint connections) e f = of_own (ap is_of_request e) (row_of f) (index_of f)
      go (stage.ActiveRequest other loans) e f = of_active other loans e (row_of f) (index_of f)
      go stage.ResponseMutUninit e f = of_response (ap is_of_response e) (row_of f)
      go stage.ResponseMut e f = of_response (ap is_of_response e) (row_of f)
      go stage.Response e f = of_response (ap is_of_response e) (row_of f)
