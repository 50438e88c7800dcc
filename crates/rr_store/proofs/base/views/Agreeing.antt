-- When two cores show the same handles, and the same state.
use Rattle.std.proofs.Common.{◌≡◌, ◌<◌, ℕ, true, List, Some, length, refl, sym, ap, ◌∙◌, ⊎_elim, arith}
use Rattle.std.specs.Prelude.{slice_index}
use Rattle.std.specs.FinMap as fin_map
use Rattle.std.proofs.lemmas.Bool.{cases_lt, eq-eqb}
use Rattle.std.proofs.lemmas.List.{get_or_past}
use Rattle.rr_table.specs.TableView.{TableEntry}
use Rattle.rr_table.proofs.MapLaws.{tally-at}
use Rattle.rr_protocol.specs.Keys.{request_key_cmp, response_key_cmp}
use Rattle.rr_protocol.specs.Lists.{Lists}
use Rattle.rr_protocol.specs.State.{State}
use Rattle.rr_protocol.proofs.KeyLaws.{request_keys_total, request_keys_exact, response_keys_total, response_keys_exact}
use Rattle.rr_protocol.proofs.ListsLaws.{same_lists}
use Rattle.rr_store.specs.declared.handle_entry.HandleEntry.{HandleEntry}
use Rattle.rr_store.specs.declared.handle_entry.Stage.{Stage}
use Rattle.rr_store.specs.declared.handle_entry.Stage.TheVariants as stage
use Rattle.rr_store.specs.Expired.{expired_of}
use Rattle.rr_store.specs.Parts.{Parts, Sender}
use Rattle.rr_store.specs.Views.{no_sender, sender_of, handle_in, request_in_slot, response_in_slot, requests_at, responses_at, state_of, waiting_at}
use Rattle.rr_store.specs.Sound.{IsCounted, Hand, is_of_request, is_of_response, has_request_at, has_response_at}
use Rattle.rr_store.proofs.base.views.Keyed.{at_requests, at_responses}

module _ {T N H : Type 0} where
  -- a sender with a slot that is held is there
  pub sender_within : (senders : List (Sender T N H)) (sender slot : ℕ) → 0 < slice_index (sender_of sender senders).messages.held slot
      → sender < length senders
  sender_within senders sender slot entry =
      ⊎_elim (λ h. h)
      (λ h. absurd (omega (
        arith,
        entry,
        ap (λ (l : Sender T N H). slice_index l.messages.held slot)
            (get_or_past senders sender no_sender h),
      )))
      (cases_lt sender (length senders))

-- whom receivers still have messages of is the same where the lists are
pub same_expired : {X Y : Type 0} (clients servers : List ℕ) {a b : Lists request_key_cmp X} {c d : Lists response_key_cmp Y} → a ≡ b → c ≡ d
    → expired_of a c clients servers ≡ expired_of b d clients servers
same_expired clients servers requests responses = rw requests (rw responses refl)

module _ {Q QH P PH K : Type 0} where
  -- the sender of a handle's message is there
  pub request_sender : (p : Parts Q QH P PH K) (hand : Hand) → IsCounted p hand → (k : ℕ) (s : TableEntry HandleEntry)
      → fin_map.get p.table.entries k ≡ Some s → is_of_request s.value.stage ≡ true → s.value.sender < length p.client_senders
  request_sender p hand c k s at is =
      let here : has_request_at s.value.sender s.value.slot s ≡ true = rw is
      (rw (eq-eqb s.value.sender s.value.sender refl) (rw (eq-eqb s.value.slot s.value.slot refl) refl)) in
      sender_within p.client_senders s.value.sender s.value.slot
      (omega (
        arith,
        c.requests s.value.sender s.value.slot,
        tally-at (has_request_at s.value.sender s.value.slot) p.table.entries k s at
            here,
      ))

  pub response_sender : (p : Parts Q QH P PH K) (hand : Hand) → IsCounted p hand → (k : ℕ) (s : TableEntry HandleEntry)
      → fin_map.get p.table.entries k ≡ Some s → is_of_response s.value.stage ≡ true → s.value.sender < length p.server_senders
  response_sender p hand c k s at is =
      let here : has_response_at s.value.sender s.value.slot s ≡ true = rw is
      (rw (eq-eqb s.value.sender s.value.sender refl) (rw (eq-eqb s.value.slot s.value.slot refl) refl)) in
      sender_within p.server_senders s.value.sender s.value.slot
      (omega (
        arith,
        c.responses s.value.sender s.value.slot,
        tally-at (has_response_at s.value.sender s.value.slot) p.table.entries k s at
            here,
      ))

  -- a handle shows the same where its message and what waits for it are the same
  pub same_handle : (p q : Parts Q QH P PH K) (g : Stage) (sender slot : ℕ)
      → (is_of_request g ≡ true → (request_in_slot p.spare_request_header
      (sender_of sender p.client_senders).messages slot ≡ request_in_slot q.spare_request_header
      (sender_of sender q.client_senders).messages slot)
      × (waiting_at p sender slot ≡ waiting_at q sender slot))
      → (is_of_response g ≡ true → response_in_slot p.spare_response_header
      (sender_of sender p.server_senders).messages slot ≡ response_in_slot q.spare_response_header
      (sender_of sender q.server_senders).messages slot)
      → handle_in p g sender slot ≡ handle_in q g sender slot
  same_handle p q stage.RequestMutUninit sender slot r s = rw (r refl).0 refl
  same_handle p q stage.RequestMut sender slot r s = rw (r refl).0 refl
  same_handle p q (stage.PendingResponse hint connections) sender slot r s = rw (r refl).0 (rw (r refl).1 refl)
  same_handle p q (stage.ActiveRequest server loans) sender slot r s = rw (r refl).0 refl
  same_handle p q stage.ResponseMutUninit sender slot r s = rw (s refl) refl
  same_handle p q stage.ResponseMut sender slot r s = rw (s refl) refl
  same_handle p q stage.Response sender slot r s = rw (s refl) refl

  -- what waits is the same where it is the same at each key
  pub same_requests : (p q : Parts Q QH P PH K) → ((key : _) → requests_at p key ≡ requests_at q key)
      → (state_of p).requests ≡ (state_of q).requests
  same_requests p q each = same_lists request_keys_total request_keys_exact (state_of p).requests (state_of q).requests
      (λ key. at_requests p key ∙ each key ∙ sym (at_requests q key))

  pub same_responses : (p q : Parts Q QH P PH K) → ((key : _) → responses_at p key ≡ responses_at q key)
      → (state_of p).responses ≡ (state_of q).responses
  same_responses p q each = same_lists response_keys_total response_keys_exact (state_of p).responses (state_of q).responses
      (λ key. at_responses p key ∙ each key ∙ sym (at_responses q key))

  -- a state is what it has
  pub same_state : (s t : State Q QH P PH K) → s.limits ≡ t.limits → s.node_id ≡ t.node_id → s.clients ≡ t.clients → s.servers ≡ t.servers
      → s.handles ≡ t.handles
      → s.requests ≡ t.requests → s.responses ≡ t.responses → s.expired ≡ t.expired → s.next ≡ t.next → s ≡ t
  same_state s t a b c d e f g h i = rw a (rw b (rw c (rw d (rw e (rw f (rw g (rw h (rw i refl))))))))
