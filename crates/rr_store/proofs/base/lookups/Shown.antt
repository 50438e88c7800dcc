-- The message of a handle that was looked up: what of it is seen, and that its sender and slot are there.
use Rattle.std.proofs.Common.{◌≡◌, ◌<◌, ℕ, true, List, Some, length, refl, sym, ap, ◌∙◌, subst, ⊎_elim, arith}
use Rattle.std.specs.Prelude.{IsSome, IsSomeAnd, is_some, option_and_then, slice_index}
use Rattle.std.proofs.lemmas.Bool.{cases_lt, eq-eqb, false≢true}
use Rattle.std.proofs.lemmas.List.{get_or_past}
use Rattle.rr_table.specs.TableView.{value_at}
use Rattle.rr_table.proofs.MapLaws.{tally-at}
use Rattle.rr_protocol.specs.Messages.{RequestMessage, ResponseMessage, request_in, response_in}
use Rattle.rr_protocol.specs.State.{State, handle_at}
use Rattle.rr_store.specs.declared.handle_entry.HandleEntry.{HandleEntry}
use Rattle.rr_store.specs.declared.handle_entry.Stage.{Stage}
use Rattle.rr_store.specs.declared.handle_entry.Stage.TheVariants as stage
use Rattle.rr_store.specs.Parts.{Parts}
use Rattle.rr_store.specs.Views.{sender_of, handle_in, request_at, response_at, state_of}
use Rattle.rr_store.specs.Sound.{IsCounted, Hand, is_of_request, is_of_response, has_request_at, has_response_at}
use Rattle.rr_store.proofs.base.lookups.Looking.{table_entry_under, shown}
use Rattle.rr_store.proofs.base.views.Agreeing.{sender_within}

-- a slot that is held is one of the slots
pub held_within : (held : List ℕ) (slot : ℕ) → 0 < slice_index held slot → slot < length held
held_within held slot some =
    ⊎_elim (λ h. h)
    (λ h. absurd (omega (arith, some, get_or_past held slot 0 h)))
    (cases_lt slot (length held))

module _ {Q QH P PH K : Type 0} (p : Parts Q QH P PH K) where
  -- the request of a handle of one, and that only such a handle has one
  request-handle_in : (g : Stage) (sender slot : ℕ) → is_of_request g ≡ true
      → request_in (handle_in p g sender slot) ≡ Some (request_at p sender slot)
  request-handle_in stage.RequestMutUninit sender slot h = refl
  request-handle_in stage.RequestMut sender slot h = refl
  request-handle_in (stage.PendingResponse hint connections) sender slot h = refl
  request-handle_in (stage.ActiveRequest server loans) sender slot h = refl
  request-handle_in stage.ResponseMutUninit sender slot h = absurd (false≢true h)
  request-handle_in stage.ResponseMut sender slot h = absurd (false≢true h)
  request-handle_in stage.Response sender slot h = absurd (false≢true h)

  has_request : (g : Stage) (sender slot : ℕ) → is_some (request_in (handle_in p g sender slot)) ≡ true → is_of_request g ≡ true
  has_request stage.RequestMutUninit sender slot h = refl
  has_request stage.RequestMut sender slot h = refl
  has_request (stage.PendingResponse hint connections) sender slot h = refl
  has_request (stage.ActiveRequest server loans) sender slot h = refl
  has_request stage.ResponseMutUninit sender slot h = h
  has_request stage.ResponseMut sender slot h = h
  has_request stage.Response sender slot h = h

  -- the same of responses
  response-handle_in : (g : Stage) (sender slot : ℕ) → is_of_response g ≡ true
      → response_in (handle_in p g sender slot) ≡ Some (response_at p sender slot)
  response-handle_in stage.RequestMutUninit sender slot h = absurd (false≢true h)
  response-handle_in stage.RequestMut sender slot h = absurd (false≢true h)
  response-handle_in (stage.PendingResponse hint connections) sender slot h = absurd (false≢true h)
  response-handle_in (stage.ActiveRequest server loans) sender slot h = absurd (false≢true h)
  response-handle_in stage.ResponseMutUninit sender slot h = refl
  response-handle_in stage.ResponseMut sender slot h = refl
  response-handle_in stage.Response sender slot h = refl

  has_response : (g : Stage) (sender slot : ℕ) → is_some (response_in (handle_in p g sender slot)) ≡ true → is_of_response g ≡ true
  has_response stage.RequestMutUninit sender slot h = h
  has_response stage.RequestMut sender slot h = h
  has_response (stage.PendingResponse hint connections) sender slot h = h
  has_response (stage.ActiveRequest server loans) sender slot h = h
  has_response stage.ResponseMutUninit sender slot h = refl
  has_response stage.ResponseMut sender slot h = refl
  has_response stage.Response sender slot h = refl

  -- a state that the parts stand for, and a number of it
  module _ (s : State Q QH P PH K) (n m : ℕ) (view : state_of p ≡ s) (same : n ≡ m) where
    -- what a number shows
    pub shown_there : (entry : HandleEntry) → value_at p.table n ≡ Some entry → handle_at s m ≡ Some
        (handle_in p entry.stage entry.sender entry.slot)
    shown_there entry h = sym (ap (λ t. handle_at t n) view ∙ ap (handle_at s) same) ∙ shown p n entry h

    module _ (entry : HandleEntry) (h : value_at p.table n ≡ Some entry) where
      -- what is found under a number of a request is a handle of one
      pub is_request : IsSome (option_and_then request_in (handle_at s m)) → is_of_request entry.stage ≡ true
      is_request r = has_request entry.stage entry.sender entry.slot
          (sym (ap (λ o. is_some (option_and_then request_in o)) (shown_there entry h)) ∙ r)

      -- and under a number of a response
      pub is_response : IsSome (option_and_then response_in (handle_at s m)) → is_of_response entry.stage ≡ true
      is_response r = has_response entry.stage entry.sender entry.slot
          (sym (ap (λ o. is_some (option_and_then response_in o)) (shown_there entry h)) ∙ r)

      -- what holds of the request in the slot holds of the one that is seen
      pub of_request : (R : RequestMessage Q QH → Type 0) → is_of_request entry.stage ≡ true → R (request_at p entry.sender entry.slot)
          → IsSomeAnd (option_and_then request_in (handle_at s m)) R
      of_request R is r =
          subst (λ o. IsSomeAnd o R) (sym (ap (option_and_then request_in) (shown_there entry h)
          ∙ request-handle_in entry.stage entry.sender entry.slot is)) r

      -- the same of responses
      pub of_response : (R : ResponseMessage P PH → Type 0) → is_of_response entry.stage ≡ true → R (response_at p entry.sender entry.slot)
          → IsSomeAnd (option_and_then response_in (handle_at s m)) R
      of_response R is r =
          subst (λ o. IsSomeAnd o R) (sym (ap (option_and_then response_in) (shown_there entry h)
          ∙ response-handle_in entry.stage entry.sender entry.slot is)) r

  module _ (hand : Hand) (c : IsCounted p hand) (n : ℕ) (entry : HandleEntry) (h : value_at p.table n ≡ Some entry) where
    -- a request with a handle is held
    pub request_held : is_of_request entry.stage ≡ true → 0 < slice_index (sender_of entry.sender p.client_senders).messages.held entry.slot
    request_held is =
        let f = table_entry_under p.table n entry h in
        let here : has_request_at entry.sender entry.slot f.0 ≡ true = rw f.2
        (rw is (rw (eq-eqb entry.sender entry.sender refl) (rw (eq-eqb entry.slot entry.slot refl) refl))) in
        omega (arith, c.requests entry.sender entry.slot, tally-at (has_request_at entry.sender entry.slot) p.table.entries n f.0 f.1 here)

    -- and so is a response
    pub response_held : is_of_response entry.stage ≡ true → 0 < slice_index (sender_of entry.sender p.server_senders).messages.held
        entry.slot
    response_held is =
        let f = table_entry_under p.table n entry h in
        let here : has_response_at entry.sender entry.slot f.0 ≡ true = rw f.2
        (rw is (rw (eq-eqb entry.sender entry.sender refl) (rw (eq-eqb entry.slot entry.slot refl) refl))) in
        omega (
          arith,
          c.responses entry.sender entry.slot,
          tally-at (has_response_at entry.sender entry.slot) p.table.entries n f.0 f.1
              here,
        )

    -- the sender and the slot of a request that has a handle
    pub request_spot : is_of_request entry.stage ≡ true → (entry.sender < length p.client_senders)
        × (entry.slot < length (sender_of entry.sender p.client_senders).messages.held)
    request_spot is = (sender_within p.client_senders entry.sender entry.slot (request_held is), held_within _ entry.slot (request_held is))

    -- the sender and the slot of a response that has a handle
    pub response_spot : is_of_response entry.stage ≡ true → (entry.sender < length p.server_senders)
        × (entry.slot < length (sender_of entry.sender p.server_senders).messages.held)
    response_spot is = (
      sender_within p.server_senders entry.sender entry.slot (response_held is),
      held_within _ entry.slot
          (response_held is),
    )
