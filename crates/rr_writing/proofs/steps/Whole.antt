-- A message is written whole, and can be sent then.
use Rattle.std.proofs.Common.{◌≡◌, ◌<◌, List, ℕ, true, Some, length, replicate, refl, sym, ap, ◌∙◌, subst, inl, inr, arith}
use Rattle.std.specs.Prelude.{IsSomeAnd, option_and_then}
use Rattle.std.specs.FinMap as fin_map
use Rattle.std.proofs.lemmas.Bool.{eq-eqb, false≢true}
use Rattle.std.proofs.lemmas.List.{length-replicate}
use Rattle.rr_slots.specs.Pools.{Written, written}
use Rattle.rr_table.specs.TableView.{table_entry}
use Rattle.rr_table.specs.declared.place.Place.{Place}
use Rattle.rr_sender.specs.Senders.{with_changed_at}
use Rattle.rr_table.proofs.MapLaws.{get-insert_same}
use Rattle.rr_protocol.specs.declared.kind.Kind.{Kind}
use Rattle.rr_protocol.specs.Messages.{ActiveRequest, Content, Handle, PendingResponse, RequestMut, RequestMutUninit, Response, ResponseMut, ResponseMutUninit, request_in, response_in}
use Rattle.rr_protocol.specs.Queries.{kind_at}
use Rattle.rr_protocol.specs.State.{handle_at, with_changed}
use Rattle.rr_protocol.specs.Writing.{after_init, filled, is_complete, with_elements, with_request_content, with_response_content}
use Rattle.rr_laws.specs.Complete.{HasComplete, MessagesComplete}
use Rattle.rr_laws.specs.Roles.{role_of}
use Rattle.rr_laws.proofs.CompleteMessages.{changed_complete, changed_there}
use Rattle.rr_laws.proofs.Changing.{push_reached, request_content_role, response_content_role}
use Rattle.rr_store.specs.declared.handle_entry.HandleEntry.{HandleEntry}
use Rattle.rr_store.specs.declared.handle_entry.Stage.{Stage}
use Rattle.rr_store.specs.declared.handle_entry.Stage.TheVariants as stage
use Rattle.rr_store.specs.Changes.{with_handle, with_requests, with_responses}
use Rattle.rr_store.specs.Parts.{Parts}
use Rattle.rr_store.specs.Reaching.{IsCore}
use Rattle.rr_store.specs.Sound.{IsSoundStore, empty_hand, is_request_loan, is_response_loan}
use Rattle.rr_store.specs.Views.{handle_in, request_at, response_at, sender_of, state_of}
use Rattle.rr_store.specs.Writing.{initialised, is_ready}
use Rattle.rr_store.proofs.base.lookups.Looking.{shown}
use Rattle.rr_store.proofs.base.lookups.Placed.{value_there}
use Rattle.rr_store.proofs.querying.Connected.{of_kind}
use Rattle.rr_writing.proofs.laws.Push.{changed_request_sound, changed_request_view, changed_response_sound, changed_response_view, request_mut_stage, request_there, response_mut_stage, response_there, says}
use Rattle.rr_writing.proofs.steps.Initialising.{IsBeingWritten, core_then, view_then}

module _ {Q QH P PH : Type 0} where
  -- a message that is being written need not be complete
  incomplete : (h : Handle Q QH P PH) → is_ready h ≡ true → HasComplete h
  incomplete (RequestMutUninit m) e = tt
  incomplete (ResponseMutUninit m) e = tt
  incomplete (RequestMut m) e = absurd (false≢true e)
  incomplete (PendingResponse p) e = absurd (false≢true e)
  incomplete (ActiveRequest a) e = absurd (false≢true e)
  incomplete (ResponseMut m) e = absurd (false≢true e)
  incomplete (Response m) e = absurd (false≢true e)

module _ {B T : Type 0} (asked_len : B → ℕ) (elements : B → List T) (one : (body : B) → asked_len body ≡ 1) (body : B)
    (content : Written T) (is : written asked_len elements body ≡ content) where
  -- where each body asks for one element, one is asked for
  pub asks_one : content.asked_len ≡ 1
  asks_one = sym (ap (λ (w : Written T). w.asked_len) is) ∙ one body

  pub asks_some : 0 < content.asked_len
  asks_some = omega (arith, asks_one)

module _ {Q QH P PH K : Type 0} (p : Parts Q QH P PH K) (core : IsCore p) (n : ℕ) (place : Place) (entry : HandleEntry)
    (at : fin_map.get p.table.entries n ≡ Some (table_entry place entry)) where
  -- what the handle shows
  there : handle_at (state_of p) n ≡ Some (handle_in p entry.stage entry.sender entry.slot)
  there = shown p n entry (value_there p.table n place entry at)

  -- what was asked for is written first, and then the handle is in another stage
  module _ (change : Handle Q QH P PH → Handle Q QH P PH) (same : (h : Handle Q QH P PH) → role_of (change h) ≡ role_of h)
      (ready : is_ready (change (handle_in p entry.stage entry.sender entry.slot)) ≡ true) (q : Parts Q QH P PH K)
      (sound : IsSoundStore q empty_hand) (view : state_of q ≡ with_changed (state_of p) n change)
      (kept : fin_map.get q.table.entries n ≡ Some (table_entry place entry)) where
    core_between : IsCore q
    core_between = record {
      sound = sound;
      reached = push_reached (state_of p) n change same true (Some true) (λ b. b ≡ true) _ core.reached (refl, view);
      complete = subst (λ s. MessagesComplete s) (sym view)
          (changed_complete (state_of p) n change (λ h e c. subst (λ (o : Handle Q QH P PH). HasComplete (change o))
          (let f : Some (handle_in p entry.stage entry.sender entry.slot) ≡ Some h = sym there ∙ e in cc)
          (incomplete (change (handle_in p entry.stage entry.sender entry.slot)) ready)) core.complete);
    }

    ready_between : IsSomeAnd (handle_at (state_of q) n) (λ handle. is_ready handle ≡ true)
    ready_between = subst (λ o. IsSomeAnd o (λ (handle : Handle Q QH P PH). is_ready handle ≡ true))
        (sym (ap (λ s. handle_at s n) view
        ∙ ap (λ s. handle_at s n) (changed_there (state_of p) n change (handle_in p entry.stage entry.sender entry.slot) there)
        ∙ get-insert_same (state_of p).handles n (change (handle_in p entry.stage entry.sender entry.slot)) n refl)) ready

    module _ (uninit : IsBeingWritten entry) (ready_stage : Stage) (is : ready_stage ≡ initialised entry.stage) (r : Parts Q QH P PH K)
        (replaced : r ≡ with_handle q n place (record { stage = ready_stage; sender = entry.sender; slot = entry.slot })) where
      whole_view : state_of r ≡ with_changed (with_changed (state_of p) n change) n after_init
      whole_view = view_then q n place entry kept ready_stage is r replaced ∙ ap (λ s. with_changed s n after_init) view

      whole_core : IsCore r
      whole_core = core_then q n place entry kept ready_stage is r replaced core_between uninit ready_between

  -- a request that is being written
  module _ (kind : kind_at (state_of p) n ≡ Some Kind.RequestMutUninit) where
    request_stage : entry.stage ≡ stage.RequestMutUninit
    request_stage = request_mut_stage entry.stage
        (of_kind p (state_of p) n n refl refl Kind.RequestMutUninit (λ e. cc) (λ e. cc) kind entry (value_there p.table n place entry at))

    request_loan : is_request_loan entry.stage ≡ true
    request_loan = ap is_request_loan request_stage

    request_shown : handle_in p entry.stage entry.sender entry.slot ≡ RequestMutUninit (request_at p entry.sender entry.slot)
    request_shown = ap (λ g. handle_in p g entry.sender entry.slot) request_stage

    -- its sender and its slot are there
    pub request_sender : entry.sender < length p.client_senders
    request_sender = (request_there p core.sound n entry (value_there p.table n place entry at) request_loan).0

    pub request_slot : entry.slot < length (sender_of entry.sender p.client_senders).messages.held
    request_slot = (request_there p core.sound n entry (value_there p.table n place entry at) request_loan).1

    -- what stands in the slot becomes complete
    module _ (change : Written Q → Written Q) (seen : Content Q QH → Content Q QH)
        (alike : (header : QH) (w : Written Q) → says header (change w) ≡ seen (says header w))
        (complete : is_complete (seen (request_at p entry.sender entry.slot).content) ≡ true) (q r : Parts Q QH P PH K)
        (written : q ≡ with_requests p entry.sender (λ m. with_changed_at m entry.slot change))
        (replaced : r ≡ with_handle q n place (record { stage = stage.RequestMut; sender = entry.sender; slot = entry.slot })) where
      request_ready : is_ready (with_request_content seen (handle_in p entry.stage entry.sender entry.slot)) ≡ true
      request_ready = ap (λ h. is_ready (with_request_content seen h)) request_shown ∙ complete

      request_written : IsSoundStore q empty_hand
      request_written = subst (λ x. IsSoundStore x empty_hand) (sym written)
          (changed_request_sound p core.sound n entry (value_there p.table n place entry at) request_loan change true)

      request_view : state_of q ≡ with_changed (state_of p) n (with_request_content seen)
      request_view = ap state_of written
          ∙ changed_request_view p core.sound n entry (value_there p.table n place entry at) request_loan change seen alike true

      request_kept : fin_map.get q.table.entries n ≡ Some (table_entry place entry)
      request_kept = ap (λ (x : Parts Q QH P PH K). fin_map.get x.table.entries n) written ∙ at

      pub whole_request_view : state_of r ≡ with_changed (with_changed (state_of p) n (with_request_content seen)) n after_init
      whole_request_view = whole_view (with_request_content seen) (request_content_role seen) request_ready q request_written request_view request_kept
          (inl request_stage) stage.RequestMut (sym (ap initialised request_stage)) r replaced

      pub whole_request_core : IsCore r
      whole_request_core = whole_core (with_request_content seen) (request_content_role seen) request_ready q request_written request_view request_kept
          (inl request_stage) stage.RequestMut (sym (ap initialised request_stage)) r replaced

    -- one that is filled is complete
    pub request_filled : (element : Q) → is_complete (filled element (request_at p entry.sender entry.slot).content) ≡ true
    request_filled element =
        let asked = (request_at p entry.sender entry.slot).content.asked_len in
        eq-eqb (length (replicate asked element)) asked (length-replicate asked element)

    -- for how many elements its slot asks
    pub request_asks : (len : ℕ) → IsSomeAnd (option_and_then request_in (handle_at (state_of p) n)) (λ m. m.content.asked_len ≡ len)
        → (request_at p entry.sender entry.slot).content.asked_len ≡ len
    request_asks len told = rw (there ∙ ap Some request_shown) at told

    -- and the other way round
    pub request_told : (len : ℕ) → len ≡ (request_at p entry.sender entry.slot).content.asked_len
        → IsSomeAnd (option_and_then request_in (handle_at (state_of p) n)) (λ m. m.content.asked_len ≡ len)
    request_told len is = rw (there ∙ ap Some request_shown) (sym is)

    -- one to which as many are copied is complete
    pub request_copied : (elements : List Q)
        → IsSomeAnd (option_and_then request_in (handle_at (state_of p) n)) (λ m. m.content.asked_len ≡ length elements)
        → is_complete (with_elements elements (request_at p entry.sender entry.slot).content) ≡ true
    request_copied elements told = eq-eqb (length elements) (request_at p entry.sender entry.slot).content.asked_len (sym (request_asks (length elements) told))

  -- a response that is being written
  module _ (kind : kind_at (state_of p) n ≡ Some Kind.ResponseMutUninit) where
    response_stage : entry.stage ≡ stage.ResponseMutUninit
    response_stage = response_mut_stage entry.stage
        (of_kind p (state_of p) n n refl refl Kind.ResponseMutUninit (λ e. cc) (λ e. cc) kind entry (value_there p.table n place entry at))

    response_loan : is_response_loan entry.stage ≡ true
    response_loan = ap is_response_loan response_stage

    response_shown : handle_in p entry.stage entry.sender entry.slot ≡ ResponseMutUninit (response_at p entry.sender entry.slot)
    response_shown = ap (λ g. handle_in p g entry.sender entry.slot) response_stage

    -- its sender and its slot are there
    pub response_sender : entry.sender < length p.server_senders
    response_sender = (response_there p core.sound n entry (value_there p.table n place entry at) response_loan).0

    pub response_slot : entry.slot < length (sender_of entry.sender p.server_senders).messages.held
    response_slot = (response_there p core.sound n entry (value_there p.table n place entry at) response_loan).1

    -- what stands in the slot becomes complete
    module _ (change : Written P → Written P) (seen : Content P PH → Content P PH)
        (alike : (header : PH) (w : Written P) → says header (change w) ≡ seen (says header w))
        (complete : is_complete (seen (response_at p entry.sender entry.slot).content) ≡ true) (q r : Parts Q QH P PH K)
        (written : q ≡ with_responses p entry.sender (λ m. with_changed_at m entry.slot change))
        (replaced : r ≡ with_handle q n place (record { stage = stage.ResponseMut; sender = entry.sender; slot = entry.slot })) where
      response_ready : is_ready (with_response_content seen (handle_in p entry.stage entry.sender entry.slot)) ≡ true
      response_ready = ap (λ h. is_ready (with_response_content seen h)) response_shown ∙ complete

      response_written : IsSoundStore q empty_hand
      response_written = subst (λ x. IsSoundStore x empty_hand) (sym written)
          (changed_response_sound p core.sound n entry (value_there p.table n place entry at) response_loan change true)

      response_view : state_of q ≡ with_changed (state_of p) n (with_response_content seen)
      response_view = ap state_of written
          ∙ changed_response_view p core.sound n entry (value_there p.table n place entry at) response_loan change seen alike true

      response_kept : fin_map.get q.table.entries n ≡ Some (table_entry place entry)
      response_kept = ap (λ (x : Parts Q QH P PH K). fin_map.get x.table.entries n) written ∙ at

      pub whole_response_view : state_of r ≡ with_changed (with_changed (state_of p) n (with_response_content seen)) n after_init
      whole_response_view = whole_view (with_response_content seen) (response_content_role seen) response_ready q response_written response_view response_kept
          (inr response_stage) stage.ResponseMut (sym (ap initialised response_stage)) r replaced

      pub whole_response_core : IsCore r
      whole_response_core = whole_core (with_response_content seen) (response_content_role seen) response_ready q response_written response_view response_kept
          (inr response_stage) stage.ResponseMut (sym (ap initialised response_stage)) r replaced

    -- one that is filled is complete
    pub response_filled : (element : P) → is_complete (filled element (response_at p entry.sender entry.slot).content) ≡ true
    response_filled element =
        let asked = (response_at p entry.sender entry.slot).content.asked_len in
        eq-eqb (length (replicate asked element)) asked (length-replicate asked element)

    -- for how many elements its slot asks
    pub response_asks : (len : ℕ) → IsSomeAnd (option_and_then response_in (handle_at (state_of p) n)) (λ m. m.content.asked_len ≡ len)
        → (response_at p entry.sender entry.slot).content.asked_len ≡ len
    response_asks len told = rw (there ∙ ap Some response_shown) at told

    -- and the other way round
    pub response_told : (len : ℕ) → len ≡ (response_at p entry.sender entry.slot).content.asked_len
        → IsSomeAnd (option_and_then response_in (handle_at (state_of p) n)) (λ m. m.content.asked_len ≡ len)
    response_told len is = rw (there ∙ ap Some response_shown) (sym is)

    -- one to which as many are copied is complete
    pub response_copied : (elements : List P)
        → IsSomeAnd (option_and_then response_in (handle_at (state_of p) n)) (λ m. m.content.asked_len ≡ length elements)
        → is_complete (with_elements elements (response_at p entry.sender entry.slot).content) ≡ true
    response_copied elements told = eq-eqb (length elements) (response_at p entry.sender entry.slot).content.asked_len (sym (response_asks (length elements) told))
