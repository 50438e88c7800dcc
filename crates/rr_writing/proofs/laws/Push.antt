-- A message that was not sent is written.
use Rattle.std.proofs.Common.{◌≡◌, ◌<◌, ◌≤◌, ℕ, Bool, true, false, cond, Some, length, refl, ap, ◌∙◌, subst, arith}
use Rattle.std.specs.Prelude.{slice_index_or}
use Rattle.std.proofs.lemmas.Bool.{false≢true}
use Rattle.std.proofs.lemmas.List.{get_or-set_same}
use Rattle.rr_slots.specs.Pools.{Written, nothing_written}
use Rattle.rr_table.specs.TableView.{value_at}
use Rattle.rr_sender.specs.Senders.{Messages, content_at, with_changed_at, with_user_header}
use Rattle.rr_protocol.specs.declared.kind.Kind.{Kind}
use Rattle.rr_protocol.specs.Messages.{Content, RequestMutUninit, RequestMut, ResponseMutUninit, ResponseMut}
use Rattle.rr_protocol.specs.State.{with_changed}
use Rattle.rr_protocol.specs.Writing as content
use Rattle.rr_protocol.specs.Writing.{with_request_content, with_response_content}
use Rattle.rr_store.specs.declared.details.RequestDetails.{RequestDetails}
use Rattle.rr_store.specs.declared.details.ResponseDetails.{ResponseDetails}
use Rattle.rr_store.specs.declared.handle_entry.HandleEntry.{HandleEntry}
use Rattle.rr_store.specs.declared.handle_entry.Stage.{Stage}
use Rattle.rr_store.specs.declared.handle_entry.Stage.TheVariants as stage
use Rattle.rr_store.specs.Kinds.{stage_kind}
use Rattle.rr_store.specs.Parts.{Parts}
use Rattle.rr_store.specs.Views.{sender_of, content_of, request_in_slot, response_in_slot, request_at, response_at, handle_in, state_of}
use Rattle.rr_store.specs.Sound.{IsSoundStore, empty_hand, is_request_loan, is_response_loan, request_uses, response_uses}
use Rattle.rr_store.proofs.base.hands.Stages.{loan_is_request, response_loan_is_response}
use Rattle.rr_store.proofs.base.lookups.Looking.{table_entry_under}
use Rattle.rr_store.proofs.base.lookups.Shown.{request_spot, response_spot}
use Rattle.rr_store.proofs.base.views.Unseen.{IsWritten, with_slot, with_written, at_sender, content_written, header_written}
use Rattle.rr_store.proofs.writing.View.{request_says, response_says, request_written_sound, request_written_view, response_written_sound, response_written_view}

-- the stage of a request that is being written
pub request_mut_stage : (g : Stage) → stage_kind g ≡ Kind.RequestMutUninit → g ≡ stage.RequestMutUninit
request_mut_stage stage.RequestMutUninit h = refl
request_mut_stage stage.RequestMut h = absurd (let f : Kind.RequestMut ≡ Kind.RequestMutUninit = h in cc)
request_mut_stage (stage.PendingResponse hint connections) h = absurd (let f : Kind.PendingResponse ≡ Kind.RequestMutUninit = h in cc)
request_mut_stage (stage.ActiveRequest server loans) h = absurd (let f : Kind.ActiveRequest ≡ Kind.RequestMutUninit = h in cc)
request_mut_stage stage.ResponseMutUninit h = absurd (let f : Kind.ResponseMutUninit ≡ Kind.RequestMutUninit = h in cc)
request_mut_stage stage.ResponseMut h = absurd (let f : Kind.ResponseMut ≡ Kind.RequestMutUninit = h in cc)
request_mut_stage stage.Response h = absurd (let f : Kind.Response ≡ Kind.RequestMutUninit = h in cc)

-- the same of a response
pub response_mut_stage : (g : Stage) → stage_kind g ≡ Kind.ResponseMutUninit → g ≡ stage.ResponseMutUninit
response_mut_stage stage.ResponseMutUninit h = refl
response_mut_stage stage.RequestMutUninit h = absurd (let f : Kind.RequestMutUninit ≡ Kind.ResponseMutUninit = h in cc)
response_mut_stage stage.RequestMut h = absurd (let f : Kind.RequestMut ≡ Kind.ResponseMutUninit = h in cc)
response_mut_stage (stage.PendingResponse hint connections) h = absurd (let f : Kind.PendingResponse ≡ Kind.ResponseMutUninit = h in cc)
response_mut_stage (stage.ActiveRequest server loans) h = absurd (let f : Kind.ActiveRequest ≡ Kind.ResponseMutUninit = h in cc)
response_mut_stage stage.ResponseMut h = absurd (let f : Kind.ResponseMut ≡ Kind.ResponseMutUninit = h in cc)
response_mut_stage stage.Response h = absurd (let f : Kind.Response ≡ Kind.ResponseMutUninit = h in cc)

-- the stage of a request that can be sent is that of a loan
pub request_ready_loan : (g : Stage) → stage_kind g ≡ Kind.RequestMut → is_request_loan g ≡ true
request_ready_loan stage.RequestMut h = refl
request_ready_loan stage.RequestMutUninit h = refl
request_ready_loan (stage.PendingResponse hint connections) h = absurd (let f : Kind.PendingResponse ≡ Kind.RequestMut = h in cc)
request_ready_loan (stage.ActiveRequest server loans) h = absurd (let f : Kind.ActiveRequest ≡ Kind.RequestMut = h in cc)
request_ready_loan stage.ResponseMutUninit h = absurd (let f : Kind.ResponseMutUninit ≡ Kind.RequestMut = h in cc)
request_ready_loan stage.ResponseMut h = absurd (let f : Kind.ResponseMut ≡ Kind.RequestMut = h in cc)
request_ready_loan stage.Response h = absurd (let f : Kind.Response ≡ Kind.RequestMut = h in cc)

-- the same of a response
pub response_ready_loan : (g : Stage) → stage_kind g ≡ Kind.ResponseMut → is_response_loan g ≡ true
response_ready_loan stage.ResponseMut h = refl
response_ready_loan stage.ResponseMutUninit h = refl
response_ready_loan stage.RequestMutUninit h = absurd (let f : Kind.RequestMutUninit ≡ Kind.ResponseMut = h in cc)
response_ready_loan stage.RequestMut h = absurd (let f : Kind.RequestMut ≡ Kind.ResponseMut = h in cc)
response_ready_loan (stage.PendingResponse hint connections) h = absurd (let f : Kind.PendingResponse ≡ Kind.ResponseMut = h in cc)
response_ready_loan (stage.ActiveRequest server loans) h = absurd (let f : Kind.ActiveRequest ≡ Kind.ResponseMut = h in cc)
response_ready_loan stage.Response h = absurd (let f : Kind.Response ≡ Kind.ResponseMut = h in cc)

module _ {T H : Type 0} where
  -- what a message says by its user header and by what stands in its slot
  abbrev pub says : H → Written T → Content T H
  says header w = record { user_header = header; asked_len = w.asked_len; elements = w.elements }

  module _ {N : Type 0} (m : Messages T N H) (slot : ℕ) (spare : H) where
    -- what a slot says after what stands in it changed
    changed_says : (change : Written T → Written T) → slot < length m.contents
        → content_of spare (with_changed_at m slot change) slot ≡ says (slice_index_or m.user_headers slot spare) (change (content_at m slot))
    changed_says change inside = ap (says (slice_index_or m.user_headers slot spare))
        (get_or-set_same m.contents slot (change (content_at m slot)) (nothing_written 0) inside)

    -- and after its user header became another
    header_says : (header : H) → slot < length m.user_headers
        → content_of spare (with_user_header m slot header) slot ≡ content.with_user_header header (content_of spare m slot)
    header_says header inside = ap (λ (h : H). says h (content_at m slot)) (get_or-set_same m.user_headers slot header spare inside)

module _ {Q QH P PH K : Type 0} (p q : Parts Q QH P PH K) (sender slot : ℕ) where
  -- where a slot says something else, so does a handle on loan
  request_shown : (seen : Content Q QH → Content Q QH)
      → request_at q sender slot ≡ record (request_at p sender slot) { content = seen (request_at p sender slot).content }
      → (g : Stage) → is_request_loan g ≡ true → handle_in q g sender slot ≡ with_request_content seen (handle_in p g sender slot)
  request_shown seen e stage.RequestMutUninit h = ap RequestMutUninit e
  request_shown seen e stage.RequestMut h = ap RequestMut e
  request_shown seen e (stage.PendingResponse hint connections) h = absurd (false≢true h)
  request_shown seen e (stage.ActiveRequest server loans) h = absurd (false≢true h)
  request_shown seen e stage.ResponseMutUninit h = absurd (false≢true h)
  request_shown seen e stage.ResponseMut h = absurd (false≢true h)
  request_shown seen e stage.Response h = absurd (false≢true h)

  response_shown : (seen : Content P PH → Content P PH)
      → response_at q sender slot ≡ record (response_at p sender slot) { content = seen (response_at p sender slot).content }
      → (g : Stage) → is_response_loan g ≡ true → handle_in q g sender slot ≡ with_response_content seen (handle_in p g sender slot)
  response_shown seen e stage.ResponseMutUninit h = ap ResponseMutUninit e
  response_shown seen e stage.ResponseMut h = ap ResponseMut e
  response_shown seen e stage.RequestMutUninit h = absurd (false≢true h)
  response_shown seen e stage.RequestMut h = absurd (false≢true h)
  response_shown seen e (stage.PendingResponse hint connections) h = absurd (false≢true h)
  response_shown seen e (stage.ActiveRequest server loans) h = absurd (false≢true h)
  response_shown seen e stage.Response h = absurd (false≢true h)

module _ {Q QH P PH K : Type 0} (p : Parts Q QH P PH K) (sound : IsSoundStore p empty_hand) (n : ℕ) (entry : HandleEntry)
    (h : value_at p.table n ≡ Some entry) where
  -- a message that was not sent has one handle and no entry
  request_once : is_request_loan entry.stage ≡ true → request_uses p entry.sender entry.slot ≤ 1
  request_once is =
      let f = table_entry_under p.table n entry h in
      let one : request_uses p entry.sender entry.slot ≡ 1 =
      subst (λ (v : HandleEntry). request_uses p v.sender v.slot ≡ 1) f.2
      (sound.held_once.loans n f.0 f.1 (ap (λ (v : HandleEntry). is_request_loan v.stage) f.2 ∙ is)) in
      omega (arith, one)

  response_once : response_uses p entry.sender entry.slot ≤ 1
  response_once = omega (arith, sound.held_once.responses entry.sender entry.slot)

  module _ (is : is_request_loan entry.stage ≡ true) where
    abbrev pub requests : Messages Q RequestDetails QH
    requests = (sender_of entry.sender p.client_senders).messages

    pub request_there : (entry.sender < length p.client_senders) × (entry.slot < length requests.held)
    request_there = request_spot p empty_hand sound.counted n entry h (loan_is_request entry.stage is)

    module _ (new : Messages Q RequestDetails QH) (written : IsWritten requests new entry.slot) where
      abbrev request_then : Parts Q QH P PH K
      request_then = record p { client_senders = with_written p.client_senders entry.sender new }

      -- its slot is written: the core is sound
      pub request_sound : IsSoundStore request_then empty_hand
      request_sound = request_written_sound p n entry h empty_hand sound (loan_is_request entry.stage is) (request_once is) new written

      -- and contracts see its content changed
      pub request_view : (seen : Content Q QH → Content Q QH)
          → content_of p.spare_request_header new entry.slot ≡ seen (content_of p.spare_request_header requests entry.slot)
          → state_of request_then ≡ with_changed (state_of p) n (with_request_content seen)
      request_view seen told =
          request_written_view p n entry h empty_hand sound (loan_is_request entry.stage is) (request_once is) new written
          (with_request_content seen)
          (request_shown p request_then entry.sender entry.slot seen
          (ap (λ l. request_in_slot p.spare_request_header l.messages entry.slot)
          (at_sender p.client_senders entry.sender new entry.slot written request_there.0)
          ∙ request_says p.spare_request_header requests new entry.slot written entry.slot _ told)
          entry.stage is)

    -- the core is sound once what stands in the slot changed, and if it didn't
    pub changed_request_sound : (change : Written Q → Written Q) (b : Bool) → IsSoundStore (record p
        { client_senders = cond b (with_slot p.client_senders entry.sender entry.slot change) p.client_senders }) empty_hand
    changed_request_sound change true = request_sound (with_changed_at requests entry.slot change)
        (content_written requests entry.slot change)
    changed_request_sound change false = sound

    -- contracts see it changed alike
    pub changed_request_view : (change : Written Q → Written Q) (seen : Content Q QH → Content Q QH)
        → ((header : QH) (w : Written Q) → says header (change w) ≡ seen (says header w)) → (b : Bool) → state_of (record p
        { client_senders = cond b (with_slot p.client_senders entry.sender entry.slot change) p.client_senders })
        ≡ cond b (with_changed (state_of p) n (with_request_content seen)) (state_of p)
    changed_request_view change seen alike true =
        let inside : entry.slot < length requests.contents = omega
        (arith, request_there.1, (sound.sized.client_senders entry.sender request_there.0).contents) in
        request_view (with_changed_at requests entry.slot change) (content_written requests entry.slot change) seen
        (changed_says requests entry.slot p.spare_request_header change inside ∙ alike _ _)
    changed_request_view change seen alike false = refl

    -- the core is sound with another user header, and contracts see it
    abbrev pub request_header_then : QH → Parts Q QH P PH K
    request_header_then header = record p
        { client_senders = with_written p.client_senders entry.sender (with_user_header requests entry.slot header) }

    pub request_header_sound : (header : QH) → IsSoundStore (request_header_then header) empty_hand
    request_header_sound header = request_sound (with_user_header requests entry.slot header) (header_written requests entry.slot header)

    pub request_header_view : (header : QH) → state_of (request_header_then header) ≡ with_changed (state_of p) n
        (with_request_content (content.with_user_header header))
    request_header_view header =
        let inside : entry.slot < length requests.user_headers = omega
        (arith, request_there.1, (sound.sized.client_senders entry.sender request_there.0).user_headers) in
        request_view (with_user_header requests entry.slot header) (header_written requests entry.slot header)
        (content.with_user_header header) (header_says requests entry.slot p.spare_request_header header inside)

  module _ (is : is_response_loan entry.stage ≡ true) where
    abbrev pub responses : Messages P ResponseDetails PH
    responses = (sender_of entry.sender p.server_senders).messages

    pub response_there : (entry.sender < length p.server_senders) × (entry.slot < length responses.held)
    response_there = response_spot p empty_hand sound.counted n entry h (response_loan_is_response entry.stage is)

    module _ (new : Messages P ResponseDetails PH) (written : IsWritten responses new entry.slot) where
      abbrev response_then : Parts Q QH P PH K
      response_then = record p { server_senders = with_written p.server_senders entry.sender new }

      -- its slot is written: the core is sound
      pub response_sound : IsSoundStore response_then empty_hand
      response_sound = response_written_sound p n entry h empty_hand sound (response_loan_is_response entry.stage is) response_once new written

      -- and contracts see its content changed
      pub response_view : (seen : Content P PH → Content P PH)
          → content_of p.spare_response_header new entry.slot ≡ seen (content_of p.spare_response_header responses entry.slot)
          → state_of response_then ≡ with_changed (state_of p) n (with_response_content seen)
      response_view seen told =
          response_written_view p n entry h empty_hand sound (response_loan_is_response entry.stage is) response_once new written
          (with_response_content seen)
          (response_shown p response_then entry.sender entry.slot seen
          (ap (λ l. response_in_slot p.spare_response_header l.messages entry.slot)
          (at_sender p.server_senders entry.sender new entry.slot written response_there.0)
          ∙ response_says p.spare_response_header responses new entry.slot written entry.slot _ told)
          entry.stage is)

    -- the core is sound once what stands in the slot changed, and if it didn't
    pub changed_response_sound : (change : Written P → Written P) (b : Bool) → IsSoundStore (record p
        { server_senders = cond b (with_slot p.server_senders entry.sender entry.slot change) p.server_senders }) empty_hand
    changed_response_sound change true = response_sound (with_changed_at responses entry.slot change)
        (content_written responses entry.slot change)
    changed_response_sound change false = sound

    -- contracts see it changed alike
    pub changed_response_view : (change : Written P → Written P) (seen : Content P PH → Content P PH)
        → ((header : PH) (w : Written P) → says header (change w) ≡ seen (says header w)) → (b : Bool) → state_of (record p
        { server_senders = cond b (with_slot p.server_senders entry.sender entry.slot change) p.server_senders })
        ≡ cond b (with_changed (state_of p) n (with_response_content seen)) (state_of p)
    changed_response_view change seen alike true =
        let inside : entry.slot < length responses.contents = omega
        (arith, response_there.1, (sound.sized.server_senders entry.sender response_there.0).contents) in
        response_view (with_changed_at responses entry.slot change) (content_written responses entry.slot change) seen
        (changed_says responses entry.slot p.spare_response_header change inside ∙ alike _ _)
    changed_response_view change seen alike false = refl

    -- the core is sound with another user header, and contracts see it
    abbrev pub response_header_then : PH → Parts Q QH P PH K
    response_header_then header = record p
        { server_senders = with_written p.server_senders entry.sender (with_user_header responses entry.slot header) }

    pub response_header_sound : (header : PH) → IsSoundStore (response_header_then header) empty_hand
    response_header_sound header = response_sound (with_user_header responses entry.slot header) (header_written responses entry.slot header)

    pub response_header_view : (header : PH) → state_of (response_header_then header) ≡ with_changed (state_of p) n
        (with_response_content (content.with_user_header header))
    response_header_view header =
        let inside : entry.slot < length responses.user_headers = omega
        (arith, response_there.1, (sound.sized.server_senders entry.sender response_there.0).user_headers) in
        response_view (with_user_header responses entry.slot header) (header_written responses entry.slot header)
        (content.with_user_header header) (header_says responses entry.slot p.spare_response_header header inside)
