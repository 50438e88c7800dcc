-- Calls that write, that may give back what they were given, or that are made again and again lead on too.
use Rattle.std.proofs.Common.{◌≡◌, ℕ, List, [], ◌∷◌, Option, Some, None, Result, Ok, Err, refl, sym, ⊎_elim}
use Rattle.std.specs.Prelude.{Bool}
use Rattle.std.specs.List.{FoldsTo}
use Rattle.rr_protocol.specs.declared.settings.BackpressureAction.{BackpressureAction}
use Rattle.rr_protocol.specs.declared.error.ReceiveError.{ReceiveError}
use Rattle.rr_protocol.specs.declared.error.RequestSendError.{RequestSendError}
use Rattle.rr_protocol.specs.declared.error.SendError.{SendError}
use Rattle.rr_protocol.specs.Messages.{Content}
use Rattle.rr_protocol.specs.State.{State, with_changed}
use Rattle.rr_protocol.specs.Writing.{after_init, filled, with_element, with_request_content, with_response_content}
use Rattle.rr_protocol.specs.PortRun.{KeepsAsked}
use Rattle.rr_ports.specs.declared.try_send.Refused.{Refused}
use Rattle.rr_ports.specs.Draining.{Drains}
use Rattle.rr_ports.specs.Filling.{FillsRequest, FillsResponse}
use Rattle.rr_hub.specs.Copies.{with_complete_request, with_complete_response}
use Rattle.rr_ports.specs.Shortcuts.{HearsCopy, ReceivesCopy}
use Rattle.rr_ports.specs.Updates.{UpdatesRequest, UpdatesResponse}
use Rattle.rr_shared_ports.specs.declared.error.WriteError.{WriteError}
use Rattle.rr_shared_ports.specs.Leading.{LeadsTo}
use Rattle.rr_shared_ports.specs.Tries.{Initialises, Pushes, TriesRequest, TriesResponse, WritesSlice}
use Rattle.rr_shared_ports.proofs.Leading.{initialised, leads_on, pending_sent, request_completed, request_copied, request_written, response_completed, response_copied, response_sent, response_written, rests}

module _ {Q QH P PH K : Type 0} (action : K → ℕ → ℕ → BackpressureAction) (D : QH → Type 0) (E : PH → Type 0) where
  -- a part of a message is written
  pub request_updated : {T : Type 0} (says : Content Q QH → T → Type 0) (write : T → Content Q QH → Content Q QH) → ((value : T) → KeepsAsked (write value))
      → (change : T → Unit {0} → T → Type 0) (old new : State Q QH P PH K) (n : ℕ) → UpdatesRequest says write change old new n → LeadsTo action D E old new
  request_updated says write keeps change old new n updates = request_written action D E (write updates.after) (keeps updates.after) old new n updates.written

  pub response_updated : {T : Type 0} (says : Content P PH → T → Type 0) (write : T → Content P PH → Content P PH) → ((value : T) → KeepsAsked (write value))
      → (change : T → Unit {0} → T → Type 0) (old new : State Q QH P PH K) (n : ℕ) → UpdatesResponse says write change old new n → LeadsTo action D E old new
  response_updated says write keeps change old new n updates = response_written action D E (write updates.after) (keeps updates.after) old new n updates.written

  -- all of its elements are, by a function or alike
  pub request_filled : {F : Type 0} (step : F → ℕ → Q → F → Type 0) (f : F) (old new : State Q QH P PH K) (n : ℕ) → FillsRequest step f old new n
      → LeadsTo action D E old new
  request_filled step f old new n fills = request_completed action D E fills.elements old new n fills.written

  pub response_filled : {F : Type 0} (step : F → ℕ → P → F → Type 0) (f : F) (old new : State Q QH P PH K) (n : ℕ) → FillsResponse step f old new n
      → LeadsTo action D E old new
  response_filled step f old new n fills = response_completed action D E fills.elements old new n fills.written

  pub request_alike : (element : Q) (old new : State Q QH P PH K) (n : ℕ)
      → new ≡ with_changed (with_changed old n (with_request_content (filled element))) n after_init → LeadsTo action D E old new
  request_alike element old new n fills =
      let mid = with_changed old n (with_request_content (filled element)) in
      leads_on action D E old mid new (request_written action D E (filled element) (λ c. refl) old mid n refl) (initialised action D E mid new n fills)

  pub response_alike : (element : P) (old new : State Q QH P PH K) (n : ℕ)
      → new ≡ with_changed (with_changed old n (with_response_content (filled element))) n after_init → LeadsTo action D E old new
  response_alike element old new n fills =
      let mid = with_changed old n (with_response_content (filled element)) in
      leads_on action D E old mid new (response_written action D E (filled element) (λ c. refl) old mid n refl) (initialised action D E mid new n fills)

  -- an element is appended, or given back
  pub request_pushed : (IsComplete : State Q QH P PH K → ℕ → Bool → Type 0) (old new : State Q QH P PH K) (n : ℕ) (element : Q) (result : Result (Unit {0}) Q)
      → Pushes IsComplete (λ s k x. with_changed s k (with_request_content (with_element x))) old n element result new → LeadsTo action D E old new
  request_pushed IsComplete old new n element (Ok unit) pushes = request_written action D E (with_element element) (λ c. refl) old new n pushes.1
  request_pushed IsComplete old new n element (Err back) pushes = rests action D E old new pushes.2

  pub response_pushed : (IsComplete : State Q QH P PH K → ℕ → Bool → Type 0) (old new : State Q QH P PH K) (n : ℕ) (element : P) (result : Result (Unit {0}) P)
      → Pushes IsComplete (λ s k x. with_changed s k (with_response_content (with_element x))) old n element result new → LeadsTo action D E old new
  response_pushed IsComplete old new n element (Ok unit) pushes = response_written action D E (with_element element) (λ c. refl) old new n pushes.1
  response_pushed IsComplete old new n element (Err back) pushes = rests action D E old new pushes.2

  -- a slice is written, or the message given back
  pub request_slice_written : (old new : State Q QH P PH K) (n : ℕ) (elements : List Q) (result : Result ℕ (Refused ℕ WriteError))
      → WritesSlice with_complete_request old n elements result new → LeadsTo action D E old new
  request_slice_written old new n elements (Ok made) writes = request_completed action D E elements old new n writes.2
  request_slice_written old new n elements (Err refused) writes = rests action D E old new writes.3

  pub response_slice_written : (old new : State Q QH P PH K) (n : ℕ) (elements : List P) (result : Result ℕ (Refused ℕ WriteError))
      → WritesSlice with_complete_response old n elements result new → LeadsTo action D E old new
  response_slice_written old new n elements (Ok made) writes = response_completed action D E elements old new n writes.2
  response_slice_written old new n elements (Err refused) writes = rests action D E old new writes.3

  -- a message is taken as complete, or given back
  pub initialised_or_not : (IsComplete : State Q QH P PH K → ℕ → Bool → Type 0) (old new : State Q QH P PH K) (n : ℕ) (result : Result ℕ (Refused ℕ WriteError))
      → Initialises IsComplete old n result new → LeadsTo action D E old new
  initialised_or_not IsComplete old new n (Ok made) init = initialised action D E old new n init.2
  initialised_or_not IsComplete old new n (Err refused) init = rests action D E old new init.3

  -- it is sent, or given back
  pub request_tried : (old new : State Q QH P PH K) (n : ℕ) (result : Result ℕ (Refused ℕ RequestSendError)) → TriesRequest action old n result new
      → LeadsTo action D E old new
  request_tried old new n (Ok pending) tries = pending_sent action D E old new n (Ok pending) tries
  request_tried old new n (Err refused) tries = rests action D E old new tries.1

  pub response_tried : (old new : State Q QH P PH K) (n : ℕ) (result : Result (Unit {0}) (Refused ℕ SendError)) → TriesResponse action old n result new
      → LeadsTo action D E old new
  response_tried old new n (Ok unit) tries = response_sent action D E old new n (Ok unit) tries
  response_tried old new n (Err refused) tries = rests action D E old new tries.2

  -- what each call of some leads to, all of them do
  all_lead : {X : Type 0} (receives : State Q QH P PH K → Result (Option X) ReceiveError → State Q QH P PH K → Type 0)
      → ((s t : State Q QH P PH K) (result : Result (Option X) ReceiveError) → receives s result t → LeadsTo action D E s t)
      → (came : List X) (old before : State Q QH P PH K) → FoldsTo (λ s x t. receives s (Ok (Some x)) t) old came before → LeadsTo action D E old before
  all_lead receives leads [] old before received = rests action D E old before (sym received)
  all_lead receives leads (x ∷ came) old before received =
      leads_on action D E old received.0 before (leads old received.0 (Ok (Some x)) received.1) (all_lead receives leads came received.0 before received.2)

  drained : {F A X : Type 0} (receives : State Q QH P PH K → Result (Option X) ReceiveError → State Q QH P PH K → Type 0)
      → ((s t : State Q QH P PH K) (result : Result (Option X) ReceiveError) → receives s result t → LeadsTo action D E s t)
      → (step : F × A → X → F × A → Type 0) (most : ℕ) (first : F × A) (old new : State Q QH P PH K) (result : Result A ReceiveError)
      → Drains receives step most first old result new → LeadsTo action D E old new
  drained receives leads step most first old new (Ok value) drains =
      leads_on action D E old drains.before new (all_lead receives leads drains.came old drains.before drains.received)
      (⊎_elim (λ nothing. leads drains.before new (Ok None) nothing) (λ full. rests action D E drains.before new full.1) drains.ended.1)
  drained receives leads step most first old new (Err error) drains =
      leads_on action D E old drains.before new (all_lead receives leads drains.came old drains.before drains.received)
      (leads drains.before new (Err error) drains.ended)

  -- what is queued is folded
  pub responses_drained : {F A : Type 0} (n : ℕ) (step : F × A → P → F × A → Type 0) (most : ℕ) (first : F × A) (old new : State Q QH P PH K) (result : Result A ReceiveError)
      → Drains (λ s received t. ReceivesCopy s n received t) step most first old result new → LeadsTo action D E old new
  responses_drained n step most first old new result drains =
      drained (λ s received t. ReceivesCopy s n received t) (λ s t received copies. response_copied action D E s t n received copies) step most first old new result drains

  pub requests_drained : {F A : Type 0} (n : ℕ) (step : F × A → Q → F × A → Type 0) (most : ℕ) (first : F × A) (old new : State Q QH P PH K) (result : Result A ReceiveError)
      → Drains (λ s received t. HearsCopy s n received t) step most first old result new → LeadsTo action D E old new
  requests_drained n step most first old new result drains =
      drained (λ s received t. HearsCopy s n received t) (λ s t received copies. request_copied action D E s t n received copies) step most first old new result drains
