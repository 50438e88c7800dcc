-- The fields of a core as a response is sent, as parts.
use Rattle.std.proofs.Common.{◌≡◌, ◌<◌, ◌+◌, ◌^◌, ℕ, true, Option, None, Some, option_map, refl, sym, ap, ◌∙◌, subst, arith}
use Rattle.std.specs.Prelude.{◌==◌, IsSomeAnd, not, option_and_then, slice_get, slice_index}
use Rattle.rr_table.specs.TableView.{value_at}
use Rattle.rr_sender.specs.Senders.{Messages, uses}
use Rattle.rr_protocol.specs.declared.kind.Kind.{Kind}
use Rattle.rr_protocol.specs.Messages.{Handle, RequestMutUninit, RequestMut, PendingResponse, ActiveRequest, ResponseMutUninit, ResponseMut, Response, ResponseMessage, as_response_mut}
use Rattle.rr_protocol.specs.Ports.{Server}
use Rattle.rr_protocol.specs.declared.settings.BackpressureAction.{BackpressureAction}
use Rattle.rr_protocol.specs.Sends.{is_response_deliverable, is_response_refused}
use Rattle.rr_protocol.specs.Queries.{kind_of, kind_at}
use Rattle.rr_protocol.specs.State.{State, IsResponseMutAnd, handle_at, server_at}
use Rattle.rr_store.specs.declared.handle_entry.HandleEntry.{HandleEntry}
use Rattle.rr_store.specs.declared.handle_entry.Stage.{Stage}
use Rattle.rr_store.specs.declared.handle_entry.Stage.TheVariants as stage
use Rattle.rr_store.specs.declared.details.ResponseDetails.{ResponseDetails}
use Rattle.rr_store.specs.Delivering.{HasQueue, is_blocked_in, is_refused_in, reached}
use Rattle.rr_store.specs.Kinds.{stage_kind}
use Rattle.rr_store.specs.Parts.{Parts, ServerPart}
use Rattle.rr_store.specs.Releasing.{is_loaned_response}
use Rattle.rr_store.specs.Sound.{IsSoundStore, empty_hand, response_details}
use Rattle.rr_store.specs.Views.{sender_of, state_of, server_of, handle_in, response_at}
use Rattle.rr_releasing.proofs.laws.response_loan.Fields.{ResponseLoanFound}
use Rattle.rr_releasing.proofs.laws.response_loan.Place.{server_alone}
use Rattle.rr_sending.proofs.laws.response.Refusals.{deliverable_is, used_once, has_queue, refused_is, server_is}
use Rattle.rr_store.proofs.querying.Connected.{handle_kind}
use Rattle.rr_store.proofs.base.lookups.Looking.{shown}
use Rattle.rr_store.proofs.base.lists.Replaced.{find_mapped}

-- a response that can be sent is one on loan
sendable : {Q QH P PH : Type 0} (h : Handle Q QH P PH) → kind_of h ≡ Kind.ResponseMut → is_loaned_response h ≡ true
sendable (ResponseMut m) e = refl
sendable (ResponseMutUninit m) e = refl
sendable (RequestMutUninit m) e = absurd (let f : Kind.RequestMutUninit ≡ Kind.ResponseMut = e in cc)
sendable (RequestMut m) e = absurd (let f : Kind.RequestMut ≡ Kind.ResponseMut = e in cc)
sendable (PendingResponse m) e = absurd (let f : Kind.PendingResponse ≡ Kind.ResponseMut = e in cc)
sendable (ActiveRequest m) e = absurd (let f : Kind.ActiveRequest ≡ Kind.ResponseMut = e in cc)
sendable (Response m) e = absurd (let f : Kind.Response ≡ Kind.ResponseMut = e in cc)

pub loaned_kind : {Q QH P PH K : Type 0} (s : State Q QH P PH K) (n : ℕ) → kind_at s n ≡ Some Kind.ResponseMut
    → IsSomeAnd (handle_at s n) (λ handle. is_loaned_response handle ≡ true)
loaned_kind {Q} {QH} {P} {PH} s n kind = go (handle_at s n) (handle_kind s n Kind.ResponseMut (λ e. cc) (λ e. cc) kind)
  where
    go : (o : Option (Handle Q QH P PH)) → option_map kind_of o ≡ Some Kind.ResponseMut
        → IsSomeAnd o (λ handle. is_loaned_response handle ≡ true)
    go None e = absurd (let f : None ≡ Some Kind.ResponseMut = e in cc)
    go (Some h) e = sendable h (let f : Some (kind_of h) ≡ Some Kind.ResponseMut = e in cc)

-- its stage
pub mut_stage : (g : Stage) → stage_kind g ≡ Kind.ResponseMut → g ≡ stage.ResponseMut
mut_stage stage.ResponseMut h = refl
mut_stage stage.RequestMutUninit h = absurd (let f : Kind.RequestMutUninit ≡ Kind.ResponseMut = h in cc)
mut_stage stage.RequestMut h = absurd (let f : Kind.RequestMut ≡ Kind.ResponseMut = h in cc)
mut_stage (stage.PendingResponse hint connections) h = absurd (let f : Kind.PendingResponse ≡ Kind.ResponseMut = h in cc)
mut_stage (stage.ActiveRequest server loans) h = absurd (let f : Kind.ActiveRequest ≡ Kind.ResponseMut = h in cc)
mut_stage stage.ResponseMutUninit h = absurd (let f : Kind.ResponseMutUninit ≡ Kind.ResponseMut = h in cc)
mut_stage stage.Response h = absurd (let f : Kind.Response ≡ Kind.ResponseMut = h in cc)

module _ {Q QH P PH K : Type 0} (p : Parts Q QH P PH K) (sound : IsSoundStore p empty_hand) where
  module _ (k : ℕ) (entry : HandleEntry) (f : ResponseLoanFound p k entry) (index : ℕ) (c : ServerPart K)
      (there : slice_get p.servers index ≡ Some c)
      (sends : c.sender ≡ entry.sender) where
    -- what is asked of the queue, where its details was read
    pub queue_asked : (noted : ResponseDetails) → response_details p entry.sender entry.slot ≡ noted → (reach : Option ℕ)
        → reach ≡ reached p.client_senders p.table noted
        → HasQueue (sender_of entry.sender p.server_senders).messages noted.channel reach
    queue_asked noted same reach is =
        subst (λ o. HasQueue (sender_of entry.sender p.server_senders).messages noted.channel o) (sym is)
        (subst (λ (n : ResponseDetails). HasQueue (sender_of entry.sender p.server_senders).messages n.channel
        (reached p.client_senders p.table n)) same (has_queue p sound k entry f index c there sends))

    -- whether it is refused, by the sender that was read
    pub refused_then : (action : K → ℕ → ℕ → BackpressureAction) (noted : ResponseDetails) → response_details p entry.sender entry.slot
        ≡ noted
        → (reach : Option ℕ) → reach ≡ reached p.client_senders p.table noted
        → (m : Messages P ResponseDetails PH) → (sender_of entry.sender p.server_senders).messages ≡ m
        → is_refused_in action c.port m p.limits.enable_safe_overflow_for_responses noted reach ≡ is_response_refused action (state_of p)
        (server_of c) (response_at p entry.sender entry.slot)
    refused_then action noted same reach is m read =
        ap (λ o. is_refused_in action c.port m p.limits.enable_safe_overflow_for_responses noted o) is
        ∙ ap (λ (n : ResponseDetails). is_refused_in action c.port m p.limits.enable_safe_overflow_for_responses n
        (reached p.client_senders p.table n)) (sym same)
        ∙ ap (λ (m : Messages P ResponseDetails PH). is_refused_in action c.port m p.limits.enable_safe_overflow_for_responses
        (response_details p entry.sender entry.slot)
        (reached p.client_senders p.table (response_details p entry.sender entry.slot)))
        (sym read)
        ∙ sym (refused_is p sound k entry f index c there sends action)

    -- and whether it can be delivered
    pub deliverable_then : (noted : ResponseDetails) → response_details p entry.sender entry.slot ≡ noted → (reach : Option ℕ)
        → reach ≡ reached p.client_senders p.table noted
        → not (is_blocked_in (sender_of entry.sender p.server_senders).messages p.limits.enable_safe_overflow_for_responses noted.channel
        reach) ≡ is_response_deliverable (state_of p) (response_at p entry.sender entry.slot)
    deliverable_then noted same reach is =
        let m = (sender_of entry.sender p.server_senders).messages in
        let overflow = p.limits.enable_safe_overflow_for_responses in
        ap (λ o. not (is_blocked_in m overflow noted.channel o)) is
        ∙ ap (λ (n : ResponseDetails). not (is_blocked_in m overflow n.channel (reached p.client_senders p.table n))) (sym same)
        ∙ sym (deliverable_is p sound k entry f index c there sends)

    -- and of the slot
    pub slot_asked : (0 < slice_index (sender_of entry.sender p.server_senders).messages.held entry.slot)
        × (uses (sender_of entry.sender p.server_senders).messages entry.slot + 1 < 2 ^ 64)
    slot_asked = (f.slot, omega (arith, used_once p sound k entry f index c there sends))

    -- what holds of its server and of the response is told of the number
    pub of_sent : (R : State Q QH P PH K → ℕ → Server K → ResponseMessage P PH → Type 0) → value_at p.table k ≡ Some entry
        → stage_kind entry.stage ≡ Kind.ResponseMut → R (state_of p) k (server_of c) (response_at p entry.sender entry.slot)
        → (t : State Q QH P PH K) (j : ℕ) → state_of p ≡ t → k ≡ j → IsResponseMutAnd t j (R t j)
    of_sent R found kind r t j view same =
        let message = response_at p entry.sender entry.slot in
        let handle : option_and_then as_response_mut (handle_at (state_of p) k) ≡ Some message =
        ap (option_and_then as_response_mut) (shown p k entry found
        ∙ ap (λ g. Some (handle_in p g entry.sender entry.slot)) (mut_stage entry.stage kind)) in
        let server : server_at (state_of p) message.server ≡ Some (server_of c) =
        ap (server_at (state_of p)) (server_is p sound k entry f index c there sends)
        ∙ find_mapped server_of (λ d. d.id == c.port.id) p.servers
        ∙ ap (option_map server_of) (server_alone p empty_hand sound index c there) in
        subst (λ t. IsResponseMutAnd t j (R t j)) view
        (subst (λ j. IsResponseMutAnd (state_of p) j (R (state_of p) j)) same
        (subst (λ o. IsSomeAnd o (λ message. IsSomeAnd (server_at (state_of p) message.server) (λ server. R (state_of p) k server message)))
        (sym handle)
        (subst (λ o. IsSomeAnd o (λ server. R (state_of p) k server message)) (sym server) r)))
