-- What was just loaned is never refused to be completed, and what was received has a payload.
use Rattle.std.proofs.Common.{◌≡◌, ◌⊎◌, ℕ, List, length, Option, Some, None, Result, Ok, Err, refl, sym, ap, ◌∙◌, subst, ⊎_elim, inl, inr}
use Rattle.std.specs.Prelude.{IfOk, IfSome, IsSomeAnd}
use Rattle.std.specs.Option.{option_map_or}
use Rattle.rr_table.proofs.MapLaws.{get-insert_same}
use Rattle.rr_slots.specs.declared.family.Family.TheVariants.{Sliced}
use Rattle.rr_protocol.specs.declared.kind.Kind.{Kind}
use Rattle.rr_protocol.specs.declared.settings.BackpressureAction.{BackpressureAction}
use Rattle.rr_protocol.specs.Messages.{Handle, RequestMutUninit, ActiveRequest, ResponseMutUninit, Response}
use Rattle.rr_protocol.specs.Queries.{kind_at, kind_of}
use Rattle.rr_protocol.specs.State.{State, active_at, handle_at, pending_at}
use Rattle.rr_protocol.specs.Writing.{after_init, with_elements, with_request_content, with_response_content}
use Rattle.rr_protocol.specs.declared.command.Command.{Command}
use Rattle.rr_protocol.specs.declared.reply.Reply.{Reply}
use Rattle.rr_protocol.specs.Refusals.{content_in}
use Rattle.rr_protocol.specs.Step.{Step, with_content, with_complete}
use Rattle.rr_laws.specs.Reached.{IsReached}
use Rattle.rr_laws.proofs.Histories.{step_acts}
use Rattle.rr_laws.proofs.Naming.{handle_named}
use Rattle.rr_laws.proofs.Opening.{from_active, some_and}
use Rattle.rr_ports.proofs.NameLaws.{changed_at}
use Rattle.rr_checked.specs.declared.receives.Received.{Received}
use Rattle.rr_checked.specs.declared.receives.Received.TheVariants as received_as
use Rattle.rr_checked.specs.declared.refusal.Refusal.{Refusal}
use Rattle.rr_checked.specs.declared.refusal.Refusal.TheVariants as refusal
use Rattle.rr_checked.specs.Answers.{received, replied}
use Rattle.rr_bytes.specs.declared.id.Id.{Id}
use Rattle.rr_bytes.specs.Completing.{CompletesHandle, complete_refusal, complete_refusal_of_kind}
use Rattle.rr_bytes.specs.Receives.{IsNamed, Receives}
use Rattle.rr_bytes.proofs.Copying.{loaned_request, loaned_response}

-- a message that is being written, and asks for so many elements
abbrev AsksFor : {T H : Type 0} → ℕ → Handle T H T H → Type 0
AsksFor len (RequestMutUninit m) = m.content.asked_len ≡ len
AsksFor len (ResponseMutUninit m) = m.content.asked_len ≡ len
AsksFor len handle = ⊥

-- nothing refuses to complete it
asking_due : {T H : Type 0} (len : ℕ) (h : Handle T H T H) → AsksFor len h → complete_refusal_of_kind (kind_of h) ≡ None
asking_due len (RequestMutUninit m) asks = refl
asking_due len (ResponseMutUninit m) asks = refl
asking_due len handle asks = absurd asks

module _ {T H K : Type 0} (action : K → ℕ → ℕ → BackpressureAction) (IsDefaultElement : T → Type 0) (IsDefaultHeader : H → Type 0) where
  -- a message that was loaned
  module _ (old mid : State T H T H K) (n len k : ℕ) (step : Step action IsDefaultElement IsDefaultHeader Sliced old (Command.Loan n len) (Reply.Loaned k) mid) where
    asking : (h : Handle T H T H) × (handle_at mid k ≡ Some h) × AsksFor len h
    asking = ⊎_elim
        (λ loans. let l = loaned_request IsDefaultHeader old mid n len k loans in (RequestMutUninit l.0, l.1, l.2))
        (λ loans. let l = loaned_response IsDefaultHeader old mid n len k loans in (ResponseMutUninit l.0, l.1, l.2))
        (step_acts action IsDefaultElement IsDefaultHeader Sliced old (Command.Loan n len) (Reply.Loaned k) mid refl step)

    -- is never refused to be completed
    pub loaned_completes : IsReached mid → complete_refusal mid k ≡ None
    loaned_completes reached =
        ap (λ o. option_map_or complete_refusal_of_kind o (Some refusal.Unknown)) (handle_named mid reached k asking.0 asking.1)
        ∙ asking_due len asking.0 asking.2

    -- and has as many elements then as were asked for
    pub completed_len : (new : State T H T H K) → IsSomeAnd (handle_at mid k) (λ handle. CompletesHandle mid k handle new)
        → IsSomeAnd (handle_at new k) (λ handle. length (content_in handle).elements ≡ len)
    completed_len new completes =
        go asking.0 asking.1 asking.2 (subst (λ o. IsSomeAnd o (λ handle. CompletesHandle mid k handle new)) asking.1 completes)
      where
        lies : (h : Handle T H T H) (elements : List T) → handle_at mid k ≡ Some h → new ≡ with_complete mid k elements
            → handle_at new k ≡ Some (after_init (with_request_content (with_elements elements) (with_response_content (with_elements elements) h)))
        lies h elements at is =
            let change = λ (x : Handle T H T H). with_request_content (with_elements elements) (with_response_content (with_elements elements) x) in
            ap (λ s. handle_at s k) is ∙ changed_at (with_content mid k (with_elements elements)) k after_init (change h) (changed_at mid k change h at)

        go : (h : Handle T H T H) → handle_at mid k ≡ Some h → AsksFor len h → CompletesHandle mid k h new
            → IsSomeAnd (handle_at new k) (λ handle. length (content_in handle).elements ≡ len)
        go (RequestMutUninit m) at asks w =
            subst (λ o. IsSomeAnd o (λ handle. length (content_in handle).elements ≡ len)) (sym (lies (RequestMutUninit m) w.0 at w.2)) (w.1 ∙ asks)
        go (ResponseMutUninit m) at asks w =
            subst (λ o. IsSomeAnd o (λ handle. length (content_in handle).elements ≡ len)) (sym (lies (ResponseMutUninit m) w.0 at w.2)) (w.1 ∙ asks)
        go handle at asks w = absurd asks

  -- what was received is an active request or a response
  module _ (old new : State T H T H K) (n : ℕ) (reached : IsReached new) where
    pub received_kind : (result : Result (Option Id) Refusal) → Receives action IsDefaultElement IsDefaultHeader old n result new
        → IfOk result (λ o. IfSome o (λ id. (kind_at new id.number ≡ Some Kind.ActiveRequest) ⊎ (kind_at new id.number ≡ Some Kind.Response)))
    received_kind (Err error) receives = tt
    received_kind (Ok None) receives = tt
    received_kind (Ok (Some id)) receives = go receives.0 receives.1 receives.2
      where
        go : (what : Result (Option Received) Refusal) → Step action IsDefaultElement IsDefaultHeader Sliced old (Command.Receive n) (replied received what) new
            → IsNamed what (Ok (Some id)) → (kind_at new id.number ≡ Some Kind.ActiveRequest) ⊎ (kind_at new id.number ≡ Some Kind.Response)
        go (Ok (Some (received_as.Request k request))) step same =
            let acts = step_acts action IsDefaultElement IsDefaultHeader Sliced old (Command.Receive n) (Reply.Active k request) new refl step in
            let a = some_and (active_at new k) _ acts.1 in
            inl (ap (kind_at new) same ∙ handle_named new reached k (ActiveRequest a.0) (from_active (handle_at new k) a.0 a.1))
        go (Ok (Some (received_as.Response k))) step same =
            let acts = step_acts action IsDefaultElement IsDefaultHeader Sliced old (Command.Receive n) (Reply.Response k) new refl step in
            let p = (some_and (pending_at old n) _ acts).2 in
            inr (ap (kind_at new) same ∙ handle_named new reached k (Response p.1) (ap (λ s. handle_at s k) p.5 ∙ get-insert_same p.2.handles k (Response p.1) k refl))
        go (Ok None) step same = absurd same
        go (Err error) step same = absurd same
