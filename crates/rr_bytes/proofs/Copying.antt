-- A message that was just loaned, and gets its elements.
use Rattle.std.proofs.Common.{◌≡◌, ℕ, false, List, Some, None, Ok, Result, Err, MatchOption, refl, sym, ap, ◌∙◌, subst}
use Rattle.std.specs.Prelude.{◌==◌, option_and_then, IsSomeAnd}
use Rattle.std.specs.Option.{option_map_or}
use Rattle.std.specs.FinMap as fin_map
use Rattle.rr_table.proofs.MapLaws.{get-insert_same}
use Rattle.rr_protocol.specs.declared.kind.Kind.{Kind}
use Rattle.rr_protocol.specs.declared.settings.BackpressureAction.{BackpressureAction}
use Rattle.rr_protocol.specs.Loans.{LoansRequest, LoansResponse}
use Rattle.rr_protocol.specs.Messages.{Handle, RequestMessage, ResponseMessage, RequestMutUninit, ResponseMutUninit, request_in, response_in}
use Rattle.rr_protocol.specs.Queries.{kind_at}
use Rattle.rr_protocol.specs.State.{State, client_at, handle_at, numbers_left, with_changed}
use Rattle.rr_protocol.specs.Writing.{after_init, with_elements, with_request_content, with_response_content}
use Rattle.rr_protocol.specs.Step.{with_complete}
use Rattle.rr_laws.proofs.Opening.{some_and, open_active}
use Rattle.rr_checked.specs.declared.refusal.Refusal.{Refusal}
use Rattle.rr_checked.specs.declared.refusal.Refusal.TheVariants as refusal
use Rattle.rr_bytes.specs.declared.slices.copies.SentCopy.{SentCopy}
use Rattle.rr_bytes.specs.Copies.{SendsCopy, SendsCopyOf, copy_refusal, copy_refusal_of_kind}

module _ {T H K : Type 0} where
  -- what a handle becomes by one of two changes that do the same to it
  changed_alike : (s : State T H T H K) (k : ℕ) (h : Handle T H T H) (f g : Handle T H T H → Handle T H T H) → handle_at s k ≡ Some h → f h ≡ g h
      → with_changed s k f ≡ with_changed s k g
  changed_alike s k h f g at same =
      ap (λ o. record s { handles = option_map_or (λ x. fin_map.insert s.handles k (f x)) o s.handles }) at
      ∙ ap (λ x. record s { handles = fin_map.insert s.handles k x }) same
      ∙ sym (ap (λ o. record s { handles = option_map_or (λ x. fin_map.insert s.handles k (g x)) o s.handles }) at)

  module _ (s : State T H T H K) (k : ℕ) (elements : List T) where
    -- a request that is being written, once these are its elements, is what the machine says
    pub request_completed : (m : RequestMessage T H) → handle_at s k ≡ Some (RequestMutUninit m)
        → with_changed (with_changed s k (with_request_content (with_elements elements))) k after_init ≡ with_complete s k elements
    request_completed m at =
        ap (λ t. with_changed t k after_init) (changed_alike s k (RequestMutUninit m) (with_request_content (with_elements elements))
        (λ h. with_request_content (with_elements elements) (with_response_content (with_elements elements) h)) at refl)

    -- and so is a response
    pub response_completed : (m : ResponseMessage T H) → handle_at s k ≡ Some (ResponseMutUninit m)
        → with_changed (with_changed s k (with_response_content (with_elements elements))) k after_init ≡ with_complete s k elements
    response_completed m at =
        ap (λ t. with_changed t k after_init) (changed_alike s k (ResponseMutUninit m) (with_response_content (with_elements elements))
        (λ h. with_request_content (with_elements elements) (with_response_content (with_elements elements) h)) at refl)

  module _ (IsDefault : H → Type 0) (old mid : State T H T H K) (n len k : ℕ) where
    -- a request that was loaned is being written, and asks for as many elements
    pub loaned_request : LoansRequest IsDefault old n len (Ok k) mid → (m : RequestMessage T H) × (handle_at mid k ≡ Some (RequestMutUninit m)) × (m.content.asked_len ≡ len)
    loaned_request loans =
        let l = some_and (client_at old n) _ loans in
        (_, ap (λ t. handle_at t k) l.2.2.4 ∙ get-insert_same old.handles old.next _ k l.2.1, refl)

    pub asks_request : LoansRequest IsDefault old n len (Ok k) mid → IsSomeAnd (option_and_then request_in (handle_at mid k)) (λ m. m.content.asked_len ≡ len)
    asks_request loans =
        let l = loaned_request loans in
        subst (λ o. IsSomeAnd (option_and_then request_in o) (λ m. m.content.asked_len ≡ len)) (sym l.1) l.2

    -- and so is a response
    pub loaned_response : LoansResponse IsDefault old n len (Ok k) mid → (m : ResponseMessage T H) × (handle_at mid k ≡ Some (ResponseMutUninit m)) × (m.content.asked_len ≡ len)
    loaned_response loans =
        let o = open_active old n _ loans in
        (_, ap (λ t. handle_at t k) o.4.2.2 ∙ get-insert_same old.handles old.next _ k o.4.1, refl)

    pub asks_response : LoansResponse IsDefault old n len (Ok k) mid → IsSomeAnd (option_and_then response_in (handle_at mid k)) (λ m. m.content.asked_len ≡ len)
    asks_response loans =
        let l = loaned_response loans in
        subst (λ o. IsSomeAnd (option_and_then response_in o) (λ m. m.content.asked_len ≡ len)) (sym l.1) l.2

  module _ (old : State T H T H K) (n : ℕ) (left : (numbers_left old == 0) ≡ false) where
    -- what loans sends copies, where a number is left
    pub client_copies : kind_at old n ≡ Some Kind.Client → copy_refusal old n ≡ None
    client_copies is = ap (λ o. option_map_or (copy_refusal_of_kind old) o (Some refusal.Unknown)) is ∙ rw left refl

    pub active_copies : kind_at old n ≡ Some Kind.ActiveRequest → copy_refusal old n ≡ None
    active_copies is = ap (λ o. option_map_or (copy_refusal_of_kind old) o (Some refusal.Unknown)) is ∙ rw left refl

  -- a copy that nothing refuses
  pub copy_sent : (action : K → ℕ → ℕ → BackpressureAction) (IsDefault : H → Type 0) (old : State T H T H K) (n : ℕ) (elements : List T) (result : Result SentCopy Refusal) (new : State T H T H K)
      → copy_refusal old n ≡ None → SendsCopy action IsDefault old n elements result new → SendsCopyOf action IsDefault old n elements result new
  copy_sent action IsDefault old n elements result new due sends =
      subst (λ o. MatchOption o (SendsCopy action IsDefault old n elements result new) (λ refused. (result ≡ Err refused) × (new ≡ old))) (sym due) sends
