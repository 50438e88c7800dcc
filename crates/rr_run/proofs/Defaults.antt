-- A message that was just loaned for any number of elements, while default elements are written to it.
use Rattle.std.proofs.Common.{◌≡◌, ◌≢◌, ℕ, ◌+◌, ◌<◌, Bool, true, false, cond, List, [], ◌∷◌, ◌++◌, length, Option, Some, None, option_map, Ok, refl, sym, ap, ◌∙◌, subst, inl, inr, arith}
use Rattle.std.specs.Prelude.{not, ◌==◌, if◌then◌else◌, All, option_and_then, IsSomeAnd}
use Rattle.std.proofs.lemmas.Bool.{eq-eqb}
use Rattle.std.proofs.lemmas.List.{length-append}
use Rattle.std.proofs.lemmas.List.Elements.{All-nil, All-cons, All-append}
use Rattle.rr_slots.specs.declared.family.Family.{Family}
use Rattle.rr_slots.specs.Families.{takes_len}
use Rattle.rr_protocol.specs.declared.kind.Kind.{Kind}
use Rattle.rr_protocol.specs.declared.settings.BackpressureAction.{BackpressureAction}
use Rattle.rr_protocol.specs.Messages.{RequestMessage, ResponseMessage, Handle, RequestMutUninit, ResponseMutUninit, request_in, response_in}
use Rattle.rr_protocol.specs.Loans.{LoansRequest, LoansResponse, empty_content}
use Rattle.rr_protocol.specs.Queries.{kind_of, kind_at}
use Rattle.rr_protocol.specs.State.{State, handle_at, is_client_value, is_server_value, numbers_left, with_changed}
use Rattle.rr_protocol.specs.Writing.{is_complete, with_element, with_elements, with_request_content, with_response_content, after_init}
use Rattle.rr_hub.specs.Writing.{is_ready}
use Rattle.rr_protocol.specs.declared.command.Command.{Command}
use Rattle.rr_protocol.specs.declared.reply.Reply.{Reply}
use Rattle.rr_protocol.specs.Refusals.{content_in}
use Rattle.rr_protocol.specs.Step.{Step, with_content}
use Rattle.rr_run.specs.Defaults.{IsBlank, FillsWithDefaults}
use Rattle.rr_checked.proofs.Steps.{step_acts}
use Rattle.rr_run.proofs.Copies.{IsFresh, IsNoPort, blank, ready, still_uninit, request_pushed, response_pushed, fresh_kind, fresh_request, fresh_response}

module _ {T H : Type 0} (len : ℕ) where
  -- what has the kind of a request that is being written, and no elements
  blank_request_in : (o : Option (Handle T H T H)) → option_map kind_of o ≡ Some Kind.RequestMutUninit
      → IsSomeAnd o (λ handle. content_in handle ≡ empty_content (content_in handle).user_header len)
      → (m : RequestMessage T H) × (o ≡ Some (RequestMutUninit (record m { content = empty_content m.content.user_header len })))
  blank_request_in None e h = absurd h
  blank_request_in (Some (RequestMutUninit m)) e h = (m, ap (λ c. Some (RequestMutUninit (record m { content = c }))) h)
  blank_request_in (Some other) e h = absurd (cc)

  -- and that of such a response
  blank_response_in : (o : Option (Handle T H T H)) → option_map kind_of o ≡ Some Kind.ResponseMutUninit
      → IsSomeAnd o (λ handle. content_in handle ≡ empty_content (content_in handle).user_header len)
      → (m : ResponseMessage T H) × (o ≡ Some (ResponseMutUninit (record m { content = empty_content m.content.user_header len })))
  blank_response_in None e h = absurd h
  blank_response_in (Some (ResponseMutUninit m)) e h = (m, ap (λ c. Some (ResponseMutUninit (record m { content = c }))) h)
  blank_response_in (Some other) e h = absurd (cc)

module _ {T H K : Type 0} where
  -- so many default elements were written to the message under a number
  abbrev pub WritesDefaults : (T → Type 0) → State T H T H K → ℕ → ℕ → State T H T H K → Type 0
  WritesDefaults IsDefault old n count new =
      (elements : List T) × (length elements ≡ count) × All IsDefault elements × (new ≡ with_content old n (with_elements elements))

  module _ (s : State T H T H K) (n len : ℕ) where
    -- what has a handle's kind is no port
    handle_there : (k : Kind) → k ≢ Kind.Client → k ≢ Kind.Server → kind_at s n ≡ Some k
        → IsNoPort s n × (option_map kind_of (handle_at s n) ≡ Some k)
    handle_there k no_client no_server h = go (is_client_value s n) (is_server_value s n) (option_map kind_of (handle_at s n)) h
      where
        go : (a b : Bool) (o : Option Kind) → cond a (Some Kind.Client) (cond b (Some Kind.Server) o) ≡ Some k
            → ((a ≡ false) × (b ≡ false)) × (o ≡ Some k)
        go true b o e = absurd (no_client (let f : Some Kind.Client ≡ Some k = e in cc))
        go false true o e = absurd (no_server (let f : Some Kind.Server ≡ Some k = e in cc))
        go false false o e = ((refl, refl), e)

    -- a request without elements that is being written
    blank_request : kind_at s n ≡ Some Kind.RequestMutUninit → IsBlank s n len
        → (m : RequestMessage T H) × IsFresh s n len (λ c. RequestMutUninit (record m { content = c }))
    blank_request kind is_blank =
        let there = handle_there Kind.RequestMutUninit (λ e. cc) (λ e. cc) kind in
        let m = blank_request_in len (handle_at s n) there.1 is_blank in
        (m.0, record { apart = there.0; header = m.0.content.user_header; at = m.1 })

    -- and such a response
    blank_response : kind_at s n ≡ Some Kind.ResponseMutUninit → IsBlank s n len
        → (m : ResponseMessage T H) × IsFresh s n len (λ c. ResponseMutUninit (record m { content = c }))
    blank_response kind is_blank =
        let there = handle_there Kind.ResponseMutUninit (λ e. cc) (λ e. cc) kind in
        let m = blank_response_in len (handle_at s n) there.1 is_blank in
        (m.0, record { apart = there.0; header = m.0.content.user_header; at = m.1 })

  module _ (IsDefault : T → Type 0) (s : State T H T H K) (n len : ℕ) where
    -- one more default element
    one_more : (count : ℕ) (elements : List T) → length elements ≡ count → All IsDefault elements → (v : T) → IsDefault v
        → (new : State T H T H K) → new ≡ with_content s n (with_elements (elements ++ v ∷ []))
        → WritesDefaults IsDefault s n (count + 1) new
    one_more count elements many defaults v default new is = (
      elements ++ v ∷ [],
      length-append elements (v ∷ []) ∙ ap (λ m. m + 1) many,
      All-append IsDefault elements (v ∷ []) defaults (All-cons IsDefault v [] default (All-nil IsDefault)),
      is,
    )

    -- after the last, the message is taken as complete
    pub all_written : (now new : State T H T H K) → WritesDefaults IsDefault s n len now → new ≡ with_changed now n after_init
        → FillsWithDefaults IsDefault s n len new
    all_written now new w is = (w.0, w.1, w.2, is ∙ ap (λ t. with_changed t n after_init) w.3)

    module _ (kind : kind_at s n ≡ Some Kind.RequestMutUninit) (is_blank : IsBlank s n len) where
      -- no element is written to a request at first
      pub request_begun : WritesDefaults IsDefault s n 0 s
      request_begun =
          let f = blank_request s n len kind is_blank in
          ([], refl, All-nil IsDefault, blank s n len (λ c. RequestMutUninit (record f.0 { content = c })) f.1 (λ change c. refl))

      module _ (count : ℕ) (now : State T H T H K) (w : WritesDefaults IsDefault s n count now) where
        -- it is being written until all are
        pub request_open : kind_at now n ≡ Some Kind.RequestMutUninit
        request_open =
            let f = blank_request s n len kind is_blank in
            still_uninit s n len (λ c. RequestMutUninit (record f.0 { content = c })) f.1 (λ change c. refl) w.0 now w.3

        -- which takes the next one
        pub request_goes_on : count < len → (v : T) → IsDefault v → (b : Bool) (new : State T H T H K)
            → IsSomeAnd (option_and_then request_in (handle_at now n)) (λ m. (b ≡ not (is_complete m.content))
            × (new ≡ (if b then with_changed now n (with_request_content (with_element v)) else now)))
            → WritesDefaults IsDefault s n (count + 1) new
        request_goes_on room v default b new pushes =
            let f = blank_request s n len kind is_blank in
            one_more count w.0 w.1 w.2 v default new
            (request_pushed s n len w.0 (omega (arith, w.1)) now w.3 v b new f.0 f.1 pushes)

        -- and is complete with all of them
        pub request_complete : count ≡ len → IsSomeAnd (handle_at now n) (λ handle. is_ready handle ≡ true)
        request_complete all =
            let f = blank_request s n len kind is_blank in
            ready s n len (λ c. RequestMutUninit (record f.0 { content = c })) f.1 (λ change c. refl) w.0 now w.3
            (eq-eqb (length w.0) len (w.1 ∙ all))

    module _ (kind : kind_at s n ≡ Some Kind.ResponseMutUninit) (is_blank : IsBlank s n len) where
      -- the same of a response
      pub response_begun : WritesDefaults IsDefault s n 0 s
      response_begun =
          let f = blank_response s n len kind is_blank in
          ([], refl, All-nil IsDefault, blank s n len (λ c. ResponseMutUninit (record f.0 { content = c })) f.1 (λ change c. refl))

      module _ (count : ℕ) (now : State T H T H K) (w : WritesDefaults IsDefault s n count now) where
        pub response_open : kind_at now n ≡ Some Kind.ResponseMutUninit
        response_open =
            let f = blank_response s n len kind is_blank in
            still_uninit s n len (λ c. ResponseMutUninit (record f.0 { content = c })) f.1 (λ change c. refl) w.0 now w.3

        pub response_goes_on : count < len → (v : T) → IsDefault v → (b : Bool) (new : State T H T H K)
            → IsSomeAnd (option_and_then response_in (handle_at now n)) (λ m. (b ≡ not (is_complete m.content))
            × (new ≡ (if b then with_changed now n (with_response_content (with_element v)) else now)))
            → WritesDefaults IsDefault s n (count + 1) new
        response_goes_on room v default b new pushes =
            let f = blank_response s n len kind is_blank in
            one_more count w.0 w.1 w.2 v default new
            (response_pushed s n len w.0 (omega (arith, w.1)) now w.3 v b new f.0 f.1 pushes)

        pub response_complete : count ≡ len → IsSomeAnd (handle_at now n) (λ handle. is_ready handle ≡ true)
        response_complete all =
            let f = blank_response s n len kind is_blank in
            ready s n len (λ c. ResponseMutUninit (record f.0 { content = c })) f.1 (λ change c. refl) w.0 now w.3
            (eq-eqb (length w.0) len (w.1 ∙ all))

module _ {T H K : Type 0} (action : K → ℕ → ℕ → BackpressureAction) (IsDefaultElement : T → Type 0) (IsDefaultHeader : H → Type 0)
    (family : Family) (old : State T H T H K) (n len : ℕ) (takes : takes_len family len ≡ true) (left : (numbers_left old == 0) ≡ false) where
  -- a loan of a request that was filled
  pub request_filled : kind_at old n ≡ Some Kind.Client → (mid new : State T H T H K) (k : ℕ)
      → LoansRequest IsDefaultHeader old n len (Ok k) mid → FillsWithDefaults IsDefaultElement mid k len new
      → Step action IsDefaultElement IsDefaultHeader family old (Command.LoanDefault n len) (Reply.Loaned k) new
  request_filled kind mid new k loans fills =
      step_acts action IsDefaultElement IsDefaultHeader family old (Command.LoanDefault n len) n Kind.Client (Reply.Loaned k) new refl kind
      (rw (takes, left) refl) (mid, fills.0, inl loans, fills.1, fills.2, fills.3)

  -- and of a response
  pub response_filled : kind_at old n ≡ Some Kind.ActiveRequest → (mid new : State T H T H K) (k : ℕ)
      → LoansResponse IsDefaultHeader old n len (Ok k) mid → FillsWithDefaults IsDefaultElement mid k len new
      → Step action IsDefaultElement IsDefaultHeader family old (Command.LoanDefault n len) (Reply.Loaned k) new
  response_filled kind mid new k loans fills =
      step_acts action IsDefaultElement IsDefaultHeader family old (Command.LoanDefault n len) n Kind.ActiveRequest (Reply.Loaned k) new refl
      kind (rw (takes, left) refl) (mid, fills.0, inr loans, fills.1, fills.2, fills.3)

module _ {T H K : Type 0} (IsDefault : H → Type 0) (old : State T H T H K) (n len k : ℕ) (mid : State T H T H K)
    (free : kind_at old k ≡ None) where
  -- what was loaned is blank
  pub loaned_request : LoansRequest IsDefault old n len (Ok k) mid → (kind_at mid k ≡ Some Kind.RequestMutUninit) × IsBlank mid k len
  loaned_request loans =
      let f = fresh_request IsDefault old n len k mid free loans in (
        fresh_kind mid k len (λ c. RequestMutUninit (record f.0 { content = c })) f.1,
        subst (λ o. IsSomeAnd o (λ handle. content_in handle ≡ empty_content (content_in handle).user_header len)) (sym f.1.at) refl,
      )

  pub loaned_response : LoansResponse IsDefault old n len (Ok k) mid → (kind_at mid k ≡ Some Kind.ResponseMutUninit) × IsBlank mid k len
  loaned_response loans =
      let f = fresh_response IsDefault old n len k mid free loans in (
        fresh_kind mid k len (λ c. ResponseMutUninit (record f.0 { content = c })) f.1,
        subst (λ o. IsSomeAnd o (λ handle. content_in handle ≡ empty_content (content_in handle).user_header len)) (sym f.1.at) refl,
      )
