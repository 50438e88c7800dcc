-- A message that was just loaned: its elements are written one after another, it is complete and ready then, and no port has its number.
use Rattle.std.proofs.Common.{◌≡◌, ℕ, ◌+◌, ◌<◌, Bool, true, false, cond, List, [], ◌∷◌, ◌++◌, length, map, Option, Some, None, option_map, refl, sym, ap, ◌∙◌, subst, Ok, ⊎_elim, arith}
use Rattle.std.specs.Prelude.{not, ◌&&◌, ◌||◌, ◌==◌, if◌then◌else◌, option_and_then, IsSomeAnd}
use Rattle.std.specs.List.{list_any}
use Rattle.std.specs.Option.{option_map_or}
use Rattle.std.specs.FinMap as fin_map
use Rattle.std.specs.FinMap.{FinMap, same_map, nat_cmp-IsAntisymmetric}
use Rattle.std.specs.Ordering.{nat_cmp}
use Rattle.std.specs.Cmp.{nat_cmp_total}
use Rattle.std.proofs.lemmas.Bool.{cases_eq, ne_eqb}
use Rattle.rr_table.proofs.MapLaws.{get-insert_same, get-insert_other, insert_itself}
use Rattle.rr_protocol.specs.declared.kind.Kind.{Kind}
use Rattle.rr_protocol.specs.Messages.{Content, RequestMessage, ResponseMessage, Handle, RequestMutUninit, ResponseMutUninit, request_in, response_in}
use Rattle.rr_protocol.specs.Ports.{Client}
use Rattle.rr_protocol.specs.Writing.{is_complete, with_element, with_elements, with_request_content, with_response_content, after_init}
use Rattle.rr_protocol.specs.State.{State, client_at, server_at, active_at, handle_at, is_client_value, is_server_value, with_changed}
use Rattle.rr_protocol.specs.Queries.{kind_of, kind_at}
use Rattle.rr_protocol.specs.Loans.{LoansRequest, LoansResponse, empty_content, with_loan_counted}
use Rattle.rr_hub.specs.Writing.{is_ready}
use Rattle.rr_protocol.specs.Step.{with_content, with_complete}
use Rattle.rr_laws.proofs.Opening.{some_and}

-- a client's value lives as before, once a loan was counted
counted_one : {K : Type 0} (n k : ℕ) (c : Client K) → ((with_loan_counted k c).id == n && (with_loan_counted k c).has_value) ≡
    (c.id == n && c.has_value)
counted_one n k c = elim (c.id == k) as (λ b. ((cond b (record c { loans_made = c.loans_made + 1 }) c).id == n
    && (cond b (record c { loans_made = c.loans_made + 1 }) c).has_value) ≡ (c.id == n && c.has_value)) [
      | true ↦ refl
      | false ↦ refl
    ]

counted_held : {K : Type 0} (n k : ℕ) (clients : List (Client K))
    → list_any (λ c. c.id == n && c.has_value) (map (with_loan_counted k) clients) ≡ list_any (λ c. c.id == n && c.has_value) clients
counted_held n k [] = refl
counted_held n k (c ∷ clients) =
    ap (λ b. b || list_any (λ d. d.id == n && d.has_value) (map (with_loan_counted k) clients)) (counted_one n k c)
    ∙ ap (λ b. (c.id == n && c.has_value) || b) (counted_held n k clients)

-- of two values that are put under one number, the second stays
insert_again : {X : Type 0} (m : FinMap nat_cmp X) (k : ℕ) (v w : X) → fin_map.insert (fin_map.insert m k v) k w ≡ fin_map.insert m k w
insert_again m k v w = same_map nat_cmp_total nat_cmp-IsAntisymmetric _ _ (λ q. ⊎_elim
    (λ e. get-insert_same (fin_map.insert m k v) k w q e ∙ sym (get-insert_same m k w q e))
    (λ ne. get-insert_other (fin_map.insert m k v) k w q ne ∙ get-insert_other m k v q ne ∙ sym (get-insert_other m k w q ne))
    (cases_eq q k))

module _ {T H K : Type 0} where
  -- no port has the number
  abbrev pub IsNoPort : State T H T H K → ℕ → Type 0
  IsNoPort s n = (is_client_value s n ≡ false) × (is_server_value s n ≡ false)

  no_port : (s : State T H T H K) (n : ℕ) → kind_at s n ≡ None → IsNoPort s n
  no_port s n h = go (is_client_value s n) (is_server_value s n) (option_map kind_of (handle_at s n)) h
    where
      go : (a b : Bool) (o : Option Kind) → cond a (Some Kind.Client) (cond b (Some Kind.Server) o) ≡ None → (a ≡ false) × (b ≡ false)
      go true b o e = absurd (let f : Some Kind.Client ≡ None = e in cc)
      go false true o e = absurd (let f : Some Kind.Server ≡ None = e in cc)
      go false false o e = (refl, refl)

  -- then it has the kind of its handle
  handle_kind : (s : State T H T H K) (n : ℕ) (handle : Handle T H T H) → IsNoPort s n → handle_at s n ≡ Some handle
      → kind_at s n ≡ Some (kind_of handle)
  handle_kind s n handle apart at =
      ap (λ b. cond b (Some Kind.Client) (cond (is_server_value s n) (Some Kind.Server) (option_map kind_of (handle_at s n)))) apart.0
      ∙ ap (λ b. cond b (Some Kind.Server) (option_map kind_of (handle_at s n))) apart.1
      ∙ ap (option_map kind_of) at

  -- after a handle was put under a number
  abbrev put : State T H T H K → ℕ → Handle T H T H → State T H T H K
  put s n handle = record s { handles = fin_map.insert s.handles n handle }

  -- a handle that is there becomes another
  changed : (s : State T H T H K) (n : ℕ) (handle : Handle T H T H) (change : Handle T H T H → Handle T H T H) → handle_at s n ≡ Some handle
      → with_changed s n change ≡ put s n (change handle)
  changed s n handle change at = ap (λ o. record s { handles = option_map_or (λ h. fin_map.insert s.handles n (change h)) o s.handles }) at

  changed_handle : (s : State T H T H K) (n : ℕ) (handle : Handle T H T H) (change : Handle T H T H → Handle T H T H)
      → handle_at s n ≡ Some handle →
      handle_at (with_changed s n change) n ≡ Some (change handle)
  changed_handle s n handle change at = ap (λ t. handle_at t n) (changed s n handle change at)
      ∙ get-insert_same s.handles n (change handle) n refl

  -- a message that was just loaned for this many elements, in the handle that a content makes
  pub record IsFresh (s : State T H T H K) (n len : ℕ) (uninit : Content T H → Handle T H T H) : Type 0 where
    pub apart : IsNoPort s n
    pub header : H
    pub at : handle_at s n ≡ Some (uninit (empty_content header len))

  module _ (s : State T H T H K) (n len : ℕ) (uninit : Content T H → Handle T H T H) (f : IsFresh s n len uninit) where
    -- it is being written
    pub fresh_kind : kind_at s n ≡ Some (kind_of (uninit (empty_content f.header len)))
    fresh_kind = handle_kind s n (uninit (empty_content f.header len)) f.apart f.at

    -- the handle once it has these elements
    abbrev written : List T → Handle T H T H
    written elements = uninit (with_elements elements (empty_content f.header len))

    module _ (writes : (change : Content T H → Content T H) (c : Content T H) →
        with_request_content change (with_response_content change (uninit c)) ≡ uninit (change c)) where
      filled : (elements : List T) → with_content s n (with_elements elements) ≡ put s n (written elements)
      filled elements =
          changed s n (uninit (empty_content f.header len)) (λ handle. with_request_content
          (with_elements elements) (with_response_content (with_elements elements) handle)) f.at
          ∙ ap (put s n) (writes (with_elements elements) (empty_content f.header len))

      -- with no elements it stands as it was loaned
      pub blank : s ≡ with_content s n (with_elements [])
      blank = sym (filled [] ∙ ap (λ h. record s { handles = h }) (insert_itself s.handles n (written []) f.at))

      module _ (elements : List T) (new : State T H T H K) (is : new ≡ with_content s n (with_elements elements)) where
        written_at : handle_at new n ≡ Some (written elements)
        written_at = ap (λ t. handle_at t n) (is ∙ filled elements) ∙ get-insert_same s.handles n (written elements) n refl

        -- it is still being written
        pub still_uninit : kind_at new n ≡ Some (kind_of (written elements))
        still_uninit =
            ap (λ t. kind_at t n) is
            ∙ handle_kind (with_content s n (with_elements elements)) n (written elements) f.apart
            (ap (λ t. handle_at t n) (sym is) ∙ written_at)

        -- and complete, if these are all
        pub ready : is_ready (written elements) ≡ true → IsSomeAnd (handle_at new n) (λ handle. is_ready handle ≡ true)
        ready whole = subst (λ o. IsSomeAnd o (λ handle. is_ready handle ≡ true)) (sym written_at) whole

        -- so it can be sent once it is taken as complete
        pub completed : with_changed new n after_init ≡ with_complete s n elements
        completed = ap (λ t. with_changed t n after_init) is

        pub sendable : kind_at (with_changed new n after_init) n ≡ Some (kind_of (after_init (written elements)))
        sendable =
            ap (λ t. kind_at t n) completed
            ∙ handle_kind (with_complete s n elements) n (after_init (written elements)) f.apart
            (changed_handle (with_content s n (with_elements elements)) n (written elements) after_init
            (ap (λ t. handle_at t n) (sym is) ∙ written_at))

        -- to append one more element
        appended : (v : T) (change : Handle T H T H → Handle T H T H) → change (written elements) ≡ written (elements ++ v ∷ [])
            → with_changed new n change ≡ with_content s n (with_elements (elements ++ v ∷ []))
        appended v change more =
            changed new n (written elements) change written_at
            ∙ ap (put new n) more
            ∙ ap (λ t. put t n (written (elements ++ v ∷ []))) (is ∙ filled elements)
            ∙ ap (λ m. record s { handles = m }) (insert_again s.handles n (written elements) (written (elements ++ v ∷ [])))
            ∙ sym (filled (elements ++ v ∷ []))

        -- which a call did that was told so
        pub pushed : (v : T) (change : Handle T H T H → Handle T H T H) → change (written elements) ≡ written (elements ++ v ∷ [])
            → (b : Bool) (next : State T H T H K) → b ≡ not (length elements == len) → length elements < len →
            next ≡ (if b then with_changed new n change else new) → next ≡ with_content s n (with_elements (elements ++ v ∷ []))
        pushed v change more b next told room now =
            now
            ∙ ap (λ c. if c then with_changed new n change else new) (told ∙ ap not (ne_eqb (length elements) len (λ e. omega arith)))
            ∙ appended v change more

  module _ (s : State T H T H K) (n len : ℕ) (elements : List T) (room : length elements < len) (now : State T H T H K)
      (is : now ≡ with_content s n (with_elements elements)) (v : T) (b : Bool) (new : State T H T H K) where
    -- an element appended to a request
    pub request_pushed : (m : RequestMessage T H) (f : IsFresh s n len (λ c. RequestMutUninit (record m { content = c }))) →
        IsSomeAnd (option_and_then request_in (handle_at now n))
        (λ m. (b ≡ not (is_complete m.content)) × (new ≡ (if b then with_changed now n (with_request_content (with_element v)) else now)))
        →
        new ≡ with_content s n (with_elements (elements ++ v ∷ []))
    request_pushed m f pushes =
        let told = subst (λ o. IsSomeAnd (option_and_then request_in o)
        (λ m. (b ≡ not (is_complete m.content)) × (new ≡ (if b then with_changed now n (with_request_content (with_element v)) else now))))
        (written_at s n len (λ c. RequestMutUninit (record m { content = c })) f (λ change c. refl) elements now is) pushes in
        pushed s n len (λ c. RequestMutUninit (record m { content = c })) f (λ change c. refl) elements now is v
        (with_request_content (with_element v)) refl b new told.0 room told.1

    -- and to a response
    pub response_pushed : (m : ResponseMessage T H) (f : IsFresh s n len (λ c. ResponseMutUninit (record m { content = c }))) →
        IsSomeAnd (option_and_then response_in (handle_at now n))
        (λ m. (b ≡ not (is_complete m.content)) × (new ≡ (if b then with_changed now n (with_response_content (with_element v)) else now)))
        →
        new ≡ with_content s n (with_elements (elements ++ v ∷ []))
    response_pushed m f pushes =
        let told = subst (λ o. IsSomeAnd (option_and_then response_in o)
        (λ m. (b ≡ not (is_complete m.content)) × (new ≡ (if b then with_changed now n (with_response_content (with_element v)) else now))))
        (written_at s n len (λ c. ResponseMutUninit (record m { content = c })) f (λ change c. refl) elements now is) pushes in
        pushed s n len (λ c. ResponseMutUninit (record m { content = c })) f (λ change c. refl) elements now is v
        (with_response_content (with_element v)) refl b new told.0 room told.1

  module _ (IsDefault : H → Type 0) (old : State T H T H K) (n len k : ℕ) (mid : State T H T H K) (free : kind_at old k ≡ None) where
    -- a loan of a request
    pub fresh_request : LoansRequest IsDefault old n len (Ok k) mid → (m : RequestMessage T H)
        × IsFresh mid k len (λ c. RequestMutUninit (record m { content = c }))
    fresh_request loans =
        let l = some_and (client_at old n) _ loans in
        let a = no_port old k free in
        let m = l.2.2 in (
          record { number = old.next; client = l.0.id; request_id = l.0.loans_made; channel = m.0; content = empty_content m.1 len },
          record {
            apart = (
              ap (λ t. is_client_value t k) m.4 ∙ counted_held k l.0.id old.clients ∙ a.0,
              ap (λ t. is_server_value t k) m.4 ∙ a.1,
            );
            header = m.1;
            at = ap (λ t. handle_at t k) m.4 ∙ get-insert_same old.handles old.next _ k l.2.1;
          },
        )

    -- a loan of a response
    pub fresh_response : LoansResponse IsDefault old n len (Ok k) mid → (m : ResponseMessage T H)
        × IsFresh mid k len (λ c. ResponseMutUninit (record m { content = c }))
    fresh_response loans =
        let i = some_and (active_at old n) _ loans in
        let l = some_and (server_at old i.0.server) _ i.2 in
        let a = no_port old k free in
        let m = l.2.2 in (
          record {
            number = old.next;
            server = i.0.server;
            active_request = n;
            request = i.0.message.number;
            request_id = i.0.message.request_id;
            client = i.0.message.client;
            channel = i.0.message.channel;
            content = empty_content m.0 len;
          },
          record {
            apart = (
              ap (λ t. is_client_value t k) m.2 ∙ a.0,
              ap (λ t. is_server_value t k) m.2 ∙ a.1,
            );
            header = m.0;
            at = ap (λ t. handle_at t k) m.2 ∙ get-insert_same old.handles old.next _ k l.2.1;
          },
        )
