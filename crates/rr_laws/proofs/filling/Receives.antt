-- The server that is served receives the one request that stands in the list to it.
use Rattle.std.proofs.Common.{◌≡◌, ℕ, Bool, true, false, cond, ◌&&◌, ◌||◌, List, [], ◌∷◌, Option, Some, Ok, refl, sym, ap, ◌∙◌, subst, inl, inr, ⊎_elim, arith}
use Rattle.std.specs.Prelude.{◌≢◌, IsSomeAnd, not, option_and_then, is_some}
use Rattle.std.specs.FinMap.{get, insert}
use Rattle.std.specs.List.{list_any}
use Rattle.std.specs.Ordering.{eq_by_cmp, is_eq}
use Rattle.std.specs.declared.cmp.Ordering.{Ordering}
use Rattle.std.specs.declared.cmp.Ordering.TheVariants.{Less, Equal, Greater}
use Rattle.std.proofs.lemmas.Bool.{cases_eq}
use Rattle.rr_table.proofs.MapFacts.{itself}
use Rattle.rr_table.proofs.MapLaws.{get-insert_same, get-insert_other}
use Rattle.rr_protocol.specs.declared.limits.Limits.{Limits}
use Rattle.rr_protocol.specs.Counts.{is_alive}
use Rattle.rr_protocol.specs.Keys.{RequestKey, request_key, request_key_cmp}
use Rattle.rr_protocol.specs.Lists.{at, with_at}
use Rattle.rr_protocol.specs.Messages.{RequestMessage, Handle, RequestMutUninit, RequestMut, PendingResponse, ActiveRequest, ResponseMutUninit, ResponseMut, Response, as_pending}
use Rattle.rr_protocol.specs.State.{State, client_at}
use Rattle.rr_protocol.specs.Receives.{is_dead, Skims, ReceivesUnskimmed, ReceivesRequest, with_active_request}
use Rattle.rr_protocol.proofs.KeyLaws.{request_keys_total, request_keys_exact}
use Rattle.rr_protocol.proofs.ListsLaws.{at-with_at}
use Rattle.rr_laws.specs.Roles.{Question, Role, SentRequest, ReceivedRequest, Roles, role_of, roles_of, question_of}
use Rattle.rr_laws.specs.Reached.{IsReached}
use Rattle.rr_laws.specs.Filling.{only_client, is_request, Lives, IsHolding, IsServed}
use Rattle.rr_laws.proofs.RoleLaws.{handle_of, roles-insert}
use Rattle.rr_laws.proofs.filling.Holding.{holds_still, number_is}

-- a handle whose request waits for answers is a pending response
pub is_pending : {Q QH P PH : Type 0} (h : Handle Q QH P PH) (q : Question) → role_of h ≡ SentRequest q → is_some (as_pending h) ≡ true
is_pending (RequestMutUninit m) q e = absurd (cc)
is_pending (RequestMut m) q e = absurd (cc)
is_pending (PendingResponse p) q e = refl
is_pending (ActiveRequest a) q e = absurd (cc)
is_pending (ResponseMutUninit m) q e = absurd (cc)
is_pending (ResponseMut m) q e = absurd (cc)
is_pending (Response m) q e = absurd (cc)

module _ {Q QH P PH K : Type 0} (old : State Q QH P PH K) (limits : Limits) (pool count : ℕ) (holding : IsHolding old limits pool count)
    (server k : ℕ) (m : RequestMessage Q QH) (served : IsServed old server (m ∷ [])) (asks : is_request k (question_of m) ≡ true)
    (waits : get (roles_of old.handles) k ≡ Some (SentRequest (question_of m))) where
  -- the request is alive
  alive : is_alive old m.number ≡ true
  alive = let h = handle_of old.handles k (SentRequest (question_of m)) waits in
      ap (is_alive old) (number_is k (question_of m) asks)
      ∙ ap (λ (o : Option (Handle Q QH P PH)). is_some (option_and_then as_pending o)) h.1 ∙ is_pending h.0 (question_of m) h.2

  not_dead : is_dead old m ≡ false
  not_dead = ap (λ b. not b && not old.limits.enable_fire_and_forget_requests) alive

  -- the first entry of a list to the server is that request, and the only one
  first_is : (client : ℕ) (message : RequestMessage Q QH) (rest : List (RequestMessage Q QH))
      → at old.requests (request_key client server) ≡ message ∷ rest → (client ≡ only_client) × (message ≡ m) × (rest ≡ [])
  first_is client message rest here = ⊎_elim
      (λ same. let e : m ∷ [] ≡ message ∷ rest = sym served.entries_are
      ∙ ap (λ c. at old.requests (request_key c server)) (sym same) ∙ here in (same, (let is : message ≡ m = cc in is), (let is : rest ≡ [] = cc in is)))
      (λ other. absurd (let e : [] ≡ message ∷ rest = sym (holding.others (request_key client server) other) ∙ here in cc))
      (cases_eq client only_client)

  -- so nothing is skimmed
  none_skimmed : (clients : List ℕ) (mid : State Q QH P PH K) → Skims old server clients mid → mid ≡ old
  none_skimmed [] mid skims = skims
  none_skimmed (client ∷ clients) mid skims =
      let takes = skims.3 in
      let first = first_is client skims.0 takes.1.0 takes.1.1 in
      absurd (let e : false ≡ true = sym (ap (is_dead old) first.1 ∙ not_dead) ∙ skims.2 in cc)

  module _ (a : ℕ) (new : State Q QH P PH K) (receives : ReceivesRequest old server (Ok (Some a)) new) where
    unskimmed : ReceivesUnskimmed old server (Ok (Some a)) new
    unskimmed = subst (λ (mid : State Q QH P PH K). ReceivesUnskimmed mid server (Ok (Some a)) new)
        (none_skimmed receives.1.0 receives.1.1 receives.1.2) receives.1.3

    -- the active request has the next number
    pub received_number : a ≡ old.next
    received_number = unskimmed.0

    -- the state after it
    abbrev after : State Q QH P PH K
    after = with_active_request (record old {
      requests = with_at old.requests (request_key only_client server) [];
      expired = new.expired;
    }) server m

    after_is : new ≡ after
    after_is =
        let takes = unskimmed.1.3 in
        let first = first_is unskimmed.1.0 unskimmed.1.1 takes.1.0 takes.1.1 in
        let new_is = unskimmed.1.5 ∙ ap (λ (s : State Q QH P PH K). with_active_request s server unskimmed.1.1) takes.1.2 in
        λ i. record {
          limits = ap (λ (s : State Q QH P PH K). s.limits) new_is i;
          node_id = ap (λ (s : State Q QH P PH K). s.node_id) new_is i;
          clients = ap (λ (s : State Q QH P PH K). s.clients) new_is i;
          servers = ap (λ (s : State Q QH P PH K). s.servers) new_is i;
          handles = (ap (λ (s : State Q QH P PH K). s.handles) new_is
              ∙ ap (λ message. insert old.handles old.next (ActiveRequest (record { message = message; server = server }))) first.1) i;
          requests = (ap (λ (s : State Q QH P PH K). s.requests) new_is
              ∙ ap (λ client. with_at old.requests (request_key client server) takes.1.0) first.0
              ∙ ap (with_at old.requests (request_key only_client server)) first.2) i;
          responses = ap (λ (s : State Q QH P PH K). s.responses) new_is i;
          expired = new.expired;
          next = ap (λ (s : State Q QH P PH K). s.next) new_is i;
        }

    roles_new : roles_of new.handles ≡ insert (roles_of old.handles) old.next (ReceivedRequest server (question_of m))
    roles_new = ap (λ (s : State Q QH P PH K). roles_of s.handles) after_is ∙ roles-insert old.handles old.next _

    roles_stay : (j : ℕ) (role : Role) → get (roles_of old.handles) j ≡ Some role → get (roles_of new.handles) j ≡ Some role
    roles_stay j role e =
        ap (λ (rs : Roles). get rs j) roles_new
        ∙ get-insert_other (roles_of old.handles) old.next (ReceivedRequest server (question_of m)) j
        (λ same. absurd (let below = (holding.reached.handles j role e).below in omega (arith, same, below))) ∙ e

    -- the request is held by it, and waits still
    pub received_active : get (roles_of new.handles) a ≡ Some (ReceivedRequest server (question_of m))
    received_active =
        ap (get (roles_of new.handles)) received_number ∙ ap (λ (rs : Roles). get rs old.next) roles_new
        ∙ get-insert_same (roles_of old.handles) old.next (ReceivedRequest server (question_of m)) old.next refl

    pub received_waits : get (roles_of new.handles) k ≡ Some (SentRequest (question_of m))
    received_waits = roles_stay k (SentRequest (question_of m)) waits

    -- which is another number
    pub received_apart : a ≢ k
    received_apart same = let below = (holding.reached.handles k (SentRequest (question_of m)) waits).below in
        absurd (omega (arith, same, received_number, below))

    list_at : (key : RequestKey) → at new.requests key ≡ cond (eq_by_cmp request_key_cmp key (request_key only_client server)) [] (at old.requests key)
    list_at key = ap (λ (s : State Q QH P PH K). at s.requests key) after_is
        ∙ at-with_at request_keys_total old.requests (request_key only_client server) [] key

    -- the list to the server is empty
    pub received_served : IsServed new server []
    received_served = record {
      older = served.older;
      newest = served.newest;
      servers_are = ap (λ (s : State Q QH P PH K). s.servers) after_is ∙ served.servers_are;
      newest_is = served.newest_is;
      older_others = served.older_others;
      entries_are = list_at (request_key only_client server)
          ∙ ap (λ b. cond b [] (at old.requests (request_key only_client server))) (itself request_keys_total (request_key only_client server));
    }

    others_empty : (key : RequestKey) → key.client ≢ only_client → at new.requests key ≡ []
    others_empty key other =
        list_at key ∙ either (eq_by_cmp request_key_cmp key (request_key only_client server)) (at old.requests key) (holding.others key other)
      where
        either : (b : Bool) (xs : List (RequestMessage Q QH)) → xs ≡ [] → cond b [] xs ≡ []
        either true xs e = refl
        either false xs e = e

    -- what else stood in a list stands there, and the one that left waits still
    listed_stays : (n : ℕ) (key : RequestKey) → list_any (λ m. is_request n (question_of m)) (at old.requests key) ≡ true → Lives new n
    listed_stays n key there = go (request_key_cmp key (request_key only_client server)) refl
      where
        only_one : (b : Bool) → (b || false) ≡ true → b ≡ true
        only_one true e = refl
        only_one false e = e

        elsewhere : (r : Ordering) → request_key_cmp key (request_key only_client server) ≡ r → is_eq r ≡ false → Lives new n
        elsewhere r e other =
            inr (
              key,
              ap (list_any (λ m. is_request n (question_of m)))
                  (list_at key ∙ ap (λ b. cond b [] (at old.requests key)) (ap is_eq e ∙ other)) ∙ there,
            )

        go : (r : Ordering) → request_key_cmp key (request_key only_client server) ≡ r → Lives new n
        go Less e = elsewhere Less e refl
        go Greater e = elsewhere Greater e refl
        go Equal e =
            let here : list_any (λ m. is_request n (question_of m)) (m ∷ []) ≡ true =
            ap (list_any (λ m. is_request n (question_of m)))
            (sym served.entries_are ∙ ap (at old.requests) (sym (request_keys_exact key (request_key only_client server) e))) ∙ there in
            inl (k, SentRequest (question_of m), refl, received_waits, only_one (is_request n (question_of m)) here)

    keeps : (n : ℕ) → Lives old n → Lives new n
    keeps n lives = ⊎_elim
        (λ held. inl (held.0, held.1, refl, roles_stay held.0 held.1 held.3, held.4))
        (λ listed. listed_stays n listed.0 listed.1)
        lives

    -- as much is held as before
    pub received_holds : IsReached new → IsHolding new limits pool count
    received_holds reached =
        holds_still old new limits pool count holding reached (ap (λ (s : State Q QH P PH K). s.limits) after_is)
        (subst (λ (s : State Q QH P PH K). IsSomeAnd (client_at s only_client) (λ c. (c.pool_size ≡ pool) × (c.has_value ≡ true)))
        (sym after_is) holding.client)
        others_empty keeps
