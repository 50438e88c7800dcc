-- A pending response is released whose request lives elsewhere too: as much is held as before.
use Rattle.std.proofs.Common.{◌≡◌, ℕ, Bool, true, false, cond, eqb, ◌&&◌, ◌||◌, List, [], ◌∷◌, Some, None, refl, sym, ap, ◌∙◌, subst, inl, inr, ⊎_elim}
use Rattle.std.specs.Prelude.{◌≢◌, IsSomeAnd, find, is_some}
use Rattle.std.specs.FinMap.{get, remove}
use Rattle.std.specs.List.{list_any}
use Rattle.std.specs.Option.{option_map_or}
use Rattle.std.proofs.lemmas.Bool.{cases_eq}
use Rattle.rr_table.proofs.MapLaws.{get-remove_other}
use Rattle.rr_protocol.specs.declared.limits.Limits.{Limits}
use Rattle.rr_protocol.specs.Keys.{RequestKey, request_key}
use Rattle.rr_protocol.specs.Lists.{at}
use Rattle.rr_protocol.specs.Messages.{RequestMessage, Pending, Handle, RequestMutUninit, RequestMut, PendingResponse, ActiveRequest, ResponseMutUninit, ResponseMut, Response, port_of}
use Rattle.rr_protocol.specs.Ports.{Client}
use Rattle.rr_protocol.specs.State.{State, client_at, is_client_value, is_server_value, all_handles}
use Rattle.rr_protocol.specs.Releases.{after_release, after_handle_gone, after_client_left, after_server_left, with_empty_channel, without_unused_port, without_port_value}
use Rattle.rr_laws.specs.Roles.{Question, Role, SentRequest, Roles, role_of, roles_of, question_of}
use Rattle.rr_laws.specs.Reached.{IsReached}
use Rattle.rr_laws.specs.Filling.{only_client, is_request, is_about, Lives, LivesElsewhere, IsHolding, IsServed}
use Rattle.rr_laws.proofs.Opening.{some_and}
use Rattle.rr_laws.proofs.RoleLaws.{handle_of, roles-remove}
use Rattle.rr_laws.proofs.filling.Holding.{holds_still, number_is, request_client}

-- the pending response of a request that waits for answers
pending_of : {Q QH P PH : Type 0} (h : Handle Q QH P PH) (q : Question) → role_of h ≡ SentRequest q
    → (p : Pending Q QH) × (h ≡ PendingResponse p) × (p.message.client ≡ q.client)
pending_of (RequestMutUninit m) q e = absurd (cc)
pending_of (RequestMut m) q e = absurd (cc)
pending_of (PendingResponse p) q e = (p, refl, (let same : question_of p.message ≡ q = cc in ap (λ (q : Question). q.client) same))
pending_of (ActiveRequest a) q e = absurd (cc)
pending_of (ResponseMutUninit m) q e = absurd (cc)
pending_of (ResponseMut m) q e = absurd (cc)
pending_of (Response m) q e = absurd (cc)

-- what is found and passes another test passes both
found_any : {X : Type 0} (p t : X → Bool) (xs : List X) (x : X) → find p xs ≡ Some x → t x ≡ true → list_any (λ y. p y && t y) xs ≡ true
found_any p t [] x e passes = absurd (let g : None ≡ Some x = e in cc)
found_any p t (y ∷ ys) x e passes = go (found_any p t ys x) (p y) e
  where
    go : (find p ys ≡ Some x → t x ≡ true → list_any (λ y. p y && t y) ys ≡ true) → (b : Bool) → cond b (Some y) (find p ys) ≡ Some x
        → ((b && t y) || list_any (λ y. p y && t y) ys) ≡ true
    go rest true e = let same : Some y ≡ Some x = e in let is : y ≡ x = cc in ap (λ b. b || list_any (λ y. p y && t y) ys) (ap t is ∙ passes)
    go rest false e = rest e passes

module _ {Q QH P PH K : Type 0} (old : State Q QH P PH K) (limits : Limits) (pool count : ℕ) (holding : IsHolding old limits pool count)
    (k : ℕ) (q : Question) (asks : is_request k q ≡ true) (waits : get (roles_of old.handles) k ≡ Some (SentRequest q))
    (elsewhere : LivesElsewhere old k) where
  has_value : is_client_value old only_client ≡ true
  has_value = let c = some_and (client_at old only_client) _ holding.client in
      found_any (λ (c : Client K). eqb c.id only_client) (λ c. c.has_value) old.clients c.0 c.1 c.2.1

  h : (handle : Handle Q QH P PH) × (get old.handles k ≡ Some handle) × (role_of handle ≡ SentRequest q)
  h = handle_of old.handles k (SentRequest q) waits

  p : (pending : Pending Q QH) × (h.0 ≡ PendingResponse pending) × (pending.message.client ≡ q.client)
  p = pending_of h.0 q h.2

  -- without the handle, and with nothing on its channel
  emptied : State Q QH P PH K
  emptied = with_empty_channel (record old { handles = remove old.handles k }) only_client p.0.message.channel

  released_is : after_release old k ≡ emptied
  unfolding emptied
  released_is =
      ap (λ o. option_map_or
      (λ handle. without_unused_port (after_handle_gone (record old { handles = remove old.handles k }) handle) (port_of handle)) o
      (without_unused_port (without_port_value old k) k)) (h.1 ∙ ap Some p.1)
      ∙ ap (λ c. without_unused_port (with_empty_channel (record old { handles = remove old.handles k }) c p.0.message.channel) c)
      (p.2 ∙ request_client k q asks)
      ∙ ap (λ b. cond (b || is_server_value emptied only_client || list_any (λ handle. eqb (port_of handle) only_client) (all_handles emptied)) emptied
      (cond (is_some (client_at emptied only_client)) (after_client_left emptied only_client) (after_server_left emptied only_client))) has_value

  module _ (new : State Q QH P PH K) (gone : new ≡ after_release old k) where
    new_is : new ≡ emptied
    new_is = gone ∙ released_is

    roles_new : roles_of new.handles ≡ remove (roles_of old.handles) k
    unfolding emptied
    roles_new = ap (λ (s : State Q QH P PH K). roles_of s.handles) new_is ∙ roles-remove old.handles k

    requests_new : new.requests ≡ old.requests
    unfolding emptied
    requests_new = ap (λ (s : State Q QH P PH K). s.requests) new_is

    roles_stay : (j : ℕ) (role : Role) → j ≢ k → get (roles_of old.handles) j ≡ Some role → get (roles_of new.handles) j ≡ Some role
    roles_stay j role other e = ap (λ (rs : Roles). get rs j) roles_new ∙ get-remove_other (roles_of old.handles) k j other ∙ e

    lists_stay : (n : ℕ) (key : RequestKey) → list_any (λ m. is_request n (question_of m)) (at old.requests key) ≡ true → Lives new n
    lists_stay n key there = inr (key, ap (λ ls. list_any (λ m. is_request n (question_of m)) (at ls key)) requests_new ∙ there)

    -- the request itself lives elsewhere
    itself_lives : Lives new k
    itself_lives = ⊎_elim
        (λ held. inl (held.0, held.1, refl, roles_stay held.0 held.1 held.2 held.3, held.4))
        (λ listed. lists_stay k listed.0 listed.1)
        elsewhere

    keeps : (n : ℕ) → Lives old n → Lives new n
    keeps n lives = ⊎_elim
        (λ held. ⊎_elim
        (λ same. let e : Some held.1 ≡ Some (SentRequest q) = sym held.3 ∙ ap (get (roles_of old.handles)) same ∙ waits in
        let is : held.1 ≡ SentRequest q = cc in
        let about : is_request n q ≡ true = ap (is_about n) (sym is) ∙ held.4 in
        subst (Lives new) (sym (number_is k q asks) ∙ number_is n q about) itself_lives)
        (λ other. inl (held.0, held.1, refl, roles_stay held.0 held.1 other held.3, held.4))
        (cases_eq held.0 k))
        (λ listed. lists_stay n listed.0 listed.1)
        lives

    -- as much is held as before
    pub released_holds : IsReached new → IsHolding new limits pool count
    unfolding emptied
    released_holds reached =
        holds_still old new limits pool count holding reached (ap (λ (s : State Q QH P PH K). s.limits) new_is)
        (subst (λ (s : State Q QH P PH K). IsSomeAnd (client_at s only_client) (λ c. (c.pool_size ≡ pool) × (c.has_value ≡ true)))
        (sym new_is) holding.client)
        (λ key other. ap (λ ls. at ls key) requests_new ∙ holding.others key other) keeps

    -- and nothing came to the server that is served, nor left the list to it
    pub released_served : (server : ℕ) (entries : List (RequestMessage Q QH)) → IsServed old server entries → IsServed new server entries
    unfolding emptied
    released_served server entries served = record {
      older = served.older;
      newest = served.newest;
      servers_are = ap (λ (s : State Q QH P PH K). s.servers) new_is ∙ served.servers_are;
      newest_is = served.newest_is;
      older_others = served.older_others;
      entries_are = ap (λ ls. at ls (request_key only_client server)) requests_new ∙ served.entries_are;
    }
