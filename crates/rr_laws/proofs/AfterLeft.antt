-- What stands at each key after what a port sent expired at each of its receivers, as the port leaves.
use Rattle.std.proofs.Common.{◌≡◌, ◌≢◌, ℕ, Bool, true, false, cond, not, eqb, ◌&&◌, List, [], ◌∷◌, map, refl, sym, ap, ◌∙◌, subst}
use Rattle.std.specs.Prelude.{◌||◌, find, fold, is_some, nat_eq}
use Rattle.std.specs.List.{AllByRecursion, list_any, IsDistinct}
use Rattle.std.specs.declared.cmp.Ordering.{Ordering}
use Rattle.std.specs.Ordering.{nat_cmp}
use Rattle.std.specs.Cmp.{IsTotalOrder, nat_cmp_total, both_ways}
use Rattle.std.specs.FinMap as fin_map
use Rattle.std.specs.FinMap.{nat_cmp-IsAntisymmetric}
use Rattle.std.proofs.lemmas.Bool.{eq-eqb, eqb-true, eqb-false, ne_eqb}
use Rattle.rr_protocol.specs.Lists.{Lists, at, with_at, filled_keys}
use Rattle.rr_protocol.specs.Keys.{RequestKey, ResponseKey, request_key_cmp, response_key_cmp}
use Rattle.rr_protocol.specs.Messages.{RequestMessage, ResponseMessage}
use Rattle.rr_protocol.specs.Ports.{Client, Server}
use Rattle.rr_protocol.specs.State.{State}
use Rattle.rr_protocol.specs.Releases.{outdated_senders, kept_senders, has_responses_from, has_requests_from, room_for_expired_clients, with_expired_client, with_expired_server}
use Rattle.rr_protocol.proofs.KeyLaws.{request_keys_total, request_keys_exact, response_keys_total, response_keys_exact}
use Rattle.rr_protocol.proofs.ListsLaws.{at-with_at, at-retain_keys}
use Rattle.rr_laws.specs.Reached.{has_client, has_server}
use Rattle.rr_table.proofs.ListFacts.{any-map, any_found}
use Rattle.rr_table.proofs.MapFacts.{itself}
use Rattle.rr_laws.proofs.Counts.{and_first, and_second}
use Rattle.rr_laws.proofs.ExpiredLists.{at-with_at-other, filled_stays}

-- a number that differs from each of these is none of them
unnamed : (n : ℕ) (ns : List ℕ) → AllByRecursion (λ k. nat_eq n k ≡ false) ns → list_any (λ k. eqb k n) ns ≡ false
unnamed n [] h = refl
unnamed n (k ∷ ks) h =
    ap (λ b. b || list_any (λ j. eqb j n) ks) (ne_eqb k n (λ same. eqb-false n k h.0 (sym same))) ∙ unnamed n ks h.1

-- the numbers of some ports name those that are found by their numbers
named_found : {X : Type 0} (id : X → ℕ) (n : ℕ) (xs : List X) → list_any (λ k. eqb k n) (map id xs) ≡ is_some (find (λ x. eqb (id x) n) xs)
named_found id n xs = any-map id (λ k. eqb k n) xs ∙ sym (any_found (λ x. eqb (id x) n) xs)

-- whether a receiver with this list of senders that left doesn't list this one any more, after one more left
abbrev is_outdated : ℕ → ℕ → List ℕ → ℕ → Bool
is_outdated room leaving listed sender = list_any (λ c. eqb c sender) (outdated_senders room listed leaving)

module _ {X : Type 0} where
  -- what is kept if a test fails is dropped if it passes
  none_or : (b : Bool) (xs : List X) → cond (not b) xs [] ≡ cond b [] xs
  none_or true xs = refl
  none_or false xs = refl

-- one direction: a key has a receiver and a sender, and each receiver lists senders that left. `theirs` says whether a key is one from the
-- sender that leaves to the receiver with a number
module _ {A X : Type 0} {cmp : A → A → Ordering} (receiver sender : A → ℕ) (theirs : ℕ → A → Bool) (room leaving : ℕ) where
  -- whether a receiver has an entry of the sender that leaves
  abbrev has_entry : Lists cmp X → ℕ → Bool
  has_entry lists n = list_any (theirs n) (filled_keys lists)

  -- after the sender expired at one receiver
  abbrev expire : Lists cmp X × Lists nat_cmp ℕ → ℕ → Lists cmp X × Lists nat_cmp ℕ
  expire p n = cond (has_entry p.0 n) (
    fin_map.retain_keys p.0 (λ key. not (eqb (receiver key) n && is_outdated room leaving (at p.1 n) (sender key))),
    with_at p.1 n (kept_senders room (at p.1 n) leaving),
  ) p

  -- what stands at the keys of one receiver, and whom it lists, if the sender expired there, or else as before
  abbrev Stands : Lists cmp X × Lists nat_cmp ℕ → Lists cmp X × Lists nat_cmp ℕ → ℕ → Bool → Type 0
  Stands p q m expired =
      ((key : A) → receiver key ≡ m →
      at q.0 key ≡ cond ((expired && has_entry p.0 m) && is_outdated room leaving (at p.1 m) (sender key)) [] (at p.0 key))
      × (at q.1 m ≡ cond (expired && has_entry p.0 m) (kept_senders room (at p.1 m) leaving) (at p.1 m))

  module _ (o : IsTotalOrder cmp) (exact : fin_map.IsAntisymmetric cmp) where
    module _ (p : Lists cmp X × Lists nat_cmp ℕ) (n : ℕ) where
      -- what becomes of one receiver
      abbrev outdated : A → Bool
      outdated key = is_outdated room leaving (at p.1 n) (sender key)

      abbrev kept : A → Bool
      kept key = not (eqb (receiver key) n && outdated key)

      abbrev listed : List ℕ
      listed = kept_senders room (at p.1 n) leaving

      abbrev after : Bool → Lists cmp X × Lists nat_cmp ℕ
      after b = cond b (fin_map.retain_keys p.0 kept, with_at p.1 n listed) p

      -- at the receiver where it expires
      expire_here : Stands p (expire p n) n true
      expire_here = go (has_entry p.0 n)
        where
          go : (b : Bool) → ((key : A) → receiver key ≡ n → at (after b).0 key ≡ cond (b && outdated key) [] (at p.0 key))
              × (at (after b).1 n ≡ cond b listed (at p.1 n))
          go true = (
            (λ key e. at-retain_keys o exact p.0 kept key
                ∙ ap (λ b. cond (not (b && outdated key)) (at p.0 key) []) (eq-eqb (receiver key) n e)
                ∙ none_or (outdated key) (at p.0 key)),
            at-with_at nat_cmp_total p.1 n listed n ∙ ap (λ b. cond b listed (at p.1 n)) (itself nat_cmp_total n),
          )
          go false = ((λ key e. refl), refl)

      -- at another receiver
      expire_other : (m : ℕ) → m ≢ n → Stands p (expire p n) m false
      expire_other m other = go (has_entry p.0 n)
        where
          go : (b : Bool) → ((key : A) → receiver key ≡ m → at (after b).0 key ≡ at p.0 key) × (at (after b).1 m ≡ at p.1 m)
          go true = (
            (λ key e. at-retain_keys o exact p.0 kept key
                ∙ ap (λ b. cond (not (b && outdated key)) (at p.0 key) []) (ne_eqb (receiver key) n (λ same. other (sym e ∙ same)))),
            at-with_at-other nat_cmp_total nat_cmp-IsAntisymmetric p.1 n listed m other,
          )
          go false = ((λ key e. refl), refl)

    module _ (names : (n : ℕ) (key : A) → theirs n key ≡ true → receiver key ≡ n) where
      -- after it expired at each of these receivers
      each_stands : (ns : List ℕ) → IsDistinct nat_eq ns → (p : Lists cmp X × Lists nat_cmp ℕ) (m : ℕ)
          → Stands p (fold expire p ns) m (list_any (λ k. eqb k m) ns)
      unfolding IsDistinct
      each_stands [] d p m = ((λ key e. refl), refl)
      each_stands (n ∷ ns) d p m = go (eqb n m) refl (each_stands ns d.1 (expire p n) m)
        where
          q : Lists cmp X × Lists nat_cmp ℕ
          q = fold expire (expire p n) ns

          named : Bool
          named = list_any (λ k. eqb k m) ns

          go : (b : Bool) → eqb n m ≡ b → Stands (expire p n) q m named → Stands p q m (b || named)
          go true e rest =
              let same : n ≡ m = eqb-true n m e in
              let here : Stands p (expire p n) m true = subst (λ k. Stands p (expire p n) k true) same (expire_here p n) in
              let stays : Stands (expire p n) q m false =
              subst (Stands (expire p n) q m) (unnamed m ns (subst (λ k. AllByRecursion (λ j. nat_eq k j ≡ false) ns) same d.0)) rest in
              ((λ key of. stays.0 key of ∙ here.0 key of), stays.1 ∙ here.1)
          go false e rest =
              let other : Stands p (expire p n) m false = expire_other p n m (λ same. eqb-false n m e (sym same)) in
              let has : has_entry (expire p n).0 m ≡ has_entry p.0 m =
              both_ways _ _
              (filled_stays o exact (theirs m) (expire p n).0 p.0 (λ key h some none. some (other.0 key (names m key h) ∙ none)))
              (filled_stays o exact (theirs m) p.0 (expire p n).0 (λ key h some none. some (sym (other.0 key (names m key h)) ∙ none))) in (
                (λ key of. rest.0 key of
                    ∙ (λ i. cond ((named && has i) && is_outdated room leaving (other.1 i) (sender key)) [] (other.0 key of i))),
                rest.1 ∙ (λ i. cond (named && has i) (kept_senders room (other.1 i) leaving) (other.1 i)),
              )

      -- after it expired at each of these ports
      ports_stand : {Y : Type 0} (id : Y → ℕ) (ports : List Y) → IsDistinct nat_eq (map id ports)
          → (p : Lists cmp X × Lists nat_cmp ℕ) (m : ℕ) →
          Stands p (fold expire p (map id ports)) m (is_some (find (λ y. eqb (id y) m) ports))
      ports_stand id ports once p m =
          subst (Stands p (fold expire p (map id ports)) m) (named_found id m ports) (each_stands (map id ports) once p m)

-- whether a key's list is from this client to this server
abbrev asks : ℕ → ℕ → RequestKey → Bool
asks client server key = eqb key.server server && eqb key.client client

-- and whether it is from this server to this client
abbrev answers : ℕ → ℕ → ResponseKey → Bool
answers server client key = eqb key.server server && eqb key.client client

module _ {Q QH P PH K : Type 0} where
  -- a hub after a client expired at each server
  abbrev pub after_client_expired : State Q QH P PH K → ℕ → State Q QH P PH K
  after_client_expired s client = fold (with_expired_client client) s (map (λ (c : Server K). c.id) s.servers)

  -- a hub after a server expired at each client
  abbrev pub after_server_expired : State Q QH P PH K → ℕ → State Q QH P PH K
  after_server_expired s server = fold (with_expired_server server) s (map (λ (c : Client K). c.id) s.clients)

  -- the requests, and whom each server lists, after a client expired at these servers
  abbrev expired_requests : State Q QH P PH K → ℕ → List ℕ → Lists request_key_cmp (RequestMessage Q QH) × Lists nat_cmp ℕ
  expired_requests s client =
      fold (expire (λ key. key.server) (λ key. key.client) (asks client) (room_for_expired_clients s) client) (s.requests, s.expired)

  -- only those become others as it expires at these servers
  client_expired_at : (client : ℕ) (servers : List ℕ) (s : State Q QH P PH K) → let q = expired_requests s client servers in
      fold (with_expired_client client) s servers ≡ record s { requests = q.0; expired = q.1 }
  client_expired_at client [] s = refl
  client_expired_at client (server ∷ servers) s =
      let q = expired_requests s client (server ∷ []) in
      ap (λ (x : State Q QH P PH K). fold (with_expired_client client) x servers) (one (has_requests_from s server client) _ _)
      ∙ client_expired_at client servers (record s { requests = q.0; expired = q.1 })
    where
      one : (b : Bool) (requests : Lists request_key_cmp (RequestMessage Q QH)) (expired : Lists nat_cmp ℕ) →
          let q : Lists request_key_cmp (RequestMessage Q QH) × Lists nat_cmp ℕ = cond b (requests, expired) (s.requests, s.expired) in
          cond b (record s { requests = requests; expired = expired }) s ≡ record s { requests = q.0; expired = q.1 }
      one true requests expired = refl
      one false requests expired = refl

  -- the responses, and whom each client lists, after a server expired at these clients
  abbrev expired_responses : State Q QH P PH K → ℕ → List ℕ → Lists response_key_cmp (ResponseMessage P PH) × Lists nat_cmp ℕ
  expired_responses s server =
      fold (expire (λ key. key.client) (λ key. key.server) (answers server) s.limits.client_expired_connection_buffer server)
      (s.responses, s.expired)

  -- only those become others as it expires at these clients
  server_expired_at : (server : ℕ) (clients : List ℕ) (s : State Q QH P PH K) → let q = expired_responses s server clients in
      fold (with_expired_server server) s clients ≡ record s { responses = q.0; expired = q.1 }
  server_expired_at server [] s = refl
  server_expired_at server (client ∷ clients) s =
      let q = expired_responses s server (client ∷ []) in
      ap (λ (x : State Q QH P PH K). fold (with_expired_server server) x clients) (one (has_responses_from s client server) _ _)
      ∙ server_expired_at server clients (record s { responses = q.0; expired = q.1 })
    where
      one : (b : Bool) (responses : Lists response_key_cmp (ResponseMessage P PH)) (expired : Lists nat_cmp ℕ) →
          let q : Lists response_key_cmp (ResponseMessage P PH) × Lists nat_cmp ℕ = cond b (responses, expired) (s.responses, s.expired) in
          cond b (record s { responses = responses; expired = expired }) s ≡ record s { responses = q.0; expired = q.1 }
      one true responses expired = refl
      one false responses expired = refl

  -- as a client leaves, nothing changes but the requests and whom the servers list
  pub rest_left : (s : State Q QH P PH K) (client : ℕ) → let left = after_client_expired s client in
      left ≡ record s { requests = left.requests; expired = left.expired }
  rest_left s client = subst (λ (y : State Q QH P PH K). y ≡ record s { requests = y.requests; expired = y.expired })
      (sym (client_expired_at client (map (λ (c : Server K). c.id) s.servers) s)) refl

  -- as a server leaves, nothing changes but the responses and whom the clients list
  pub rest_left_by_server : (s : State Q QH P PH K) (server : ℕ) → let left = after_server_expired s server in
      left ≡ record s { responses = left.responses; expired = left.expired }
  rest_left_by_server s server = subst (λ (y : State Q QH P PH K). y ≡ record s { responses = y.responses; expired = y.expired })
      (sym (server_expired_at server (map (λ (c : Client K). c.id) s.clients) s)) refl

  module _ (s : State Q QH P PH K) (client : ℕ) (once : IsDistinct nat_eq (map (λ (c : Server K). c.id) s.servers)) where
    requests_stand : (n : ℕ) → Stands {cmp = request_key_cmp} (λ key. key.server) (λ key. key.client) (asks client)
        (room_for_expired_clients s) client (s.requests, s.expired)
        (expired_requests s client (map (λ (c : Server K). c.id) s.servers)) n (has_server s.servers n)
    requests_stand =
        ports_stand (λ key. key.server) (λ key. key.client) (asks client) (room_for_expired_clients s) client request_keys_total
        request_keys_exact (λ server key h. eqb-true _ _ (and_first _ _ h)) (λ (c : Server K). c.id) s.servers once (s.requests, s.expired)

    -- as a client leaves, a server that has a request of it drops the requests of the clients that it doesn't list any more
    pub requests_left : (key : RequestKey) → at (after_client_expired s client).requests key
        ≡ cond ((has_server s.servers key.server && has_requests_from s key.server client)
        && list_any (λ c. eqb c key.client) (outdated_senders (room_for_expired_clients s) (at s.expired key.server) client))
        [] (at s.requests key)
    requests_left key =
        ap (λ (y : State Q QH P PH K). at y.requests key) (client_expired_at client (map (λ (c : Server K). c.id) s.servers) s)
        ∙ (requests_stand key.server).0 key refl

    -- and lists it as the newest, if there is room
    pub expired_left : (n : ℕ) → at (after_client_expired s client).expired n
        ≡ cond (has_server s.servers n && has_requests_from s n client)
        (kept_senders (room_for_expired_clients s) (at s.expired n) client) (at s.expired n)
    expired_left n =
        ap (λ (y : State Q QH P PH K). at y.expired n) (client_expired_at client (map (λ (c : Server K). c.id) s.servers) s)
        ∙ (requests_stand n).1

  module _ (s : State Q QH P PH K) (server : ℕ) (once : IsDistinct nat_eq (map (λ (c : Client K). c.id) s.clients)) where
    responses_stand : (n : ℕ) → Stands {cmp = response_key_cmp} (λ key. key.client) (λ key. key.server) (answers server)
        s.limits.client_expired_connection_buffer server (s.responses, s.expired)
        (expired_responses s server (map (λ (c : Client K). c.id) s.clients)) n (has_client s.clients n)
    responses_stand =
        ports_stand (λ key. key.client) (λ key. key.server) (answers server) s.limits.client_expired_connection_buffer server
        response_keys_total response_keys_exact (λ client key h. eqb-true _ _ (and_second _ _ h)) (λ (c : Client K). c.id) s.clients once
        (s.responses, s.expired)

    -- as a server leaves, a client that has a response of it drops the responses of the servers that it doesn't list any more
    pub responses_left : (key : ResponseKey) → at (after_server_expired s server).responses key
        ≡ cond ((has_client s.clients key.client && has_responses_from s key.client server)
        && list_any (λ c. eqb c key.server) (outdated_senders s.limits.client_expired_connection_buffer (at s.expired key.client) server))
        [] (at s.responses key)
    responses_left key =
        ap (λ (y : State Q QH P PH K). at y.responses key) (server_expired_at server (map (λ (c : Client K). c.id) s.clients) s)
        ∙ (responses_stand key.client).0 key refl

    -- and lists it as the newest, if there is room
    pub expired_left_by_server : (n : ℕ) → at (after_server_expired s server).expired n
        ≡ cond (has_client s.clients n && has_responses_from s n server)
        (kept_senders s.limits.client_expired_connection_buffer (at s.expired n) server) (at s.expired n)
    expired_left_by_server n =
        ap (λ (y : State Q QH P PH K). at y.expired n) (server_expired_at server (map (λ (c : Client K). c.id) s.clients) s)
        ∙ (responses_stand n).1
