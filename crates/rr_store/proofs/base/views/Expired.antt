-- Whom receivers still have messages of, of the ports that left, as lists change.
use Rattle.std.proofs.Common.{◌≡◌, ◌≢◌, ◌||◌, ◌&&◌, ℕ, Bool, true, false, cond, not, List, [], ◌∷◌, ◌++◌, Some, refl, sym, ap, ◌∙◌}
use Rattle.std.specs.Prelude.{◌==◌, map, filter, slice_get}
use Rattle.std.specs.List.{list_any}
use Rattle.std.specs.Ordering.{eq_by_cmp, nat_cmp}
use Rattle.std.specs.Cmp.{nat_cmp_total}
use Rattle.std.specs.FinMap.{nat_cmp-IsAntisymmetric, retain_keys}
use Rattle.std.proofs.lemmas.Bool.{false≢true, eqb-true, and_parts, ne_eqb}
use Rattle.std.proofs.lemmas.List.{append-nil}
use Rattle.std.proofs.lemmas.List.Folds.{list_any-append}
use Rattle.rr_table.proofs.ListFacts.{any-map, or_true}
use Rattle.rr_table.proofs.MapFacts.{itself}
use Rattle.rr_protocol.specs.Lists.{Lists, at, filled_keys, no_lists, with_at}
use Rattle.rr_protocol.specs.Keys.{RequestKey, ResponseKey, request_key_cmp, response_key_cmp}
use Rattle.rr_protocol.proofs.KeyLaws.{request_keys_total, request_keys_exact, response_keys_total, response_keys_exact}
use Rattle.rr_protocol.proofs.ListsLaws.{at-no_lists, at-retain_keys, same_lists}
use Rattle.std.proofs.lemmas.List.Elements.{filter_agree}
use Rattle.rr_laws.proofs.Completing.{filter_never}
use Rattle.rr_laws.proofs.ExpiredLists.{at-with_at-other, each_other_with, filled_stays}
use Rattle.rr_laws.proofs.Filled.{filled_gives, filled_there}
use Rattle.rr_store.specs.Expired.{expired_of, expired_to, receivers, requests_from, responses_from}
use Rattle.rr_store.proofs.base.views.Keyed.{at_each}
use Rattle.rr_store.proofs.releasing.active.MayAnswer.{filter_same}

-- two tests that pass together are one
both_ways : (a b : Bool) → (a ≡ true → b ≡ true) → (b ≡ true → a ≡ true) → a ≡ b
both_ways true b there back = sym (there refl)
both_ways false true there back = back refl
both_ways false false there back = refl

module _ {X : Type 0} where
  -- a client's requests to a server, where no list from it to the server gets its first
  pub requests_stay : (before after : Lists request_key_cmp X) (server client : ℕ)
      → ((key : RequestKey) → key.server ≡ server → key.client ≡ client → at before key ≢ [] → at after key ≢ [])
      → requests_from before server client ≡ true → requests_from after server client ≡ true
  requests_stay before after server client stays =
      filled_stays request_keys_total request_keys_exact (λ key. key.server == server && key.client == client) before after
      (λ key h. let both = and_parts (key.server == server) (key.client == client) h in
      stays key (eqb-true key.server server both.0) (eqb-true key.client client both.1))

  -- and where the lists are the same
  pub requests_alike : (before after : Lists request_key_cmp X) (server client : ℕ)
      → ((key : RequestKey) → key.server ≡ server → key.client ≡ client → at after key ≡ at before key)
      → requests_from after server client ≡ requests_from before server client
  requests_alike before after server client same =
      both_ways _ _
      (requests_stay after before server client (λ key s c some none. some (same key s c ∙ none)))
      (requests_stay before after server client (λ key s c some none. some (sym (same key s c) ∙ none)))

  -- the same of a server's responses to a client
  pub responses_stay : (before after : Lists response_key_cmp X) (client server : ℕ)
      → ((key : ResponseKey) → key.server ≡ server → key.client ≡ client → at before key ≢ [] → at after key ≢ [])
      → responses_from before client server ≡ true → responses_from after client server ≡ true
  responses_stay before after client server stays =
      filled_stays response_keys_total response_keys_exact (λ key. key.server == server && key.client == client) before after
      (λ key h. let both = and_parts (key.server == server) (key.client == client) h in
      stays key (eqb-true key.server server both.0) (eqb-true key.client client both.1))

  pub responses_alike : (before after : Lists response_key_cmp X) (client server : ℕ)
      → ((key : ResponseKey) → key.server ≡ server → key.client ≡ client → at after key ≡ at before key)
      → responses_from after client server ≡ responses_from before client server
  responses_alike before after client server same =
      both_ways _ _
      (responses_stay after before client server (λ key s c some none. some (same key s c ∙ none)))
      (responses_stay before after client server (λ key s c some none. some (sym (same key s c) ∙ none)))

module _ {X Y : Type 0} (requests : Lists request_key_cmp X) (responses : Lists response_key_cmp Y) where
  -- who has a message is a receiver
  request_listed : (n l : ℕ) → requests_from requests n l ≡ true → list_any (eq_by_cmp nat_cmp n) (receivers requests responses) ≡ true
  request_listed n l h =
      let f = filled_gives request_keys_total request_keys_exact (λ key. key.server == n && key.client == l) requests h in
      let same : f.0.server ≡ n = eqb-true f.0.server n (and_parts (f.0.server == n) (f.0.client == l) f.2).0 in
      let there = filled_there request_keys_total request_keys_exact (λ key. eq_by_cmp nat_cmp n key.server) requests f.0 f.1
      (ap (eq_by_cmp nat_cmp n) same ∙ itself nat_cmp_total n) in
      list_any-append (eq_by_cmp nat_cmp n) (map (λ key. key.server) (filled_keys requests)) _
      ∙ ap (λ b. b || list_any (eq_by_cmp nat_cmp n) (map (λ key. key.client) (filled_keys responses)))
      (any-map (λ (key : RequestKey). key.server) (eq_by_cmp nat_cmp n) (filled_keys requests) ∙ there)

  response_listed : (n l : ℕ) → responses_from responses n l ≡ true → list_any (eq_by_cmp nat_cmp n) (receivers requests responses) ≡ true
  response_listed n l h =
      let f = filled_gives response_keys_total response_keys_exact (λ key. key.server == l && key.client == n) responses h in
      let same : f.0.client ≡ n = eqb-true f.0.client n (and_parts (f.0.server == l) (f.0.client == n) f.2).1 in
      let there = filled_there response_keys_total response_keys_exact (λ key. eq_by_cmp nat_cmp n key.client) responses f.0 f.1
      (ap (eq_by_cmp nat_cmp n) same ∙ itself nat_cmp_total n) in
      list_any-append (eq_by_cmp nat_cmp n) (map (λ key. key.server) (filled_keys requests)) _
      ∙ ap (λ b. list_any (eq_by_cmp nat_cmp n) (map (λ key. key.server) (filled_keys requests)) || b)
      (any-map (λ (key : ResponseKey). key.client) (eq_by_cmp nat_cmp n) (filled_keys responses) ∙ there)
      ∙ or_true _ true refl

  listed : (clients servers : List ℕ) (n x : ℕ) (xs : List ℕ) → expired_to requests responses clients servers n ≡ x ∷ xs
      → list_any (eq_by_cmp nat_cmp n) (receivers requests responses) ≡ true
  listed clients servers n x xs e = go (list_any (eq_by_cmp nat_cmp n) (receivers requests responses)) refl
    where
      never : (b : Bool) → (b ≡ true → list_any (eq_by_cmp nat_cmp n) (receivers requests responses) ≡ true)
          → list_any (eq_by_cmp nat_cmp n) (receivers requests responses) ≡ false → b ≡ false
      never false gives none = refl
      never true gives none = absurd (false≢true (sym none ∙ gives refl))

      go : (b : Bool) → list_any (eq_by_cmp nat_cmp n) (receivers requests responses) ≡ b
          → list_any (eq_by_cmp nat_cmp n) (receivers requests responses) ≡ true
      go true h = h
      go false h =
          let a = filter_never (requests_from requests n) (λ l. never (requests_from requests n l) (request_listed n l) h) clients in
          let b = filter_never (responses_from responses n) (λ l. never (responses_from responses n l) (response_listed n l) h) servers in
          absurd (let f : [] ≡ x ∷ xs = sym (ap (λ ls. ls ++ filter (responses_from responses n) servers) a ∙ b) ∙ e in cc)

  -- whom a port still has messages of
  pub at_expired : (clients servers : List ℕ) (n : ℕ)
      → at (expired_of requests responses clients servers) n ≡ expired_to requests responses clients servers n
  at_expired clients servers n =
      at_each nat_cmp_total nat_cmp-IsAntisymmetric (receivers requests responses) (expired_to requests responses clients servers) n
      (listed clients servers n)

  -- where no port left, nobody has messages of one
  pub none_expired : expired_of requests responses [] [] ≡ no_lists
  none_expired =
      same_lists nat_cmp_total nat_cmp-IsAntisymmetric _ _ (λ n. at_expired [] [] n ∙ sym (at-no_lists nat_cmp n))

module _ {X Y : Type 0} (clients servers : List ℕ) (requests new_requests : Lists request_key_cmp X)
    (responses new_responses : Lists response_key_cmp Y) where
  -- the same, where each has messages of the same
  pub expired_alike : ((n i l : ℕ) → slice_get clients i ≡ Some l → requests_from new_requests n l ≡ requests_from requests n l)
      → ((n i l : ℕ) → slice_get servers i ≡ Some l → responses_from new_responses n l ≡ responses_from responses n l)
      → expired_of new_requests new_responses clients servers ≡ expired_of requests responses clients servers
  expired_alike from_clients from_servers =
      same_lists nat_cmp_total nat_cmp-IsAntisymmetric _ _
      (λ n. at_expired new_requests new_responses clients servers n
      ∙ ap (λ ls. ls ++ filter (responses_from new_responses n) servers)
      (filter_same (requests_from new_requests n) (requests_from requests n) clients (λ i l at. from_clients n i l at))
      ∙ ap (λ ls. filter (requests_from requests n) clients ++ ls)
      (filter_same (responses_from new_responses n) (responses_from responses n) servers (λ i l at. from_servers n i l at))
      ∙ sym (at_expired requests responses clients servers n))

-- a test that only those pass which pass another chooses the same of all as of those
filter_within : (t u : ℕ → Bool) → ((x : ℕ) → u x ≡ true → t x ≡ true) → (xs : List ℕ) → filter u (filter t xs) ≡ filter u xs
filter_within t u within [] = refl
filter_within t u within (x ∷ xs) = go (t x) (u x) refl refl (filter_within t u within xs)
  where
    go : (a b : Bool) → t x ≡ a → u x ≡ b → filter u (filter t xs) ≡ filter u xs
        → filter u (cond a (x ∷ filter t xs) (filter t xs)) ≡ cond b (x ∷ filter u xs) (filter u xs)
    go true true e f rest = rw f (ap (λ ys. x ∷ ys) rest)
    go true false e f rest = rw f rest
    go false true e f rest = absurd (false≢true (sym e ∙ within x f))
    go false false e f rest = rest

-- lists that differ at one number alone
changed_at : (before after : Lists nat_cmp ℕ) (n : ℕ) (xs : List ℕ) → at after n ≡ xs → ((m : ℕ) → m ≢ n → at after m ≡ at before m)
    → after ≡ with_at before n xs
changed_at before after n xs here others =
    same_lists nat_cmp_total nat_cmp-IsAntisymmetric after (with_at before n xs)
    (each_other_with nat_cmp_total nat_cmp-IsAntisymmetric (λ m ys. at after m ≡ ys) before n xs here others)

module _ {X Y : Type 0} (clients servers : List ℕ) (n : ℕ) where
  -- a server's lists lost messages, and it is no client
  pub requests_narrowed : (requests new_requests : Lists request_key_cmp X) (responses : Lists response_key_cmp Y)
      → ((m l : ℕ) → m ≢ n → requests_from new_requests m l ≡ requests_from requests m l)
      → ((l : ℕ) → requests_from new_requests n l ≡ true → requests_from requests n l ≡ true)
      → ((l : ℕ) → responses_from responses n l ≡ false)
      → expired_of new_requests responses clients servers ≡ with_at (expired_of requests responses clients servers) n
      (filter (requests_from new_requests n) (at (expired_of requests responses clients servers) n))
  requests_narrowed requests new_requests responses others within none =
      let alone : (clients : List ℕ) → clients ++ filter (responses_from responses n) servers ≡ clients = λ clients.
      ap (λ ls. clients ++ ls) (filter_never (responses_from responses n) none servers) ∙ append-nil clients in
      changed_at (expired_of requests responses clients servers) (expired_of new_requests responses clients servers) n _
      (at_expired new_requests responses clients servers n ∙ alone (filter (requests_from new_requests n) clients)
      ∙ sym (filter_within (requests_from requests n) (requests_from new_requests n) within clients)
      ∙ sym (ap (filter (requests_from new_requests n)) (at_expired requests responses clients servers n
      ∙ alone (filter (requests_from requests n) clients))))
      (λ m differs. at_expired new_requests responses clients servers m
      ∙ ap (λ ls. ls ++ filter (responses_from responses m) servers)
      (filter_agree (requests_from new_requests m) (requests_from requests m) (λ l. others m l differs) clients)
      ∙ sym (at_expired requests responses clients servers m))

  -- a client's lists lost messages, and it is no server
  pub responses_narrowed : (requests : Lists request_key_cmp X) (responses new_responses : Lists response_key_cmp Y)
      → ((m l : ℕ) → m ≢ n → responses_from new_responses m l ≡ responses_from responses m l)
      → ((l : ℕ) → responses_from new_responses n l ≡ true → responses_from responses n l ≡ true)
      → ((l : ℕ) → requests_from requests n l ≡ false)
      → expired_of requests new_responses clients servers ≡ with_at (expired_of requests responses clients servers) n
      (filter (responses_from new_responses n) (at (expired_of requests responses clients servers) n))
  responses_narrowed requests responses new_responses others within none =
      let alone : (servers : List ℕ) → filter (requests_from requests n) clients ++ servers ≡ servers = λ servers.
      ap (λ ls. ls ++ servers) (filter_never (requests_from requests n) none clients) in
      changed_at (expired_of requests responses clients servers) (expired_of requests new_responses clients servers) n _
      (at_expired requests new_responses clients servers n ∙ alone (filter (responses_from new_responses n) servers)
      ∙ sym (filter_within (responses_from responses n) (responses_from new_responses n) within servers)
      ∙ sym (ap (filter (responses_from new_responses n)) (at_expired requests responses clients servers n
      ∙ alone (filter (responses_from responses n) servers))))
      (λ m differs. at_expired requests new_responses clients servers m
      ∙ ap (λ ls. filter (requests_from requests m) clients ++ ls)
      (filter_agree (responses_from new_responses m) (responses_from responses m) (λ l. others m l differs) servers)
      ∙ sym (at_expired requests responses clients servers m))

module _ {X Y : Type 0} (clients servers : List ℕ) (requests : Lists request_key_cmp X) (responses : Lists response_key_cmp Y) where
  -- a list to a server, which is no client, lost its first request
  pub request_gone : (key : RequestKey) (message : X) (rest : List X) → at requests key ≡ message ∷ rest
      → ((l : ℕ) → responses_from responses key.server l ≡ false)
      → expired_of (with_at requests key rest) responses clients servers ≡ with_at (expired_of requests responses clients servers) key.server
      (filter (requests_from (with_at requests key rest) key.server) (at (expired_of requests responses clients servers) key.server))
  request_gone key message rest first none =
      requests_narrowed clients servers key.server requests (with_at requests key rest) responses
      (λ m l differs. requests_alike requests (with_at requests key rest) m l (λ k s c.
      at-with_at-other request_keys_total request_keys_exact requests key rest k
      (λ same. differs (sym s ∙ ap (λ (k : RequestKey). k.server) same))))
      (λ l. requests_stay (with_at requests key rest) requests key.server l (λ k s c.
      each_other_with request_keys_total request_keys_exact (λ k xs. xs ≢ [] → at requests k ≢ []) requests key rest
      (λ some none. absurd (let f : message ∷ rest ≡ [] = sym first ∙ none in cc)) (λ k differs some. some) k))
      none

  -- the same of a response
  pub response_gone : (key : ResponseKey) (message : Y) (rest : List Y) → at responses key ≡ message ∷ rest
      → ((l : ℕ) → requests_from requests key.client l ≡ false)
      → expired_of requests (with_at responses key rest) clients servers ≡ with_at (expired_of requests responses clients servers) key.client
      (filter (responses_from (with_at responses key rest) key.client) (at (expired_of requests responses clients servers) key.client))
  response_gone key message rest first none =
      responses_narrowed clients servers key.client requests responses (with_at responses key rest)
      (λ m l differs. responses_alike responses (with_at responses key rest) m l (λ k s c.
      at-with_at-other response_keys_total response_keys_exact responses key rest k
      (λ same. differs (sym c ∙ ap (λ (k : ResponseKey). k.client) same))))
      (λ l. responses_stay (with_at responses key rest) responses key.client l (λ k s c.
      each_other_with response_keys_total response_keys_exact (λ k xs. xs ≢ [] → at responses k ≢ []) responses key rest
      (λ some none. absurd (let f : message ∷ rest ≡ [] = sym first ∙ none in cc)) (λ k differs some. some) k))
      none

  -- a client, which is no server, lost all responses of a channel
  pub channel_gone : (client channel : ℕ) → ((l : ℕ) → requests_from requests client l ≡ false)
      → let kept = retain_keys responses (λ key. not (key.client == client && key.channel == channel)) in
      expired_of requests kept clients servers ≡ with_at (expired_of requests responses clients servers) client
      (filter (responses_from kept client) (at (expired_of requests responses clients servers) client))
  channel_gone client channel none =
      let stays : ResponseKey → Bool = λ key. not (key.client == client && key.channel == channel) in
      let kept = retain_keys responses stays in
      let there : (k : ResponseKey) → at kept k ≡ cond (stays k) (at responses k) [] =
      at-retain_keys response_keys_total response_keys_exact responses stays in
      responses_narrowed clients servers client requests responses kept
      (λ m l differs. responses_alike responses kept m l (λ k s c.
      there k ∙ ap (λ b. cond (not (b && k.channel == channel)) (at responses k) [])
      (ne_eqb k.client client (λ same. differs (sym c ∙ same)))))
      (λ l. responses_stay kept responses client l (λ k s c some none. some (there k ∙ either (stays k) (at responses k) none)))
      none
    where
      either : (b : Bool) (xs : List Y) → xs ≡ [] → cond b xs [] ≡ []
      either true xs e = e
      either false xs e = refl
