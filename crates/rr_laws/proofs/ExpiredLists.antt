-- A list of senders that left fits as entries come and go.
use Rattle.std.proofs.Common.{◌≡◌, ◌≢◌, ℕ, Bool, true, false, cond, not, eqb, ◌&&◌, List, [], ◌∷◌, ◌++◌, drop, refl, sym, ap, ◌∙◌, subst, arith}
use Rattle.std.specs.Prelude.{◌||◌, map, filter, fold, nat_eq}
use Rattle.std.specs.List.{IsDistinct, list_any}
use Rattle.std.specs.declared.cmp.Ordering.{Ordering}
use Rattle.std.specs.Ordering.{eq_by_cmp}
use Rattle.std.specs.Cmp.{IsTotalOrder, nat_cmp_total}
use Rattle.std.specs.FinMap as fin_map
use Rattle.std.specs.FinMap.{nat_cmp-IsAntisymmetric}
use Rattle.std.proofs.lemmas.Bool.{false≢true, eqb-true}
use Rattle.rr_protocol.specs.Lists.{Lists, at, with_at, filled_keys}
use Rattle.rr_protocol.specs.Keys.{RequestKey, ResponseKey}
use Rattle.rr_protocol.specs.Sends.{is_full, put}
use Rattle.rr_protocol.specs.Ports.{Client, Server}
use Rattle.rr_protocol.specs.State.{State}
use Rattle.rr_protocol.specs.Releases.{has_responses_from, has_requests_from, room_for_expired_clients}
use Rattle.rr_protocol.proofs.KeyLaws.{request_keys_total, request_keys_exact, response_keys_total, response_keys_exact}
use Rattle.rr_protocol.proofs.ListsLaws.{at-with_at, at-retain_keys}
use Rattle.rr_laws.specs.Reached.{has_client, has_server, is_port}
use Rattle.rr_laws.specs.Expired.{SendersFit, ExpiredFit}
use Rattle.rr_table.proofs.ListFacts.{all_each, length-filter_le}
use Rattle.rr_table.proofs.MapFacts.{itself}
use Rattle.rr_laws.proofs.Counts.{and_first, and_second}
use Rattle.rr_laws.proofs.Filled.{same_key, filled_gives, filled_there}
use Rattle.rr_laws.proofs.Putting.{each_list_with}
use Rattle.rr_laws.proofs.Distinct.{all_passing, distinct_filter}

-- a list is not empty after a message came, if it was not before
some_put : {X : Type 0} (overflow : Bool) (capacity : ℕ) (entries : List X) (message : X) → entries ≢ []
    → put overflow capacity entries message ≢ []
some_put {X} overflow capacity entries message some = go (is_full capacity entries) overflow
  where
    longer : (xs : List X) → xs ++ message ∷ [] ≢ []
    longer [] none = absurd (cc)
    longer (x ∷ xs) none = absurd (cc)

    go : (full over : Bool) → cond (not full) (entries ++ message ∷ []) (cond over (drop 1 entries ++ message ∷ []) entries) ≢ []
    go false over = longer entries
    go true true = longer (drop 1 entries)
    go true false = some

module _ {A X : Type 0} {cmp : A → A → Ordering} (o : IsTotalOrder cmp) (exact : fin_map.IsAntisymmetric cmp) where
  -- what holds of a new list at one key and of each other list
  pub each_other_with : (R : A → List X → Type 0) (lists : Lists cmp X) (key : A) (xs : List X) → R key xs
      → ((k : A) → k ≢ key → R k (at lists k)) → (k : A) → R k (at (with_at lists key xs) k)
  each_other_with R lists key xs here other k = subst (R k) (sym (at-with_at o lists key xs k)) (go (eq_by_cmp cmp k key) refl)
    where
      go : (b : Bool) → eq_by_cmp cmp k key ≡ b → R k (cond b xs (at lists k))
      go true e = subst (λ j. R j xs) (sym (same_key exact k key e)) here
      go false e = other k (λ same. false≢true (sym e ∙ ap (λ j. eq_by_cmp cmp j key) same ∙ itself o key))

  -- another key's list stays
  pub at-with_at-other : (lists : Lists cmp X) (key : A) (xs : List X) (k : A) → k ≢ key → at (with_at lists key xs) k ≡ at lists k
  at-with_at-other lists key xs k other = each_other_with (λ j ys. j ≢ key → ys ≡ at lists j) lists key xs
      (λ differs. absurd (differs refl)) (λ j _ _. refl) k other

  -- a list that is kept is not empty, if it was not before
  pub some_retained : (lists : Lists cmp X) (kept : A → Bool) (key : A) → kept key ≡ true → at lists key ≢ []
      → at (fin_map.retain_keys lists kept) key ≢ []
  some_retained lists kept key e some none =
      some (sym (at-retain_keys o exact lists kept key ∙ ap (λ b. cond b (at lists key) []) e) ∙ none)

  -- no list is empty after a message came to some, if it was not before
  pub some_after_put : (overflow : Bool) (capacity : ℕ) (message : X) (before : Lists cmp X) (keys : List A) (lists : Lists cmp X)
      → ((k : A) → at before k ≢ [] → at lists k ≢ []) → (k : A) → at before k ≢ []
      → at (fold (λ ls key. with_at ls key (put overflow capacity (at ls key) message)) lists keys) k ≢ []
  some_after_put overflow capacity message before [] lists stays = stays
  some_after_put overflow capacity message before (key ∷ keys) lists stays =
      some_after_put overflow capacity message before keys (with_at lists key (put overflow capacity (at lists key) message))
      (each_list_with o exact (λ k xs. at before k ≢ [] → xs ≢ []) lists key _
      (λ some. some_put overflow capacity (at lists key) message (stays key some)) stays)

  -- a test that some key with a list passes, where the lists of such keys stay
  pub filled_stays : (t : A → Bool) (before after : Lists cmp X) → ((key : A) → t key ≡ true → at before key ≢ [] → at after key ≢ [])
      → list_any t (filled_keys before) ≡ true → list_any t (filled_keys after) ≡ true
  filled_stays t before after stays h =
      let f = filled_gives o exact t before h in
      filled_there o exact t after f.0 (stays f.0 f.2 f.1) f.2

module _ {Q QH P PH K : Type 0} (s t : State Q QH P PH K) (n c : ℕ) where
  -- a server has a request from a client, if the list from it is not empty where it was not before
  pub requests_stay : ((key : RequestKey) → key.server ≡ n → key.client ≡ c → at s.requests key ≢ [] → at t.requests key ≢ [])
      → has_requests_from s n c ≡ true → has_requests_from t n c ≡ true
  requests_stay stays = filled_stays request_keys_total request_keys_exact (λ key. eqb key.server n && eqb key.client c)
      s.requests t.requests (λ key h. stays key (eqb-true _ _ (and_first _ _ h)) (eqb-true _ _ (and_second _ _ h)))

  -- a client has a response from a server, if no list from it is empty that was not before
  pub responses_stay : ((key : ResponseKey) → key.server ≡ c → key.client ≡ n → at s.responses key ≢ [] → at t.responses key ≢ [])
      → has_responses_from s n c ≡ true → has_responses_from t n c ≡ true
  responses_stay stays = filled_stays response_keys_total response_keys_exact (λ key. eqb key.server c && eqb key.client n)
      s.responses t.responses (λ key h. stays key (eqb-true _ _ (and_first _ _ h)) (eqb-true _ _ (and_second _ _ h)))

module _ {Q QH P PH K : Type 0} where
  -- an empty list fits
  pub nobody_fits : (s : State Q QH P PH K) (n : ℕ) → SendersFit s n []
  unfolding IsDistinct
  nobody_fits s n =
      record {
        few_clients = λ h. omega arith;
        few_servers = λ h. omega arith;
        nobody = λ h. refl;
        requests = λ h. tt;
        responses = λ h. tt;
        once = tt;
      }

  module _ (s t : State Q QH P PH K) (n : ℕ) (limits : t.limits ≡ s.limits) (client : has_client t.clients n ≡ has_client s.clients n)
      (server : has_server t.servers n ≡ has_server s.servers n) (senders : List ℕ) (fits : SendersFit s n senders) where
    same_port : is_port t.clients t.servers n ≡ is_port s.clients s.servers n
    same_port = ap (λ b. b || has_server t.servers n) client ∙ ap (λ b. has_client s.clients n || b) server

    same_room : room_for_expired_clients t ≡ room_for_expired_clients s
    same_room = ap (λ l. cond l.enable_fire_and_forget_requests l.server_expired_connection_buffer 0) limits

    -- a list of the same port in a hub with other entries, where each sender that is listed has one
    pub senders_fit : ((c : ℕ) → has_requests_from s n c ≡ true → has_requests_from t n c ≡ true)
        → ((c : ℕ) → has_responses_from s n c ≡ true → has_responses_from t n c ≡ true) → SendersFit t n senders
    senders_fit requests responses =
        record {
          few_clients = λ h. omega (arith, fits.few_clients (sym server ∙ h), same_room);
          few_servers = λ h. omega (arith, fits.few_servers (sym client ∙ h), ap (λ l. l.client_expired_connection_buffer) limits);
          nobody = λ h. fits.nobody (sym same_port ∙ h);
          requests = λ h. all_each _ _ requests senders (fits.requests (sym server ∙ h));
          responses = λ h. all_each _ _ responses senders (fits.responses (sym client ∙ h));
          once = fits.once;
        }

    -- the senders in the list that pass a test, where each of them has an entry
    pub passing_senders_fit : (p : ℕ → Bool) → ((c : ℕ) → p c ≡ true → has_requests_from s n c ≡ true → has_requests_from t n c ≡ true)
        → ((c : ℕ) → p c ≡ true → has_responses_from s n c ≡ true → has_responses_from t n c ≡ true) → SendersFit t n (filter p senders)
    passing_senders_fit p requests responses =
        record {
          few_clients = λ h. omega (arith, length-filter_le p senders, fits.few_clients (sym server ∙ h), same_room);
          few_servers = λ h. omega (
            arith,
            length-filter_le p senders,
            fits.few_servers (sym client ∙ h),
            ap (λ l. l.client_expired_connection_buffer) limits,
          );
          nobody = λ h. ap (filter p) (fits.nobody (sym same_port ∙ h));
          requests = λ h. all_passing _ _ p requests senders (fits.requests (sym server ∙ h));
          responses = λ h. all_passing _ _ p responses senders (fits.responses (sym client ∙ h));
          once = distinct_filter p senders fits.once;
        }

  module _ (s t : State Q QH P PH K) (limits : t.limits ≡ s.limits) (clients : t.clients ≡ s.clients) (servers : t.servers ≡ s.servers)
      (fits : ExpiredFit s) where
    -- the same ports and lists of senders in a hub with other entries, where each sender that is listed has one
    pub lists_fit : t.expired ≡ s.expired → ((n c : ℕ) → has_requests_from s n c ≡ true → has_requests_from t n c ≡ true)
        → ((n c : ℕ) → has_responses_from s n c ≡ true → has_responses_from t n c ≡ true) → ExpiredFit t
    lists_fit same requests responses =
        record {
          each_client = subst (λ cs. IsDistinct nat_eq (map (λ (c : Client K). c.id) cs)) (sym clients) fits.each_client;
          each_server = subst (λ cs. IsDistinct nat_eq (map (λ (c : Server K). c.id) cs)) (sym servers) fits.each_server;
          each_list = λ n. subst (λ lists. SendersFit t n (at lists n)) (sym same)
              (senders_fit s t n limits (ap (λ cs. has_client cs n) clients) (ap (λ cs. has_server cs n) servers) (at s.expired n)
              (fits.each_list n) (requests n) (responses n));
        }

    -- the same but for one list
    pub lists_fit_but_one : (key : ℕ) (senders : List ℕ) → t.expired ≡ with_at s.expired key senders → SendersFit t key senders
        → ((n c : ℕ) → n ≢ key → has_requests_from s n c ≡ true → has_requests_from t n c ≡ true)
        → ((n c : ℕ) → n ≢ key → has_responses_from s n c ≡ true → has_responses_from t n c ≡ true) → ExpiredFit t
    lists_fit_but_one key senders same here requests responses =
        record {
          each_client = subst (λ cs. IsDistinct nat_eq (map (λ (c : Client K). c.id) cs)) (sym clients) fits.each_client;
          each_server = subst (λ cs. IsDistinct nat_eq (map (λ (c : Server K). c.id) cs)) (sym servers) fits.each_server;
          each_list = λ n. subst (λ lists. SendersFit t n (at lists n)) (sym same)
              (each_other_with nat_cmp_total nat_cmp-IsAntisymmetric (SendersFit t) s.expired key senders here
              (λ k other. senders_fit s t k limits (ap (λ cs. has_client cs k) clients) (ap (λ cs. has_server cs k) servers)
              (at s.expired k) (fits.each_list k) (λ c. requests k c other) (λ c. responses k c other)) n);
        }
