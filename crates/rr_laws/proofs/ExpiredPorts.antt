-- Lists of senders that left fit as ports come and leave.
use Rattle.std.proofs.Common.{◌≡◌, ◌≢◌, ℕ, ◌+◌, ◌-◌, ◌<◌, Bool, true, false, cond, not, eqb, ◌&&◌, List, [], ◌∷◌, ◌++◌, map, length, Option, Some, None, refl, sym, ap, ◌∙◌, subst, arith}
use Rattle.std.specs.Prelude.{◌||◌, find, filter, fold, is_some, nat_eq}
use Rattle.std.specs.List.{AllByRecursion, list_any, IsDistinct}
use Rattle.std.specs.Cmp.{nat_cmp_total}
use Rattle.std.specs.FinMap as fin_map
use Rattle.std.specs.FinMap.{nat_cmp-IsAntisymmetric}
use Rattle.std.proofs.lemmas.Bool.{false≢true, eq-eqb, eqb-true, eqb-false, ne_eqb}
use Rattle.rr_protocol.specs.declared.settings.ClientSettings.{ClientSettings}
use Rattle.rr_protocol.specs.declared.settings.ServerSettings.{ServerSettings}
use Rattle.rr_protocol.specs.Lists.{at, with_at}
use Rattle.rr_protocol.specs.Keys.{RequestKey, ResponseKey}
use Rattle.rr_protocol.specs.Ports.{Client, Server}
use Rattle.rr_protocol.specs.State.{State, client_at}
use Rattle.rr_protocol.specs.Counts.{is_in_use}
use Rattle.rr_protocol.specs.Creation.{with_client, with_server}
use Rattle.rr_protocol.specs.Releases.{outdated_senders, kept_senders, has_responses_from, has_requests_from, room_for_expired_clients, with_expired_client, with_expired_server, after_client_left, after_server_left, without_unused_port, without_server, map_handles}
use Rattle.rr_protocol.proofs.KeyLaws.{request_keys_total, request_keys_exact, response_keys_total, response_keys_exact}
use Rattle.rr_laws.specs.Reached.{has_client, has_server, is_port, IsReached}
use Rattle.rr_laws.specs.Left.{IsLeftFit}
use Rattle.rr_laws.specs.Expired.{SendersFit, ExpiredFit}
use Rattle.rr_table.proofs.ListFacts.{all_each, all_append, all_drop, all_map, each_found, find-append, find-gone}
use Rattle.rr_laws.proofs.Connected.{not_both, no_port_at_next}
use Rattle.rr_laws.proofs.Leaving.{or_no}
use Rattle.rr_laws.proofs.Expiring.{clients_expired, servers_expired}
use Rattle.rr_laws.proofs.Distinct.{all_both, distinct_append, distinct_drop, distinct_parts, length-kept_senders_le, ids_append, ids_filter}
use Rattle.rr_laws.proofs.ExpiredLists.{each_other_with, at-with_at-other, some_retained, requests_stay, responses_stay, nobody_fits, senders_fit, lists_fit_but_one}

-- two tests don't both pass where the second fails
neither : (a b : Bool) → b ≡ false → not (a && b) ≡ true
neither true b e = ap not e
neither false b e = refl

unlike_next : (n next : ℕ) → n < next → nat_eq n next ≡ false
unlike_next n next below = ne_eqb n next (λ same. omega (arith, below, same))

differ : (n k : ℕ) → nat_eq n k ≡ false → k ≢ n
differ n k e same = false≢true (sym e ∙ eq-eqb n k (sym same))

module _ {X : Type 0} (id : X → ℕ) where
  -- who is there after one with another number came
  same-append : (xs : List X) (y : X) (n : ℕ) → id y ≢ n
      → is_some (find (λ x. eqb (id x) n) (xs ++ y ∷ [])) ≡ is_some (find (λ x. eqb (id x) n) xs)
  same-append xs y n other = ap is_some (find-append (λ x. eqb (id x) n) xs y) ∙ go (find (λ x. eqb (id x) n) xs) (eqb (id y) n)
      (ne_eqb (id y) n other)
    where
      go : (o : Option X) (b : Bool) → b ≡ false → is_some (cond (is_some o) o (cond b (Some y) None)) ≡ is_some o
      go (Some x) b e = refl
      go None true e = absurd (false≢true (sym e))
      go None false e = refl

  -- and after those with another number are gone
  same-gone : (gone n : ℕ) (xs : List X) → n ≢ gone
      → is_some (find (λ x. eqb (id x) n) (filter (λ x. not (eqb (id x) gone)) xs)) ≡ is_some (find (λ x. eqb (id x) n) xs)
  same-gone gone n xs other = ap is_some (find-gone id gone n xs)
      ∙ ap (λ b. is_some (cond b None (find (λ x. eqb (id x) n) xs))) (ne_eqb n gone other)

module _ {Q QH P PH K : Type 0} where
  -- the port with this number doesn't list this sender
  abbrev Unlisted : State Q QH P PH K → ℕ → ℕ → Type 0
  Unlisted s sender n = AllByRecursion (λ x. nat_eq x sender ≡ false) (at s.expired n)

  -- a connected server that doesn't list this client
  abbrev IsServerWithout : State Q QH P PH K → ℕ → ℕ → Type 0
  IsServerWithout s client n = (has_server s.servers n ≡ true) × (has_client s.clients n ≡ false) × Unlisted s client n

  -- a connected client that doesn't list this server
  abbrev IsClientWithout : State Q QH P PH K → ℕ → ℕ → Type 0
  IsClientWithout s server n = (has_client s.clients n ≡ true) × (has_server s.servers n ≡ false) × Unlisted s server n

  -- a server lists a client that leaves
  client_expires : (client server : ℕ) (s : State Q QH P PH K) → ExpiredFit s → IsServerWithout s client server
      → ExpiredFit (with_expired_client client s server)
  client_expires client server s fits here = go (has_requests_from s server client) refl
    where
      room : ℕ
      room = room_for_expired_clients s

      listed : List ℕ
      listed = at s.expired server

      gone : List ℕ
      gone = outdated_senders room listed client

      kept : RequestKey → Bool
      kept key = not (eqb key.server server && list_any (λ c. eqb c key.client) gone)

      t : State Q QH P PH K
      t = record s {
        requests = fin_map.retain_keys s.requests kept;
        expired = with_at s.expired server (kept_senders room listed client);
      }

      apart : IsDistinct nat_eq (listed ++ client ∷ [])
      apart = distinct_append listed client (fits.each_list server).once here.2

      stays : (n c : ℕ) → ((key : RequestKey) → key.server ≡ n → key.client ≡ c → kept key ≡ true)
          → has_requests_from s n c ≡ true → has_requests_from t n c ≡ true
      stays n c keeps = requests_stay s t n c (λ key of_server of_client.
          some_retained request_keys_total request_keys_exact s.requests kept key (keeps key of_server of_client))

      list : has_requests_from s server client ≡ true → SendersFit t server (kept_senders room listed client)
      list some = record {
        few_clients = λ h. length-kept_senders_le room listed client;
        few_servers = λ h. absurd (false≢true (sym here.1 ∙ h));
        nobody = λ h. absurd (false≢true (sym (or_no (has_client s.clients server) _ h) ∙ here.0));
        requests = λ h. all_both _ _ _
            (λ c had stands. stays server c (λ key of_server of_client. neither (eqb key.server server) _
            (ap (λ j. list_any (λ x. eqb x j) gone) of_client ∙ stands)) had)
            (kept_senders room listed client)
            (all_drop (λ c. has_requests_from s server c ≡ true) (length listed + 1 - room) (listed ++ client ∷ [])
            (all_append _ listed client ((fits.each_list server).requests here.0) some))
            (distinct_parts (length listed + 1 - room) (listed ++ client ∷ []) apart);
        responses = λ h. absurd (false≢true (sym here.1 ∙ h));
        once = distinct_drop (length listed + 1 - room) (listed ++ client ∷ []) apart;
      }

      go : (b : Bool) → has_requests_from s server client ≡ b → ExpiredFit (cond b t s)
      go false e = fits
      go true e = lists_fit_but_one s t refl refl refl fits server (kept_senders room listed client) refl (list e)
          (λ n c other. stays n c (λ key of_server of_client.
          ap (λ b. not (b && list_any (λ x. eqb x key.client) gone)) (ne_eqb key.server server (λ same. other (sym of_server ∙ same)))))
          (λ n c other h. h)

  -- a client lists a server that leaves
  server_expires : (server client : ℕ) (s : State Q QH P PH K) → ExpiredFit s → IsClientWithout s server client
      → ExpiredFit (with_expired_server server s client)
  server_expires server client s fits here = go (has_responses_from s client server) refl
    where
      room : ℕ
      room = s.limits.client_expired_connection_buffer

      listed : List ℕ
      listed = at s.expired client

      gone : List ℕ
      gone = outdated_senders room listed server

      kept : ResponseKey → Bool
      kept key = not (eqb key.client client && list_any (λ c. eqb c key.server) gone)

      t : State Q QH P PH K
      t = record s {
        responses = fin_map.retain_keys s.responses kept;
        expired = with_at s.expired client (kept_senders room listed server);
      }

      apart : IsDistinct nat_eq (listed ++ server ∷ [])
      apart = distinct_append listed server (fits.each_list client).once here.2

      stays : (n c : ℕ) → ((key : ResponseKey) → key.server ≡ c → key.client ≡ n → kept key ≡ true)
          → has_responses_from s n c ≡ true → has_responses_from t n c ≡ true
      stays n c keeps = responses_stay s t n c (λ key of_server of_client.
          some_retained response_keys_total response_keys_exact s.responses kept key (keeps key of_server of_client))

      list : has_responses_from s client server ≡ true → SendersFit t client (kept_senders room listed server)
      list some = record {
        few_clients = λ h. absurd (false≢true (sym here.1 ∙ h));
        few_servers = λ h. length-kept_senders_le room listed server;
        nobody = λ h. absurd (false≢true (sym h ∙ ap (λ b. b || has_server s.servers client) here.0));
        requests = λ h. absurd (false≢true (sym here.1 ∙ h));
        responses = λ h. all_both _ _ _
            (λ c had stands. stays client c (λ key of_server of_client. neither (eqb key.client client) _
            (ap (λ j. list_any (λ x. eqb x j) gone) of_server ∙ stands)) had)
            (kept_senders room listed server)
            (all_drop (λ c. has_responses_from s client c ≡ true) (length listed + 1 - room) (listed ++ server ∷ [])
            (all_append _ listed server ((fits.each_list client).responses here.0) some))
            (distinct_parts (length listed + 1 - room) (listed ++ server ∷ []) apart);
        once = distinct_drop (length listed + 1 - room) (listed ++ server ∷ []) apart;
      }

      go : (b : Bool) → has_responses_from s client server ≡ b → ExpiredFit (cond b t s)
      go false e = fits
      go true e = lists_fit_but_one s t refl refl refl fits client (kept_senders room listed server) refl (list e)
          (λ n c other h. h)
          (λ n c other. stays n c (λ key of_server of_client.
          ap (λ b. not (b && list_any (λ x. eqb x key.server) gone)) (ne_eqb key.client client (λ same. other (sym of_client ∙ same)))))

  -- each server lists a client that leaves
  clients_expire : (client : ℕ) (servers : List ℕ) (s : State Q QH P PH K) → ExpiredFit s → IsDistinct nat_eq servers
      → AllByRecursion (IsServerWithout s client) servers → ExpiredFit (fold (with_expired_client client) s servers)
  unfolding IsDistinct
  clients_expire client [] s fits apart each = fits
  clients_expire client (server ∷ servers) s fits apart each =
      clients_expire client servers (with_expired_client client s server) (client_expires client server s fits each.0) apart.1
      (all_both _ _ _ (λ n other here. go n (differ server n other) here (has_requests_from s server client)) servers apart.0 each.1)
    where
      go : (n : ℕ) → n ≢ server → IsServerWithout s client n → (b : Bool) → IsServerWithout (cond b (record s {
        requests = fin_map.retain_keys s.requests (λ key. not (eqb key.server server
            && list_any (λ c. eqb c key.client) (outdated_senders (room_for_expired_clients s) (at s.expired server) client)));
        expired = with_at s.expired server (kept_senders (room_for_expired_clients s) (at s.expired server) client);
      }) s) client n
      go n other here false = here
      go n other here true = (
        here.0,
        here.1,
        subst (AllByRecursion (λ x. nat_eq x client ≡ false))
            (sym (at-with_at-other nat_cmp_total nat_cmp-IsAntisymmetric s.expired server _ n other)) here.2,
      )

  -- each client lists a server that leaves
  servers_expire : (server : ℕ) (clients : List ℕ) (s : State Q QH P PH K) → ExpiredFit s → IsDistinct nat_eq clients
      → AllByRecursion (IsClientWithout s server) clients → ExpiredFit (fold (with_expired_server server) s clients)
  unfolding IsDistinct
  servers_expire server [] s fits apart each = fits
  servers_expire server (client ∷ clients) s fits apart each =
      servers_expire server clients (with_expired_server server s client) (server_expires server client s fits each.0) apart.1
      (all_both _ _ _ (λ n other here. go n (differ client n other) here (has_responses_from s client server)) clients apart.0 each.1)
    where
      go : (n : ℕ) → n ≢ client → IsClientWithout s server n → (b : Bool) → IsClientWithout (cond b (record s {
        responses = fin_map.retain_keys s.responses (λ key. not (eqb key.client client
            && list_any (λ c. eqb c key.server) (outdated_senders s.limits.client_expired_connection_buffer (at s.expired client) server)));
        expired = with_at s.expired client (kept_senders s.limits.client_expired_connection_buffer (at s.expired client) server);
      }) s) server n
      go n other here false = here
      go n other here true = (
        here.0,
        here.1,
        subst (AllByRecursion (λ x. nat_eq x server ≡ false))
            (sym (at-with_at-other nat_cmp_total nat_cmp-IsAntisymmetric s.expired client _ n other)) here.2,
      )

  client_left : (s : State Q QH P PH K) (client : ℕ) → IsReached s → IsLeftFit s → ExpiredFit s → has_client s.clients client ≡ true
      → ExpiredFit (after_client_left s client)
  client_left s client reached left fits there =
      let servers = map (λ (c : Server K). c.id) s.servers in
      let x = clients_expired client servers s reached in
      let mid : State Q QH P PH K = record s { requests = x.0; expired = x.1 } in
      let kept : ResponseKey → Bool = λ key. not (eqb key.client client) in
      let after : State Q QH P PH K = record mid {
        clients = filter (λ c. not (eqb c.id client)) s.clients;
        responses = fin_map.retain_keys s.responses kept;
        expired = with_at x.1 client [];
      } in
      let each : AllByRecursion (IsServerWithout s client) servers =
      all_map (λ (c : Server K). c.id) (λ c. has_server s.servers c.id ≡ true) (IsServerWithout s client) (λ c h. (
        h,
        not_both (has_client s.clients c.id) (λ held. false≢true (sym (left.one_kind c.id held) ∙ h)),
        all_each _ _ (λ y g. ne_eqb y client
            (λ same. false≢true (sym g.no_client ∙ ap (has_client s.clients) same ∙ there))) (at s.expired c.id) (left.gone c.id),
      )) s.servers (each_found (λ (c : Server K). c.id) s.servers) in
      let all : ExpiredFit mid = subst (λ (y : State Q QH P PH K). ExpiredFit y) x.2
      (clients_expire client servers s fits fits.each_server each) in
      subst (λ (y : State Q QH P PH K). ExpiredFit (record y {
        clients = filter (λ c. not (eqb c.id client)) y.clients;
        responses = fin_map.retain_keys y.responses kept;
        expired = with_at y.expired client [];
      })) (sym x.2)
      (record {
        each_client = ids_filter (λ (c : Client K). c.id) (λ c. not (eqb c.id client)) s.clients fits.each_client;
        each_server = fits.each_server;
        each_list = each_other_with nat_cmp_total nat_cmp-IsAntisymmetric (SendersFit after) x.1 client [] (nobody_fits after client)
            (λ n other. senders_fit mid after n refl (same-gone (λ c. c.id) client n s.clients other) refl (at x.1 n) (all.each_list n)
            (λ c h. h)
            (λ c. responses_stay mid after n c (λ key of_server of_client. some_retained response_keys_total response_keys_exact
            s.responses kept key (ap not (ne_eqb key.client client (λ same. other (sym of_client ∙ same)))))));
      })

  server_left : (s : State Q QH P PH K) (server : ℕ) → IsReached s → IsLeftFit s → ExpiredFit s → has_server s.servers server ≡ true
      → ExpiredFit (after_server_left s server)
  server_left s server reached left fits there =
      let clients = map (λ (c : Client K). c.id) s.clients in
      let x = servers_expired server clients s reached in
      let mid : State Q QH P PH K = record s { responses = x.0; expired = x.1 } in
      let kept : RequestKey → Bool = λ key. not (eqb key.server server) in
      let after : State Q QH P PH K = record mid {
        servers = filter (λ c. not (eqb c.id server)) s.servers;
        handles = map_handles (without_server server) s.handles;
        requests = fin_map.retain_keys s.requests kept;
        expired = with_at x.1 server [];
      } in
      let each : AllByRecursion (IsClientWithout s server) clients =
      all_map (λ (c : Client K). c.id) (λ c. has_client s.clients c.id ≡ true) (IsClientWithout s server) (λ c h. (
        h,
        left.one_kind c.id h,
        all_each _ _ (λ y g. ne_eqb y server
            (λ same. false≢true (sym g.no_server ∙ ap (has_server s.servers) same ∙ there))) (at s.expired c.id) (left.gone c.id),
      )) s.clients (each_found (λ (c : Client K). c.id) s.clients) in
      let all : ExpiredFit mid = subst (λ (y : State Q QH P PH K). ExpiredFit y) x.2
      (servers_expire server clients s fits fits.each_client each) in
      subst (λ (y : State Q QH P PH K). ExpiredFit (record y {
        servers = filter (λ c. not (eqb c.id server)) y.servers;
        handles = map_handles (without_server server) y.handles;
        requests = fin_map.retain_keys y.requests kept;
        expired = with_at y.expired server [];
      })) (sym x.2)
      (record {
        each_client = fits.each_client;
        each_server = ids_filter (λ (c : Server K). c.id) (λ c. not (eqb c.id server)) s.servers fits.each_server;
        each_list = each_other_with nat_cmp_total nat_cmp-IsAntisymmetric (SendersFit after) x.1 server [] (nobody_fits after server)
            (λ n other. senders_fit mid after n refl refl (same-gone (λ c. c.id) server n s.servers other) (at x.1 n) (all.each_list n)
            (λ c. requests_stay mid after n c (λ key of_server of_client. some_retained request_keys_total request_keys_exact
            s.requests kept key (ap not (ne_eqb key.server server (λ same. other (sym of_server ∙ same))))))
            (λ c h. h));
      })

  -- after a connected port left, if it was not in use
  pub unused_port_expired : (s : State Q QH P PH K) (port : ℕ) → IsReached s → IsLeftFit s → ExpiredFit s
      → is_port s.clients s.servers port ≡ true → ExpiredFit (without_unused_port s port)
  unused_port_expired s port reached left fits connected = go (is_in_use s port) (is_some (client_at s port)) refl
    where
      go : (used client : Bool) → is_some (client_at s port) ≡ client
          → ExpiredFit (cond used s (cond client (after_client_left s port) (after_server_left s port)))
      go true client e = fits
      go false true e = client_left s port reached left fits e
      go false false e = server_left s port reached left fits (sym (ap (λ b. b || has_server s.servers port) e) ∙ connected)

  -- nobody is listed as left under the next number
  nobody_next : (s : State Q QH P PH K) → IsReached s → ExpiredFit s → at s.expired s.next ≡ []
  nobody_next s reached fits = (fits.each_list s.next).nobody (no_port_at_next s.limits s.clients s.servers s.next reached.ports)

  -- after a client came
  pub with_client_expired : (s : State Q QH P PH K) → IsReached s → ExpiredFit s → (settings : ClientSettings K)
      → ExpiredFit (with_client s settings)
  with_client_expired s reached fits settings =
      record {
        each_client = ids_append (λ (c : Client K). c.id) s.clients _ fits.each_client
            (all_each _ _ (λ c below. unlike_next c.id s.next below) s.clients reached.ports.client_numbers);
        each_server = fits.each_server;
        each_list = λ n. go n (eqb s.next n) refl;
      }
    where
      after : State Q QH P PH K
      after = with_client s settings

      go : (n : ℕ) (b : Bool) → eqb s.next n ≡ b → SendersFit after n (at s.expired n)
      go n true e = subst (λ k. SendersFit after k (at s.expired k)) (eqb-true s.next n e)
          (subst (SendersFit after s.next) (sym (nobody_next s reached fits)) (nobody_fits after s.next))
      go n false e = senders_fit s after n refl (same-append (λ c. c.id) s.clients _ n (eqb-false s.next n e)) refl (at s.expired n)
          (fits.each_list n) (λ c h. h) (λ c h. h)

  -- after a server came
  pub with_server_expired : (s : State Q QH P PH K) → IsReached s → ExpiredFit s → (settings : ServerSettings K)
      → ExpiredFit (with_server s settings)
  with_server_expired s reached fits settings =
      record {
        each_client = fits.each_client;
        each_server = ids_append (λ (c : Server K). c.id) s.servers _ fits.each_server
            (all_each _ _ (λ c below. unlike_next c.id s.next below) s.servers reached.ports.server_numbers);
        each_list = λ n. go n (eqb s.next n) refl;
      }
    where
      after : State Q QH P PH K
      after = with_server s settings

      go : (n : ℕ) (b : Bool) → eqb s.next n ≡ b → SendersFit after n (at s.expired n)
      go n true e = subst (λ k. SendersFit after k (at s.expired k)) (eqb-true s.next n e)
          (subst (SendersFit after s.next) (sym (nobody_next s reached fits)) (nobody_fits after s.next))
      go n false e = senders_fit s after n refl refl (same-append (λ c. c.id) s.servers _ n (eqb-false s.next n e)) (at s.expired n)
          (fits.each_list n) (λ c h. h) (λ c h. h)
