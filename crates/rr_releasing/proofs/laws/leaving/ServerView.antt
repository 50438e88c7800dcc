-- What contracts see of a core after a server left.
use Rattle.std.proofs.Common.{◌≡◌, ◌≢◌, ◌&&◌, ◌+◌, ◌-◌, ◌++◌, ℕ, Bool, true, false, cond, not, List, [], ◌∷◌, Option, None, Some, find, length, map, option_map, refl, sym, ap, ◌∙◌, subst, ⊎_elim}
use Rattle.std.specs.Prelude.{◌==◌, filter, nat_eq, slice_get}
use Rattle.std.specs.List.{IsDistinct, list_any, remove}
use Rattle.std.specs.Cmp.{nat_cmp_total}
use Rattle.std.specs.FinMap as fin_map
use Rattle.std.specs.FinMap.{nat_cmp-IsAntisymmetric, same_map}
use Rattle.std.proofs.lemmas.Bool.{and_parts, cases_eq, eqb-true, ne_eqb}
use Rattle.std.proofs.lemmas.List.{append-nil, map-append}
use Rattle.std.proofs.lemmas.List.Elements.{filter-append, filter_agree}
use Rattle.rr_table.specs.Maps.{map_values}
use Rattle.rr_table.proofs.MapLaws.{get-map_values, tied_other, tied_same}
use Rattle.rr_table.specs.TableView.{TableEntry}
use Rattle.rr_protocol.specs.Keys.{RequestKey, ResponseKey}
use Rattle.rr_protocol.specs.Lists.{at, with_at}
use Rattle.rr_protocol.specs.Messages.{Handle}
use Rattle.rr_protocol.specs.Ports.{Server}
use Rattle.rr_protocol.specs.Releases as releases
use Rattle.rr_protocol.specs.Releases.{after_server_left, kept_senders, map_handles, outdated_senders}
use Rattle.rr_protocol.specs.State.{State}
use Rattle.rr_protocol.proofs.HandleLaws.{get-map_handles}
use Rattle.rr_protocol.proofs.KeyLaws.{request_keys_total, request_keys_exact, response_keys_total, response_keys_exact}
use Rattle.rr_protocol.proofs.ListsLaws.{at-with_at, same_lists}
use Rattle.rr_laws.specs.Reached.{has_client}
use Rattle.rr_laws.proofs.AfterLeft.{after_server_expired, expired_left_by_server, rest_left_by_server}
use Rattle.rr_laws.proofs.Completing.{filter_never}
use Rattle.rr_laws.proofs.Distinct.{distinct_append, distinct_filter}
use Rattle.rr_store.specs.declared.details.RequestDetails.{RequestDetails}
use Rattle.rr_store.specs.declared.details.ResponseDetails.{ResponseDetails}
use Rattle.rr_store.specs.declared.handle_entry.HandleEntry.{HandleEntry}
use Rattle.rr_store.specs.declared.handle_entry.Stage.{Stage}
use Rattle.rr_store.specs.declared.handle_entry.Stage.TheVariants as stage
use Rattle.rr_store.specs.declared.port.LeftPort.{LeftPort}
use Rattle.rr_store.specs.Expired.{expired_to, requests_from, responses_from}
use Rattle.rr_store.specs.Leaving.{SendersCut, is_of, outdated, without_server}
use Rattle.rr_store.specs.Parts.{ClientPart, Parts, Sender, ServerPart}
use Rattle.rr_store.specs.Sound.{IsSoundStore, empty_hand}
use Rattle.rr_store.specs.Views.{handle_in, handle_of, is_marked, marked, request_at, request_in_slot, request_lists, response_at, response_in_slot, response_lists, responses_at, sender_of, server_of, state_of, waiting_at}
use Rattle.rr_store.proofs.base.lists.EachOnce.{IsApart}
use Rattle.rr_store.proofs.base.lists.Found.{found_passes, found_somewhere}
use Rattle.rr_store.proofs.base.views.Agreeing.{same_state}
use Rattle.rr_store.proofs.base.views.Counts.{listed}
use Rattle.rr_store.proofs.base.views.Expired.{at_expired, requests_alike, responses_alike}
use Rattle.rr_store.proofs.base.views.Keyed.{at_responses}
use Rattle.rr_store.proofs.base.views.Left.{left_server_apart, no_requests_to, no_responses_to, none_filled}
use Rattle.rr_releasing.proofs.laws.leaving.Answered.{expired_is}
use Rattle.rr_store.proofs.leaving.Lists.{all_at, filter_all, filter_both, map_filter, numbers_distinct, removed, rest_left as rest_of}
use Rattle.rr_releasing.proofs.laws.leaving.Queued.{servers_apart}
use Rattle.rr_releasing.proofs.laws.leaving.ServerLists.{at_requests_after, at_responses_after, client_there, clients_once, drops, leaving, requests_view, responses_view, room}

-- two tests pass in either order
either_order : (a b : Bool) → (a && b) ≡ (b && a)
either_order true true = refl
either_order true false = refl
either_order false true = refl
either_order false false = refl

-- and choose the same in either order
order_free : {X : Type 0} (t u : X → Bool) (xs : List X) → filter t (filter u xs) ≡ filter u (filter t xs)
order_free t u xs =
    sym (filter_both u t xs) ∙ filter_agree (λ x. u x && t x) (λ x. t x && u x) (λ x. either_order (u x) (t x)) xs ∙ filter_both t u xs

module _ {Q QH P PH K : Type 0} (p : Parts Q QH P PH K) (sound : IsSoundStore p empty_hand) (index : ℕ) (s : ServerPart K)
    (at_s : slice_get p.servers index ≡ Some s) (client_senders : List (Sender Q RequestDetails QH))
    (server_senders : List (Sender P ResponseDetails PH))
    (requests : SendersCut (λ l r. r == s.receiver) p.client_senders client_senders)
    (responses : SendersCut
    (λ l r. is_of (outdated p.server_senders p.left_servers p.limits.client_expired_connection_buffer (leaving p s) r) l)
    p.server_senders server_senders) where
  abbrev after : Parts Q QH P PH K
  after = without_server (record p { client_senders = client_senders; server_senders = server_senders }) index s

  -- what contracts see before, and after the server's responses expired at each client
  abbrev before : State Q QH P PH K
  before = state_of p

  abbrev left : State Q QH P PH K
  left = after_server_expired before s.port.id

  -- the server is the one with its number
  others : remove p.servers index ≡ filter (λ (d : ServerPart K). not (d.port.id == s.port.id)) p.servers
  others = removed (λ (d : ServerPart K). d.port.id) p.servers index s at_s (servers_apart p sound)

  servers : map server_of (remove p.servers index) ≡ filter (λ (d : Server K). not (d.id == s.port.id)) (map server_of p.servers)
  servers =
      ap (map server_of) others
      ∙ map_filter server_of (λ (d : ServerPart K). not (d.port.id == s.port.id)) (λ (d : Server K). not (d.id == s.port.id)) p.servers
      (all_at _ p.servers (λ i d at. refl))

  -- no message changed
  request_same : (sender slot : ℕ) → request_at after sender slot ≡ request_at p sender slot
  request_same sender slot =
      ap (λ (l : Sender Q RequestDetails QH). request_in_slot p.spare_request_header l.messages slot) (requests.rest sender)

  response_same : (sender slot : ℕ) → response_at after sender slot ≡ response_at p sender slot
  response_same sender slot =
      ap (λ (l : Sender P ResponseDetails PH). response_in_slot p.spare_response_header l.messages slot) (responses.rest sender)

  -- and those who may answer a request are the other servers that might
  waiting_after : (sender slot : ℕ) → waiting_at after sender slot ≡ filter (λ n. not (n == s.port.id)) (waiting_at p sender slot)
  waiting_after sender slot =
      let marks : List ℕ = (sender_of sender p.client_senders).may_answer in
      let may : ServerPart K → Bool = λ d. is_marked p.limits.max_servers marks slot d.receiver d.port.id in
      ap (λ (l : Sender Q RequestDetails QH). marked p.limits.max_servers (remove p.servers index) l.may_answer slot)
      (requests.rest sender)
      ∙ ap (λ (ds : List (ServerPart K)). marked p.limits.max_servers ds marks slot) others
      ∙ ap (map (λ (d : ServerPart K). d.port.id)) (order_free may (λ (d : ServerPart K). not (d.port.id == s.port.id)) p.servers)
      ∙ map_filter (λ (d : ServerPart K). d.port.id) (λ (d : ServerPart K). not (d.port.id == s.port.id)) (λ n. not (n == s.port.id))
      (filter may p.servers) (all_at _ (filter may p.servers) (λ i d at. refl))

  -- so no handle waits for the server, and else each is as it was
  handle_after : (g : Stage) (sender slot : ℕ) → handle_in after g sender slot
      ≡ releases.without_server s.port.id (handle_in p g sender slot)
  handle_after stage.RequestMutUninit sender slot = rw (request_same sender slot) refl
  handle_after stage.RequestMut sender slot = rw (request_same sender slot) refl
  handle_after (stage.PendingResponse hint connections) sender slot =
      rw (request_same sender slot) (rw (waiting_after sender slot) refl)
  handle_after (stage.ActiveRequest server loans) sender slot = rw (request_same sender slot) refl
  handle_after stage.ResponseMutUninit sender slot = rw (response_same sender slot) refl
  handle_after stage.ResponseMut sender slot = rw (response_same sender slot) refl
  handle_after stage.Response sender slot = rw (response_same sender slot) refl

  handles : map_values (handle_of after) p.table.entries ≡ map_handles (releases.without_server s.port.id) before.handles
  handles = same_map nat_cmp_total nat_cmp-IsAntisymmetric _ _ (λ n.
      get-map_values (handle_of after) p.table.entries n ∙ go (fin_map.get p.table.entries n)
      ∙ ap (option_map (releases.without_server s.port.id)) (sym (get-map_values (handle_of p) p.table.entries n))
      ∙ sym (get-map_handles (releases.without_server s.port.id) before.handles n))
    where
      go : (o : Option (TableEntry HandleEntry)) → option_map (handle_of after) o
          ≡ option_map (releases.without_server s.port.id) (option_map (handle_of p) o)
      go None = refl
      go (Some t) = ap (λ (h : Handle Q QH P PH). Some h) (handle_after t.value.stage t.value.sender t.value.slot)

  -- what waits at a key
  responses_there : (key : ResponseKey) → at (response_lists after) key
      ≡ cond (drops p s key.client key.server) [] (at (response_lists p) key)
  responses_there = at_responses_after p sound index s at_s client_senders server_senders requests responses

  requests_there : (key : RequestKey) → at (request_lists after) key
      ≡ cond (not (key.server == s.port.id)) (at (request_lists p) key) []
  requests_there = at_requests_after p sound index s at_s client_senders server_senders requests responses

  -- of which servers a client has responses, and of which clients a server has requests
  responses_from_after : (n l : ℕ) → responses_from (response_lists after) n l
      ≡ (responses_from (response_lists p) n l && not (drops p s n l))
  responses_from_after n l = go (drops p s n l) refl
    where
      same : (key : ResponseKey) → key.client ≡ n → key.server ≡ l → drops p s key.client key.server ≡ drops p s n l
      same key c d = ap (λ n. drops p s n key.server) c ∙ ap (drops p s n) d

      go : (b : Bool) → drops p s n l ≡ b → responses_from (response_lists after) n l ≡ (responses_from (response_lists p) n l && not b)
      go true e =
          none_filled response_keys_total response_keys_exact (λ key. key.server == l && key.client == n) (response_lists after)
          (λ key h. let both = and_parts (key.server == l) (key.client == n) h in
          responses_there key ∙ ap (λ b. cond b [] (at (response_lists p) key))
          (same key (eqb-true key.client n both.1) (eqb-true key.server l both.0) ∙ e))
          ∙ sym (elim (responses_from (response_lists p) n l) as (λ b. (b && false) ≡ false) [ true ↦ refl | false ↦ refl ])
      go false e =
          responses_alike (response_lists p) (response_lists after) n l
          (λ key d c. responses_there key ∙ ap (λ b. cond b [] (at (response_lists p) key)) (same key c d ∙ e))
          ∙ sym (elim (responses_from (response_lists p) n l) as (λ b. (b && true) ≡ b) [ true ↦ refl | false ↦ refl ])

  no_requests : (l : ℕ) → requests_from (request_lists after) s.port.id l ≡ false
  no_requests l =
      none_filled request_keys_total request_keys_exact (λ key. key.server == s.port.id && key.client == l) (request_lists after)
      (λ key h. requests_there key ∙ ap (λ b. cond (not b) (at (request_lists p) key) [])
      (and_parts (key.server == s.port.id) (key.client == l) h).0)

  same_requests : (n : ℕ) → n ≢ s.port.id → (l : ℕ) → requests_from (request_lists after) n l ≡ requests_from (request_lists p) n l
  same_requests n other l =
      requests_alike (request_lists p) (request_lists after) n l
      (λ key d c. requests_there key ∙ ap (λ b. cond (not b) (at (request_lists p) key) [])
      (ne_eqb key.server s.port.id (λ e. other (sym d ∙ e))))

  -- what is no client has no response
  none_without : (n : ℕ) → find (λ (c : ClientPart K). c.port.id == n) p.clients ≡ None → (l : ℕ)
      → responses_from (response_lists p) n l ≡ false
  none_without n e l =
      none_filled response_keys_total response_keys_exact (λ key. key.server == l && key.client == n) (response_lists p)
      (λ key h. at_responses p key
      ∙ none key (ap (λ m. find (λ (c : ClientPart K). c.port.id == m) p.clients)
      (eqb-true key.client n (and_parts (key.server == l) (key.client == n) h).1) ∙ e))
    where
      none : (key : ResponseKey) → find (λ (c : ClientPart K). c.port.id == key.client) p.clients ≡ None → responses_at p key ≡ []
      none key f = rw f refl

  -- the ports that left, by their numbers
  abbrev left_clients : List ℕ
  left_clients = map (λ l. l.number) p.left_clients

  abbrev left_servers : List ℕ
  left_servers = map (λ l. l.number) p.left_servers

  -- those servers and the one that leaves
  abbrev all : List ℕ
  all = left_servers ++ s.port.id ∷ []

  -- no number is among them twice
  all_once : IsDistinct nat_eq all
  all_once =
      distinct_append left_servers s.port.id (numbers_distinct (λ (l : LeftPort). l.number) p.left_servers apart)
      (all_at (λ l. nat_eq l s.port.id ≡ false) left_servers
      (λ i l at. ne_eqb l s.port.id (λ e. left_server_apart p empty_hand sound i l s.sender at (index, s, at_s, refl)
      ((sound.server_ports.own index s.connected (listed (λ (s : ServerPart K). s.connected) p.servers index s at_s)).1 ∙ sym e))))
    where
      apart : IsApart (λ (l : LeftPort). l.number) p.left_servers
      apart i j l m at there same =
          let o = sound.have_ports.left_servers.own i l at in
          let w = sound.have_ports.left_servers.own j m there in
          sound.have_ports.left_servers.once i j l m at there
          (sound.server_ports.owned_once l.sender m.sender o.0 w.0 (o.1 ∙ same ∙ sym w.1))

  -- of which of them a port listed messages, and the oldest of these, for which there is no room as the server leaves
  abbrev listed_by : (ℕ → Bool) → List ℕ
  listed_by old = filter old left_servers

  abbrev is_gone : List ℕ → ℕ → Bool
  is_gone senders l = list_any (λ m. m == l) (outdated_senders (room p s) senders s.port.id)

  -- the numbers that are kept of a list
  kept : (old : ℕ → Bool) (b : Bool) → old s.port.id ≡ b → filter (λ l. not (b && is_gone (listed_by old) l)) (filter old all)
      ≡ cond b (kept_senders (room p s) (listed_by old) s.port.id) (listed_by old)
  kept old b e = ap (filter (λ l. not (b && is_gone (listed_by old) l))) (split b e) ∙ go b e
    where
      split : (b : Bool) → old s.port.id ≡ b → filter old all ≡ listed_by old ++ cond b (s.port.id ∷ []) []
      split b e = filter-append old left_servers (s.port.id ∷ []) ∙ ap (λ b. listed_by old ++ cond b (s.port.id ∷ []) []) e

      go : (b : Bool) → old s.port.id ≡ b
          → filter (λ l. not (b && is_gone (listed_by old) l)) (listed_by old ++ cond b (s.port.id ∷ []) [])
          ≡ cond b (kept_senders (room p s) (listed_by old) s.port.id) (listed_by old)
      go true e =
          rest_of (length (listed_by old) + 1 - room p s) (listed_by old ++ s.port.id ∷ [])
          (subst (IsDistinct nat_eq) (split true e) (distinct_filter old all all_once))
      go false e = filter_all (listed_by old ++ []) ∙ append-nil (listed_by old)

  module _ (n : ℕ) where
    -- whether a port had requests of a client, and responses of a server
    abbrev asked : ℕ → Bool
    asked = requests_from (request_lists p) n

    abbrev answered : ℕ → Bool
    answered = responses_from (response_lists p) n

    -- of which ports that left one has messages now
    abbrev now : List ℕ
    now = expired_to (request_lists after) (response_lists after) left_clients (map (λ l. l.number) after.left_servers) n

    -- the server that leaves has none
    now_here : n ≡ s.port.id → now ≡ []
    now_here e =
        ap (λ ls. ls ++ filter (responses_from (response_lists after) n) (map (λ l. l.number) after.left_servers))
        (filter_never (requests_from (request_lists after) n)
        (λ l. ap (λ n. requests_from (request_lists after) n l) e ∙ no_requests l) left_clients)
        ∙ filter_never (responses_from (response_lists after) n)
        (λ l. responses_from_after n l ∙ ap (λ b. b && not (drops p s n l))
        (ap (λ n. responses_from (response_lists p) n l) e ∙ no_responses_to p empty_hand sound index s at_s l))
        (map (λ l. l.number) after.left_servers)

    -- any other has those that it had, but for responses that it dropped
    now_there : n ≢ s.port.id → now ≡ filter asked left_clients ++ filter (λ l. answered l && not (drops p s n l)) all
    now_there other =
        ap (λ ls. filter (requests_from (request_lists after) n) left_clients ++ filter (responses_from (response_lists after) n) ls)
        (map-append (λ (l : LeftPort). l.number) p.left_servers (leaving p s ∷ []))
        ∙ ap (λ ls. filter (requests_from (request_lists after) n) left_clients ++ ls)
        (filter_agree (responses_from (response_lists after) n) (λ l. answered l && not (drops p s n l)) (responses_from_after n) all)
        ∙ ap (λ ls. ls ++ filter (λ l. answered l && not (drops p s n l)) all)
        (filter_agree (requests_from (request_lists after) n) asked (same_requests n other) left_clients)

    -- which are those that a contract sees
    those : (o : Option (ClientPart K)) → find (λ (c : ClientPart K). c.port.id == n) p.clients ≡ o
        → filter asked left_clients ++ filter (λ l. answered l && not (drops p s n l)) all
        ≡ cond (has_client before.clients n && answered s.port.id) (kept_senders (room p s) (at before.expired n) s.port.id)
        (at before.expired n)
    those None e =
        ap (λ ls. filter asked left_clients ++ ls)
        (filter_never (λ l. answered l && not (drops p s n l)) (λ l. ap (λ b. b && not (drops p s n l)) (none_without n e l)) all
        ∙ sym (filter_never answered (none_without n e) left_servers))
        ∙ sym (at_expired (request_lists p) (response_lists p) left_clients left_servers n)
        ∙ sym (ap (λ b. cond (b && answered s.port.id) (kept_senders (room p s) (at before.expired n) s.port.id) (at before.expired n))
        (client_there p s n None e))
    those (Some c) e =
        let i = found_somewhere (λ (c : ClientPart K). c.port.id == n) p.clients c e in
        let id : c.port.id ≡ n = eqb-true c.port.id n (found_passes (λ (c : ClientPart K). c.port.id == n) p.clients c e) in
        let had : at before.expired n ≡ listed_by answered =
        ap (at before.expired) (sym id) ∙ expired_is p sound i.0 c i.1
        ∙ ap (λ n. filter (responses_from (response_lists p) n) left_servers) id in
        let has : has_client before.clients n ≡ true = client_there p s n (Some c) e in
        ap (λ ls. ls ++ filter (λ l. answered l && not (drops p s n l)) all)
        (filter_never asked
        (λ l. ap (λ n. requests_from (request_lists p) n l) (sym id) ∙ no_requests_to p empty_hand sound i.0 c i.1 l) left_clients)
        ∙ filter_both answered (λ l. not (drops p s n l)) all
        ∙ ap (λ b. filter (λ l. not ((b && answered s.port.id) && is_gone (at before.expired n) l)) (filter answered all)) has
        ∙ ap (λ ns. filter (λ l. not (answered s.port.id && is_gone ns l)) (filter answered all)) had
        ∙ kept answered (answered s.port.id) refl
        ∙ sym (ap (λ b. cond (b && answered s.port.id) (kept_senders (room p s) (at before.expired n) s.port.id) (at before.expired n)) has
        ∙ ap (λ ns. cond (answered s.port.id) (kept_senders (room p s) ns s.port.id) ns) had)

    expired_at : now ≡ at (with_at left.expired s.port.id []) n
    expired_at =
        ⊎_elim
        (λ e. now_here e ∙ sym (ap (λ b. cond b [] (at left.expired n)) (tied_same n s.port.id e)))
        (λ other. now_there other ∙ those (find (λ (c : ClientPart K). c.port.id == n) p.clients) refl
        ∙ sym (expired_left_by_server before s.port.id
        (clients_once p sound index s at_s client_senders server_senders requests responses) n)
        ∙ sym (ap (λ b. cond b [] (at left.expired n)) (tied_other n s.port.id other)))
        (cases_eq n s.port.id)
        ∙ sym (at-with_at nat_cmp_total left.expired s.port.id [] n)

  -- so each port lists whom it did, or these
  expired : (state_of after).expired ≡ with_at left.expired s.port.id []
  expired =
      same_lists nat_cmp_total nat_cmp-IsAntisymmetric (state_of after).expired (with_at left.expired s.port.id [])
      (λ n. at_expired (request_lists after) (response_lists after) left_clients (map (λ l. l.number) after.left_servers) n ∙ expired_at n)

  -- nothing else changed as its responses expired
  rest : left ≡ record before { responses = left.responses; expired = left.expired }
  rest = rest_left_by_server before s.port.id

  -- a server left
  pub server_left_view : state_of after ≡ after_server_left (state_of p) s.port.id
  server_left_view =
      same_state (state_of after) (after_server_left (state_of p) s.port.id)
      (sym (ap (λ (s : State Q QH P PH K). s.limits) rest))
      (sym (ap (λ (s : State Q QH P PH K). s.node_id) rest))
      (sym (ap (λ (s : State Q QH P PH K). s.clients) rest))
      (servers ∙ sym (ap (λ (x : State Q QH P PH K). filter (λ (d : Server K). not (d.id == s.port.id)) x.servers) rest))
      (handles ∙ sym (ap (λ (x : State Q QH P PH K). map_handles (releases.without_server s.port.id) x.handles) rest))
      (requests_view p sound index s at_s client_senders server_senders requests responses
      ∙ sym (ap (λ (x : State Q QH P PH K). fin_map.retain_keys x.requests (λ key. not (key.server == s.port.id))) rest))
      (responses_view p sound index s at_s client_senders server_senders requests responses)
      expired
      (sym (ap (λ (s : State Q QH P PH K). s.next) rest))
