-- What contracts see of a core after a client left.
use Rattle.std.proofs.Common.{◌≡◌, ◌≢◌, ◌&&◌, ◌+◌, ◌-◌, ◌++◌, ℕ, Bool, true, false, cond, not, List, [], ◌∷◌, Option, None, Some, find, length, map, refl, sym, ap, ◌∙◌, subst, ⊎_elim}
use Rattle.std.specs.Prelude.{◌==◌, filter, nat_eq, slice_get}
use Rattle.std.specs.List.{IsDistinct, list_any, remove}
use Rattle.std.specs.Cmp.{nat_cmp_total}
use Rattle.std.specs.FinMap as fin_map
use Rattle.std.specs.FinMap.{nat_cmp-IsAntisymmetric}
use Rattle.std.proofs.lemmas.Bool.{and_parts, cases_eq, eqb-true, ne_eqb}
use Rattle.std.proofs.lemmas.List.{append-nil, map-append}
use Rattle.std.proofs.lemmas.List.Elements.{filter-append, filter_agree}
use Rattle.rr_table.proofs.MapLaws.{map_values-same, tied_other, tied_same}
use Rattle.rr_table.specs.TableView.{TableEntry}
use Rattle.rr_protocol.specs.Keys.{RequestKey, ResponseKey}
use Rattle.rr_protocol.specs.Lists.{at, with_at}
use Rattle.rr_protocol.specs.Ports.{Client}
use Rattle.rr_protocol.specs.Releases.{after_client_left, kept_senders, outdated_senders, room_for_expired_clients}
use Rattle.rr_protocol.specs.State.{State}
use Rattle.rr_protocol.proofs.KeyLaws.{request_keys_total, request_keys_exact, response_keys_total, response_keys_exact}
use Rattle.rr_protocol.proofs.ListsLaws.{at-with_at, same_lists}
use Rattle.rr_laws.specs.Reached.{has_server}
use Rattle.rr_laws.proofs.AfterLeft.{after_client_expired, expired_left, rest_left}
use Rattle.rr_laws.proofs.Completing.{filter_never}
use Rattle.rr_laws.proofs.Distinct.{distinct_append, distinct_filter}
use Rattle.rr_store.specs.declared.details.RequestDetails.{RequestDetails}
use Rattle.rr_store.specs.declared.details.ResponseDetails.{ResponseDetails}
use Rattle.rr_store.specs.declared.handle_entry.HandleEntry.{HandleEntry}
use Rattle.rr_store.specs.declared.port.LeftPort.{LeftPort}
use Rattle.rr_store.specs.Expired.{expired_to, requests_from, responses_from}
use Rattle.rr_store.specs.Leaving.{SendersCut, is_of, outdated, without_client}
use Rattle.rr_store.specs.Parts.{ClientPart, Parts, Sender, ServerPart}
use Rattle.rr_store.specs.Sound.{IsSoundStore, empty_hand}
use Rattle.rr_store.specs.Views.{client_of, handle_of, marked, request_in_slot, request_lists, requests_at, response_in_slot, response_lists, state_of}
use Rattle.rr_store.proofs.base.lists.EachOnce.{IsApart}
use Rattle.rr_store.proofs.base.lists.Found.{found_passes, found_somewhere}
use Rattle.rr_store.proofs.base.views.Agreeing.{same_handle, same_state}
use Rattle.rr_store.proofs.base.views.Counts.{listed}
use Rattle.rr_store.proofs.base.views.Expired.{at_expired, requests_alike, responses_alike}
use Rattle.rr_store.proofs.base.views.Keyed.{at_requests}
use Rattle.rr_store.proofs.base.views.Left.{left_client_apart, no_requests_to, no_responses_to, none_filled}
use Rattle.rr_store.proofs.leaving.Lists.{all_at, filter_all, filter_both, map_filter, numbers_distinct, removed, rest_left as rest_of}
use Rattle.rr_releasing.proofs.laws.leaving.Queued.{clients_apart, expired_is}
use Rattle.rr_releasing.proofs.laws.leaving.ClientLists.{at_requests_after, at_responses_after, drops, leaving, requests_view, responses_view, room, server_there, servers_once}

module _ {Q QH P PH K : Type 0} (p : Parts Q QH P PH K) (sound : IsSoundStore p empty_hand) (index : ℕ) (c : ClientPart K)
    (at_c : slice_get p.clients index ≡ Some c) (client_senders : List (Sender Q RequestDetails QH))
    (server_senders : List (Sender P ResponseDetails PH))
    (requests : SendersCut
    (λ l r. is_of (outdated p.client_senders p.left_clients (room_for_expired_clients (state_of p)) (leaving p c) r) l)
    p.client_senders client_senders)
    (responses : SendersCut (λ l r. r == c.receiver) p.server_senders server_senders) where
  abbrev after : Parts Q QH P PH K
  after = without_client (record p { client_senders = client_senders; server_senders = server_senders }) index c

  -- what contracts see before, and after the client's requests expired at each server
  abbrev before : State Q QH P PH K
  before = state_of p

  abbrev left : State Q QH P PH K
  left = after_client_expired before c.port.id

  -- the client is the one with its number
  clients : map client_of (remove p.clients index) ≡ filter (λ (d : Client K). not (d.id == c.port.id)) (map client_of p.clients)
  clients =
      ap (map client_of) (removed (λ (d : ClientPart K). d.port.id) p.clients index c at_c (clients_apart p sound))
      ∙ map_filter client_of (λ (d : ClientPart K). not (d.port.id == c.port.id)) (λ (d : Client K). not (d.id == c.port.id)) p.clients
      (all_at _ p.clients (λ i d at. refl))

  -- no message changed, nor who may answer it
  handles : (k : ℕ) (s : TableEntry HandleEntry) → fin_map.get p.table.entries k ≡ Some s → handle_of after s ≡ handle_of p s
  handles k s at =
      same_handle after p s.value.stage s.value.sender s.value.slot
      (λ is. (
        ap (λ (l : Sender Q RequestDetails QH). request_in_slot p.spare_request_header l.messages s.value.slot)
            (requests.rest s.value.sender),
        ap (λ (l : Sender Q RequestDetails QH). marked p.limits.max_servers p.servers l.may_answer s.value.slot)
            (requests.rest s.value.sender),
      ))
      (λ is. ap (λ (l : Sender P ResponseDetails PH). response_in_slot p.spare_response_header l.messages s.value.slot)
      (responses.rest s.value.sender))

  -- what waits at a key
  requests_there : (key : RequestKey) → at (request_lists after) key ≡ cond (drops p c key.server key.client) [] (at (request_lists p) key)
  requests_there = at_requests_after p sound index c at_c client_senders server_senders requests responses

  responses_there : (key : ResponseKey) → at (response_lists after) key
      ≡ cond (not (key.client == c.port.id)) (at (response_lists p) key) []
  responses_there = at_responses_after p sound index c at_c client_senders server_senders requests responses

  -- of which clients a server has requests, and of which servers a client has responses
  requests_from_after : (n l : ℕ) → requests_from (request_lists after) n l ≡ (requests_from (request_lists p) n l && not (drops p c n l))
  requests_from_after n l = go (drops p c n l) refl
    where
      same : (key : RequestKey) → key.server ≡ n → key.client ≡ l → drops p c key.server key.client ≡ drops p c n l
      same key s d = ap (λ n. drops p c n key.client) s ∙ ap (drops p c n) d

      go : (b : Bool) → drops p c n l ≡ b → requests_from (request_lists after) n l ≡ (requests_from (request_lists p) n l && not b)
      go true e =
          none_filled request_keys_total request_keys_exact (λ key. key.server == n && key.client == l) (request_lists after)
          (λ key h. let both = and_parts (key.server == n) (key.client == l) h in
          requests_there key ∙ ap (λ b. cond b [] (at (request_lists p) key))
          (same key (eqb-true key.server n both.0) (eqb-true key.client l both.1) ∙ e))
          ∙ sym (elim (requests_from (request_lists p) n l) as (λ b. (b && false) ≡ false) [ true ↦ refl | false ↦ refl ])
      go false e =
          requests_alike (request_lists p) (request_lists after) n l
          (λ key s d. requests_there key ∙ ap (λ b. cond b [] (at (request_lists p) key)) (same key s d ∙ e))
          ∙ sym (elim (requests_from (request_lists p) n l) as (λ b. (b && true) ≡ b) [ true ↦ refl | false ↦ refl ])

  no_responses : (l : ℕ) → responses_from (response_lists after) c.port.id l ≡ false
  no_responses l =
      none_filled response_keys_total response_keys_exact (λ key. key.server == l && key.client == c.port.id) (response_lists after)
      (λ key h. responses_there key ∙ ap (λ b. cond (not b) (at (response_lists p) key) [])
      (and_parts (key.server == l) (key.client == c.port.id) h).1)

  same_responses : (n : ℕ) → n ≢ c.port.id → (l : ℕ) → responses_from (response_lists after) n l ≡ responses_from (response_lists p) n l
  same_responses n other l =
      responses_alike (response_lists p) (response_lists after) n l
      (λ key s d. responses_there key ∙ ap (λ b. cond (not b) (at (response_lists p) key) [])
      (ne_eqb key.client c.port.id (λ e. other (sym d ∙ e))))

  -- what is no server has no request
  none_without : (n : ℕ) → find (λ (s : ServerPart K). s.port.id == n) p.servers ≡ None → (l : ℕ)
      → requests_from (request_lists p) n l ≡ false
  none_without n e l =
      none_filled request_keys_total request_keys_exact (λ key. key.server == n && key.client == l) (request_lists p)
      (λ key h. at_requests p key
      ∙ none key (ap (λ m. find (λ (s : ServerPart K). s.port.id == m) p.servers)
      (eqb-true key.server n (and_parts (key.server == n) (key.client == l) h).0) ∙ e))
    where
      none : (key : RequestKey) → find (λ (s : ServerPart K). s.port.id == key.server) p.servers ≡ None → requests_at p key ≡ []
      none key f = rw f refl

  -- the ports that left, by their numbers
  abbrev left_clients : List ℕ
  left_clients = map (λ l. l.number) p.left_clients

  abbrev left_servers : List ℕ
  left_servers = map (λ l. l.number) p.left_servers

  -- no number is among them twice, nor is the client's
  all_once : IsDistinct nat_eq (left_clients ++ c.port.id ∷ [])
  all_once =
      distinct_append left_clients c.port.id (numbers_distinct (λ (l : LeftPort). l.number) p.left_clients apart)
      (all_at (λ l. nat_eq l c.port.id ≡ false) left_clients
      (λ i l at. ne_eqb l c.port.id (λ e. left_client_apart p empty_hand sound i l c.sender at (index, c, at_c, refl)
      ((sound.client_ports.own index c.connected (listed (λ (c : ClientPart K). c.connected) p.clients index c at_c)).1 ∙ sym e))))
    where
      apart : IsApart (λ (l : LeftPort). l.number) p.left_clients
      apart i j l m at there same =
          let o = sound.have_ports.left_clients.own i l at in
          let w = sound.have_ports.left_clients.own j m there in
          sound.have_ports.left_clients.once i j l m at there
          (sound.client_ports.owned_once l.sender m.sender o.0 w.0 (o.1 ∙ same ∙ sym w.1))

  -- those and the client that leaves
  abbrev all : List ℕ
  all = left_clients ++ c.port.id ∷ []

  -- of which of them a port listed messages, and the oldest of these, for which there is no room as the client leaves
  abbrev listed_by : (ℕ → Bool) → List ℕ
  listed_by old = filter old left_clients

  abbrev is_gone : List ℕ → ℕ → Bool
  is_gone senders l = list_any (λ m. m == l) (outdated_senders (room p c) senders c.port.id)

  -- the numbers that are kept of a list
  kept : (old : ℕ → Bool) (b : Bool) → old c.port.id ≡ b → filter (λ l. not (b && is_gone (listed_by old) l)) (filter old all)
      ≡ cond b (kept_senders (room p c) (listed_by old) c.port.id) (listed_by old)
  kept old b e = ap (filter (λ l. not (b && is_gone (listed_by old) l))) (split b e) ∙ go b e
    where
      split : (b : Bool) → old c.port.id ≡ b → filter old all ≡ listed_by old ++ cond b (c.port.id ∷ []) []
      split b e = filter-append old left_clients (c.port.id ∷ []) ∙ ap (λ b. listed_by old ++ cond b (c.port.id ∷ []) []) e

      go : (b : Bool) → old c.port.id ≡ b
          → filter (λ l. not (b && is_gone (listed_by old) l)) (listed_by old ++ cond b (c.port.id ∷ []) [])
          ≡ cond b (kept_senders (room p c) (listed_by old) c.port.id) (listed_by old)
      go true e =
          rest_of (length (listed_by old) + 1 - room p c) (listed_by old ++ c.port.id ∷ [])
          (subst (IsDistinct nat_eq) (split true e) (distinct_filter old all all_once))
      go false e = filter_all (listed_by old ++ []) ∙ append-nil (listed_by old)

  module _ (n : ℕ) where
    -- whether a port had requests of a client, and responses of a server
    abbrev asked : ℕ → Bool
    asked = requests_from (request_lists p) n

    abbrev answered : ℕ → Bool
    answered = responses_from (response_lists p) n

    -- of which ports that left one has messages now
    abbrev now : List ℕ
    now = expired_to (request_lists after) (response_lists after) (map (λ l. l.number) after.left_clients) left_servers n

    -- the client that leaves has none
    now_here : n ≡ c.port.id → now ≡ []
    now_here e =
        ap (λ ls. ls ++ filter (responses_from (response_lists after) n) left_servers)
        (filter_never (requests_from (request_lists after) n)
        (λ l. requests_from_after n l ∙ ap (λ b. b && not (drops p c n l))
        (ap (λ n. requests_from (request_lists p) n l) e ∙ no_requests_to p empty_hand sound index c at_c l))
        (map (λ l. l.number) after.left_clients))
        ∙ filter_never (responses_from (response_lists after) n)
        (λ l. ap (λ n. responses_from (response_lists after) n l) e ∙ no_responses l) left_servers

    -- any other has those that it had, but for requests that it dropped
    now_there : n ≢ c.port.id → now ≡ filter (λ l. asked l && not (drops p c n l)) all ++ filter answered left_servers
    now_there other =
        ap (λ ls. filter (requests_from (request_lists after) n) ls ++ filter (responses_from (response_lists after) n) left_servers)
        (map-append (λ (l : LeftPort). l.number) p.left_clients (leaving p c ∷ []))
        ∙ ap (λ ls. ls ++ filter (responses_from (response_lists after) n) left_servers)
        (filter_agree (requests_from (request_lists after) n) (λ l. asked l && not (drops p c n l)) (requests_from_after n) all)
        ∙ ap (λ ls. filter (λ l. asked l && not (drops p c n l)) all ++ ls)
        (filter_agree (responses_from (response_lists after) n) answered (same_responses n other) left_servers)

    -- which are those that a contract sees
    those : (o : Option (ServerPart K)) → find (λ (s : ServerPart K). s.port.id == n) p.servers ≡ o
        → filter (λ l. asked l && not (drops p c n l)) all ++ filter answered left_servers
        ≡ cond (has_server before.servers n && asked c.port.id) (kept_senders (room p c) (at before.expired n) c.port.id)
        (at before.expired n)
    those None e =
        ap (λ ls. ls ++ filter answered left_servers)
        (filter_never (λ l. asked l && not (drops p c n l)) (λ l. ap (λ b. b && not (drops p c n l)) (none_without n e l)) all
        ∙ sym (filter_never asked (none_without n e) left_clients))
        ∙ sym (at_expired (request_lists p) (response_lists p) left_clients left_servers n)
        ∙ sym (ap (λ b. cond (b && asked c.port.id) (kept_senders (room p c) (at before.expired n) c.port.id) (at before.expired n))
        (server_there p c n None e))
    those (Some s) e =
        let i = found_somewhere (λ (s : ServerPart K). s.port.id == n) p.servers s e in
        let id : s.port.id ≡ n = eqb-true s.port.id n (found_passes (λ (s : ServerPart K). s.port.id == n) p.servers s e) in
        let had : at before.expired n ≡ listed_by asked =
        ap (at before.expired) (sym id) ∙ expired_is p sound i.0 s i.1
        ∙ ap (λ n. filter (requests_from (request_lists p) n) left_clients) id in
        let has : has_server before.servers n ≡ true = server_there p c n (Some s) e in
        ap (λ ls. filter (λ l. asked l && not (drops p c n l)) all ++ ls)
        (filter_never answered
        (λ l. ap (λ n. responses_from (response_lists p) n l) (sym id) ∙ no_responses_to p empty_hand sound i.0 s i.1 l) left_servers)
        ∙ append-nil (filter (λ l. asked l && not (drops p c n l)) all)
        ∙ filter_both asked (λ l. not (drops p c n l)) all
        ∙ ap (λ b. filter (λ l. not ((b && asked c.port.id) && is_gone (at before.expired n) l)) (filter asked all)) has
        ∙ ap (λ ns. filter (λ l. not (asked c.port.id && is_gone ns l)) (filter asked all)) had
        ∙ kept asked (asked c.port.id) refl
        ∙ sym (ap (λ b. cond (b && asked c.port.id) (kept_senders (room p c) (at before.expired n) c.port.id) (at before.expired n)) has
        ∙ ap (λ ns. cond (asked c.port.id) (kept_senders (room p c) ns c.port.id) ns) had)

    expired_at : now ≡ at (with_at left.expired c.port.id []) n
    expired_at =
        ⊎_elim
        (λ e. now_here e ∙ sym (ap (λ b. cond b [] (at left.expired n)) (tied_same n c.port.id e)))
        (λ other. now_there other ∙ those (find (λ (s : ServerPart K). s.port.id == n) p.servers) refl
        ∙ sym (expired_left before c.port.id (servers_once p sound index c at_c client_senders server_senders requests responses) n)
        ∙ sym (ap (λ b. cond b [] (at left.expired n)) (tied_other n c.port.id other)))
        (cases_eq n c.port.id)
        ∙ sym (at-with_at nat_cmp_total left.expired c.port.id [] n)

  -- so each port lists whom it did, or these
  expired : (state_of after).expired ≡ with_at left.expired c.port.id []
  expired =
      same_lists nat_cmp_total nat_cmp-IsAntisymmetric (state_of after).expired (with_at left.expired c.port.id [])
      (λ n. at_expired (request_lists after) (response_lists after) (map (λ l. l.number) after.left_clients) left_servers n ∙ expired_at n)

  -- nothing else changed as its requests expired
  rest : left ≡ record before { requests = left.requests; expired = left.expired }
  rest = rest_left before c.port.id

  -- a client left
  pub client_left_view : state_of after ≡ after_client_left (state_of p) c.port.id
  client_left_view =
      same_state (state_of after) (after_client_left (state_of p) c.port.id)
      (sym (ap (λ (s : State Q QH P PH K). s.limits) rest))
      (sym (ap (λ (s : State Q QH P PH K). s.node_id) rest))
      (clients ∙ sym (ap (λ (s : State Q QH P PH K). filter (λ (d : Client K). not (d.id == c.port.id)) s.clients) rest))
      (sym (ap (λ (s : State Q QH P PH K). s.servers) rest))
      (map_values-same (handle_of after) (handle_of p) p.table.entries handles ∙ sym (ap (λ (s : State Q QH P PH K). s.handles) rest))
      (requests_view p sound index c at_c client_senders server_senders requests responses)
      (responses_view p sound index c at_c client_senders server_senders requests responses
      ∙ sym (ap (λ (s : State Q QH P PH K). fin_map.retain_keys s.responses (λ key. not (key.client == c.port.id))) rest))
      expired
      (sym (ap (λ (s : State Q QH P PH K). s.next) rest))
