-- What contracts see as the value of a server goes.
use Rattle.std.proofs.Common.{◌≡◌, ◌≢◌, ℕ, zero, suc, Bool, true, false, List, [], ◌∷◌, Option, None, Some, find, map, cond, get_or, refl, sym, ap, ◌∙◌}
use Rattle.std.specs.Prelude.{◌==◌, filter, slice_get, slice_set}
use Rattle.std.specs.Option.{option_map_or}
use Rattle.std.specs.FinMap as fin_map
use Rattle.std.proofs.lemmas.List.{map-id}
use Rattle.std.proofs.lemmas.Bool.{eq-eqb, ne_eqb}
use Rattle.std.proofs.lemmas.Option.{get_or_from_slice_get}
use Rattle.rr_table.specs.TableView.{TableEntry}
use Rattle.rr_table.proofs.MapLaws.{map_values-same}
use Rattle.rr_sender.specs.Senders.{queue_at}
use Rattle.rr_protocol.specs.Keys.{RequestKey, ResponseKey}
use Rattle.rr_protocol.specs.Messages.{ResponseMessage}
use Rattle.rr_protocol.specs.Ports.{Client, Server}
use Rattle.rr_protocol.specs.Releases.{without_port_value, without_value}
use Rattle.rr_store.specs.declared.handle_entry.HandleEntry.{HandleEntry}
use Rattle.rr_store.specs.declared.details.RequestDetails.{RequestDetails}
use Rattle.rr_store.specs.declared.details.ResponseDetails.{ResponseDetails}
use Rattle.rr_store.specs.Leaving.{valueless, valueless_server, without_server_value}
use Rattle.rr_store.specs.Parts.{ClientPart, Parts, Sender, ServerPart}
use Rattle.rr_store.specs.Sound.{IsSoundStore, empty_hand}
use Rattle.rr_store.specs.Views.{client_of, handle_of, is_marked, marked, no_sender, request_in_slot, requests_at, response_in_slot, responses_at, sender_of, server_of, state_of}
use Rattle.rr_store.proofs.base.lists.Adding.{mapped}
use Rattle.rr_store.proofs.base.lists.Replaced.{find_read, map-set_one, map_but, map_same, set_alike}
use Rattle.rr_store.proofs.base.views.Agreeing.{same_expired, same_handle, same_requests, same_responses, same_state}
use Rattle.rr_store.proofs.base.views.Counts.{ids_apart, listed}

-- the same servers are marked as one of them becomes one of the same number and receiver
alike_marked : {K : Type 0} (receivers : ℕ) (marks : List ℕ) (slot : ℕ) (servers : List (ServerPart K)) (i : ℕ) (s d : ServerPart K)
    → (d ≡ get_or servers i d) → s.port.id ≡ d.port.id → s.receiver ≡ d.receiver
    → marked receivers (slice_set servers i s) marks slot ≡ marked receivers servers marks slot
alike_marked {K} receivers marks slot [] i s d it id receiver = refl
alike_marked {K} receivers marks slot (x ∷ servers) zero s d it id receiver =
    let ids : s.port.id ≡ x.port.id = id ∙ ap (λ (y : ServerPart K). y.port.id) it in
    let there : s.receiver ≡ x.receiver = receiver ∙ ap (λ (y : ServerPart K). y.receiver) it in
    ap (λ b. map (λ (y : ServerPart K). y.port.id) (cond b (s ∷ filter (λ y. is_marked receivers marks slot y.receiver y.port.id) servers)
    (filter (λ y. is_marked receivers marks slot y.receiver y.port.id) servers)))
    (ap (λ n. is_marked receivers marks slot n s.port.id) there ∙ ap (λ n. is_marked receivers marks slot x.receiver n) ids)
    ∙ either (is_marked receivers marks slot x.receiver x.port.id) ids
  where
    either : (b : Bool) → s.port.id ≡ x.port.id
        → map (λ (y : ServerPart K). y.port.id) (cond b (s ∷ filter (λ y. is_marked receivers marks slot y.receiver y.port.id) servers)
        (filter (λ y. is_marked receivers marks slot y.receiver y.port.id) servers))
        ≡ map (λ (y : ServerPart K). y.port.id) (cond b (x ∷ filter (λ y. is_marked receivers marks slot y.receiver y.port.id) servers)
        (filter (λ y. is_marked receivers marks slot y.receiver y.port.id) servers))
    either true same = ap (λ n. n ∷ map (λ (y : ServerPart K). y.port.id)
        (filter (λ y. is_marked receivers marks slot y.receiver y.port.id) servers)) same
    either false same = refl
alike_marked {K} receivers marks slot (x ∷ servers) (suc i) s d it id receiver =
    either (is_marked receivers marks slot x.receiver x.port.id) (alike_marked receivers marks slot servers i s d it id receiver)
  where
    either : (b : Bool) → marked receivers (slice_set servers i s) marks slot ≡ marked receivers servers marks slot
        → map (λ (y : ServerPart K). y.port.id) (cond b
        (x ∷ filter (λ y. is_marked receivers marks slot y.receiver y.port.id) (slice_set servers i s))
        (filter (λ y. is_marked receivers marks slot y.receiver y.port.id) (slice_set servers i s)))
        ≡ map (λ (y : ServerPart K). y.port.id) (cond b (x ∷ filter (λ y. is_marked receivers marks slot y.receiver y.port.id) servers)
        (filter (λ y. is_marked receivers marks slot y.receiver y.port.id) servers))
    either true rest = ap (λ (ns : List ℕ). x.port.id ∷ ns) rest
    either false rest = rest

module _ {Q QH P PH K : Type 0} (p : Parts Q QH P PH K) (sound : IsSoundStore p empty_hand) (index : ℕ) (s : ServerPart K)
    (at_s : slice_get p.servers index ≡ Some s) where
  abbrev after : Parts Q QH P PH K
  after = without_server_value p index s

  abbrev own : Sender P ResponseDetails PH
  own = sender_of s.sender p.server_senders

  same : {Y : Type 0} (f : Sender P ResponseDetails PH → Y) → f (valueless own) ≡ f own → (l : ℕ)
      → f (sender_of l after.server_senders) ≡ f (sender_of l p.server_senders)
  same f e l = set_alike p.server_senders s.sender (valueless own) no_sender f e l

  it : get_or p.servers index s ≡ s
  it = get_or_from_slice_get p.servers index s s at_s

  -- the same servers may answer
  waiting : (ms : List ℕ) (slot : ℕ) → marked p.limits.max_servers after.servers ms slot ≡ marked p.limits.max_servers p.servers ms slot
  waiting ms slot = alike_marked p.limits.max_servers ms slot p.servers index (valueless_server s) s (sym it) refl refl

  -- the handles show what they did
  handles : (k : ℕ) (t : TableEntry HandleEntry) → fin_map.get p.table.entries k ≡ Some t → handle_of after t ≡ handle_of p t
  handles k t at =
      same_handle after p t.value.stage t.value.sender t.value.slot
      (λ is. (refl, waiting (sender_of t.value.sender p.client_senders).may_answer t.value.slot))
      (λ is. same (λ x. response_in_slot p.spare_response_header x.messages t.value.slot) refl t.value.sender)

  -- and so do the queues
  responses : (key : ResponseKey) → responses_at after key ≡ responses_at p key
  responses key = go (find (λ c. c.port.id == key.client) p.clients)
    where
      waits : ℕ → Sender P ResponseDetails PH → List (ResponseMessage P PH)
      waits receiver sender = map (response_in_slot p.spare_response_header sender.messages) (queue_at sender.messages receiver key.channel)

      go : (client : Option (ClientPart K)) →
          option_map_or (λ c. option_map_or (waits c.receiver) (find (λ sender. sender.owner == key.server) after.server_senders) []) client
          []
          ≡ option_map_or (λ c. option_map_or (waits c.receiver) (find (λ sender. sender.owner == key.server) p.server_senders) []) client
          []
      go None = refl
      go (Some c) =
          find_read (λ (sender : Sender P ResponseDetails PH). sender.owner == key.server) (waits c.receiver) [] p.server_senders s.sender
          (valueless own) no_sender refl refl

  requests : (key : RequestKey) → requests_at after key ≡ requests_at p key
  requests key =
      find_read (λ (d : ServerPart K). d.port.id == key.server)
      (λ d. option_map_or (λ (sender : Sender Q RequestDetails QH). map (request_in_slot p.spare_request_header sender.messages)
      (queue_at sender.messages d.receiver 0))
      (find (λ (sender : Sender Q RequestDetails QH). sender.owner == key.client) p.client_senders)
      [])
      [] p.servers index (valueless_server s) s
      (ap (λ (d : ServerPart K). d.port.id == key.server) (sym it))
      (ap (λ (d : ServerPart K). option_map_or (λ (sender : Sender Q RequestDetails QH). map
      (request_in_slot p.spare_request_header sender.messages) (queue_at sender.messages d.receiver 0))
      (find (λ (sender : Sender Q RequestDetails QH). sender.owner == key.client) p.client_senders) []) (sym it))

  -- what becomes of a port as the value under a number goes
  abbrev of_client : Client K → Client K
  of_client d = record d { port = without_value s.port.id d.port }

  abbrev of_server : Server K → Server K
  of_server d = record d { port = without_value s.port.id d.port }

  -- one server has no value any more
  servers : map server_of after.servers ≡ map of_server (map server_of p.servers)
  servers =
      map-set_one server_of p.servers index (valueless_server s)
      ∙ ap (λ d. slice_set (map server_of p.servers) index d) (sym this)
      ∙ sym (map_but (λ d. d) of_server (map server_of p.servers) index (server_of s) (listed server_of p.servers index s at_s) others
      ∙ ap (λ (ds : List (Server K)). slice_set ds index (of_server (server_of s))) (map-id (map server_of p.servers)))
    where
      this : of_server (server_of s) ≡ server_of (valueless_server s)
      this = rw (eq-eqb s.port.id s.port.id refl) refl

      others : (j : ℕ) (d : Server K) → j ≢ index → slice_get (map server_of p.servers) j ≡ Some d → of_server d ≡ d
      others j d n e =
          let it = mapped server_of p.servers j d e in
          let far : d.id ≢ s.port.id = λ same. ids_apart (λ (s : ServerPart K). s.connected) p.next p.limits.max_servers p.servers
          p.server_senders sound.server_ports j index it.0 s it.1 at_s n (ap (λ (d : Server K). d.id) it.2 ∙ same) in
          rw (ne_eqb d.id s.port.id far) refl

  -- and no client has its number
  clients : map client_of p.clients ≡ map of_client (map client_of p.clients)
  clients =
      sym (map-id (map client_of p.clients))
      ∙ sym (map_same (λ d. d) of_client (map client_of p.clients) (λ j d e.
      let it = mapped client_of p.clients j d e in
      let far : d.id ≢ s.port.id = λ same. sound.have_ports.apart j index it.0 s it.1 at_s
      (ap (λ (d : Client K). d.id) it.2 ∙ same) in
      rw (ne_eqb d.id s.port.id far) refl))

  pub server_value_view : state_of after ≡ without_port_value (state_of p) s.port.id
  server_value_view =
      same_state (state_of after) (without_port_value (state_of p) s.port.id) refl refl clients servers
      (map_values-same (handle_of after) (handle_of p) p.table.entries handles)
      (same_requests after p requests) (same_responses after p responses)
      (same_expired _ _ (same_requests after p requests) (same_responses after p responses)) refl
