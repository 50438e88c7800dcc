-- What contracts see as the value of a client goes.
use Rattle.std.proofs.Common.{◌≡◌, ◌≢◌, ℕ, List, [], Option, None, Some, find, map, get_or, refl, sym, ap, ◌∙◌}
use Rattle.std.specs.Prelude.{◌==◌, slice_get, slice_set}
use Rattle.std.specs.Option.{option_map_or}
use Rattle.std.specs.FinMap as fin_map
use Rattle.std.proofs.lemmas.List.{map-id}
use Rattle.std.proofs.lemmas.Bool.{eq-eqb, ne_eqb}
use Rattle.std.proofs.lemmas.Option.{get_or_from_slice_get}
use Rattle.rr_table.specs.TableView.{TableEntry}
use Rattle.rr_table.proofs.MapLaws.{map_values-same}
use Rattle.rr_sender.specs.Senders.{queue_at}
use Rattle.rr_protocol.specs.Keys.{RequestKey, ResponseKey}
use Rattle.rr_protocol.specs.Messages.{RequestMessage}
use Rattle.rr_protocol.specs.Ports.{Client, Server}
use Rattle.rr_protocol.specs.Releases.{without_port_value, without_value}
use Rattle.rr_store.specs.declared.handle_entry.HandleEntry.{HandleEntry}
use Rattle.rr_store.specs.declared.details.RequestDetails.{RequestDetails}
use Rattle.rr_store.specs.declared.details.ResponseDetails.{ResponseDetails}
use Rattle.rr_store.specs.Leaving.{valueless, valueless_client, without_client_value}
use Rattle.rr_store.specs.Parts.{ClientPart, Parts, Sender, ServerPart}
use Rattle.rr_store.specs.Sound.{IsSoundStore, empty_hand}
use Rattle.rr_store.specs.Views.{client_of, handle_of, marked, no_sender, request_in_slot, requests_at, response_in_slot, responses_at, sender_of, server_of, state_of}
use Rattle.rr_store.proofs.base.lists.Adding.{mapped}
use Rattle.rr_store.proofs.base.lists.Replaced.{find_read, map-set_one, map_but, map_same, set_alike}
use Rattle.rr_store.proofs.base.views.Agreeing.{same_expired, same_handle, same_requests, same_responses, same_state}
use Rattle.rr_store.proofs.base.views.Counts.{ids_apart, listed}

module _ {Q QH P PH K : Type 0} (p : Parts Q QH P PH K) (sound : IsSoundStore p empty_hand) (index : ℕ) (c : ClientPart K)
    (at_c : slice_get p.clients index ≡ Some c) where
  abbrev after : Parts Q QH P PH K
  after = without_client_value p index c

  abbrev own : Sender Q RequestDetails QH
  own = sender_of c.sender p.client_senders

  same : {Y : Type 0} (f : Sender Q RequestDetails QH → Y) → f (valueless own) ≡ f own → (l : ℕ)
      → f (sender_of l after.client_senders) ≡ f (sender_of l p.client_senders)
  same f e l = set_alike p.client_senders c.sender (valueless own) no_sender f e l

  -- the handles show what they did
  handles : (k : ℕ) (s : TableEntry HandleEntry) → fin_map.get p.table.entries k ≡ Some s → handle_of after s ≡ handle_of p s
  handles k s at =
      same_handle after p s.value.stage s.value.sender s.value.slot
      (λ is. (
        same (λ x. request_in_slot p.spare_request_header x.messages s.value.slot) refl s.value.sender,
        same (λ x. marked p.limits.max_servers p.servers x.may_answer s.value.slot) refl s.value.sender,
      ))
      (λ is. refl)

  -- and so do the queues
  requests : (key : RequestKey) → requests_at after key ≡ requests_at p key
  requests key = go (find (λ s. s.port.id == key.server) p.servers)
    where
      waits : ℕ → Sender Q RequestDetails QH → List (RequestMessage Q QH)
      waits receiver sender = map (request_in_slot p.spare_request_header sender.messages) (queue_at sender.messages receiver 0)

      go : (server : Option (ServerPart K)) →
          option_map_or (λ s. option_map_or (waits s.receiver) (find (λ sender. sender.owner == key.client) after.client_senders) []) server
          []
          ≡ option_map_or (λ s. option_map_or (waits s.receiver) (find (λ sender. sender.owner == key.client) p.client_senders) []) server
          []
      go None = refl
      go (Some s) =
          find_read (λ (sender : Sender Q RequestDetails QH). sender.owner == key.client) (waits s.receiver) [] p.client_senders c.sender
          (valueless own) no_sender refl refl

  responses : (key : ResponseKey) → responses_at after key ≡ responses_at p key
  responses key =
      find_read (λ (d : ClientPart K). d.port.id == key.client)
      (λ d. option_map_or (λ (sender : Sender P ResponseDetails PH). map (response_in_slot p.spare_response_header sender.messages)
      (queue_at sender.messages d.receiver key.channel))
      (find (λ (sender : Sender P ResponseDetails PH). sender.owner == key.server) p.server_senders)
      [])
      [] p.clients index (valueless_client c) c
      (ap (λ (d : ClientPart K). d.port.id == key.client) (sym it))
      (ap (λ (d : ClientPart K). option_map_or (λ (sender : Sender P ResponseDetails PH). map
      (response_in_slot p.spare_response_header sender.messages) (queue_at sender.messages d.receiver key.channel))
      (find (λ (sender : Sender P ResponseDetails PH). sender.owner == key.server) p.server_senders) []) (sym it))
    where
      it : get_or p.clients index c ≡ c
      it = get_or_from_slice_get p.clients index c c at_c

  -- what becomes of a client as the value under a number goes
  abbrev of_client : Client K → Client K
  of_client d = record d { port = without_value c.port.id d.port }

  abbrev of_server : Server K → Server K
  of_server s = record s { port = without_value c.port.id s.port }

  -- one client has no value any more
  clients : map client_of after.clients ≡ map of_client (map client_of p.clients)
  clients =
      map-set_one client_of p.clients index (valueless_client c)
      ∙ ap (λ d. slice_set (map client_of p.clients) index d) (sym this)
      ∙ sym (map_but (λ d. d) of_client (map client_of p.clients) index (client_of c) (listed client_of p.clients index c at_c) others
      ∙ ap (λ (ds : List (Client K)). slice_set ds index (of_client (client_of c))) (map-id (map client_of p.clients)))
    where
      this : of_client (client_of c) ≡ client_of (valueless_client c)
      this = rw (eq-eqb c.port.id c.port.id refl) refl

      others : (j : ℕ) (d : Client K) → j ≢ index → slice_get (map client_of p.clients) j ≡ Some d → of_client d ≡ d
      others j d n e =
          let it = mapped client_of p.clients j d e in
          let far : d.id ≢ c.port.id = λ same. ids_apart (λ (c : ClientPart K). c.connected) p.next p.limits.max_clients p.clients
          p.client_senders sound.client_ports j index it.0 c it.1 at_c n (ap (λ (d : Client K). d.id) it.2 ∙ same) in
          rw (ne_eqb d.id c.port.id far) refl

  -- and no server has its number
  servers : map server_of p.servers ≡ map of_server (map server_of p.servers)
  servers =
      sym (map-id (map server_of p.servers))
      ∙ sym (map_same (λ s. s) of_server (map server_of p.servers) (λ j s e.
      let it = mapped server_of p.servers j s e in
      let far : s.id ≢ c.port.id = λ same. sound.have_ports.apart index j c it.0 at_c it.1
      (sym (ap (λ (s : Server K). s.id) it.2 ∙ same)) in
      rw (ne_eqb s.id c.port.id far) refl))

  pub client_value_view : state_of after ≡ without_port_value (state_of p) c.port.id
  client_value_view =
      same_state (state_of after) (without_port_value (state_of p) c.port.id) refl refl clients servers
      (map_values-same (handle_of after) (handle_of p) p.table.entries handles)
      (same_requests after p requests) (same_responses after p responses)
      (same_expired _ _ (same_requests after p requests) (same_responses after p responses)) refl
