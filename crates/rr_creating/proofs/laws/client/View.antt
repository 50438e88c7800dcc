-- What contracts see of a core after a client was created.
use Rattle.std.proofs.Common.{◌≡◌, ◌≢◌, ℕ, Bool, true, false, cond, List, [], Option, None, Some, find, map, refl, sym, ap, ◌∙◌, arith}
use Rattle.std.specs.Prelude.{◌==◌, filter, slice_get}
use Rattle.std.specs.Option.{option_map_or, option_or}
use Rattle.std.specs.FinMap as fin_map
use Rattle.std.proofs.lemmas.Option.{get_or_from_slice_get}
use Rattle.std.proofs.lemmas.List.{map-append}
use Rattle.rr_table.specs.TableView.{TableEntry}
use Rattle.rr_table.proofs.MapLaws.{map_values-same}
use Rattle.rr_sender.specs.Senders.{Messages, queue_at}
use Rattle.rr_protocol.specs.declared.settings.ClientSettings.{ClientSettings}
use Rattle.rr_protocol.specs.Keys.{RequestKey, ResponseKey}
use Rattle.rr_protocol.specs.Messages.{RequestMessage, ResponseMessage}
use Rattle.rr_protocol.specs.Creation.{with_client}
use Rattle.rr_store.specs.declared.handle_entry.HandleEntry.{HandleEntry}
use Rattle.rr_store.specs.declared.details.RequestDetails.{RequestDetails}
use Rattle.rr_store.specs.declared.details.ResponseDetails.{ResponseDetails}
use Rattle.rr_store.specs.Parts.{Parts, ClientPart, ServerPart, Sender}
use Rattle.rr_store.specs.Views.{no_sender, no_request, sender_of, client_of, handle_of, request_in_slot, request_lists, response_in_slot, response_lists, requests_at, responses_at, state_of, marked}
use Rattle.rr_store.specs.Sound.{IsSoundStore, empty_hand}
use Rattle.rr_store.specs.Creating.{IsNew, Site, new_client, new_client_sender, with_client_part}
use Rattle.rr_store.specs.Expired.{requests_from}
use Rattle.rr_store.proofs.base.lists.Found.{found_somewhere, find_last}
use Rattle.rr_creating.proofs.laws.IdleLeft.{IsOwnedOnce, read_put, same_left_clients}
use Rattle.rr_creating.proofs.laws.NewSenders.{IsPut, apart_added, new_queue}
use Rattle.rr_creating.proofs.laws.Sites.{request_elsewhere}
use Rattle.rr_store.proofs.base.views.Agreeing.{same_handle, same_requests, same_responses, same_state, same_expired}

module _ {Q QH P PH K : Type 0} (p : Parts Q QH P PH K) (settings : ClientSettings K) (receiver : ℕ) (m : Messages Q RequestDetails QH)
    (site : Site Q RequestDetails QH) (sound : IsSoundStore p empty_hand) (slots room receivers channels capacity : ℕ)
    (new : IsNew slots room receivers channels capacity no_request m)
    (vacant : (i : ℕ) (c : ClientPart K) → slice_get p.clients i ≡ Some c → c.receiver ≢ receiver)
    (put : IsPut site.sender (new_client_sender p settings site.row receiver m) p.client_senders site.senders)
    (unlisted : (n : ℕ) → filter (requests_from (request_lists p) n) (map (λ l. l.number) site.left)
    ≡ filter (requests_from (request_lists p) n) (map (λ l. l.number) p.left_clients)) where
  abbrev after : Parts Q QH P PH K
  after = with_client_part p settings receiver site

  -- the handles show what they did
  handles : (k : ℕ) (s : TableEntry HandleEntry) → fin_map.get p.table.entries k ≡ Some s → handle_of after s ≡ handle_of p s
  handles k s at =
      same_handle after p s.value.stage s.value.sender s.value.slot
      (λ is.
      let kept = put.others s.value.sender (request_elsewhere p sound.counted site.sender put.idle k s at is) in (
        ap (λ (l : Sender Q RequestDetails QH). request_in_slot p.spare_request_header l.messages s.value.slot) kept,
        ap (λ (l : Sender Q RequestDetails QH). marked p.limits.max_servers p.servers l.may_answer s.value.slot) kept,
      ))
      (λ is. refl)

  -- no two senders have one number
  owned_once : IsOwnedOnce site.senders
  owned_once = apart_added put (λ l. l.owner) (λ l _ h same. omega (arith, sound.client_ports.numbered l h, same))
      sound.client_ports.owned_once

  -- no request waits in the new sender, and none waited in the one before it
  requests : (key : RequestKey) → requests_at after key ≡ requests_at p key
  requests key = go (find (λ s. s.port.id == key.server) p.servers)
    where
      shown : ServerPart K → Sender Q RequestDetails QH → List (RequestMessage Q QH)
      shown s l = map (request_in_slot p.spare_request_header l.messages) (queue_at l.messages s.receiver 0)

      go : (server : Option (ServerPart K))
          → option_map_or (λ s. option_map_or (shown s) (find (λ l. l.owner == key.client) site.senders) []) server []
          ≡ option_map_or (λ s. option_map_or (shown s) (find (λ l. l.owner == key.client) p.client_senders) []) server []
      go None = refl
      go (Some s) = read_put put sound.client_ports.owned_once owned_once (shown s) []
          (ap (map (request_in_slot p.spare_request_header m)) (new_queue m new s.receiver 0))
          (ap (map (request_in_slot p.spare_request_header (sender_of site.sender p.client_senders).messages))
          (put.idle.queues s.receiver 0))
          key.client

  -- no response waits for the new client
  responses : (key : ResponseKey) → responses_at after key ≡ responses_at p key
  responses key =
      ap (λ o. option_map_or (λ (c : ClientPart K). option_map_or (λ (l : Sender P ResponseDetails PH). shown l c)
      (find (λ (l : Sender P ResponseDetails PH). l.owner == key.server) p.server_senders) []) o
      []) (find_last (λ (c : ClientPart K). c.port.id == key.client) p.clients _)
      ∙ go (find (λ c. c.port.id == key.client) p.clients) (find (λ l. l.owner == key.server) p.server_senders) (p.next == key.client) refl
    where
      shown : Sender P ResponseDetails PH → ClientPart K → List (ResponseMessage P PH)
      shown l c = map (response_in_slot p.spare_response_header l.messages) (queue_at l.messages c.receiver key.channel)

      go : (client : Option (ClientPart K)) (sender : Option (Sender P ResponseDetails PH)) (b : Bool)
          → find (λ l. l.owner == key.server) p.server_senders ≡ sender
          → option_map_or (λ c. option_map_or (λ l. map (response_in_slot p.spare_response_header l.messages)
          (queue_at l.messages c.receiver key.channel)) sender []) (option_or client
          (cond b (Some (new_client p settings site.sender receiver)) None)) []
          ≡ option_map_or (λ c. option_map_or (λ l. map (response_in_slot p.spare_response_header l.messages)
          (queue_at l.messages c.receiver key.channel)) sender []) client []
      go (Some c) sender b e = refl
      go None sender false e = refl
      go None None true e = refl
      go None (Some l) true e =
          let there = found_somewhere (λ l. l.owner == key.server) p.server_senders l e in
          let is : sender_of there.0 p.server_senders ≡ l = get_or_from_slice_get p.server_senders there.0 l no_sender there.1 in
          let empty : queue_at l.messages receiver key.channel ≡ [] =
          ap (λ (x : Sender P ResponseDetails PH). queue_at x.messages receiver key.channel) (sym is)
          ∙ (sound.vacated.of_clients there.0 receiver key.channel vacant).0 in
          ap (map (response_in_slot p.spare_response_header l.messages)) empty

  -- a client was created
  pub client_view : state_of after ≡ with_client (state_of p) settings
  client_view =
      same_state (state_of after) (with_client (state_of p) settings) refl refl
      (map-append client_of p.clients _) refl
      (map_values-same (handle_of after) (handle_of p) p.table.entries handles)
      (same_requests after p requests) (same_responses after p responses)
      (same_expired _ _ (same_requests after p requests) (same_responses after p responses)
      ∙ same_left_clients (request_lists p) (response_lists p) _ _ _ unlisted) refl
