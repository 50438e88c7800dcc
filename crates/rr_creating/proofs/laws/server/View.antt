-- What contracts see of a core after a server was created.
use Rattle.std.proofs.Common.{◌≡◌, ◌≢◌, ◌<◌, ℕ, Bool, true, false, cond, List, [], ◌∷◌, ◌++◌, Option, None, Some, find, filter, map, refl, sym, ap, ◌∙◌, arith}
use Rattle.std.specs.Prelude.{◌==◌, slice_get}
use Rattle.std.specs.Option.{option_map_or, option_or}
use Rattle.std.specs.FinMap as fin_map
use Rattle.std.proofs.lemmas.Option.{get_or_from_slice_get}
use Rattle.std.proofs.lemmas.List.{map-append}
use Rattle.rr_table.specs.TableView.{TableEntry}
use Rattle.rr_table.proofs.MapLaws.{map_values-same}
use Rattle.rr_sender.specs.Senders.{Messages, queue_at}
use Rattle.rr_protocol.specs.declared.settings.ServerSettings.{ServerSettings}
use Rattle.rr_protocol.specs.Keys.{RequestKey, ResponseKey}
use Rattle.rr_protocol.specs.Messages.{RequestMessage, ResponseMessage}
use Rattle.rr_protocol.specs.Creation.{with_server}
use Rattle.rr_store.specs.declared.handle_entry.HandleEntry.{HandleEntry}
use Rattle.rr_store.specs.declared.details.RequestDetails.{RequestDetails}
use Rattle.rr_store.specs.declared.details.ResponseDetails.{ResponseDetails}
use Rattle.rr_store.specs.Parts.{Parts, ClientPart, ServerPart, Sender}
use Rattle.rr_store.specs.Views.{no_sender, no_response, sender_of, server_of, handle_of, request_in_slot, request_lists, response_in_slot, response_lists, requests_at, responses_at, is_awaited, waiting_at, state_of}
use Rattle.rr_store.specs.Sound.{IsSoundStore, empty_hand}
use Rattle.rr_store.specs.Creating.{IsNew, Site, new_server, new_server_sender, with_server_part}
use Rattle.rr_store.specs.Expired.{responses_from}
use Rattle.rr_store.proofs.base.lists.Found.{found_somewhere, find_last}
use Rattle.rr_creating.proofs.laws.IdleLeft.{IsOwnedOnce, read_put, same_left_servers}
use Rattle.rr_creating.proofs.laws.NewSenders.{IsPut, apart_added, new_queue}
use Rattle.rr_creating.proofs.laws.Sites.{response_elsewhere}
use Rattle.rr_store.proofs.base.views.Agreeing.{same_handle, same_requests, same_responses, same_state, same_expired}

-- one more element that doesn't pass
filter_more : {X : Type 0} (p : X → Bool) (xs : List X) (y : X) → p y ≡ false → filter p (xs ++ y ∷ []) ≡ filter p xs
filter_more p [] y h = rw h refl
filter_more p (x ∷ xs) y h = go (p x) (filter_more p xs y h)
  where
    go : (b : Bool) → filter p (xs ++ y ∷ []) ≡ filter p xs → cond b (x ∷ filter p (xs ++ y ∷ [])) (filter p (xs ++ y ∷ [])) ≡ cond b
        (x ∷ filter p xs) (filter p xs)
    go true e = ap (λ ys. x ∷ ys) e
    go false e = e

module _ {Q QH P PH K : Type 0} (p : Parts Q QH P PH K) (settings : ServerSettings K) (receiver : ℕ) (m : Messages P ResponseDetails PH)
    (site : Site P ResponseDetails PH) (sound : IsSoundStore p empty_hand) (slots room receivers channels capacity : ℕ)
    (new : IsNew slots room receivers channels capacity no_response m)
    (vacant : (i : ℕ) (s : ServerPart K) → slice_get p.servers i ≡ Some s → s.receiver ≢ receiver)
    (inside : receiver < p.limits.max_servers)
    (put : IsPut site.sender (new_server_sender p site.row receiver m) p.server_senders site.senders)
    (unlisted : (n : ℕ) → filter (responses_from (response_lists p) n) (map (λ l. l.number) site.left)
    ≡ filter (responses_from (response_lists p) n) (map (λ l. l.number) p.left_servers)) where
  abbrev after : Parts Q QH P PH K
  after = with_server_part p settings receiver site

  -- no request awaits the new server
  waiting : (sender slot : ℕ) → waiting_at after sender slot ≡ waiting_at p sender slot
  waiting sender slot = ap (map (λ (s : ServerPart K). s.port.id))
      (filter_more (λ (s : ServerPart K). is_awaited p sender slot s.receiver s.port.id)
      p.servers (new_server p settings site.sender receiver)
      (sound.vacated.awaits_none sender slot receiver p.next (omega arith) (omega (arith, sound.sized.next_fits))))

  -- the handles show what they did
  handles : (k : ℕ) (s : TableEntry HandleEntry) → fin_map.get p.table.entries k ≡ Some s → handle_of after s ≡ handle_of p s
  handles k s at =
      same_handle after p s.value.stage s.value.sender s.value.slot
      (λ is. (refl, waiting s.value.sender s.value.slot))
      (λ is. ap (λ (l : Sender P ResponseDetails PH). response_in_slot p.spare_response_header l.messages s.value.slot)
      (put.others s.value.sender (response_elsewhere p sound.counted site.sender put.idle k s at is)))

  -- no two senders have one number
  owned_once : IsOwnedOnce site.senders
  owned_once = apart_added put (λ l. l.owner) (λ l _ h same. omega (arith, sound.server_ports.numbered l h, same))
      sound.server_ports.owned_once

  -- no response waits in the new sender, and none waited in the one before it
  responses : (key : ResponseKey) → responses_at after key ≡ responses_at p key
  responses key = go (find (λ c. c.port.id == key.client) p.clients)
    where
      shown : ClientPart K → Sender P ResponseDetails PH → List (ResponseMessage P PH)
      shown c l = map (response_in_slot p.spare_response_header l.messages) (queue_at l.messages c.receiver key.channel)

      go : (client : Option (ClientPart K))
          → option_map_or (λ c. option_map_or (shown c) (find (λ l. l.owner == key.server) site.senders) []) client []
          ≡ option_map_or (λ c. option_map_or (shown c) (find (λ l. l.owner == key.server) p.server_senders) []) client []
      go None = refl
      go (Some c) = read_put put sound.server_ports.owned_once owned_once (shown c) []
          (ap (map (response_in_slot p.spare_response_header m)) (new_queue m new c.receiver key.channel))
          (ap (map (response_in_slot p.spare_response_header (sender_of site.sender p.server_senders).messages))
          (put.idle.queues c.receiver key.channel))
          key.server

  -- no request waits for the new server
  requests : (key : RequestKey) → requests_at after key ≡ requests_at p key
  requests key =
      ap (λ o. option_map_or (λ (s : ServerPart K). option_map_or (λ (l : Sender Q RequestDetails QH). shown l s)
      (find (λ (l : Sender Q RequestDetails QH). l.owner == key.client) p.client_senders) []) o
      []) (find_last (λ (s : ServerPart K). s.port.id == key.server) p.servers _)
      ∙ go (find (λ s. s.port.id == key.server) p.servers) (find (λ l. l.owner == key.client) p.client_senders) (p.next == key.server) refl
    where
      shown : Sender Q RequestDetails QH → ServerPart K → List (RequestMessage Q QH)
      shown l s = map (request_in_slot p.spare_request_header l.messages) (queue_at l.messages s.receiver 0)

      go : (server : Option (ServerPart K)) (sender : Option (Sender Q RequestDetails QH)) (b : Bool)
          → find (λ l. l.owner == key.client) p.client_senders ≡ sender
          → option_map_or (λ s. option_map_or
          (λ l. map (request_in_slot p.spare_request_header l.messages) (queue_at l.messages s.receiver 0))
          sender []) (option_or server (cond b (Some (new_server p settings site.sender receiver)) None)) []
          ≡ option_map_or (λ s. option_map_or
          (λ l. map (request_in_slot p.spare_request_header l.messages) (queue_at l.messages s.receiver 0))
          sender []) server []
      go (Some s) sender b e = refl
      go None sender false e = refl
      go None None true e = refl
      go None (Some l) true e =
          let there = found_somewhere (λ l. l.owner == key.client) p.client_senders l e in
          let is : sender_of there.0 p.client_senders ≡ l = get_or_from_slice_get p.client_senders there.0 l no_sender there.1 in
          let empty : queue_at l.messages receiver 0 ≡ [] =
          ap (λ (x : Sender Q RequestDetails QH). queue_at x.messages receiver 0) (sym is)
          ∙ (sound.vacated.of_servers there.0 receiver 0 vacant).0 in
          ap (map (request_in_slot p.spare_request_header l.messages)) empty

  -- a server was created
  pub server_view : state_of after ≡ with_server (state_of p) settings
  server_view =
      same_state (state_of after) (with_server (state_of p) settings) refl refl
      refl (map-append server_of p.servers _)
      (map_values-same (handle_of after) (handle_of p) p.table.entries handles)
      (same_requests after p requests) (same_responses after p responses)
      (same_expired _ _ (same_requests after p requests) (same_responses after p responses)
      ∙ same_left_servers (request_lists p) (response_lists p) _ _ _ unlisted) refl
