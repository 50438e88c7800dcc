-- What waits, as contracts see it, after a client left.
use Rattle.std.proofs.Common.{◌≡◌, ◌≢◌, ◌<◌, ◌&&◌, ℕ, Bool, true, false, cond, not, List, [], Option, None, Some, find, length, map, option_map, refl, sym, ap, ◌∙◌}
use Rattle.std.specs.Prelude.{◌==◌, is_some, nat_eq, slice_get}
use Rattle.std.specs.List.{IsDistinct, list_any}
use Rattle.std.specs.Option.{option_map_or}
use Rattle.std.specs.FinMap as fin_map
use Rattle.std.proofs.lemmas.Bool.{eqb-false, eqb-true, ne_eqb}
use Rattle.rr_table.proofs.ListFacts.{find-gone}
use Rattle.rr_sender.specs.Senders.{queue_at}
use Rattle.rr_protocol.specs.Keys.{RequestKey, ResponseKey}
use Rattle.rr_protocol.specs.Lists.{at}
use Rattle.rr_protocol.specs.Messages.{RequestMessage, ResponseMessage}
use Rattle.rr_protocol.specs.Ports.{Server}
use Rattle.rr_protocol.specs.Releases.{outdated_senders, room_for_expired_clients}
use Rattle.rr_protocol.specs.State.{State}
use Rattle.rr_protocol.proofs.KeyLaws.{request_keys_total, request_keys_exact, response_keys_total, response_keys_exact}
use Rattle.rr_protocol.proofs.ListsLaws.{at-retain_keys, same_lists}
use Rattle.rr_laws.specs.Reached.{has_server}
use Rattle.rr_laws.proofs.AfterLeft.{after_client_expired, requests_left}
use Rattle.rr_store.specs.declared.details.RequestDetails.{RequestDetails}
use Rattle.rr_store.specs.declared.details.ResponseDetails.{ResponseDetails}
use Rattle.rr_store.specs.declared.port.LeftPort.{LeftPort}
use Rattle.rr_store.specs.Expired.{requests_from}
use Rattle.rr_store.specs.Leaving.{SendersCut, is_of, outdated, without_client}
use Rattle.rr_store.specs.Parts.{ClientPart, Parts, Sender, ServerPart}
use Rattle.rr_store.specs.Sound.{IsSoundStore, empty_hand}
use Rattle.rr_store.specs.Views.{request_in_slot, request_lists, requests_at, response_in_slot, response_lists, responses_at, sender_of, server_of, state_of}
use Rattle.rr_store.proofs.base.lists.Adding.{mapped}
use Rattle.rr_store.proofs.base.lists.EachOnce.{IsApart}
use Rattle.rr_store.proofs.base.lists.Found.{found_passes, found_somewhere}
use Rattle.rr_store.proofs.base.lists.Replaced.{find_mapped}
use Rattle.rr_store.proofs.base.views.Counts.{listed}
use Rattle.rr_store.proofs.base.views.Keyed.{at_requests, at_responses}
use Rattle.rr_store.proofs.leaving.Lists.{numbers_distinct, removed}
use Rattle.rr_releasing.proofs.laws.leaving.Queued.{clients_apart, cut_as_seen, expired_is, read_cut, servers_apart, waiting_from}

module _ {Q QH P PH K : Type 0} (p : Parts Q QH P PH K) (c : ClientPart K) where
  -- how many clients that left a server keeps requests of, and the one that leaves
  abbrev pub room : ℕ
  room = room_for_expired_clients (state_of p)

  abbrev pub leaving : LeftPort
  leaving = record { number = c.port.id; sender = c.sender }

  -- whether the queue from a sender to a receiver is cut
  abbrev pub requests_cut : ℕ → ℕ → Bool
  requests_cut l r = is_of (outdated p.client_senders p.left_clients room leaving r) l

  -- whether a server drops the requests of a client
  abbrev pub drops : ℕ → ℕ → Bool
  drops server client =
      (has_server (state_of p).servers server && requests_from (request_lists p) server c.port.id)
      && list_any (λ n. n == client) (outdated_senders room (at (state_of p).expired server) c.port.id)

  -- whether a server is connected
  pub server_there : (n : ℕ) (o : Option (ServerPart K)) → find (λ s. s.port.id == n) p.servers ≡ o
      → has_server (state_of p).servers n ≡ is_some o
  server_there n o e =
      ap (λ (o : Option (Server K)). is_some o) (find_mapped server_of (λ (s : Server K). s.id == n) p.servers
      ∙ ap (option_map server_of) e) ∙ go o
    where
      go : (o : Option (ServerPart K)) → is_some (option_map server_of o) ≡ is_some o
      go None = refl
      go (Some s) = refl

module _ {Q QH P PH K : Type 0} (p : Parts Q QH P PH K) (sound : IsSoundStore p empty_hand) (index : ℕ) (c : ClientPart K)
    (at_c : slice_get p.clients index ≡ Some c) (client_senders : List (Sender Q RequestDetails QH))
    (server_senders : List (Sender P ResponseDetails PH)) (requests : SendersCut (requests_cut p c) p.client_senders client_senders)
    (responses : SendersCut (λ l r. r == c.receiver) p.server_senders server_senders) where
  abbrev after : Parts Q QH P PH K
  after = without_client (record p { client_senders = client_senders; server_senders = server_senders }) index c

  -- what contracts see before, and after the client's requests expired at each server
  abbrev before : State Q QH P PH K
  before = state_of p

  abbrev left : State Q QH P PH K
  left = after_client_expired before c.port.id

  abbrev none_asked : List (RequestMessage Q QH)
  none_asked = []

  abbrev none_answered : List (ResponseMessage P PH)
  none_answered = []

  -- what is read of a sender for a server
  abbrev asked : ServerPart K → Sender Q RequestDetails QH → List (RequestMessage Q QH)
  asked s l = map (request_in_slot p.spare_request_header l.messages) (queue_at l.messages s.receiver 0)

  -- a queue is cut exactly if the server drops the requests of the sender's owner
  seen : (key : RequestKey) (i : ℕ) (s : ServerPart K) → slice_get p.servers i ≡ Some s → s.port.id ≡ key.server
      → find (λ s. s.port.id == key.server) p.servers ≡ Some s → (l : ℕ) → l < length p.client_senders
      → (sender_of l p.client_senders).owner ≡ key.client → requests_cut p c l s.receiver ≡ drops p c key.server key.client
  seen key i s at_s id e l there owner =
      cut_as_seen p sound i s at_s index c at_c (room p c) l there
      ∙ ap (λ n. requests_from (request_lists p) s.port.id c.port.id
      && list_any (λ m. m == n) (outdated_senders (room p c) (waiting_from p sound i s at_s) c.port.id)) owner
      ∙ ap (λ (ns : List ℕ). requests_from (request_lists p) s.port.id c.port.id
      && list_any (λ m. m == key.client) (outdated_senders (room p c) ns c.port.id)) (sym (expired_is p sound i s at_s))
      ∙ ap (λ n. requests_from (request_lists p) n c.port.id
      && list_any (λ m. m == key.client) (outdated_senders (room p c) (at before.expired n) c.port.id)) id
      ∙ ap (λ b. (b && requests_from (request_lists p) key.server c.port.id)
      && list_any (λ m. m == key.client) (outdated_senders (room p c) (at before.expired key.server) c.port.id))
      (sym (server_there p c key.server (Some s) e))

  -- the requests of a sender are gone, or as they were
  asked_after : (s : ServerPart K) (l : ℕ) → asked s (sender_of l client_senders)
      ≡ cond (requests_cut p c l s.receiver) none_asked (asked s (sender_of l p.client_senders))
  asked_after s l =
      let m = (sender_of l p.client_senders).messages in
      ap (λ (f : ℕ → RequestMessage Q QH). map f (queue_at (sender_of l client_senders).messages s.receiver 0))
      (ap (λ (l : Sender Q RequestDetails QH). request_in_slot p.spare_request_header l.messages) (requests.rest l))
      ∙ ap (λ (xs : List ℕ). map (request_in_slot p.spare_request_header m) xs) (requests.queues l s.receiver 0)
      ∙ go (requests_cut p c l s.receiver) (request_in_slot p.spare_request_header m) (queue_at m s.receiver 0)
    where
      go : (b : Bool) (f : ℕ → RequestMessage Q QH) (xs : List ℕ) → map f (cond b [] xs) ≡ cond b none_asked (map f xs)
      go true f xs = refl
      go false f xs = refl

  -- and so are those at a key
  waits : (key : RequestKey) → requests_at after key ≡ cond (drops p c key.server key.client) none_asked (requests_at p key)
  waits key = go (find (λ s. s.port.id == key.server) p.servers) refl
    where
      alike : (b : Bool) → none_asked ≡ cond b none_asked none_asked
      alike true = refl
      alike false = refl

      go : (o : Option (ServerPart K)) → find (λ s. s.port.id == key.server) p.servers ≡ o
          → option_map_or (λ s. option_map_or (asked s) (find (λ l. l.owner == key.client) client_senders) none_asked) o none_asked
          ≡ cond (drops p c key.server key.client) none_asked
          (option_map_or (λ s. option_map_or (asked s) (find (λ l. l.owner == key.client) p.client_senders) none_asked) o none_asked)
      go None e = alike (drops p c key.server key.client)
      go (Some s) e =
          let i = found_somewhere (λ (s : ServerPart K). s.port.id == key.server) p.servers s e in
          let id : s.port.id ≡ key.server = eqb-true s.port.id key.server
          (found_passes (λ (s : ServerPart K). s.port.id == key.server) p.servers s e) in
          read_cut (requests_cut p c) p.client_senders client_senders requests sound.client_ports.owned_once (asked s) key.client
          (drops p c key.server key.client)
          (λ l there owner. asked_after s l
          ∙ ap (λ b. cond b none_asked (asked s (sender_of l p.client_senders))) (seen key i.0 s i.1 id e l there owner))

  -- the numbers of the servers
  pub servers_once : IsDistinct nat_eq (map (λ (s : Server K). s.id) before.servers)
  servers_once = numbers_distinct (λ (s : Server K). s.id) (map server_of p.servers) apart
    where
      apart : IsApart (λ (s : Server K). s.id) (map server_of p.servers)
      apart i j x y at there same =
          let s = mapped server_of p.servers i x at in
          let t = mapped server_of p.servers j y there in
          servers_apart p sound i j s.0 t.0 s.1 t.1
          (ap (λ (s : Server K). s.id) s.2 ∙ same ∙ sym (ap (λ (s : Server K). s.id) t.2))

  -- the requests that stay
  pub at_requests_after : (key : RequestKey) → at (request_lists after) key ≡ cond (drops p c key.server key.client) none_asked
      (at (request_lists p) key)
  at_requests_after key =
      at_requests after key ∙ waits key
      ∙ ap (λ (xs : List (RequestMessage Q QH)). cond (drops p c key.server key.client) none_asked xs) (sym (at_requests p key))

  pub requests_view : request_lists after ≡ left.requests
  requests_view =
      same_lists request_keys_total request_keys_exact (request_lists after) left.requests
      (λ key. at_requests_after key ∙ sym (requests_left before c.port.id servers_once key))

  -- what is read of a sender for a client's channel
  abbrev answered : ℕ → ClientPart K → Sender P ResponseDetails PH → List (ResponseMessage P PH)
  answered channel d l = map (response_in_slot p.spare_response_header l.messages) (queue_at l.messages d.receiver channel)

  -- the responses of a sender to another receiver are as they were
  answered_after : (channel : ℕ) (d : ClientPart K) → d.receiver ≢ c.receiver → (l : ℕ)
      → answered channel d (sender_of l server_senders) ≡ answered channel d (sender_of l p.server_senders)
  answered_after channel d other l =
      let m = (sender_of l p.server_senders).messages in
      ap (λ (f : ℕ → ResponseMessage P PH). map f (queue_at (sender_of l server_senders).messages d.receiver channel))
      (ap (λ (l : Sender P ResponseDetails PH). response_in_slot p.spare_response_header l.messages) (responses.rest l))
      ∙ ap (λ (xs : List ℕ). map (response_in_slot p.spare_response_header m) xs)
      (responses.queues l d.receiver channel
      ∙ ap (λ b. cond b [] (queue_at m d.receiver channel)) (ne_eqb d.receiver c.receiver other))

  -- no response waits for the client, and others have theirs
  answers : (key : ResponseKey) → responses_at after key ≡ cond (not (key.client == c.port.id)) (responses_at p key) none_answered
  answers key =
      ap (λ (o : Option (ClientPart K)). option_map_or (λ d. option_map_or (answered key.channel d)
      (find (λ l. l.owner == key.server) server_senders) none_answered) o none_answered)
      (ap (find (λ (d : ClientPart K). d.port.id == key.client))
      (removed (λ (d : ClientPart K). d.port.id) p.clients index c at_c (clients_apart p sound))
      ∙ find-gone (λ (d : ClientPart K). d.port.id) c.port.id key.client p.clients)
      ∙ go (key.client == c.port.id) refl (find (λ d. d.port.id == key.client) p.clients) refl
    where
      -- another client has another receiver
      other : (d : ClientPart K) → find (λ (d : ClientPart K). d.port.id == key.client) p.clients ≡ Some d
          → (key.client == c.port.id) ≡ false → d.receiver ≢ c.receiver
      other d e differs same =
          let j = found_somewhere (λ (d : ClientPart K). d.port.id == key.client) p.clients d e in
          let one = sound.client_ports.receivers_once j.0 index d.connected c.connected
          (listed (λ (c : ClientPart K). c.connected) p.clients j.0 d j.1)
          (listed (λ (c : ClientPart K). c.connected) p.clients index c at_c) same in
          let f : Some d ≡ Some c = sym j.1 ∙ ap (slice_get p.clients) one ∙ at_c in
          let is : d ≡ c = cc in
          eqb-false key.client c.port.id differs
          (sym (eqb-true d.port.id key.client (found_passes (λ (d : ClientPart K). d.port.id == key.client) p.clients d e))
          ∙ ap (λ (d : ClientPart K). d.port.id) is)

      go : (b : Bool) → (key.client == c.port.id) ≡ b → (o : Option (ClientPart K))
          → find (λ (d : ClientPart K). d.port.id == key.client) p.clients ≡ o
          → option_map_or (λ d. option_map_or (answered key.channel d) (find (λ l. l.owner == key.server) server_senders) none_answered)
          (cond b None o) none_answered
          ≡ cond (not b) (option_map_or (λ d. option_map_or (answered key.channel d)
          (find (λ l. l.owner == key.server) p.server_senders) none_answered) o none_answered) none_answered
      go true differs o e = refl
      go false differs None e = refl
      go false differs (Some d) e =
          read_cut (λ l r. r == c.receiver) p.server_senders server_senders responses sound.server_ports.owned_once
          (answered key.channel d) key.server false (λ l there owner. answered_after key.channel d (other d e differs) l)

  pub at_responses_after : (key : ResponseKey) → at (response_lists after) key ≡ cond (not (key.client == c.port.id))
      (at (response_lists p) key) none_answered
  at_responses_after key =
      at_responses after key ∙ answers key
      ∙ ap (λ (xs : List (ResponseMessage P PH)). cond (not (key.client == c.port.id)) xs none_answered) (sym (at_responses p key))

  pub responses_view : response_lists after ≡ fin_map.retain_keys (response_lists p) (λ key. not (key.client == c.port.id))
  responses_view =
      same_lists response_keys_total response_keys_exact (response_lists after) _
      (λ key. at_responses_after key
      ∙ sym (at-retain_keys response_keys_total response_keys_exact (response_lists p) (λ key. not (key.client == c.port.id)) key))
