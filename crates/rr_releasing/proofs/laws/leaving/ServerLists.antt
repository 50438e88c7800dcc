-- What waits, as contracts see it, after a server left.
use Rattle.std.proofs.Common.{◌≡◌, ◌≢◌, ◌<◌, ◌&&◌, ℕ, Bool, true, false, cond, not, List, [], Option, None, Some, find, length, map, option_map, refl, sym, ap, ◌∙◌}
use Rattle.std.specs.Prelude.{◌==◌, is_some, nat_eq, slice_get}
use Rattle.std.specs.List.{IsDistinct, list_any}
use Rattle.std.specs.Option.{option_map_or}
use Rattle.std.specs.FinMap as fin_map
use Rattle.std.proofs.lemmas.Bool.{eqb-false, eqb-true, ne_eqb}
use Rattle.rr_table.proofs.ListFacts.{find-gone}
use Rattle.rr_sender.specs.Senders.{queue_at}
use Rattle.rr_protocol.specs.Keys.{RequestKey, ResponseKey}
use Rattle.rr_protocol.specs.Lists.{at}
use Rattle.rr_protocol.specs.Messages.{RequestMessage, ResponseMessage}
use Rattle.rr_protocol.specs.Ports.{Client}
use Rattle.rr_protocol.specs.Releases.{outdated_senders}
use Rattle.rr_protocol.specs.State.{State}
use Rattle.rr_protocol.proofs.KeyLaws.{request_keys_total, request_keys_exact, response_keys_total, response_keys_exact}
use Rattle.rr_protocol.proofs.ListsLaws.{at-retain_keys, same_lists}
use Rattle.rr_laws.specs.Reached.{has_client}
use Rattle.rr_laws.proofs.AfterLeft.{after_server_expired, responses_left}
use Rattle.rr_store.specs.declared.details.RequestDetails.{RequestDetails}
use Rattle.rr_store.specs.declared.details.ResponseDetails.{ResponseDetails}
use Rattle.rr_store.specs.declared.port.LeftPort.{LeftPort}
use Rattle.rr_store.specs.Expired.{responses_from}
use Rattle.rr_store.specs.Leaving.{SendersCut, is_of, outdated, without_server}
use Rattle.rr_store.specs.Parts.{ClientPart, Parts, Sender, ServerPart}
use Rattle.rr_store.specs.Sound.{IsSoundStore, empty_hand}
use Rattle.rr_store.specs.Views.{client_of, request_in_slot, request_lists, requests_at, response_in_slot, response_lists, responses_at, sender_of, state_of}
use Rattle.rr_store.proofs.base.lists.Adding.{mapped}
use Rattle.rr_store.proofs.base.lists.EachOnce.{IsApart}
use Rattle.rr_store.proofs.base.lists.Found.{found_passes, found_somewhere}
use Rattle.rr_store.proofs.base.lists.Replaced.{find_mapped}
use Rattle.rr_store.proofs.base.views.Counts.{listed}
use Rattle.rr_store.proofs.base.views.Keyed.{at_requests, at_responses}
use Rattle.rr_releasing.proofs.laws.leaving.Answered.{cut_as_seen, expired_is, waiting_from}
use Rattle.rr_store.proofs.leaving.Lists.{numbers_distinct, removed}
use Rattle.rr_releasing.proofs.laws.leaving.Queued.{clients_apart, read_cut, servers_apart}

module _ {Q QH P PH K : Type 0} (p : Parts Q QH P PH K) (s : ServerPart K) where
  -- how many servers that left a client keeps responses of, and the one that leaves
  abbrev pub room : ℕ
  room = p.limits.client_expired_connection_buffer

  abbrev pub leaving : LeftPort
  leaving = record { number = s.port.id; sender = s.sender }

  -- whether the queues from a sender to a receiver are cut
  abbrev pub responses_cut : ℕ → ℕ → Bool
  responses_cut l r = is_of (outdated p.server_senders p.left_servers room leaving r) l

  -- whether a client drops the responses of a server
  abbrev pub drops : ℕ → ℕ → Bool
  drops client server =
      (has_client (state_of p).clients client && responses_from (response_lists p) client s.port.id)
      && list_any (λ n. n == server) (outdated_senders room (at (state_of p).expired client) s.port.id)

  -- whether a client is connected
  pub client_there : (n : ℕ) (o : Option (ClientPart K)) → find (λ c. c.port.id == n) p.clients ≡ o
      → has_client (state_of p).clients n ≡ is_some o
  client_there n o e =
      ap (λ (o : Option (Client K)). is_some o) (find_mapped client_of (λ (c : Client K). c.id == n) p.clients
      ∙ ap (option_map client_of) e) ∙ go o
    where
      go : (o : Option (ClientPart K)) → is_some (option_map client_of o) ≡ is_some o
      go None = refl
      go (Some c) = refl

module _ {Q QH P PH K : Type 0} (p : Parts Q QH P PH K) (sound : IsSoundStore p empty_hand) (index : ℕ) (s : ServerPart K)
    (at_s : slice_get p.servers index ≡ Some s) (client_senders : List (Sender Q RequestDetails QH))
    (server_senders : List (Sender P ResponseDetails PH))
    (requests : SendersCut (λ l r. r == s.receiver) p.client_senders client_senders)
    (responses : SendersCut (responses_cut p s) p.server_senders server_senders) where
  abbrev after : Parts Q QH P PH K
  after = without_server (record p { client_senders = client_senders; server_senders = server_senders }) index s

  -- what contracts see before, and after the server's responses expired at each client
  abbrev before : State Q QH P PH K
  before = state_of p

  abbrev left : State Q QH P PH K
  left = after_server_expired before s.port.id

  abbrev none_asked : List (RequestMessage Q QH)
  none_asked = []

  abbrev none_answered : List (ResponseMessage P PH)
  none_answered = []

  -- what is read of a sender for a client's channel
  abbrev answered : ℕ → ClientPart K → Sender P ResponseDetails PH → List (ResponseMessage P PH)
  answered channel c l = map (response_in_slot p.spare_response_header l.messages) (queue_at l.messages c.receiver channel)

  -- a queue is cut exactly if the client drops the responses of the sender's owner
  seen : (key : ResponseKey) (i : ℕ) (c : ClientPart K) → slice_get p.clients i ≡ Some c → c.port.id ≡ key.client
      → find (λ c. c.port.id == key.client) p.clients ≡ Some c → (l : ℕ) → l < length p.server_senders
      → (sender_of l p.server_senders).owner ≡ key.server → responses_cut p s l c.receiver ≡ drops p s key.client key.server
  seen key i c at_c id e l there owner =
      cut_as_seen p sound i c at_c index s at_s (room p s) l there
      ∙ ap (λ n. responses_from (response_lists p) c.port.id s.port.id
      && list_any (λ m. m == n) (outdated_senders (room p s) (waiting_from p sound i c at_c) s.port.id)) owner
      ∙ ap (λ (ns : List ℕ). responses_from (response_lists p) c.port.id s.port.id
      && list_any (λ m. m == key.server) (outdated_senders (room p s) ns s.port.id)) (sym (expired_is p sound i c at_c))
      ∙ ap (λ n. responses_from (response_lists p) n s.port.id
      && list_any (λ m. m == key.server) (outdated_senders (room p s) (at before.expired n) s.port.id)) id
      ∙ ap (λ b. (b && responses_from (response_lists p) key.client s.port.id)
      && list_any (λ m. m == key.server) (outdated_senders (room p s) (at before.expired key.client) s.port.id))
      (sym (client_there p s key.client (Some c) e))

  -- the responses of a sender are gone, or as they were
  answered_after : (channel : ℕ) (c : ClientPart K) (l : ℕ) → answered channel c (sender_of l server_senders)
      ≡ cond (responses_cut p s l c.receiver) none_answered (answered channel c (sender_of l p.server_senders))
  answered_after channel c l =
      let m = (sender_of l p.server_senders).messages in
      ap (λ (f : ℕ → ResponseMessage P PH). map f (queue_at (sender_of l server_senders).messages c.receiver channel))
      (ap (λ (l : Sender P ResponseDetails PH). response_in_slot p.spare_response_header l.messages) (responses.rest l))
      ∙ ap (λ (xs : List ℕ). map (response_in_slot p.spare_response_header m) xs) (responses.queues l c.receiver channel)
      ∙ go (responses_cut p s l c.receiver) (response_in_slot p.spare_response_header m) (queue_at m c.receiver channel)
    where
      go : (b : Bool) (f : ℕ → ResponseMessage P PH) (xs : List ℕ) → map f (cond b [] xs) ≡ cond b none_answered (map f xs)
      go true f xs = refl
      go false f xs = refl

  -- and so are those at a key
  waits : (key : ResponseKey) → responses_at after key ≡ cond (drops p s key.client key.server) none_answered (responses_at p key)
  waits key = go (find (λ c. c.port.id == key.client) p.clients) refl
    where
      alike : (b : Bool) → none_answered ≡ cond b none_answered none_answered
      alike true = refl
      alike false = refl

      go : (o : Option (ClientPart K)) → find (λ c. c.port.id == key.client) p.clients ≡ o
          → option_map_or (λ c. option_map_or (answered key.channel c) (find (λ l. l.owner == key.server) server_senders) none_answered)
          o none_answered
          ≡ cond (drops p s key.client key.server) none_answered
          (option_map_or (λ c. option_map_or (answered key.channel c) (find (λ l. l.owner == key.server) p.server_senders) none_answered)
          o none_answered)
      go None e = alike (drops p s key.client key.server)
      go (Some c) e =
          let i = found_somewhere (λ (c : ClientPart K). c.port.id == key.client) p.clients c e in
          let id : c.port.id ≡ key.client = eqb-true c.port.id key.client
          (found_passes (λ (c : ClientPart K). c.port.id == key.client) p.clients c e) in
          read_cut (responses_cut p s) p.server_senders server_senders responses sound.server_ports.owned_once (answered key.channel c)
          key.server (drops p s key.client key.server)
          (λ l there owner. answered_after key.channel c l
          ∙ ap (λ b. cond b none_answered (answered key.channel c (sender_of l p.server_senders))) (seen key i.0 c i.1 id e l there owner))

  -- the numbers of the clients
  pub clients_once : IsDistinct nat_eq (map (λ (c : Client K). c.id) before.clients)
  clients_once = numbers_distinct (λ (c : Client K). c.id) (map client_of p.clients) apart
    where
      apart : IsApart (λ (c : Client K). c.id) (map client_of p.clients)
      apart i j x y at there same =
          let c = mapped client_of p.clients i x at in
          let d = mapped client_of p.clients j y there in
          clients_apart p sound i j c.0 d.0 c.1 d.1
          (ap (λ (c : Client K). c.id) c.2 ∙ same ∙ sym (ap (λ (c : Client K). c.id) d.2))

  -- the responses that stay
  pub at_responses_after : (key : ResponseKey) → at (response_lists after) key ≡ cond (drops p s key.client key.server) none_answered
      (at (response_lists p) key)
  at_responses_after key =
      at_responses after key ∙ waits key
      ∙ ap (λ (xs : List (ResponseMessage P PH)). cond (drops p s key.client key.server) none_answered xs) (sym (at_responses p key))

  pub responses_view : response_lists after ≡ left.responses
  responses_view =
      same_lists response_keys_total response_keys_exact (response_lists after) left.responses
      (λ key. at_responses_after key ∙ sym (responses_left before s.port.id clients_once key))

  -- what is read of a sender for a server
  abbrev asked : ServerPart K → Sender Q RequestDetails QH → List (RequestMessage Q QH)
  asked d l = map (request_in_slot p.spare_request_header l.messages) (queue_at l.messages d.receiver 0)

  -- the requests of a sender to another receiver are as they were
  asked_after : (d : ServerPart K) → d.receiver ≢ s.receiver → (l : ℕ)
      → asked d (sender_of l client_senders) ≡ asked d (sender_of l p.client_senders)
  asked_after d other l =
      let m = (sender_of l p.client_senders).messages in
      ap (λ (f : ℕ → RequestMessage Q QH). map f (queue_at (sender_of l client_senders).messages d.receiver 0))
      (ap (λ (l : Sender Q RequestDetails QH). request_in_slot p.spare_request_header l.messages) (requests.rest l))
      ∙ ap (λ (xs : List ℕ). map (request_in_slot p.spare_request_header m) xs)
      (requests.queues l d.receiver 0
      ∙ ap (λ b. cond b [] (queue_at m d.receiver 0)) (ne_eqb d.receiver s.receiver other))

  -- no request waits for the server, and others have theirs
  asks : (key : RequestKey) → requests_at after key ≡ cond (not (key.server == s.port.id)) (requests_at p key) none_asked
  asks key =
      ap (λ (o : Option (ServerPart K)). option_map_or (λ d. option_map_or (asked d)
      (find (λ l. l.owner == key.client) client_senders) none_asked) o none_asked)
      (ap (find (λ (d : ServerPart K). d.port.id == key.server))
      (removed (λ (d : ServerPart K). d.port.id) p.servers index s at_s (servers_apart p sound))
      ∙ find-gone (λ (d : ServerPart K). d.port.id) s.port.id key.server p.servers)
      ∙ go (key.server == s.port.id) refl (find (λ d. d.port.id == key.server) p.servers) refl
    where
      -- another server has another receiver
      other : (d : ServerPart K) → find (λ (d : ServerPart K). d.port.id == key.server) p.servers ≡ Some d
          → (key.server == s.port.id) ≡ false → d.receiver ≢ s.receiver
      other d e differs same =
          let j = found_somewhere (λ (d : ServerPart K). d.port.id == key.server) p.servers d e in
          let one = sound.server_ports.receivers_once j.0 index d.connected s.connected
          (listed (λ (d : ServerPart K). d.connected) p.servers j.0 d j.1)
          (listed (λ (d : ServerPart K). d.connected) p.servers index s at_s) same in
          let f : Some d ≡ Some s = sym j.1 ∙ ap (slice_get p.servers) one ∙ at_s in
          let is : d ≡ s = cc in
          eqb-false key.server s.port.id differs
          (sym (eqb-true d.port.id key.server (found_passes (λ (d : ServerPart K). d.port.id == key.server) p.servers d e))
          ∙ ap (λ (d : ServerPart K). d.port.id) is)

      go : (b : Bool) → (key.server == s.port.id) ≡ b → (o : Option (ServerPart K))
          → find (λ (d : ServerPart K). d.port.id == key.server) p.servers ≡ o
          → option_map_or (λ d. option_map_or (asked d) (find (λ l. l.owner == key.client) client_senders) none_asked)
          (cond b None o) none_asked
          ≡ cond (not b) (option_map_or (λ d. option_map_or (asked d)
          (find (λ l. l.owner == key.client) p.client_senders) none_asked) o none_asked) none_asked
      go true differs o e = refl
      go false differs None e = refl
      go false differs (Some d) e =
          read_cut (λ l r. r == s.receiver) p.client_senders client_senders requests sound.client_ports.owned_once
          (asked d) key.client false (λ l there owner. asked_after d (other d e differs) l)

  pub at_requests_after : (key : RequestKey) → at (request_lists after) key ≡ cond (not (key.server == s.port.id))
      (at (request_lists p) key) none_asked
  at_requests_after key =
      at_requests after key ∙ asks key
      ∙ ap (λ (xs : List (RequestMessage Q QH)). cond (not (key.server == s.port.id)) xs none_asked) (sym (at_requests p key))

  pub requests_view : request_lists after ≡ fin_map.retain_keys (request_lists p) (λ key. not (key.server == s.port.id))
  requests_view =
      same_lists request_keys_total request_keys_exact (request_lists after) _
      (λ key. at_requests_after key
      ∙ sym (at-retain_keys request_keys_total request_keys_exact (request_lists p) (λ key. not (key.server == s.port.id)) key))
