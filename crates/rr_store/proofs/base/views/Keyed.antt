-- What waits at a key, in the view of a core's parts.
use Rattle.std.proofs.Common.{◌≡◌, ◌<◌, ℕ, Bool, true, false, cond, List, [], ◌∷◌, Option, None, Some, find, map, length, get_or, refl, sym, ap, ◌∙◌, ⊎_elim, arith}
use Rattle.std.specs.declared.cmp.Ordering.{Ordering}
use Rattle.std.specs.Ordering.{eq_by_cmp}
use Rattle.std.specs.Cmp.{IsTotalOrder}
use Rattle.std.specs.List.{list_any, range_with_len}
use Rattle.std.specs.FinMap as fin_map
use Rattle.rr_protocol.specs.Lists.{at, lists_by}
use Rattle.rr_protocol.proofs.ListsLaws.{at-lists_by}
use Rattle.std.specs.Prelude.{◌==◌, flat_map}
use Rattle.std.proofs.lemmas.List.{get_or_past}
use Rattle.std.proofs.lemmas.List.Folds.{list_any_at}
use Rattle.std.proofs.lemmas.List.FromFn.{get_or-map-range_with_len, length-map-range_with_len}
use Rattle.std.specs.Option.{option_map_or}
use Rattle.std.proofs.lemmas.Cmp.{eq_by_cmp_equiv}
use Rattle.std.proofs.lemmas.Bool.{eqb-true, cases_lt}
use Rattle.rr_protocol.specs.Keys.{RequestKey, ResponseKey, request_key, request_key_cmp, response_key_cmp}
use Rattle.rr_protocol.specs.Messages.{RequestMessage, ResponseMessage}
use Rattle.rr_protocol.proofs.KeyLaws.{request_keys_total, request_keys_exact, response_keys_total, response_keys_exact}
use Rattle.rr_sender.specs.Senders.{queue_at, at_two}
use Rattle.rr_store.specs.declared.details.RequestDetails.{RequestDetails}
use Rattle.rr_store.specs.declared.details.ResponseDetails.{ResponseDetails}
use Rattle.rr_store.specs.Parts.{Parts, ClientPart, ServerPart, Sender}
use Rattle.rr_store.specs.Views.{state_of, requests_at, responses_at, request_keys, response_keys, request_in_slot, response_in_slot}
use Rattle.rr_store.proofs.base.lists.Found.{found_passes, any_flat, any_mapped}

module _ {A X : Type 0} {cmp : A → A → Ordering} (o : IsTotalOrder cmp) (exact : fin_map.IsAntisymmetric cmp) where
  -- where each list that isn't empty stands at a key of the list of keys, the function tells each list
  pub at_each : (keys : List A) (f : A → List X) (key : A) →
      ((x : X) (xs : List X) → f key ≡ x ∷ xs → list_any (eq_by_cmp cmp key) keys ≡ true) → at (lists_by {cmp = cmp} keys f) key ≡ f key
  at_each keys f key all = at-lists_by o exact keys f key ∙ go (f key) refl
    where
      go : (xs : List X) → f key ≡ xs → cond (list_any (eq_by_cmp cmp key) keys) (f key) [] ≡ f key
      go [] e = rw e (elim (list_any (eq_by_cmp cmp key) keys)
          as (λ (b : Bool). cond {A = List X} b [] [] ≡ []) [ true ↦ refl | false ↦ refl ])
      go (x ∷ xs) e = rw (all x xs e) refl

module _ {Q QH P PH K : Type 0} (p : Parts Q QH P PH K) where
  -- a key is like itself
  like_itself : (key : RequestKey) → eq_by_cmp request_key_cmp key key ≡ true
  like_itself key = (eq_by_cmp_equiv request_keys_total).refl key

  requests_listed : (key : RequestKey) (x : RequestMessage Q QH) (xs : List (RequestMessage Q QH)) → requests_at p key ≡ x ∷ xs
      → list_any (eq_by_cmp request_key_cmp key) (request_keys p) ≡ true
  requests_listed key x xs e =
      go (find (λ server. server.port.id == key.server) p.servers) (find (λ sender. sender.owner == key.client) p.client_senders) refl refl
      e
    where
      go : (server : Option (ServerPart K)) (sender : Option (Sender Q RequestDetails QH))
          → find (λ s. s.port.id == key.server) p.servers ≡ server → find (λ l. l.owner == key.client) p.client_senders ≡ sender
          → option_map_or (λ s. option_map_or
          (λ l. map (request_in_slot p.spare_request_header l.messages) (queue_at l.messages s.receiver 0))
          sender []) server [] ≡ x ∷ xs
          → list_any (eq_by_cmp request_key_cmp key) (request_keys p) ≡ true
      go None sender s l e = absurd (let f : [] ≡ x ∷ xs = e in cc)
      go (Some server) None s l e = absurd (let f : [] ≡ x ∷ xs = e in cc)
      go (Some server) (Some sender) s l e =
          let owner : sender.owner ≡ key.client = eqb-true _ _ (found_passes (λ l. l.owner == key.client) p.client_senders sender l) in
          let id : server.port.id ≡ key.server = eqb-true _ _ (found_passes (λ s. s.port.id == key.server) p.servers server s) in
          let same : request_key sender.owner server.port.id ≡ key = ap (λ n. request_key n server.port.id) owner
          ∙ ap (λ n. request_key key.client n) id in
          any_flat (λ l. l.owner == key.client) (eq_by_cmp request_key_cmp key)
          (λ l. map (λ s. request_key l.owner s.port.id) p.servers) p.client_senders sender l
          (any_mapped (λ s. s.port.id == key.server) (eq_by_cmp request_key_cmp key)
          (λ s. request_key sender.owner s.port.id) p.servers server s
          (ap (eq_by_cmp request_key_cmp key) same ∙ like_itself key))

  -- the requests that a contract sees at a key
  pub at_requests : (key : RequestKey) → at (state_of p).requests key ≡ requests_at p key
  at_requests key = at_each request_keys_total request_keys_exact (request_keys p) (requests_at p) key (requests_listed key)

-- a queue with an entry is one of the receiver's
pub queue_within : (queues : List (List (List ℕ))) (receiver channel : ℕ) → (at_two [] queues receiver channel ≡ [] → ⊥)
    → channel < length (get_or queues receiver [])
queue_within queues receiver channel some =
    ⊎_elim (λ h. h)
    (λ h. absurd (some (get_or_past (get_or queues receiver []) channel [] h)))
    (cases_lt channel (length (get_or queues receiver [])))

module _ {Q QH P PH K : Type 0} (p : Parts Q QH P PH K) where
  like_itself_too : (key : ResponseKey) → eq_by_cmp response_key_cmp key key ≡ true
  like_itself_too key = (eq_by_cmp_equiv response_keys_total).refl key

  -- the keys from a sender to a client
  abbrev keys_to : Sender P ResponseDetails PH → ClientPart K → List ResponseKey
  keys_to sender client =
      map (λ channel. record { server = sender.owner; client = client.port.id; channel = channel })
      (range_with_len 0 (length (get_or sender.messages.queues client.receiver [])))

  channel_listed : (sender : Sender P ResponseDetails PH) (client : ClientPart K) (key : ResponseKey) → sender.owner ≡ key.server
      → client.port.id ≡ key.client
      → key.channel < length (get_or sender.messages.queues client.receiver [])
      → list_any (eq_by_cmp response_key_cmp key) (keys_to sender client) ≡ true
  channel_listed sender client key owner id within =
      let n : ℕ = length (get_or sender.messages.queues client.receiver []) in
      let f : ℕ → ResponseKey = λ channel. record { server = sender.owner; client = client.port.id; channel = channel } in
      let there : get_or (map f (range_with_len 0 n)) key.channel key ≡ f key.channel =
      get_or-map-range_with_len f 0 n key.channel key.channel key within (omega arith) in
      let same : f key.channel ≡ key = ap (λ s. record { server = s; client = client.port.id; channel = key.channel }) owner
      ∙ ap (λ c. record { server = key.server; client = c; channel = key.channel }) id in
      list_any_at (eq_by_cmp response_key_cmp key) (map f (range_with_len 0 n)) key.channel key
      (omega (arith, within, length-map-range_with_len f 0 n))
      (ap (eq_by_cmp response_key_cmp key) (there ∙ same) ∙ like_itself_too key)

  responses_listed : (key : ResponseKey) (x : ResponseMessage P PH) (xs : List (ResponseMessage P PH)) → responses_at p key ≡ x ∷ xs
      → list_any (eq_by_cmp response_key_cmp key) (response_keys p) ≡ true
  responses_listed key x xs e =
      go (find (λ client. client.port.id == key.client) p.clients) (find (λ sender. sender.owner == key.server) p.server_senders) refl refl
      e
    where
      go : (client : Option (ClientPart K)) (sender : Option (Sender P ResponseDetails PH))
          → find (λ c. c.port.id == key.client) p.clients ≡ client → find (λ l. l.owner == key.server) p.server_senders ≡ sender
          → option_map_or (λ c. option_map_or (λ l. map (response_in_slot p.spare_response_header l.messages)
          (queue_at l.messages c.receiver key.channel)) sender []) client [] ≡ x ∷ xs
          → list_any (eq_by_cmp response_key_cmp key) (response_keys p) ≡ true
      go None sender c l e = absurd (let f : [] ≡ x ∷ xs = e in cc)
      go (Some client) None c l e = absurd (let f : [] ≡ x ∷ xs = e in cc)
      go (Some client) (Some sender) c l e =
          let owner : sender.owner ≡ key.server = eqb-true _ _ (found_passes (λ l. l.owner == key.server) p.server_senders sender l) in
          let id : client.port.id ≡ key.client = eqb-true _ _ (found_passes (λ c. c.port.id == key.client) p.clients client c) in
          let within : key.channel < length (get_or sender.messages.queues client.receiver []) =
          queue_within sender.messages.queues client.receiver key.channel
          (λ none. let f : [] ≡ x ∷ xs = sym (ap (map (response_in_slot p.spare_response_header sender.messages)) none) ∙ e in cc) in
          any_flat (λ l. l.owner == key.server) (eq_by_cmp response_key_cmp key) (λ l. flat_map (keys_to l) p.clients) p.server_senders
          sender l
          (any_flat (λ c. c.port.id == key.client) (eq_by_cmp response_key_cmp key) (keys_to sender) p.clients client c
          (channel_listed sender client key owner id within))

  -- the responses that a contract sees at a key
  pub at_responses : (key : ResponseKey) → at (state_of p).responses key ≡ responses_at p key
  at_responses key = at_each response_keys_total response_keys_exact (response_keys p) (responses_at p) key (responses_listed key)
