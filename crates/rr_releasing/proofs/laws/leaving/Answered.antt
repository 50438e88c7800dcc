-- Which ports that left a client still has responses of, by senders' queues and by what contracts see.
use Rattle.std.proofs.Common.{◌≡◌, ◌≢◌, ◌<◌, ◌+◌, ◌-◌, ◌&&◌, ◌++◌, ℕ, Bool, true, false, cond, List, [], ◌∷◌, Some, get_or, length, map, refl, sym, take, ap, ◌∙◌, ⊎_elim, arith}
use Rattle.std.specs.Prelude.{◌==◌, filter, nat_lt, slice_get}
use Rattle.std.specs.Cmp.{both_ways}
use Rattle.std.specs.List.{AllByRecursion, list_any}
use Rattle.std.proofs.lemmas.Bool.{and_parts, cases_eq, eq-eqb, eqb-true, false≢true, lt-ltb, ne_eqb}
use Rattle.std.proofs.lemmas.List.{length-map, map-append, take-map}
use Rattle.std.proofs.lemmas.Option.{get_or_from_slice_get, slice_get-get_or}
use Rattle.rr_table.proofs.ListFacts.{all_append, all_filter, any-map}
use Rattle.rr_table.proofs.Members.{any_gives, any_there}
use Rattle.rr_sender.specs.Senders.{queue_at}
use Rattle.rr_protocol.specs.Keys.{ResponseKey}
use Rattle.rr_protocol.specs.Lists.{at}
use Rattle.rr_protocol.specs.Messages.{ResponseMessage}
use Rattle.rr_protocol.specs.Releases.{outdated_senders}
use Rattle.rr_protocol.proofs.KeyLaws.{response_keys_total, response_keys_exact}
use Rattle.rr_laws.proofs.Completing.{filter_never}
use Rattle.rr_laws.proofs.Filled.{filled_gives, filled_there}
use Rattle.rr_store.specs.declared.port.LeftPort.{LeftPort}
use Rattle.rr_store.specs.Expired.{requests_from, responses_from}
use Rattle.rr_store.specs.Leaving.{has_queued, is_of, outdated, queued_left}
use Rattle.rr_store.specs.Parts.{ClientPart, Parts, ServerPart}
use Rattle.rr_store.specs.Sound.{IsSoundStore, empty_hand}
use Rattle.rr_store.specs.Views.{request_lists, response_in_slot, response_lists, responses_at, sender_of, state_of}
use Rattle.rr_store.proofs.base.views.Counts.{listed}
use Rattle.rr_store.proofs.base.views.Expired.{at_expired}
use Rattle.rr_store.proofs.base.views.Keyed.{at_responses, queue_within}
use Rattle.rr_store.proofs.base.views.Left.{no_requests_to}
use Rattle.rr_store.proofs.leaving.Lists.{all_at, all_take, any_alike, found_at, map_filter}
use Rattle.rr_releasing.proofs.laws.leaving.Queued.{clients_apart, owner_found}

-- a list that isn't empty has a first element
some_first : (xs : List ℕ) → xs ≢ [] → nat_lt 0 (length xs) ≡ true
some_first [] some = absurd (some refl)
some_first (x ∷ xs) some = lt-ltb 0 (length (x ∷ xs)) (omega arith)

module _ {Q QH P PH K : Type 0} (p : Parts Q QH P PH K) (sound : IsSoundStore p empty_hand) where
  module _ (i : ℕ) (c : ClientPart K) (at_c : slice_get p.clients i ≡ Some c) where
    -- a sender's queues to the client
    abbrev queue : ℕ → ℕ → List ℕ
    queue l channel = queue_at (sender_of l p.server_senders).messages c.receiver channel

    abbrev row : ℕ → List (List ℕ)
    row l = get_or (sender_of l p.server_senders).messages.queues c.receiver []

    -- the response in a slot of a sender
    abbrev response : ℕ → ℕ → ResponseMessage P PH
    response l = response_in_slot p.spare_response_header (sender_of l p.server_senders).messages

    -- the responses from a sender on a channel are those in its queue
    responses_of : (key : ResponseKey) → key.client ≡ c.port.id → (l : ℕ) → l < length p.server_senders
        → (sender_of l p.server_senders).owner ≡ key.server → at (response_lists p) key ≡ map (response l) (queue l key.channel)
    responses_of key to l there owner =
        at_responses p key ∙ read
      where
        read : responses_at p key ≡ map (response l) (queue l key.channel)
        read =
            rw (found_at (λ (c : ClientPart K). c.port.id) p.clients i c at_c (clients_apart p sound) key.client (sym to))
            (rw (owner_found p.server_senders sound.server_ports.owned_once l key.server there owner) refl)

    -- a sender has an entry for the client exactly if the client has a response of its owner
    pub has_waiting : (l n : ℕ) → l < length p.server_senders → (sender_of l p.server_senders).owner ≡ n
        → has_queued (sender_of l p.server_senders) c.receiver ≡ responses_from (response_lists p) c.port.id n
    has_waiting l n there owner = both_ways _ _ seen kept
      where
        seen : has_queued (sender_of l p.server_senders) c.receiver ≡ true → responses_from (response_lists p) c.port.id n ≡ true
        seen h =
            let q = any_gives (λ (queue : List ℕ). nat_lt 0 (length queue)) (row l) h in
            let key : ResponseKey = record { server = n; client = c.port.id; channel = q.0 } in
            let is : queue l q.0 ≡ q.1 = get_or_from_slice_get (row l) q.0 q.1 [] q.2 in
            let here : at (response_lists p) key ≡ map (response l) q.1 = responses_of key refl l there owner ∙ ap (map (response l)) is in
            filled_there response_keys_total response_keys_exact (λ key. key.server == n && key.client == c.port.id) (response_lists p)
            key (λ none. some q.1 q.3 (sym here ∙ none)) (rw (eq-eqb n n refl) (rw (eq-eqb c.port.id c.port.id refl) refl))
          where
            some : (xs : List ℕ) → nat_lt 0 (length xs) ≡ true → map (response l) xs ≡ [] → ⊥
            some [] h none = false≢true h
            some (x ∷ xs) h none = absurd (cc)

        kept : responses_from (response_lists p) c.port.id n ≡ true → has_queued (sender_of l p.server_senders) c.receiver ≡ true
        kept h =
            let f = filled_gives response_keys_total response_keys_exact (λ key. key.server == n && key.client == c.port.id)
            (response_lists p) h in
            let key : ResponseKey = f.0 in
            let both = and_parts (key.server == n) (key.client == c.port.id) f.2 in
            let here : at (response_lists p) key ≡ map (response l) (queue l key.channel) =
            responses_of key (eqb-true key.client c.port.id both.1) l there (owner ∙ sym (eqb-true key.server n both.0)) in
            let some : queue l key.channel ≢ [] = λ none. f.1 (here ∙ ap (map (response l)) none) in
            any_there (λ (queue : List ℕ). nat_lt 0 (length queue)) (row l) key.channel (queue l key.channel)
            (slice_get-get_or (row l) key.channel []
            (queue_within (sender_of l p.server_senders).messages.queues c.receiver key.channel some))
            (some_first (queue l key.channel) some)

    -- the ports that left of which it has a response, by their numbers
    abbrev pub waiting_from : List ℕ
    waiting_from = filter (responses_from (response_lists p) c.port.id) (map (λ l. l.number) p.left_servers)

    queued_numbers : map (λ l. l.number) (queued_left p.server_senders p.left_servers c.receiver) ≡ waiting_from
    queued_numbers =
        map_filter (λ (l : LeftPort). l.number) (λ (l : LeftPort). has_queued (sender_of l.sender p.server_senders) c.receiver)
        (responses_from (response_lists p) c.port.id) p.left_servers
        (all_at _ p.left_servers
        (λ j l at. let own = sound.have_ports.left_servers.own j l at in has_waiting l.sender l.number own.0 own.1))

    -- are those that contracts see
    pub expired_is : at (state_of p).expired c.port.id ≡ waiting_from
    expired_is =
        at_expired (request_lists p) (response_lists p) (map (λ l. l.number) p.left_clients) (map (λ l. l.number) p.left_servers) c.port.id
        ∙ ap (λ ls. ls ++ waiting_from)
        (filter_never (requests_from (request_lists p) c.port.id) (no_requests_to p empty_hand sound i c at_c)
        (map (λ l. l.number) p.left_clients))

    module _ (j : ℕ) (s : ServerPart K) (at_s : slice_get p.servers j ≡ Some s) (room : ℕ) where
      abbrev pub leaving : LeftPort
      leaving = record { number = s.port.id; sender = s.sender }

      abbrev queued : List LeftPort
      queued = queued_left p.server_senders p.left_servers c.receiver

      abbrev gone : List LeftPort
      gone = outdated p.server_senders p.left_servers room leaving c.receiver

      own : (s.sender < length p.server_senders) × ((sender_of s.sender p.server_senders).owner ≡ s.port.id)
      own = let o = sound.server_ports.own j s.connected (listed (λ (s : ServerPart K). s.connected) p.servers j s at_s) in (o.0, o.1)

      -- the same of those for which there is no room
      outdated_numbers : map (λ l. l.number) gone
          ≡ cond (responses_from (response_lists p) c.port.id s.port.id) (outdated_senders room waiting_from s.port.id) []
      outdated_numbers =
          ap (λ b. map (λ (l : LeftPort). l.number) (cond b (take (length queued + 1 - room) (queued ++ leaving ∷ [])) []))
          (has_waiting s.sender s.port.id own.0 own.1)
          ∙ go (responses_from (response_lists p) c.port.id s.port.id)
        where
          go : (b : Bool) → map (λ (l : LeftPort). l.number) (cond b (take (length queued + 1 - room) (queued ++ leaving ∷ [])) [])
              ≡ cond b (outdated_senders room waiting_from s.port.id) []
          go true =
              sym (take-map (λ (l : LeftPort). l.number) (length queued + 1 - room) (queued ++ leaving ∷ []))
              ∙ ap (λ (ns : List ℕ). take (length queued + 1 - room) ns) (map-append (λ (l : LeftPort). l.number) queued (leaving ∷ []))
              ∙ ap (λ m. take (m + 1 - room) (map (λ (l : LeftPort). l.number) queued ++ s.port.id ∷ []))
              (sym (length-map queued (λ (l : LeftPort). l.number)))
              ∙ ap (λ ns. outdated_senders room ns s.port.id) queued_numbers
          go false = refl

      -- whether a port sends from a sender is told by its number
      abbrev Alike : ℕ → LeftPort → Type 0
      Alike l x = (x.sender == l) ≡ (x.number == (sender_of l p.server_senders).owner)

      alike_at : (l : ℕ) → l < length p.server_senders → (x : LeftPort) → x.sender < length p.server_senders
          → (sender_of x.sender p.server_senders).owner ≡ x.number → Alike l x
      alike_at l there x h is =
          ⊎_elim
          (λ e. eq-eqb x.sender l e
          ∙ sym (eq-eqb x.number (sender_of l p.server_senders).owner
          (sym is ∙ ap (λ m. (sender_of m p.server_senders).owner) e)))
          (λ n. ne_eqb x.sender l n
          ∙ sym (ne_eqb x.number (sender_of l p.server_senders).owner
          (λ e. n (sound.server_ports.owned_once x.sender l h there (is ∙ e)))))
          (cases_eq x.sender l)

      -- a sender's queues to the client are cut exactly if its owner is one of these
      pub cut_as_seen : (l : ℕ) → l < length p.server_senders → is_of gone l
          ≡ (responses_from (response_lists p) c.port.id s.port.id
          && list_any (λ n. n == (sender_of l p.server_senders).owner) (outdated_senders room waiting_from s.port.id))
      cut_as_seen l there =
          any_alike (λ (x : LeftPort). x.sender == l) (λ (x : LeftPort). x.number == (sender_of l p.server_senders).owner) gone alike
          ∙ sym (any-map (λ (x : LeftPort). x.number) (λ n. n == (sender_of l p.server_senders).owner) gone)
          ∙ ap (λ (ns : List ℕ). list_any (λ n. n == (sender_of l p.server_senders).owner) ns) outdated_numbers
          ∙ go (responses_from (response_lists p) c.port.id s.port.id)
        where
          alike : AllByRecursion (Alike l) gone
          alike = elim (has_queued (sender_of s.sender p.server_senders) c.receiver)
              as (λ b. AllByRecursion (Alike l)
              (cond b (take (length queued + 1 - room) (queued ++ leaving ∷ [])) [])) [
                | true ↦ all_take _ (length queued + 1 - room) (queued ++ leaving ∷ [])
                    (all_append (Alike l) queued leaving
                    (all_filter _ (λ (x : LeftPort). has_queued (sender_of x.sender p.server_senders) c.receiver) p.left_servers
                    (all_at _ p.left_servers (λ k x at. let o = sound.have_ports.left_servers.own k x at in alike_at l there x o.0 o.1)))
                    (alike_at l there leaving own.0 own.1))
                | false ↦ tt
              ]

          go : (b : Bool) → list_any (λ n. n == (sender_of l p.server_senders).owner)
              (cond b (outdated_senders room waiting_from s.port.id) [])
              ≡ (b && list_any (λ n. n == (sender_of l p.server_senders).owner) (outdated_senders room waiting_from s.port.id))
          go true = refl
          go false = refl
