-- Which ports that left a server still has requests of, by senders' queues and by what contracts see.
use Rattle.std.proofs.Common.{◌≡◌, ◌<◌, ◌+◌, ◌-◌, ◌&&◌, ◌++◌, ℕ, Bool, true, false, cond, List, [], ◌∷◌, Option, None, Some, find, get_or, length, map, refl, sym, take, ap, ◌∙◌, ⊎_elim, arith}
use Rattle.std.specs.Prelude.{◌==◌, filter, nat_lt, slice_get}
use Rattle.std.specs.List.{AllByRecursion, list_any}
use Rattle.std.specs.Option.{option_map_or}
use Rattle.std.proofs.lemmas.Bool.{and_parts, cases_eq, eq-eqb, eqb-true, false≢true, lt-ltb, ne_eqb}
use Rattle.std.proofs.lemmas.List.{append-nil, length-map, map-append, take-map}
use Rattle.std.proofs.lemmas.Option.{get_or_from_slice_get, slice_get-get_or, slice_get_within}
use Rattle.rr_table.proofs.ListFacts.{all_append, all_filter, any-map}
use Rattle.rr_sender.specs.Senders.{queue_at}
use Rattle.rr_protocol.specs.Keys.{RequestKey, request_key}
use Rattle.rr_protocol.specs.Lists.{at}
use Rattle.rr_protocol.specs.Releases.{outdated_senders}
use Rattle.rr_protocol.proofs.KeyLaws.{request_keys_total, request_keys_exact}
use Rattle.rr_laws.proofs.Completing.{filter_never}
use Rattle.rr_laws.proofs.Filled.{filled_there}
use Rattle.rr_store.specs.declared.port.LeftPort.{LeftPort}
use Rattle.rr_store.specs.Expired.{requests_from, responses_from}
use Rattle.rr_store.specs.Leaving.{SendersCut, has_queued, is_of, outdated, queued_left}
use Rattle.rr_store.specs.Parts.{ClientPart, Parts, Sender, ServerPart}
use Rattle.rr_store.specs.Sound.{IsSoundStore, empty_hand}
use Rattle.rr_store.specs.Views.{no_sender, request_in_slot, request_lists, requests_at, response_lists, sender_of, state_of}
use Rattle.rr_store.proofs.base.lists.EachOnce.{IsApart}
use Rattle.rr_store.proofs.base.lists.Found.{found_passes, found_somewhere}
use Rattle.rr_store.proofs.base.senders.Entries.{found_none}
use Rattle.rr_store.proofs.base.senders.Numbered.{numbered_once}
use Rattle.rr_store.proofs.base.views.Counts.{listed}
use Rattle.rr_store.proofs.base.views.Expired.{at_expired}
use Rattle.rr_store.proofs.base.views.Keyed.{at_requests}
use Rattle.rr_store.proofs.base.views.Left.{no_responses_to, none_filled}
use Rattle.rr_store.proofs.leaving.Lists.{all_at, all_take, any_alike, found_at, map_filter, only}

-- no two senders have one owner
abbrev pub OwnedOnce : {T N H : Type 0} → List (Sender T N H) → Type 0
OwnedOnce senders =
    (i j : ℕ) → i < length senders → j < length senders → (sender_of i senders).owner ≡ (sender_of j senders).owner → i ≡ j

module _ {T N H : Type 0} (senders : List (Sender T N H)) (once : OwnedOnce senders) where
  owners_apart : IsApart (λ (l : Sender T N H). l.owner) senders
  owners_apart i j x y at there same =
      once i j (slice_get_within senders i x at) (slice_get_within senders j y there)
      (ap (λ (l : Sender T N H). l.owner) (get_or_from_slice_get senders i x no_sender at) ∙ same
      ∙ sym (ap (λ (l : Sender T N H). l.owner) (get_or_from_slice_get senders j y no_sender there)))

  -- a sender is found by its owner
  pub owner_found : (l n : ℕ) → l < length senders → (sender_of l senders).owner ≡ n
      → find (λ (l : Sender T N H). l.owner == n) senders ≡ Some (sender_of l senders)
  owner_found l n there is =
      found_at (λ (l : Sender T N H). l.owner) senders l (sender_of l senders) (slice_get-get_or senders l no_sender there) owners_apart
      n is

module _ {T N H : Type 0} (cut : ℕ → ℕ → Bool) (before after : List (Sender T N H)) (is : SendersCut cut before after)
    (once : OwnedOnce before) where
  -- a sender has the owner that it had
  owner_same : (l : ℕ) → (sender_of l after).owner ≡ (sender_of l before).owner
  owner_same l = ap (λ (l : Sender T N H). l.owner) (is.rest l)

  still_once : OwnedOnce after
  still_once i j h g same = once i j (omega (arith, h, is.many)) (omega (arith, g, is.many)) (sym (owner_same i) ∙ same ∙ owner_same j)

  -- what is read of an owner's sender is gone, or as it was
  pub read_cut : {M : Type 0} (f : Sender T N H → List M) (n : ℕ) (b : Bool)
      → ((l : ℕ) → l < length before → (sender_of l before).owner ≡ n → f (sender_of l after) ≡ cond b [] (f (sender_of l before)))
      → option_map_or f (find (λ (l : Sender T N H). l.owner == n) after) []
      ≡ cond b [] (option_map_or f (find (λ (l : Sender T N H). l.owner == n) before) [])
  read_cut {M} f n b each = go (find (λ (l : Sender T N H). l.owner == n) before) refl
    where
      none : List M
      none = []

      alike : (b : Bool) → none ≡ cond b none none
      alike true = refl
      alike false = refl

      nobody : find (λ (l : Sender T N H). l.owner == n) before ≡ None → (o : Option (Sender T N H))
          → find (λ (l : Sender T N H). l.owner == n) after ≡ o → option_map_or f o none ≡ cond b none none
      nobody e None h = alike b
      nobody e (Some y) h =
          let j = found_somewhere (λ (l : Sender T N H). l.owner == n) after y h in
          let there : j.0 < length before = omega (arith, slice_get_within after j.0 y j.1, is.many) in
          let owner : (sender_of j.0 before).owner ≡ n = sym (owner_same j.0)
          ∙ ap (λ (l : Sender T N H). l.owner) (get_or_from_slice_get after j.0 y no_sender j.1)
          ∙ eqb-true y.owner n (found_passes (λ (l : Sender T N H). l.owner == n) after y h) in
          absurd (false≢true (sym (found_none (λ (l : Sender T N H). l.owner == n) before e j.0 (sender_of j.0 before)
          (slice_get-get_or before j.0 no_sender there)) ∙ eq-eqb (sender_of j.0 before).owner n owner))

      go : (o : Option (Sender T N H)) → find (λ (l : Sender T N H). l.owner == n) before ≡ o
          → option_map_or f (find (λ (l : Sender T N H). l.owner == n) after) none ≡ cond b none (option_map_or f o none)
      go None e = nobody e (find (λ (l : Sender T N H). l.owner == n) after) refl
      go (Some x) e =
          let l = found_somewhere (λ (l : Sender T N H). l.owner == n) before x e in
          let there : l.0 < length before = slice_get_within before l.0 x l.1 in
          let x_is : sender_of l.0 before ≡ x = get_or_from_slice_get before l.0 x no_sender l.1 in
          let owner : (sender_of l.0 before).owner ≡ n = ap (λ (l : Sender T N H). l.owner) x_is
          ∙ eqb-true x.owner n (found_passes (λ (l : Sender T N H). l.owner == n) before x e) in
          ap (λ (o : Option (Sender T N H)). option_map_or f o none)
          (owner_found after still_once l.0 n (omega (arith, there, is.many)) (owner_same l.0 ∙ owner))
          ∙ each l.0 there owner ∙ ap (λ (l : Sender T N H). cond b none (f l)) x_is

module _ {Q QH P PH K : Type 0} (p : Parts Q QH P PH K) (sound : IsSoundStore p empty_hand) where
  pub servers_apart : IsApart (λ (s : ServerPart K). s.port.id) p.servers
  servers_apart i j s t at there =
      numbered_once sound.server_ports i j s.connected t.connected (listed (λ (s : ServerPart K). s.connected) p.servers i s at)
      (listed (λ (s : ServerPart K). s.connected) p.servers j t there)

  pub clients_apart : IsApart (λ (c : ClientPart K). c.port.id) p.clients
  clients_apart i j c d at there =
      numbered_once sound.client_ports i j c.connected d.connected (listed (λ (c : ClientPart K). c.connected) p.clients i c at)
      (listed (λ (c : ClientPart K). c.connected) p.clients j d there)

  module _ (i : ℕ) (s : ServerPart K) (at_s : slice_get p.servers i ≡ Some s) where
    -- a sender's queue to the server
    abbrev queue : ℕ → List ℕ
    queue l = queue_at (sender_of l p.client_senders).messages s.receiver 0

    -- the requests from a sender are those in its queue
    requests_of : (key : RequestKey) → key.server ≡ s.port.id → (l : ℕ) → l < length p.client_senders
        → (sender_of l p.client_senders).owner ≡ key.client
        → requests_at p key ≡ map (request_in_slot p.spare_request_header (sender_of l p.client_senders).messages) (queue l)
    requests_of key to l there owner =
        rw (found_at (λ (s : ServerPart K). s.port.id) p.servers i s at_s servers_apart key.server (sym to))
        (rw (owner_found p.client_senders sound.client_ports.owned_once l key.client there owner) refl)

    one_queue : (l : ℕ) → l < length p.client_senders → has_queued (sender_of l p.client_senders) s.receiver ≡ nat_lt 0 (length (queue l))
    one_queue l there =
        only (λ (queue : List ℕ). nat_lt 0 (length queue)) (get_or (sender_of l p.client_senders).messages.queues s.receiver []) []
        ((sound.sized.client_senders l there).queue_channels s.receiver
        (sound.server_ports.placed i s.connected (listed (λ (s : ServerPart K). s.connected) p.servers i s at_s)))

    -- a sender has an entry for the server exactly if the server has a request of its owner
    pub has_waiting : (l n : ℕ) → l < length p.client_senders → (sender_of l p.client_senders).owner ≡ n
        → has_queued (sender_of l p.client_senders) s.receiver ≡ requests_from (request_lists p) s.port.id n
    has_waiting l n there owner = one_queue l there ∙ go (queue l) refl
      where
        go : (xs : List ℕ) → queue l ≡ xs → nat_lt 0 (length (queue l)) ≡ requests_from (request_lists p) s.port.id n
        go [] e =
            ap (λ (xs : List ℕ). nat_lt 0 (length xs)) e
            ∙ sym (none_filled request_keys_total request_keys_exact (λ key. key.server == s.port.id && key.client == n) (request_lists p)
            (λ key h. let both = and_parts (key.server == s.port.id) (key.client == n) h in
            at_requests p key
            ∙ requests_of key (eqb-true key.server s.port.id both.0) l there (owner ∙ sym (eqb-true key.client n both.1))
            ∙ ap (λ (xs : List ℕ). map (request_in_slot p.spare_request_header (sender_of l p.client_senders).messages) xs) e))
        go (x ∷ xs) e =
            let key : RequestKey = request_key n s.port.id in
            let here : at (request_lists p) key
            ≡ map (request_in_slot p.spare_request_header (sender_of l p.client_senders).messages) (x ∷ xs) =
            at_requests p key ∙ requests_of key refl l there owner
            ∙ ap (λ (xs : List ℕ). map (request_in_slot p.spare_request_header (sender_of l p.client_senders).messages) xs) e in
            ap (λ (xs : List ℕ). nat_lt 0 (length xs)) e ∙ lt-ltb 0 (length (x ∷ xs)) (omega arith)
            ∙ sym (filled_there request_keys_total request_keys_exact (λ key. key.server == s.port.id && key.client == n) (request_lists p)
            key (λ none. some x xs (sym here ∙ none))
            (rw (eq-eqb s.port.id s.port.id refl) (eq-eqb n n refl)))
          where
            some : (x : ℕ) (xs : List ℕ)
                → map (request_in_slot p.spare_request_header (sender_of l p.client_senders).messages) (x ∷ xs) ≡ [] → ⊥
            some x xs none = absurd (cc)

    -- the ports that left of which it has a request, by their numbers
    abbrev pub waiting_from : List ℕ
    waiting_from = filter (requests_from (request_lists p) s.port.id) (map (λ l. l.number) p.left_clients)

    queued_numbers : map (λ l. l.number) (queued_left p.client_senders p.left_clients s.receiver) ≡ waiting_from
    queued_numbers =
        map_filter (λ (l : LeftPort). l.number) (λ (l : LeftPort). has_queued (sender_of l.sender p.client_senders) s.receiver)
        (requests_from (request_lists p) s.port.id) p.left_clients
        (all_at _ p.left_clients
        (λ j l at. let own = sound.have_ports.left_clients.own j l at in has_waiting l.sender l.number own.0 own.1))

    -- are those that contracts see
    pub expired_is : at (state_of p).expired s.port.id ≡ waiting_from
    expired_is =
        at_expired (request_lists p) (response_lists p) (map (λ l. l.number) p.left_clients) (map (λ l. l.number) p.left_servers) s.port.id
        ∙ ap (λ ls. waiting_from ++ ls)
        (filter_never (responses_from (response_lists p) s.port.id) (no_responses_to p empty_hand sound i s at_s)
        (map (λ l. l.number) p.left_servers))
        ∙ append-nil waiting_from

    module _ (j : ℕ) (c : ClientPart K) (at_c : slice_get p.clients j ≡ Some c) (room : ℕ) where
      abbrev pub leaving : LeftPort
      leaving = record { number = c.port.id; sender = c.sender }

      abbrev queued : List LeftPort
      queued = queued_left p.client_senders p.left_clients s.receiver

      abbrev gone : List LeftPort
      gone = outdated p.client_senders p.left_clients room leaving s.receiver

      own : (c.sender < length p.client_senders) × ((sender_of c.sender p.client_senders).owner ≡ c.port.id)
      own = let o = sound.client_ports.own j c.connected (listed (λ (c : ClientPart K). c.connected) p.clients j c at_c) in (o.0, o.1)

      -- the same of those for which there is no room
      outdated_numbers : map (λ l. l.number) gone
          ≡ cond (requests_from (request_lists p) s.port.id c.port.id) (outdated_senders room waiting_from c.port.id) []
      outdated_numbers =
          ap (λ b. map (λ (l : LeftPort). l.number) (cond b (take (length queued + 1 - room) (queued ++ leaving ∷ [])) []))
          (has_waiting c.sender c.port.id own.0 own.1)
          ∙ go (requests_from (request_lists p) s.port.id c.port.id)
        where
          go : (b : Bool) → map (λ (l : LeftPort). l.number) (cond b (take (length queued + 1 - room) (queued ++ leaving ∷ [])) [])
              ≡ cond b (outdated_senders room waiting_from c.port.id) []
          go true =
              sym (take-map (λ (l : LeftPort). l.number) (length queued + 1 - room) (queued ++ leaving ∷ []))
              ∙ ap (λ (ns : List ℕ). take (length queued + 1 - room) ns) (map-append (λ (l : LeftPort). l.number) queued (leaving ∷ []))
              ∙ ap (λ m. take (m + 1 - room) (map (λ (l : LeftPort). l.number) queued ++ c.port.id ∷ []))
              (sym (length-map queued (λ (l : LeftPort). l.number)))
              ∙ ap (λ ns. outdated_senders room ns c.port.id) queued_numbers
          go false = refl

      -- whether a port sends from a sender is told by its number
      abbrev Alike : ℕ → LeftPort → Type 0
      Alike l x = (x.sender == l) ≡ (x.number == (sender_of l p.client_senders).owner)

      alike_at : (l : ℕ) → l < length p.client_senders → (x : LeftPort) → x.sender < length p.client_senders
          → (sender_of x.sender p.client_senders).owner ≡ x.number → Alike l x
      alike_at l there x h is =
          ⊎_elim
          (λ e. eq-eqb x.sender l e
          ∙ sym (eq-eqb x.number (sender_of l p.client_senders).owner
          (sym is ∙ ap (λ m. (sender_of m p.client_senders).owner) e)))
          (λ n. ne_eqb x.sender l n
          ∙ sym (ne_eqb x.number (sender_of l p.client_senders).owner
          (λ e. n (sound.client_ports.owned_once x.sender l h there (is ∙ e)))))
          (cases_eq x.sender l)

      -- a sender's queue to the server is cut exactly if its owner is one of these
      pub cut_as_seen : (l : ℕ) → l < length p.client_senders → is_of gone l
          ≡ (requests_from (request_lists p) s.port.id c.port.id
          && list_any (λ n. n == (sender_of l p.client_senders).owner) (outdated_senders room waiting_from c.port.id))
      cut_as_seen l there =
          any_alike (λ (x : LeftPort). x.sender == l) (λ (x : LeftPort). x.number == (sender_of l p.client_senders).owner) gone alike
          ∙ sym (any-map (λ (x : LeftPort). x.number) (λ n. n == (sender_of l p.client_senders).owner) gone)
          ∙ ap (λ (ns : List ℕ). list_any (λ n. n == (sender_of l p.client_senders).owner) ns) outdated_numbers
          ∙ go (requests_from (request_lists p) s.port.id c.port.id)
        where
          alike : AllByRecursion (Alike l) gone
          alike = elim (has_queued (sender_of c.sender p.client_senders) s.receiver)
              as (λ b. AllByRecursion (Alike l)
              (cond b (take (length queued + 1 - room) (queued ++ leaving ∷ [])) [])) [
                | true ↦ all_take _ (length queued + 1 - room) (queued ++ leaving ∷ [])
                    (all_append (Alike l) queued leaving
                    (all_filter _ (λ (x : LeftPort). has_queued (sender_of x.sender p.client_senders) s.receiver) p.left_clients
                    (all_at _ p.left_clients (λ k x at. let o = sound.have_ports.left_clients.own k x at in alike_at l there x o.0 o.1)))
                    (alike_at l there leaving own.0 own.1))
                | false ↦ tt
              ]

          go : (b : Bool) → list_any (λ n. n == (sender_of l p.client_senders).owner)
              (cond b (outdated_senders room waiting_from c.port.id) [])
              ≡ (b && list_any (λ n. n == (sender_of l p.client_senders).owner) (outdated_senders room waiting_from c.port.id))
          go true = refl
          go false = refl
