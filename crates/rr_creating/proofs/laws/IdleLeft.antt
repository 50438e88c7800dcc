-- What is read of the sender that has a number as another takes its place, and of a port that is no longer listed as one that left.
use Rattle.std.proofs.Common.{◌≡◌, ◌≢◌, ◌<◌, ◌++◌, ◌&&◌, ℕ, zero, suc, Bool, false, cond, List, [], ◌∷◌, Option, None, Some, find, length, map, refl, sym, ap, ◌∙◌, ⊎_elim}
use Rattle.std.specs.Prelude.{◌==◌, filter}
use Rattle.std.specs.List.{remove}
use Rattle.std.specs.Option.{option_map_or}
use Rattle.std.proofs.lemmas.Bool.{and_parts, cases_eq, eq-eqb, eqb-true}
use Rattle.std.proofs.lemmas.Option.{get_or_from_slice_get, slice_get-get_or, slice_get_within}
use Rattle.rr_sender.specs.Senders.{queue_at}
use Rattle.rr_protocol.specs.Keys.{RequestKey, ResponseKey, request_key_cmp, response_key_cmp}
use Rattle.rr_protocol.specs.Lists.{Lists, lists_by}
use Rattle.rr_protocol.specs.Messages.{RequestMessage, ResponseMessage}
use Rattle.rr_protocol.proofs.KeyLaws.{request_keys_total, request_keys_exact, response_keys_total, response_keys_exact}
use Rattle.rr_store.specs.declared.port.LeftPort.{LeftPort}
use Rattle.rr_store.specs.declared.details.RequestDetails.{RequestDetails}
use Rattle.rr_store.specs.declared.details.ResponseDetails.{ResponseDetails}
use Rattle.rr_store.specs.Creating.{left_at}
use Rattle.rr_store.specs.Expired.{expired_of, receivers, requests_from, responses_from}
use Rattle.rr_store.specs.Parts.{ClientPart, Parts, Sender, ServerPart}
use Rattle.rr_store.specs.Sound.{IsSoundStore, empty_hand}
use Rattle.rr_store.specs.Views.{no_sender, request_in_slot, request_lists, requests_at, response_in_slot, response_lists, responses_at, sender_of}
use Rattle.rr_store.proofs.base.lists.Found.{found_passes, found_somewhere}
use Rattle.rr_store.proofs.base.senders.Entries.{found_alone}
use Rattle.rr_store.proofs.base.views.Keyed.{at_requests, at_responses}
use Rattle.rr_store.proofs.base.views.Left.{none_filled}
use Rattle.rr_creating.proofs.laws.NewSenders.{IsIdle, IsPut}
use Rattle.rr_creating.proofs.laws.Sites.{left_there}

-- no two senders have one owner
abbrev pub IsOwnedOnce : {T N H : Type 0} → List (Sender T N H) → Type 0
IsOwnedOnce senders = (i j : ℕ) → i < length senders → j < length senders → (sender_of i senders).owner ≡ (sender_of j senders).owner
    → i ≡ j

module _ {T N H : Type 0} (senders : List (Sender T N H)) (once : IsOwnedOnce senders) (k : ℕ) where
  -- a sender is found by its number
  pub found_owner : (i : ℕ) → i < length senders → (sender_of i senders).owner ≡ k
      → find (λ l. l.owner == k) senders ≡ Some (sender_of i senders)
  found_owner i within owned =
      found_alone (λ (l : Sender T N H). l.owner == k) senders i (sender_of i senders) (slice_get-get_or senders i no_sender within)
      (eq-eqb (sender_of i senders).owner k owned)
      (λ j l at same. once j i (slice_get_within senders j l at) within
      (ap (λ (l : Sender T N H). l.owner) (get_or_from_slice_get senders j l no_sender at) ∙ eqb-true l.owner k same ∙ sym owned))

-- where a sender that is found stands
pub record Owning {T N H : Type 0} (senders : List (Sender T N H)) (k : ℕ) (l : Sender T N H) : Type 0 where
  pub index : ℕ
  pub there : index < length senders
  pub is : sender_of index senders ≡ l
  pub owned : (sender_of index senders).owner ≡ k

pub owning : {T N H : Type 0} (senders : List (Sender T N H)) (k : ℕ) (l : Sender T N H) → find (λ l. l.owner == k) senders ≡ Some l
    → Owning senders k l
owning {T} {N} {H} senders k l e =
    let test : Sender T N H → Bool = λ l. l.owner == k in
    let at = found_somewhere test senders l e in
    let is : sender_of at.0 senders ≡ l = get_or_from_slice_get senders at.0 l no_sender at.1 in
    record {
      index = at.0;
      there = slice_get_within senders at.0 l at.1;
      is = is;
      owned = ap (λ (l : Sender T N H). l.owner) is ∙ eqb-true l.owner k (found_passes test senders l e);
    }

module _ {T N H : Type 0} {index : ℕ} {new : Sender T N H} {senders after : List (Sender T N H)} (put : IsPut index new senders after)
    (once : IsOwnedOnce senders) (once_after : IsOwnedOnce after) {Y : Type 0} (shown : Sender T N H → Y) (none : Y)
    (new_none : shown new ≡ none) (old_none : shown (sender_of index senders) ≡ none) (k : ℕ) where
  abbrev read : Option (Sender T N H) → Y
  read o = option_map_or shown o none

  abbrev found : List (Sender T N H) → Option (Sender T N H)
  found xs = find (λ l. l.owner == k) xs

  -- another sender is found in both
  both : (i : ℕ) → i ≢ index → i < length senders → (sender_of i senders).owner ≡ k → read (found after) ≡ read (found senders)
  both i n within owned =
      ap read (found_owner after once_after k i (put.stay i within) (ap (λ (l : Sender T N H). l.owner) (put.others i n) ∙ owned)
      ∙ ap Some (put.others i n) ∙ sym (found_owner senders once k i within owned))

  -- what is read of the sender that has a number is as it was, where nothing is of the new one and nothing was of the one before it
  pub read_put : read (found after) ≡ read (found senders)
  read_put = go (found after) refl (found senders) refl
    where
      before : (o : Option (Sender T N H)) → found senders ≡ o → read (found after) ≡ none → read (found after) ≡ read (found senders)
      before None e is = is ∙ sym (ap read e)
      before (Some l) e is =
          let w = owning senders k l e in
          ⊎_elim
          (λ f. is ∙ sym (ap read e ∙ ap shown (sym w.is) ∙ ap (λ i. shown (sender_of i senders)) f ∙ old_none))
          (λ n. both w.index n w.there w.owned)
          (cases_eq w.index index)

      go : (a : Option (Sender T N H)) → found after ≡ a → (o : Option (Sender T N H)) → found senders ≡ o
          → read (found after) ≡ read (found senders)
      go None f o e = before o e (ap read f)
      go (Some l) f o e =
          let w = owning after k l f in
          ⊎_elim
          (λ h. before o e (ap read f ∙ ap shown (sym w.is) ∙ ap (λ i. shown (sender_of i after)) h ∙ ap shown put.here ∙ new_none))
          (λ n. both w.index n (put.known w.index n w.there) (ap (λ (l : Sender T N H). l.owner) (sym (put.others w.index n)) ∙ w.owned))
          (cases_eq w.index index)

-- a port that doesn't pass is not chosen
filter_gone : (t : ℕ → Bool) (left : List LeftPort) (index : ℕ) → t (left_at index left).number ≡ false
    → filter t (map (λ l. l.number) (remove left index)) ≡ filter t (map (λ l. l.number) left)
filter_gone t [] zero none = refl
filter_gone t [] (suc index) none = refl
filter_gone t (x ∷ left) zero none =
    sym (ap (λ b. cond b (x.number ∷ filter t (map (λ l. l.number) left)) (filter t (map (λ l. l.number) left))) none)
filter_gone t (x ∷ left) (suc index) none =
    ap (λ (xs : List ℕ). cond (t x.number) (x.number ∷ xs) xs) (filter_gone t left index none)

module _ {X Y : Type 0} (requests : Lists request_key_cmp X) (responses : Lists response_key_cmp Y) where
  -- whom receivers have messages of is the same where the same clients have some, or the same servers
  pub same_left_clients : (clients others servers : List ℕ)
      → ((n : ℕ) → filter (requests_from requests n) clients ≡ filter (requests_from requests n) others)
      → expired_of requests responses clients servers ≡ expired_of requests responses others servers
  same_left_clients clients others servers same =
      λ i. lists_by (receivers requests responses) (λ n. same n i ++ filter (responses_from responses n) servers)

  pub same_left_servers : (clients servers others : List ℕ)
      → ((n : ℕ) → filter (responses_from responses n) servers ≡ filter (responses_from responses n) others)
      → expired_of requests responses clients servers ≡ expired_of requests responses clients others
  same_left_servers clients servers others same =
      λ i. lists_by (receivers requests responses) (λ n. filter (requests_from requests n) clients ++ same n i)

module _ {Q QH P PH K : Type 0} (p : Parts Q QH P PH K) (sound : IsSoundStore p empty_hand) (index : ℕ) where
  -- a client of whose sender nothing waits is one that receivers have no requests of
  module _ (within : index < length p.left_clients)
      (idle : IsIdle (sender_of (left_at index p.left_clients).sender p.client_senders).messages) where
    abbrev client : LeftPort
    client = left_at index p.left_clients

    client_found : (k : ℕ) → k ≡ client.number → find (λ l. l.owner == k) p.client_senders ≡ Some (sender_of client.sender p.client_senders)
    client_found k is =
        let own = sound.have_ports.left_clients.own index client (left_there sound.have_ports.left_clients index within) in
        found_owner p.client_senders sound.client_ports.owned_once k client.sender own.0 (own.1 ∙ sym is)

    no_requests : (key : RequestKey) → key.client ≡ client.number → requests_at p key ≡ []
    no_requests key is = go (find (λ s. s.port.id == key.server) p.servers)
      where
        shown : ServerPart K → Sender Q RequestDetails QH → List (RequestMessage Q QH)
        shown s l = map (request_in_slot p.spare_request_header l.messages) (queue_at l.messages s.receiver 0)

        go : (o : Option (ServerPart K))
            → option_map_or (λ s. option_map_or (shown s) (find (λ l. l.owner == key.client) p.client_senders) []) o [] ≡ []
        go None = refl
        go (Some s) =
            ap (λ o. option_map_or (shown s) o []) (client_found key.client is)
            ∙ ap (map (request_in_slot p.spare_request_header (sender_of client.sender p.client_senders).messages))
            (idle.queues s.receiver 0)

    pub client_unlisted : (n : ℕ)
        → filter (requests_from (request_lists p) n) (map (λ l. l.number) (remove p.left_clients index))
        ≡ filter (requests_from (request_lists p) n) (map (λ l. l.number) p.left_clients)
    client_unlisted n = filter_gone (requests_from (request_lists p) n) p.left_clients index
        (none_filled request_keys_total request_keys_exact (λ key. key.server == n && key.client == client.number) (request_lists p)
        (λ key h. at_requests p key
        ∙ no_requests key (eqb-true key.client client.number (and_parts (key.server == n) (key.client == client.number) h).1)))

  -- and so is a server
  module _ (within : index < length p.left_servers)
      (idle : IsIdle (sender_of (left_at index p.left_servers).sender p.server_senders).messages) where
    abbrev server : LeftPort
    server = left_at index p.left_servers

    server_found : (k : ℕ) → k ≡ server.number → find (λ l. l.owner == k) p.server_senders ≡ Some (sender_of server.sender p.server_senders)
    server_found k is =
        let own = sound.have_ports.left_servers.own index server (left_there sound.have_ports.left_servers index within) in
        found_owner p.server_senders sound.server_ports.owned_once k server.sender own.0 (own.1 ∙ sym is)

    no_responses : (key : ResponseKey) → key.server ≡ server.number → responses_at p key ≡ []
    no_responses key is = go (find (λ c. c.port.id == key.client) p.clients)
      where
        shown : ClientPart K → Sender P ResponseDetails PH → List (ResponseMessage P PH)
        shown c l = map (response_in_slot p.spare_response_header l.messages) (queue_at l.messages c.receiver key.channel)

        go : (o : Option (ClientPart K))
            → option_map_or (λ c. option_map_or (shown c) (find (λ l. l.owner == key.server) p.server_senders) []) o [] ≡ []
        go None = refl
        go (Some c) =
            ap (λ o. option_map_or (shown c) o []) (server_found key.server is)
            ∙ ap (map (response_in_slot p.spare_response_header (sender_of server.sender p.server_senders).messages))
            (idle.queues c.receiver key.channel)

    pub server_unlisted : (n : ℕ)
        → filter (responses_from (response_lists p) n) (map (λ l. l.number) (remove p.left_servers index))
        ≡ filter (responses_from (response_lists p) n) (map (λ l. l.number) p.left_servers)
    server_unlisted n = filter_gone (responses_from (response_lists p) n) p.left_servers index
        (none_filled response_keys_total response_keys_exact (λ key. key.server == server.number && key.client == n) (response_lists p)
        (λ key h. at_responses p key
        ∙ no_responses key (eqb-true key.server server.number (and_parts (key.server == server.number) (key.client == n) h).0)))
