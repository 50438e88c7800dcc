-- What contracts see of a core after the oldest request left a queue.
use Rattle.std.proofs.Common.{◌≡◌, ◌<◌, ◌+◌, ℕ, Bool, true, false, cond, List, [], ◌∷◌, Option, None, Some, length, map, refl, sym, ap, ◌∙◌, ⊎_elim, arith, filter}
use Rattle.std.specs.Prelude.{◌==◌, slice_get, slice_index, slice_set, drop, find}
use Rattle.std.specs.Option.{option_map_or}
use Rattle.std.specs.declared.cmp.Ordering.{Ordering}
use Rattle.std.specs.declared.cmp.Ordering.TheVariants.{Less, Equal, Greater}
use Rattle.std.specs.Ordering.{nat_cmp, eq_by_cmp, is_eq}
use Rattle.std.specs.FinMap as fin_map
use Rattle.std.proofs.lemmas.Bool.{cases_eq, eq-eqb, eqb-true, ne_eqb, false≢true}
use Rattle.std.proofs.lemmas.Cmp.{eq_by_cmp_equiv}
use Rattle.std.proofs.lemmas.List.{get_or-set_same, length-set}
use Rattle.std.proofs.lemmas.Option.{slice_get-get_or, get_or_from_slice_get, slice_get_within}
use Rattle.rr_table.specs.TableView.{TableEntry, table_entry}
use Rattle.rr_table.specs.Maps.{map_values}
use Rattle.rr_table.proofs.MapLaws.{map_values-insert, map_values-same}
use Rattle.rr_sender.specs.Senders.{Messages, queue_at, borrowed_at, set_two}
use Rattle.rr_sender.proofs.EntryLaws.{at_two-set_two}
use Rattle.rr_protocol.specs.Keys.{RequestKey, request_key, request_key_cmp}
use Rattle.rr_protocol.specs.Lists.{at, with_at, Lists}
use Rattle.rr_protocol.specs.Messages.{Handle, ActiveRequest, RequestMessage}
use Rattle.rr_protocol.specs.Receives.{with_active_request}
use Rattle.rr_protocol.specs.Releases.{without_empty_clients}
use Rattle.rr_protocol.specs.State.{State}
use Rattle.rr_protocol.proofs.KeyLaws.{request_keys_total, request_keys_exact}
use Rattle.rr_protocol.proofs.ListsLaws.{at-with_at, same_lists}
use Rattle.rr_store.specs.declared.handle_entry.HandleEntry.{HandleEntry}
use Rattle.rr_store.specs.declared.details.RequestDetails.{RequestDetails}
use Rattle.rr_store.specs.Answering.{active_entry}
use Rattle.rr_store.specs.Loaning.{with_messages}
use Rattle.rr_store.specs.Parts.{Parts, ServerPart, Sender}
use Rattle.rr_store.specs.Receiving.{queue_from}
use Rattle.rr_store.specs.Skimming.{with_received_request}
use Rattle.rr_store.specs.Sound.{IsSoundStore, IsShaped, empty_hand, active_place}
use Rattle.rr_store.specs.Views.{no_sender, sender_of, state_of, request_in_slot, request_at, handle_of, requests_at, waiting_at, marked, request_lists, response_lists}
use Rattle.rr_store.proofs.base.views.Agreeing.{same_handle, same_state, same_expired}
use Rattle.rr_store.proofs.base.senders.Entries.{found_alone}
use Rattle.rr_store.proofs.base.lists.Found.{found_passes, found_somewhere}
use Rattle.rr_store.proofs.base.views.Counts.{listed}
use Rattle.rr_store.proofs.base.views.Keyed.{at_requests}
use Rattle.rr_store.proofs.base.lists.Replaced.{find_read, set_alike}
use Rattle.rr_receiving.proofs.laws.response.View.{first_and_rest}
use Rattle.rr_store.proofs.base.lists.Skipped.{find_skip}
use Rattle.rr_store.proofs.base.lists.SetTwo.{other_row}
use Rattle.rr_store.proofs.base.senders.Numbered.{numbered_once}
use Rattle.rr_store.proofs.base.views.Expired.{request_gone}
use Rattle.rr_store.proofs.base.views.Left.{no_responses_to}
use Rattle.rr_store.specs.Expired.{expired_of, requests_from}

module _ {Q QH P PH K : Type 0} (p : Parts Q QH P PH K) (sound : IsSoundStore p empty_hand) (sender : ℕ)
    (there : sender < length p.client_senders)
    (index : ℕ) (c : ServerPart K) (at_c : slice_get p.servers index ≡ Some c)
    (slot : ℕ) (first : slice_get (queue_from p.client_senders c.receiver 0 sender) 0 ≡ Some slot) where
  abbrev pub m : Messages Q RequestDetails QH
  m = (sender_of sender p.client_senders).messages

  -- the list from which was taken
  abbrev pub key : RequestKey
  key = request_key (sender_of sender p.client_senders).owner c.port.id

  abbrev pub rest : List (RequestMessage Q QH)
  rest = map (request_in_slot p.spare_request_header m) (drop 1 (queue_at m c.receiver 0))

  the_server : find (λ d. d.port.id == c.port.id) p.servers ≡ Some c
  the_server =
      found_alone (λ (d : ServerPart K). d.port.id == c.port.id) p.servers index c at_c (eq-eqb c.port.id c.port.id refl)
      (λ k d e same. numbered_once sound.server_ports k index d.connected c.connected
      (listed (λ (c : ServerPart K). c.connected) p.servers k d e) (listed (λ (c : ServerPart K). c.connected) p.servers index c at_c)
      (eqb-true d.port.id c.port.id same))

  the_sender : find (λ l. l.owner == key.client) p.client_senders ≡ Some (sender_of sender p.client_senders)
  the_sender =
      found_alone (λ (l : Sender Q RequestDetails QH). l.owner == key.client) p.client_senders sender (sender_of sender p.client_senders)
      (slice_get-get_or p.client_senders sender no_sender there) (eq-eqb key.client key.client refl)
      (λ k l e same. sound.client_ports.owned_once k sender (slice_get_within p.client_senders k l e) there
      (ap (λ (l : Sender Q RequestDetails QH). l.owner) (get_or_from_slice_get p.client_senders k l no_sender e)
      ∙ eqb-true l.owner key.client same))

  -- what waited there
  pub queued : at (state_of p).requests key ≡ request_at p sender slot ∷ rest
  queued =
      at_requests p key
      ∙ (rw the_server (rw the_sender refl))
      ∙ ap (map (request_in_slot p.spare_request_header m)) (first_and_rest (queue_at m c.receiver 0) slot first)

  -- whom the server still has messages of
  fewer_expired : {requests : Lists request_key_cmp (RequestMessage Q QH)} → requests ≡ with_at (state_of p).requests key rest
      → expired_of requests (response_lists p) (map (λ l. l.number) p.left_clients) (map (λ l. l.number) p.left_servers)
      ≡ with_at (state_of p).expired c.port.id (filter (requests_from (with_at (state_of p).requests key rest) c.port.id)
      (at (state_of p).expired c.port.id))
  fewer_expired is =
      same_expired _ _ is refl
      ∙ request_gone _ _ (request_lists p) (response_lists p) key (request_at p sender slot) rest queued
      (no_responses_to p empty_hand sound index c at_c)

  module _ (held : List ℕ) (borrowed : List (List ℕ)) where
    abbrev fresh : Sender Q RequestDetails QH
    fresh = with_messages (sender_of sender p.client_senders) (record m
        { queues = set_two m.queues c.receiver 0 (drop 1 (queue_at m c.receiver 0)); held = held; borrowed = borrowed })

    -- the sender has one entry less, and other counts
    abbrev pub popped : Parts Q QH P PH K
    popped = record p { client_senders = slice_set p.client_senders sender fresh }

    shaped : IsShaped p.limits.max_servers 1 p.limits.max_active_requests_per_client m
    shaped = sound.sized.client_senders sender there

    placed : c.receiver < p.limits.max_servers
    placed = sound.server_ports.placed index c.connected (listed (λ (c : ServerPart K). c.connected) p.servers index c at_c)

    queue_here : queue_at fresh.messages c.receiver 0 ≡ drop 1 (queue_at m c.receiver 0)
    queue_here = at_two-set_two [] m.queues c.receiver 0 (omega (arith, placed, shaped.queues))
        (omega (arith, shaped.queue_channels c.receiver placed)) (drop 1 (queue_at m c.receiver 0))

    queue_there : (r : ℕ) → (r ≡ c.receiver → ⊥) → queue_at fresh.messages r 0 ≡ queue_at m r 0
    queue_there r n = other_row m.queues c.receiver 0 (drop 1 (queue_at m c.receiver 0)) [] r 0 n

    here_is : sender_of sender popped.client_senders ≡ fresh
    here_is = get_or-set_same p.client_senders sender fresh no_sender there

    owner_same : (k : ℕ) → (sender_of k popped.client_senders).owner ≡ (sender_of k p.client_senders).owner
    owner_same k = set_alike p.client_senders sender fresh no_sender (λ (l : Sender Q RequestDetails QH). l.owner) refl k

    -- the sender after it
    the_sender_now : find (λ l. l.owner == key.client) popped.client_senders ≡ Some fresh
    the_sender_now =
        let many : length popped.client_senders ≡ length p.client_senders = length-set p.client_senders sender fresh in
        found_alone (λ (l : Sender Q RequestDetails QH). l.owner == key.client) popped.client_senders sender fresh
        (slice_get-get_or popped.client_senders sender no_sender (omega (arith, there, many)) ∙ ap Some here_is)
        (eq-eqb key.client key.client refl)
        (λ k l e same. sound.client_ports.owned_once k sender (omega (arith, slice_get_within popped.client_senders k l e, many)) there
        (sym (owner_same k) ∙ ap (λ (l : Sender Q RequestDetails QH). l.owner) (get_or_from_slice_get popped.client_senders k l no_sender e)
        ∙ eqb-true l.owner key.client same))

    -- what waits there now
    waits_here : requests_at popped key ≡ rest
    waits_here = rw the_server (rw the_sender_now refl) ∙ ap (map (request_in_slot p.spare_request_header m)) queue_here

    -- elsewhere nothing changed
    waits_there : (k : RequestKey) → (k ≡ key → ⊥) → requests_at popped k ≡ requests_at p k
    waits_there k other = go (find (λ d. d.port.id == k.server) p.servers) refl
      where
        reads : ServerPart K → Sender Q RequestDetails QH → List (RequestMessage Q QH)
        reads d l = map (request_in_slot p.spare_request_header l.messages) (queue_at l.messages d.receiver 0)

        elsewhere : (d : ServerPart K) → (d.receiver ≡ c.receiver → ⊥) → reads d fresh ≡ reads d (sender_of sender p.client_senders)
        elsewhere d n = ap (map (request_in_slot p.spare_request_header m)) (queue_there d.receiver n)

        -- another server has another receiver
        not_it : (d : ServerPart K) → find (λ d. d.port.id == k.server) p.servers ≡ Some d → (sender_of sender p.client_senders).owner
            ≡ k.client
            → d.receiver ≡ c.receiver → ⊥
        not_it d e owner same =
            let j = found_somewhere (λ (d : ServerPart K). d.port.id == k.server) p.servers d e in
            let one = sound.server_ports.receivers_once j.0 index d.connected c.connected
            (listed (λ (c : ServerPart K). c.connected) p.servers j.0 d j.1)
            (listed (λ (c : ServerPart K). c.connected) p.servers index c at_c) same in
            let f : Some d ≡ Some c = sym j.1 ∙ ap (slice_get p.servers) one ∙ at_c in
            let is : d ≡ c = cc in
            let id : k.server ≡ c.port.id = sym (eqb-true d.port.id k.server
            (found_passes (λ (d : ServerPart K). d.port.id == k.server) p.servers d e)) ∙ ap (λ (d : ServerPart K). d.port.id) is in
            other (ap (λ s. request_key s k.server) (sym owner) ∙ ap (request_key key.client) id)

        with_server : (d : ServerPart K) → find (λ d. d.port.id == k.server) p.servers ≡ Some d
            → option_map_or (reads d) (find (λ l. l.owner == k.client) popped.client_senders) [] ≡ option_map_or (reads d)
            (find (λ l. l.owner == k.client) p.client_senders) []
        with_server d e =
            ⊎_elim
            (λ owner. find_read (λ (l : Sender Q RequestDetails QH). l.owner == k.client) (reads d) [] p.client_senders sender fresh
            no_sender refl
            (elsewhere d (not_it d e owner)))
            (λ n. ap (λ (o : Option (Sender Q RequestDetails QH)). option_map_or (reads d) o [])
            (find_skip (λ (l : Sender Q RequestDetails QH). l.owner == k.client) p.client_senders sender fresh no_sender there
            (ne_eqb key.client k.client n) (ne_eqb key.client k.client n)))
            (cases_eq (sender_of sender p.client_senders).owner k.client)

        go : (o : Option (ServerPart K)) → find (λ d. d.port.id == k.server) p.servers ≡ o
            → option_map_or (λ d. option_map_or (reads d) (find (λ l. l.owner == k.client) popped.client_senders) []) o [] ≡ option_map_or
            (λ d. option_map_or (reads d) (find (λ l. l.owner == k.client) p.client_senders) []) o []
        go None e = refl
        go (Some d) e = with_server d e

    -- the list lost its first entry
    pub requests : (state_of popped).requests ≡ with_at (state_of p).requests key rest
    requests =
        same_lists request_keys_total request_keys_exact (state_of popped).requests (with_at (state_of p).requests key rest)
        (λ k. at_requests popped k ∙ each k (eq_by_cmp request_key_cmp k key) refl
        ∙ sym (at-with_at request_keys_total (state_of p).requests key rest k))
      where
        each : (k : RequestKey) (b : Bool) → eq_by_cmp request_key_cmp k key ≡ b
            → requests_at popped k ≡ cond b rest (at (state_of p).requests k)
        each k true e = ap (requests_at popped) (same_key k e) ∙ waits_here
          where
            tied : (o : Ordering) → is_eq o ≡ true → o ≡ Equal
            tied Equal h = refl
            tied Less h = absurd (false≢true h)
            tied Greater h = absurd (false≢true h)

            same_key : (k : RequestKey) → eq_by_cmp request_key_cmp k key ≡ true → k ≡ key
            same_key k e = request_keys_exact k key (tied (request_key_cmp k key) e)
        each k false e =
            waits_there k (λ is. false≢true (sym e ∙ ap (λ k. eq_by_cmp request_key_cmp k key) is
            ∙ (eq_by_cmp_equiv request_keys_total).refl key))
            ∙ sym (at_requests p k)

    -- a request says what it did
    pub says : (k j : ℕ) → request_at popped k j ≡ request_at p k j
    says k j = set_alike p.client_senders sender fresh no_sender
        (λ (x : Sender Q RequestDetails QH). request_in_slot p.spare_request_header x.messages
        j) refl k

    -- and so do its marks
    pub marks_say : (k j : ℕ) → waiting_at popped k j ≡ waiting_at p k j
    marks_say k j = set_alike p.client_senders sender fresh no_sender
        (λ (x : Sender Q RequestDetails QH). marked p.limits.max_servers p.servers x.may_answer j) refl k

    -- and so does each handle
    pub handles : (n : ℕ) (s : TableEntry HandleEntry) → fin_map.get p.table.entries n ≡ Some s → handle_of popped s ≡ handle_of p s
    handles n s e = same_handle popped p s.value.stage s.value.sender s.value.slot
        (λ _. (says s.value.sender s.value.slot, marks_say s.value.sender s.value.slot)) (λ _. refl)

    -- the entry left its list
    abbrev pub popped_state : State Q QH P PH K
    popped_state = without_empty_clients (record (state_of p) { requests = with_at (state_of p).requests key rest }) c.port.id

    pub popped_view : state_of popped ≡ popped_state
    popped_view =
        same_state (state_of popped) popped_state refl refl refl refl
        (map_values-same (handle_of popped) (handle_of p) p.table.entries handles) requests refl (fewer_expired requests) refl

  -- a server received the request
  pub received_request_view : state_of (with_received_request p c.port.id sender c.receiver slot) ≡ with_active_request
      (popped_state (slice_set m.held slot (slice_index m.held slot + 1))
      (set_two m.borrowed c.receiver 0 (borrowed_at m c.receiver 0 + 1)))
      c.port.id (request_at p sender slot)
  received_request_view =
      same_state (state_of after) _ refl refl refl refl active (requests more_held more_borrowed) refl
      (fewer_expired (requests more_held more_borrowed)) refl
    where
      more_held : List ℕ
      more_held = slice_set m.held slot (slice_index m.held slot + 1)

      more_borrowed : List (List ℕ)
      more_borrowed = set_two m.borrowed c.receiver 0 (borrowed_at m c.receiver 0 + 1)

      after : Parts Q QH P PH K
      after = with_received_request p c.port.id sender c.receiver slot

      shown : fin_map.FinMap nat_cmp (Handle Q QH P PH)
      shown = map_values (handle_of after) p.table.entries

      active : (state_of after).handles ≡ fin_map.insert (state_of p).handles p.next
          (ActiveRequest (record { message = request_at p sender slot; server = c.port.id }))
      active =
          map_values-insert (handle_of after) p.table.entries p.next
          (table_entry (active_place p sender slot c.port.id) (active_entry c.port.id sender slot 0))
          ∙ ap (λ (x : Handle Q QH P PH). fin_map.insert shown p.next x)
          (ap (λ message. ActiveRequest (record { message = message; server = c.port.id })) (says more_held more_borrowed sender slot))
          ∙ ap (λ (hs : fin_map.FinMap nat_cmp (Handle Q QH P PH)). fin_map.insert hs p.next
          (ActiveRequest (record { message = request_at p sender slot; server = c.port.id })))
          (map_values-same (handle_of after) (handle_of p) p.table.entries
          (λ n s e. same_handle after p s.value.stage s.value.sender s.value.slot
          (λ _. (
            says more_held more_borrowed s.value.sender s.value.slot,
            marks_say more_held more_borrowed s.value.sender s.value.slot,
          )) (λ _. refl)))
