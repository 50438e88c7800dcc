-- What contracts see of a core after a request was sent.
use Rattle.std.proofs.Common.{◌≡◌, ◌≢◌, ◌<◌, ℕ, Bool, true, false, List, [], Option, None, Some, length, map, refl, sym, ap, ◌∙◌, subst, ⊎_elim, arith}
use Rattle.std.specs.Prelude.{◌==◌, slice_get, find, fold}
use Rattle.std.specs.Option.{option_map_or}
use Rattle.std.specs.FinMap as fin_map
use Rattle.std.specs.Ordering.{nat_cmp}
use Rattle.std.proofs.lemmas.Bool.{cases_eq, eq-eqb, eqb-true, ne_eqb, false≢true}
use Rattle.std.proofs.lemmas.List.{length-set}
use Rattle.std.proofs.lemmas.Simd.{map-map}
use Rattle.std.proofs.lemmas.Option.{slice_get-get_or, get_or_from_slice_get, slice_get_within}
use Rattle.rr_table.specs.Maps.{map_values}
use Rattle.rr_table.specs.TableView.{TableEntry, table_entry}
use Rattle.rr_table.proofs.MapLaws.{map_values-insert, map_values-same, tally-at, get-remove_other}
use Rattle.rr_sender.specs.Senders.{Messages, queue_at}
use Rattle.rr_protocol.specs.Keys.{RequestKey, request_key, request_key_cmp}
use Rattle.rr_protocol.specs.Lists.{Lists, at}
use Rattle.rr_protocol.specs.Messages.{Handle, RequestMut, PendingResponse, RequestMessage}
use Rattle.rr_protocol.specs.Sends.{put, request_reach, with_request_put, with_sent_request, connections_of}
use Rattle.rr_protocol.proofs.KeyLaws.{request_keys_total, request_keys_exact}
use Rattle.rr_protocol.proofs.ListsLaws.{same_lists}
use Rattle.rr_store.specs.declared.handle_entry.HandleEntry.{HandleEntry}
use Rattle.rr_store.specs.declared.details.RequestDetails.{RequestDetails}
use Rattle.rr_store.specs.Parts.{Parts, ServerPart, Sender}
use Rattle.rr_store.specs.Views.{no_sender, sender_of, state_of, request_in_slot, request_at, handle_of, handle_in, requests_at, marked, waiting_at, server_of, request_lists, response_lists}
use Rattle.rr_store.specs.Sound.{IsSoundStore, IsShaped, empty_hand, is_of_request, has_request_at, request_uses, IsPorted}
use Rattle.rr_store.specs.Sending.{request_held, pending_held, with_request_sent}
use Rattle.rr_store.proofs.base.views.Agreeing.{same_handle, same_state}
use Rattle.rr_store.proofs.base.senders.Entries.{found_alone, found_none}
use Rattle.rr_store.proofs.base.lists.Found.{found_passes, found_somewhere}
use Rattle.rr_store.proofs.base.views.Keyed.{at_requests}
use Rattle.rr_sending.proofs.laws.put.Sender.{queue_here}
use Rattle.rr_store.proofs.sending.put.Queues.{map_put}
use Rattle.rr_store.proofs.base.lists.Skipped.{find_skip}
use Rattle.rr_sending.proofs.laws.request.Lists as lists
use Rattle.rr_sending.proofs.laws.request.Inserted as inserted
use Rattle.rr_sending.proofs.laws.request.Sound as sent
use Rattle.rr_sending.proofs.laws.request.MayAnswer.{places_apart, numbers_apart, waits_for_all, waits_as_before}
use Rattle.rr_store.proofs.base.senders.Connected.{servers_placed}
use Rattle.rr_store.proofs.base.views.Expired.{expired_alike, requests_alike}
use Rattle.rr_store.proofs.base.views.Left.{left_client_apart}

module _ {Q QH P PH K : Type 0} (p : Parts Q QH P PH K) (sound : IsSoundStore p empty_hand) (k sender slot connections : ℕ)
    (s : TableEntry HandleEntry)
    (at_s : fin_map.get p.table.entries k ≡ Some s) (is : s.value ≡ request_held sender slot) where
  abbrev m : Messages Q RequestDetails QH
  m = (sender_of sender p.client_senders).messages

  abbrev after : Parts Q QH P PH K
  after = with_request_sent p k sender slot connections s.place

  abbrev pub message : RequestMessage Q QH
  message = request_at p sender slot

  abbrev overflow : Bool
  overflow = p.limits.enable_safe_overflow_for_requests

  abbrev pub says : ℕ → RequestMessage Q QH
  says = request_in_slot p.spare_request_header m

  used : request_uses p sender slot ≡ 1
  used = inserted.used_once p sound k sender slot connections s at_s is

  abbrev fresh : Sender Q RequestDetails QH
  fresh = sent.fresh (inserted.taken p sound k sender slot connections s at_s is) sender slot connections
      (inserted.taken_sound p sound k sender slot connections s at_s is) used

  sender_there : sender < length p.client_senders
  sender_there = sent.there (inserted.taken p sound k sender slot connections s at_s is) sender slot connections
      (inserted.taken_sound p sound k sender slot connections s at_s is) used

  slot_there : slot < length m.held
  slot_there = sent.inside (inserted.taken p sound k sender slot connections s at_s is) sender slot connections
      (inserted.taken_sound p sound k sender slot connections s at_s is) used

  pub shaped : IsShaped p.limits.max_servers 1 p.limits.max_active_requests_per_client m
  shaped = sent.shaped (inserted.taken p sound k sender slot connections s at_s is) sender slot connections
      (inserted.taken_sound p sound k sender slot connections s at_s is) used

  -- the lists after it came, by the servers
  abbrev put_lists : Lists request_key_cmp (RequestMessage Q QH)
  put_lists = fold (lists.step overflow p.limits.max_active_requests_per_client message) (state_of p).requests
      (map (λ d. request_key message.client d.port.id) p.servers)

  -- the request is its client's
  pub its_owner : message.client ≡ (sender_of sender p.client_senders).owner
  its_owner = sound.addressed.requests sender slot (omega (arith, used))

  the_server : (i : ℕ) (d : ServerPart K) → slice_get p.servers i ≡ Some d → find (λ e. e.port.id == d.port.id) p.servers ≡ Some d
  the_server i d at_d =
      found_alone (λ (e : ServerPart K). e.port.id == d.port.id) p.servers i d at_d (eq-eqb d.port.id d.port.id refl)
      (λ j e at_e same. numbers_apart p empty_hand sound j i e d at_e at_d (eqb-true e.port.id d.port.id same))

  the_sender : find (λ l. l.owner == (sender_of sender p.client_senders).owner) p.client_senders ≡ Some (sender_of sender p.client_senders)
  the_sender =
      found_alone (λ (l : Sender Q RequestDetails QH). l.owner == (sender_of sender p.client_senders).owner) p.client_senders sender
      (sender_of sender p.client_senders) (slice_get-get_or p.client_senders sender no_sender sender_there)
      (eq-eqb (sender_of sender p.client_senders).owner (sender_of sender p.client_senders).owner refl)
      (λ j l e same. sound.client_ports.owned_once j sender (slice_get_within p.client_senders j l e) sender_there
      (ap (λ (l : Sender Q RequestDetails QH). l.owner) (get_or_from_slice_get p.client_senders j l no_sender e)
      ∙ eqb-true l.owner (sender_of sender p.client_senders).owner same))

  the_sender_now : find (λ l. l.owner == (sender_of sender p.client_senders).owner) after.client_senders ≡ Some fresh
  the_sender_now =
      let now = (inserted.sent_sound p sound k sender slot connections s at_s is).client_ports in
      let here : sender_of sender after.client_senders ≡ fresh = sent.here_is
      (inserted.taken p sound k sender slot connections s at_s is) sender slot connections
      (inserted.taken_sound p sound k sender slot connections s at_s is) used in
      let many : length after.client_senders ≡ length p.client_senders = length-set p.client_senders sender fresh in
      found_alone (λ (l : Sender Q RequestDetails QH). l.owner == (sender_of sender p.client_senders).owner) after.client_senders sender
      fresh
      (slice_get-get_or after.client_senders sender no_sender (omega (arith, sender_there, many)) ∙ ap Some here)
      (eq-eqb (sender_of sender p.client_senders).owner (sender_of sender p.client_senders).owner refl)
      (λ j l e same. now.owned_once j sender (slice_get_within after.client_senders j l e) (omega (arith, sender_there, many))
      (ap (λ (l : Sender Q RequestDetails QH). l.owner) (get_or_from_slice_get after.client_senders j l no_sender e)
      ∙ eqb-true l.owner (sender_of sender p.client_senders).owner same ∙ sym (ap (λ (l : Sender Q RequestDetails QH). l.owner) here)))

  -- what waits from the client for a server
  pub waits_for : (i : ℕ) (d : ServerPart K) → slice_get p.servers i ≡ Some d
      → at (state_of p).requests (request_key message.client d.port.id) ≡ map says (queue_at m d.receiver 0)
  waits_for i d at_d =
      ap (λ n. at (state_of p).requests (request_key n d.port.id)) its_owner
      ∙ at_requests p (request_key (sender_of sender p.client_senders).owner d.port.id)
      ∙ (rw (the_server i d at_d) (rw the_sender refl))

  -- and what waits after it
  waits_now : (i : ℕ) (d : ServerPart K) → slice_get p.servers i ≡ Some d
      → requests_at after (request_key (sender_of sender p.client_senders).owner d.port.id) ≡ put overflow
      p.limits.max_active_requests_per_client
      (at (state_of p).requests (request_key message.client d.port.id)) message
  waits_now i d at_d =
      (rw (the_server i d at_d) (rw the_sender_now refl))
      ∙ ap (map says) (queue_here m shaped
      (sent.capacity (inserted.taken p sound k sender slot connections s at_s is) sender
      slot connections (inserted.taken_sound p sound k sender slot connections s at_s is) used)
      overflow slot
      (sent.has_value (inserted.taken p sound k sender slot connections s at_s is) sender slot connections
      (inserted.taken_sound p sound k sender slot connections s at_s is) used)
      (λ (d : ServerPart K). d.receiver) p.servers (servers_placed p empty_hand sound) (places_apart p empty_hand sound) i d at_d)
      ∙ map_put overflow m.capacity slot says (queue_at m d.receiver 0)
      ∙ ap (λ n. put overflow n (map says (queue_at m d.receiver 0)) message) shaped.capacity_is
      ∙ ap (λ (xs : List (RequestMessage Q QH)). put overflow p.limits.max_active_requests_per_client xs message) (sym (waits_for i d at_d))

  -- what waits from another client is as it was
  waits_elsewhere : (key : RequestKey) → (sender_of sender p.client_senders).owner ≢ key.client → requests_at after key ≡ requests_at p key
  waits_elsewhere key n =
      let reads : ServerPart K → Sender Q RequestDetails QH → List (RequestMessage Q QH) = λ d l. map
      (request_in_slot p.spare_request_header l.messages) (queue_at l.messages d.receiver 0) in
      ap (λ (o : Option (Sender Q RequestDetails QH)). option_map_or (λ d. option_map_or (reads d) o [])
      (find (λ d. d.port.id == key.server) p.servers) [])
      (find_skip (λ (l : Sender Q RequestDetails QH). l.owner == key.client) p.client_senders sender fresh no_sender sender_there
      (ne_eqb (sender_of sender p.client_senders).owner key.client n) (ne_eqb (sender_of sender p.client_senders).owner key.client n))

  -- the client is no one that left
  expired : (state_of after).expired ≡ (state_of p).expired
  expired =
      let has = (subst (IsPorted p.clients p.servers) is (sound.have_ports.handles k s at_s)).request_loan refl in
      expired_alike _ _ (request_lists p) (request_lists after) (response_lists p) (response_lists p)
      (λ n i l at. requests_alike (request_lists p) (request_lists after) n l
      (λ key _ c. at_requests after key
      ∙ waits_elsewhere key (λ same. left_client_apart p empty_hand sound i l sender at has (same ∙ c))
      ∙ sym (at_requests p key)))
      (λ n i l at. refl)

  -- the lists that it came to, by the servers
  pub reach_is : request_reach (state_of p) message ≡ map (λ d. request_key message.client d.port.id) p.servers
  reach_is = map-map (λ d. request_key message.client d.id) server_of p.servers

  put_is : with_request_put (state_of p) message ≡ put_lists
  put_is = ap (fold (lists.step overflow p.limits.max_active_requests_per_client message) (state_of p).requests) reach_is

  -- at each key stands what the machine says
  each : (key : RequestKey) → requests_at after key ≡ at (with_request_put (state_of p) message) key
  each key = go (find (λ d. d.port.id == key.server) p.servers) refl ∙ sym (ap (λ ls. at ls key) put_is)
    where
      skips : ((i : ℕ) (d : ServerPart K) → slice_get p.servers i ≡ Some d → request_key message.client d.port.id ≢ key)
          → requests_at p key ≡ at put_lists key
      skips other = sym (lists.listed_there overflow p.limits.max_active_requests_per_client message message.client
          (λ (d : ServerPart K). d.port.id) p.servers (state_of p).requests key other ∙ at_requests p key)

      go : (o : Option (ServerPart K)) → find (λ d. d.port.id == key.server) p.servers ≡ o → requests_at after key ≡ at put_lists key
      go None e =
          let none : requests_at after key ≡ requests_at p key = rw e refl in
          none ∙ skips (λ i d at_d same. false≢true (sym (found_none (λ (d : ServerPart K). d.port.id == key.server) p.servers e i d at_d)
          ∙ eq-eqb d.port.id key.server (ap (λ (k : RequestKey). k.server) same)))
      go (Some d) e =
          let f = found_somewhere (λ (d : ServerPart K). d.port.id == key.server) p.servers d e in
          let id : d.port.id ≡ key.server = eqb-true d.port.id key.server
          (found_passes (λ (d : ServerPart K). d.port.id == key.server) p.servers d e) in
          ⊎_elim
          (λ owner. let is_key : request_key (sender_of sender p.client_senders).owner d.port.id ≡ key = ap (λ n. request_key n d.port.id)
          owner
          ∙ ap (request_key key.client) id in
          sym (ap (requests_at after) is_key)
          ∙ waits_now f.0 d f.1
          ∙ sym (lists.listed_here overflow p.limits.max_active_requests_per_client message message.client
          (λ (d : ServerPart K). d.port.id) p.servers (state_of p).requests (numbers_apart p empty_hand sound) f.0 d f.1)
          ∙ ap (λ n. at put_lists (request_key n d.port.id)) its_owner
          ∙ ap (at put_lists) is_key)
          (λ n. waits_elsewhere key n ∙ skips (λ i d at_d is_key. n (sym its_owner ∙ ap (λ (k : RequestKey). k.client) is_key)))
          (cases_eq (sender_of sender p.client_senders).owner key.client)

  requests : (state_of after).requests ≡ with_request_put (state_of p) message
  requests = same_lists request_keys_total request_keys_exact (state_of after).requests (with_request_put (state_of p) message)
      (λ key. at_requests after key ∙ each key)

  same_message : (l i : ℕ) → request_at after l i ≡ request_at p l i
  same_message l i = sent.same_of (inserted.taken p sound k sender slot connections s at_s is) sender slot connections
      (inserted.taken_sound p sound k sender slot connections s at_s is) used
      (λ x. request_in_slot p.spare_request_header x.messages i) refl l

  its_sender : sender_of sender after.client_senders ≡ fresh
  its_sender = sent.here_is (inserted.taken p sound k sender slot connections s at_s is) sender slot connections
      (inserted.taken_sound p sound k sender slot connections s at_s is) used

  -- another request waits for those for which it did
  marks_elsewhere : (l i : ℕ) → (sender ≡ l → slot ≡ i → ⊥) → waiting_at after l i ≡ waiting_at p l i
  marks_elsewhere l i other =
      ⊎_elim
      (λ e. ap (λ l. waiting_at after l i) (sym e)
      ∙ ap (λ (x : Sender Q RequestDetails QH). marked p.limits.max_servers p.servers x.may_answer i) its_sender
      ∙ waits_as_before p empty_hand sound sender slot sender_there slot_there i (other e)
      ∙ ap (λ l. waiting_at p l i) e)
      (λ n. ap (λ (x : Sender Q RequestDetails QH). marked p.limits.max_servers p.servers x.may_answer i)
      (sent.there_is (inserted.taken p sound k sender slot connections s at_s is) sender slot connections
      (inserted.taken_sound p sound k sender slot connections s at_s is) used l n))
      (cases_eq sender l)

  -- the other handles show what they did
  handles_same : (j : ℕ) (t : TableEntry HandleEntry) → fin_map.get p.table.entries j ≡ Some t → handle_of after t ≡ handle_of p t
  handles_same j t e = ⊎_elim (λ same. its_own same) (λ n. another n) (cases_eq j k)
    where
      its_own : j ≡ k → handle_of after t ≡ handle_of p t
      its_own same =
          let f : Some t ≡ Some s = sym e ∙ ap (fin_map.get p.table.entries) same ∙ at_s in
          let one : t ≡ s = cc in
          let R : HandleEntry → Type 0 = λ v. handle_in after v.stage v.sender v.slot ≡ handle_in p v.stage v.sender v.slot in
          subst R (sym (ap (λ (t : TableEntry HandleEntry). t.value) one ∙ is)) (ap RequestMut (same_message sender slot))

      another : j ≢ k → handle_of after t ≡ handle_of p t
      another n =
          same_handle after p t.value.stage t.value.sender t.value.slot
          (λ of_request. (
            same_message t.value.sender t.value.slot,
            marks_elsewhere t.value.sender t.value.slot (λ f g. elsewhere n of_request f g),
          ))
          (λ _. refl)
        where
          elsewhere : j ≢ k → is_of_request t.value.stage ≡ true → sender ≡ t.value.sender → slot ≡ t.value.slot → ⊥
          elsewhere n of_request f g =
              let here : has_request_at sender slot t ≡ true = rw of_request
              (rw (eq-eqb t.value.sender sender (sym f)) (eq-eqb t.value.slot slot (sym g))) in
              absurd (omega (
                arith,
                tally-at (has_request_at sender slot)
                    (inserted.taken p sound k sender slot connections s at_s is).table.entries
                    j t (get-remove_other p.table.entries k j n ∙ e) here,
                sent.no_other (inserted.taken p sound k sender slot connections s at_s is) sender slot connections
                    (inserted.taken_sound p sound k sender slot connections s at_s is) used,
              ))

  abbrev shown : Handle Q QH P PH
  shown = PendingResponse (record {
    message = message;
    hint = false;
    connections = connections;
    servers = map (λ d. d.id) (map server_of p.servers);
  })

  its_handle : handle_of after (table_entry s.place (pending_held sender slot connections)) ≡ shown
  its_handle =
      ap (λ r. PendingResponse (record { message = r; hint = false; connections = connections; servers = waiting_at after sender slot }))
      (same_message sender slot)
      ∙ ap (λ ns. PendingResponse (record { message = message; hint = false; connections = connections; servers = ns }))
      (ap (λ (x : Sender Q RequestDetails QH). marked p.limits.max_servers p.servers x.may_answer slot) its_sender
      ∙ waits_for_all p empty_hand sound sender slot sender_there slot_there
      ∙ sym (map-map (λ d. d.id) server_of p.servers))

  handles : (state_of after).handles ≡ fin_map.insert (state_of p).handles k shown
  handles =
      map_values-insert (handle_of after) p.table.entries k (table_entry s.place (pending_held sender slot connections))
      ∙ ap (λ (x : Handle Q QH P PH). fin_map.insert (map_values (handle_of after) p.table.entries) k x) its_handle
      ∙ ap (λ (hs : fin_map.FinMap nat_cmp (Handle Q QH P PH)). fin_map.insert hs k shown)
      (map_values-same (handle_of after) (handle_of p) p.table.entries handles_same)

  -- a request was sent
  pub sent_view : connections ≡ connections_of (state_of p) message → state_of after ≡ with_sent_request (state_of p) k message
  sent_view counted =
      same_state (state_of after) (with_sent_request (state_of p) k message) refl refl refl refl
      (handles ∙ ap (λ n. fin_map.insert (state_of p).handles k
      (PendingResponse (record {
        message = message;
        hint = false;
        connections = n;
        servers = map (λ d. d.id) (map server_of p.servers);
      }))) counted)
      requests refl expired refl
