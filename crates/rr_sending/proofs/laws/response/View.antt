-- What contracts see of a core after a response was put into a queue to its client.
use Rattle.std.proofs.Common.{◌≡◌, ◌<◌, ℕ, Bool, true, false, cond, List, [], ◌∷◌, Option, None, Some, length, map, refl, sym, ap, ◌∙◌, ⊎_elim, arith}
use Rattle.std.specs.Prelude.{◌==◌, slice_get, slice_index, find}
use Rattle.std.specs.Option.{option_map_or}
use Rattle.std.specs.declared.cmp.Ordering.{Ordering}
use Rattle.std.specs.declared.cmp.Ordering.TheVariants.{Less, Equal, Greater}
use Rattle.std.specs.Ordering.{eq_by_cmp, is_eq}
use Rattle.std.proofs.lemmas.Bool.{cases_eq, eq-eqb, eqb-true, ne_eqb, false≢true}
use Rattle.std.proofs.lemmas.List.{length-set}
use Rattle.std.proofs.lemmas.Cmp.{eq_by_cmp_equiv}
use Rattle.std.proofs.lemmas.Option.{slice_get-get_or, get_or_from_slice_get, slice_get_within}
use Rattle.rr_table.proofs.MapLaws.{map_values-same}
use Rattle.rr_sender.specs.Senders.{Messages, queue_at, put, with_queue}
use Rattle.rr_protocol.specs.Keys.{ResponseKey, response_key_cmp}
use Rattle.rr_protocol.specs.Lists.{at, with_at}
use Rattle.rr_protocol.specs.Limits.{worst_case_requests}
use Rattle.rr_protocol.specs.Messages.{ResponseMessage}
use Rattle.rr_protocol.specs.Sends as sends
use Rattle.rr_protocol.proofs.KeyLaws.{response_keys_total, response_keys_exact}
use Rattle.rr_protocol.proofs.ListsLaws.{at-with_at, same_lists}
use Rattle.rr_store.specs.declared.handle_entry.HandleEntry.{HandleEntry}
use Rattle.rr_store.specs.declared.details.ResponseDetails.{ResponseDetails}
use Rattle.rr_store.specs.Parts.{Parts, ClientPart, Sender}
use Rattle.rr_store.specs.Views.{no_sender, sender_of, state_of, response_in_slot, response_at, handle_of, responses_at, request_lists, response_lists}
use Rattle.rr_store.specs.Sound.{IsSoundStore, IsShaped, is_of_response, response_uses, response_details, HasPort}
use Rattle.rr_store.specs.Delivering.{with_delivered}
use Rattle.rr_store.specs.Loaning.{with_messages}
use Rattle.rr_store.proofs.base.views.Agreeing.{same_handle, same_state}
use Rattle.rr_sending.proofs.laws.response.Sound.{shaped, placed, within, here_is, same_of, delivered_sound}
use Rattle.rr_store.proofs.base.senders.Entries.{found_alone}
use Rattle.rr_store.proofs.base.lists.Found.{found_passes, found_somewhere}
use Rattle.rr_store.proofs.base.views.Counts.{listed}
use Rattle.rr_store.proofs.base.views.Keyed.{at_responses}
use Rattle.rr_store.proofs.base.lists.Replaced.{find_read}
use Rattle.rr_sending.proofs.laws.put.One.{queue_here, queue_there}
use Rattle.rr_store.proofs.sending.put.Queues.{map_put}
use Rattle.rr_sending.proofs.laws.response.Queued.{client_alone, queued}
use Rattle.rr_store.proofs.base.lists.Skipped.{find_skip}
use Rattle.rr_store.proofs.base.views.Expired.{expired_alike, responses_alike}
use Rattle.rr_store.proofs.base.views.Left.{left_server_apart}

module _ {Q QH P PH K : Type 0} (p : Parts Q QH P PH K) (entry : HandleEntry)
    (sound : IsSoundStore p (entry ∷ [])) (is_response : is_of_response entry.stage ≡ true) (there : entry.sender < length p.server_senders)
    (some : 0 < slice_index (sender_of entry.sender p.server_senders).messages.held entry.slot)
    (once : response_uses p entry.sender entry.slot ≡ 1)
    (index : ℕ) (c : ClientPart K) (at_c : slice_get p.clients index ≡ Some c) (channel : ℕ)
    (inside : channel < worst_case_requests p.limits) (capacity : 0 < (sender_of entry.sender p.server_senders).messages.capacity)
    (client : (response_details p entry.sender entry.slot).client ≡ c.port.id)
    (on_channel : (response_details p entry.sender entry.slot).channel ≡ channel) where
  abbrev m : Messages P ResponseDetails PH
  m = (sender_of entry.sender p.server_senders).messages

  abbrev overflow : Bool
  overflow = p.limits.enable_safe_overflow_for_responses

  abbrev fresh : Sender P ResponseDetails PH
  fresh = with_messages (sender_of entry.sender p.server_senders) (with_queue m c.receiver channel
      (put overflow m.capacity (queue_at m c.receiver channel) entry.slot))

  abbrev after : Parts Q QH P PH K
  after = with_delivered p entry.sender channel entry.slot (Some c.receiver)

  shapes : IsShaped p.limits.max_clients (worst_case_requests p.limits) p.limits.max_response_buffer_size m
  shapes = shaped p entry sound is_response there some once index c at_c channel inside capacity client on_channel

  at_place : c.receiver < p.limits.max_clients
  at_place = placed p entry sound is_response there some once index c at_c channel inside capacity client on_channel

  in_sender : entry.slot < length m.held
  in_sender = within p entry sound is_response there some once index c at_c channel inside capacity client on_channel

  here : sender_of entry.sender after.server_senders ≡ fresh
  here = here_is p entry sound is_response there some once index c at_c channel inside capacity client on_channel

  -- the list that the response came to
  abbrev pub key : ResponseKey
  key = record { server = (sender_of entry.sender p.server_senders).owner; client = c.port.id; channel = channel }

  abbrev pub entries : List (ResponseMessage P PH)
  entries = sends.put overflow p.limits.max_response_buffer_size (at (state_of p).responses key) (response_at p entry.sender entry.slot)

  the_client : find (λ d. d.port.id == c.port.id) p.clients ≡ Some c
  the_client = client_alone p (entry ∷ []) sound index c at_c

  -- the sender after it
  the_sender_now : find (λ l. l.owner == key.server) after.server_senders ≡ Some fresh
  the_sender_now =
      let now = (delivered_sound p entry sound is_response there some once index c at_c channel inside capacity client
      on_channel).server_ports in
      let many : length after.server_senders ≡ length p.server_senders = length-set p.server_senders entry.sender fresh in
      found_alone (λ (l : Sender P ResponseDetails PH). l.owner == key.server) after.server_senders entry.sender fresh
      (slice_get-get_or after.server_senders entry.sender no_sender (omega (arith, there, many)) ∙ ap Some here)
      (eq-eqb key.server key.server refl)
      (λ k l e same. now.owned_once k entry.sender (slice_get_within after.server_senders k l e) (omega (arith, there, many))
      (ap (λ (l : Sender P ResponseDetails PH). l.owner) (get_or_from_slice_get after.server_senders k l no_sender e)
      ∙ eqb-true l.owner key.server same ∙ sym (ap (λ (l : Sender P ResponseDetails PH). l.owner) here)))

  -- what waits there now
  waits_here : responses_at after key ≡ entries
  waits_here =
      rw the_client (rw the_sender_now refl)
      ∙ ap (map (response_in_slot p.spare_response_header m))
      (queue_here m shapes capacity overflow c.receiver channel entry.slot at_place inside in_sender)
      ∙ map_put overflow m.capacity entry.slot (response_in_slot p.spare_response_header m) (queue_at m c.receiver channel)
      ∙ ap (λ (xs : List (ResponseMessage P PH)). sends.put overflow m.capacity xs (response_at p entry.sender entry.slot))
      (sym (queued p (entry ∷ []) sound entry.sender there index c at_c channel))
      ∙ ap (λ n. sends.put overflow n (at (state_of p).responses key) (response_at p entry.sender entry.slot)) shapes.capacity_is

  -- elsewhere nothing changed
  waits_there : (k : ResponseKey) → (k ≡ key → ⊥) → responses_at after k ≡ responses_at p k
  waits_there k other = go (find (λ d. d.port.id == k.client) p.clients) refl
    where
      reads : ClientPart K → Sender P ResponseDetails PH → List (ResponseMessage P PH)
      reads d l = map (response_in_slot p.spare_response_header l.messages) (queue_at l.messages d.receiver k.channel)

      elsewhere : (d : ClientPart K) → (d.receiver ≡ c.receiver → k.channel ≡ channel → ⊥)
          → reads d fresh ≡ reads d (sender_of entry.sender p.server_senders)
      elsewhere d n = ap (map (response_in_slot p.spare_response_header m))
          (queue_there m shapes capacity overflow c.receiver channel entry.slot at_place inside in_sender d.receiver k.channel n)

      -- another client has another receiver
      not_it : (d : ClientPart K) → find (λ d. d.port.id == k.client) p.clients ≡ Some d
          → (sender_of entry.sender p.server_senders).owner ≡ k.server → d.receiver ≡ c.receiver → k.channel ≡ channel → ⊥
      not_it d e owner same ch =
          let j = found_somewhere (λ (d : ClientPart K). d.port.id == k.client) p.clients d e in
          let one = sound.client_ports.receivers_once j.0 index d.connected c.connected
          (listed (λ (c : ClientPart K). c.connected) p.clients j.0 d j.1)
          (listed (λ (c : ClientPart K). c.connected) p.clients index c at_c) same in
          let f : Some d ≡ Some c = sym j.1 ∙ ap (slice_get p.clients) one ∙ at_c in
          let is : d ≡ c = cc in
          let id : k.client ≡ c.port.id = sym (eqb-true d.port.id k.client
          (found_passes (λ (d : ClientPart K). d.port.id == k.client) p.clients d e)) ∙ ap (λ (d : ClientPart K). d.port.id) is in
          other (ap (λ s. record { server = s; client = k.client; channel = k.channel }) (sym owner)
          ∙ ap (λ n. record { server = key.server; client = n; channel = k.channel }) id
          ∙ ap (λ h. record { server = key.server; client = c.port.id; channel = h }) ch)

      with_client : (d : ClientPart K) → find (λ d. d.port.id == k.client) p.clients ≡ Some d
          → option_map_or (reads d) (find (λ l. l.owner == k.server) after.server_senders) [] ≡ option_map_or (reads d)
          (find (λ l. l.owner == k.server) p.server_senders) []
      with_client d e =
          ⊎_elim
          (λ owner. find_read (λ (l : Sender P ResponseDetails PH). l.owner == k.server) (reads d) [] p.server_senders entry.sender fresh
          no_sender refl
          (elsewhere d (not_it d e owner)))
          (λ n. ap (λ (o : Option (Sender P ResponseDetails PH)). option_map_or (reads d) o [])
          (find_skip (λ (l : Sender P ResponseDetails PH). l.owner == k.server) p.server_senders entry.sender fresh no_sender there
          (ne_eqb key.server k.server n) (ne_eqb key.server k.server n)))
          (cases_eq (sender_of entry.sender p.server_senders).owner k.server)

      go : (o : Option (ClientPart K)) → find (λ d. d.port.id == k.client) p.clients ≡ o
          → option_map_or (λ d. option_map_or (reads d) (find (λ l. l.owner == k.server) after.server_senders) []) o [] ≡ option_map_or
          (λ d. option_map_or (reads d) (find (λ l. l.owner == k.server) p.server_senders) []) o []
      go None e = refl
      go (Some d) e = with_client d e

  responses : (state_of after).responses ≡ with_at (state_of p).responses key entries
  responses =
      same_lists response_keys_total response_keys_exact (state_of after).responses (with_at (state_of p).responses key entries)
      (λ k. at_responses after k ∙ each k (eq_by_cmp response_key_cmp k key) refl
      ∙ sym (at-with_at response_keys_total (state_of p).responses key entries k))
    where
      each : (k : ResponseKey) (b : Bool) → eq_by_cmp response_key_cmp k key ≡ b
          → responses_at after k ≡ cond b entries (at (state_of p).responses k)
      each k true e = ap (responses_at after) (same_key k e) ∙ waits_here
        where
          tied : (o : Ordering) → is_eq o ≡ true → o ≡ Equal
          tied Equal h = refl
          tied Less h = absurd (false≢true h)
          tied Greater h = absurd (false≢true h)

          same_key : (k : ResponseKey) → eq_by_cmp response_key_cmp k key ≡ true → k ≡ key
          same_key k e = response_keys_exact k key (tied (response_key_cmp k key) e)
      each k false e =
          waits_there k (λ is. false≢true (sym e ∙ ap (λ k. eq_by_cmp response_key_cmp k key) is
          ∙ (eq_by_cmp_equiv response_keys_total).refl key))
          ∙ sym (at_responses p k)

  -- the list has the response, and nothing else changed
  pub delivered_view : HasPort (λ s. s.sender) p.servers entry.sender
      → state_of after ≡ record (state_of p) { responses = with_at (state_of p).responses key entries }
  delivered_view has =
      same_state (state_of after) _ refl refl refl refl
      (map_values-same (handle_of after) (handle_of p) p.table.entries
      (λ k s e. same_handle after p s.value.stage s.value.sender s.value.slot (λ _. (refl, refl)) (λ _. says s.value.sender s.value.slot)))
      refl responses expired refl
    where
      says : (k j : ℕ) → response_at after k j ≡ response_at p k j
      says k j = same_of p entry sound is_response there some once index c at_c channel inside capacity client on_channel
          (λ x. response_in_slot p.spare_response_header x.messages j) refl k

      -- the server is no one that left
      expired : (state_of after).expired ≡ (state_of p).expired
      expired =
          expired_alike _ _ (request_lists p) (request_lists p) (response_lists p) (response_lists after)
          (λ n i l at. refl)
          (λ n i l at. responses_alike (response_lists p) (response_lists after) n l
          (λ k s _. at_responses after k
          ∙ waits_there k (λ is. left_server_apart p (entry ∷ []) sound i l entry.sender at has
          (sym (ap (λ (k : ResponseKey). k.server) is) ∙ s))
          ∙ sym (at_responses p k)))
