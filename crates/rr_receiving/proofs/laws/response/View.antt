-- What contracts see of a core after a response was received.
use Rattle.std.proofs.Common.{◌≡◌, ◌<◌, ℕ, Bool, true, false, cond, List, [], ◌∷◌, Option, None, Some, length, map, refl, sym, ap, ◌∙◌, ⊎_elim, arith}
use Rattle.std.specs.Prelude.{◌==◌, slice_get, drop, find}
use Rattle.std.specs.Option.{option_map_or}
use Rattle.std.specs.declared.cmp.Ordering.{Ordering}
use Rattle.std.specs.declared.cmp.Ordering.TheVariants.{Less, Equal, Greater}
use Rattle.std.specs.Ordering.{nat_cmp, eq_by_cmp, is_eq}
use Rattle.std.specs.FinMap as fin_map
use Rattle.std.proofs.lemmas.Bool.{cases_eq, eq-eqb, eqb-true, ne_eqb, false≢true}
use Rattle.std.proofs.lemmas.List.{length-set}
use Rattle.std.proofs.lemmas.Cmp.{eq_by_cmp_equiv}
use Rattle.std.proofs.lemmas.Option.{slice_get-get_or, get_or_from_slice_get, slice_get_within}
use Rattle.rr_table.specs.TableView.{table_entry}
use Rattle.rr_table.specs.Maps.{map_values}
use Rattle.rr_table.proofs.MapLaws.{map_values-insert, map_values-same}
use Rattle.rr_sender.specs.Senders.{Messages, queue_at, taken}
use Rattle.rr_protocol.specs.Keys.{ResponseKey, response_key_cmp}
use Rattle.rr_protocol.specs.Lists.{at, with_at}
use Rattle.rr_protocol.specs.Limits.{worst_case_requests}
use Rattle.rr_protocol.specs.Messages.{Handle, Response, ResponseMessage}
use Rattle.rr_protocol.specs.Releases.{without_empty_servers}
use Rattle.rr_protocol.proofs.KeyLaws.{response_keys_total, response_keys_exact}
use Rattle.rr_protocol.proofs.ListsLaws.{at-with_at, same_lists}
use Rattle.rr_store.specs.declared.details.ResponseDetails.{ResponseDetails}
use Rattle.rr_store.specs.Parts.{Parts, ClientPart, Sender}
use Rattle.rr_store.specs.Views.{no_sender, sender_of, state_of, response_in_slot, response_at, handle_of, responses_at, request_lists, response_lists}
use Rattle.rr_store.specs.Sound.{IsSoundStore, empty_hand, response_details, response_place}
use Rattle.rr_store.specs.Loaning.{with_messages}
use Rattle.rr_store.specs.Receiving.{queue_from, received_held, with_received_response}
use Rattle.rr_store.proofs.base.views.Agreeing.{same_handle, same_state, same_expired}
use Rattle.rr_store.proofs.base.senders.Entries.{found_alone}
use Rattle.rr_store.proofs.base.lists.Found.{found_passes, found_somewhere}
use Rattle.rr_store.proofs.base.views.Counts.{listed}
use Rattle.rr_store.proofs.base.views.Keyed.{at_responses}
use Rattle.rr_store.proofs.base.lists.Replaced.{find_read}
use Rattle.rr_receiving.proofs.laws.response.Sound.{shaped, placed, here_is, same_of, in_hand}
use Rattle.rr_receiving.proofs.laws.TakenSender.{queue_here, queue_there}
use Rattle.rr_store.proofs.base.senders.Numbered.{numbered_once}
use Rattle.rr_store.proofs.base.views.Expired.{response_gone}
use Rattle.rr_store.proofs.base.views.Left.{no_requests_to}
use Rattle.rr_store.proofs.base.lists.Skipped.{find_skip}

-- a list is its first element and the rest
pub first_and_rest : (xs : List ℕ) (x : ℕ) → slice_get xs 0 ≡ Some x → xs ≡ x ∷ drop 1 xs
first_and_rest [] x e = absurd (let f : None ≡ Some x = e in cc)
first_and_rest (y ∷ xs) x e = let f : Some y ≡ Some x = e in let is : y ≡ x = cc in ap (λ z. z ∷ xs) is

module _ {Q QH P PH K : Type 0} (p : Parts Q QH P PH K) (sound : IsSoundStore p empty_hand) (sender : ℕ)
    (there : sender < length p.server_senders)
    (index : ℕ) (c : ClientPart K) (at_c : slice_get p.clients index ≡ Some c)
    (channel slot : ℕ) (inside : channel < worst_case_requests p.limits)
    (first : slice_get (queue_from p.server_senders c.receiver channel sender) 0 ≡ Some slot) where
  abbrev m : Messages P ResponseDetails PH
  m = (sender_of sender p.server_senders).messages

  abbrev fresh : Sender P ResponseDetails PH
  fresh = with_messages (sender_of sender p.server_senders) (taken m c.receiver channel slot (drop 1 (queue_at m c.receiver channel)))

  abbrev after : Parts Q QH P PH K
  after = with_received_response p sender c.receiver channel slot

  -- the list from which was taken
  abbrev pub key : ResponseKey
  key = record { server = (sender_of sender p.server_senders).owner; client = c.port.id; channel = channel }

  abbrev pub rest : List (ResponseMessage P PH)
  rest = map (response_in_slot p.spare_response_header m) (drop 1 (queue_at m c.receiver channel))

  the_client : find (λ d. d.port.id == c.port.id) p.clients ≡ Some c
  the_client =
      found_alone (λ (d : ClientPart K). d.port.id == c.port.id) p.clients index c at_c (eq-eqb c.port.id c.port.id refl)
      (λ k d e same. numbered_once sound.client_ports k index d.connected c.connected
      (listed (λ (c : ClientPart K). c.connected) p.clients k d e) (listed (λ (c : ClientPart K). c.connected) p.clients index c at_c)
      (eqb-true d.port.id c.port.id same))

  the_sender : find (λ l. l.owner == key.server) p.server_senders ≡ Some (sender_of sender p.server_senders)
  the_sender =
      found_alone (λ (l : Sender P ResponseDetails PH). l.owner == key.server) p.server_senders sender (sender_of sender p.server_senders)
      (slice_get-get_or p.server_senders sender no_sender there) (eq-eqb key.server key.server refl)
      (λ k l e same. sound.server_ports.owned_once k sender (slice_get_within p.server_senders k l e) there
      (ap (λ (l : Sender P ResponseDetails PH). l.owner) (get_or_from_slice_get p.server_senders k l no_sender e)
      ∙ eqb-true l.owner key.server same))

  -- what waited there
  pub queued : at (state_of p).responses key ≡ response_at p sender slot ∷ rest
  queued =
      at_responses p key
      ∙ (rw the_client (rw the_sender refl))
      ∙ ap (map (response_in_slot p.spare_response_header m)) (first_and_rest (queue_at m c.receiver channel) slot first)

  -- the sender after it
  the_sender_now : find (λ l. l.owner == key.server) after.server_senders ≡ Some fresh
  the_sender_now =
      let now = (in_hand p sound sender there index c at_c channel slot inside first).server_ports in
      let here = here_is p sound sender there index c at_c channel slot inside first in
      let many : length after.server_senders ≡ length p.server_senders = length-set p.server_senders sender fresh in
      found_alone (λ (l : Sender P ResponseDetails PH). l.owner == key.server) after.server_senders sender fresh
      (slice_get-get_or after.server_senders sender no_sender (omega (arith, there, many)) ∙ ap Some here)
      (eq-eqb key.server key.server refl)
      (λ k l e same. now.owned_once k sender (slice_get_within after.server_senders k l e) (omega (arith, there, many))
      (ap (λ (l : Sender P ResponseDetails PH). l.owner) (get_or_from_slice_get after.server_senders k l no_sender e)
      ∙ eqb-true l.owner key.server same ∙ sym (ap (λ (l : Sender P ResponseDetails PH). l.owner) here)))

  -- what waits there now
  waits_here : responses_at after key ≡ rest
  waits_here =
      rw the_client (rw the_sender_now refl)
      ∙ ap (map (response_in_slot p.spare_response_header m))
      (queue_here m (shaped p sound sender there index c at_c channel slot inside first) c.receiver channel slot
      (placed p sound sender there index c at_c channel slot inside first) inside first)

  -- elsewhere nothing changed
  waits_there : (k : ResponseKey) → (k ≡ key → ⊥) → responses_at after k ≡ responses_at p k
  waits_there k other = go (find (λ d. d.port.id == k.client) p.clients) refl
    where
      reads : ClientPart K → Sender P ResponseDetails PH → List (ResponseMessage P PH)
      reads d l = map (response_in_slot p.spare_response_header l.messages) (queue_at l.messages d.receiver k.channel)

      elsewhere : (d : ClientPart K) → (d.receiver ≡ c.receiver → k.channel ≡ channel → ⊥) → reads d fresh ≡ reads d
          (sender_of sender p.server_senders)
      elsewhere d n =
          ap (map (response_in_slot p.spare_response_header m))
          (queue_there m (shaped p sound sender there index c at_c channel slot inside first) c.receiver channel slot
          (placed p sound sender there index c at_c channel slot inside first) inside first d.receiver k.channel n)

      -- another client has another receiver
      not_it : (d : ClientPart K) → find (λ d. d.port.id == k.client) p.clients ≡ Some d → (sender_of sender p.server_senders).owner
          ≡ k.server
          → d.receiver ≡ c.receiver → k.channel ≡ channel → ⊥
      not_it d e owner same ch =
          let j = found_somewhere (λ (d : ClientPart K). d.port.id == k.client) p.clients d e in
          let one = sound.client_ports.receivers_once j.0 index d.connected c.connected
          (listed (λ (c : ClientPart K). c.connected) p.clients j.0 d j.1)
          (listed (λ (c : ClientPart K). c.connected) p.clients index c at_c) same in
          let f : Some d ≡ Some c = sym j.1 ∙ ap (slice_get p.clients) one ∙ at_c in
          let is : d ≡ c = cc in
          let id : k.client ≡ c.port.id = sym (eqb-true d.port.id k.client
          (found_passes (λ (d : ClientPart K). d.port.id == k.client) p.clients d e)) ∙ ap (λ (d : ClientPart K). d.port.id) is in
          other (ap (λ s. record { server = s; client = k.client; channel = k.channel }) (sym owner)
          ∙ ap (λ n. record { server = key.server; client = n; channel = k.channel }) id
          ∙ ap (λ h. record { server = key.server; client = c.port.id; channel = h }) ch)

      with_client : (d : ClientPart K) → find (λ d. d.port.id == k.client) p.clients ≡ Some d
          → option_map_or (reads d) (find (λ l. l.owner == k.server) after.server_senders) [] ≡ option_map_or (reads d)
          (find (λ l. l.owner == k.server) p.server_senders) []
      with_client d e =
          ⊎_elim
          (λ owner. find_read (λ (l : Sender P ResponseDetails PH). l.owner == k.server) (reads d) [] p.server_senders sender fresh
          no_sender refl
          (elsewhere d (not_it d e owner)))
          (λ n. ap (λ (o : Option (Sender P ResponseDetails PH)). option_map_or (reads d) o [])
          (find_skip (λ (l : Sender P ResponseDetails PH). l.owner == k.server) p.server_senders sender fresh no_sender there
          (ne_eqb key.server k.server n) (ne_eqb key.server k.server n)))
          (cases_eq (sender_of sender p.server_senders).owner k.server)

      go : (o : Option (ClientPart K)) → find (λ d. d.port.id == k.client) p.clients ≡ o
          → option_map_or (λ d. option_map_or (reads d) (find (λ l. l.owner == k.server) after.server_senders) []) o [] ≡ option_map_or
          (λ d. option_map_or (reads d) (find (λ l. l.owner == k.server) p.server_senders) []) o []
      go None e = refl
      go (Some d) e = with_client d e

  responses : (state_of after).responses ≡ with_at (state_of p).responses key rest
  responses =
      same_lists response_keys_total response_keys_exact (state_of after).responses (with_at (state_of p).responses key rest)
      (λ k. at_responses after k ∙ each k (eq_by_cmp response_key_cmp k key) refl
      ∙ sym (at-with_at response_keys_total (state_of p).responses key rest k))
    where
      each : (k : ResponseKey) (b : Bool) → eq_by_cmp response_key_cmp k key ≡ b
          → responses_at after k ≡ cond b rest (at (state_of p).responses k)
      each k true e = ap (responses_at after) (same_key k e) ∙ waits_here
        where
          tied : (o : Ordering) → is_eq o ≡ true → o ≡ Equal
          tied Equal h = refl
          tied Less h = absurd (false≢true h)
          tied Greater h = absurd (false≢true h)

          same_key : (k : ResponseKey) → eq_by_cmp response_key_cmp k key ≡ true → k ≡ key
          same_key k e = response_keys_exact k key (tied (response_key_cmp k key) e)
      each k false e =
          waits_there k (λ is. false≢true (sym e ∙ ap (λ k. eq_by_cmp response_key_cmp k key) is
          ∙ (eq_by_cmp_equiv response_keys_total).refl key))
          ∙ sym (at_responses p k)

  -- the handles show what they did
  handles : (state_of after).handles ≡ fin_map.insert (state_of p).handles (response_details p sender slot).number
      (Response (response_at p sender slot))
  handles =
      map_values-insert (handle_of after) p.table.entries (response_details p sender slot).number
      (table_entry (response_place p sender slot) (received_held p sender slot))
      ∙ ap (λ (x : Handle Q QH P PH). fin_map.insert (map_values (handle_of after) p.table.entries) (response_details p sender slot).number
      x)
      (ap Response (says sender slot))
      ∙ ap (λ (hs : fin_map.FinMap nat_cmp (Handle Q QH P PH)). fin_map.insert hs (response_details p sender slot).number
      (Response (response_at p sender slot)))
      (map_values-same (handle_of after) (handle_of p) p.table.entries
      (λ k s e. same_handle after p s.value.stage s.value.sender s.value.slot (λ _. (refl, refl)) (λ _. says s.value.sender s.value.slot)))
    where
      says : (k j : ℕ) → response_at after k j ≡ response_at p k j
      says k j = same_of p sound sender there index c at_c channel slot inside first
          (λ x. response_in_slot p.spare_response_header x.messages j) refl k

  -- a response was received
  pub received_view : state_of after ≡ record (without_empty_servers (record (state_of p)
      { responses = with_at (state_of p).responses key rest }) c.port.id)
      { handles = fin_map.insert (state_of p).handles (response_details p sender slot).number (Response (response_at p sender slot)) }
  received_view =
      same_state (state_of after) _ refl refl refl refl handles refl responses
      (same_expired _ _ refl responses
      ∙ response_gone _ _ (request_lists p) (response_lists p) key (response_at p sender slot) rest queued
      (no_requests_to p empty_hand sound index c at_c)) refl
