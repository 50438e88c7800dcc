-- What a pending response may be answered when it receives.
use Rattle.std.proofs.Common.{◌≡◌, ◌≢◌, ◌<◌, ◌≤◌, ℕ, Bool, true, false, List, [], ◌∷◌, Option, None, Some, Err, length, map, nat_lt, option_and_then, refl, sym, ap, ◌∙◌, subst, ⊎_elim, arith}
use Rattle.std.specs.Prelude.{◌==◌, ◌&&◌, IsSomeAnd, IsTrue, IsFalse, slice_get, find, count_by}
use Rattle.std.specs.Option.{option_map_or}
use Rattle.std.specs.FinMap as fin_map
use Rattle.std.proofs.lemmas.Bool.{cases_eq, eq-eqb, eqb-true, ne_eqb, lt-ltb, ltb-true, le-ltb}
use Rattle.std.proofs.lemmas.Option.{slice_get-get_or, get_or_from_slice_get, slice_get_within}
use Rattle.rr_table.specs.TableView.{TableEntry, value_at}
use Rattle.rr_protocol.specs.declared.kind.Kind.TheVariants as kind
use Rattle.rr_sender.specs.Senders.{queue_at}
use Rattle.rr_protocol.specs.declared.error.ReceiveError.{ReceiveError}
use Rattle.rr_protocol.specs.Keys.{ResponseKey}
use Rattle.rr_protocol.specs.Lists.{at, with_at}
use Rattle.rr_protocol.specs.Limits.{worst_case_requests}
use Rattle.rr_protocol.specs.Messages.{Pending, Response, ResponseMessage, response_key, as_pending}
use Rattle.rr_protocol.specs.State.{State, all_handles, pending_at}
use Rattle.rr_protocol.specs.Counts.{is_borrowed_response, has_response_room}
use Rattle.rr_protocol.specs.Receives.{TakesResponse, ReceivesResponse}
use Rattle.rr_protocol.specs.Releases.{without_empty_servers}
use Rattle.rr_store.specs.declared.handle_entry.HandleEntry.{HandleEntry}
use Rattle.rr_store.specs.declared.handle_entry.Stage.{Stage}
use Rattle.rr_store.specs.declared.handle_entry.Stage.TheVariants as stage
use Rattle.rr_store.specs.declared.details.ResponseDetails.{ResponseDetails}
use Rattle.rr_store.specs.Parts.{Parts, ClientPart, Sender}
use Rattle.rr_store.specs.Views.{no_sender, sender_of, state_of, request_at, response_in_slot, response_at, waiting_at, handle_in}
use Rattle.rr_store.specs.Sound.{IsSoundStore, empty_hand, is_of_request, request_uses, is_of_response, is_received, is_received_at, response_details}
use Rattle.rr_store.specs.Receiving.{queue_from, borrowed_from, with_received_response, IsNextSender}
use Rattle.rr_store.proofs.base.views.Agreeing.{response_sender}
use Rattle.rr_store.specs.Kinds.{stage_kind}
use Rattle.rr_store.proofs.querying.Connected.{pending_stage}
use Rattle.rr_store.proofs.base.lookups.Looking.{table_entry_under, shown}
use Rattle.rr_store.proofs.base.lookups.Shown.{request_spot}
use Rattle.rr_store.proofs.base.senders.Entries.{found_alone}
use Rattle.rr_store.proofs.base.lists.Found.{found_passes, found_somewhere}
use Rattle.rr_store.proofs.base.views.Counts.{handles_counted, listed}
use Rattle.rr_store.proofs.base.views.Keyed.{at_responses}
use Rattle.rr_receiving.proofs.laws.response.View.{queued, received_view, key, rest}
use Rattle.rr_store.proofs.base.hands.Stages.{handle_uses_request, handle_uses_response}
use Rattle.rr_store.proofs.base.lists.Tallies.{and_none, tally-same}
use Rattle.rr_store.proofs.base.senders.Numbered.{numbered_once}

and_again : (a b c : Bool) → ((a && b) && c) ≡ (a && (b && c))
and_again true b c = refl
and_again false b c = refl

-- a list that is not empty isn't so after a function of each
pub map_some : {X Y : Type 0} (f : X → Y) (xs : List X) → (xs ≡ [] → ⊥) → map f xs ≡ [] → ⊥
map_some f [] n e = n refl
map_some f (x ∷ xs) n e = let g : f x ∷ map f xs ≡ [] = e in cc

module _ {Q QH P PH K : Type 0} (p : Parts Q QH P PH K) (sound : IsSoundStore p empty_hand) (index : ℕ) (c : ClientPart K)
    (at_c : slice_get p.clients index ≡ Some c) (channel : ℕ) where
  -- the list from a server
  abbrev pub from : ℕ → ResponseKey
  from server = record { server = server; client = c.port.id; channel = channel }

  abbrev most : ℕ
  most = p.limits.max_borrowed_responses_per_pending_response

  -- how many responses the client has from a sender
  borrowed_counted : (sender : ℕ) → sender < length p.server_senders
      → count_by (is_borrowed_response (from (sender_of sender p.server_senders).owner))
      (all_handles (state_of p)) ≡ borrowed_from p.server_senders c.receiver channel sender
  borrowed_counted sender there =
      handles_counted p (is_borrowed_response (from (sender_of sender p.server_senders).owner))
      ∙ tally-same p.table.entries _ (λ s. is_received_at p sender c.port.id channel s.value) (λ k s e. go k s e s.value.stage refl)
      ∙ and_none _ ∙ sym (sound.stored.borrowed_responses sender index channel c there at_c)
    where
      owner_is : (k : ℕ) (s : TableEntry HandleEntry) → fin_map.get p.table.entries k ≡ Some s → is_of_response s.value.stage ≡ true
          → ((response_details p s.value.sender s.value.slot).server == (sender_of sender p.server_senders).owner)
          ≡ (s.value.sender == sender)
      owner_is k s e is =
          let server = sound.addressed.responses s.value.sender s.value.slot (handle_uses_response p empty_hand sound.counted k s e is) in
          ⊎_elim
          (λ f. eq-eqb _ _ (server ∙ ap (λ l. (sender_of l p.server_senders).owner) f) ∙ sym (eq-eqb s.value.sender sender f))
          (λ n. ne_eqb _ _ (λ f. n (sound.server_ports.owned_once s.value.sender sender
          (response_sender p empty_hand sound.counted k s e is) there (sym server ∙ f))) ∙ sym (ne_eqb s.value.sender sender n))
          (cases_eq s.value.sender sender)

      go : (k : ℕ) (s : TableEntry HandleEntry) → fin_map.get p.table.entries k ≡ Some s → (g : Stage) → s.value.stage ≡ g
          → is_borrowed_response (from (sender_of sender p.server_senders).owner) (handle_in p g s.value.sender s.value.slot)
          ≡ (is_received g && (s.value.sender == sender && ((response_details p s.value.sender s.value.slot).client == c.port.id
          && (response_details p s.value.sender s.value.slot).channel == channel)))
      go k s e stage.RequestMutUninit is = refl
      go k s e stage.RequestMut is = refl
      go k s e (stage.PendingResponse hint connections) is = refl
      go k s e (stage.ActiveRequest server loans) is = refl
      go k s e stage.ResponseMutUninit is = refl
      go k s e stage.ResponseMut is = refl
      go k s e stage.Response is =
          and_again ((response_details p s.value.sender s.value.slot).server == (sender_of sender p.server_senders).owner)
          ((response_details p s.value.sender s.value.slot).client == c.port.id)
          ((response_details p s.value.sender s.value.slot).channel == channel)
          ∙ ap (λ b. b && ((response_details p s.value.sender s.value.slot).client == c.port.id
          && (response_details p s.value.sender s.value.slot).channel == channel)) (owner_is k s e (ap is_of_response is))

  room_is : (sender : ℕ) → sender < length p.server_senders → has_response_room (state_of p)
      (from (sender_of sender p.server_senders).owner) ≡ nat_lt
      (borrowed_from p.server_senders c.receiver channel sender) most
  room_is sender there = ap (λ n. nat_lt n most) (borrowed_counted sender there)

  the_one : find (λ d. d.port.id == c.port.id) p.clients ≡ Some c
  the_one =
      found_alone (λ (d : ClientPart K). d.port.id == c.port.id) p.clients index c at_c (eq-eqb c.port.id c.port.id refl)
      (λ k d e same. numbered_once sound.client_ports k index d.connected c.connected
      (listed (λ (c : ClientPart K). c.connected) p.clients k d e) (listed (λ (c : ClientPart K). c.connected) p.clients index c at_c)
      (eqb-true d.port.id c.port.id same))

  -- what waits from a server is what its sender has, if there is such a sender
  from_sender : {Z : Type 0} (server : ℕ) → (at (state_of p).responses (from server) ≡ [] → Z)
      → ((sender : ℕ) → sender < length p.server_senders → (sender_of sender p.server_senders).owner ≡ server
      → at (state_of p).responses (from server) ≡ map
      (response_in_slot p.spare_response_header (sender_of sender p.server_senders).messages)
      (queue_from p.server_senders c.receiver channel sender) → Z) → Z
  from_sender {Z} server none some = go (find (λ l. l.owner == server) p.server_senders) refl
    where
      shows : (o : Option (Sender P ResponseDetails PH)) → find (λ l. l.owner == server) p.server_senders ≡ o
          → at (state_of p).responses (from server) ≡ option_map_or
          (λ l. map (response_in_slot p.spare_response_header l.messages) (queue_at l.messages c.receiver channel)) o []
      shows o e = at_responses p (from server) ∙ rw the_one (rw e refl)

      go : (o : Option (Sender P ResponseDetails PH)) → find (λ l. l.owner == server) p.server_senders ≡ o → Z
      go None e = none (shows None e)
      go (Some l) e =
          let k = found_somewhere (λ (l : Sender P ResponseDetails PH). l.owner == server) p.server_senders l e in
          let is : sender_of k.0 p.server_senders ≡ l = get_or_from_slice_get p.server_senders k.0 l no_sender k.1 in
          some k.0 (slice_get_within p.server_senders k.0 l k.1)
          (ap (λ (l : Sender P ResponseDetails PH). l.owner) is ∙ eqb-true l.owner server
          (found_passes (λ (l : Sender P ResponseDetails PH). l.owner == server) p.server_senders l e))
          (shows (Some l) e ∙ ap (λ (l : Sender P ResponseDetails PH). map (response_in_slot p.spare_response_header l.messages)
          (queue_at l.messages c.receiver channel)) (sym is))

  -- what waits from a sender's server
  pub shown_from : (sender : ℕ) → sender < length p.server_senders
      → at (state_of p).responses (from (sender_of sender p.server_senders).owner)
      ≡ map (response_in_slot p.spare_response_header (sender_of sender p.server_senders).messages)
      (queue_from p.server_senders c.receiver channel sender)
  shown_from sender there = at_responses p (from (sender_of sender p.server_senders).owner) ∙ rw the_one (rw sender_there refl)
    where
      sender_there : find (λ l. l.owner == (sender_of sender p.server_senders).owner) p.server_senders ≡ Some
          (sender_of sender p.server_senders)
      sender_there =
          found_alone (λ (l : Sender P ResponseDetails PH). l.owner == (sender_of sender p.server_senders).owner) p.server_senders sender
          (sender_of sender p.server_senders) (slice_get-get_or p.server_senders sender no_sender there) (eq-eqb _ _ refl)
          (λ k l e same. sound.server_ports.owned_once k sender (slice_get_within p.server_senders k l e) there
          (ap (λ (l : Sender P ResponseDetails PH). l.owner) (get_or_from_slice_get p.server_senders k l no_sender e)
          ∙ eqb-true l.owner (sender_of sender p.server_senders).owner same))

  -- all lists are empty
  pub all_empty : ((sender : ℕ) → sender < length p.server_senders → queue_from p.server_senders c.receiver channel sender ≡ [])
      → (server : ℕ)
      → at (state_of p).responses (from server) ≡ []
  all_empty none server = from_sender server (λ e. e) (λ sender there owner e. e
      ∙ ap (map (response_in_slot p.spare_response_header (sender_of sender p.server_senders).messages)) (none sender there))

  -- each list with room is empty
  pub roomy_empty : ((sender : ℕ) → sender < length p.server_senders → borrowed_from p.server_senders c.receiver channel sender < most
      → queue_from p.server_senders c.receiver channel sender ≡ []) → (server : ℕ) → IsTrue (has_response_room (state_of p) (from server))
      → at (state_of p).responses (from server) ≡ []
  roomy_empty none server room = from_sender server (λ e. e)
      (λ sender there owner e.
      let few : borrowed_from p.server_senders c.receiver channel sender < most = ltb-true _ most
      (sym (room_is sender there) ∙ ap (λ s. has_response_room (state_of p) (from s)) owner ∙ room) in
      e ∙ ap (map (response_in_slot p.spare_response_header (sender_of sender p.server_senders).messages)) (none sender there few))

  -- and one without room isn't
  pub full_filled : (sender : ℕ) → sender < length p.server_senders → most ≤ borrowed_from p.server_senders c.receiver channel sender
      → (queue_from p.server_senders c.receiver channel sender ≡ [] → ⊥)
      → (server : ℕ) × IsFalse (has_response_room (state_of p) (from server)) × (at (state_of p).responses (from server) ≢ [])
  full_filled sender there full some = (
    (sender_of sender p.server_senders).owner,
    room_is sender there ∙ le-ltb (borrowed_from p.server_senders c.receiver channel sender) most full,
    (λ e. map_some (response_in_slot p.spare_response_header (sender_of sender p.server_senders).messages)
        (queue_from p.server_senders c.receiver channel sender) some (sym (shown_from sender there) ∙ e)),
  )

  -- the first response of a list with room is taken
  pub takes : (sender : ℕ) → sender < length p.server_senders → (slot : ℕ) → channel < worst_case_requests p.limits
      → slice_get (queue_from p.server_senders c.receiver channel sender) 0 ≡ Some slot → borrowed_from p.server_senders c.receiver channel
      sender < most
      → (server : ℕ) × (message : ResponseMessage P PH) × (mid : State Q QH P PH K) × TakesResponse (state_of p) (from server) message mid
      × ((response_details p sender slot).number ≡ message.number)
      × (state_of (with_received_response p sender c.receiver channel slot) ≡ record mid
      { handles = fin_map.insert mid.handles (response_details p sender slot).number (Response message) })
  takes sender there slot inside first few =
      let k = key p sound sender there index c at_c channel slot inside first in
      let others = rest p sound sender there index c at_c channel slot inside first in (
        (sender_of sender p.server_senders).owner,
        response_at p sender slot,
        without_empty_servers (record (state_of p) { responses = with_at (state_of p).responses k others }) c.port.id,
        (
          room_is sender there ∙ lt-ltb (borrowed_from p.server_senders c.receiver channel sender) most few,
          (others, queued p sound sender there index c at_c channel slot inside first, refl),
        ),
        refl,
        received_view p sound sender there index c at_c channel slot inside first,
      )

-- the same of a pending response that contracts see, from a client whose sender has its request
module _ {Q QH P PH K : Type 0} (p : Parts Q QH P PH K) (sound : IsSoundStore p empty_hand) (index : ℕ) (c : ClientPart K)
    (at_c : slice_get p.clients index ≡ Some c) (channel n : ℕ) (pending : Pending Q QH)
    (seen : pending_at (state_of p) n ≡ Some pending) (its_client : pending.message.client ≡ c.port.id)
    (its_channel : pending.message.channel ≡ channel) (s : State Q QH P PH K) (is : state_of p ≡ s) where
  -- its lists are the client's on the channel
  pub keys : (server : ℕ) → from p sound index c at_c channel server ≡ response_key pending server
  keys server = ap (λ n. record { server = server; client = n; channel = channel }) (sym its_client)
      ∙ ap (λ h. record { server = server; client = pending.message.client; channel = h }) (sym its_channel)

  pub receives_nothing : ((sender : ℕ) → sender < length p.server_senders → queue_from p.server_senders c.receiver channel sender ≡ [])
      → (new : State Q QH P PH K) → new ≡ s
      → IsSomeAnd (pending_at s n) (λ pending. ((server : ℕ) → at s.responses (response_key pending server) ≡ []) × (new ≡ s))
  receives_nothing none new stays =
      let R : State Q QH P PH K → Type 0 = λ s. (new ≡ s) → IsSomeAnd (pending_at s n)
      (λ pending. ((server : ℕ) → at s.responses (response_key pending server) ≡ []) × (new ≡ s)) in
      let T : Option (Pending Q QH) → Type 0 = λ o. IsSomeAnd o
      (λ pending. ((server : ℕ) → at (state_of p).responses (response_key pending server) ≡ []) × (new ≡ state_of p)) in
      subst R is (λ e. subst T (sym seen) (
        (λ server. ap (at (state_of p).responses) (sym (keys server))
            ∙ all_empty p sound index c at_c channel none server),
        e,
      )) stays

  pub receives_no_more : ((sender : ℕ) → sender < length p.server_senders
      → borrowed_from p.server_senders c.receiver channel sender < p.limits.max_borrowed_responses_per_pending_response
      → queue_from p.server_senders c.receiver channel sender ≡ [])
      → ((sender : ℕ) × (sender < length p.server_senders) × (p.limits.max_borrowed_responses_per_pending_response
      ≤ borrowed_from p.server_senders c.receiver channel sender) × (queue_from p.server_senders c.receiver channel sender ≢ []))
      → (new : State Q QH P PH K) → new ≡ s
      → IsSomeAnd (pending_at s n) (λ pending.
      ((server : ℕ) → IsTrue (has_response_room s (response_key pending server)) → at s.responses (response_key pending server) ≡ [])
      × ((server : ℕ) × IsFalse (has_response_room s (response_key pending server)) × (at s.responses (response_key pending server) ≢ []))
      × (new ≡ s))
  receives_no_more none full new stays =
      let R : State Q QH P PH K → Type 0 = λ s. (new ≡ s) → IsSomeAnd (pending_at s n) (λ pending.
      ((server : ℕ) → IsTrue (has_response_room s (response_key pending server)) → at s.responses (response_key pending server) ≡ [])
      × ((server : ℕ) × IsFalse (has_response_room s (response_key pending server)) × (at s.responses (response_key pending server) ≢ []))
      × (new ≡ s)) in
      let T : Option (Pending Q QH) → Type 0 = λ o. IsSomeAnd o (λ pending.
      ((server : ℕ) → IsTrue (has_response_room (state_of p) (response_key pending server))
      → at (state_of p).responses (response_key pending server) ≡ [])
      × ((server : ℕ) × IsFalse (has_response_room (state_of p) (response_key pending server))
      × (at (state_of p).responses (response_key pending server) ≢ []))
      × (new ≡ state_of p)) in
      let f = full_filled p sound index c at_c channel full.0 full.1 full.2 full.3 in
      subst R is
      (λ e. subst T (sym seen) (
        (λ server room. ap (at (state_of p).responses) (sym (keys server))
            ∙ roomy_empty p sound index c at_c channel none server (ap (has_response_room (state_of p)) (keys server) ∙ room)),
        (f.0, ap (has_response_room (state_of p)) (sym (keys f.0)) ∙ f.1, (λ none. f.2 (ap (at (state_of p).responses) (keys f.0) ∙ none))),
        e,
      ))
      stays

  pub receives : (sender : ℕ) → sender < length p.server_senders → (slot : ℕ) → channel < worst_case_requests p.limits
      → slice_get (queue_from p.server_senders c.receiver channel sender) 0 ≡ Some slot
      → borrowed_from p.server_senders c.receiver channel sender < p.limits.max_borrowed_responses_per_pending_response
      → (k : ℕ) → k ≡ (response_details p sender slot).number → (new : State Q QH P PH K)
      → new ≡ state_of (with_received_response p sender c.receiver channel slot)
      → IsSomeAnd (pending_at s n) (λ pending.
      (server : ℕ) × (message : ResponseMessage P PH) × (mid : State Q QH P PH K)
      × TakesResponse s (response_key pending server) message mid
      × (k ≡ message.number) × (new ≡ record mid { handles = fin_map.insert mid.handles k (Response message) }))
  receives sender there slot inside first few k numbered new now =
      let R : State Q QH P PH K → Type 0 = λ s. IsSomeAnd (pending_at s n) (λ pending.
      (server : ℕ) × (message : ResponseMessage P PH) × (mid : State Q QH P PH K)
      × TakesResponse s (response_key pending server) message mid
      × (k ≡ message.number) × (new ≡ record mid { handles = fin_map.insert mid.handles k (Response message) })) in
      let T : Option (Pending Q QH) → Type 0 = λ o. IsSomeAnd o (λ pending.
      (server : ℕ) × (message : ResponseMessage P PH) × (mid : State Q QH P PH K)
      × TakesResponse (state_of p) (response_key pending server) message mid
      × (k ≡ message.number) × (new ≡ record mid { handles = fin_map.insert mid.handles k (Response message) })) in
      let t = takes p sound index c at_c channel sender there slot inside first few in
      subst R is (subst T (sym seen) (
        t.0,
        t.1,
        t.2,
        subst (λ key. TakesResponse (state_of p) key t.1 t.2) (keys t.0) t.3,
        numbered ∙ t.4,
        now ∙ t.5 ∙ ap (λ j. record t.2 { handles = fin_map.insert t.2.handles j (Response t.1) }) (sym numbered),
      ))

-- a pending response, and the client that received it
pub record IsAsking {Q QH P PH K : Type 0} (p : Parts Q QH P PH K) (n index channel : ℕ) (c : ClientPart K) : Type 0 where
  pub at : slice_get p.clients index ≡ Some c
  pub inside : channel < worst_case_requests p.limits
  pub pending : Pending Q QH
  pub seen : pending_at (state_of p) n ≡ Some pending
  pub its_client : pending.message.client ≡ c.port.id
  pub its_channel : pending.message.channel ≡ channel

module _ {Q QH P PH K : Type 0} (p : Parts Q QH P PH K) (sound : IsSoundStore p empty_hand) where
  -- a pending response is one of the client that sends from its sender
  pub asking : (n : ℕ) (entry : HandleEntry) → value_at p.table n ≡ Some entry → stage_kind entry.stage ≡ kind.PendingResponse → (m : ℕ)
      → n ≡ m
      → (index : ℕ) (c : ClientPart K) → slice_get p.clients index ≡ Some c → c.sender ≡ entry.sender → IsAsking p m index entry.slot c
  asking n entry found is m same index c at its =
      let stage_is = pending_stage entry.stage is in
      let of_request : is_of_request entry.stage ≡ true = ap is_of_request stage_is.2 in
      let spot = request_spot p empty_hand sound.counted n entry found of_request in
      let table_entry = table_entry_under p.table n entry found in
      let uses : 0 < request_uses p entry.sender entry.slot =
      subst (λ h. 0 < request_uses p h.sender h.slot) table_entry.2
      (handle_uses_request p empty_hand sound.counted n table_entry.0 table_entry.1
      (ap (λ h. is_of_request h.stage) table_entry.2 ∙ of_request)) in
      let own = sound.client_ports.own index c.connected (listed (λ (c : ClientPart K). c.connected) p.clients index c at) in
      record {
        at = at;
        inside = omega (arith, spot.1, sound.sized.channels entry.sender spot.0);
        pending = record {
          message = request_at p entry.sender entry.slot;
          hint = stage_is.0;
          connections = stage_is.1;
          servers = waiting_at p entry.sender entry.slot;
        };
        seen = sym (ap (pending_at (state_of p)) same) ∙ ap (option_and_then as_pending)
            (shown p n entry found ∙ ap (λ g. Some (handle_in p g entry.sender entry.slot)) stage_is.2);
        its_client = sound.addressed.requests entry.sender entry.slot uses ∙ sym (ap (λ l. (sender_of l p.client_senders).owner) its)
            ∙ own.1;
        its_channel = refl;
      }

-- what is answered where messages wait alone where there is no room
pub by_error : {Q QH P PH K : Type 0} (p : Parts Q QH P PH K) (sound : IsSoundStore p empty_hand) (index : ℕ) (c : ClientPart K)
    (at_c : slice_get p.clients index ≡ Some c) (channel n : ℕ) (asks : IsAsking p n index channel c)
    (s : State Q QH P PH K) (is : state_of p ≡ s) (error : ReceiveError)
    → IsNextSender p.server_senders c.receiver channel p.limits.max_borrowed_responses_per_pending_response (Err error)
    → ReceivesResponse s n (Err error) s
by_error p sound index c at_c channel n asks s is ReceiveError.ExceedsMaxBorrows next =
    receives_no_more p sound index c at_c channel n asks.pending asks.seen asks.its_client asks.its_channel s is next.0 next.1 s refl
by_error p sound index c at_c channel n asks s is (ReceiveError.ConnectionFailure failure) next = absurd next
