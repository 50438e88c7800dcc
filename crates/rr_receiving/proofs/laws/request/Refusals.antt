-- What a server may be answered when it receives.
use Rattle.std.proofs.Common.{◌≡◌, ◌≢◌, ◌<◌, ◌≤◌, ◌+◌, ◌^◌, ℕ, Bool, true, false, List, [], ◌∷◌, Option, None, Some, Ok, Err, length, map, nat_lt, refl, sym, ap, ◌∙◌, subst, ⊎_elim, arith}
use Rattle.std.specs.Prelude.{◌==◌, ◌&&◌, not, IsTrue, IsFalse, slice_get, slice_index, slice_set, find, count_by, take}
use Rattle.std.specs.Option.{option_map_or}
use Rattle.std.specs.FinMap as fin_map
use Rattle.std.proofs.lemmas.Bool.{cases_eq, eq-eqb, eqb-true, ne_eqb, lt-ltb, ltb-true, le-ltb}
use Rattle.std.proofs.lemmas.Option.{slice_get-get_or, get_or_from_slice_get, slice_get_within}
use Rattle.rr_table.specs.TableView.{TableEntry, value_in}
use Rattle.rr_table.specs.declared.place.Place.{Place}
use Rattle.rr_sender.specs.Senders.{queue_at, borrowed_at, set_two}
use Rattle.rr_protocol.specs.declared.error.ReceiveError.{ReceiveError}
use Rattle.rr_protocol.specs.Counts.{is_alive, is_borrowed_request, has_request_room}
use Rattle.rr_protocol.specs.Keys.{request_key}
use Rattle.rr_protocol.specs.Lists.{at}
use Rattle.rr_protocol.specs.Messages.{RequestMessage}
use Rattle.rr_protocol.specs.Receives.{is_dead, TakesRequest, Skims, ReceivesUnskimmed}
use Rattle.rr_protocol.specs.State.{all_handles}
use Rattle.rr_store.specs.declared.handle_entry.HandleEntry.{HandleEntry}
use Rattle.rr_store.specs.declared.handle_entry.Stage.{Stage}
use Rattle.rr_store.specs.declared.handle_entry.Stage.TheVariants as stage
use Rattle.rr_store.specs.declared.details.RequestDetails.{RequestDetails}
use Rattle.rr_store.specs.Emptying.{PartsEmptied}
use Rattle.rr_store.specs.Parts.{Parts, ServerPart, Sender}
use Rattle.rr_store.specs.Receiving.{queue_from, borrowed_from, IsNextSender}
use Rattle.rr_store.specs.Skimming.{is_waited, first_skimmed, without_first, SkimsSenders, with_received_request}
use Rattle.rr_store.specs.Sound.{IsSoundStore, empty_hand, is_active_of, is_in_sender, is_of_request, is_pending, own_place, request_details, request_uses}
use Rattle.rr_store.specs.Views.{no_sender, sender_of, state_of, request_in_slot, request_at, handle_in}
use Rattle.rr_store.proofs.base.views.Agreeing.{request_sender}
use Rattle.rr_store.proofs.querying.Alive.{alive_here, alive_not}
use Rattle.rr_store.proofs.base.frames.Emptied.{emptied_sound, emptied_view}
use Rattle.rr_store.proofs.base.senders.Emptied.{among_emptied, one_emptied, senders_stay}
use Rattle.rr_store.proofs.base.senders.Entries.{found_alone}
use Rattle.rr_store.proofs.base.lists.Found.{found_passes, found_somewhere}
use Rattle.rr_store.proofs.base.views.Counts.{handles_counted, listed}
use Rattle.rr_store.proofs.base.views.Keyed.{at_requests}
use Rattle.rr_store.proofs.base.senders.Queues.{times_queue}
use Rattle.rr_receiving.proofs.laws.response.Refusals.{map_some}
use Rattle.rr_receiving.proofs.laws.request.Skimmed.{after_skim, skim_sound}
use Rattle.rr_receiving.proofs.laws.request.View.{rest, m, queued, popped_state, popped_view, received_request_view}
use Rattle.rr_receiving.proofs.laws.response.Inserted.{entry_waits}
use Rattle.rr_store.proofs.base.hands.Stages.{handle_uses_request}
use Rattle.rr_store.proofs.base.lists.Tallies.{and_none, tally-same}
use Rattle.rr_store.proofs.base.senders.Numbered.{numbered_once}

other_way : (a b c : Bool) → a ≡ c → (a && b) ≡ (b && c)
other_way true true c e = e
other_way true false c e = refl
other_way false true c e = e
other_way false false c e = refl

module _ {Q QH P PH K : Type 0} (p : Parts Q QH P PH K) (sound : IsSoundStore p empty_hand) where
  -- whether a request is waited for tells whether it is alive
  pub alive_waited : (sender slot : ℕ) → 0 < request_uses p sender slot
      → is_alive (state_of p) (request_details p sender slot).number ≡ is_waited p.table (sender_of sender p.client_senders) slot
  alive_waited sender slot used = go (value_in p.table number own) refl
    where
      number : ℕ
      number = (request_details p sender slot).number

      own : Place
      own = own_place p sender slot

      go : (o : Option HandleEntry) → value_in p.table number own ≡ o
          → is_alive (state_of p) number ≡ option_map_or (λ entry. is_pending entry.stage) (value_in p.table number own) false
      go None e = alive_not p empty_hand sound sender slot number own used refl refl e
          ∙ sym (ap (λ o. option_map_or (λ (entry : HandleEntry). is_pending entry.stage) o false) e)
      go (Some v) e = alive_here p number own v e
          ∙ sym (ap (λ o. option_map_or (λ (entry : HandleEntry). is_pending entry.stage) o false) e)

  -- what waits is used
  pub waits_used : (sender slot receiver : ℕ) → slice_get (queue_from p.client_senders receiver 0 sender) 0 ≡ Some slot
      → 0 < request_uses p sender slot
  waits_used sender slot receiver first =
      omega (
        arith,
        entry_waits (queue_from p.client_senders receiver 0 sender) slot first,
        times_queue (sender_of sender p.client_senders).messages slot receiver 0,
      )

module _ {Q QH P PH K : Type 0} (p : Parts Q QH P PH K) (sound : IsSoundStore p empty_hand) (index : ℕ) (c : ServerPart K)
    (at_c : slice_get p.servers index ≡ Some c) where
  abbrev pub most : ℕ
  most = p.limits.max_active_requests_per_client

  the_one : find (λ d. d.port.id == c.port.id) p.servers ≡ Some c
  the_one =
      found_alone (λ (d : ServerPart K). d.port.id == c.port.id) p.servers index c at_c (eq-eqb c.port.id c.port.id refl)
      (λ k d e same. numbered_once sound.server_ports k index d.connected c.connected
      (listed (λ (c : ServerPart K). c.connected) p.servers k d e) (listed (λ (c : ServerPart K). c.connected) p.servers index c at_c)
      (eqb-true d.port.id c.port.id same))

  -- how many requests the server has from a sender
  borrowed_counted : (sender : ℕ) → sender < length p.client_senders
      → count_by (is_borrowed_request (request_key (sender_of sender p.client_senders).owner c.port.id))
      (all_handles (state_of p)) ≡ borrowed_from p.client_senders c.receiver 0 sender
  borrowed_counted sender there =
      handles_counted p (is_borrowed_request (request_key (sender_of sender p.client_senders).owner c.port.id))
      ∙ tally-same p.table.entries _ (λ s. is_in_sender (is_active_of c.port.id) sender s.value) (λ k s e. go k s e s.value.stage refl)
      ∙ and_none _ ∙ sym (sound.stored.borrowed_requests sender c.port.id there)
      ∙ ap (λ o. borrowed_at (sender_of sender p.client_senders).messages (option_map_or (λ s. s.receiver) o p.limits.max_servers) 0)
      the_one
    where
      owner_is : (k : ℕ) (s : TableEntry HandleEntry) → fin_map.get p.table.entries k ≡ Some s → is_of_request s.value.stage ≡ true
          → ((request_details p s.value.sender s.value.slot).client == (sender_of sender p.client_senders).owner)
          ≡ (s.value.sender == sender)
      owner_is k s e is =
          let client = sound.addressed.requests s.value.sender s.value.slot (handle_uses_request p empty_hand sound.counted k s e is) in
          ⊎_elim
          (λ f. eq-eqb _ _ (client ∙ ap (λ l. (sender_of l p.client_senders).owner) f) ∙ sym (eq-eqb s.value.sender sender f))
          (λ n. ne_eqb _ _ (λ f. n (sound.client_ports.owned_once s.value.sender sender (request_sender p empty_hand sound.counted k s e is)
          there
          (sym client ∙ f))) ∙ sym (ne_eqb s.value.sender sender n))
          (cases_eq s.value.sender sender)

      go : (k : ℕ) (s : TableEntry HandleEntry) → fin_map.get p.table.entries k ≡ Some s → (g : Stage) → s.value.stage ≡ g
          → is_borrowed_request (request_key (sender_of sender p.client_senders).owner c.port.id)
          (handle_in p g s.value.sender s.value.slot) ≡
          (is_active_of c.port.id g && s.value.sender == sender)
      go k s e stage.RequestMutUninit is = refl
      go k s e stage.RequestMut is = refl
      go k s e (stage.PendingResponse hint connections) is = refl
      go k s e (stage.ActiveRequest server loans) is =
          other_way ((request_details p s.value.sender s.value.slot).client == (sender_of sender p.client_senders).owner)
          (server == c.port.id)
          (s.value.sender == sender) (owner_is k s e (ap is_of_request is))
      go k s e stage.ResponseMutUninit is = refl
      go k s e stage.ResponseMut is = refl
      go k s e stage.Response is = refl

  room_is : (sender : ℕ) → sender < length p.client_senders → has_request_room (state_of p)
      (request_key (sender_of sender p.client_senders).owner c.port.id) ≡ nat_lt (borrowed_from p.client_senders c.receiver 0 sender) most
  room_is sender there = ap (λ n. nat_lt n most) (borrowed_counted sender there)

  -- what waits from a client is what its sender has, if there is such a sender
  from_sender : {Z : Type 0} (client : ℕ) → (at (state_of p).requests (request_key client c.port.id) ≡ [] → Z)
      → ((sender : ℕ) → sender < length p.client_senders → (sender_of sender p.client_senders).owner ≡ client
      → at (state_of p).requests (request_key client c.port.id) ≡ map
      (request_in_slot p.spare_request_header (sender_of sender p.client_senders).messages)
      (queue_from p.client_senders c.receiver 0 sender) → Z)
      → Z
  from_sender {Z} client none some = go (find (λ l. l.owner == client) p.client_senders) refl
    where
      shows : (o : Option (Sender Q RequestDetails QH)) → find (λ l. l.owner == client) p.client_senders ≡ o
          → at (state_of p).requests (request_key client c.port.id) ≡ option_map_or
          (λ l. map (request_in_slot p.spare_request_header l.messages) (queue_at l.messages c.receiver 0)) o []
      shows o e = at_requests p (request_key client c.port.id) ∙ rw the_one (rw e refl)

      go : (o : Option (Sender Q RequestDetails QH)) → find (λ l. l.owner == client) p.client_senders ≡ o → Z
      go None e = none (shows None e)
      go (Some l) e =
          let k = found_somewhere (λ (l : Sender Q RequestDetails QH). l.owner == client) p.client_senders l e in
          let is : sender_of k.0 p.client_senders ≡ l = get_or_from_slice_get p.client_senders k.0 l no_sender k.1 in
          some k.0 (slice_get_within p.client_senders k.0 l k.1)
          (ap (λ (l : Sender Q RequestDetails QH). l.owner) is ∙ eqb-true l.owner client
          (found_passes (λ (l : Sender Q RequestDetails QH). l.owner == client) p.client_senders l e))
          (shows (Some l) e ∙ ap (λ (l : Sender Q RequestDetails QH). map (request_in_slot p.spare_request_header l.messages)
          (queue_at l.messages c.receiver 0)) (sym is))

  -- what waits from a sender's client
  pub shown_from : (sender : ℕ) → sender < length p.client_senders
      → at (state_of p).requests (request_key (sender_of sender p.client_senders).owner c.port.id)
      ≡ map (request_in_slot p.spare_request_header (sender_of sender p.client_senders).messages)
      (queue_from p.client_senders c.receiver 0 sender)
  shown_from sender there =
      at_requests p (request_key (sender_of sender p.client_senders).owner c.port.id) ∙ rw the_one (rw sender_there refl)
    where
      sender_there : find (λ l. l.owner == (sender_of sender p.client_senders).owner) p.client_senders ≡ Some
          (sender_of sender p.client_senders)
      sender_there =
          found_alone (λ (l : Sender Q RequestDetails QH). l.owner == (sender_of sender p.client_senders).owner) p.client_senders sender
          (sender_of sender p.client_senders) (slice_get-get_or p.client_senders sender no_sender there) (eq-eqb _ _ refl)
          (λ k l e same. sound.client_ports.owned_once k sender (slice_get_within p.client_senders k l e) there
          (ap (λ (l : Sender Q RequestDetails QH). l.owner) (get_or_from_slice_get p.client_senders k l no_sender e)
          ∙ eqb-true l.owner (sender_of sender p.client_senders).owner same))

  -- all lists are empty
  pub all_empty : ((sender : ℕ) → sender < length p.client_senders → queue_from p.client_senders c.receiver 0 sender ≡ []) → (client : ℕ)
      → at (state_of p).requests (request_key client c.port.id) ≡ []
  all_empty none client = from_sender client (λ e. e) (λ sender there owner e. e
      ∙ ap (map (request_in_slot p.spare_request_header (sender_of sender p.client_senders).messages)) (none sender there))

  -- each list with room is empty
  roomy_empty : ((sender : ℕ) → sender < length p.client_senders → borrowed_from p.client_senders c.receiver 0 sender < most
      → queue_from p.client_senders c.receiver 0 sender ≡ [])
      → (client : ℕ) → IsTrue (has_request_room (state_of p) (request_key client c.port.id))
      → at (state_of p).requests (request_key client c.port.id) ≡ []
  roomy_empty none client room = from_sender client (λ e. e)
      (λ sender there owner e.
      let few : borrowed_from p.client_senders c.receiver 0 sender < most = ltb-true _ most
      (sym (room_is sender there) ∙ ap (λ s. has_request_room (state_of p) (request_key s c.port.id)) owner ∙ room) in
      e ∙ ap (map (request_in_slot p.spare_request_header (sender_of sender p.client_senders).messages)) (none sender there few))

  -- and one without room isn't
  full_filled : (sender : ℕ) → sender < length p.client_senders → most ≤ borrowed_from p.client_senders c.receiver 0 sender
      → (queue_from p.client_senders c.receiver 0 sender ≡ [] → ⊥)
      → (client : ℕ) × IsFalse (has_request_room (state_of p) (request_key client c.port.id))
      × (at (state_of p).requests (request_key client c.port.id) ≢ [])
  full_filled sender there full some = (
    (sender_of sender p.client_senders).owner,
    room_is sender there ∙ le-ltb (borrowed_from p.client_senders c.receiver 0 sender) most full,
    (λ e. map_some (request_in_slot p.spare_request_header (sender_of sender p.client_senders).messages)
        (queue_from p.client_senders c.receiver 0 sender) some (sym (shown_from sender there) ∙ e)),
  )

  -- no request that is waited for is dead
  not_dead : (sender slot : ℕ) → 0 < request_uses p sender slot →
      (p.limits.enable_fire_and_forget_requests ≡ false → is_waited p.table (sender_of sender p.client_senders) slot ≡ true)
      → is_dead (state_of p) (request_at p sender slot) ≡ false
  not_dead sender slot used alive = go p.limits.enable_fire_and_forget_requests refl
    where
      neither : (a : Bool) → (not a && false) ≡ false
      neither true = refl
      neither false = refl

      go : (b : Bool) → p.limits.enable_fire_and_forget_requests ≡ b
          → (not (is_alive (state_of p) (request_details p sender slot).number) && not p.limits.enable_fire_and_forget_requests) ≡ false
      go true e = ap (λ b. not (is_alive (state_of p) (request_details p sender slot).number) && not b) e
          ∙ neither (is_alive (state_of p) (request_details p sender slot).number)
      go false e = ap (λ b. not b && not p.limits.enable_fire_and_forget_requests) (alive_waited p sound sender slot used ∙ alive e)

  -- what a server receives where nothing is skimmed
  pub receives_one : (left : p.next < 2 ^ 62) (sender : ℕ) → sender < length p.client_senders → (slot : ℕ)
      → slice_get (queue_from p.client_senders c.receiver 0 sender) 0 ≡ Some slot → borrowed_from p.client_senders c.receiver 0 sender
      < most
      → (p.limits.enable_fire_and_forget_requests ≡ false → is_waited p.table (sender_of sender p.client_senders) slot ≡ true)
      → ReceivesUnskimmed (state_of p) c.port.id (Ok (Some p.next)) (state_of (with_received_request p c.port.id sender c.receiver slot))
  receives_one left sender there slot first few alive =
      let l = m p sound sender there index c at_c slot first in (
        refl,
        (
          (sender_of sender p.client_senders).owner,
          request_at p sender slot,
          popped_state p sound sender there index c at_c slot first (slice_set l.held slot (slice_index l.held slot + 1))
              (set_two l.borrowed c.receiver 0 (borrowed_at l c.receiver 0 + 1)),
          (
            room_is sender there ∙ lt-ltb (borrowed_from p.client_senders c.receiver 0 sender) most few,
            (rest p sound sender there index c at_c slot first, queued p sound sender there index c at_c slot first, refl),
          ),
          not_dead sender slot (waits_used p sound sender slot c.receiver first) alive,
          received_request_view p sound sender there index c at_c slot first,
        ),
      )

  pub receives_none : ((sender : ℕ) → sender < length p.client_senders → queue_from p.client_senders c.receiver 0 sender ≡ [])
      → ReceivesUnskimmed (state_of p) c.port.id (Ok None) (state_of p)
  receives_none none = (all_empty none, refl)

  pub receives_error : (error : ReceiveError) → IsNextSender p.client_senders c.receiver 0 most (Err error)
      → ReceivesUnskimmed (state_of p) c.port.id (Err error) (state_of p)
  receives_error ReceiveError.ExceedsMaxBorrows next = (roomy_empty next.0, full_filled next.1.0 next.1.1 next.1.2 next.1.3, refl)
  receives_error (ReceiveError.ConnectionFailure failure) next = absurd next

  -- one request that nobody waits for is skimmed
  pub skims_one : (sender : ℕ) (there : sender < length p.client_senders) (slot : ℕ)
      (first : slice_get (queue_from p.client_senders c.receiver 0 sender) 0 ≡ Some slot) → borrowed_from p.client_senders c.receiver 0
      sender < most
      → p.limits.enable_fire_and_forget_requests ≡ false → is_waited p.table (sender_of sender p.client_senders) slot ≡ false
      → (message : RequestMessage Q QH) × IsTrue (is_dead (state_of p) message)
      × TakesRequest (state_of p) (request_key (sender_of sender p.client_senders).owner c.port.id) message
      (state_of (after_skim p sound sender there index c at_c slot first))
  skims_one sender there slot first few forgets dead =
      let l = m p sound sender there index c at_c slot first in (
        request_at p sender slot,
        ap (λ b. not b && not p.limits.enable_fire_and_forget_requests)
            (alive_waited p sound sender slot (waits_used p sound sender slot c.receiver first) ∙ dead) ∙ ap not forgets,
        (
          room_is sender there ∙ lt-ltb (borrowed_from p.client_senders c.receiver 0 sender) most few,
          (
            rest p sound sender there index c at_c slot first,
            queued p sound sender there index c at_c slot first,
            popped_view p sound sender there index c at_c slot first l.held l.borrowed,
          ),
        ),
      )

-- a core with other senders of clients
abbrev pub with_client_senders : {Q QH P PH K : Type 0} → Parts Q QH P PH K → List (Sender Q RequestDetails QH) → Parts Q QH P PH K
with_client_senders p senders = record p { client_senders = senders }

-- the slot of a request that was skimmed may be emptied besides
skim_emptied : {Q QH P PH K : Type 0} (p : Parts Q QH P PH K) (sender receiver : ℕ)
    → PartsEmptied (with_client_senders p (slice_set p.client_senders sender (without_first receiver (sender_of sender p.client_senders))))
    (with_client_senders p (slice_set p.client_senders sender (first_skimmed receiver (sender_of sender p.client_senders))))
skim_emptied p sender receiver =
    let l = sender_of sender p.client_senders in
    record {
      rest = refl;
      client_senders = one_emptied p.client_senders sender (without_first receiver l) (first_skimmed receiver l) (record {
        rest = refl;
        messages = among_emptied (take 1 (queue_at l.messages receiver 0)) (without_first receiver l).messages;
      });
      server_senders = senders_stay p.server_senders;
    }

-- requests that nobody waits for are skimmed one after another
pub skims_all : {Q QH P PH K : Type 0} (p : Parts Q QH P PH K) (sound : IsSoundStore p empty_hand) (index : ℕ) (c : ServerPart K)
    (at_c : slice_get p.servers index ≡ Some c) → p.limits.enable_fire_and_forget_requests ≡ false
    → (ls : List ℕ) (senders : List (Sender Q RequestDetails QH)) → SkimsSenders p.table c.receiver p.limits.max_active_requests_per_client
    ls
    p.client_senders senders
    → IsSoundStore (with_client_senders p senders) empty_hand × ((clients : List ℕ)
    × Skims (state_of p) c.port.id clients (state_of (with_client_senders p senders)))
skims_all p sound index c at_c forgets [] senders e =
    (subst (λ ls. IsSoundStore (with_client_senders p ls) empty_hand) (sym e) sound, ([], ap (λ ls. state_of (with_client_senders p ls)) e))
skims_all p sound index c at_c forgets (l ∷ ls) senders (slot, there, few, first, dead, more) =
    let held = after_skim p sound l there index c at_c slot first in
    let q = with_client_senders p (slice_set p.client_senders l (first_skimmed c.receiver (sender_of l p.client_senders))) in
    let same = skim_emptied p l c.receiver in
    let is_sound = skim_sound p sound l there index c at_c slot first in
    let one = skims_one p sound index c at_c l there slot first few forgets dead in
    let takes = subst (λ s. TakesRequest (state_of p) (request_key (sender_of l p.client_senders).owner c.port.id) one.0 s)
    (sym (emptied_view held q same empty_hand is_sound)) one.2 in
    let others = skims_all q (emptied_sound held q same empty_hand is_sound) index c at_c forgets ls senders more in
    (others.0, ((sender_of l p.client_senders).owner ∷ others.1.0, (one.0, state_of q, one.1, takes, others.1.1)))
