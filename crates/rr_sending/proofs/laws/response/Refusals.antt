-- A response that can be sent: whether it is refused, and the parts of a core after it was delivered.
use Rattle.std.proofs.Common.{◌≡◌, ◌<◌, ℕ, Bool, true, false, List, [], ◌∷◌, Option, None, Some, length, get_or, map, nat_le, refl, sym, ap, ◌∙◌, subst, arith}
use Rattle.std.specs.Prelude.{◌&&◌, ◌||◌, not, IfSome, slice_get, slice_set, fold}
use Rattle.std.specs.List.{list_any}
use Rattle.std.proofs.lemmas.List.{length-map, set-get_or}
use Rattle.std.specs.FinMap as fin_map
use Rattle.rr_table.specs.TableView.{TableView, removed}
use Rattle.rr_table.specs.declared.place.Place.{Place}
use Rattle.rr_sender.specs.Senders.{Messages, queue_at}
use Rattle.rr_protocol.specs.declared.settings.BackpressureAction.{BackpressureAction}
use Rattle.rr_protocol.specs.Backpressure.{discards}
use Rattle.rr_protocol.specs.Keys.{ResponseKey, response_key_cmp}
use Rattle.rr_protocol.specs.Limits.{worst_case_requests}
use Rattle.rr_protocol.specs.Lists.{Lists, at, with_at}
use Rattle.rr_protocol.specs.Messages.{ResponseMessage}
use Rattle.rr_protocol.specs.Sends as sends
use Rattle.rr_protocol.specs.State.{State}
use Rattle.rr_store.specs.declared.handle_entry.HandleEntry.{HandleEntry}
use Rattle.rr_store.specs.declared.details.ResponseDetails.{ResponseDetails}
use Rattle.rr_store.specs.Delivering.{HasQueue, delivered, is_blocked_in, is_refused_in, reached, with_delivered}
use Rattle.rr_store.specs.Ending.{IsAskedPlace, IsLoanEnded, found_under}
use Rattle.rr_store.specs.Loaning as part
use Rattle.rr_store.specs.Parts.{Parts, ClientPart, ServerPart, Sender}
use Rattle.rr_store.specs.Releasing.{IsHandleGone, held_once_less, without_loan}
use Rattle.rr_store.specs.Sound.{IsSoundStore, IsShaped, empty_hand, is_response_loan, response_details, response_uses}
use Rattle.rr_store.specs.Views.{no_sender, no_response, sender_of, state_of, server_of, response_in_slot, response_at}
use Rattle.rr_store.proofs.base.lists.Adding.{some_responses, with_responders, same_responders}
use Rattle.rr_releasing.proofs.laws.response_loan.Fields.{ResponseLoanFound, loan_is, taken_sound}
use Rattle.rr_releasing.proofs.laws.response_loan.View.{response_loan_gone, its_server}
use Rattle.rr_releasing.proofs.laws.response_loan.Place.{asked_right}
use Rattle.rr_releasing.proofs.laws.response_loan.Taken.{ended, ended_well}
use Rattle.rr_sending.proofs.laws.response.Sound.{delivered_sound}
use Rattle.rr_sending.proofs.laws.response.View.{delivered_view}
use Rattle.rr_store.proofs.base.views.Counts.{listed}
use Rattle.rr_store.proofs.base.lists.Replaced.{set_alike}
use Rattle.rr_sending.proofs.laws.response.Queued.{queued}
use Rattle.rr_sending.proofs.laws.response.Reached.{Reach, Told, told}
use Rattle.rr_releasing.proofs.laws.View.{gone_as, removed_view}
use Rattle.rr_store.proofs.base.hands.Stages.{response_loan_is_response, handle_uses_response}

-- a test of one element
alone : (b : Bool) → (b || false) ≡ b
alone true = refl
alone false = refl

-- what is delivered changes queues alone
details_as_were : {T N H : Type 0} (m : Messages T N H) (overflow : Bool) (channel slot : ℕ) (reach : Option ℕ)
    → (delivered m overflow channel slot reach).details ≡ m.details
details_as_were m overflow channel slot None = refl
details_as_were m overflow channel slot (Some receiver) = refl

module _ {Q QH P PH K : Type 0} (p : Parts Q QH P PH K) (sound : IsSoundStore p empty_hand) (k : ℕ) (entry : HandleEntry)
    (f : ResponseLoanFound p k entry)
    (index : ℕ) (c : ServerPart K) (there : slice_get p.servers index ≡ Some c) (sends_it : c.sender ≡ entry.sender) where
  abbrev taken : Parts Q QH P PH K
  taken = record p { table = removed p.table k }

  abbrev m : Messages P ResponseDetails PH
  m = (sender_of entry.sender p.server_senders).messages

  abbrev details : ResponseDetails
  details = response_details p entry.sender entry.slot

  abbrev reach : Option ℕ
  reach = reached p.client_senders p.table details

  abbrev overflow : Bool
  overflow = p.limits.enable_safe_overflow_for_responses

  pub used : 0 < response_uses p entry.sender entry.slot
  used = subst (λ (h : HandleEntry). 0 < response_uses p h.sender h.slot) f.is
      (handle_uses_response p empty_hand sound.counted k f.table_entry f.at (response_loan_is_response f.table_entry.value.stage f.loan))

  -- the response has one use
  pub used_once : response_uses p entry.sender entry.slot ≡ 1
  used_once = omega (arith, used, sound.held_once.responses entry.sender entry.slot)

  shaped : IsShaped p.limits.max_clients (worst_case_requests p.limits) p.limits.max_response_buffer_size m
  shaped = sound.sized.server_senders entry.sender f.sender

  -- its queue can have an entry
  pub has_capacity : 0 < m.capacity
  has_capacity = omega (arith, some_responses p.limits sound.sized.limits_fit, shaped.capacity_is)

  pub server_is : details.server ≡ c.port.id
  server_is = subst (λ (h : HandleEntry). (response_details p h.sender h.slot).server ≡ c.port.id) f.is
      (its_server p sound k f.table_entry f.at f.loan index c there (sends_it ∙ sym (ap (λ (h : HandleEntry). h.sender) f.is)))

  owner_is : details.server ≡ (sender_of entry.sender p.server_senders).owner
  owner_is = sound.addressed.responses entry.sender entry.slot used

  where_it_goes : Told p empty_hand sound entry.sender entry.slot used reach
  where_it_goes = told p empty_hand sound entry.sender entry.slot used

  -- the queue that is reached is there
  pub queue_there : (o : Option ℕ) → Told p empty_hand sound entry.sender entry.slot used o → HasQueue m details.channel o
  queue_there None t = tt
  queue_there (Some receiver) t =
      let at : receiver < p.limits.max_clients =
      omega (
        arith,
        sound.client_ports.placed t.index t.client.connected
            (listed (λ (c : ClientPart K). c.connected) p.clients t.index t.client t.there),
        t.placed,
      ) in
      (omega (arith, at, shaped.queues), omega (arith, t.inside, shaped.queue_channels receiver at))

  pub has_queue : HasQueue m details.channel reach
  has_queue = queue_there reach where_it_goes

  abbrev message : ResponseMessage P PH
  message = response_at p entry.sender entry.slot

  -- the list that is reached, by the sender and the client
  abbrev key : ResponseKey
  key = record { server = details.server; client = details.client; channel = details.channel }

  abbrev its_key : (receiver : ℕ) → Reach p entry.sender entry.slot receiver → ResponseKey
  its_key receiver t = record {
    server = (sender_of entry.sender p.server_senders).owner;
    client = t.client.port.id;
    channel = details.channel;
  }

  key_is : (receiver : ℕ) (t : Reach p entry.sender entry.slot receiver) → key ≡ its_key receiver t
  key_is receiver t =
      ap (λ n. record { server = n; client = details.client; channel = details.channel }) owner_is
      ∙ ap (λ n. record { server = (sender_of entry.sender p.server_senders).owner; client = n; channel = details.channel }) t.named

  -- whether its list is blocked
  blocked_is : (receiver : ℕ) → Told p empty_hand sound entry.sender entry.slot used (Some receiver)
      → sends.is_response_list_blocked (state_of p) key ≡ is_blocked_in m overflow details.channel (Some receiver)
  blocked_is receiver t =
      let waits : at (state_of p).responses key ≡ map (response_in_slot p.spare_response_header m) (queue_at m receiver details.channel) =
      ap (at (state_of p).responses) (key_is receiver t) ∙ queued p empty_hand sound entry.sender f.sender t.index t.client t.there
      details.channel
      ∙ ap (λ r. map (response_in_slot p.spare_response_header m) (queue_at m r details.channel)) t.placed in
      let many : length (at (state_of p).responses key) ≡ length (queue_at m receiver details.channel) = ap length waits
      ∙ length-map (queue_at m receiver details.channel) (response_in_slot p.spare_response_header m) in
      ap (λ n. not overflow && nat_le p.limits.max_response_buffer_size n) many
      ∙ ap (λ n. not overflow && nat_le n (length (queue_at m receiver details.channel))) (sym shaped.capacity_is)

  -- it is refused for contracts if it is for the queue that was found
  pub refused_is : (action : K → ℕ → ℕ → BackpressureAction)
      → sends.is_response_refused action (state_of p) (server_of c) message ≡ is_refused_in action c.port m overflow details reach
  refused_is action = by reach where_it_goes
    where
      refuses : ResponseKey → Bool
      refuses key = sends.is_response_list_blocked (state_of p) key && not (discards action c.port key.client)

      by : (o : Option ℕ) → Told p empty_hand sound entry.sender entry.slot used o
          → list_any refuses (sends.response_reach (state_of p) message) ≡ is_refused_in action c.port m overflow details o
      by None t = ap (list_any refuses) t
      by (Some receiver) t = ap (list_any refuses) t.reach ∙ alone (refuses key)
          ∙ ap (λ b. b && not (discards action c.port details.client)) (blocked_is receiver t)

  -- and can be delivered if that queue takes it
  pub deliverable_is : sends.is_response_deliverable (state_of p) message ≡ not (is_blocked_in m overflow details.channel reach)
  deliverable_is = ap not (by reach where_it_goes)
    where
      by : (o : Option ℕ) → Told p empty_hand sound entry.sender entry.slot used o
          → list_any (sends.is_response_list_blocked (state_of p)) (sends.response_reach (state_of p) message)
          ≡ is_blocked_in m overflow details.channel o
      by None t = ap (list_any (sends.is_response_list_blocked (state_of p))) t
      by (Some receiver) t = ap (list_any (sends.is_response_list_blocked (state_of p))) t.reach
          ∙ alone (sends.is_response_list_blocked (state_of p) key) ∙ blocked_is receiver t

  abbrev put_lists : Lists response_key_cmp (ResponseMessage P PH)
  put_lists = sends.with_response_put (state_of p) message

  -- the core in which the response is in hand and in the queue
  abbrev with_it : Option ℕ → Parts Q QH P PH K
  with_it o = with_delivered taken entry.sender details.channel entry.slot o

  after_put : (o : Option ℕ) → Told p empty_hand sound entry.sender entry.slot used o → IsSoundStore (with_it o) (entry ∷ [])
      × (state_of (with_it o) ≡ record (state_of taken) { responses = put_lists })
  after_put None t =
      let same : with_it None ≡ taken = ap (λ (ls : List (Sender P ResponseDetails PH)). record taken { server_senders = ls })
      (set-get_or p.server_senders entry.sender no_sender) in
      let lists : put_lists ≡ (state_of p).responses = ap (putting (state_of p).responses) t in (
        subst (λ q. IsSoundStore q (entry ∷ [])) (sym same) (taken_sound p sound k entry f index c there sends_it),
        ap state_of same
            ∙ ap (λ (x : Lists response_key_cmp (ResponseMessage P PH)). record (state_of taken) { responses = x }) (sym lists),
      )
    where
      putting : Lists response_key_cmp (ResponseMessage P PH) → List ResponseKey → Lists response_key_cmp (ResponseMessage P PH)
      putting lists keys = fold (λ lists key. with_at lists key
          (sends.put overflow p.limits.max_response_buffer_size (at lists key) message)) lists keys
  after_put (Some receiver) t =
      let in_hand = taken_sound p sound k entry f index c there sends_it in
      let is_response = response_loan_is_response entry.stage (loan_is p sound k entry f index c there sends_it) in
      let is = delivered_sound taken entry in_hand is_response f.sender f.slot used_once t.index t.client t.there details.channel t.inside
      has_capacity t.named refl in
      let shown = delivered_view taken entry in_hand is_response f.sender f.slot used_once t.index t.client t.there details.channel t.inside
      has_capacity t.named refl (index, c, there, sends_it) in
      let lists : put_lists ≡ put_at (its_key receiver t) = ap (putting (state_of p).responses) t.reach ∙ ap put_at (key_is receiver t) in (
        subst (λ r. IsSoundStore (with_it (Some r)) (entry ∷ [])) t.placed is,
        ap (λ r. state_of (with_it (Some r))) (sym t.placed) ∙ shown
            ∙ ap (λ (x : Lists response_key_cmp (ResponseMessage P PH)). record (state_of taken) { responses = x }) (sym lists),
      )
    where
      put_at : ResponseKey → Lists response_key_cmp (ResponseMessage P PH)
      put_at key = with_at (state_of p).responses key (sends.put overflow p.limits.max_response_buffer_size
          (at (state_of p).responses key) message)

      putting : Lists response_key_cmp (ResponseMessage P PH) → List ResponseKey → Lists response_key_cmp (ResponseMessage P PH)
      putting lists keys = fold (λ lists key. with_at lists key
          (sends.put overflow p.limits.max_response_buffer_size (at lists key) message)) lists keys

  abbrev q : Parts Q QH P PH K
  q = with_it reach

  q_is : IsSoundStore q (entry ∷ []) × (state_of q ≡ record (state_of taken) { responses = put_lists })
  q_is = after_put reach where_it_goes

  abbrev loan : is_response_loan entry.stage ≡ true
  loan = loan_is p sound k entry f index c there sends_it

  details_is : response_details q entry.sender entry.slot ≡ details
  details_is = set_alike p.server_senders entry.sender (part.with_messages (sender_of entry.sender p.server_senders)
      (delivered m overflow details.channel entry.slot reach)) no_sender
      (λ x. get_or x.messages.details entry.slot no_response) (ap (λ (ns : List ResponseDetails). get_or ns entry.slot no_response)
      (details_as_were m overflow details.channel entry.slot reach)) entry.sender

  -- the parts after the response was delivered, and its handle is gone
  pub sent_parts : (noted : ResponseDetails) → details ≡ noted → (reach_is : Option ℕ) → reach_is ≡ reached p.client_senders p.table noted
      → (mid senders : List (Sender P ResponseDetails PH)) (table : TableView HandleEntry)
      → mid ≡ slice_set p.server_senders entry.sender (part.with_messages (sender_of entry.sender p.server_senders)
      (delivered m overflow noted.channel entry.slot reach_is))
      → senders ≡ slice_set mid entry.sender
      (without_loan (part.with_messages (sender_of entry.sender mid) (held_once_less (sender_of entry.sender mid).messages entry.slot)))
      → (place : Option Place) → IfSome place (IsAskedPlace p.client_senders noted c.receiver)
      → IsLoanEnded noted.active_request (found_under (removed p.table k) noted.active_request place) (removed p.table k) table
      → IsSoundStore (with_responders p senders table p.next) empty_hand
      × IsHandleGone (record (state_of p) { responses = put_lists }) k c.port.id (state_of (with_responders p senders table p.next))
  sent_parts noted same_details reach_is same_reach mid senders table ms ls place asked ended_so =
      let R : ResponseDetails → Type 0 = λ n. IfSome place (IsAskedPlace p.client_senders n c.receiver)
      × IsLoanEnded n.active_request (found_under (removed p.table k) n.active_request place) (removed p.table k) table in
      let r = subst R (sym (details_is ∙ same_details)) (asked, ended_so) in
      let e = ended_well q entry q_is.0 loan place
      (λ server loans t here is. asked_right q entry q_is.0 loan index c there sends_it server loans t here is place r.0) table r.1 in
      let mid_is : mid ≡ q.server_senders =
      ms
      ∙ ap (λ (n : ResponseDetails). slice_set p.server_senders entry.sender
      (part.with_messages (sender_of entry.sender p.server_senders) (delivered m overflow n.channel entry.slot reach_is)))
      (sym same_details)
      ∙ ap (λ o. slice_set p.server_senders entry.sender (part.with_messages (sender_of entry.sender p.server_senders)
      (delivered m overflow details.channel entry.slot o)))
      (same_reach ∙ ap (reached p.client_senders p.table) (sym same_details)) in
      let same : with_responders p senders table p.next ≡ ended q entry q_is.0 loan table =
      same_responders p (ended q entry q_is.0 loan table) senders table p.next
      (ls ∙ ap (λ (xs : List (Sender P ResponseDetails PH)). slice_set xs entry.sender
      (without_loan (part.with_messages (sender_of entry.sender xs) (held_once_less (sender_of entry.sender xs).messages entry.slot)))) mid_is)
      refl refl refl
      in
      let gone = response_loan_gone p sound k f.table_entry f.at f.loan index c there
      (sends_it ∙ sym (ap (λ (h : HandleEntry). h.sender) f.is)) put_lists in (
        subst (λ q. IsSoundStore q empty_hand) (sym same) e.0,
        gone_as (record (state_of p) { responses = put_lists })
            (record (state_of p) { handles = fin_map.remove (state_of p).handles k; responses = put_lists })
            (state_of (with_responders p senders table p.next)) k c.port.id gone
            (ap state_of same ∙ e.1 ∙ q_is.1 ∙ ap (λ (s : State Q QH P PH K). record s { responses = put_lists }) (removed_view p k)),
      )
