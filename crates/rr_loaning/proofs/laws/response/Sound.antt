-- What is true of a core stays true as a response is loaned.
use Rattle.std.proofs.Common.{◌≡◌, ◌<◌, ◌+◌, ◌^◌, ℕ, Bool, true, false, [], ◌∷◌, None, Some, length, get_or, refl, sym, ap, ◌∙◌, ⊎_elim, arith}
use Rattle.std.specs.Prelude.{◌==◌, ◌&&◌, slice_get, slice_index, count_by}
use Rattle.std.specs.FinMap as fin_map
use Rattle.std.proofs.lemmas.Bool.{cases_lt, ne_eqb}
use Rattle.std.proofs.lemmas.List.{get_or-set_same, get_or-set_other, length-set}
use Rattle.std.proofs.lemmas.Option.{slice_get_within, get_or_from_slice_get}
use Rattle.rr_table.specs.Maps.{tally, mark}
use Rattle.rr_table.specs.TableView.{TableEntry}
use Rattle.rr_sender.specs.Senders.{Messages, times, queue_at, borrowed_at, all_entries, loaned}
use Rattle.rr_protocol.specs.Limits.{worst_case_requests}
use Rattle.rr_store.specs.declared.handle_entry.HandleEntry.{HandleEntry}
use Rattle.rr_store.specs.declared.details.ResponseDetails.{ResponseDetails}
use Rattle.rr_store.specs.Parts.{Parts, ServerPart, Sender, ClientPart}
use Rattle.rr_store.specs.Views.{no_sender, no_response, sender_of}
use Rattle.rr_store.specs.Sound.{IsSoundStore, IsCounted, IsHeldOnce, IsNumbered, IsAddressed, IsStored, IsVacated, IsShaped, Hand, handles, is_request_at, is_response_at, is_active_at, is_of_response, is_request_loan, is_in_sender, is_pending, is_active_of, is_response_loan, is_loan_from, is_received, is_received_at, response_details, request_uses, response_uses}
use Rattle.rr_store.specs.Frames.{SameFrame}
use Rattle.rr_store.specs.Loaning.{with_messages, with_one_loan}
use Rattle.rr_store.specs.Answering.{active_entry, response_loan_held, response_loan_details, with_response_loan_in_hand}
use Rattle.rr_store.proofs.base.senders.Counted.{counted_set}
use Rattle.rr_store.proofs.base.lists.Replaced.{set_alike}
use Rattle.rr_store.proofs.base.hands.Stages.{handle_uses_response, response_loan_is_response, received_is_response}
use Rattle.rr_store.proofs.base.frames.Frames.{framed_client_ports, framed_server_ports, framed_have_ports, framed_sized, senders_set}
use Rattle.rr_store.proofs.base.frames.Kept.{framed_inserted}
use Rattle.rr_store.proofs.base.hands.Hands.{count-cons, one_in_hand, none_in_hand, senders_same}
use Rattle.rr_store.proofs.base.views.Agreeing.{sender_within}
use Rattle.rr_store.proofs.base.views.Counts.{listed}
use Rattle.rr_store.proofs.loaning.LoanedSender.{slot_cases, both_true, held_once_more, noted_elsewhere}
use Rattle.rr_store.proofs.base.senders.Queues.{times_queue}
use Rattle.rr_store.proofs.base.lists.Tallies.{tally-same}

-- a response loaned from an active request, whose own handle is in hand
module _ {Q QH P PH K : Type 0} (p : Parts Q QH P PH K) (index : ℕ) (c : ServerPart K) (at : slice_get p.servers index ≡ Some c)
    (n rl rs loans : ℕ)
    (sound : IsSoundStore p (active_entry c.port.id rl rs loans ∷ [])) (taken : fin_map.get p.table.entries n ≡ None) (given : n < p.next)
    (slot len : ℕ) (header : PH)
    (free : slice_get (sender_of c.sender p.server_senders).messages.held slot ≡ Some 0)
    (unused : times slot (all_entries (sender_of c.sender p.server_senders).messages.queues) ≡ 0) where
  abbrev m : Messages P ResponseDetails PH
  m = (sender_of c.sender p.server_senders).messages

  abbrev details : ResponseDetails
  details = response_loan_details p c n rl rs

  abbrev fresh : Sender P ResponseDetails PH
  fresh = with_one_loan (with_messages (sender_of c.sender p.server_senders) (loaned m slot len details header))

  -- the parts then
  abbrev pub after : Parts Q QH P PH K
  after = with_response_loan_in_hand p c details slot len header

  abbrev active : HandleEntry
  active = active_entry c.port.id rl rs loans

  abbrev entry : HandleEntry
  entry = response_loan_held c slot

  abbrev hand : Hand
  hand = active ∷ []

  abbrev hand_after : Hand
  hand_after = active ∷ entry ∷ []

  -- the server's sender
  own : (c.sender < length p.server_senders) × ((sender_of c.sender p.server_senders).owner ≡ c.port.id)
      × (length m.held ≡ c.port.pool_size)
      × (m.room ≡ c.port.initial_max_slice_len)
  own = sound.server_ports.own index c.connected (listed (λ c. c.connected) p.servers index c at)

  shaped : IsShaped p.limits.max_clients (worst_case_requests p.limits) p.limits.max_response_buffer_size m
  shaped = sound.sized.server_senders c.sender own.0

  within : slot < length m.held
  within = slice_get_within m.held slot 0 free

  not_held : slice_index m.held slot ≡ 0
  not_held = get_or_from_slice_get m.held slot 0 0 free

  -- the slot was free
  pub not_used : response_uses p c.sender slot ≡ 0
  not_used = omega (arith, not_held, unused)

  -- another slot is used
  pub not_here : (k j : ℕ) → 0 < response_uses p k j → (c.sender ≡ k) → (slot ≡ j) → ⊥
  not_here k j used e f = omega (arith, used, not_used, ap (λ a. response_uses p a j) e, ap (λ b. response_uses p c.sender b) f)

  -- the request is used
  pub asked : 0 < request_uses p rl rs
  asked =
      let here : is_request_at rl rs active ≡ true = both_true rl rs rl rs refl refl in
      omega (arith, sound.counted.requests rl rs, one_in_hand (is_request_at rl rs) active here)

  -- ports and senders are as many, and of the same sizes
  pub frame : SameFrame p p.clients p.client_senders after.server_senders (p.next + 1)
  frame = record {
    clients_alike = refl;
    client_senders_alike = senders_same p.client_senders;
    server_senders_alike = senders_set p.server_senders c.sender fresh (record {
      owner = refl;
      row = refl;
      receiver = refl;
      has_value = refl;
      slots = length-set m.held slot 1;
      room = refl;
      marks = refl;
      shaped = λ r n k h. record {
        contents = length-set m.contents slot _ ∙ h.contents ∙ sym (length-set m.held slot 1);
        details = length-set m.details slot _ ∙ h.details ∙ sym (length-set m.held slot 1);
        user_headers = length-set m.user_headers slot header ∙ h.user_headers ∙ sym (length-set m.held slot 1);
        queues = h.queues;
        borrowed = h.borrowed;
        queue_channels = h.queue_channels;
        borrowed_channels = h.borrowed_channels;
        capacity_is = h.capacity_is;
        within = h.within;
        inside = λ j some. omega (arith, h.inside j some, length-set m.held slot 1);
      };
    });
    numbers = omega arith;
  }

  -- what is the same of the new sender is the same of each
  pub same_of : {Y : Type 0} (f : Sender P ResponseDetails PH → Y) → f fresh ≡ f (sender_of c.sender p.server_senders) → (k : ℕ)
      → f (sender_of k after.server_senders) ≡ f (sender_of k p.server_senders)
  same_of f same k = set_alike p.server_senders c.sender fresh no_sender f same k

  here_is : sender_of c.sender after.server_senders ≡ fresh
  here_is = get_or-set_same p.server_senders c.sender fresh no_sender own.0

  there_is : (k : ℕ) → (c.sender ≡ k → ⊥) → sender_of k after.server_senders ≡ sender_of k p.server_senders
  there_is k n = get_or-set_other p.server_senders c.sender k fresh no_sender (λ e. n (sym e))

  -- one slot is held once more
  held_is : (k j : ℕ) → slice_index (sender_of k after.server_senders).messages.held j ≡ slice_index
      (sender_of k p.server_senders).messages.held j + mark (c.sender == k && slot == j)
  held_is = held_once_more p.server_senders c.sender slot fresh own.0 refl within not_held

  -- and used once more
  pub used_is : (k j : ℕ) → response_uses after k j ≡ response_uses p k j + mark (c.sender == k && slot == j)
  used_is k j = omega (arith, held_is k j, same_of (λ x. times j (all_entries x.messages.queues)) refl k)

  -- the details of another slot
  details_there : (k j : ℕ) → ((c.sender ≡ k) → (slot ≡ j) → ⊥) → response_details after k j ≡ response_details p k j
  details_there = noted_elsewhere p.server_senders c.sender slot fresh own.0 details no_response refl

  -- and the details of this one
  pub details_here : response_details after c.sender slot ≡ details
  details_here =
      ap (λ (x : Sender P ResponseDetails PH). get_or x.messages.details slot no_response) here_is
      ∙ get_or-set_same m.details slot details no_response (omega (arith, within, shaped.details))

  -- a response that is used was used before, or is this one
  pub used_cases : {Z : Type 0} (k j : ℕ) → 0 < response_uses after k j
      → (c.sender ≡ k → slot ≡ j → response_details after k j ≡ details → Z)
      → (0 < response_uses p k j → response_details after k j ≡ response_details p k j → Z) → Z
  used_cases k j used here before =
      slot_cases c.sender slot k j
      (λ e f. here e f (sym (ap (λ k. response_details after k j) e) ∙ sym (ap (λ j. response_details after c.sender j) f) ∙ details_here))
      (λ b n. before (omega (arith, used, used_is k j, ap mark b)) (details_there k j n))

  noted_before : (k j : ℕ) → 0 < response_uses p k j → response_details after k j ≡ response_details p k j
  noted_before k j used = details_there k j (not_here k j used)

  -- the details of a response with a handle
  noted_of : (k : ℕ) (s : TableEntry HandleEntry) → fin_map.get p.table.entries k ≡ Some s → is_of_response s.value.stage ≡ true
      → response_details after s.value.sender s.value.slot ≡ response_details p s.value.sender s.value.slot
  noted_of k s e is = noted_before s.value.sender s.value.slot (handle_uses_response p hand sound.counted k s e is)

  -- one more in hand
  in_hand : (test : HandleEntry → Bool) → count_by test hand_after ≡ count_by test hand + count_by test (entry ∷ [])
  in_hand test = omega (arith, count-cons test active (entry ∷ []), count-cons test active [])

  no_more : (test : HandleEntry → Bool) → test entry ≡ false → count_by test hand_after ≡ count_by test hand
  no_more test e = omega (arith, in_hand test, none_in_hand test entry e)

  -- the handles of the table are loaned from where they were, and received where they were
  pub loans_same : (k : ℕ) → tally (λ (s : TableEntry HandleEntry). is_loan_from after k s.value) p.table.entries ≡ tally
      (λ (s : TableEntry HandleEntry). is_loan_from p k s.value) p.table.entries
  loans_same k = tally-same p.table.entries _ _ (λ j s e. go j s e (is_response_loan s.value.stage) refl)
    where
      go : (j : ℕ) (s : TableEntry HandleEntry) → fin_map.get p.table.entries j ≡ Some s → (b : Bool) → is_response_loan s.value.stage ≡ b
          → is_loan_from after k s.value ≡ is_loan_from p k s.value
      go j s e true is = ap (λ (n : ResponseDetails). is_response_loan s.value.stage && n.active_request == k)
          (noted_of j s e (response_loan_is_response s.value.stage is))
      go j s e false is = rw is refl

  received_same : (sender client channel : ℕ) → tally (λ (s : TableEntry HandleEntry). is_received_at after sender client channel s.value)
      p.table.entries
      ≡ tally (λ (s : TableEntry HandleEntry). is_received_at p sender client channel s.value) p.table.entries
  received_same sender client channel = tally-same p.table.entries _ _ (λ j s e. go j s e (is_received s.value.stage) refl)
    where
      go : (j : ℕ) (s : TableEntry HandleEntry) → fin_map.get p.table.entries j ≡ Some s → (b : Bool) → is_received s.value.stage ≡ b
          → is_received_at after sender client channel s.value ≡ is_received_at p sender client channel s.value
      go j s e true is =
          ap (λ (n : ResponseDetails). is_received s.value.stage &&
          (s.value.sender == sender && (n.client == client && n.channel == channel)))
          (noted_of j s e (received_is_response s.value.stage is))
      go j s e false is = rw is refl

  counted : IsCounted after hand_after
  counted = record {
    requests = λ k j. omega (arith, sound.counted.requests k j, no_more (is_request_at k j) refl);
    responses = λ k j. let e : count_by (is_response_at k j) (entry ∷ []) ≡ mark (c.sender == k && slot == j) + 0 = count-cons
        (is_response_at k j) entry [] in
        omega (arith, held_is k j, sound.counted.responses k j, in_hand (is_response_at k j), e);
  }

  held_once : IsHeldOnce after hand_after
  held_once = record {
    loans = λ k s e is. sound.held_once.loans k s e is;
    servers = λ k j server. omega (
      arith,
      sound.held_once.servers k j server,
      no_more (is_active_at k j server) refl,
    );
    responses = λ k j. let e : count_by (is_response_at k j) (entry ∷ []) ≡ mark (c.sender == k && slot == j) + 0 = count-cons
        (is_response_at k j) entry [] in
        omega (arith, sound.held_once.responses k j, used_is k j, in_hand (is_response_at k j), e);
  }

  -- a number in the table was given
  before_next : (k : ℕ) (s : TableEntry HandleEntry) → fin_map.get p.table.entries k ≡ Some s → k < p.next
  before_next k s e = ⊎_elim (λ h. h) (λ h. absurd (let f : None ≡ Some s = sym (sound.numbered.fresh k h) ∙ e in cc)) (cases_lt k p.next)

  number_of : {a b : ResponseDetails} → a ≡ b → a.number ≡ b.number
  number_of e = ap (λ (n : ResponseDetails). n.number) e

  numbered : IsNumbered after
  numbered =
      let n = sound.numbered in
      record {
        fresh = λ k h. n.fresh k (omega (arith, h));
        requests = n.requests;
        pendings = n.pendings;
        responses = λ k s e is. n.responses k s e is ∙ sym (number_of (noted_of k s e is));
        requests_below = λ k j h. omega (arith, n.requests_below k j h);
        responses_below = λ k j h. used_cases k j h (λ _ _ f. omega (arith, number_of f))
            (λ u f. omega (arith, number_of f, n.responses_below k j u));
        requests_apart = n.requests_apart;
        responses_apart = λ a i b j h g e. used_cases a i h
            (λ ea ei f. used_cases b j g
            (λ eb ej _. (sym ea ∙ eb, sym ei ∙ ej))
            (λ u v. absurd (omega (arith, number_of f, number_of v, e, n.responses_below b j u))))
            (λ u v. used_cases b j g
            (λ eb ej f. absurd (omega (arith, number_of f, number_of v, e, n.responses_below a i u)))
            (λ w x. n.responses_apart a i b j u w (sym (number_of v) ∙ e ∙ number_of x)));
        kinds_apart = λ a i b j h g e. used_cases b j g
            (λ _ _ f. omega (arith, number_of f, e, n.requests_below a i h))
            (λ u v. n.kinds_apart a i b j h u (e ∙ number_of v));
        actives_apart = λ k server a i s e is. (
          (n.actives_apart k server a i s e is).0,
          (λ h f. used_cases a i h (λ _ _ v. omega (arith, number_of v, f, before_next k s e))
              (λ u v. (n.actives_apart k server a i s e is).1 u (sym (number_of v) ∙ f))),
        );
        received = λ k s e is.
            let r = n.received k s e is in
            (r.0, r.1, r.2, r.3 ∙ sym (ap (λ (a : ResponseDetails). a.client) (noted_of k s e (received_is_response s.value.stage is))));
        answering = λ a i k server loans s u e is f. used_cases a i u
            (λ _ _ v. absurd (let g : None ≡ Some s = sym taken
            ∙ ap (fin_map.get p.table.entries) (sym (ap (λ (a : ResponseDetails). a.active_request) v) ∙ f) ∙ e in cc))
            (λ w v.
            let b = n.answering a i k server loans s w e is (sym (ap (λ (a : ResponseDetails). a.active_request) v) ∙ f) in (b.0 ∙ sym (ap (λ (a : ResponseDetails). a.request) v), ap (λ (a : ResponseDetails). a.server) v ∙ b.1));
      }

  addressed : IsAddressed after
  addressed =
      let n = sound.addressed in
      record {
        requests = n.requests;
        responses = λ k j h. used_cases k j h
            (λ e _ f. ap (λ (n : ResponseDetails). n.server) f ∙ sym own.1 ∙ ap (λ k. (sender_of k p.server_senders).owner) e
            ∙ sym (same_of (λ x. x.owner) refl k))
            (λ u f. ap (λ (n : ResponseDetails). n.server) f ∙ n.responses k j u ∙ sym (same_of (λ x. x.owner) refl k));
        clients_below = λ k j h. used_cases k j h
            (λ _ _ f. omega (arith, ap (λ (n : ResponseDetails). n.client) f, n.requests rl rs asked, sound.client_ports.numbered rl there))
            (λ u f. omega (arith, ap (λ (n : ResponseDetails). n.client) f, n.clients_below k j u));
        actives_below = λ k j h. used_cases k j h
            (λ _ _ f. omega (arith, ap (λ (n : ResponseDetails). n.active_request) f, given))
            (λ u f. omega (arith, ap (λ (n : ResponseDetails). n.active_request) f, n.actives_below k j u));
        answered_below = λ k j h. used_cases k j h
            (λ _ _ f. omega (arith, ap (λ (n : ResponseDetails). n.request) f, sound.numbered.requests_below rl rs asked))
            (λ u f. omega (arith, ap (λ (n : ResponseDetails). n.request) f, n.answered_below k j u));
        answers = λ a i k j h g e. used_cases a i h
            (λ _ _ f. let same = sound.numbered.requests_apart k j rl rs g asked (e ∙ ap (λ (n : ResponseDetails). n.request) f) in (
              ap (λ (n : ResponseDetails). n.channel) f ∙ sym same.1,
              ap (λ (n : ResponseDetails). n.client) f ∙ n.requests rl rs asked
                  ∙ sym (ap (λ l. (sender_of l p.client_senders).owner) same.0),
              same.0 ∙ sym (ap (λ (n : ResponseDetails). n.client_sender) f),
            ))
            (λ u f. let r = n.answers a i k j u g (e ∙ ap (λ (n : ResponseDetails). n.request) f) in (
              ap (λ (n : ResponseDetails). n.channel) f ∙ r.0,
              ap (λ (n : ResponseDetails). n.client) f ∙ r.1,
              r.2 ∙ sym (ap (λ (n : ResponseDetails). n.client_sender) f),
            ));
        client_senders = λ k j i d h e named. used_cases k j h
            (λ _ _ f.
            let its = sound.client_ports.own i d.connected (listed (λ (c : ClientPart K). c.connected) p.clients i d e) in
            sound.client_ports.owned_once d.sender rl its.0 there
            (its.1 ∙ named ∙ ap (λ (n : ResponseDetails). n.client) f ∙ n.requests rl rs asked)
            ∙ sym (ap (λ (n : ResponseDetails). n.client_sender) f))
            (λ u f. n.client_senders k j i d u e (named ∙ ap (λ (n : ResponseDetails). n.client) f)
            ∙ sym (ap (λ (n : ResponseDetails). n.client_sender) f));
        entries = λ l i channel j d e some.
            let old : 0 < times i (queue_at (sender_of l p.server_senders).messages d.receiver channel) = omega
            (arith, some, same_of (λ x. times i (queue_at x.messages d.receiver channel)) refl l) in
            let noted = noted_before l i (omega (arith, old, times_queue (sender_of l p.server_senders).messages i d.receiver channel)) in
            let r = n.entries l i channel j d e old in
            (ap (λ (n : ResponseDetails). n.client) noted ∙ r.0, ap (λ (n : ResponseDetails). n.channel) noted ∙ r.1);
      }
    where
      there : rl < length p.client_senders
      there = sender_within p.client_senders rl rs (omega (
        arith,
        sound.counted.requests rl rs,
        one_in_hand (is_request_at rl rs) active (both_true rl rs rl rs refl refl),
      ))

  stored : IsStored after hand_after
  stored =
      let old = sound.stored in
      record {
        request_loans = λ l h. omega (arith, old.request_loans l h, no_more (is_in_sender is_request_loan l) refl);
        pendings = λ l h. omega (arith, old.pendings l h, no_more (is_in_sender is_pending l) refl);
        response_loans = counted_set p.server_senders c.sender fresh own.0 (λ x. x.loans) false true
            (λ l. handles p (is_in_sender is_response_loan l) hand) (λ l. handles after (is_in_sender is_response_loan l) hand_after)
            (λ l. omega (arith, in_hand (is_in_sender is_response_loan l), count-cons (is_in_sender is_response_loan l) entry []))
            (omega arith) old.response_loans;
        active_loans = λ k server loans s e is.
            let other : is_loan_from after k entry ≡ false = ap (λ (a : ResponseDetails). a.active_request == k) details_here
            ∙ ne_eqb n k (λ f. absurd (let g : None ≡ Some s = sym (ap (fin_map.get p.table.entries) (sym f) ∙ taken) ∙ e in cc)) in
            omega (arith, old.active_loans k server loans s e is, loans_same k, no_more (is_loan_from after k) other, same_hand k);
        borrowed_requests = λ k server h. omega (
          arith,
          old.borrowed_requests k server h,
          no_more (is_in_sender (is_active_of server) k) refl,
        );
        borrowed_responses = λ k j channel d h e. omega (
          arith,
          same_of (λ x. borrowed_at x.messages d.receiver channel) refl k,
          old.borrowed_responses k j channel d (omega (arith, h, length-set p.server_senders c.sender fresh)) e,
          received_same k d.port.id channel,
          no_more (is_received_at after k d.port.id channel) refl,
          same_received k d.port.id channel,
        );
      }
    where
      same_hand : (k : ℕ) → count_by (is_loan_from after k) hand ≡ count_by (is_loan_from p k) hand
      same_hand k = omega (arith, none_in_hand (is_loan_from after k) active refl, none_in_hand (is_loan_from p k) active refl)

      same_received : (sender client channel : ℕ) → count_by (is_received_at after sender client channel) hand ≡ count_by
          (is_received_at p sender client channel) hand
      same_received sender client channel = omega (
        arith,
        none_in_hand (is_received_at after sender client channel) active refl,
        none_in_hand (is_received_at p sender client channel) active refl,
      )

  vacated : IsVacated after
  vacated = record {
    of_clients = λ k receiver channel none.
        let r = sound.vacated.of_clients k receiver channel none in (
          same_of (λ x. queue_at x.messages receiver channel) refl k ∙ r.0,
          same_of (λ x. borrowed_at x.messages receiver channel) refl k
              ∙ r.1,
        );
    of_servers = sound.vacated.of_servers;
    awaits_none = λ l i r server new fits. sound.vacated.awaits_none l i r server (omega (arith, new)) fits;
  }

  -- the loan in hand beside the active request
  pub response_loan_in_hand : p.next < 2 ^ 62 → IsSoundStore after hand_after
  response_loan_in_hand left = record {
    counted = counted;
    held_once = held_once;
    numbered = numbered;
    addressed = addressed;
    inserted = framed_inserted p hand sound p.clients p.client_senders after.server_senders (p.next + 1) frame;
    stored = stored;
    sized = framed_sized p hand sound p.clients p.client_senders after.server_senders p.table.entries (p.next + 1)
        frame
        (omega (arith, left))
        (λ i d e. omega (arith, sound.sized.loans_made i d e));
    vacated = vacated;
    have_ports = framed_have_ports p hand sound p.clients p.client_senders after.server_senders p.table.entries (p.next + 1) frame (λ k s at. at);
    client_ports = framed_client_ports p hand sound p.clients p.client_senders after.server_senders p.table.entries
        (p.next + 1) frame;
    server_ports = framed_server_ports p hand sound p.clients p.client_senders after.server_senders p.table.entries
        (p.next + 1) frame;
  }
