-- What is true of a core stays true as a request is loaned.
use Rattle.std.proofs.Common.{◌≡◌, ◌<◌, ◌+◌, ◌^◌, ℕ, true, false, [], ◌∷◌, None, Some, length, get_or, refl, sym, ap, ◌∙◌, subst, ⊎_elim, option_map, arith}
use Rattle.std.specs.Prelude.{◌==◌, ◌&&◌, slice_get, slice_index, count_by}
use Rattle.std.specs.FinMap as fin_map
use Rattle.std.proofs.lemmas.Bool.{false≢true, cases_lt}
use Rattle.std.proofs.lemmas.List.{get_or-set_same, get_or-set_other, length-set}
use Rattle.std.proofs.lemmas.Option.{slice_get-map, slice_get_within, get_or_from_slice_get}
use Rattle.rr_table.specs.Maps.{mark}
use Rattle.rr_table.specs.TableView.{TableEntry}
use Rattle.rr_sender.specs.Senders.{Messages, times, queue_at, borrowed_at, all_entries, loaned}
use Rattle.rr_store.specs.declared.handle_entry.HandleEntry.{HandleEntry}
use Rattle.rr_store.specs.declared.handle_entry.Stage.TheVariants as stage
use Rattle.rr_store.specs.declared.details.RequestDetails.{RequestDetails}
use Rattle.rr_store.specs.Parts.{Parts, Connected, ClientPart, Sender}
use Rattle.rr_store.specs.Views.{no_sender, no_request, sender_of, is_marked}
use Rattle.rr_store.specs.Sound.{IsSoundStore, IsCounted, IsHeldOnce, IsNumbered, IsAddressed, IsStored, IsVacated, IsShaped, empty_hand, handles, is_of_request, is_request_at, is_response_at, is_active_at, is_request_loan, is_in_sender, is_pending, is_active_of, is_response_loan, is_loan_from, is_received_at, request_details, request_uses, server_place}
use Rattle.rr_store.specs.Frames.{SameFrame}
use Rattle.rr_store.specs.Loaning.{with_loan_made, with_one_loan, with_messages, loan_details, loan_held, loan_place, with_loan_in_hand, with_request_loan}
use Rattle.rr_store.proofs.loaning.LoanedSender.{slot_cases, both_true, held_once_more, noted_elsewhere}
use Rattle.rr_store.proofs.base.senders.Counted.{counted_set}
use Rattle.rr_store.proofs.base.lists.Replaced.{set_alike, set_cases}
use Rattle.rr_store.proofs.base.hands.Stages.{loan_is_request, pending_is_request, handle_uses_request}
use Rattle.rr_store.proofs.base.frames.Frames.{client_before, client_after, framed_client_ports, framed_server_ports, framed_have_ports, framed_sized, senders_set, ports_set}
use Rattle.rr_store.proofs.base.frames.Kept.{framed_inserted}
use Rattle.rr_store.proofs.base.hands.Hands.{count-cons, none_in_hand, never, senders_same, inserted_sound}

module _ {Q QH P PH K : Type 0} (p : Parts Q QH P PH K) (sound : IsSoundStore p empty_hand) (index : ℕ) (c : ClientPart K)
    (at : slice_get p.clients index ≡ Some c) (slot len : ℕ) (header : QH)
    (free : slice_get (sender_of c.sender p.client_senders).messages.held slot ≡ Some 0)
    (unused : times slot (all_entries (sender_of c.sender p.client_senders).messages.queues) ≡ 0) where
  abbrev m : Messages Q RequestDetails QH
  m = (sender_of c.sender p.client_senders).messages

  abbrev fresh : Sender Q RequestDetails QH
  fresh = with_one_loan (with_messages (sender_of c.sender p.client_senders) (loaned m slot len (loan_details p c) header))

  abbrev after : Parts Q QH P PH K
  after = with_loan_in_hand p index c slot len header

  abbrev entry : HandleEntry
  entry = loan_held p c slot

  -- the client's sender
  pub own : (c.sender < length p.client_senders) × ((sender_of c.sender p.client_senders).owner ≡ c.port.id)
      × (length m.held ≡ c.port.pool_size)
      × (m.room ≡ c.port.initial_max_slice_len)
  own = sound.client_ports.own index c.connected (slice_get-map (λ (c : ClientPart K). c.connected) p.clients index
      ∙ ap (option_map (λ c. c.connected)) at)

  pub shaped : IsShaped p.limits.max_servers 1 p.limits.max_active_requests_per_client m
  shaped = sound.sized.client_senders c.sender own.0

  pub within : slot < length m.held
  within = slice_get_within m.held slot 0 free

  not_held : slice_index m.held slot ≡ 0
  not_held = get_or_from_slice_get m.held slot 0 0 free

  not_used : request_uses p c.sender slot ≡ 0
  not_used = omega (arith, not_held, unused)

  -- another slot is used
  pub not_here : (k j : ℕ) → 0 < request_uses p k j → (c.sender ≡ k) → (slot ≡ j) → ⊥
  not_here k j used e f = omega (arith, used, not_used, ap (λ a. request_uses p a j) e, ap (λ b. request_uses p c.sender b) f)

  frame : SameFrame p after.clients after.client_senders p.server_senders (p.next + 1)
  frame = record {
    clients_alike = ports_set (λ (c : ClientPart K). c.connected) p.clients index c (with_loan_made c) at refl;
    client_senders_alike = senders_set p.client_senders c.sender fresh (record {
      owner = refl;
      row = refl;
      receiver = refl;
      has_value = refl;
      slots = length-set m.held slot 1;
      room = refl;
      marks = refl;
      shaped = λ r n k h. record {
        contents = length-set m.contents slot _ ∙ h.contents ∙ sym (length-set m.held slot 1);
        details = length-set m.details slot _ ∙ h.details ∙ sym (length-set m.held slot 1);
        user_headers = length-set m.user_headers slot header ∙ h.user_headers ∙ sym (length-set m.held slot 1);
        queues = h.queues;
        borrowed = h.borrowed;
        queue_channels = h.queue_channels;
        borrowed_channels = h.borrowed_channels;
        capacity_is = h.capacity_is;
        within = h.within;
        inside = λ j some. omega (arith, h.inside j some, length-set m.held slot 1);
      };
    });
    server_senders_alike = senders_same p.server_senders;
    numbers = omega arith;
  }

  -- what is the same of the new sender is the same of each
  same_of : {Y : Type 0} (f : Sender Q RequestDetails QH → Y) → f fresh ≡ f (sender_of c.sender p.client_senders) → (k : ℕ)
      → f (sender_of k after.client_senders) ≡ f (sender_of k p.client_senders)
  same_of f same k = set_alike p.client_senders c.sender fresh no_sender f same k

  here_is : sender_of c.sender after.client_senders ≡ fresh
  here_is = get_or-set_same p.client_senders c.sender fresh no_sender own.0

  there_is : (k : ℕ) → (c.sender ≡ k → ⊥) → sender_of k after.client_senders ≡ sender_of k p.client_senders
  there_is k n = get_or-set_other p.client_senders c.sender k fresh no_sender (λ e. n (sym e))

  -- one slot is held once more
  held_is : (k j : ℕ) → slice_index (sender_of k after.client_senders).messages.held j ≡ slice_index
      (sender_of k p.client_senders).messages.held j + mark (c.sender == k && slot == j)
  held_is = held_once_more p.client_senders c.sender slot fresh own.0 refl within not_held

  used_is : (k j : ℕ) → request_uses after k j ≡ request_uses p k j + mark (c.sender == k && slot == j)
  used_is k j = omega (arith, held_is k j, same_of (λ x. times j (all_entries x.messages.queues)) refl k)

  -- the details of another slot, and of this one
  details_there : (k j : ℕ) → ((c.sender ≡ k) → (slot ≡ j) → ⊥) → request_details after k j ≡ request_details p k j
  details_there = noted_elsewhere p.client_senders c.sender slot fresh own.0 (loan_details p c) no_request refl

  details_here : request_details after c.sender slot ≡ loan_details p c
  details_here =
      ap (λ (x : Sender Q RequestDetails QH). get_or x.messages.details slot no_request) here_is
      ∙ get_or-set_same m.details slot (loan_details p c) no_request (omega (arith, within, shaped.details))

  -- a request that is used was used before, or is this one
  used_cases : {Z : Type 0} (k j : ℕ) → 0 < request_uses after k j
      → (c.sender ≡ k → slot ≡ j → request_details after k j ≡ loan_details p c → Z)
      → (0 < request_uses p k j → request_details after k j ≡ request_details p k j → Z) → Z
  used_cases k j used here before =
      slot_cases c.sender slot k j
      (λ e f. here e f (sym (ap (λ k. request_details after k j) e) ∙ sym (ap (λ j. request_details after c.sender j) f) ∙ details_here))
      (λ b n. before (omega (arith, used, used_is k j, ap mark b)) (details_there k j n))

  noted_before : (k j : ℕ) → 0 < request_uses p k j → request_details after k j ≡ request_details p k j
  noted_before k j used = details_there k j (not_here k j used)

  counted : IsCounted after (entry ∷ [])
  counted = record {
    requests = λ k j. let e : count_by (is_request_at k j) (entry ∷ []) ≡ mark (c.sender == k && slot == j) + 0 = count-cons
        (is_request_at k j) entry [] in omega (arith, held_is k j, sound.counted.requests k j, e);
    responses = λ k j. omega (arith, sound.counted.responses k j, none_in_hand (is_response_at k j) entry refl);
  }

  held_once : IsHeldOnce after (entry ∷ [])
  held_once = record {
    loans = λ n s e is.
        let one = sound.held_once.loans n s e is in
        slot_cases c.sender slot s.value.sender s.value.slot
        (λ a b. absurd (not_here s.value.sender s.value.slot (omega (arith, one)) a b))
        (λ b _. omega (arith, used_is s.value.sender s.value.slot, ap mark b, one));
    servers = λ k j server. omega (
      arith,
      sound.held_once.servers k j server,
      ap (times j) (same_of (λ x. queue_at x.messages (server_place p server) 0) refl k),
      none_in_hand (is_active_at k j server) entry (never (is_request_at k j entry)),
    );
    responses = λ k j. omega (arith, sound.held_once.responses k j);
  }

  -- a number in the table was given
  given : (k : ℕ) (s : TableEntry HandleEntry) → fin_map.get p.table.entries k ≡ Some s → k < p.next
  given k s e = ⊎_elim (λ h. h) (λ h. absurd (let f : None ≡ Some s = sym (sound.numbered.fresh k h) ∙ e in cc)) (cases_lt k p.next)

  number_of : {a b : RequestDetails} → a ≡ b → a.number ≡ b.number
  number_of e = ap (λ (n : RequestDetails). n.number) e

  numbered : IsNumbered after
  numbered =
      let n = sound.numbered in
      record {
        fresh = λ k h. n.fresh k (omega (arith, h));
        requests = λ k s e is. n.requests k s e is ∙ sym (number_of (noted_before s.value.sender s.value.slot
            (handle_uses_request p empty_hand sound.counted k s e (loan_is_request s.value.stage is))));
        pendings = λ k s e is. n.pendings k s e is ∙ sym (number_of (noted_before s.value.sender s.value.slot
            (handle_uses_request p empty_hand sound.counted k s e (pending_is_request s.value.stage is))));
        responses = n.responses;
        requests_below = λ k j h. used_cases k j h (λ _ _ f. omega (arith, number_of f))
            (λ u f. omega (arith, number_of f, n.requests_below k j u));
        responses_below = λ k j h. omega (arith, n.responses_below k j h);
        requests_apart = λ a i b j h g e. used_cases a i h
            (λ ea ei f. used_cases b j g
            (λ eb ej _. (sym ea ∙ eb, sym ei ∙ ej))
            (λ u v. absurd (omega (arith, number_of f, number_of v, e, n.requests_below b j u))))
            (λ u v. used_cases b j g
            (λ eb ej f. absurd (omega (arith, number_of f, number_of v, e, n.requests_below a i u)))
            (λ w x. n.requests_apart a i b j u w (sym (number_of v) ∙ e ∙ number_of x)));
        responses_apart = n.responses_apart;
        kinds_apart = λ a i b j h g e. used_cases a i h
            (λ _ _ f. omega (arith, number_of f, e, n.responses_below b j g))
            (λ u v. n.kinds_apart a i b j u g (sym (number_of v) ∙ e));
        actives_apart = λ k server a i s e is. (
          (λ h f. used_cases a i h (λ _ _ v. omega (arith, number_of v, f, given k s e))
              (λ u v. (n.actives_apart k server a i s e is).0 u (sym (number_of v) ∙ f))),
          (n.actives_apart k server a i s e is).1,
        );
        received = λ k s e is.
            let r = n.received k s e is in
            let d = client_after p empty_hand sound after.clients after.client_senders p.server_senders p.table.entries
            (p.next + 1) frame r.0 r.1 r.2 in
            (r.0, d.0, d.1, ap (λ (f : Connected K). f.port.id) d.2 ∙ r.3);
        answering = λ l i k server loans s u e is f.
            let a = n.answering l i k server loans s u e is f in (
              number_of (noted_before s.value.sender s.value.slot
                  (handle_uses_request p empty_hand sound.counted k s e (ap is_of_request is)))
                  ∙ a.0,
              a.1,
            );
      }

  owner_kept : (k : ℕ) → (sender_of k after.client_senders).owner ≡ (sender_of k p.client_senders).owner
  owner_kept k = same_of (λ x. x.owner) refl k

  before : (i : ℕ) (d : ClientPart K) → slice_get after.clients i ≡ Some d → (b : ClientPart K) × (slice_get p.clients i ≡ Some b)
      × (b.connected ≡ d.connected)
  before = client_before p empty_hand sound after.clients after.client_senders p.server_senders p.table.entries
      (p.next + 1) frame

  addressed : IsAddressed after
  addressed =
      let n = sound.addressed in
      record {
        requests = λ k j h. used_cases k j h
            (λ e _ f. ap (λ (n : RequestDetails). n.client) f ∙ sym own.1 ∙ ap (λ k. (sender_of k p.client_senders).owner) e
            ∙ sym (owner_kept k))
            (λ u f. ap (λ (n : RequestDetails). n.client) f ∙ n.requests k j u ∙ sym (owner_kept k));
        responses = n.responses;
        clients_below = λ k j h. omega (arith, n.clients_below k j h);
        actives_below = λ k j h. omega (arith, n.actives_below k j h);
        answered_below = λ k j h. omega (arith, n.answered_below k j h);
        answers = λ a i k j h g e. used_cases k j g
            (λ _ _ f. absurd (omega (arith, number_of f, e, n.answered_below a i h)))
            (λ u f. let r = n.answers a i k j h u (sym (number_of f) ∙ e) in (r.0, r.1 ∙ sym (owner_kept k), r.2));
        client_senders = λ l i j d h e named.
            let b = before j d e in
            ap (λ (f : Connected K). f.sender) (sym b.2)
            ∙ n.client_senders l i j b.0 h b.1 (ap (λ (f : Connected K). f.port.id) b.2 ∙ named);
        entries = λ l i channel j d e some.
            let b = before j d e in
            let r = n.entries l i channel j b.0 b.1 (omega (
              arith,
              some,
              ap (λ (f : Connected K). times i (queue_at (sender_of l p.server_senders).messages f.receiver channel)) b.2,
            )) in
            (r.0 ∙ ap (λ (f : Connected K). f.port.id) b.2, r.1);
      }

  stored : IsStored after (entry ∷ [])
  stored =
      let n = sound.stored in
      record {
        request_loans = counted_set p.client_senders c.sender fresh own.0 (λ x. x.loans) false true
            (λ l. handles p (is_in_sender is_request_loan l) []) (λ l. handles after (is_in_sender is_request_loan l) (entry ∷ []))
            (λ l. omega (arith, count-cons (is_in_sender is_request_loan l) entry [])) (omega arith) n.request_loans;
        pendings = λ l h. omega (
          arith,
          same_of (λ x. x.pendings) refl l,
          n.pendings l (omega (arith, h, length-set p.client_senders c.sender fresh)),
          none_in_hand (is_in_sender is_pending l) entry refl,
        );
        response_loans = λ l h. omega (arith, n.response_loans l h, none_in_hand (is_in_sender is_response_loan l) entry refl);
        active_loans = λ k server loans s e is. omega (
          arith,
          n.active_loans k server loans s e is,
          none_in_hand (is_loan_from p k) entry refl,
        );
        borrowed_requests = λ k server h. omega (
          arith,
          same_of (λ x. borrowed_at x.messages (server_place p server) 0) refl k,
          n.borrowed_requests k server (omega (arith, h, length-set p.client_senders c.sender fresh)),
          none_in_hand (is_in_sender (is_active_of server) k) entry refl,
        );
        borrowed_responses = λ k j channel d h e.
            let b = before j d e in
            let R : Connected K → Type 0 = λ f. borrowed_at (sender_of k p.server_senders).messages f.receiver channel ≡ handles p
            (is_received_at p k f.port.id channel) [] in
            omega (
              arith,
              subst R b.2 (n.borrowed_responses k j channel b.0 h b.1),
              none_in_hand (is_received_at p k d.port.id channel) entry refl,
            );
      }

  vacated : IsVacated after
  vacated = record {
    of_clients = λ k receiver channel none. sound.vacated.of_clients k receiver channel (λ i b e.
        let d = client_after p empty_hand sound after.clients after.client_senders p.server_senders p.table.entries
        (p.next + 1) frame i b e in
        λ is. none i d.0 d.1 (ap (λ (f : Connected K). f.receiver) d.2 ∙ is));
    of_servers = λ k receiver channel none.
        let r = sound.vacated.of_servers k receiver channel none in (
          same_of (λ x. queue_at x.messages receiver channel) refl k ∙ r.0,
          same_of (λ x. borrowed_at x.messages receiver channel) refl k
              ∙ r.1,
        );
    awaits_none = λ l i r server new fits.
        ap (λ ms. is_marked p.limits.max_servers ms i r server) (same_of (λ x. x.may_answer) refl l)
        ∙ sound.vacated.awaits_none l i r server (omega (arith, new)) fits;
  }

  -- the loan in hand
  in_hand : p.next < 2 ^ 62 → IsSoundStore after (entry ∷ [])
  in_hand left = record {
    counted = counted;
    held_once = held_once;
    numbered = numbered;
    addressed = addressed;
    inserted = framed_inserted p empty_hand sound after.clients after.client_senders p.server_senders (p.next + 1)
        frame;
    stored = stored;
    sized = framed_sized p empty_hand sound after.clients after.client_senders p.server_senders p.table.entries
        (p.next + 1) frame (omega (arith, left))
        (λ i d e. set_cases p.clients index (with_loan_made c) i d e
        (λ _ is. omega (arith, ap (λ (d : ClientPart K). d.loans_made) is, sound.sized.loans_made index c at))
        (λ _ b. omega (arith, sound.sized.loans_made i d b)));
    vacated = vacated;
    have_ports = framed_have_ports p empty_hand sound after.clients after.client_senders p.server_senders p.table.entries (p.next + 1) frame (λ k s at. at);
    client_ports = framed_client_ports p empty_hand sound after.clients after.client_senders p.server_senders
        p.table.entries
        (p.next + 1) frame;
    server_ports = framed_server_ports p empty_hand sound after.clients after.client_senders p.server_senders
        p.table.entries
        (p.next + 1) frame;
  }

  -- and in the table
  pub loan_sound : p.next < 2 ^ 62 → IsSoundStore (with_request_loan p index c slot len header) empty_hand
  loan_sound left = inserted_sound after [] p.next (loan_place p c slot) entry (in_hand left) (record {
    fresh = sound.numbered.fresh p.next (omega arith);
    below = omega arith;
    placed = ap (λ r. record { row = r; index = slot }) (sym (same_of (λ x. x.row) refl c.sender));
    loan = λ _. (
      omega (arith, used_is c.sender slot, not_used, ap mark (both_true c.sender slot c.sender slot refl refl)),
      sym (number_of details_here),
    );
    pending = λ h. absurd (false≢true h);
    response = λ h. absurd (false≢true h);
    once = λ k j. sound.held_once.responses k j;
    inside = λ server h. absurd (false≢true h);
    apart = λ server h. absurd (false≢true h);
    loans = λ server loans h. absurd (let f : stage.RequestMutUninit ≡ stage.ActiveRequest server loans = h in cc);
    received = λ h. absurd (false≢true h);
    answering = λ server loans h. absurd (let f : stage.RequestMutUninit ≡ stage.ActiveRequest server loans = h in cc);
    ported = record {
      request_loan = λ _.
          let d = client_after p empty_hand sound after.clients after.client_senders p.server_senders p.table.entries (p.next + 1) frame
          index c at in
          (index, d.0, d.1, ap (λ (f : Connected K). f.sender) d.2);
      pending = λ h. absurd (false≢true h);
      response_loan = λ h. absurd (false≢true h);
    };
  })
