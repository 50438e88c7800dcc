-- What is true of a core stays true as a request in hand is put into the queues to all servers, and waits for them.
use Rattle.std.proofs.Common.{◌≡◌, ◌≢◌, ◌<◌, ◌≤◌, ◌+◌, ℕ, Bool, true, [], ◌∷◌, Some, length, get_or, refl, sym, ap, ◌∙◌, ⊎_elim, arith}
use Rattle.std.specs.Prelude.{◌==◌, ◌&&◌, slice_get, slice_index}
use Rattle.std.specs.FinMap as fin_map
use Rattle.std.proofs.lemmas.Bool.{cases_eq, eq-eqb, and_parts}
use Rattle.std.proofs.lemmas.List.{get_or-set_same, get_or-set_other, length-set}
use Rattle.rr_table.specs.Maps.{tally, mark}
use Rattle.rr_table.specs.TableView.{TableEntry}
use Rattle.rr_table.proofs.MapLaws.{tally-at, tally-le}
use Rattle.rr_sender.specs.Senders.{Messages, times, all_entries, queue_at, borrowed_at}
use Rattle.rr_sender.proofs.EntryLaws.{mark-same, mark-other}
use Rattle.rr_store.specs.declared.handle_entry.HandleEntry.{HandleEntry}
use Rattle.rr_store.specs.declared.handle_entry.Stage.{Stage}
use Rattle.rr_store.specs.declared.details.RequestDetails.{RequestDetails}
use Rattle.rr_store.specs.Parts.{Parts, ServerPart, Sender}
use Rattle.rr_store.specs.Views.{no_sender, no_request, sender_of, is_marked}
use Rattle.rr_store.specs.Sound.{IsSoundStore, IsCounted, IsHeldOnce, IsStored, IsVacated, IsShaped, handles, is_request_at, is_response_at, is_active_at, is_in_sender, is_request_loan, is_pending, is_active_of, is_response_loan, is_loan_from, is_received_at, has_request_at, request_uses, request_details, server_place}
use Rattle.rr_store.specs.Frames.{SameFrame}
use Rattle.rr_store.specs.Kept.{DetailsKept}
use Rattle.rr_store.specs.Sending.{marks_for, queued, request_held, pending_held, with_one_sent, with_request_in_queues}
use Rattle.rr_store.proofs.base.lists.Adding.{makes_requests}
use Rattle.rr_store.proofs.base.views.Agreeing.{sender_within}
use Rattle.rr_store.proofs.base.frames.Frames.{framed_client_ports, framed_server_ports, framed_have_ports, framed_sized, senders_set}
use Rattle.rr_store.proofs.base.hands.Hands.{count-cons, one_in_hand, none_in_hand, never, senders_same}
use Rattle.rr_store.proofs.base.frames.Kept.{framed_inserted, kept_numbered, kept_addressed}
use Rattle.rr_store.proofs.base.senders.Counted.{counted_set}
use Rattle.rr_store.proofs.base.lists.Replaced.{set_alike}
use Rattle.rr_sending.proofs.laws.put.Sender.{queue_there, queue_other, times_queue_put, times_all_put, put_shaped}
use Rattle.rr_store.proofs.base.senders.Queues.{times_queue}
use Rattle.rr_sending.proofs.laws.request.MayAnswer.{places_apart, as_many_marks, awaited_none}
use Rattle.rr_store.proofs.base.senders.Connected.{servers_placed}
use Rattle.rr_store.proofs.base.lookups.Shown.{held_within}
use Rattle.rr_store.proofs.base.hands.Stages.{loan_is_request, handle_uses_request, handle_uses_response}

module _ {Q QH P PH K : Type 0} (p : Parts Q QH P PH K) (sender slot connections : ℕ)
    (sound : IsSoundStore p (request_held sender slot ∷ [])) (one : request_uses p sender slot ≡ 1) where
  abbrev entry : HandleEntry
  entry = request_held sender slot

  abbrev pend : HandleEntry
  pend = pending_held sender slot connections

  abbrev overflow : Bool
  overflow = p.limits.enable_safe_overflow_for_requests

  abbrev m : Messages Q RequestDetails QH
  m = (sender_of sender p.client_senders).messages

  abbrev pub fresh : Sender Q RequestDetails QH
  fresh = with_one_sent (queued p slot (sender_of sender p.client_senders))

  abbrev after : Parts Q QH P PH K
  after = with_request_in_queues p sender slot

  -- the request in hand is the only use of its slot
  counts_here : slice_index m.held slot ≡ tally (has_request_at sender slot) p.table.entries + 1
  counts_here = omega (
    arith,
    sound.counted.requests sender slot,
    one_in_hand (is_request_at sender slot) entry (rw (eq-eqb sender sender refl) (eq-eqb slot slot refl)),
  )

  pub in_no_queue : times slot (all_entries m.queues) ≡ 0
  in_no_queue = omega (arith, counts_here, one)

  pub no_other : tally (has_request_at sender slot) p.table.entries ≡ 0
  no_other = omega (arith, counts_here, one)

  pub has_value : 0 < slice_index m.held slot
  has_value = omega (arith, counts_here)

  pub there : sender < length p.client_senders
  there = sender_within p.client_senders sender slot has_value

  pub inside : slot < length m.held
  inside = held_within m.held slot has_value

  pub shaped : IsShaped p.limits.max_servers 1 p.limits.max_active_requests_per_client m
  shaped = sound.sized.client_senders sender there

  pub capacity : 0 < m.capacity
  capacity = omega (arith, shaped.capacity_is, makes_requests p.limits sound.sized.limits_fit)

  frame : SameFrame p p.clients after.client_senders p.server_senders p.next
  frame = record {
    clients_alike = refl;
    client_senders_alike = senders_set p.client_senders sender fresh (record {
      owner = refl;
      row = refl;
      receiver = refl;
      has_value = refl;
      slots = refl;
      room = refl;
      marks = as_many_marks (sender_of sender p.client_senders).may_answer (marks_for p.limits.max_servers slot p.servers);
      shaped = put_shaped m shaped capacity overflow slot has_value (λ (s : ServerPart K). s.receiver) p.servers
          (servers_placed p (entry ∷ []) sound) (places_apart p (entry ∷ []) sound);
    });
    server_senders_alike = senders_same p.server_senders;
    numbers = omega arith;
  }

  -- what is the same of the new sender is the same of each
  pub same_of : {Y : Type 0} (f : Sender Q RequestDetails QH → Y) → f fresh ≡ f (sender_of sender p.client_senders) → (k : ℕ)
      → f (sender_of k after.client_senders) ≡ f (sender_of k p.client_senders)
  same_of f same k = set_alike p.client_senders sender fresh no_sender f same k

  pub here_is : sender_of sender after.client_senders ≡ fresh
  here_is = get_or-set_same p.client_senders sender fresh no_sender there

  pub there_is : (k : ℕ) → (sender ≡ k → ⊥) → sender_of k after.client_senders ≡ sender_of k p.client_senders
  there_is k n = get_or-set_other p.client_senders sender k fresh no_sender (λ e. n (sym e))

  at_here : {Y : Type 0} (f : Sender Q RequestDetails QH → Y) (k : ℕ) → sender ≡ k → f (sender_of k after.client_senders) ≡ f fresh
  at_here f k e = ap f (ap (λ k. sender_of k after.client_senders) (sym e) ∙ here_is)

  at_before : {Y : Type 0} (f : Sender Q RequestDetails QH → Y) (k : ℕ) → sender ≡ k
      → f (sender_of k p.client_senders) ≡ f (sender_of sender p.client_senders)
  at_before f k e = ap (λ k. f (sender_of k p.client_senders)) (sym e)

  pub details_same : (l i : ℕ) → request_details after l i ≡ request_details p l i
  details_same l i = same_of (λ x. get_or x.messages.details i no_request) refl l

  held_same : (l i : ℕ) → slice_index (sender_of l after.client_senders).messages.held i ≡ slice_index
      (sender_of l p.client_senders).messages.held i
  held_same l i = same_of (λ x. slice_index x.messages.held i) refl l

  -- no other slot is used more often
  entries_less : (l i : ℕ) → (sender ≡ l → slot ≡ i → ⊥) → times i (all_entries (sender_of l after.client_senders).messages.queues) ≤ times
      i
      (all_entries (sender_of l p.client_senders).messages.queues)
  entries_less l i other =
      ⊎_elim
      (λ e. omega (
        arith,
        at_here (λ x. times i (all_entries x.messages.queues)) l e,
        at_before (λ x. times i (all_entries x.messages.queues)) l e,
        times_all_put m shaped capacity overflow slot has_value (λ (s : ServerPart K). s.receiver) p.servers
            (servers_placed p (entry ∷ []) sound)
            (places_apart p (entry ∷ []) sound) i (other e),
      ))
      (λ n. omega (arith, ap (λ (x : Sender Q RequestDetails QH). times i (all_entries x.messages.queues)) (there_is l n)))
      (cases_eq sender l)

  used_less : (l i : ℕ) → (sender ≡ l → slot ≡ i → ⊥) → request_uses after l i ≤ request_uses p l i
  used_less l i other = omega (arith, held_same l i, entries_less l i other)

  used_before : (l i : ℕ) → 0 < request_uses after l i → 0 < request_uses p l i
  used_before l i used =
      ⊎_elim
      (λ e. ⊎_elim
      (λ f. omega (arith, one, ap (λ l. request_uses p l i) e, ap (λ i. request_uses p sender i) f))
      (λ n. omega (arith, used, used_less l i (λ _ f. n f)))
      (cases_eq slot i))
      (λ n. omega (arith, used, used_less l i (λ e _. n e)))
      (cases_eq sender l)

  pub kept : DetailsKept p after
  kept = record {
    requests_used = used_before;
    requests_noted = λ l i h. details_same l i;
    responses_used = λ l i h. h;
    responses_noted = λ l i h. refl;
  }

  -- what both handles, or neither, pass is counted as before
  same_handles : (test : HandleEntry → Bool) → test pend ≡ test entry → handles p test (entry ∷ []) ≡ handles after test (pend ∷ [])
  same_handles test e = omega (arith, count-cons test entry [], count-cons test pend [], ap mark e)

  counted : IsCounted after (pend ∷ [])
  counted = record {
    requests = λ l i. held_same l i ∙ sound.counted.requests l i ∙ same_handles (is_request_at l i) refl;
    responses = λ l i. sound.counted.responses l i ∙ same_handles (is_response_at l i) refl;
  }

  -- another handle in the table is of another request
  elsewhere : (k : ℕ) (s : TableEntry HandleEntry) → fin_map.get p.table.entries k ≡ Some s → is_request_loan s.value.stage ≡ true
      → sender ≡ s.value.sender
      → slot ≡ s.value.slot → ⊥
  elsewhere k s e is f g =
      let here : has_request_at sender slot s ≡ true = rw (loan_is_request s.value.stage is)
      (rw (eq-eqb s.value.sender sender (sym f)) (eq-eqb s.value.slot slot (sym g))) in
      absurd (omega (arith, no_other, tally-at (has_request_at sender slot) p.table.entries k s e here))

  -- no server has it yet
  no_active : (server : ℕ) → handles p (is_active_at sender slot server) [] ≡ 0
  no_active server =
      omega (
        arith,
        no_other,
        tally-le (λ (s : TableEntry HandleEntry). is_active_at sender slot server s.value) (has_request_at sender slot) p.table.entries
            (λ s h. (and_parts (is_request_at sender slot s.value) (is_active_of server s.value.stage) h).0),
      )

  held_once : IsHeldOnce after (pend ∷ [])
  held_once = record {
    loans = λ k s e is. omega (
      arith,
      sound.held_once.loans k s e is,
      used_less s.value.sender s.value.slot (elsewhere k s e is),
      handle_uses_request after (pend ∷ []) counted k s e (loan_is_request s.value.stage is),
    );
    servers = λ l i server. ⊎_elim
        (λ e. ⊎_elim
        (λ f. omega (
          arith,
          at_here (λ x. times i (queue_at x.messages (server_place p server) 0)) l e,
          ap (λ i. times i (queue_at fresh.messages (server_place p server) 0)) (sym f),
          times_queue_put m shaped capacity overflow slot has_value (λ (s : ServerPart K). s.receiver) p.servers
              (servers_placed p (entry ∷ []) sound) (places_apart p (entry ∷ []) sound) slot (server_place p server),
          mark-same slot,
          times_queue m slot (server_place p server) 0,
          in_no_queue,
          no_active server,
          ap (λ l. handles p (is_active_at l i server) []) (sym e),
          ap (λ i. handles p (is_active_at sender i server) []) (sym f),
          none_in_hand (is_active_at l i server) pend (never (sender == l && slot == i)),
        ))
        (λ n. omega (
          arith,
          at_here (λ x. times i (queue_at x.messages (server_place p server) 0)) l e,
          at_before (λ x. times i (queue_at x.messages (server_place p server) 0)) l e,
          times_queue_put m shaped capacity overflow slot has_value (λ (s : ServerPart K). s.receiver) p.servers
              (servers_placed p (entry ∷ []) sound) (places_apart p (entry ∷ []) sound) i (server_place p server),
          mark-other slot i n,
          sound.held_once.servers l i server,
          same_handles (is_active_at l i server) refl,
        ))
        (cases_eq slot i))
        (λ n. omega (
          arith,
          ap (λ (x : Sender Q RequestDetails QH). times i (queue_at x.messages (server_place p server) 0)) (there_is l n),
          sound.held_once.servers l i server,
          same_handles (is_active_at l i server) refl,
        ))
        (cases_eq sender l);
    responses = λ l i. omega (
      arith,
      sound.held_once.responses l i,
      count-cons (is_response_at l i) entry [],
      count-cons (is_response_at l i) pend [],
    );
  }

  -- the sender has it on loan
  pub has_loan : 0 < (sender_of sender p.client_senders).loans
  has_loan = omega (
    arith,
    sound.stored.request_loans sender there,
    count-cons (is_in_sender is_request_loan sender) entry [],
    ap mark (eq-eqb sender sender refl),
  )

  -- what is stored of each sender still counts its handles, if the sender's own number follows what is in hand
  recounted : (test : Stage → Bool) (count : Sender Q RequestDetails QH → ℕ)
      → count fresh + mark (test entry.stage) ≡ count (sender_of sender p.client_senders) + mark (test pend.stage)
      → ((l : ℕ) → l < length p.client_senders → count (sender_of l p.client_senders) ≡ handles p (is_in_sender test l) (entry ∷ []))
      → (l : ℕ) → l < length after.client_senders
      → count (sender_of l after.client_senders) ≡ handles after (is_in_sender test l) (pend ∷ [])
  recounted test count =
      counted_set p.client_senders sender fresh there count (test entry.stage) (test pend.stage)
      (λ l. handles p (is_in_sender test l) (entry ∷ [])) (λ l. handles after (is_in_sender test l) (pend ∷ []))
      (λ l. omega (arith, count-cons (is_in_sender test l) entry [], count-cons (is_in_sender test l) pend []))

  stored : IsStored after (pend ∷ [])
  stored =
      let n = sound.stored in
      record {
        request_loans = recounted is_request_loan (λ l. l.loans) (omega (arith, has_loan)) n.request_loans;
        pendings = recounted is_pending (λ l. l.pendings) (omega arith) n.pendings;
        response_loans = λ l h. n.response_loans l h ∙ same_handles (is_in_sender is_response_loan l) refl;
        active_loans = λ k server loans s e is. n.active_loans k server loans s e is ∙ same_handles (is_loan_from p k) refl;
        borrowed_requests = λ l server h. same_of (λ x. borrowed_at x.messages (server_place p server) 0) refl l
            ∙ n.borrowed_requests l server (omega (arith, h, length-set p.client_senders sender fresh))
            ∙ same_handles (is_in_sender (is_active_of server) l) refl;
        borrowed_responses = λ l i channel d h e. n.borrowed_responses l i channel d h e
            ∙ same_handles (is_received_at p l d.port.id channel) refl;
      }

  vacated : IsVacated after
  vacated = record {
    of_clients = sound.vacated.of_clients;
    of_servers = λ l r ch none.
        let old = sound.vacated.of_servers l r ch none in (
          ⊎_elim
              (λ e. at_here (λ x. queue_at x.messages r ch) l e ∙ same_queue r ch none ∙ sym (at_before (λ x. queue_at x.messages r ch) l e)
              ∙ old.0)
              (λ n. ap (λ (x : Sender Q RequestDetails QH). queue_at x.messages r ch) (there_is l n) ∙ old.0)
              (cases_eq sender l),
          same_of (λ x. borrowed_at x.messages r ch) refl l ∙ old.1,
        );
    awaits_none = λ l i r server new fits.
        let none = sound.vacated.awaits_none l i r server new fits in
        ⊎_elim
        (λ e. at_here (λ x. is_marked p.limits.max_servers x.may_answer i r server) l e
        ∙ awaited_none p (entry ∷ []) sound sender slot there inside i r server new
        (sym (at_before (λ x. is_marked p.limits.max_servers x.may_answer i r server) l e) ∙ none))
        (λ n. ap (λ (x : Sender Q RequestDetails QH). is_marked p.limits.max_servers x.may_answer i r server) (there_is l n) ∙ none)
        (cases_eq sender l);
  }
    where
      same_queue : (r ch : ℕ) → ((i : ℕ) (s : ServerPart K) → slice_get p.servers i ≡ Some s → s.receiver ≢ r)
          → queue_at fresh.messages r ch ≡ queue_at m r ch
      same_queue r ch none =
          ⊎_elim
          (λ e. ap (queue_at fresh.messages r) e
          ∙ queue_there m shaped capacity overflow slot has_value (λ (s : ServerPart K). s.receiver) p.servers
          (servers_placed p (entry ∷ []) sound) (places_apart p (entry ∷ []) sound) r none
          ∙ sym (ap (queue_at m r) e))
          (λ n. queue_other m shaped capacity overflow slot has_value (λ (s : ServerPart K). s.receiver) p.servers
          (servers_placed p (entry ∷ []) sound) (places_apart p (entry ∷ []) sound) r ch n)
          (cases_eq ch 0)

  -- the pending response in hand
  pub in_queues : IsSoundStore after (pend ∷ [])
  in_queues = record {
    counted = counted;
    held_once = held_once;
    numbered = kept_numbered p (entry ∷ []) sound p.clients after.client_senders p.server_senders p.next frame
        kept
        (handle_uses_request after (pend ∷ []) counted) (handle_uses_response after (pend ∷ []) counted);
    addressed = kept_addressed p (entry ∷ []) sound p.clients after.client_senders p.server_senders p.next frame
        kept
        sound.addressed.entries;
    inserted = framed_inserted p (entry ∷ []) sound p.clients after.client_senders p.server_senders p.next
        frame;
    stored = stored;
    sized = framed_sized p (entry ∷ []) sound p.clients after.client_senders p.server_senders p.table.entries
        p.next
        frame sound.sized.next_fits sound.sized.loans_made;
    vacated = vacated;
    have_ports = framed_have_ports p (entry ∷ []) sound p.clients after.client_senders p.server_senders p.table.entries p.next frame (λ k s at. at);
    client_ports = framed_client_ports p (entry ∷ []) sound p.clients after.client_senders p.server_senders
        p.table.entries p.next frame;
    server_ports = framed_server_ports p (entry ∷ []) sound p.clients after.client_senders p.server_senders
        p.table.entries p.next frame;
  }
