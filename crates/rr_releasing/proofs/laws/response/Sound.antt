-- A response that was received is released: what stays true, and what contracts see.
use Rattle.std.proofs.Common.{◌≡◌, ◌<◌, ℕ, true, false, List, [], ◌∷◌, Some, length, map, refl, sym, ap, ◌∙◌, ⊎_elim, arith}
use Rattle.std.specs.Prelude.{◌==◌, ◌&&◌, slice_get, slice_index}
use Rattle.std.specs.FinMap as fin_map
use Rattle.std.proofs.lemmas.Bool.{false≢true, cases_eq, eq-eqb, ne_eqb}
use Rattle.rr_table.specs.Maps.{mark}
use Rattle.rr_table.specs.TableView.{TableEntry, removed}
use Rattle.rr_table.proofs.MapLaws.{tally-at}
use Rattle.rr_sender.specs.Senders.{times, all_entries, queue_at, borrowed_at}
use Rattle.rr_protocol.specs.Messages.{port_of}
use Rattle.rr_protocol.specs.Releases.{after_handle_gone}
use Rattle.rr_protocol.specs.State.{State}
use Rattle.rr_store.specs.declared.handle_entry.HandleEntry.{HandleEntry}
use Rattle.rr_store.specs.declared.handle_entry.Stage.{Stage}
use Rattle.rr_store.specs.declared.handle_entry.Stage.TheVariants as stage
use Rattle.rr_store.specs.declared.details.ResponseDetails.{ResponseDetails}
use Rattle.rr_store.specs.Parts.{Parts, ClientPart, Sender}
use Rattle.rr_store.specs.Releasing.{IsHandleGone}
use Rattle.rr_store.specs.Views.{sender_of, state_of, handle_in, handle_of}
use Rattle.rr_store.specs.Sound.{IsSoundStore, empty_hand, is_of_request, is_of_response, is_request_loan, is_pending, is_active_of, is_response_loan, is_received, is_received_at, has_response_at, response_details}
use Rattle.rr_store.specs.Frames.{moved}
use Rattle.rr_store.specs.Dropping.{IsDropped}
use Rattle.rr_store.proofs.base.views.Agreeing.{response_sender}
use Rattle.rr_releasing.proofs.laws.BorrowEnded.{one_less, less_rows, less_row, borrowed_less, borrowed_le}
use Rattle.rr_releasing.proofs.laws.Dropping.{dropped_sound}
use Rattle.rr_releasing.proofs.laws.GivenBack.{less, senders_less, less_senders, same_of, held_less, bare_less, count_less}
use Rattle.rr_store.proofs.base.views.Counts.{listed}
use Rattle.rr_store.proofs.base.hands.Hands.{count-cons, senders_same, removed_sound}
use Rattle.rr_releasing.proofs.laws.View.{removed_view, table_entry_shown}
use Rattle.rr_releasing.proofs.laws.request.Sound.{unmarked}
use Rattle.rr_store.proofs.base.hands.Stages.{received_is_response}
use Rattle.rr_releasing.proofs.laws.Uncounted.{uncounted}
use Rattle.rr_store.proofs.base.senders.Numbered.{numbered_once}

-- what a received response is not
record IsReceivedAlone (g : Stage) : Type 0 where
  request : is_of_request g ≡ false
  loan : is_request_loan g ≡ false
  pending : is_pending g ≡ false
  active : (server : ℕ) → is_active_of server g ≡ false
  response_loan : is_response_loan g ≡ false

received_alone : (g : Stage) → is_received g ≡ true → IsReceivedAlone g
received_alone stage.Response h = record { request = refl; loan = refl; pending = refl; active = λ n. refl; response_loan = refl }
received_alone stage.RequestMutUninit h = absurd (false≢true h)
received_alone stage.RequestMut h = absurd (false≢true h)
received_alone (stage.PendingResponse hint connections) h = absurd (false≢true h)
received_alone (stage.ActiveRequest server loans) h = absurd (false≢true h)
received_alone stage.ResponseMutUninit h = absurd (false≢true h)
received_alone stage.ResponseMut h = absurd (false≢true h)

module _ {Q QH P PH K : Type 0} (p : Parts Q QH P PH K) (sound : IsSoundStore p empty_hand) (k : ℕ) (s : TableEntry HandleEntry)
    (at : fin_map.get p.table.entries k ≡ Some s) where
  -- a response with a handle stands in a sender that is there, in a slot that is held
  pub response_there : is_of_response s.value.stage ≡ true → (s.value.sender < length p.server_senders)
      × (0 < slice_index (sender_of s.value.sender p.server_senders).messages.held s.value.slot)
  response_there is =
      let here : has_response_at s.value.sender s.value.slot s ≡ true = rw is
      (rw (eq-eqb s.value.sender s.value.sender refl) (rw (eq-eqb s.value.slot s.value.slot refl) refl)) in (
        response_sender p empty_hand sound.counted k s at is,
        omega (
          arith,
          sound.counted.responses s.value.sender s.value.slot,
          tally-at (has_response_at s.value.sender s.value.slot) p.table.entries k s at here,
        ),
      )

module _ {Q QH P PH K : Type 0} (p : Parts Q QH P PH K) (sound : IsSoundStore p empty_hand) (k : ℕ) (s : TableEntry HandleEntry)
    (at : fin_map.get p.table.entries k ≡ Some s) (got : is_received s.value.stage ≡ true)
    (index : ℕ) (c : ClientPart K) (there : slice_get p.clients index ≡ Some c)
    (named : c.port.id ≡ (response_details p s.value.sender s.value.slot).client) where
  abbrev entry : HandleEntry
  entry = s.value

  abbrev channel : ℕ
  channel = (response_details p entry.sender entry.slot).channel

  abbrev taken : Parts Q QH P PH K
  taken = record p { table = removed p.table k }

  in_hand : IsSoundStore taken (entry ∷ [])
  in_hand = removed_sound p [] k s at sound

  spot : (entry.sender < length p.server_senders) × (0 < slice_index (sender_of entry.sender p.server_senders).messages.held entry.slot)
  spot = response_there p sound k s at (received_is_response entry.stage got)

  alone : IsReceivedAlone entry.stage
  alone = received_alone entry.stage got

  abbrev own : Sender P ResponseDetails PH
  own = sender_of entry.sender p.server_senders

  abbrev borrowed : List (List ℕ)
  borrowed = one_less (sender_of entry.sender p.server_senders).messages.borrowed c.receiver channel

  abbrev senders : List (Sender P ResponseDetails PH)
  senders = senders_less p.server_senders entry.sender entry.slot borrowed own.loans own.pendings

  -- the core without the response
  abbrev pub after_received : Parts Q QH P PH K
  after_received = moved taken p.clients p.client_senders senders taken.table.entries p.next

  counted_here : mark (is_received_at p entry.sender c.port.id channel entry) ≡ 1
  counted_here =
      ap (λ b. mark (b && (entry.sender == entry.sender &&
      ((response_details p entry.sender entry.slot).client == c.port.id && channel == channel))))
      got
      ∙ ap mark (λ i. eq-eqb entry.sender entry.sender refl i &&
      (eq-eqb (response_details p entry.sender entry.slot).client c.port.id (sym named) i
      && eq-eqb channel channel refl i))

  -- the client has it from the channel
  pub has_received : 0 < borrowed_at (sender_of entry.sender p.server_senders).messages c.receiver channel
  has_received = omega (
    arith,
    in_hand.stored.borrowed_responses entry.sender index channel c spot.0 there,
    count-cons (is_received_at p entry.sender c.port.id channel) entry [],
    counted_here,
  )

  same : {Y : Type 0} (f : Sender P ResponseDetails PH → Y) → f (less p.server_senders entry.sender entry.slot borrowed own.loans
      own.pendings) ≡ f
      (sender_of entry.sender p.server_senders) → (l : ℕ) → f (sender_of l senders) ≡ f (sender_of l p.server_senders)
  same = same_of p.server_senders entry.sender entry.slot borrowed own.loans own.pendings

  -- the response is the client's exactly if it came to the client's receiver
  its_place : (i : ℕ) (d : ClientPart K) → slice_get p.clients i ≡ Some d
      → ((response_details p entry.sender entry.slot).client == d.port.id) ≡ (c.receiver == d.receiver)
  its_place i d e =
      ⊎_elim
      (λ f. let is : c ≡ d = let g : Some c ≡ Some d = sym there ∙ ap (slice_get p.clients) (sym f) ∙ e in cc in
      eq-eqb (response_details p entry.sender entry.slot).client d.port.id (sym named ∙ ap (λ (d : ClientPart K). d.port.id) is)
      ∙ sym (eq-eqb c.receiver d.receiver (ap (λ (d : ClientPart K). d.receiver) is)))
      (λ n. let l : (j : ℕ) (b : ClientPart K) → slice_get p.clients j ≡ Some b
      → slice_get (map (λ c. c.connected) p.clients) j ≡ Some b.connected = λ j b g. listed (λ c. c.connected) p.clients j b g in
      ne_eqb (response_details p entry.sender entry.slot).client d.port.id
      (λ is. n (numbered_once sound.client_ports i index d.connected c.connected (l i d e) (l index c there) (sym is ∙ sym named)))
      ∙ sym (ne_eqb c.receiver d.receiver
      (λ is. n (sound.client_ports.receivers_once i index d.connected c.connected (l i d e) (l index c there)
      (sym is)))))
      (cases_eq i index)

  dropped : IsDropped taken entry p.client_senders senders
  dropped = record {
    frame = record {
      clients_alike = refl;
      client_senders_alike = senders_same p.client_senders;
      server_senders_alike = less_senders p.server_senders entry.sender entry.slot borrowed own.loans own.pendings
          (less_rows (sender_of entry.sender p.server_senders).messages.borrowed c.receiver channel)
          (less_row (sender_of entry.sender p.server_senders).messages.borrowed c.receiver channel);
      numbers = omega arith;
    };
    requests_held = λ l i. omega (arith, unmarked (is_of_request entry.stage) (entry.sender == l && entry.slot == i) alone.request);
    responses_held = λ l i. omega (
      arith,
      held_less p.server_senders entry.sender entry.slot borrowed own.loans own.pendings spot.0 spot.1 l i,
      ap (λ b. mark (b && (entry.sender == l && entry.slot == i))) (received_is_response entry.stage got),
    );
    all_request_details = λ l. refl;
    all_response_details = λ l. same (λ x. x.messages.details) refl l;
    requests_wait = λ l. refl;
    responses_used = λ l i. omega (
      arith,
      ap (λ (qs : List (List (List ℕ))). times i (all_entries qs))
          (same (λ x. x.messages.queues) refl l),
    );
    responses_wait = λ l receiver channel i. omega (arith, ap (times i) (same (λ x. queue_at x.messages receiver channel) refl l));
    responses_none = λ l receiver channel e. same (λ x. queue_at x.messages receiver channel) refl l ∙ e;
    requests_borrowed = λ l receiver channel. omega arith;
    responses_borrowed = borrowed_le p.server_senders entry.sender entry.slot c.receiver channel own.loans own.pendings spot.0 spot.1
        has_received;
    marks = λ l. refl;
    request_loans = λ l. omega (arith, unmarked (is_request_loan entry.stage) (entry.sender == l) alone.loan);
    pendings = λ l. omega (arith, unmarked (is_pending entry.stage) (entry.sender == l) alone.pending);
    response_loans = count_less p.server_senders entry.sender entry.slot borrowed own.loans own.pendings spot.0 spot.1 (λ x. x.loans)
        (is_response_loan entry.stage) (omega (arith, ap mark alone.response_loan));
    loans_from = λ n server loans t e is. ap (λ a. a && (response_details p entry.sender entry.slot).active_request == n)
        alone.response_loan;
    request_borrows = λ l server h. omega (arith, unmarked (is_active_of server entry.stage) (entry.sender == l) (alone.active server));
    response_borrows = λ l i q d h e. omega (
      arith,
      borrowed_less p.server_senders entry.sender entry.slot c.receiver channel own.loans own.pendings spot.0 spot.1 has_received l
          d.receiver q,
      ap (λ b. mark (b && (entry.sender == l && ((response_details p entry.sender entry.slot).client == d.port.id && channel == q)))) got,
      ap (λ b. mark (entry.sender == l && (b && channel == q))) (its_place i d e),
    );
  }

  -- the core stays sound
  pub received_sound : IsSoundStore after_received empty_hand
  received_sound = dropped_sound taken entry [] in_hand p.client_senders senders dropped

  gone_alone : (s : State Q QH P PH K) (g : Stage) (sender slot : ℕ) → is_received g ≡ true
      → after_handle_gone s (handle_in p g sender slot) ≡ s
  gone_alone s stage.Response sender slot h = refl
  gone_alone s stage.RequestMutUninit sender slot h = absurd (false≢true h)
  gone_alone s stage.RequestMut sender slot h = absurd (false≢true h)
  gone_alone s (stage.PendingResponse hint connections) sender slot h = absurd (false≢true h)
  gone_alone s (stage.ActiveRequest server loans) sender slot h = absurd (false≢true h)
  gone_alone s stage.ResponseMutUninit sender slot h = absurd (false≢true h)
  gone_alone s stage.ResponseMut sender slot h = absurd (false≢true h)

  port_is : (g : Stage) (sender slot : ℕ) → is_received g ≡ true → port_of (handle_in p g sender slot)
      ≡ (response_details p sender slot).client
  port_is stage.Response sender slot h = refl
  port_is stage.RequestMutUninit sender slot h = absurd (false≢true h)
  port_is stage.RequestMut sender slot h = absurd (false≢true h)
  port_is (stage.PendingResponse hint connections) sender slot h = absurd (false≢true h)
  port_is (stage.ActiveRequest server loans) sender slot h = absurd (false≢true h)
  port_is stage.ResponseMutUninit sender slot h = absurd (false≢true h)
  port_is stage.ResponseMut sender slot h = absurd (false≢true h)

  abbrev without : State Q QH P PH K
  without = record (state_of p) { handles = fin_map.remove (state_of p).handles k }

  -- contracts see the handle go, and nothing else
  pub received_view : IsHandleGone (state_of p) k c.port.id (state_of after_received)
  received_view = record {
    handle = handle_of p s;
    there = table_entry_shown p k s at;
    its_port = port_is entry.stage entry.sender entry.slot got ∙ sym named;
    gone = uncounted taken p.client_senders senders refl
        (bare_less p.server_senders entry.sender entry.slot borrowed own.loans own.pendings)
        ∙ removed_view p k ∙ sym (gone_alone without entry.stage entry.sender entry.slot got);
  }
