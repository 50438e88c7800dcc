-- A request on loan is released: what stays true, and what contracts see.
use Rattle.std.proofs.Common.{◌≡◌, ◌<◌, ◌-◌, ℕ, Bool, true, false, List, [], ◌∷◌, Some, length, refl, sym, ap, ◌∙◌, arith}
use Rattle.std.specs.Prelude.{◌==◌, ◌&&◌, slice_get, slice_index}
use Rattle.std.specs.FinMap as fin_map
use Rattle.std.proofs.lemmas.Bool.{false≢true, eq-eqb}
use Rattle.rr_table.specs.Maps.{mark}
use Rattle.rr_table.specs.TableView.{TableEntry, removed}
use Rattle.rr_sender.specs.Senders.{borrowed_at}
use Rattle.rr_protocol.specs.Messages.{port_of}
use Rattle.rr_protocol.specs.Releases.{after_handle_gone}
use Rattle.rr_protocol.specs.State.{State}
use Rattle.rr_store.specs.declared.handle_entry.HandleEntry.{HandleEntry}
use Rattle.rr_store.specs.declared.handle_entry.Stage.{Stage}
use Rattle.rr_store.specs.declared.handle_entry.Stage.TheVariants as stage
use Rattle.rr_store.specs.declared.details.RequestDetails.{RequestDetails}
use Rattle.rr_store.specs.Parts.{Parts, ClientPart, Sender}
use Rattle.rr_store.specs.Releasing.{IsHandleGone}
use Rattle.rr_store.specs.Views.{sender_of, state_of, handle_in, handle_of}
use Rattle.rr_store.specs.Sound.{IsSoundStore, empty_hand, is_of_response, is_request_loan, is_pending, is_active_of, is_response_loan, is_received, is_in_sender, request_details, response_details, server_place}
use Rattle.rr_store.specs.Frames.{moved}
use Rattle.rr_store.specs.Dropping.{IsDropped}
use Rattle.rr_releasing.proofs.laws.Dropping.{dropped_sound}
use Rattle.rr_releasing.proofs.laws.GivenBack.{less, senders_less, less_senders, same_of, held_less, bare_less, count_less}
use Rattle.rr_store.proofs.base.views.Counts.{listed}
use Rattle.rr_store.proofs.base.hands.Hands.{count-cons, senders_same, removed_sound}
use Rattle.rr_releasing.proofs.laws.View.{removed_view, table_entry_shown}
use Rattle.rr_store.proofs.base.hands.Stages.{loan_is_request, handle_uses_request}
use Rattle.rr_releasing.proofs.laws.Uncounted.{uncounted}
use Rattle.rr_store.proofs.base.lookups.Stands.{request_there}

-- what a request on loan is not
record IsLoanAlone (g : Stage) : Type 0 where
  response : is_of_response g ≡ false
  pending : is_pending g ≡ false
  active : (server : ℕ) → is_active_of server g ≡ false
  response_loan : is_response_loan g ≡ false
  received : is_received g ≡ false

loan_alone : (g : Stage) → is_request_loan g ≡ true → IsLoanAlone g
loan_alone stage.RequestMutUninit h = record { response = refl; pending = refl; active = λ n. refl; response_loan = refl; received = refl }
loan_alone stage.RequestMut h = record { response = refl; pending = refl; active = λ n. refl; response_loan = refl; received = refl }
loan_alone (stage.PendingResponse hint connections) h = absurd (false≢true h)
loan_alone (stage.ActiveRequest server loans) h = absurd (false≢true h)
loan_alone stage.ResponseMutUninit h = absurd (false≢true h)
loan_alone stage.ResponseMut h = absurd (false≢true h)
loan_alone stage.Response h = absurd (false≢true h)

-- what fails the first part of a test isn't counted
pub unmarked : (a b : Bool) → a ≡ false → mark (a && b) ≡ 0
unmarked a b e = ap (λ a. mark (a && b)) e

module _ {Q QH P PH K : Type 0} (p : Parts Q QH P PH K) (sound : IsSoundStore p empty_hand) (k : ℕ) (s : TableEntry HandleEntry)
    (at : fin_map.get p.table.entries k ≡ Some s) (loan : is_request_loan s.value.stage ≡ true)
    (index : ℕ) (c : ClientPart K) (there : slice_get p.clients index ≡ Some c) (sends : c.sender ≡ s.value.sender) where
  abbrev entry : HandleEntry
  entry = s.value

  abbrev taken : Parts Q QH P PH K
  taken = record p { table = removed p.table k }

  in_hand : IsSoundStore taken (entry ∷ [])
  in_hand = removed_sound p [] k s at sound

  spot : (entry.sender < length p.client_senders) × (0 < slice_index (sender_of entry.sender p.client_senders).messages.held entry.slot)
  spot = request_there p sound k s at (loan_is_request entry.stage loan)

  alone : IsLoanAlone entry.stage
  alone = loan_alone entry.stage loan

  abbrev own : Sender Q RequestDetails QH
  own = sender_of entry.sender p.client_senders

  abbrev senders : List (Sender Q RequestDetails QH)
  senders = senders_less p.client_senders entry.sender entry.slot own.messages.borrowed (own.loans - 1) own.pendings

  -- the core without the request
  abbrev pub after_loan : Parts Q QH P PH K
  after_loan = moved taken p.clients senders p.server_senders taken.table.entries p.next

  counted_here : mark (is_in_sender is_request_loan entry.sender entry) ≡ 1
  counted_here = ap (λ b. mark (b && entry.sender == entry.sender)) loan ∙ ap mark (eq-eqb entry.sender entry.sender refl)

  -- the sender has it on loan
  pub has_loan : 0 < own.loans
  has_loan = omega (
    arith,
    in_hand.stored.request_loans entry.sender spot.0,
    count-cons (is_in_sender is_request_loan entry.sender) entry [],
    counted_here,
  )

  same : {Y : Type 0} (f : Sender Q RequestDetails QH → Y) → f (less p.client_senders entry.sender entry.slot own.messages.borrowed
      (own.loans - 1) own.pendings) ≡ f (sender_of entry.sender p.client_senders) → (l : ℕ)
      → f (sender_of l senders) ≡ f (sender_of l p.client_senders)
  same = same_of p.client_senders entry.sender entry.slot own.messages.borrowed (own.loans - 1) own.pendings

  dropped : IsDropped taken entry senders p.server_senders
  dropped = record {
    frame = record {
      clients_alike = refl;
      client_senders_alike = less_senders p.client_senders entry.sender entry.slot own.messages.borrowed (own.loans - 1) own.pendings refl
          (λ r. refl);
      server_senders_alike = senders_same p.server_senders;
      numbers = omega arith;
    };
    requests_held = λ l i. omega (
      arith,
      held_less p.client_senders entry.sender entry.slot own.messages.borrowed (own.loans - 1) own.pendings spot.0 spot.1 l i,
      ap (λ b. mark (b && (entry.sender == l && entry.slot == i))) (loan_is_request entry.stage loan),
    );
    responses_held = λ l i. omega (arith, unmarked (is_of_response entry.stage) (entry.sender == l && entry.slot == i) alone.response);
    all_request_details = λ l. same (λ x. x.messages.details) refl l;
    all_response_details = λ l. refl;
    requests_wait = λ l. same (λ x. x.messages.queues) refl l;
    responses_used = λ l i. omega arith;
    responses_wait = λ l receiver channel i. omega arith;
    responses_none = λ l receiver channel e. e;
    requests_borrowed = λ l receiver channel. omega (arith, same (λ x. borrowed_at x.messages receiver channel) refl l);
    responses_borrowed = λ l receiver channel. omega arith;
    marks = λ l. same (λ x. x.may_answer) refl l;
    request_loans = count_less p.client_senders entry.sender entry.slot own.messages.borrowed (own.loans - 1) own.pendings spot.0 spot.1
        (λ x. x.loans) (is_request_loan entry.stage) (omega (arith, has_loan, ap mark loan));
    pendings = count_less p.client_senders entry.sender entry.slot own.messages.borrowed (own.loans - 1) own.pendings spot.0 spot.1
        (λ x. x.pendings) (is_pending entry.stage) (omega (arith, ap mark alone.pending));
    response_loans = λ l. omega (arith, unmarked (is_response_loan entry.stage) (entry.sender == l) alone.response_loan);
    loans_from = λ n server loans t e is. ap (λ a. a && (response_details p entry.sender entry.slot).active_request == n)
        alone.response_loan;
    request_borrows = λ l server h. omega (
      arith,
      same (λ x. borrowed_at x.messages (server_place p server) 0) refl l,
      unmarked (is_active_of server entry.stage) (entry.sender == l) (alone.active server),
    );
    response_borrows = λ l i channel d h e. omega (
      arith,
      unmarked (is_received entry.stage)
          (entry.sender == l && ((response_details p entry.sender entry.slot).client == d.port.id
          && (response_details p entry.sender entry.slot).channel == channel)) alone.received,
    );
  }

  -- the core stays sound
  pub released_sound : IsSoundStore after_loan empty_hand
  released_sound = dropped_sound taken entry [] in_hand senders p.server_senders dropped

  -- contracts see the handle go, and nothing else
  gone_alone : (s : State Q QH P PH K) (g : Stage) (sender slot : ℕ) → is_request_loan g ≡ true
      → after_handle_gone s (handle_in p g sender slot) ≡ s
  gone_alone s stage.RequestMutUninit sender slot h = refl
  gone_alone s stage.RequestMut sender slot h = refl
  gone_alone s (stage.PendingResponse hint connections) sender slot h = absurd (false≢true h)
  gone_alone s (stage.ActiveRequest server loans) sender slot h = absurd (false≢true h)
  gone_alone s stage.ResponseMutUninit sender slot h = absurd (false≢true h)
  gone_alone s stage.ResponseMut sender slot h = absurd (false≢true h)
  gone_alone s stage.Response sender slot h = absurd (false≢true h)

  port_is : (g : Stage) (sender slot : ℕ) → is_request_loan g ≡ true → port_of (handle_in p g sender slot)
      ≡ (request_details p sender slot).client
  port_is stage.RequestMutUninit sender slot h = refl
  port_is stage.RequestMut sender slot h = refl
  port_is (stage.PendingResponse hint connections) sender slot h = absurd (false≢true h)
  port_is (stage.ActiveRequest server loans) sender slot h = absurd (false≢true h)
  port_is stage.ResponseMutUninit sender slot h = absurd (false≢true h)
  port_is stage.ResponseMut sender slot h = absurd (false≢true h)
  port_is stage.Response sender slot h = absurd (false≢true h)

  abbrev without : State Q QH P PH K
  without = record (state_of p) { handles = fin_map.remove (state_of p).handles k }

  its_port : c.port.id ≡ port_of (handle_of p s)
  its_port =
      let o = sound.client_ports.own index c.connected (listed (λ c. c.connected) p.clients index c there) in
      sym o.1 ∙ ap (λ l. (sender_of l p.client_senders).owner) sends
      ∙ sym (sound.addressed.requests entry.sender entry.slot (handle_uses_request p empty_hand sound.counted k s at
      (loan_is_request entry.stage loan)))
      ∙ sym (port_is entry.stage entry.sender entry.slot loan)

  pub released_view : IsHandleGone (state_of p) k c.port.id (state_of after_loan)
  released_view = record {
    handle = handle_of p s;
    there = table_entry_shown p k s at;
    its_port = sym its_port;
    gone = uncounted taken senders p.server_senders
        (bare_less p.client_senders entry.sender entry.slot own.messages.borrowed (own.loans - 1) own.pendings) refl
        ∙ removed_view p k ∙ sym (gone_alone without entry.stage entry.sender entry.slot loan);
  }
