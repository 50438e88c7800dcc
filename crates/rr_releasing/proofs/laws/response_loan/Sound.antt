-- A response on loan is released: what stays true while its active request is in hand too, and what contracts see.
use Rattle.std.proofs.Common.{◌≡◌, ◌≢◌, ◌<◌, ◌-◌, ℕ, true, false, List, ◌∷◌, Some, length, refl, ap, ◌∙◌, arith}
use Rattle.std.specs.Prelude.{◌==◌, ◌&&◌, slice_index}
use Rattle.std.specs.FinMap as fin_map
use Rattle.std.proofs.lemmas.Bool.{false≢true, eq-eqb, ne_eqb}
use Rattle.rr_table.specs.Maps.{mark}
use Rattle.rr_table.specs.TableView.{TableEntry}
use Rattle.rr_sender.specs.Senders.{times, all_entries, queue_at, borrowed_at}
use Rattle.rr_store.specs.declared.handle_entry.HandleEntry.{HandleEntry}
use Rattle.rr_store.specs.declared.handle_entry.Stage.{Stage}
use Rattle.rr_store.specs.declared.handle_entry.Stage.TheVariants as stage
use Rattle.rr_store.specs.declared.details.ResponseDetails.{ResponseDetails}
use Rattle.rr_store.specs.Parts.{Parts, Sender}
use Rattle.rr_store.specs.Views.{sender_of}
use Rattle.rr_store.specs.Sound.{IsSoundStore, Hand, is_of_request, is_request_loan, is_pending, is_active_of, is_response_loan, is_received, is_in_sender, response_details}
use Rattle.rr_store.specs.Frames.{moved}
use Rattle.rr_store.specs.Dropping.{IsDropped}
use Rattle.rr_releasing.proofs.laws.Dropping.{dropped_sound}
use Rattle.rr_releasing.proofs.laws.GivenBack.{less, senders_less, less_senders, same_of, held_less, count_less}
use Rattle.rr_store.proofs.base.hands.Hands.{count-cons, senders_same}
use Rattle.rr_releasing.proofs.laws.request.Sound.{unmarked}
use Rattle.rr_store.proofs.base.hands.Stages.{response_loan_is_response}

-- what a response on loan is not
record IsAnswerAlone (g : Stage) : Type 0 where
  request : is_of_request g ≡ false
  loan : is_request_loan g ≡ false
  pending : is_pending g ≡ false
  active : (server : ℕ) → is_active_of server g ≡ false
  received : is_received g ≡ false

response_loan_alone : (g : Stage) → is_response_loan g ≡ true → IsAnswerAlone g
response_loan_alone stage.ResponseMutUninit h = record { request = refl; loan = refl; pending = refl; active = λ n. refl; received = refl }
response_loan_alone stage.ResponseMut h = record { request = refl; loan = refl; pending = refl; active = λ n. refl; received = refl }
response_loan_alone stage.RequestMutUninit h = absurd (false≢true h)
response_loan_alone stage.RequestMut h = absurd (false≢true h)
response_loan_alone (stage.PendingResponse hint connections) h = absurd (false≢true h)
response_loan_alone (stage.ActiveRequest server loans) h = absurd (false≢true h)
response_loan_alone stage.Response h = absurd (false≢true h)

-- a response on loan in hand, before others, whose active request is not in the table
module _ {Q QH P PH K : Type 0} (p : Parts Q QH P PH K) (entry : HandleEntry) (hand : Hand) (sound : IsSoundStore p (entry ∷ hand))
    (loan : is_response_loan entry.stage ≡ true)
    (there : entry.sender < length p.server_senders)
    (some : 0 < slice_index (sender_of entry.sender p.server_senders).messages.held entry.slot)
    (apart : (k server loans : ℕ) (t : TableEntry HandleEntry) → fin_map.get p.table.entries k ≡ Some t
    → t.value.stage ≡ stage.ActiveRequest server loans
    → (response_details p entry.sender entry.slot).active_request ≢ k) where
  alone : IsAnswerAlone entry.stage
  alone = response_loan_alone entry.stage loan

  abbrev own : Sender P ResponseDetails PH
  own = sender_of entry.sender p.server_senders

  abbrev pub senders : List (Sender P ResponseDetails PH)
  senders = senders_less p.server_senders entry.sender entry.slot own.messages.borrowed (own.loans - 1) own.pendings

  -- the core without the response
  abbrev pub after_response_loan : Parts Q QH P PH K
  after_response_loan = moved p p.clients p.client_senders senders p.table.entries p.next

  counted_here : mark (is_in_sender is_response_loan entry.sender entry) ≡ 1
  counted_here = ap (λ b. mark (b && entry.sender == entry.sender)) loan ∙ ap mark (eq-eqb entry.sender entry.sender refl)

  -- the sender has it on loan
  pub has_response_loan : 0 < own.loans
  has_response_loan = omega (
    arith,
    sound.stored.response_loans entry.sender there,
    count-cons (is_in_sender is_response_loan entry.sender) entry hand,
    counted_here,
  )

  same : {Y : Type 0} (f : Sender P ResponseDetails PH → Y) → f (less p.server_senders entry.sender entry.slot own.messages.borrowed
      (own.loans - 1) own.pendings) ≡ f (sender_of entry.sender p.server_senders)
      → (l : ℕ) → f (sender_of l senders) ≡ f (sender_of l p.server_senders)
  same = same_of p.server_senders entry.sender entry.slot own.messages.borrowed (own.loans - 1) own.pendings

  pub dropped : IsDropped p entry p.client_senders senders
  dropped = record {
    frame = record {
      clients_alike = refl;
      client_senders_alike = senders_same p.client_senders;
      server_senders_alike = less_senders p.server_senders entry.sender entry.slot own.messages.borrowed (own.loans - 1) own.pendings refl
          (λ r. refl);
      numbers = omega arith;
    };
    requests_held = λ l i. omega (arith, unmarked (is_of_request entry.stage) (entry.sender == l && entry.slot == i) alone.request);
    responses_held = λ l i. omega (
      arith,
      held_less p.server_senders entry.sender entry.slot own.messages.borrowed (own.loans - 1) own.pendings there some l i,
      ap (λ b. mark (b && (entry.sender == l && entry.slot == i))) (response_loan_is_response entry.stage loan),
    );
    all_request_details = λ l. refl;
    all_response_details = λ l. same (λ x. x.messages.details) refl l;
    requests_wait = λ l. refl;
    responses_used = λ l i. omega (
      arith,
      ap (λ (qs : List (List (List ℕ))). times i (all_entries qs))
          (same (λ x. x.messages.queues) refl l),
    );
    responses_wait = λ l receiver channel i. omega (arith, ap (times i) (same (λ x. queue_at x.messages receiver channel) refl l));
    responses_none = λ l receiver channel e. same (λ x. queue_at x.messages receiver channel) refl l ∙ e;
    requests_borrowed = λ l receiver channel. omega arith;
    responses_borrowed = λ l receiver channel. omega (arith, same (λ x. borrowed_at x.messages receiver channel) refl l);
    marks = λ l. refl;
    request_loans = λ l. omega (arith, unmarked (is_request_loan entry.stage) (entry.sender == l) alone.loan);
    pendings = λ l. omega (arith, unmarked (is_pending entry.stage) (entry.sender == l) alone.pending);
    response_loans = count_less p.server_senders entry.sender entry.slot own.messages.borrowed (own.loans - 1) own.pendings there some
        (λ x. x.loans) (is_response_loan entry.stage) (omega (arith, has_response_loan, ap mark loan));
    loans_from = λ n server loans t e is.
        ap (λ a. a && (response_details p entry.sender entry.slot).active_request == n) loan
        ∙ ne_eqb (response_details p entry.sender entry.slot).active_request n (apart n server loans t e is);
    request_borrows = λ l server h. omega (arith, unmarked (is_active_of server entry.stage) (entry.sender == l) (alone.active server));
    response_borrows = λ l i channel d h e. omega (
      arith,
      same (λ x. borrowed_at x.messages d.receiver channel) refl l,
      unmarked (is_received entry.stage) (entry.sender == l && ((response_details p entry.sender entry.slot).client == d.port.id
          && (response_details p entry.sender entry.slot).channel == channel)) alone.received,
    );
  }

  -- the core stays sound
  pub response_loan_sound : IsSoundStore after_response_loan hand
  response_loan_sound = dropped_sound p entry hand sound p.client_senders senders dropped
