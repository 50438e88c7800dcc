-- An active request is released: what stays true.
use Rattle.std.proofs.Common.{◌≡◌, ◌<◌, ◌+◌, ◌*◌, ℕ, Bool, true, false, List, [], ◌∷◌, Some, length, refl, ap, ◌∙◌, arith}
use Rattle.std.specs.Prelude.{◌==◌, ◌&&◌, slice_index}
use Rattle.std.specs.FinMap as fin_map
use Rattle.std.proofs.lemmas.Bool.{eq-eqb}
use Rattle.rr_table.specs.Maps.{mark}
use Rattle.rr_table.specs.TableView.{TableEntry, removed}
use Rattle.rr_sender.specs.Senders.{borrowed_at}
use Rattle.rr_store.specs.declared.handle_entry.HandleEntry.{HandleEntry}
use Rattle.rr_store.specs.declared.handle_entry.Stage.TheVariants as stage
use Rattle.rr_store.specs.declared.details.RequestDetails.{RequestDetails}
use Rattle.rr_store.specs.Parts.{Parts, Sender}
use Rattle.rr_store.specs.Views.{no_sender, sender_of}
use Rattle.rr_store.specs.Sound.{IsSoundStore, empty_hand, is_of_request, is_of_response, is_request_loan, is_pending, is_active_of, is_response_loan, is_received, is_in_sender, response_details, server_place}
use Rattle.rr_store.specs.Frames.{moved}
use Rattle.rr_store.specs.Dropping.{IsDropped}
use Rattle.rr_releasing.proofs.laws.BorrowEnded.{one_less, less_rows, less_row, borrowed_less, borrowed_le}
use Rattle.rr_releasing.proofs.laws.Dropping.{dropped_sound}
use Rattle.rr_releasing.proofs.laws.GivenBack.{less, senders_less, less_senders, same_of, held_less, count_less}
use Rattle.rr_store.proofs.base.hands.Hands.{count-cons, senders_same, removed_sound}
use Rattle.rr_releasing.proofs.laws.request.Sound.{unmarked as uncounted_in}
use Rattle.rr_store.proofs.base.lookups.Stands.{request_there}
use Rattle.rr_store.proofs.base.frames.Rewrites.{rewritten_sound, senders_unwritten}
use Rattle.rr_releasing.proofs.laws.Marks.{cleared, mark_rewritten}
use Rattle.rr_store.proofs.base.lists.Replaced.{set_alike}
use Rattle.std.proofs.lemmas.List.{length-set}
use Rattle.rr_store.specs.Releasing.{without_mark}
use Rattle.rr_store.proofs.base.senders.Connected.{servers_apart}

module _ {Q QH P PH K : Type 0} (p : Parts Q QH P PH K) (sound : IsSoundStore p empty_hand) (k : ℕ) (s : TableEntry HandleEntry)
    (at : fin_map.get p.table.entries k ≡ Some s) (server loans : ℕ) (is : s.value.stage ≡ stage.ActiveRequest server loans) where
  abbrev entry : HandleEntry
  entry = s.value

  abbrev taken : Parts Q QH P PH K
  taken = record p { table = removed p.table k }

  abbrev receiver : ℕ
  receiver = server_place p server

  -- the senders without the server's mark, and the core with them
  abbrev pub unanswered : List (Sender Q RequestDetails QH)
  unanswered = cleared p.client_senders entry.sender (entry.slot * p.limits.max_servers + receiver)

  abbrev pub unmarked : Parts Q QH P PH K
  unmarked = record taken { client_senders = unanswered }

  in_hand_before : IsSoundStore taken (entry ∷ [])
  in_hand_before = removed_sound p [] k s at sound

  in_hand : IsSoundStore unmarked (entry ∷ [])
  in_hand =
      rewritten_sound taken (entry ∷ []) in_hand_before unanswered p.server_senders
      (mark_rewritten p.client_senders entry.sender (entry.slot * p.limits.max_servers + receiver)) (senders_unwritten p.server_senders)

  abbrev pub own : Sender Q RequestDetails QH
  own = sender_of entry.sender unanswered

  pub spot : (entry.sender < length unanswered) × (0 < slice_index own.messages.held entry.slot)
  spot =
      let there = request_there p sound k s at (ap is_of_request is) in (
        omega (
          arith,
          there.0,
          length-set p.client_senders entry.sender
              (without_mark (entry.slot * p.limits.max_servers + receiver) (sender_of entry.sender p.client_senders)),
        ),
        omega (
          arith,
          there.1,
          set_alike p.client_senders entry.sender
              (without_mark (entry.slot * p.limits.max_servers + receiver) (sender_of entry.sender p.client_senders)) no_sender
              (λ x. slice_index x.messages.held entry.slot) refl entry.sender,
        ),
      )

  abbrev borrowed : List (List ℕ)
  borrowed = one_less own.messages.borrowed receiver 0

  abbrev pub senders : List (Sender Q RequestDetails QH)
  senders = senders_less unanswered entry.sender entry.slot borrowed own.loans own.pendings

  -- the core without the active request
  abbrev pub after_active : Parts Q QH P PH K
  after_active = moved unmarked p.clients senders p.server_senders unmarked.table.entries p.next

  pub inside : receiver < p.limits.max_servers
  inside = sound.inserted.active_servers k server s at (ap (is_active_of server) is ∙ eq-eqb server server refl)

  counted_here : mark (is_in_sender (is_active_of server) entry.sender entry) ≡ 1
  counted_here = ap (λ g. mark (is_active_of server g && entry.sender == entry.sender)) is
      ∙ ap mark (λ i. eq-eqb server server refl i && eq-eqb entry.sender entry.sender refl i)

  -- the server has it from the client
  pub has_active_before : 0 < borrowed_at (sender_of entry.sender p.client_senders).messages receiver 0
  has_active_before = omega (
    arith,
    in_hand_before.stored.borrowed_requests entry.sender server (request_there p sound k s at (ap is_of_request is)).0,
    count-cons (is_in_sender (is_active_of server) entry.sender) entry [],
    counted_here,
  )

  has_active : 0 < borrowed_at own.messages receiver 0
  has_active = omega (
    arith,
    has_active_before,
    set_alike p.client_senders entry.sender
        (without_mark (entry.slot * p.limits.max_servers + receiver) (sender_of entry.sender p.client_senders)) no_sender
        (λ x. borrowed_at x.messages receiver 0) refl entry.sender,
  )

  same : {Y : Type 0} (f : Sender Q RequestDetails QH → Y) → f (less unanswered entry.sender entry.slot borrowed own.loans
      own.pendings) ≡ f
      own → (l : ℕ) → f (sender_of l senders) ≡ f (sender_of l unanswered)
  same = same_of unanswered entry.sender entry.slot borrowed own.loans own.pendings

  dropped : IsDropped unmarked entry senders p.server_senders
  dropped = record {
    frame = record {
      clients_alike = refl;
      client_senders_alike = less_senders unanswered entry.sender entry.slot borrowed own.loans own.pendings
          (less_rows own.messages.borrowed receiver 0)
          (less_row own.messages.borrowed receiver 0);
      server_senders_alike = senders_same p.server_senders;
      numbers = omega arith;
    };
    requests_held = λ l i. omega (
      arith,
      held_less unanswered entry.sender entry.slot borrowed own.loans own.pendings spot.0 spot.1 l i,
      ap (λ g. mark (is_of_request g && (entry.sender == l && entry.slot == i))) is,
    );
    responses_held = λ l i. omega
        (arith, uncounted_in (is_of_response entry.stage) (entry.sender == l && entry.slot == i) (ap is_of_response is));
    all_request_details = λ l. same (λ x. x.messages.details) refl l;
    all_response_details = λ l. refl;
    requests_wait = λ l. same (λ x. x.messages.queues) refl l;
    responses_used = λ l i. omega arith;
    responses_wait = λ l receiver channel i. omega arith;
    responses_none = λ l receiver channel e. e;
    requests_borrowed = borrowed_le unanswered entry.sender entry.slot receiver 0 own.loans own.pendings spot.0 spot.1 has_active;
    responses_borrowed = λ l receiver channel. omega arith;
    marks = λ l. same (λ x. x.may_answer) refl l;
    request_loans = count_less unanswered entry.sender entry.slot borrowed own.loans own.pendings spot.0 spot.1 (λ x. x.loans)
        (is_request_loan entry.stage) (omega (arith, ap (λ g. mark (is_request_loan g)) is));
    pendings = count_less unanswered entry.sender entry.slot borrowed own.loans own.pendings spot.0 spot.1 (λ x. x.pendings)
        (is_pending entry.stage) (omega (arith, ap (λ g. mark (is_pending g)) is));
    response_loans = λ l. omega (arith, uncounted_in (is_response_loan entry.stage) (entry.sender == l) (ap is_response_loan is));
    loans_from = λ n other loans t e _. ap (λ g. is_response_loan g && (response_details p entry.sender entry.slot).active_request == n) is;
    request_borrows = λ l other h. omega (
      arith,
      borrowed_less unanswered entry.sender entry.slot receiver 0 own.loans own.pendings spot.0 spot.1 has_active l
          (server_place p other) 0,
      ap (λ g. mark (is_active_of other g && entry.sender == l)) is,
      swapped (server == other) (receiver == server_place p other) (entry.sender == l) (servers_apart p sound server other inside),
    );
    response_borrows = λ l i channel d h e. omega (
      arith,
      uncounted_in (is_received entry.stage) (entry.sender == l && ((response_details p entry.sender entry.slot).client == d.port.id
          && (response_details p entry.sender entry.slot).channel == channel)) (ap is_received is),
    );
  }
    where
      swapped : (a b c : Bool) → a ≡ b → mark (a && c) ≡ mark (c && (b && 0 == 0))
      swapped true b true e = ap (λ b. mark (b && 0 == 0)) e
      swapped true b false e = refl
      swapped false b true e = ap (λ b. mark (b && 0 == 0)) e
      swapped false b false e = refl

  -- the core stays sound
  pub active_sound : IsSoundStore after_active empty_hand
  active_sound = dropped_sound unmarked entry [] in_hand senders p.server_senders dropped
