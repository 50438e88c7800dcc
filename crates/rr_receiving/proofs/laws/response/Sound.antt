-- What is true of a core stays true as a response is received.
use Rattle.std.proofs.Common.{◌≡◌, ◌≢◌, ◌<◌, ◌≤◌, ◌+◌, ℕ, Bool, true, false, cond, [], ◌∷◌, Some, length, get_or, refl, sym, ap, ◌∙◌, ⊎_elim, arith}
use Rattle.std.specs.Prelude.{◌==◌, ◌&&◌, slice_get, slice_index, count_by, drop}
use Rattle.std.proofs.lemmas.Bool.{cases_eq, eq-eqb, ne_eqb}
use Rattle.std.proofs.lemmas.List.{get_or-set_same, get_or-set_other, length-set}
use Rattle.rr_table.specs.Maps.{mark}
use Rattle.rr_table.specs.TableView.{TableEntry}
use Rattle.rr_sender.specs.Senders.{Messages, times, queue_at, borrowed_at, uses, taken}
use Rattle.rr_sender.proofs.EntryLaws.{times-first}
use Rattle.rr_protocol.specs.Limits.{worst_case_requests}
use Rattle.rr_store.specs.declared.handle_entry.HandleEntry.{HandleEntry}
use Rattle.rr_store.specs.declared.details.ResponseDetails.{ResponseDetails}
use Rattle.rr_store.specs.Parts.{Parts, ClientPart, Sender}
use Rattle.rr_store.specs.Views.{no_sender, no_response, sender_of}
use Rattle.rr_store.specs.Sound.{IsSoundStore, IsCounted, IsHeldOnce, IsStored, IsVacated, IsShaped, empty_hand, handles, is_request_at, is_response_at, is_active_at, is_in_sender, is_request_loan, is_pending, is_active_of, is_response_loan, is_loan_from, is_received, is_received_at, response_uses, response_details}
use Rattle.rr_store.specs.Frames.{SameFrame}
use Rattle.rr_store.specs.Kept.{DetailsKept}
use Rattle.rr_store.specs.Loaning.{with_messages}
use Rattle.rr_store.specs.Receiving.{queue_from, received_held, with_taken_response}
use Rattle.rr_store.proofs.base.lists.Replaced.{set_alike}
use Rattle.rr_store.proofs.base.frames.Frames.{framed_client_ports, framed_server_ports, framed_have_ports, framed_sized, senders_set}
use Rattle.rr_store.proofs.base.views.Counts.{listed, ids_apart}
use Rattle.rr_store.proofs.base.hands.Hands.{count-cons, none_in_hand, never, senders_same}
use Rattle.rr_store.proofs.base.frames.Kept.{framed_inserted, kept_numbered, kept_addressed}
use Rattle.rr_store.proofs.loaning.LoanedSender.{other_slot, other_senders, both_true}
use Rattle.rr_store.proofs.base.hands.Stages.{handle_uses_request, handle_uses_response}
use Rattle.rr_store.proofs.base.lists.Tallies.{tally-same}
use Rattle.rr_receiving.proofs.laws.TakenSender.{queue_there, borrowed_here, borrowed_there, times_less, held_more, uses_kept, taken_shaped}

module _ {Q QH P PH K : Type 0} (p : Parts Q QH P PH K) (sound : IsSoundStore p empty_hand) (sender : ℕ)
    (there : sender < length p.server_senders)
    (index : ℕ) (c : ClientPart K) (at : slice_get p.clients index ≡ Some c)
    (channel slot : ℕ) (inside : channel < worst_case_requests p.limits)
    (first : slice_get (queue_from p.server_senders c.receiver channel sender) 0 ≡ Some slot) where
  abbrev m : Messages P ResponseDetails PH
  m = (sender_of sender p.server_senders).messages

  abbrev fresh : Sender P ResponseDetails PH
  fresh = with_messages (sender_of sender p.server_senders) (taken m c.receiver channel slot (drop 1 (queue_at m c.receiver channel)))

  abbrev after : Parts Q QH P PH K
  after = with_taken_response p sender c.receiver channel slot

  abbrev entry : HandleEntry
  entry = received_held p sender slot

  pub shaped : IsShaped p.limits.max_clients (worst_case_requests p.limits) p.limits.max_response_buffer_size m
  shaped = sound.sized.server_senders sender there

  pub placed : c.receiver < p.limits.max_clients
  placed = sound.client_ports.placed index c.connected (listed (λ (c : ClientPart K). c.connected) p.clients index c at)

  frame : SameFrame p p.clients p.client_senders after.server_senders p.next
  frame = record {
    clients_alike = refl;
    client_senders_alike = senders_same p.client_senders;
    server_senders_alike = senders_set p.server_senders sender fresh
        (record {
          owner = refl;
          row = refl;
          receiver = refl;
          has_value = refl;
          slots = length-set m.held slot _;
          room = refl;
          marks = refl;
          shaped = taken_shaped m shaped c.receiver channel slot placed inside first;
        });
    numbers = omega arith;
  }

  pub same_of : {Y : Type 0} (f : Sender P ResponseDetails PH → Y) → f fresh ≡ f (sender_of sender p.server_senders) → (k : ℕ)
      → f (sender_of k after.server_senders) ≡ f (sender_of k p.server_senders)
  same_of f same k = set_alike p.server_senders sender fresh no_sender f same k

  pub here_is : sender_of sender after.server_senders ≡ fresh
  here_is = get_or-set_same p.server_senders sender fresh no_sender there

  there_is : (k : ℕ) → (sender ≡ k → ⊥) → sender_of k after.server_senders ≡ sender_of k p.server_senders
  there_is k n = get_or-set_other p.server_senders sender k fresh no_sender (λ e. n (sym e))

  -- the details are as they were
  pub details_same : (k j : ℕ) → response_details after k j ≡ response_details p k j
  details_same k j = same_of (λ x. get_or x.messages.details j no_response) refl k

  held_is : (k j : ℕ) → slice_index (sender_of k after.server_senders).messages.held j ≡ slice_index
      (sender_of k p.server_senders).messages.held j + mark (sender == k && slot == j)
  held_is k j =
      ⊎_elim
      (λ e. let new : slice_index (sender_of k after.server_senders).messages.held j ≡ slice_index fresh.messages.held j = ap
      (λ (x : Sender P ResponseDetails PH). slice_index x.messages.held j) (sym (ap (λ k. sender_of k after.server_senders) e) ∙ here_is) in
      let old : slice_index (sender_of k p.server_senders).messages.held j ≡ slice_index m.held j = sym
      (ap (λ k. slice_index (sender_of k p.server_senders).messages.held j) e) in
      let more = held_more m shaped c.receiver channel slot placed inside first j in
      ⊎_elim
      (λ f. omega (arith, new, old, more, ap {B = ℕ} (λ b. cond b 1 0) (eq-eqb slot j f), ap mark (both_true sender slot k j e f)))
      (λ n. omega (arith, new, old, more, ap {B = ℕ} (λ b. cond b 1 0) (ne_eqb slot j n), ap mark (other_slot sender slot k j e n)))
      (cases_eq slot j))
      (λ n. omega (
        arith,
        ap (λ (x : Sender P ResponseDetails PH). slice_index x.messages.held j) (there_is k n),
        ap mark (other_senders sender slot k j n),
      ))
      (cases_eq sender k)

  -- each slot is used as often as it was
  pub used_same : (k j : ℕ) → response_uses after k j ≡ response_uses p k j
  used_same k j = same_of (λ x. uses x.messages j) (uses_kept m shaped c.receiver channel slot placed inside first j) k

  -- no queue has a slot more often
  queue_less : (k j r ch : ℕ) → times j (queue_at (sender_of k after.server_senders).messages r ch) ≤ times j
      (queue_at (sender_of k p.server_senders).messages r ch)
  queue_less k j r ch =
      ⊎_elim
      (λ e. omega (
        arith,
        ap (λ (x : Sender P ResponseDetails PH). times j (queue_at x.messages r ch))
            (sym (ap (λ k. sender_of k after.server_senders) e) ∙ here_is),
        times_less m shaped c.receiver channel slot placed inside first j r ch,
        ap (λ k. times j (queue_at (sender_of k p.server_senders).messages r ch)) e,
      ))
      (λ n. omega (arith, ap (λ (x : Sender P ResponseDetails PH). times j (queue_at x.messages r ch)) (there_is k n)))
      (cases_eq sender k)

  -- the entry is the client's, on the channel
  addressed_to : ((response_details p sender slot).client ≡ c.port.id) × ((response_details p sender slot).channel ≡ channel)
  addressed_to = sound.addressed.entries sender slot channel index c at (omega (arith, times_less_one))
    where
      times_less_one : 0 < times slot (queue_at m c.receiver channel)
      times_less_one = omega (
        arith,
        times-first slot slot (queue_at m c.receiver channel) first,
        ap {B = ℕ} (λ b. cond b 1 0) (eq-eqb slot slot refl),
      )

  counted : IsCounted after (entry ∷ [])
  counted = record {
    requests = λ k j. omega (arith, sound.counted.requests k j, none_in_hand (is_request_at k j) entry refl);
    responses = λ k j. let e : count_by (is_response_at k j) (entry ∷ []) ≡ mark (sender == k && slot == j) + 0 = count-cons
        (is_response_at k j) entry [] in omega (arith, held_is k j, sound.counted.responses k j, e);
  }

  held_once : IsHeldOnce after (entry ∷ [])
  held_once = record {
    loans = sound.held_once.loans;
    servers = λ k j server. omega (arith, sound.held_once.servers k j server, none_in_hand (is_active_at k j server) entry refl);
    responses = λ k j. omega (arith, used_same k j, sound.held_once.responses k j);
  }

  kept : DetailsKept p after
  kept = record {
    requests_used = λ k j h. h;
    requests_noted = λ k j h. refl;
    responses_used = λ k j h. omega (arith, h, used_same k j);
    responses_noted = λ k j h. details_same k j;
  }

  -- a test that reads details tests as before
  same_count : (test again : HandleEntry → Bool) → ((h : HandleEntry) → again h ≡ test h)
      → handles after again (entry ∷ []) ≡ handles p test [] + mark (test entry)
  same_count test again same =
      omega (
        arith,
        tally-same p.table.entries (λ (s : TableEntry HandleEntry). again s.value) (λ (s : TableEntry HandleEntry). test s.value)
            (λ k s e. same s.value),
        count-cons again entry [],
        ap mark (same entry),
      )

  stored : IsStored after (entry ∷ [])
  stored =
      let n = sound.stored in
      record {
        request_loans = λ k h. omega (arith, n.request_loans k h, none_in_hand (is_in_sender is_request_loan k) entry refl);
        pendings = λ k h. omega (arith, n.pendings k h, none_in_hand (is_in_sender is_pending k) entry refl);
        response_loans = λ k h. omega (
          arith,
          same_of (λ x. x.loans) refl k,
          n.response_loans k (omega (arith, h, length-set p.server_senders sender fresh)),
          none_in_hand (is_in_sender is_response_loan k) entry refl,
        );
        active_loans = λ k server loans s e is. n.active_loans k server loans s e is
            ∙ sym (same_count (is_loan_from p k) (is_loan_from after k)
            (λ h. ap (λ (n : ResponseDetails). is_response_loan h.stage && n.active_request == k) (details_same h.sender h.slot))
            ∙ nothing_more (handles p (is_loan_from p k) []));
        borrowed_requests = λ k server h. omega (
          arith,
          n.borrowed_requests k server h,
          none_in_hand (is_in_sender (is_active_of server) k) entry refl,
        );
        borrowed_responses = λ k j ch d h e.
            let count = same_count (is_received_at p k d.port.id ch) (is_received_at after k d.port.id ch)
            (λ h. ap (λ (n : ResponseDetails). is_received h.stage && (h.sender == k && (n.client == d.port.id && n.channel == ch)))
            (details_same h.sender h.slot)) in
            omega (
              arith,
              borrowed_is k j ch d e,
              count,
              n.borrowed_responses k j ch d
                  (omega (arith, h, length-set p.server_senders sender fresh)) e,
            );
      }
    where
      nothing_more : (n : ℕ) → n + 0 ≡ n
      nothing_more n = omega arith

      -- one more was received by the client, from the sender, on the channel
      borrowed_is : (k j ch : ℕ) (d : ClientPart K) → slice_get p.clients j ≡ Some d
          → borrowed_at (sender_of k after.server_senders).messages d.receiver ch ≡ borrowed_at
          (sender_of k p.server_senders).messages d.receiver ch + mark (is_received_at p k d.port.id ch entry)
      borrowed_is k j ch d e =
          ⊎_elim
          (λ l. in_sender k l)
          (λ n. omega (
            arith,
            ap (λ (x : Sender P ResponseDetails PH). borrowed_at x.messages d.receiver ch) (there_is k n),
            ap mark (off_first (sender == k)
                ((response_details p sender slot).client == d.port.id && (response_details p sender slot).channel == ch)
                (ne_eqb sender k n)),
          ))
          (cases_eq sender k)
        where
          off_first : (a b : Bool) → a ≡ false → (a && b) ≡ false
          off_first a b h = rw h refl

          in_sender : (k : ℕ) → sender ≡ k → borrowed_at (sender_of k after.server_senders).messages d.receiver ch ≡ borrowed_at
              (sender_of k p.server_senders).messages d.receiver ch + mark (is_received_at p k d.port.id ch entry)
          in_sender k l =
              let new : borrowed_at (sender_of k after.server_senders).messages d.receiver ch ≡ borrowed_at fresh.messages d.receiver
              ch = ap
              (λ (x : Sender P ResponseDetails PH). borrowed_at x.messages d.receiver ch)
              (sym (ap (λ k. sender_of k after.server_senders) l) ∙ here_is) in
              let old : borrowed_at (sender_of k p.server_senders).messages d.receiver ch ≡ borrowed_at m d.receiver ch = sym
              (ap (λ k. borrowed_at (sender_of k p.server_senders).messages d.receiver ch) l) in
              ⊎_elim
              (λ same. let is : d ≡ c = the_client same in
              ⊎_elim
              (λ f. omega (
                arith,
                new,
                old,
                ap (λ (d : ClientPart K). borrowed_at fresh.messages d.receiver ch) is,
                ap (λ ch. borrowed_at fresh.messages c.receiver ch) f,
                borrowed_here m shaped c.receiver channel slot placed inside first,
                ap (λ (d : ClientPart K). borrowed_at m d.receiver ch) is,
                ap (λ ch. borrowed_at m c.receiver ch) f,
                ap mark (passes k l is f),
              ))
              (λ n. omega (
                arith,
                new,
                old,
                borrowed_there m shaped c.receiver channel slot placed inside first d.receiver ch (λ _ f. n f),
                ap mark (other_channel k l n),
              ))
              (cases_eq ch channel))
              (λ far. omega (
                arith,
                new,
                old,
                borrowed_there m shaped c.receiver channel slot placed inside first d.receiver ch (λ f _. far f),
                ap mark (other_client k l far),
              ))
              (cases_eq d.receiver c.receiver)
            where
              the_client : d.receiver ≡ c.receiver → d ≡ c
              the_client same =
                  let one = sound.client_ports.receivers_once j index d.connected c.connected
                  (listed (λ (c : ClientPart K). c.connected) p.clients j d e)
                  (listed (λ (c : ClientPart K). c.connected) p.clients index c at) same in
                  let f : Some d ≡ Some c = sym e ∙ ap (slice_get p.clients) one ∙ at in cc

              passes : (k : ℕ) → sender ≡ k → d ≡ c → ch ≡ channel → is_received_at p k d.port.id ch entry ≡ true
              passes k l is f =
                  rw (eq-eqb sender k l) (rw (eq-eqb (response_details p sender slot).client d.port.id
                  (addressed_to.0 ∙ sym (ap (λ (d : ClientPart K). d.port.id) is)))
                  (eq-eqb (response_details p sender slot).channel ch (addressed_to.1 ∙ sym f)))

              other_channel : (k : ℕ) → sender ≡ k → (ch ≡ channel → ⊥) → is_received_at p k d.port.id ch entry ≡ false
              other_channel k l n = rw (eq-eqb sender k l) (rw (ne_eqb (response_details p sender slot).channel ch
                  (λ g. n (sym g ∙ addressed_to.1))) (never ((response_details p sender slot).client == d.port.id)))

              other_client : (k : ℕ) → sender ≡ k → (d.receiver ≡ c.receiver → ⊥) → is_received_at p k d.port.id ch entry ≡ false
              other_client k l n =
                  let apart : j ≢ index = λ same. let f : Some d ≡ Some c = sym e ∙ ap (slice_get p.clients) same ∙ at in
                  let is : d ≡ c = cc in n (ap (λ (d : ClientPart K). d.receiver) is) in
                  let ids = ids_apart (λ (c : ClientPart K). c.connected) p.next p.limits.max_clients p.clients p.client_senders
                  sound.client_ports j index d c e at apart in
                  rw (eq-eqb sender k l) (rw (ne_eqb (response_details p sender slot).client d.port.id (λ g. ids (sym g ∙ addressed_to.0)))
                  refl)

  vacated : IsVacated after
  vacated = record {
    of_clients = λ k r ch none.
        let r_old = sound.vacated.of_clients k r ch none in
        let far : r ≡ c.receiver → ⊥ = λ e. none index c at (sym e) in (
          same_of (λ x. queue_at x.messages r ch) (queue_there m shaped c.receiver channel slot placed inside first r ch (λ e _. far e)) k
              ∙ r_old.0,
          same_of (λ x. borrowed_at x.messages r ch)
              (borrowed_there m shaped c.receiver channel slot placed inside first r ch (λ e _. far e))
              k ∙ r_old.1,
        );
    of_servers = sound.vacated.of_servers;
    awaits_none = sound.vacated.awaits_none;
  }

  -- the response in hand
  pub in_hand : IsSoundStore after (entry ∷ [])
  in_hand = record {
    counted = counted;
    held_once = held_once;
    numbered = kept_numbered p empty_hand sound p.clients p.client_senders after.server_senders p.next frame kept
        (λ k s e is. handle_uses_request p empty_hand sound.counted k s e is)
        (λ k s e is. omega (arith, handle_uses_response p empty_hand sound.counted k s e is, used_same s.value.sender s.value.slot));
    addressed = kept_addressed p empty_hand sound p.clients p.client_senders after.server_senders p.next frame kept
        (λ l i ch j d e some.
        let r = sound.addressed.entries l i ch j d e (omega (arith, some, queue_less l i d.receiver ch)) in (
          ap (λ (n : ResponseDetails). n.client) (details_same l i) ∙ r.0,
          ap (λ (n : ResponseDetails). n.channel) (details_same l i)
              ∙ r.1,
        ));
    inserted = framed_inserted p empty_hand sound p.clients p.client_senders after.server_senders p.next frame;
    stored = stored;
    sized = framed_sized p empty_hand sound p.clients p.client_senders after.server_senders p.table.entries p.next frame
        sound.sized.next_fits sound.sized.loans_made;
    vacated = vacated;
    have_ports = framed_have_ports p empty_hand sound p.clients p.client_senders after.server_senders p.table.entries p.next frame (λ k s at. at);
    client_ports = framed_client_ports p empty_hand sound p.clients p.client_senders after.server_senders
        p.table.entries
        p.next frame;
    server_ports = framed_server_ports p empty_hand sound p.clients p.client_senders after.server_senders
        p.table.entries
        p.next frame;
  }
