-- What is true of a core stays true as a server takes a request from a queue.
use Rattle.std.proofs.Common.{◌≡◌, ◌<◌, ◌+◌, ◌^◌, ℕ, Bool, true, false, cond, [], ◌∷◌, Some, length, get_or, refl, sym, ap, ◌∙◌, ⊎_elim, arith}
use Rattle.std.specs.Prelude.{◌==◌, ◌&&◌, slice_get, slice_index, count_by, drop, find}
use Rattle.std.specs.Option.{option_map_or}
use Rattle.std.proofs.lemmas.Bool.{cases_eq, eq-eqb, eqb-true, ne_eqb}
use Rattle.std.proofs.lemmas.List.{get_or-set_same, get_or-set_other, length-set}
use Rattle.rr_table.specs.Maps.{mark}
use Rattle.rr_sender.specs.Senders.{Messages, times, queue_at, borrowed_at, uses, taken}
use Rattle.rr_store.specs.declared.handle_entry.HandleEntry.{HandleEntry}
use Rattle.rr_store.specs.declared.details.RequestDetails.{RequestDetails}
use Rattle.rr_store.specs.Answering.{active_entry}
use Rattle.rr_store.specs.Frames.{SameFrame}
use Rattle.rr_store.specs.Kept.{DetailsKept}
use Rattle.rr_store.specs.Loaning.{with_messages}
use Rattle.rr_store.specs.Parts.{Parts, ServerPart, Sender}
use Rattle.rr_store.specs.Receiving.{queue_from}
use Rattle.rr_store.specs.Skimming.{with_taken_request}
use Rattle.rr_store.specs.Sound.{IsSoundStore, IsCounted, IsHeldOnce, IsStored, IsVacated, IsShaped, empty_hand, is_request_at, is_response_at, is_active_at, is_in_sender, is_request_loan, is_pending, is_active_of, is_response_loan, is_loan_from, is_received_at, request_details, request_uses, server_place}
use Rattle.rr_store.specs.Views.{no_sender, no_request, sender_of, is_marked}
use Rattle.rr_store.proofs.base.senders.Connected.{servers_apart}
use Rattle.rr_store.proofs.base.senders.Entries.{found_alone}
use Rattle.rr_store.proofs.base.frames.Frames.{framed_client_ports, framed_server_ports, framed_have_ports, framed_sized, senders_set}
use Rattle.rr_store.proofs.base.views.Counts.{listed}
use Rattle.rr_store.proofs.base.hands.Hands.{count-cons, none_in_hand, senders_same}
use Rattle.rr_store.proofs.base.frames.Kept.{framed_inserted, kept_numbered, kept_addressed}
use Rattle.rr_store.proofs.loaning.LoanedSender.{other_slot, other_senders, both_true}
use Rattle.rr_store.proofs.base.lists.Replaced.{set_alike}
use Rattle.rr_store.proofs.base.hands.Stages.{handle_uses_request, handle_uses_response}
use Rattle.rr_receiving.proofs.laws.TakenSender.{queue_there, queue_here, borrowed_here, borrowed_there, held_more, uses_kept, taken_shaped, entry as first_entry}
use Rattle.rr_store.proofs.base.senders.Numbered.{numbered_once}

-- three tests, one of which is asked otherwise
swapped : (a b c d : Bool) → b ≡ c → mark ((a && d) && b) ≡ mark (a && (c && d))
swapped true true c true e = ap (λ c. mark (c && true)) e
swapped true true c false e = ap (λ c. mark (c && false)) e
swapped true false c true e = ap (λ c. mark (c && true)) e
swapped true false c false e = ap (λ c. mark (c && false)) e
swapped false b c d e = refl

module _ {Q QH P PH K : Type 0} (p : Parts Q QH P PH K) (sound : IsSoundStore p empty_hand) (left : p.next < 2 ^ 62) (sender : ℕ)
    (there : sender < length p.client_senders) (index : ℕ) (c : ServerPart K) (at : slice_get p.servers index ≡ Some c)
    (slot : ℕ) (first : slice_get (queue_from p.client_senders c.receiver 0 sender) 0 ≡ Some slot) where
  abbrev m : Messages Q RequestDetails QH
  m = (sender_of sender p.client_senders).messages

  abbrev fresh : Sender Q RequestDetails QH
  fresh = with_messages (sender_of sender p.client_senders) (taken m c.receiver 0 slot (drop 1 (queue_at m c.receiver 0)))

  abbrev after : Parts Q QH P PH K
  after = with_taken_request p sender c.receiver slot

  abbrev entry : HandleEntry
  entry = active_entry c.port.id sender slot 0

  pub shaped : IsShaped p.limits.max_servers 1 p.limits.max_active_requests_per_client m
  shaped = sound.sized.client_senders sender there

  pub placed : c.receiver < p.limits.max_servers
  placed = sound.server_ports.placed index c.connected (listed (λ (c : ServerPart K). c.connected) p.servers index c at)

  one : 0 < 1
  one = omega arith

  -- the server is that receiver
  pub the_server : find (λ s. s.port.id == c.port.id) p.servers ≡ Some c
  the_server =
      found_alone (λ (d : ServerPart K). d.port.id == c.port.id) p.servers index c at (eq-eqb c.port.id c.port.id refl)
      (λ k d e same. numbered_once sound.server_ports k index d.connected c.connected
      (listed (λ (c : ServerPart K). c.connected) p.servers k d e) (listed (λ (c : ServerPart K). c.connected) p.servers index c at)
      (eqb-true d.port.id c.port.id same))

  pub place_is : server_place p c.port.id ≡ c.receiver
  place_is = ap (λ o. option_map_or (λ s. s.receiver) o p.limits.max_servers) the_server

  pub served : server_place p c.port.id < p.limits.max_servers
  served = omega (arith, placed, place_is)

  -- a server is this one where its receiver is
  its_place : (server : ℕ) → (c.port.id == server) ≡ (c.receiver == server_place p server)
  its_place server = servers_apart p sound c.port.id server served ∙ ap (λ r. r == server_place p server) place_is

  pub frame : SameFrame p p.clients after.client_senders p.server_senders (p.next + 1)
  frame = record {
    clients_alike = refl;
    client_senders_alike = senders_set p.client_senders sender fresh
        (record {
          owner = refl;
          row = refl;
          receiver = refl;
          has_value = refl;
          slots = length-set m.held slot _;
          room = refl;
          marks = refl;
          shaped = taken_shaped m shaped c.receiver 0 slot placed one first;
        });
    server_senders_alike = senders_same p.server_senders;
    numbers = omega arith;
  }

  pub same_of : {Y : Type 0} (f : Sender Q RequestDetails QH → Y) → f fresh ≡ f (sender_of sender p.client_senders) → (k : ℕ)
      → f (sender_of k after.client_senders) ≡ f (sender_of k p.client_senders)
  same_of f same k = set_alike p.client_senders sender fresh no_sender f same k

  pub here_is : sender_of sender after.client_senders ≡ fresh
  here_is = get_or-set_same p.client_senders sender fresh no_sender there

  there_is : (k : ℕ) → (sender ≡ k → ⊥) → sender_of k after.client_senders ≡ sender_of k p.client_senders
  there_is k n = get_or-set_other p.client_senders sender k fresh no_sender (λ e. n (sym e))

  -- the details are as they were
  pub details_same : (k j : ℕ) → request_details after k j ≡ request_details p k j
  details_same k j = same_of (λ x. get_or x.messages.details j no_request) refl k

  held_is : (k j : ℕ) → slice_index (sender_of k after.client_senders).messages.held j ≡ slice_index
      (sender_of k p.client_senders).messages.held j + mark (sender == k && slot == j)
  held_is k j =
      ⊎_elim
      (λ e. let new : slice_index (sender_of k after.client_senders).messages.held j ≡ slice_index fresh.messages.held j = ap
      (λ (x : Sender Q RequestDetails QH). slice_index x.messages.held j) (sym (ap (λ k. sender_of k after.client_senders) e) ∙ here_is) in
      let old : slice_index (sender_of k p.client_senders).messages.held j ≡ slice_index m.held j = sym
      (ap (λ k. slice_index (sender_of k p.client_senders).messages.held j) e) in
      let more = held_more m shaped c.receiver 0 slot placed one first j in
      ⊎_elim
      (λ f. omega (arith, new, old, more, ap {B = ℕ} (λ b. cond b 1 0) (eq-eqb slot j f), ap mark (both_true sender slot k j e f)))
      (λ n. omega (arith, new, old, more, ap {B = ℕ} (λ b. cond b 1 0) (ne_eqb slot j n), ap mark (other_slot sender slot k j e n)))
      (cases_eq slot j))
      (λ n. omega (
        arith,
        ap (λ (x : Sender Q RequestDetails QH). slice_index x.messages.held j) (there_is k n),
        ap mark (other_senders sender slot k j n),
      ))
      (cases_eq sender k)

  -- each slot is used as often as it was
  pub used_same : (k j : ℕ) → request_uses after k j ≡ request_uses p k j
  used_same k j = same_of (λ x. uses x.messages j) (uses_kept m shaped c.receiver 0 slot placed one first j) k

  -- the server's queue has the slot once less, and counts one more
  queue_is : (k j r : ℕ) → times j (queue_at (sender_of k after.client_senders).messages r 0) + mark
      (sender == k && (c.receiver == r && slot == j)) ≡ times j (queue_at (sender_of k p.client_senders).messages r 0)
  queue_is k j r =
      ⊎_elim
      (λ e. let new : times j (queue_at (sender_of k after.client_senders).messages r 0) ≡ times j (queue_at fresh.messages r 0) = ap
      (λ (x : Sender Q RequestDetails QH). times j (queue_at x.messages r 0)) (sym (ap (λ k. sender_of k after.client_senders) e) ∙ here_is)
      in
      let old : times j (queue_at (sender_of k p.client_senders).messages r 0) ≡ times j (queue_at m r 0) = sym
      (ap (λ k. times j (queue_at (sender_of k p.client_senders).messages r 0)) e) in
      let here : mark (sender == k && (c.receiver == r && slot == j)) ≡ mark (c.receiver == r && slot == j) = ap
      (λ b. mark (b && (c.receiver == r && slot == j))) (eq-eqb sender k e) in
      ⊎_elim
      (λ f. omega (
        arith,
        new,
        old,
        here,
        ap (λ r. times j (queue_at fresh.messages r 0)) (sym f),
        ap (λ r. times j (queue_at m r 0)) f,
        ap (times j) (queue_here m shaped c.receiver 0 slot placed one first),
        first_entry m shaped c.receiver 0 slot placed one first j,
        ap (λ b. mark (b && slot == j)) (eq-eqb c.receiver r f),
        marked (slot == j),
      ))
      (λ n. omega (
        arith,
        new,
        old,
        here,
        ap (times j) (queue_there m shaped c.receiver 0 slot placed one first r 0 (λ f _. n (sym f))),
        ap (λ b. mark (b && slot == j)) (ne_eqb c.receiver r n),
      ))
      (cases_eq c.receiver r))
      (λ n. omega (
        arith,
        ap (λ (x : Sender Q RequestDetails QH). times j (queue_at x.messages r 0)) (there_is k n),
        ap (λ b. mark (b && (c.receiver == r && slot == j))) (ne_eqb sender k n),
      ))
      (cases_eq sender k)
    where
      marked : (b : Bool) → mark (true && b) ≡ cond {A = ℕ} b 1 0
      marked true = refl
      marked false = refl

  borrowed_is : (k r : ℕ) → borrowed_at (sender_of k after.client_senders).messages r 0 ≡ borrowed_at
      (sender_of k p.client_senders).messages r 0 + mark (sender == k && c.receiver == r)
  borrowed_is k r =
      ⊎_elim
      (λ e. let new : borrowed_at (sender_of k after.client_senders).messages r 0 ≡ borrowed_at fresh.messages r 0 = ap
      (λ (x : Sender Q RequestDetails QH). borrowed_at x.messages r 0) (sym (ap (λ k. sender_of k after.client_senders) e) ∙ here_is) in
      let old : borrowed_at (sender_of k p.client_senders).messages r 0 ≡ borrowed_at m r 0 = sym
      (ap (λ k. borrowed_at (sender_of k p.client_senders).messages r 0) e) in
      let here : mark (sender == k && c.receiver == r) ≡ mark (c.receiver == r) = ap (λ b. mark (b && c.receiver == r)) (eq-eqb sender k e)
      in
      ⊎_elim
      (λ f. omega (
        arith,
        new,
        old,
        here,
        ap (λ r. borrowed_at fresh.messages r 0) (sym f),
        ap (λ r. borrowed_at m r 0) f,
        borrowed_here m shaped c.receiver 0 slot placed one first,
        ap mark (eq-eqb c.receiver r f),
      ))
      (λ n. omega (
        arith,
        new,
        old,
        here,
        borrowed_there m shaped c.receiver 0 slot placed one first r 0 (λ f _. n (sym f)),
        ap mark (ne_eqb c.receiver r n),
      ))
      (cases_eq c.receiver r))
      (λ n. omega (
        arith,
        ap (λ (x : Sender Q RequestDetails QH). borrowed_at x.messages r 0) (there_is k n),
        ap (λ b. mark (b && c.receiver == r)) (ne_eqb sender k n),
      ))
      (cases_eq sender k)

  counted : IsCounted after (entry ∷ [])
  counted = record {
    requests = λ k j. let e : count_by (is_request_at k j) (entry ∷ []) ≡ mark (sender == k && slot == j) + 0 = count-cons
        (is_request_at k j) entry [] in omega (arith, held_is k j, sound.counted.requests k j, e);
    responses = λ k j. omega (arith, sound.counted.responses k j, none_in_hand (is_response_at k j) entry refl);
  }

  held_once : IsHeldOnce after (entry ∷ [])
  held_once = record {
    loans = λ k s e is. omega (arith, used_same s.value.sender s.value.slot, sound.held_once.loans k s e is);
    servers = λ k j server.
        let e : count_by (is_active_at k j server) (entry ∷ []) ≡ mark ((sender == k && slot == j) && c.port.id == server) + 0 = count-cons
        (is_active_at k j server) entry [] in
        omega (
          arith,
          sound.held_once.servers k j server,
          queue_is k j (server_place p server),
          e,
          swapped (sender == k) (c.port.id == server) (c.receiver == server_place p server) (slot == j) (its_place server),
        );
    responses = λ k j. omega (arith, sound.held_once.responses k j, none_in_hand (is_response_at k j) entry refl);
  }

  kept : DetailsKept p after
  kept = record {
    requests_used = λ k j h. omega (arith, h, used_same k j);
    requests_noted = λ k j h. details_same k j;
    responses_used = λ k j h. h;
    responses_noted = λ k j h. refl;
  }

  stored : IsStored after (entry ∷ [])
  stored =
      let n = sound.stored in
      record {
        request_loans = λ k h. omega (
          arith,
          same_of (λ x. x.loans) refl k,
          n.request_loans k (omega (arith, h, length-set p.client_senders sender fresh)),
          none_in_hand (is_in_sender is_request_loan k) entry refl,
        );
        pendings = λ k h. omega (
          arith,
          same_of (λ x. x.pendings) refl k,
          n.pendings k (omega (arith, h, length-set p.client_senders sender fresh)),
          none_in_hand (is_in_sender is_pending k) entry refl,
        );
        response_loans = λ k h. omega (arith, n.response_loans k h, none_in_hand (is_in_sender is_response_loan k) entry refl);
        active_loans = λ k server loans s e is. omega (
          arith,
          n.active_loans k server loans s e is,
          none_in_hand (is_loan_from p k) entry refl,
        );
        borrowed_requests = λ k server h.
            let e : count_by (is_in_sender (is_active_of server) k) (entry ∷ []) ≡ mark (c.port.id == server && sender == k)
            + 0 = count-cons
            (is_in_sender (is_active_of server) k) entry [] in
            omega (
              arith,
              n.borrowed_requests k server (omega (arith, h, length-set p.client_senders sender fresh)),
              borrowed_is k (server_place p server),
              e,
              either (c.port.id == server) (sender == k) (c.receiver == server_place p server) (its_place server),
            );
        borrowed_responses = λ k i ch d h e. omega (
          arith,
          n.borrowed_responses k i ch d h e,
          none_in_hand (is_received_at p k d.port.id ch) entry refl,
        );
      }
    where
      either : (a b d : Bool) → a ≡ d → mark (a && b) ≡ mark (b && d)
      either true true d e = ap mark e
      either true false d e = refl
      either false true d e = ap mark e
      either false false d e = refl

  vacated : IsVacated after
  vacated = record {
    of_clients = sound.vacated.of_clients;
    of_servers = λ k r ch none.
        let old = sound.vacated.of_servers k r ch none in
        let far : r ≡ c.receiver → ⊥ = λ e. none index c at (sym e) in (
          same_of (λ x. queue_at x.messages r ch) (queue_there m shaped c.receiver 0 slot placed one first r ch (λ e _. far e)) k ∙ old.0,
          same_of (λ x. borrowed_at x.messages r ch) (borrowed_there m shaped c.receiver 0 slot placed one first r ch (λ e _. far e)) k
              ∙ old.1,
        );
    awaits_none = λ l i r server new fits.
        ap (λ ms. is_marked p.limits.max_servers ms i r server) (same_of (λ x. x.may_answer) refl l)
        ∙ sound.vacated.awaits_none l i r server (omega (arith, new)) fits;
  }

  -- the request in hand
  pub request_in_hand : IsSoundStore after (entry ∷ [])
  request_in_hand = record {
    counted = counted;
    held_once = held_once;
    numbered = kept_numbered p empty_hand sound p.clients after.client_senders p.server_senders (p.next + 1) frame kept
        (λ k s e is. omega (arith, handle_uses_request p empty_hand sound.counted k s e is, used_same s.value.sender s.value.slot))
        (λ k s e is. handle_uses_response p empty_hand sound.counted k s e is);
    addressed = kept_addressed p empty_hand sound p.clients after.client_senders p.server_senders (p.next + 1) frame
        kept
        (λ l i ch j d e some. sound.addressed.entries l i ch j d e some);
    inserted = framed_inserted p empty_hand sound p.clients after.client_senders p.server_senders (p.next + 1) frame;
    stored = stored;
    sized = framed_sized p empty_hand sound p.clients after.client_senders p.server_senders p.table.entries (p.next + 1)
        frame
        (omega (arith, left)) (λ i d e. omega (arith, sound.sized.loans_made i d e));
    vacated = vacated;
    have_ports = framed_have_ports p empty_hand sound p.clients after.client_senders p.server_senders p.table.entries (p.next + 1) frame (λ k s at. at);
    client_ports = framed_client_ports p empty_hand sound p.clients after.client_senders p.server_senders
        p.table.entries
        (p.next + 1) frame;
    server_ports = framed_server_ports p empty_hand sound p.clients after.client_senders p.server_senders
        p.table.entries
        (p.next + 1) frame;
  }
