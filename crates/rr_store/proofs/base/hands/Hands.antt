-- A handle goes from the table into a call's hand, and from the hand into the table.
use Rattle.std.proofs.Common.{◌≡◌, ◌≢◌, ◌<◌, ◌+◌, ℕ, Bool, true, false, List, [], ◌∷◌, None, Some, refl, sym, ap, ◌∙◌, subst, ⊎_elim, arith}
use Rattle.std.specs.Prelude.{◌&&◌, count_by, slice_get}
use Rattle.std.specs.Ordering.{nat_cmp}
use Rattle.std.specs.FinMap as fin_map
use Rattle.std.proofs.lemmas.List.Sums.{sum_by-cons}
use Rattle.rr_table.specs.Maps.{mark}
use Rattle.rr_table.specs.TableView.{TableEntry, table_entry, inserted, removed}
use Rattle.rr_table.specs.declared.place.Place.{Place}
use Rattle.rr_table.proofs.MapLaws.{tally-insert, tally-remove, get-insert_cases, get-insert_other, get-remove_cases, get-remove_same, get-remove_other}
use Rattle.rr_store.specs.declared.handle_entry.HandleEntry.{HandleEntry}
use Rattle.rr_store.specs.declared.handle_entry.Stage.TheVariants as stage
use Rattle.rr_store.specs.Parts.{ClientPart, Parts, Sender}
use Rattle.rr_store.specs.Sound.{IsSoundStore, Hand, handles, is_of_response, is_request_loan, is_pending, is_active_of, is_received, is_request_at, is_response_at, is_active_at, is_loan_from, request_uses, response_uses, request_details, response_details, server_place, place_of, IsAddressed, IsPorted, IsSized, IsVacated, HavePorts}
use Rattle.rr_store.specs.Frames.{SendersAlike}
use Rattle.rr_store.specs.Hands.{IsInsertable}
use Rattle.std.proofs.lemmas.Bool.{cases_eq}

-- one more in hand
pub count-cons : {X : Type 0} (test : X → Bool) (x : X) (xs : List X) → count_by test (x ∷ xs) ≡ mark (test x) + count_by test xs
count-cons test x xs = sum_by-cons (λ y. mark (test y)) x xs

-- one that passes, and one that doesn't, alone in hand
pub one_in_hand : (test : HandleEntry → Bool) (h : HandleEntry) → test h ≡ true → count_by test (h ∷ []) ≡ 1
one_in_hand test h e = omega (arith, count-cons test h [], ap mark e)

pub none_in_hand : (test : HandleEntry → Bool) (h : HandleEntry) → test h ≡ false → count_by test (h ∷ []) ≡ 0
none_in_hand test h e = omega (arith, count-cons test h [], ap mark e)

-- what is false beside anything
pub never : (b : Bool) → (b && false) ≡ false
never true = refl
never false = refl

-- senders are alike to themselves
pub senders_same : {T N H : Type 0} (senders : List (Sender T N H)) → SendersAlike senders senders
senders_same senders = record
    { many = refl; each = λ l. record { owner = refl; row = refl; receiver = refl; has_value = refl; slots = refl; room = refl; marks = refl; shaped = λ r c k h. h } }

module _ {Q QH P PH K : Type 0} (p : Parts Q QH P PH K) where
  -- what is true whatever handles stand in the table
  module _ (entries : fin_map.FinMap nat_cmp (TableEntry HandleEntry)) where
    abbrev replaced : Parts Q QH P PH K
    replaced = record p { table = record p.table { entries = entries } }

    replaced_addressed : IsAddressed p → IsAddressed replaced
    replaced_addressed n = record {
      requests = n.requests;
      responses = n.responses;
      clients_below = n.clients_below;
      actives_below = n.actives_below;
      answered_below = n.answered_below;
      answers = n.answers;
      client_senders = n.client_senders;
      entries = n.entries;
    }

    replaced_sized : IsSized p → IsSized replaced
    replaced_sized n = record {
      limits_fit = n.limits_fit;
      client_senders = n.client_senders;
      server_senders = n.server_senders;
      marks = n.marks;
      next_fits = n.next_fits;
      channels = n.channels;
      loans_made = n.loans_made;
      most_loans = n.most_loans;
      rows_fit = n.rows_fit;
    }

    replaced_vacated : IsVacated p → IsVacated replaced
    replaced_vacated n = record { of_clients = n.of_clients; of_servers = n.of_servers; awaits_none = n.awaits_none }

    replaced_ports : ((k : ℕ) (s : TableEntry HandleEntry) → fin_map.get entries k ≡ Some s → IsPorted p.clients p.servers s.value)
        → HavePorts p → HavePorts replaced
    replaced_ports handles n = record {
      handles = handles;
      apart = n.apart;
      left_clients = n.left_clients;
      left_servers = n.left_servers;
      client_room = n.client_room;
      server_room = n.server_room;
    }

  module _ (hand : Hand) (k : ℕ) (s : TableEntry HandleEntry) (at : fin_map.get p.table.entries k ≡ Some s) (sound : IsSoundStore p hand) where
    abbrev taken : Parts Q QH P PH K
    taken = record p { table = removed p.table k }

    abbrev with_it : Hand
    with_it = s.value ∷ hand

    -- as many handles pass a test as before
    same_taken : (test : HandleEntry → Bool) → handles p test hand ≡ handles taken test with_it
    same_taken test = omega (
      arith,
      tally-remove (λ (t : TableEntry HandleEntry). test t.value) p.table.entries k s at,
      count-cons test s.value hand,
    )

    still : (j : ℕ) (t : TableEntry HandleEntry) → fin_map.get taken.table.entries j ≡ Some t → fin_map.get p.table.entries j ≡ Some t
    still j t e = (get-remove_cases p.table.entries k j t e).1

    -- what was under a number is in hand
    pub removed_sound : IsSoundStore taken with_it
    removed_sound = record {
      counted = record {
        requests = λ l i. sound.counted.requests l i
            ∙ same_taken (is_request_at l i);
        responses = λ l i. sound.counted.responses l i ∙ same_taken (is_response_at l i);
      };
      held_once = record {
        loans = λ j t e. sound.held_once.loans j t (still j t e);
        servers = λ l i server. omega (arith, sound.held_once.servers l i server, same_taken (is_active_at l i server));
        responses = λ l i. omega (arith, sound.held_once.responses l i, count-cons (is_response_at l i) s.value hand);
      };
      numbered = let n = sound.numbered in record {
        fresh = λ j h. gone j (n.fresh j h);
        requests = λ j t e. n.requests j t (still j t e);
        pendings = λ j t e. n.pendings j t (still j t e);
        responses = λ j t e. n.responses j t (still j t e);
        requests_below = n.requests_below;
        responses_below = n.responses_below;
        requests_apart = n.requests_apart;
        responses_apart = n.responses_apart;
        kinds_apart = n.kinds_apart;
        actives_apart = λ j server l i t e. n.actives_apart j server l i t (still j t e);
        received = λ j t e. n.received j t (still j t e);
        answering = λ l i j server loans t u e. n.answering l i j server loans t u (still j t e);
      };
      addressed = replaced_addressed taken.table.entries sound.addressed;
      inserted = let n = sound.inserted in record {
        placed = λ j t e. n.placed j t (still j t e);
        client_rows = n.client_rows;
        server_rows = n.server_rows;
        client_rows_apart = n.client_rows_apart;
        server_rows_apart = n.server_rows_apart;
        rows_apart = n.rows_apart;
        active_servers = λ j server t e. n.active_servers j server t (still j t e);
      };
      stored = let n = sound.stored in record {
        request_loans = λ l h. n.request_loans l h ∙ same_taken _;
        pendings = λ l h. n.pendings l h ∙ same_taken _;
        response_loans = λ l h. n.response_loans l h ∙ same_taken _;
        active_loans = λ j server loans t e is. n.active_loans j server loans t (still j t e) is ∙ same_taken (is_loan_from p j);
        borrowed_requests = λ l server h. n.borrowed_requests l server h ∙ same_taken _;
        borrowed_responses = λ l i channel c h e. n.borrowed_responses l i channel c h e ∙ same_taken _;
      };
      sized = replaced_sized taken.table.entries sound.sized;
      vacated = replaced_vacated taken.table.entries sound.vacated;
      have_ports = replaced_ports taken.table.entries (λ j t e. sound.have_ports.handles j t (still j t e)) sound.have_ports;
      client_ports = sound.client_ports;
      server_ports = sound.server_ports;
    }
      where
        gone : (j : ℕ) → fin_map.get p.table.entries j ≡ None → fin_map.get taken.table.entries j ≡ None
        gone j none = ⊎_elim (λ e. get-remove_same p.table.entries k j e) (λ e. get-remove_other p.table.entries k j e ∙ none)
            (cases_eq j k)

  module _ (hand : Hand) (k : ℕ) (place : Place) (entry : HandleEntry) (sound : IsSoundStore p (entry ∷ hand))
      (new : IsInsertable p hand k place entry) where
    abbrev given : Parts Q QH P PH K
    given = record p { table = inserted p.table k place entry }

    -- as many handles pass a test as before
    same_given : (test : HandleEntry → Bool) → handles p test (entry ∷ hand) ≡ handles given test hand
    same_given test = omega (
      arith,
      tally-insert (λ (t : TableEntry HandleEntry). test t.value) p.table.entries k (table_entry place entry) new.fresh,
      count-cons test entry hand,
    )

    -- a handle of the table is the new one or was there
    cases : {Z : Type 0} (j : ℕ) (t : TableEntry HandleEntry) → fin_map.get given.table.entries j ≡ Some t
        → (k ≡ j → table_entry place entry ≡ t → Z)
        → (fin_map.get p.table.entries j ≡ Some t → Z) → Z
    cases j t e now before = ⊎_elim (λ c. now (sym c.0) c.1) (λ c. before c.1)
        (get-insert_cases p.table.entries k (table_entry place entry) j t e)

    -- what was in hand is under a number
    pub inserted_sound : IsSoundStore given hand
    inserted_sound = record {
      counted = record {
        requests = λ l i. sound.counted.requests l i
            ∙ same_given (is_request_at l i);
        responses = λ l i. sound.counted.responses l i ∙ same_given (is_response_at l i);
      };
      held_once = record {
        loans = λ j t e. cases j t e
            (λ n is. let R : TableEntry HandleEntry → Type 0 = λ t. is_request_loan t.value.stage ≡ true
            → request_uses p t.value.sender t.value.slot ≡ 1 in subst R is (λ h. (new.loan h).0))
            (λ b. sound.held_once.loans j t b);
        servers = λ l i server. omega (arith, sound.held_once.servers l i server, same_given (is_active_at l i server));
        responses = λ l i. new.once l i;
      };
      numbered = let n = sound.numbered in record {
        fresh = λ j h. get-insert_other p.table.entries k (table_entry place entry) j (λ e. omega (arith, h, e, new.below)) ∙ n.fresh j h;
        requests = λ j t e. cases j t e
            (λ n is. let R : TableEntry HandleEntry → Type 0 = λ t. is_request_loan t.value.stage ≡ true
            → j ≡ (request_details p t.value.sender t.value.slot).number in subst R is (λ h. sym n ∙ (new.loan h).1))
            (λ b. n.requests j t b);
        pendings = λ j t e. cases j t e
            (λ n is. let R : TableEntry HandleEntry → Type 0 = λ t. is_pending t.value.stage ≡ true
            → j ≡ (request_details p t.value.sender t.value.slot).number in subst R is (λ h. sym n ∙ new.pending h))
            (λ b. n.pendings j t b);
        responses = λ j t e. cases j t e
            (λ n is. let R : TableEntry HandleEntry → Type 0 = λ t. is_of_response t.value.stage ≡ true
            → j ≡ (response_details p t.value.sender t.value.slot).number in subst R is (λ h. sym n ∙ new.response h))
            (λ b. n.responses j t b);
        requests_below = n.requests_below;
        responses_below = n.responses_below;
        requests_apart = n.requests_apart;
        responses_apart = n.responses_apart;
        kinds_apart = n.kinds_apart;
        actives_apart = λ j server l i t e. cases j t e
            (λ m is. let R : TableEntry HandleEntry → Type 0 = λ t. is_active_of server t.value.stage ≡ true
            → (0 < request_uses p l i → (request_details p l i).number ≢ j)
            × (0 < response_uses p l i → (response_details p l i).number ≢ j) in
            subst R is (λ h. ((λ u f. (new.apart server h l i).0 u (f ∙ sym m)), (λ u f. (new.apart server h l i).1 u (f ∙ sym m)))))
            (λ b. n.actives_apart j server l i t b);
        received = λ j t e. cases j t e
            (λ m is. let R : TableEntry HandleEntry → Type 0 = λ t. is_received t.value.stage ≡ true → (i : ℕ) × (c : ClientPart K)
            × (slice_get p.clients i ≡ Some c) × (c.port.id ≡ (response_details p t.value.sender t.value.slot).client) in
            subst R is new.received)
            (λ b. n.received j t b);
        answering = λ l i j server loans t u e. cases j t e
            (λ m is. let R : TableEntry HandleEntry → Type 0 = λ t. t.value.stage ≡ stage.ActiveRequest server loans
            → (response_details p l i).active_request ≡ j →
            ((request_details p t.value.sender t.value.slot).number ≡ (response_details p l i).request)
            × ((response_details p l i).server ≡ server) in
            subst R is (λ h f. new.answering server loans h l i u (f ∙ sym m)))
            (λ b. n.answering l i j server loans t u b);
      };
      addressed = replaced_addressed given.table.entries sound.addressed;
      inserted = let n = sound.inserted in record {
        placed = λ j t e. cases j t e
            (λ m is. let R : TableEntry HandleEntry → Type 0 = λ t. t.place ≡ place_of p t.value in subst R is new.placed)
            (λ b. n.placed j t b);
        client_rows = n.client_rows;
        server_rows = n.server_rows;
        client_rows_apart = n.client_rows_apart;
        server_rows_apart = n.server_rows_apart;
        rows_apart = n.rows_apart;
        active_servers = λ j server t e. cases j t e
            (λ m is. let R : TableEntry HandleEntry → Type 0 = λ t. is_active_of server t.value.stage ≡ true
            → server_place p server < p.limits.max_servers in subst R is (λ h. new.inside server h))
            (λ b. n.active_servers j server t b);
      };
      stored = let n = sound.stored in record {
        request_loans = λ l h. n.request_loans l h ∙ same_given _;
        pendings = λ l h. n.pendings l h ∙ same_given _;
        response_loans = λ l h. n.response_loans l h ∙ same_given _;
        active_loans = λ j server loans t e. cases j t e
            (λ m is. let R : TableEntry HandleEntry → Type 0 = λ t. t.value.stage ≡ stage.ActiveRequest server loans
            → loans ≡ handles given (is_loan_from given j) hand in
            subst R is (λ h. new.loans server loans h ∙ ap (λ a. handles p (is_loan_from p a) (entry ∷ hand)) m
            ∙ same_given (is_loan_from p j)))
            (λ b h. n.active_loans j server loans t b h ∙ same_given (is_loan_from p j));
        borrowed_requests = λ l server h. n.borrowed_requests l server h ∙ same_given _;
        borrowed_responses = λ l i channel c h e. n.borrowed_responses l i channel c h e ∙ same_given _;
      };
      sized = replaced_sized given.table.entries sound.sized;
      vacated = replaced_vacated given.table.entries sound.vacated;
      have_ports = replaced_ports given.table.entries (λ j t e. cases j t e
          (λ m is. let R : TableEntry HandleEntry → Type 0 = λ t. IsPorted p.clients p.servers t.value in subst R is new.ported)
          (λ b. sound.have_ports.handles j t b)) sound.have_ports;
      client_ports = sound.client_ports;
      server_ports = sound.server_ports;
    }
