-- A response on loan in a call's hand is released, and its active request, if it stands in the table, has one less on loan.
use Rattle.std.proofs.Common.{◌≡◌, ◌≢◌, ◌<◌, ◌+◌, ◌-◌, ℕ, Bool, true, false, List, [], ◌∷◌, Option, None, Some, length, get_or, option_map, refl, sym, ap, ◌∙◌, subst, ⊎_elim, inl, inr, arith}
use Rattle.std.specs.Prelude.{◌==◌, ◌&&◌, ◌⊎◌, IfSome, slice_index, option_and_then}
use Rattle.std.specs.Ordering.{nat_cmp}
use Rattle.std.specs.FinMap as fin_map
use Rattle.std.proofs.lemmas.Bool.{false≢true, cases_lt, eq-eqb, eqb-true}
use Rattle.rr_table.specs.Maps.{mark, map_values}
use Rattle.rr_table.specs.TableView.{TableEntry, TableView, table_entry, inserted, removed, kept_in}
use Rattle.rr_table.specs.declared.place.Place.{Place}
use Rattle.rr_table.proofs.Kept.{kept_in_own, kept_in_place}
use Rattle.rr_table.proofs.MapLaws.{tally-remove, get-remove_same, get-remove_cases, get-map_values, insert_itself, insert-remove, map_values-insert}
use Rattle.rr_table.proofs.Standing.{none_or_some}
use Rattle.rr_store.specs.declared.handle_entry.HandleEntry.{HandleEntry}
use Rattle.rr_store.specs.declared.handle_entry.Stage.{Stage}
use Rattle.rr_store.specs.declared.handle_entry.Stage.TheVariants as stage
use Rattle.rr_store.specs.declared.details.ResponseDetails.{ResponseDetails}
use Rattle.rr_store.specs.Answering.{active_in, active_entry}
use Rattle.rr_store.specs.Ending.{found_under, IsCountedLess, IsLoanEnded}
use Rattle.rr_store.specs.Parts.{Parts, Sender}
use Rattle.rr_store.specs.Views.{sender_of, no_response, state_of, handle_in, handle_of}
use Rattle.rr_store.specs.Hands.{IsInsertable}
use Rattle.rr_store.specs.Dropping.{IsDropped}
use Rattle.rr_store.specs.Kept.{DetailsKept}
use Rattle.rr_store.specs.Sound.{IsSoundStore, empty_hand, handles, is_response_loan, is_active_of, is_request_at, is_response_at, is_active_at, is_in_sender, is_loan_from, is_received_at, is_request_loan, is_pending, response_details, server_place, place_at}
use Rattle.rr_store.proofs.base.views.Agreeing.{sender_within}
use Rattle.rr_releasing.proofs.laws.response_loan.Sound.{after_response_loan, response_loan_sound, dropped}
use Rattle.rr_releasing.proofs.laws.Dropping.{details_kept}
use Rattle.rr_releasing.proofs.laws.GivenBack.{senders_less, bare_less}
use Rattle.rr_store.proofs.base.hands.Hands.{count-cons, removed_sound, inserted_sound}
use Rattle.rr_store.proofs.base.hands.Recounted.{recounted_sound}
use Rattle.rr_store.proofs.base.hands.Stages.{response_loan_is_response}
use Rattle.rr_releasing.proofs.laws.Uncounted.{uncounted}

module _ {Q QH P PH K : Type 0} (p : Parts Q QH P PH K) (a b : HandleEntry) where
  turned : (test : HandleEntry → Bool) → handles p test (a ∷ b ∷ []) ≡ handles p test (b ∷ a ∷ [])
  turned test = omega (arith, count-cons test a (b ∷ []), count-cons test b [], count-cons test b (a ∷ []), count-cons test a [])

  -- which of two handles was taken first does not matter
  pub turned_sound : IsSoundStore p (a ∷ b ∷ []) → IsSoundStore p (b ∷ a ∷ [])
  turned_sound sound = record {
    counted = record {
      requests = λ l i. sound.counted.requests l i
          ∙ turned (is_request_at l i);
      responses = λ l i. sound.counted.responses l i ∙ turned (is_response_at l i);
    };
    held_once = record {
      loans = sound.held_once.loans;
      servers = λ l i other. omega (arith, sound.held_once.servers l i other, turned (is_active_at l i other));
      responses = λ l i. omega (arith, sound.held_once.responses l i, turned (is_response_at l i));
    };
    numbered = sound.numbered;
    addressed = sound.addressed;
    inserted = sound.inserted;
    stored = let n = sound.stored in record {
      request_loans = λ l h. n.request_loans l h ∙ turned (is_in_sender is_request_loan l);
      pendings = λ l h. n.pendings l h ∙ turned (is_in_sender is_pending l);
      response_loans = λ l h. n.response_loans l h ∙ turned (is_in_sender is_response_loan l);
      active_loans = λ k other loans s at is. n.active_loans k other loans s at is ∙ turned (is_loan_from p k);
      borrowed_requests = λ l other h. n.borrowed_requests l other h ∙ turned (is_in_sender (is_active_of other) l);
      borrowed_responses = λ l i channel c h at. n.borrowed_responses l i channel c h at ∙ turned (is_received_at p l c.port.id channel);
    };
    sized = sound.sized;
    vacated = sound.vacated;
    have_ports = sound.have_ports;
    client_ports = sound.client_ports;
    server_ports = sound.server_ports;
  }

-- the table in which a number's handle was taken out and put back
replaced : (table : TableView HandleEntry) (n : ℕ) (place : Place) (v : HandleEntry) → inserted (removed table n) n place v ≡ inserted table
    n place v
replaced table n place v = ap (λ (m : fin_map.FinMap nat_cmp (TableEntry HandleEntry)). record { entries = m; rows = table.rows })
    (insert-remove table.entries n (table_entry place v))

module _ {Q QH P PH K : Type 0} (q : Parts Q QH P PH K) (entry : HandleEntry)
    (sound : IsSoundStore q (entry ∷ [])) (loan : is_response_loan entry.stage ≡ true) where
  -- where the response stands
  pub spot : (entry.sender < length q.server_senders) × (0 < slice_index (sender_of entry.sender q.server_senders).messages.held entry.slot)
  spot =
      let here : is_response_at entry.sender entry.slot entry ≡ true = rw (response_loan_is_response entry.stage loan)
      (rw (eq-eqb entry.sender entry.sender refl) (rw (eq-eqb entry.slot entry.slot refl) refl)) in
      let some : 0 < slice_index (sender_of entry.sender q.server_senders).messages.held entry.slot =
      omega (
        arith,
        sound.counted.responses entry.sender entry.slot,
        count-cons (is_response_at entry.sender entry.slot) entry [],
        ap mark here,
      ) in
      (sender_within q.server_senders entry.sender entry.slot some, some)

  abbrev own : Sender P ResponseDetails PH
  own = sender_of entry.sender q.server_senders

  -- the senders without the response
  abbrev senders : List (Sender P ResponseDetails PH)
  senders = senders_less q.server_senders entry.sender entry.slot own.messages.borrowed (own.loans - 1) own.pendings

  -- the core without the response, with another table
  abbrev pub ended : TableView HandleEntry → Parts Q QH P PH K
  ended table = record q { server_senders = senders; table = table }

  -- contracts see what they see of the table
  ended_view : (table : TableView HandleEntry) → state_of (ended table) ≡ state_of (record q { table = table })
  ended_view table =
      uncounted (record q { table = table }) q.client_senders senders refl
      (bare_less q.server_senders entry.sender entry.slot own.messages.borrowed (own.loans - 1) own.pendings)

  -- where its active request is gone
  orphan_sound : ((k server loans : ℕ) (t : TableEntry HandleEntry) → fin_map.get q.table.entries k ≡ Some t
      → t.value.stage ≡ stage.ActiveRequest server loans → (response_details q entry.sender entry.slot).active_request ≢ k)
      → IsSoundStore (ended q.table) empty_hand
  orphan_sound apart = response_loan_sound q entry [] sound loan spot.0 spot.1 apart

  -- where it stands
  module _ (n server loans : ℕ) (t : TableEntry HandleEntry) (here : fin_map.get q.table.entries n ≡ Some t)
      (is : t.value.stage ≡ stage.ActiveRequest server loans)
      (named : (response_details q entry.sender entry.slot).active_request ≡ n) where
    abbrev one : Parts Q QH P PH K
    one = record q { table = removed q.table n }

    -- both are in hand
    in_hand : IsSoundStore one (entry ∷ t.value ∷ [])
    in_hand = turned_sound one t.value entry (removed_sound q (entry ∷ []) n t here sound)

    apart : (k other m : ℕ) (u : TableEntry HandleEntry) → fin_map.get one.table.entries k ≡ Some u → u.value.stage ≡ stage.ActiveRequest
        other m
        → (response_details q entry.sender entry.slot).active_request ≢ k
    apart k other m u e _ f = (get-remove_cases q.table.entries n k u e).0 (sym f ∙ named)

    abbrev left : Parts Q QH P PH K
    left = after_response_loan one entry (t.value ∷ []) in_hand loan spot.0 spot.1 apart

    abbrev counted : HandleEntry
    counted = active_entry server t.value.sender t.value.slot (loans - 1)

    whole : t.value ≡ active_entry server t.value.sender t.value.slot loans
    whole = ap (λ g. record { stage = g; sender = t.value.sender; slot = t.value.slot }) is

    left_sound : IsSoundStore left (counted ∷ [])
    left_sound = recounted_sound left [] server t.value.sender t.value.slot loans (loans - 1)
        (subst (λ (h : HandleEntry). IsSoundStore left (h ∷ [])) whole (response_loan_sound one entry
        (t.value ∷ []) in_hand loan spot.0 spot.1 apart))

    its : IsDropped one entry q.client_senders left.server_senders
    its = dropped one entry (t.value ∷ []) in_hand loan spot.0 spot.1 apart

    kept : DetailsKept one left
    kept = details_kept one entry (t.value ∷ []) in_hand q.client_senders left.server_senders its

    details_same : (l i : ℕ) → response_details left l i ≡ response_details q l i
    details_same l i = ap (λ (ns : List ResponseDetails). get_or ns i no_response) (its.all_response_details l)

    -- it has one less on loan
    one_less : loans ≡ handles left (is_loan_from left n) (counted ∷ []) + 1
    one_less =
        let test : HandleEntry → Bool = is_loan_from q n in
        let passes : test entry ≡ true = ap (λ b. b && (response_details q entry.sender entry.slot).active_request == n) loan
        ∙ eq-eqb (response_details q entry.sender entry.slot).active_request n named in
        let fails : test t.value ≡ false = ap
        (λ g. is_response_loan g && (response_details q t.value.sender t.value.slot).active_request == n)
        is in
        let same : handles left (is_loan_from left n) (counted ∷ []) ≡ handles left test (counted ∷ []) = λ i. handles left
        (λ h. is_response_loan h.stage && (details_same h.sender h.slot i).active_request == n) (counted ∷ []) in
        omega (
          arith,
          sound.stored.active_loans n server loans t here is,
          tally-remove (λ (u : TableEntry HandleEntry). test u.value) q.table.entries n t here,
          ap mark passes,
          ap mark fails,
          same,
          count-cons test entry [],
          count-cons test counted [],
        )

    insertable : IsInsertable left [] n t.place counted
    insertable = record {
      fresh = get-remove_same q.table.entries n n refl;
      below = ⊎_elim (λ l. l) (λ l. absurd (let f : None ≡ Some t = sym (sound.numbered.fresh n l) ∙ here in cc)) (cases_lt n q.next);
      placed = sound.inserted.placed n t here ∙ ap (λ g. place_at q g t.value.sender t.value.slot) is;
      loan = λ h. absurd (false≢true h);
      pending = λ h. absurd (false≢true h);
      response = λ h. absurd (false≢true h);
      once = λ l i. omega (arith, left_sound.held_once.responses l i, count-cons (is_response_at l i) counted []);
      inside = λ other h.
          let same : server ≡ other = eqb-true server other h in
          omega (
            arith,
            sound.inserted.active_servers n server t here (ap (is_active_of server) is ∙ eq-eqb server server refl),
            ap (server_place left) same,
          );
      apart = λ other h l i.
          let a = sound.numbered.actives_apart n server l i t here (ap (is_active_of server) is ∙ eq-eqb server server refl) in
          (a.0, (λ u f. a.1 (kept.responses_used l i u) (sym (ap (λ (m : ResponseDetails). m.number) (details_same l i)) ∙ f)));
      loans = λ other m e.
          let f : stage.ActiveRequest server (loans - 1) ≡ stage.ActiveRequest other m = e in
          let g : loans - 1 ≡ m = cc in
          omega (arith, g, one_less);
      received = λ h. absurd (false≢true h);
      answering = λ other m e l i u f.
          let g : stage.ActiveRequest server (loans - 1) ≡ stage.ActiveRequest other m = e in
          let same : server ≡ other = cc in
          let a = sound.numbered.answering l i n server loans t (kept.responses_used l i u) here is
          (sym (ap (λ (m : ResponseDetails). m.active_request) (details_same l i)) ∙ f) in (
            a.0 ∙ sym (ap (λ (m : ResponseDetails). m.request) (details_same l i)),
            ap (λ (m : ResponseDetails). m.server) (details_same l i) ∙ a.1
                ∙ same,
          );
      ported = record {
        request_loan = λ h. absurd (false≢true h);
        pending = λ h. absurd (false≢true h);
        response_loan = λ h. absurd (false≢true h);
      };
    }

    answered_sound : IsSoundStore (ended (inserted q.table n t.place counted)) empty_hand
    answered_sound = subst (λ table. IsSoundStore (ended table) empty_hand) (replaced q.table n t.place counted)
        (inserted_sound left [] n t.place counted left_sound insertable)

    -- the active request shows what it did
    shows : handle_of q (table_entry t.place counted) ≡ handle_of q t
    shows = sym (ap (λ (g : Stage). handle_in q g t.value.sender t.value.slot) is)

    counted_view : state_of (record q { table = inserted q.table n t.place counted }) ≡ state_of q
    counted_view =
        ap (λ hs. record (state_of q) { handles = hs })
        (map_values-insert (handle_of q) q.table.entries n (table_entry t.place counted)
        ∙ insert_itself (map_values (handle_of q) q.table.entries) n (handle_of q (table_entry t.place counted))
        (get-map_values (handle_of q) q.table.entries n ∙ ap (option_map (handle_of q)) here ∙ ap Some (sym shows)))

  abbrev asked : ℕ
  asked = (response_details q entry.sender entry.slot).active_request

  -- the core with a table is sound, and shows what it did
  abbrev Released : TableView HandleEntry → Type 0
  Released table = IsSoundStore (ended table) empty_hand × (state_of (ended table) ≡ state_of q)

  unchanged : ((k server loans : ℕ) (t : TableEntry HandleEntry) → fin_map.get q.table.entries k ≡ Some t
      → t.value.stage ≡ stage.ActiveRequest server loans → asked ≢ k) → (table : TableView HandleEntry) → table ≡ q.table → Released table
  unchanged gone table same = subst Released (sym same) (orphan_sound gone, ended_view q.table)

  -- whatever becomes of the table as the loan ends
  pub ended_well : (place : Option Place) → ((server loans : ℕ) (t : TableEntry HandleEntry) → fin_map.get q.table.entries asked ≡ Some t
      → t.value.stage ≡ stage.ActiveRequest server loans → IfSome place (λ r. r ≡ t.place))
      → (table : TableView HandleEntry) → IsLoanEnded asked (found_under q.table asked place) q.table table → Released table
  ended_well place right table told = go (fin_map.get q.table.entries asked) refl
    where
      nothing : fin_map.get q.table.entries asked ≡ None → (o : Option Place) → found_under q.table asked o ≡ None
      nothing e None = ap (option_map (λ (s : TableEntry HandleEntry). s.value)) e
      nothing e (Some r) = ap (option_and_then (kept_in r)) e

      -- what was found is what stands there, or nothing
      found_or_not : (t : TableEntry HandleEntry) → fin_map.get q.table.entries asked ≡ Some t → (o : Option Place)
          → (found_under q.table asked o ≡ None)
          ⊎ (found_under q.table asked o ≡ Some t.value)
      found_or_not t e None = inr (ap (option_map (λ (s : TableEntry HandleEntry). s.value)) e)
      found_or_not t e (Some r) = ⊎_elim
          (λ n. inl (ap (option_and_then (kept_in r)) e ∙ n))
          (λ f. inr (ap (option_and_then (kept_in r)) e ∙ f.1 ∙ ap Some (sym (kept_in_place r t f.0 f.1).1)))
          (none_or_some (kept_in r t))

      -- an active request is found
      found_there : (t : TableEntry HandleEntry) → fin_map.get q.table.entries asked ≡ Some t → (o : Option Place)
          → IfSome o (λ r. r ≡ t.place)
          → found_under q.table asked o ≡ Some t.value
      found_there t e None same = ap (option_map (λ (s : TableEntry HandleEntry). s.value)) e
      found_there t e (Some r) same = ap (option_and_then (kept_in r)) e ∙ ap (λ r. kept_in r t) same ∙ kept_in_own t.place t.value

      other : (t : TableEntry HandleEntry) → fin_map.get q.table.entries asked ≡ Some t → active_in t.value.stage ≡ None → Released table
      other t e none =
          unchanged (λ k server loans u f is a.
          let same : t ≡ u = let h : Some t ≡ Some u = sym e ∙ ap (fin_map.get q.table.entries) a ∙ f in cc in
          let no : None ≡ Some (server, loans) = sym none ∙ ap (λ (x : TableEntry HandleEntry). active_in x.value.stage) same
          ∙ ap active_in is in cc)
          table
          (⊎_elim
          (λ n. subst (λ o. IsLoanEnded asked o q.table table) n told)
          (λ f. subst (λ a. IsCountedLess asked t.value a q.table table) none (subst (λ o. IsLoanEnded asked o q.table table) f told))
          (found_or_not t e place))

      by : (t : TableEntry HandleEntry) → fin_map.get q.table.entries asked ≡ Some t → (g : Stage) → t.value.stage ≡ g → Released table
      by t e (stage.ActiveRequest server loans) is =
          let found = found_there t e place (right server loans t e is) in
          let less = subst (λ a. IsCountedLess asked t.value a q.table table) (ap active_in is)
          (subst (λ o. IsLoanEnded asked o q.table table) found told) in
          let now : table ≡ inserted q.table asked t.place (active_entry server t.value.sender t.value.slot (loans - 1)) =
          subst (λ o. IfSome o (λ (s : TableEntry HandleEntry). table ≡ inserted q.table asked s.place
          (active_entry server t.value.sender t.value.slot (loans - 1)))) e less in
          subst Released (sym now) (
            answered_sound asked server loans t e is refl,
            ended_view (inserted q.table asked t.place (active_entry server t.value.sender t.value.slot (loans - 1)))
                ∙ counted_view asked server loans t e is refl,
          )
      by t e stage.RequestMutUninit is = other t e (ap active_in is)
      by t e stage.RequestMut is = other t e (ap active_in is)
      by t e (stage.PendingResponse hint connections) is = other t e (ap active_in is)
      by t e stage.ResponseMutUninit is = other t e (ap active_in is)
      by t e stage.ResponseMut is = other t e (ap active_in is)
      by t e stage.Response is = other t e (ap active_in is)

      go : (o : Option (TableEntry HandleEntry)) → fin_map.get q.table.entries asked ≡ o → Released table
      go None e =
          unchanged (λ k server loans u f is a. let no : None ≡ Some u = sym e ∙ ap (fin_map.get q.table.entries) a ∙ f in cc) table
          (subst (λ o. IsLoanEnded asked o q.table table) (nothing e place) told)
      go (Some t) e = by t e t.value.stage refl
