-- A handle stands in another stage, which the counts of handles don't tell from the one before: its stage alone changes.
use Rattle.std.proofs.Common.{◌≡◌, ℕ, Bool, ◌∷◌, None, Some, refl, sym, ap, ◌∙◌, subst, ⊎_elim, arith}
use Rattle.std.specs.Prelude.{◌&&◌, ◌==◌, IfSome, count_by}
use Rattle.std.specs.Option.{option_map_or}
use Rattle.std.specs.FinMap as fin_map
use Rattle.std.proofs.lemmas.Bool.{cases_lt}
use Rattle.rr_table.specs.Maps.{mark}
use Rattle.rr_table.specs.TableView.{TableEntry, TableView, table_entry, inserted, removed, value_at}
use Rattle.rr_table.proofs.MapLaws.{get-remove_same, insert-remove, map_values-insert}
use Rattle.rr_protocol.specs.Messages.{Handle}
use Rattle.rr_protocol.specs.State.{with_changed}
use Rattle.rr_store.specs.declared.handle_entry.HandleEntry.{HandleEntry}
use Rattle.rr_store.specs.declared.handle_entry.Stage.{Stage}
use Rattle.rr_store.specs.declared.handle_entry.Stage.TheVariants as stage
use Rattle.rr_store.specs.Parts.{Parts}
use Rattle.rr_store.specs.Views.{handle_in, handle_of, state_of}
use Rattle.rr_store.specs.Hands.{IsInsertable}
use Rattle.rr_store.specs.Sound.{IsSoundStore, Hand, handles, is_of_request, is_of_response, is_request_loan, is_response_loan, is_pending, is_received, is_active_of, is_request_at, is_response_at, is_active_at, is_in_sender, is_loan_from, is_received_at, place_at, response_details}
use Rattle.rr_store.proofs.base.views.Agreeing.{same_state}
use Rattle.rr_store.proofs.base.hands.Hands.{count-cons, removed_sound, inserted_sound}
use Rattle.rr_store.proofs.base.lookups.Looking.{table_entry_under, shown}

-- a test of stages that a handle passes alike before and after
abbrev pub IsBlind : (Stage → Stage) → (Stage → Bool) → Type 0
IsBlind change test = (g : Stage) → test (change g) ≡ test g

-- the tests by which handles are counted
pub record IsRestaging (change : Stage → Stage) : Type 0 where
  pub request : IsBlind change is_of_request
  pub response : IsBlind change is_of_response
  pub request_loan : IsBlind change is_request_loan
  pub response_loan : IsBlind change is_response_loan
  pub pending : IsBlind change is_pending
  pub received : IsBlind change is_received
  pub active : (server : ℕ) → IsBlind change (is_active_of server)

-- a proof for each stage
pub each_stage : (R : Stage → Type 0) → R stage.RequestMutUninit → R stage.RequestMut
    → ((hint : Bool) (connections : ℕ) → R (stage.PendingResponse hint connections))
    → ((server loans : ℕ) → R (stage.ActiveRequest server loans))
    → R stage.ResponseMutUninit → R stage.ResponseMut → R stage.Response → (g : Stage) → R g
each_stage R a b c d e f h stage.RequestMutUninit = a
each_stage R a b c d e f h stage.RequestMut = b
each_stage R a b c d e f h (stage.PendingResponse hint connections) = c hint connections
each_stage R a b c d e f h (stage.ActiveRequest server loans) = d server loans
each_stage R a b c d e f h stage.ResponseMutUninit = e
each_stage R a b c d e f h stage.ResponseMut = f
each_stage R a b c d e f h stage.Response = h

-- the handle then
abbrev pub restaged : (Stage → Stage) → HandleEntry → HandleEntry
restaged change h = record { stage = change h.stage; sender = h.sender; slot = h.slot }

module _ {Q QH P PH K : Type 0} (p : Parts Q QH P PH K) (change : Stage → Stage) (blind : IsRestaging change) where
  module _ (hand : Hand) (entry : HandleEntry) where
    counted_alike : (test : HandleEntry → Bool) → test (restaged change entry) ≡ test entry
        → count_by test (restaged change entry ∷ hand) ≡ count_by test (entry ∷ hand)
    counted_alike test e = omega (arith, count-cons test (restaged change entry) hand, count-cons test entry hand, ap mark e)

    handles_alike : (test : HandleEntry → Bool) → test (restaged change entry) ≡ test entry
        → handles p test (entry ∷ hand) ≡ handles p test (restaged change entry ∷ hand)
    handles_alike test e = omega (arith, counted_alike test e)

    in_sender_alike : (test : Stage → Bool) (sender : ℕ) → IsBlind change test
        → handles p (is_in_sender test sender) (entry ∷ hand) ≡ handles p (is_in_sender test sender) (restaged change entry ∷ hand)
    in_sender_alike test sender blind = handles_alike (is_in_sender test sender) (ap (λ b. b && entry.sender == sender) (blind entry.stage))

    request_at_alike : (sender slot : ℕ) → is_request_at sender slot (restaged change entry) ≡ is_request_at sender slot entry
    request_at_alike sender slot = ap (λ b. b && (entry.sender == sender && entry.slot == slot)) (blind.request entry.stage)

    response_at_alike : (sender slot : ℕ) → is_response_at sender slot (restaged change entry) ≡ is_response_at sender slot entry
    response_at_alike sender slot = ap (λ b. b && (entry.sender == sender && entry.slot == slot)) (blind.response entry.stage)

    -- in hand, nothing but its stage changes
    restaged_hand : IsSoundStore p (entry ∷ hand) → IsSoundStore p (restaged change entry ∷ hand)
    restaged_hand sound = record {
      counted = record {
        requests = λ l i. sound.counted.requests l i ∙ handles_alike (is_request_at l i) (request_at_alike l i);
        responses = λ l i. sound.counted.responses l i ∙ handles_alike (is_response_at l i) (response_at_alike l i);
      };
      held_once = record {
        loans = sound.held_once.loans;
        servers = λ l i server. omega (
          arith,
          sound.held_once.servers l i server,
          handles_alike (is_active_at l i server)
              (ap (λ b. b && is_active_of server (change entry.stage)) (request_at_alike l i)
              ∙ ap (λ b. is_request_at l i entry && b) (blind.active server entry.stage)),
        );
        responses = λ l i. omega (arith, sound.held_once.responses l i, counted_alike (is_response_at l i) (response_at_alike l i));
      };
      numbered = sound.numbered;
      addressed = sound.addressed;
      inserted = sound.inserted;
      stored = let n = sound.stored in record {
        request_loans = λ l h. n.request_loans l h ∙ in_sender_alike is_request_loan l blind.request_loan;
        pendings = λ l h. n.pendings l h ∙ in_sender_alike is_pending l blind.pending;
        response_loans = λ l h. n.response_loans l h ∙ in_sender_alike is_response_loan l blind.response_loan;
        active_loans = λ k server loans s at is. n.active_loans k server loans s at is
            ∙ handles_alike (is_loan_from p k) (λ t. blind.response_loan entry.stage t
            && (response_details p entry.sender entry.slot).active_request == k);
        borrowed_requests = λ l server h. n.borrowed_requests l server h ∙ in_sender_alike (is_active_of server) l (blind.active server);
        borrowed_responses = λ l i channel c h at. n.borrowed_responses l i channel c h at
            ∙ handles_alike (is_received_at p l c.port.id channel)
            (λ t. blind.received entry.stage t && (entry.sender == l
            && ((response_details p entry.sender entry.slot).client == c.port.id
            && (response_details p entry.sender entry.slot).channel == channel)));
      };
      sized = sound.sized;
      vacated = sound.vacated;
      have_ports = sound.have_ports;
      client_ports = sound.client_ports;
      server_ports = sound.server_ports;
    }

module _ {Q QH P PH K : Type 0} (p : Parts Q QH P PH K) (change : Stage → Stage) (blind : IsRestaging change) (n : ℕ) (entry : HandleEntry)
    (h : value_at p.table n ≡ Some entry) (new : TableView HandleEntry) (v : HandleEntry) (becomes : v ≡ restaged change entry)
    (told : IfSome (fin_map.get p.table.entries n) (λ s. new ≡ inserted p.table n s.place v)) where
  -- the entry of the handle, and what stands in its place then
  its : (s : TableEntry HandleEntry) × (fin_map.get p.table.entries n ≡ Some s) × (s.value ≡ entry)
  its = table_entry_under p.table n entry h

  new_table : (s : TableEntry HandleEntry) → fin_map.get p.table.entries n ≡ Some s → s.value ≡ entry → new ≡ inserted p.table n s.place
      (restaged change s.value)
  new_table s at is = subst (λ o. IfSome o (λ s. new ≡ inserted p.table n s.place v)) at told
      ∙ ap (inserted p.table n s.place) (becomes ∙ ap (restaged change) (sym is))

  -- contracts see the handle change as its stage does
  pub restaged_view : (shows : Handle Q QH P PH → Handle Q QH P PH)
      → ((g : Stage) (sender slot : ℕ) → handle_in p (change g) sender slot ≡ shows (handle_in p g sender slot))
      → state_of (record p { table = new }) ≡ with_changed (state_of p) n shows
  restaged_view shows shown_then =
      let s = its.0 in
      let r = table_entry s.place (restaged change s.value) in
      ap (λ t. state_of (record p { table = t })) (new_table s its.1 its.2)
      ∙ same_state (state_of (record p { table = inserted p.table n s.place (restaged change s.value) }))
      (with_changed (state_of p) n shows) refl refl refl refl
      (map_values-insert (handle_of p) p.table.entries n r
      ∙ ap (fin_map.insert (state_of p).handles n) (shown_then s.value.stage s.value.sender s.value.slot
      ∙ ap (λ (x : HandleEntry). shows (handle_in p x.stage x.sender x.slot)) its.2)
      ∙ sym (ap (λ o. option_map_or (λ handle. fin_map.insert (state_of p).handles n (shows handle)) o (state_of p).handles)
      (shown p n entry h)))
      refl refl refl refl

  module _ (hand : Hand) (sound : IsSoundStore p hand)
      (place : (g : Stage) (sender slot : ℕ) → place_at p (change g) sender slot ≡ place_at p g sender slot)
      (inactive : (server loans : ℕ) → change entry.stage ≡ stage.ActiveRequest server loans → ⊥) where
    insertable : (s : TableEntry HandleEntry) → fin_map.get p.table.entries n ≡ Some s → s.value ≡ entry
        → IsInsertable (record p { table = removed p.table n }) hand n s.place (restaged change s.value)
    insertable s at is = record {
      fresh = get-remove_same p.table.entries n n refl;
      below = ⊎_elim (λ l. l) (λ l. absurd (let f : None ≡ Some s = sym (sound.numbered.fresh n l) ∙ at in cc)) (cases_lt n p.next);
      placed = sound.inserted.placed n s at ∙ sym (place s.value.stage s.value.sender s.value.slot);
      loan = λ e. let l = sym (blind.request_loan s.value.stage) ∙ e in
          (sound.held_once.loans n s at l, sound.numbered.requests n s at l);
      pending = λ e. sound.numbered.pendings n s at (sym (blind.pending s.value.stage) ∙ e);
      response = λ e. sound.numbered.responses n s at (sym (blind.response s.value.stage) ∙ e);
      once = sound.held_once.responses;
      inside = λ server e. sound.inserted.active_servers n server s at (sym (blind.active server s.value.stage) ∙ e);
      apart = λ server e l i. sound.numbered.actives_apart n server l i s at (sym (blind.active server s.value.stage) ∙ e);
      loans = λ server loans e. absurd (inactive server loans (sym (ap (λ (x : HandleEntry). change x.stage) is) ∙ e));
      received = λ e. sound.numbered.received n s at (sym (blind.received s.value.stage) ∙ e);
      answering = λ server loans e. absurd (inactive server loans (sym (ap (λ (x : HandleEntry). change x.stage) is) ∙ e));
      ported = let h = sound.have_ports.handles n s at in record {
        request_loan = λ e. h.request_loan (sym (blind.request_loan s.value.stage) ∙ e);
        pending = λ e. h.pending (sym (blind.pending s.value.stage) ∙ e);
        response_loan = λ e. h.response_loan (sym (blind.response_loan s.value.stage) ∙ e);
      };
    }

    -- the core stays sound
    pub restaged_sound : IsSoundStore (record p { table = new }) hand
    restaged_sound =
        let s = its.0 in
        let taken = record p { table = removed p.table n } in
        let back : record {
          entries = fin_map.insert (fin_map.remove p.table.entries n) n (table_entry s.place (restaged change s.value));
          rows = p.table.rows;
        } ≡ new =
        ap (λ m. record { entries = m; rows = p.table.rows })
        (insert-remove p.table.entries n (table_entry s.place (restaged change s.value)))
        ∙ sym (new_table s its.1 its.2) in
        subst (λ t. IsSoundStore (record p { table = t }) hand) back
        (inserted_sound taken hand n s.place (restaged change s.value)
        (restaged_hand taken change blind hand s.value (removed_sound p hand n s its.1 sound))
        (insertable s its.1 its.2))
