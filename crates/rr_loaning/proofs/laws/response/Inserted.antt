-- A core is sound once a loaned response stands in the table and its active request counts it.
use Rattle.std.proofs.Common.{◌≡◌, ◌<◌, ◌+◌, ◌^◌, ℕ, [], ◌∷◌, None, Some, refl, sym, ap, ◌∙◌, subst, arith}
use Rattle.std.specs.Prelude.{◌==◌, ◌&&◌, slice_get}
use Rattle.std.specs.FinMap as fin_map
use Rattle.std.proofs.lemmas.Bool.{false≢true, eq-eqb}
use Rattle.rr_table.specs.Maps.{mark}
use Rattle.rr_table.specs.TableView.{TableEntry, table_entry, inserted, removed}
use Rattle.rr_table.proofs.MapLaws.{get-insert_other, get-remove_same, get-remove_other, insert-remove, tally-remove}
use Rattle.rr_sender.specs.Senders.{times, all_entries}
use Rattle.rr_store.specs.declared.handle_entry.HandleEntry.{HandleEntry}
use Rattle.rr_store.specs.declared.handle_entry.Stage.TheVariants as stage
use Rattle.rr_store.specs.declared.details.ResponseDetails.{ResponseDetails}
use Rattle.rr_store.specs.Parts.{Parts, ServerPart}
use Rattle.rr_store.specs.Views.{sender_of}
use Rattle.rr_store.specs.Sound.{IsSoundStore, empty_hand, handles, is_response_at, is_active_of, is_loan_from, request_details, response_uses, place_of}
use Rattle.rr_store.specs.Hands.{IsInsertable}
use Rattle.rr_store.specs.Answering.{active_entry, response_loan_held, response_loan_details, response_loan_place, with_response_loan_in_hand, with_response_loan}
use Rattle.rr_store.proofs.base.hands.Hands.{count-cons, one_in_hand, removed_sound, inserted_sound}
use Rattle.rr_store.proofs.base.frames.Kept.{same_placing}
use Rattle.rr_store.proofs.loaning.LoanedSender.{slot_cases, both_true}
use Rattle.rr_store.proofs.base.hands.Recounted.{recounted_sound}
use Rattle.rr_loaning.proofs.laws.response.Sound as loan_sound

module _ {Q QH P PH K : Type 0} (p : Parts Q QH P PH K) (sound : IsSoundStore p empty_hand) (index : ℕ) (c : ServerPart K)
    (at : slice_get p.servers index ≡ Some c) (n rl rs loans : ℕ)
    (s : TableEntry HandleEntry) (here : fin_map.get p.table.entries n ≡ Some s) (is : s.value ≡ active_entry c.port.id rl rs loans)
    (given : n < p.next)
    (slot len : ℕ) (header : PH)
    (free : slice_get (sender_of c.sender p.server_senders).messages.held slot ≡ Some 0)
    (unused : times slot (all_entries (sender_of c.sender p.server_senders).messages.queues) ≡ 0) (left : p.next < 2 ^ 62) where
  abbrev taken : Parts Q QH P PH K
  taken = record p { table = removed p.table n }

  abbrev more : HandleEntry
  more = active_entry c.port.id rl rs (loans + 1)

  abbrev loan : HandleEntry
  loan = response_loan_held c slot

  abbrev details : ResponseDetails
  details = response_loan_details p c n rl rs

  -- the active request was taken, and counts one more
  in_hand : IsSoundStore taken (more ∷ [])
  in_hand =
      let R : HandleEntry → Type 0 = λ h. IsSoundStore taken (h ∷ []) in
      recounted_sound taken [] c.port.id rl rs loans (loans + 1) (subst R is (removed_sound p [] n s here sound))

  gone : fin_map.get taken.table.entries n ≡ None
  gone = get-remove_same p.table.entries n n refl

  abbrev answered : Parts Q QH P PH K
  answered = with_response_loan_in_hand taken c details slot len header

  both : IsSoundStore answered (more ∷ loan ∷ [])
  both = loan_sound.response_loan_in_hand taken index c at n rl rs (loans + 1) in_hand gone given slot len header free unused left

  used_is : (k j : ℕ) → response_uses answered k j ≡ response_uses p k j + mark (c.sender == k && slot == j)
  used_is = loan_sound.used_is taken index c at n rl rs (loans + 1) in_hand gone given slot len header free unused

  -- the responses that were loaned from it, and this one
  counts : handles answered (is_loan_from answered n) (more ∷ loan ∷ []) ≡ loans + 1
  counts = omega (
    arith,
    sound.stored.active_loans n c.port.id loans s here (ap (λ (h : HandleEntry). h.stage) is),
    tally-remove (λ (t : TableEntry HandleEntry). is_loan_from p n t.value) p.table.entries n s here,
    ap (λ (h : HandleEntry). mark (is_loan_from p n h)) is,
    loan_sound.loans_same taken index c at n rl rs (loans + 1) in_hand gone given slot len header free unused n,
    count-cons (is_loan_from answered n) more (loan ∷ []),
    one_in_hand (is_loan_from answered n) loan (ap (λ (a : ResponseDetails). a.active_request == n)
        (loan_sound.details_here taken index c at n rl rs (loans + 1) in_hand gone given slot len header free unused) ∙ eq-eqb n n refl),
  )

  entries_active : IsInsertable answered (loan ∷ []) n s.place more
  entries_active = record {
    fresh = gone;
    below = omega (arith, given);
    placed = sound.inserted.placed n s here ∙ ap (place_of p) is
        ∙ sym (same_placing taken (more ∷ []) in_hand p.clients p.client_senders answered.server_senders
        (p.next + 1)
        (loan_sound.frame taken index c at n rl rs (loans + 1) in_hand gone given slot len header free unused) more.stage rl rs);
    loan = λ h. absurd (false≢true h);
    pending = λ h. absurd (false≢true h);
    response = λ h. absurd (false≢true h);
    once = λ k j. omega (arith, both.held_once.responses k j, count-cons (is_response_at k j) more (loan ∷ []));
    inside = λ server h. sound.inserted.active_servers n server s here (ap (λ (x : HandleEntry). is_active_of server x.stage) is ∙ h);
    apart = λ server h k j.
        let a = sound.numbered.actives_apart n server k j s here (ap (λ (x : HandleEntry). is_active_of server x.stage) is ∙ h) in (
          a.0,
          (λ u f. loan_sound.used_cases taken index c at n rl rs (loans + 1) in_hand gone given slot len header free unused k j u
              (λ _ _ v. omega (arith, ap (λ (a : ResponseDetails). a.number) v, f, given))
              (λ w v. a.1 w (sym (ap (λ (a : ResponseDetails). a.number) v) ∙ f))),
        );
    loans = λ server l e.
        let f : stage.ActiveRequest c.port.id (loans + 1) ≡ stage.ActiveRequest server l = e in
        let same : loans + 1 ≡ l = cc in sym same ∙ sym counts;
    received = λ h. absurd (false≢true h);
    answering = λ server l e k j u f.
        let g : stage.ActiveRequest c.port.id (loans + 1) ≡ stage.ActiveRequest server l = e in
        let same : c.port.id ≡ server = cc in
        loan_sound.used_cases taken index c at n rl rs (loans + 1) in_hand gone given slot len header free unused k j u
        (λ _ _ v. (sym (ap (λ (a : ResponseDetails). a.request) v), ap (λ (a : ResponseDetails). a.server) v ∙ same))
        (λ w v.
        let b = sound.numbered.answering k j n c.port.id loans s w here (ap (λ (h : HandleEntry). h.stage) is)
        (sym (ap (λ (a : ResponseDetails). a.active_request) v) ∙ f) in (
          sym (ap (λ (h : HandleEntry). (request_details p h.sender h.slot).number) is) ∙ b.0
              ∙ sym (ap (λ (a : ResponseDetails). a.request) v),
          ap (λ (a : ResponseDetails). a.server) v ∙ b.1 ∙ same,
        ));
    ported = record {
      request_loan = λ h. absurd (false≢true h);
      pending = λ h. absurd (false≢true h);
      response_loan = λ h. absurd (false≢true h);
    };
  }

  abbrev counted : Parts Q QH P PH K
  counted = record answered { table = inserted answered.table n s.place more }

  one_inserted : IsSoundStore counted (loan ∷ [])
  one_inserted = inserted_sound answered (loan ∷ []) n s.place more both entries_active

  entries_loan : IsInsertable counted [] p.next (response_loan_place p c slot) loan
  entries_loan = record {
    fresh = get-insert_other taken.table.entries n (table_entry s.place more) p.next (λ e. omega (arith, e, given))
        ∙ get-remove_other p.table.entries n p.next (λ e. omega (arith, e, given)) ∙ sound.numbered.fresh p.next (omega arith);
    below = omega arith;
    placed = ap (λ r. record { row = r; index = slot }) (sym (loan_sound.same_of taken index c at n rl rs
        (loans + 1) in_hand gone given slot len header free unused (λ x. x.row) refl c.sender));
    loan = λ h. absurd (false≢true h);
    pending = λ h. absurd (false≢true h);
    response = λ h. sym (ap (λ (a : ResponseDetails). a.number)
        (loan_sound.details_here taken index c at n rl rs (loans + 1) in_hand gone given slot len header free unused));
    once = λ k j. slot_cases c.sender slot k j
        (λ e f. omega (
          arith,
          used_is k j,
          ap mark (both_true c.sender slot k j e f),
          ap (λ k. response_uses p k j) e,
          ap (λ j. response_uses p c.sender j) f,
          loan_sound.not_used taken index c at n rl rs (loans + 1) in_hand gone given slot len header free unused,
        ))
        (λ b _. omega (arith, used_is k j, ap mark b, sound.held_once.responses k j));
    inside = λ server h. absurd (false≢true h);
    apart = λ server h. absurd (false≢true h);
    loans = λ server l h. absurd (let f : stage.ResponseMutUninit ≡ stage.ActiveRequest server l = h in cc);
    received = λ h. absurd (false≢true h);
    answering = λ server l h. absurd (let f : stage.ResponseMutUninit ≡ stage.ActiveRequest server l = h in cc);
    ported = record {
      request_loan = λ h. absurd (false≢true h);
      pending = λ h. absurd (false≢true h);
      response_loan = λ _. (index, c, at, refl);
    };
  }

  -- both in the table
  pub response_loan_sound : IsSoundStore (with_response_loan p c n s.place more details slot len header) empty_hand
  response_loan_sound =
      let R : fin_map.FinMap _ (TableEntry HandleEntry) → Type 0 = λ m. IsSoundStore
      (record answered {
        table = record {
          entries = fin_map.insert m p.next (table_entry (response_loan_place p c slot) loan);
          rows = p.table.rows;
        };
      })
      empty_hand in
      subst R (insert-remove p.table.entries n (table_entry s.place more))
      (inserted_sound counted [] p.next (response_loan_place p c slot) loan one_inserted entries_loan)
