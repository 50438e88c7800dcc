-- A core is sound once a request that was sent stands in the table as a pending response.
use Rattle.std.proofs.Common.{◌≡◌, ℕ, true, [], ◌∷◌, Some, refl, sym, ap, ◌∙◌, subst, arith}
use Rattle.std.specs.FinMap as fin_map
use Rattle.std.proofs.lemmas.Bool.{false≢true}
use Rattle.rr_table.specs.TableView.{TableEntry, table_entry, removed}
use Rattle.rr_table.proofs.MapLaws.{get-remove_same, insert-remove}
use Rattle.rr_store.specs.declared.handle_entry.HandleEntry.{HandleEntry}
use Rattle.rr_store.specs.declared.handle_entry.Stage.TheVariants as stage
use Rattle.rr_store.specs.declared.details.RequestDetails.{RequestDetails}
use Rattle.rr_store.specs.Parts.{Parts}
use Rattle.rr_store.specs.Sound.{IsSoundStore, empty_hand, is_request_loan, request_uses, request_details, place_of, IsPorted}
use Rattle.rr_store.specs.Hands.{IsInsertable}
use Rattle.rr_store.specs.Sending.{request_held, pending_held, with_request_in_queues, with_request_sent}
use Rattle.rr_store.proofs.base.hands.Hands.{removed_sound, inserted_sound}
use Rattle.rr_sending.proofs.laws.request.Sound as sent

module _ {Q QH P PH K : Type 0} (p : Parts Q QH P PH K) (sound : IsSoundStore p empty_hand) (k sender slot connections : ℕ)
    (s : TableEntry HandleEntry)
    (at : fin_map.get p.table.entries k ≡ Some s) (is : s.value ≡ request_held sender slot) where
  abbrev pub taken : Parts Q QH P PH K
  taken = record p { table = removed p.table k }

  -- the request was taken out of the table
  pub taken_sound : IsSoundStore taken (request_held sender slot ∷ [])
  taken_sound = let R : HandleEntry → Type 0 = λ h. IsSoundStore taken (h ∷ []) in subst R is (removed_sound p [] k s at sound)

  -- its handle is the only use of it
  pub used_once : request_uses p sender slot ≡ 1
  used_once = let R : HandleEntry → Type 0 = λ h. is_request_loan h.stage ≡ true → request_uses p h.sender h.slot ≡ 1 in
      subst R is (sound.held_once.loans k s at) refl

  -- it has its number
  pub numbered : k ≡ (request_details p sender slot).number
  numbered = let R : HandleEntry → Type 0 = λ h. is_request_loan h.stage ≡ true → k ≡ (request_details p h.sender h.slot).number in
      subst R is (sound.numbered.requests k s at) refl

  abbrev queued : Parts Q QH P PH K
  queued = with_request_in_queues taken sender slot

  queued_sound : IsSoundStore queued (pending_held sender slot connections ∷ [])
  queued_sound = sent.in_queues taken sender slot connections taken_sound used_once

  entries : IsInsertable queued [] k s.place (pending_held sender slot connections)
  entries = record {
    fresh = get-remove_same p.table.entries k k refl;
    below = omega (arith, numbered, sound.numbered.requests_below sender slot (omega (arith, used_once)));
    placed = sound.inserted.placed k s at ∙ ap (place_of p) is
        ∙ ap (λ r. record { row = r; index = slot }) (sym (sent.same_of taken sender slot connections taken_sound used_once
        (λ x. x.row) refl sender));
    loan = λ h. absurd (false≢true h);
    pending = λ h. numbered ∙ sym (ap (λ (n : RequestDetails). n.number)
        (sent.details_same taken sender slot connections taken_sound used_once sender slot));
    response = λ h. absurd (false≢true h);
    once = λ l i. sound.held_once.responses l i;
    inside = λ server h. absurd (false≢true h);
    apart = λ server h. absurd (false≢true h);
    loans = λ server loans h. absurd (let f : stage.PendingResponse _ _ ≡ stage.ActiveRequest server loans = h in cc);
    received = λ h. absurd (false≢true h);
    answering = λ server loans h. absurd (let f : stage.PendingResponse _ _ ≡ stage.ActiveRequest server loans = h in cc);
    ported = record {
      request_loan = λ h. absurd (false≢true h);
      pending = λ _. (subst (IsPorted p.clients p.servers) is (sound.have_ports.handles k s at)).request_loan refl;
      response_loan = λ h. absurd (false≢true h);
    };
  }

  -- the request that was sent is in the table
  pub sent_sound : IsSoundStore (with_request_sent p k sender slot connections s.place) empty_hand
  sent_sound =
      let R : fin_map.FinMap _ (TableEntry HandleEntry) → Type 0 = λ m. IsSoundStore
      (record queued { table = record { entries = m; rows = p.table.rows } }) empty_hand in
      subst R (insert-remove p.table.entries k (table_entry s.place (pending_held sender slot connections)))
      (inserted_sound queued [] k s.place (pending_held sender slot connections) queued_sound entries)
