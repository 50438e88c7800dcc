-- A request that was taken out of a queue has a handle of its server.
use Rattle.std.proofs.Common.{◌≡◌, ◌<◌, ◌+◌, ◌*◌, ◌^◌, ℕ, Bool, true, false, [], Some, length, refl, sym, ap, ◌∙◌, arith}
use Rattle.std.specs.Prelude.{◌&&◌, slice_get}
use Rattle.std.specs.FinMap as fin_map
use Rattle.std.proofs.lemmas.Bool.{false≢true, eqb-true, ne_eqb}
use Rattle.std.proofs.lemmas.List.{length-set}
use Rattle.rr_table.specs.TableView.{TableEntry}
use Rattle.rr_store.specs.declared.handle_entry.HandleEntry.{HandleEntry}
use Rattle.rr_store.specs.declared.handle_entry.Stage.TheVariants as stage
use Rattle.rr_store.specs.declared.details.RequestDetails.{RequestDetails}
use Rattle.rr_store.specs.Answering.{active_entry}
use Rattle.rr_store.specs.Parts.{Parts, ServerPart}
use Rattle.rr_store.specs.Receiving.{queue_from}
use Rattle.rr_store.specs.Skimming.{with_taken_request, with_received_request}
use Rattle.rr_store.specs.Sound.{IsSoundStore, empty_hand, is_response_loan, is_loan_from, active_place, response_details, response_uses, server_place}
use Rattle.rr_store.specs.Views.{sender_of}
use Rattle.rr_store.proofs.base.hands.Hands.{none_in_hand, inserted_sound}
use Rattle.rr_receiving.proofs.laws.request.Sound.{details_same, request_in_hand, same_of, served, used_same}
use Rattle.rr_store.proofs.base.hands.Stages.{response_loan_is_response, handle_uses_response}
use Rattle.rr_store.proofs.base.lists.Tallies.{tally-none}

module _ {Q QH P PH K : Type 0} (p : Parts Q QH P PH K) (sound : IsSoundStore p empty_hand) (left : p.next < 2 ^ 62) (sender : ℕ)
    (there : sender < length p.client_senders) (index : ℕ) (c : ServerPart K) (at : slice_get p.servers index ≡ Some c)
    (slot : ℕ) (first : slice_get (queue_from p.client_senders c.receiver 0 sender) 0 ≡ Some slot) where
  abbrev after : Parts Q QH P PH K
  after = with_taken_request p sender c.receiver slot

  abbrev entry : HandleEntry
  entry = active_entry c.port.id sender slot 0

  -- no response is of a handle with the next number
  none_answers : (l i : ℕ) → 0 < response_uses p l i → (response_details p l i).active_request ≡ p.next → ⊥
  none_answers l i used e = omega (arith, sound.addressed.actives_below l i used, e)

  no_loan : (k : ℕ) (s : TableEntry HandleEntry) → fin_map.get p.table.entries k ≡ Some s → is_loan_from p p.next s.value ≡ false
  no_loan k s e = go (is_response_loan s.value.stage) refl
    where
      go : (b : Bool) → is_response_loan s.value.stage ≡ b → is_loan_from p p.next s.value ≡ false
      go true is =
          rw (ne_eqb (response_details p s.value.sender s.value.slot).active_request p.next
          (λ f. none_answers s.value.sender s.value.slot (handle_uses_response p empty_hand sound.counted k s e
          (response_loan_is_response s.value.stage is)) f)) (never (is_response_loan s.value.stage))
        where
          never : (b : Bool) → (b && false) ≡ false
          never true = refl
          never false = refl
      go false is = rw is refl

  -- the server has a handle of it
  pub received_request_sound : IsSoundStore (with_received_request p c.port.id sender c.receiver slot) empty_hand
  received_request_sound =
      inserted_sound after [] p.next (active_place p sender slot c.port.id) entry
      (request_in_hand p sound left sender there index c at slot first)
      (record {
        fresh = sound.numbered.fresh p.next (omega arith);
        below = omega arith;
        placed = ap (λ r. record {
          row = r;
          index = (server_place p c.port.id + 1) * length
              (sender_of sender p.client_senders).messages.held + slot;
        })
            (sym (same_of p sound left sender there index c at slot first (λ x. x.row) refl sender))
            ∙ ap (λ n. record { row = (sender_of sender after.client_senders).row; index = (server_place p c.port.id + 1) * n + slot })
            (sym (same_of p sound left sender there index c at slot first (λ x. length x.messages.held)
            (length-set (sender_of sender p.client_senders).messages.held slot _) sender));
        loan = λ h. absurd (false≢true h);
        pending = λ h. absurd (false≢true h);
        response = λ h. absurd (false≢true h);
        once = λ k j. omega (arith, sound.held_once.responses k j);
        inside = λ server h. omega (
          arith,
          served p sound left sender there index c at slot first,
          ap (server_place p) (eqb-true c.port.id server h),
        );
        apart = λ server h l i. (
          (λ u e. omega (
            arith,
            sound.numbered.requests_below l i
                (omega (arith, u, used_same p sound left sender there index c at slot first l i)),
            ap (λ (n : RequestDetails). n.number) (details_same p sound left sender there index c at slot first l i),
            e,
          )),
          (λ u e. omega (arith, sound.numbered.responses_below l i u, e)),
        );
        loans = λ server loans h.
            let f : stage.ActiveRequest c.port.id 0 ≡ stage.ActiveRequest server loans = h in
            let none : 0 ≡ loans = cc in
            omega (
              arith,
              none,
              tally-none p.table.entries (λ (s : TableEntry HandleEntry). is_loan_from p p.next s.value) no_loan,
              none_in_hand (is_loan_from p p.next) entry refl,
            );
        received = λ h. absurd (false≢true h);
        answering = λ server loans h l i u f. absurd (none_answers l i u f);
        ported = record {
          request_loan = λ h. absurd (false≢true h);
          pending = λ h. absurd (false≢true h);
          response_loan = λ h. absurd (false≢true h);
        };
      })
