-- A response that was taken out of a queue can have a handle.
use Rattle.std.proofs.Common.{◌≡◌, ◌<◌, ℕ, true, cond, List, [], Option, None, Some, length, refl, sym, ap, ◌∙◌, arith}
use Rattle.std.specs.Prelude.{slice_get, slice_index}
use Rattle.std.specs.FinMap as fin_map
use Rattle.std.proofs.lemmas.Bool.{false≢true, eq-eqb}
use Rattle.rr_table.specs.TableView.{TableEntry}
use Rattle.rr_table.proofs.MapLaws.{tally-at}
use Rattle.rr_sender.specs.Senders.{times, all_entries}
use Rattle.rr_sender.proofs.EntryLaws.{times-first}
use Rattle.rr_protocol.specs.Limits.{worst_case_requests}
use Rattle.rr_store.specs.declared.handle_entry.HandleEntry.{HandleEntry}
use Rattle.rr_store.specs.declared.handle_entry.Stage.{Stage}
use Rattle.rr_store.specs.declared.handle_entry.Stage.TheVariants as stage
use Rattle.rr_store.specs.Parts.{Parts, ClientPart}
use Rattle.rr_store.specs.Views.{sender_of}
use Rattle.rr_store.specs.Sound.{IsSoundStore, empty_hand, is_of_request, is_of_response, is_request_loan, is_pending, is_active_of, has_response_at, response_uses, response_details, response_place}
use Rattle.rr_store.specs.Receiving.{queue_from, received_held, with_taken_response, with_received_response}
use Rattle.rr_store.proofs.base.hands.Hands.{inserted_sound}
use Rattle.rr_store.proofs.base.senders.Queues.{times_queue}
use Rattle.rr_receiving.proofs.laws.response.Sound.{in_hand, details_same, used_same, same_of}
use Rattle.rr_store.proofs.base.hands.Stages.{handle_uses_request, handle_uses_response}

-- the first entry of a queue stands in it
pub entry_waits : (queue : List ℕ) (slot : ℕ) → slice_get queue 0 ≡ Some slot → 0 < times slot queue
entry_waits queue slot first = omega (arith, times-first slot slot queue first, ap {B = ℕ} (λ b. cond b 1 0) (eq-eqb slot slot refl))

module _ {Q QH P PH K : Type 0} (p : Parts Q QH P PH K) (sound : IsSoundStore p empty_hand) (sender : ℕ) (slot : ℕ)
    (waits : 0 < times slot (all_entries (sender_of sender p.server_senders).messages.queues)) where
  -- a response that waits has no handle
  pub not_held : slice_index (sender_of sender p.server_senders).messages.held slot ≡ 0
  not_held = omega (arith, waits, sound.held_once.responses sender slot)

  used : 0 < response_uses p sender slot
  used = omega (arith, waits)

  -- its number names no handle
  pub no_handle : fin_map.get p.table.entries (response_details p sender slot).number ≡ None
  no_handle = go (fin_map.get p.table.entries (response_details p sender slot).number) refl
    where
      of_response : (s : TableEntry HandleEntry) → fin_map.get p.table.entries (response_details p sender slot).number ≡ Some s
          → is_of_response s.value.stage ≡ true → ⊥
      of_response s e is =
          let same = sound.numbered.responses_apart s.value.sender s.value.slot sender slot
          (handle_uses_response p empty_hand sound.counted _ s e is) used (sym (sound.numbered.responses _ s e is)) in
          let here : has_response_at sender slot s ≡ true = rw is
          (rw (eq-eqb s.value.sender sender same.0) (eq-eqb s.value.slot slot same.1)) in
          omega (arith, tally-at (has_response_at sender slot) p.table.entries _ s e here, sound.counted.responses sender slot, not_held)

      none : (s : TableEntry HandleEntry) → fin_map.get p.table.entries (response_details p sender slot).number ≡ Some s → (g : Stage)
          → s.value.stage ≡ g → ⊥
      none s e stage.RequestMutUninit g = let is = ap is_of_request g in
          sound.numbered.kinds_apart s.value.sender s.value.slot sender slot (handle_uses_request p empty_hand sound.counted _ s e is) used
          (sym (sound.numbered.requests _ s e (ap is_request_loan g)))
      none s e stage.RequestMut g = let is = ap is_of_request g in
          sound.numbered.kinds_apart s.value.sender s.value.slot sender slot (handle_uses_request p empty_hand sound.counted _ s e is) used
          (sym (sound.numbered.requests _ s e (ap is_request_loan g)))
      none s e (stage.PendingResponse hint connections) g = let is = ap is_of_request g in
          sound.numbered.kinds_apart s.value.sender s.value.slot sender slot (handle_uses_request p empty_hand sound.counted _ s e is) used
          (sym (sound.numbered.pendings _ s e (ap is_pending g)))
      none s e (stage.ActiveRequest server loans) g = (sound.numbered.actives_apart _ server sender slot s e
          (ap (is_active_of server) g ∙ eq-eqb server server refl)).1 used refl
      none s e stage.ResponseMutUninit g = of_response s e (ap is_of_response g)
      none s e stage.ResponseMut g = of_response s e (ap is_of_response g)
      none s e stage.Response g = of_response s e (ap is_of_response g)

      go : (o : Option (TableEntry HandleEntry)) → fin_map.get p.table.entries (response_details p sender slot).number ≡ o
          → fin_map.get p.table.entries (response_details p sender slot).number ≡ None
      go None e = e
      go (Some s) e = absurd (none s e s.value.stage refl)

-- the response that was received is in the table
pub received_sound : {Q QH P PH K : Type 0} (p : Parts Q QH P PH K) (sound : IsSoundStore p empty_hand) (sender : ℕ)
    (there : sender < length p.server_senders) (index : ℕ) (c : ClientPart K) (at : slice_get p.clients index ≡ Some c)
    (channel slot : ℕ) (inside : channel < worst_case_requests p.limits)
    (first : slice_get (queue_from p.server_senders c.receiver channel sender) 0 ≡ Some slot)
    → IsSoundStore (with_received_response p sender c.receiver channel slot) empty_hand
received_sound p sound sender there index c at channel slot inside first =
    let waits = entry_waits (queue_from p.server_senders c.receiver channel sender) slot first in
    let all : 0 < times slot (all_entries (sender_of sender p.server_senders).messages.queues) = omega
    (arith, waits, times_queue (sender_of sender p.server_senders).messages slot c.receiver channel) in
    let after = with_taken_response p sender c.receiver channel slot in
    let details = details_same p sound sender there index c at channel slot inside first in
    inserted_sound after [] (response_details p sender slot).number (response_place p sender slot) (received_held p sender slot)
    (in_hand p sound sender there index c at channel slot inside first)
    (record {
      fresh = no_handle p sound sender slot all;
      below = sound.numbered.responses_below sender slot (omega (arith, all));
      placed = ap (λ r. record { row = r; index = slot }) (sym (same_of p sound sender there index c at channel slot inside first
          (λ x. x.row) refl sender));
      loan = λ h. absurd (false≢true h);
      pending = λ h. absurd (false≢true h);
      response = λ _. sym (ap (λ n. n.number) (details sender slot));
      once = λ k j. omega (arith, used_same p sound sender there index c at channel slot inside first k j, sound.held_once.responses k j);
      inside = λ server h. absurd (false≢true h);
      apart = λ server h. absurd (false≢true h);
      loans = λ server loans h. absurd (let f : stage.Response ≡ stage.ActiveRequest server loans = h in cc);
      received = λ _. (
        index,
        c,
        at,
        sym (sound.addressed.entries sender slot channel index c at waits).0
            ∙ sym (ap (λ n. n.client) (details sender slot)),
      );
      answering = λ server loans h. absurd (let f : stage.Response ≡ stage.ActiveRequest server loans = h in cc);
      ported = record {
        request_loan = λ h. absurd (false≢true h);
        pending = λ h. absurd (false≢true h);
        response_loan = λ h. absurd (false≢true h);
      };
    })
