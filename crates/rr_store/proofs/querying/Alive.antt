-- A request's own handle can stand in its own place alone.
use Rattle.std.proofs.Common.{◌≡◌, ◌<◌, ℕ, Bool, true, false, Option, None, Some, refl, sym, ap, ◌∙◌, subst, ⊎_elim, option_map}
use Rattle.std.specs.Prelude.{is_some, option_and_then}
use Rattle.std.specs.Option.{option_map_or}
use Rattle.std.specs.FinMap as fin_map
use Rattle.std.proofs.lemmas.Bool.{false≢true}
use Rattle.rr_table.specs.TableView.{TableEntry, kept_in, value_at, value_in}
use Rattle.rr_table.specs.declared.place.Place.{Place}
use Rattle.rr_table.proofs.Kept.{kept_in_own, kept_in_place}
use Rattle.rr_table.proofs.Standing.{none_or_some}
use Rattle.rr_protocol.specs.Counts.{is_alive}
use Rattle.rr_protocol.specs.Messages.{Pending, as_pending}
use Rattle.rr_protocol.specs.Queries.{has_disconnect_hint}
use Rattle.rr_protocol.specs.State.{pending_at}
use Rattle.rr_store.specs.declared.handle_entry.HandleEntry.{HandleEntry}
use Rattle.rr_store.specs.declared.handle_entry.Stage.{Stage}
use Rattle.rr_store.specs.declared.handle_entry.Stage.TheVariants as stage
use Rattle.rr_store.specs.Hints.{stage_hint}
use Rattle.rr_store.specs.Parts.{Parts}
use Rattle.rr_store.specs.Views.{handle_in, handle_of, state_of}
use Rattle.rr_store.specs.Sound.{IsSoundStore, Hand, is_of_request, is_pending, own_place, place_at, request_details, request_uses}
use Rattle.rr_store.proofs.base.lookups.Looking.{table_entry_under, handle_at-state_of}
use Rattle.rr_store.proofs.base.hands.Stages.{handle_uses_request, pending_is_request}

-- a boolean that is not true
not_true : (b : Bool) → (b ≡ true → ⊥) → b ≡ false
not_true true h = absurd (h refl)
not_true false h = refl

module _ {Q QH P PH K : Type 0} (p : Parts Q QH P PH K) where
  -- a pending response is what shows as one
  pending-handle_in : (g : Stage) (sender slot : ℕ) → is_some (as_pending (handle_in p g sender slot)) ≡ is_pending g
  pending-handle_in stage.RequestMutUninit sender slot = refl
  pending-handle_in stage.RequestMut sender slot = refl
  pending-handle_in (stage.PendingResponse hint connections) sender slot = refl
  pending-handle_in (stage.ActiveRequest server loans) sender slot = refl
  pending-handle_in stage.ResponseMutUninit sender slot = refl
  pending-handle_in stage.ResponseMut sender slot = refl
  pending-handle_in stage.Response sender slot = refl

  -- whether the hint is set
  abbrev hint_in : Option (Pending Q QH) → Bool
  hint_in o = option_map_or (λ pending. pending.hint) o false

  hint-handle_in : (g : Stage) (sender slot : ℕ) → hint_in (as_pending (handle_in p g sender slot)) ≡ stage_hint g
  hint-handle_in stage.RequestMutUninit sender slot = refl
  hint-handle_in stage.RequestMut sender slot = refl
  hint-handle_in (stage.PendingResponse hint connections) sender slot = refl
  hint-handle_in (stage.ActiveRequest server loans) sender slot = refl
  hint-handle_in stage.ResponseMutUninit sender slot = refl
  hint-handle_in stage.ResponseMut sender slot = refl
  hint-handle_in stage.Response sender slot = refl

  -- its place is its request's own
  pending_place : (g : Stage) (sender slot : ℕ) → is_pending g ≡ true → place_at p g sender slot ≡ own_place p sender slot
  pending_place (stage.PendingResponse hint connections) sender slot h = refl
  pending_place stage.RequestMutUninit sender slot h = absurd (false≢true h)
  pending_place stage.RequestMut sender slot h = absurd (false≢true h)
  pending_place (stage.ActiveRequest server loans) sender slot h = absurd (false≢true h)
  pending_place stage.ResponseMutUninit sender slot h = absurd (false≢true h)
  pending_place stage.ResponseMut sender slot h = absurd (false≢true h)
  pending_place stage.Response sender slot h = absurd (false≢true h)

  -- a request is alive if a pending response stands under its number
  alive_is : (k : ℕ) → is_alive (state_of p) k ≡ is_some (option_and_then as_pending
      (option_map (handle_of p) (fin_map.get p.table.entries k)))
  alive_is k = ap (λ o. is_some (option_and_then as_pending o)) (handle_at-state_of p k)

  -- what stands in a place tells it
  alive_by : (k : ℕ) (s : TableEntry HandleEntry) → fin_map.get p.table.entries k ≡ Some s → is_alive (state_of p) k ≡ is_pending
      s.value.stage
  alive_by k s at =
      alive_is k ∙ ap (λ o. is_some (option_and_then as_pending (option_map (handle_of p) o))) at
      ∙ pending-handle_in s.value.stage s.value.sender s.value.slot

  -- what stands in the place under its number tells of the pending response
  pub pending_here : (k : ℕ) (own : Place) (v : HandleEntry) → value_in p.table k own ≡ Some v
      → pending_at (state_of p) k ≡ as_pending (handle_in p v.stage v.sender v.slot)
  pending_here k own v h =
      ⊎_elim
      (λ n. absurd (let f : None ≡ Some v = sym (ap (option_and_then (kept_in own)) n) ∙ h in cc))
      (λ f. let kept = kept_in_place own f.0 v (sym (ap (option_and_then (kept_in own)) f.1) ∙ h) in
      ap (option_and_then as_pending) (handle_at-state_of p k ∙ ap (option_map (handle_of p)) f.1)
      ∙ ap (λ (x : HandleEntry). as_pending (handle_in p x.stage x.sender x.slot)) kept.1)
      (none_or_some (fin_map.get p.table.entries k))

  -- and so whether a request is alive
  pub alive_here : (k : ℕ) (own : Place) (v : HandleEntry) → value_in p.table k own ≡ Some v → is_alive (state_of p) k ≡ is_pending v.stage
  alive_here k own v h = ap is_some (pending_here k own v h) ∙ pending-handle_in v.stage v.sender v.slot

  -- and whether its hint is set
  pub hint_here : (k : ℕ) (own : Place) (v : HandleEntry) → value_in p.table k own ≡ Some v
      → has_disconnect_hint (state_of p) k ≡ stage_hint v.stage
  hint_here k own v h = ap hint_in (pending_here k own v h) ∙ hint-handle_in v.stage v.sender v.slot

  module _ (hand : Hand) (sound : IsSoundStore p hand) where
    -- a request with a handle is used
    pub used : (n : ℕ) (entry : HandleEntry) → value_at p.table n ≡ Some entry → is_of_request entry.stage ≡ true
        → 0 < request_uses p entry.sender entry.slot
    used n entry h is =
        let f = table_entry_under p.table n entry h in
        subst (λ (v : HandleEntry). 0 < request_uses p v.sender v.slot) f.2
        (handle_uses_request p hand sound.counted n f.0 f.1 (ap (λ (v : HandleEntry). is_of_request v.stage) f.2 ∙ is))

    -- a pending response of a number stands in the own place of the request with that number
    stands_own : (sender slot k : ℕ) (s : TableEntry HandleEntry) → 0 < request_uses p sender slot
        → k ≡ (request_details p sender slot).number
        → fin_map.get p.table.entries k ≡ Some s → is_pending s.value.stage ≡ true
        → s.place ≡ own_place p sender slot
    stands_own sender slot k s uses number at is =
        let its = handle_uses_request p hand sound.counted k s at (pending_is_request s.value.stage is) in
        let same = sound.numbered.requests_apart s.value.sender s.value.slot sender slot its uses
        (sym (sound.numbered.pendings k s at is) ∙ number) in
        sound.inserted.placed k s at ∙ pending_place s.value.stage s.value.sender s.value.slot is ∙ ap (λ l. own_place p l s.value.slot)
        same.0
        ∙ ap (own_place p sender) same.1

    -- where nothing of its number stands in its own place, a request is not alive
    pub alive_not : (sender slot k : ℕ) (own : Place) → 0 < request_uses p sender slot → k ≡ (request_details p sender slot).number
        → own ≡ own_place p sender slot → value_in p.table k own ≡ None → is_alive (state_of p) k ≡ false
    alive_not sender slot k own uses number place h =
        ⊎_elim
        (λ n. alive_is k ∙ ap (λ o. is_some (option_and_then as_pending (option_map (handle_of p) o))) n)
        (λ f. alive_by k f.0 f.1 ∙ not_true (is_pending f.0.value.stage)
        (λ is. let kept : kept_in own f.0 ≡ Some f.0.value =
        ap (λ q. kept_in q f.0) (place ∙ sym (stands_own sender slot k f.0 uses number f.1 is)) ∙ kept_in_own f.0.place f.0.value in
        let e : None ≡ Some f.0.value = sym h ∙ ap (option_and_then (kept_in own)) f.1 ∙ kept in cc))
        (none_or_some (fin_map.get p.table.entries k))

    -- nor is its hint set
    pub hint_not : (sender slot k : ℕ) (own : Place) → 0 < request_uses p sender slot → k ≡ (request_details p sender slot).number
        → own ≡ own_place p sender slot → value_in p.table k own ≡ None → has_disconnect_hint (state_of p) k ≡ false
    hint_not sender slot k own uses number place h = none (pending_at (state_of p) k) (alive_not sender slot k own uses number place h)
      where
        none : (o : Option (Pending Q QH)) → is_some o ≡ false → hint_in o ≡ false
        none None e = refl
        none (Some pending) e = absurd (false≢true (sym e))
