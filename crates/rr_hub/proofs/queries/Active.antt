-- The own handle of the request that a server received is looked for.
use Rattle.std.proofs.Common.{◌≡◌, ◌<◌, ℕ, Bool, false, Option, None, Some, length, refl, sym, ap, ◌∙◌}
use Rattle.std.specs.Prelude.{IsSomeAnd}
use Rattle.std.specs.FinMap as fin_map
use Rattle.rr_table.specs.TableView.{table_entry, value_at, value_in}
use Rattle.rr_table.specs.declared.place.Place.{Place}
use Rattle.rr_protocol.specs.declared.kind.Kind.{Kind}
use Rattle.rr_protocol.specs.Counts.{is_alive}
use Rattle.rr_protocol.specs.Queries.{has_disconnect_hint, kind_at}
use Rattle.rr_protocol.specs.State.{active_at}
use Rattle.rr_store.specs.declared.details.RequestDetails.{RequestDetails}
use Rattle.rr_store.specs.declared.handle_entry.HandleEntry.{HandleEntry}
use Rattle.rr_store.specs.Hints.{stage_hint}
use Rattle.rr_store.specs.Kinds.{stage_kind}
use Rattle.rr_store.specs.Parts.{Parts}
use Rattle.rr_store.specs.Reaching.{IsCore}
use Rattle.rr_store.specs.Sound.{empty_hand, is_pending, own_place, request_details, request_uses}
use Rattle.rr_store.specs.Views.{sender_of, state_of}
use Rattle.rr_store.proofs.querying.Alive.{alive_here, alive_not, hint_here, hint_not, used}
use Rattle.rr_store.proofs.querying.Connected.{active_has_request, of_active}
use Rattle.rr_hub.proofs.Looks.{active_asked, active_stage, here}

module _ {Q QH P PH K : Type 0} (p : Parts Q QH P PH K) (core : IsCore p) (n : ℕ) (place : Place) (entry : HandleEntry)
    (at : fin_map.get p.table.entries n ≡ Some (table_entry place entry))
    (kind : kind_at (state_of p) n ≡ Some Kind.ActiveRequest) where
  -- the handle is under its number, and an active request
  there : value_at p.table n ≡ Some entry
  there = here core refl n (place, at)

  is : stage_kind entry.stage ≡ Kind.ActiveRequest
  is = active_stage core refl n (place, at) kind

  -- the sender that is asked for
  pub sender_asked : entry.sender < length p.client_senders
  sender_asked = (active_asked core refl n (place, at) kind).sender

  -- and the slot
  pub slot_asked : entry.slot < length (sender_of entry.sender p.client_senders).messages.held
  slot_asked = (active_asked core refl n (place, at) kind).slot

  -- what a boolean tells of the request
  abbrev Tells : (ℕ → Bool) → Bool → Type 0
  Tells what told = IsSomeAnd (active_at (state_of p) n) (λ active. told ≡ what active.message.number)

  module _ (details : RequestDetails) (are : details ≡ request_details p entry.sender entry.slot)
      (own : Place) (stands : own ≡ own_place p entry.sender entry.slot)
      (found : Option HandleEntry) (looked : found ≡ value_in p.table details.number own) where
    -- what is told of the number in its details
    tells_of : (what : ℕ → Bool) (told : Bool) → told ≡ what details.number → Tells what told
    tells_of what told tells =
        of_active p (state_of p) n n refl refl entry there (λ number. told ≡ what number) is
        (tells ∙ ap (λ (d : RequestDetails). what d.number) are)

    -- the request has a handle
    its : 0 < request_uses p entry.sender entry.slot
    its = used p empty_hand core.sound n entry there (active_has_request entry.stage is)

    -- and this number
    numbered : details.number ≡ (request_details p entry.sender entry.slot).number
    numbered = ap (λ (d : RequestDetails). d.number) are

    -- what is told where a handle was found
    pub some_then : (request : HandleEntry) → found ≡ Some request → (told : Bool) → told ≡ is_pending request.stage
        → Tells (is_alive (state_of p)) told
    some_then request some told tells =
        tells_of (is_alive (state_of p)) told (tells ∙ sym (alive_here p details.number own request (sym looked ∙ some)))

    -- and where none was
    pub none_then : found ≡ None → Tells (is_alive (state_of p)) false
    none_then none =
        tells_of (is_alive (state_of p)) false
        (sym (alive_not p empty_hand core.sound entry.sender entry.slot details.number own its numbered stands (sym looked ∙ none)))

    -- what is told of the hint where a handle was found
    pub hint_some_then : (request : HandleEntry) → found ≡ Some request → (told : Bool) → told ≡ stage_hint request.stage
        → Tells (has_disconnect_hint (state_of p)) told
    hint_some_then request some told tells =
        tells_of (has_disconnect_hint (state_of p)) told (tells ∙ sym (hint_here p details.number own request (sym looked ∙ some)))

    -- and where none was
    pub hint_none_then : found ≡ None → Tells (has_disconnect_hint (state_of p)) false
    hint_none_then none =
        tells_of (has_disconnect_hint (state_of p)) false
        (sym (hint_not p empty_hand core.sound entry.sender entry.slot details.number own its numbered stands (sym looked ∙ none)))
