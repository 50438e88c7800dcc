-- When a handle in hand can be put into the table.
use Rattle.std.specs.Prelude.{◌≡◌, ◌≢◌, ◌<◌, ◌≤◌, ℕ, ◌+◌, true, ◌∷◌, None, Some, count_by, slice_get}
use Rattle.std.specs.FinMap as fin_map
use Rattle.rr_table.specs.declared.place.Place.{Place}
use Rattle.rr_store.specs.declared.handle_entry.HandleEntry.{HandleEntry}
use Rattle.rr_store.specs.declared.handle_entry.Stage.TheVariants as stage
use Rattle.rr_store.specs.Parts.{ClientPart, Parts}
use Rattle.rr_store.specs.Sound.{Hand, IsPorted, handles, is_of_response, is_request_loan, is_pending, is_active_of, is_received, is_response_at, is_loan_from, request_uses, response_uses, request_details, response_details, server_place, place_of}

-- the number is new and not past the last one given, the place is the handle's, a request on loan is used once, and
-- the number is its message's, or an active request's own; the port whose handle it is is connected, and responses
-- are of the active request's request and server
pub record IsInsertable {Q QH P PH K : Type 0} (p : Parts Q QH P PH K) (hand : Hand) (k : ℕ) (place : Place)
    (entry : HandleEntry) : Type 0 where
  pub fresh : fin_map.get p.table.entries k ≡ None
  pub below : k < p.next
  pub placed : place ≡ place_of p entry
  pub loan : is_request_loan entry.stage ≡ true
      → (request_uses p entry.sender entry.slot ≡ 1) × (k ≡ (request_details p entry.sender entry.slot).number)
  pub pending : is_pending entry.stage ≡ true → k ≡ (request_details p entry.sender entry.slot).number
  pub response : is_of_response entry.stage ≡ true → k ≡ (response_details p entry.sender entry.slot).number
  pub once : (sender slot : ℕ) → response_uses p sender slot ≤ 1 + count_by (is_response_at sender slot) hand
  pub inside : (server : ℕ) → is_active_of server entry.stage ≡ true → server_place p server < p.limits.max_servers
  pub apart : (server : ℕ) → is_active_of server entry.stage ≡ true → (sender slot : ℕ) →
      (0 < request_uses p sender slot → (request_details p sender slot).number ≢ k)
      × (0 < response_uses p sender slot → (response_details p sender slot).number ≢ k)
  pub loans : (server loans : ℕ) → entry.stage ≡ stage.ActiveRequest server loans
      → loans ≡ handles p (is_loan_from p k) (entry ∷ hand)
  pub received : is_received entry.stage ≡ true
      → (i : ℕ) × (c : ClientPart K) × (slice_get p.clients i ≡ Some c)
      × (c.port.id ≡ (response_details p entry.sender entry.slot).client)
  pub answering : (server loans : ℕ) → entry.stage ≡ stage.ActiveRequest server loans → (sender slot : ℕ)
      → 0 < response_uses p sender slot → (response_details p sender slot).active_request ≡ k →
      ((request_details p entry.sender entry.slot).number ≡ (response_details p sender slot).request)
      × ((response_details p sender slot).server ≡ server)
  pub ported : IsPorted p.clients p.servers entry
