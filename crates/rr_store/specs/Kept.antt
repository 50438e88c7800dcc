-- Every message that is used was used before, with the same content.
use Rattle.std.specs.Prelude.{◌≡◌, ◌<◌, ℕ}
use Rattle.rr_store.specs.Parts.{Parts}
use Rattle.rr_store.specs.Sound.{request_uses, response_uses, request_details, response_details}

pub record DetailsKept {Q QH P PH K : Type 0} (p q : Parts Q QH P PH K) : Type 0 where
  pub requests_used : (sender slot : ℕ) → 0 < request_uses q sender slot → 0 < request_uses p sender slot
  pub requests_noted : (sender slot : ℕ) → 0 < request_uses q sender slot
      → request_details q sender slot ≡ request_details p sender slot
  pub responses_used : (sender slot : ℕ) → 0 < response_uses q sender slot → 0 < response_uses p sender slot
  pub responses_noted : (sender slot : ℕ) → 0 < response_uses q sender slot
      → response_details q sender slot ≡ response_details p sender slot
