-- A message asks for one number of elements.
use Rattle.std.proofs.Common.{◌≡◌, ◌≢◌, ℕ, Some, ◌∙◌, sym}
use Rattle.rr_protocol.specs.State.{State}
use Rattle.rr_ports.specs.Facts.{AskedLen, Has}

-- and so for no other
pub asks_no_other : {Q QH P PH K : Type 0} (s : State Q QH P PH K) (n len other : ℕ) → Has s n (AskedLen len) → len ≢ other → Has s n (AskedLen other) → ⊥
unfolding Has
asks_no_other s n len other asks differ asked = differ (let same : Some len ≡ Some other = sym asks ∙ asked in cc)
