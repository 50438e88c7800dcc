-- Messages of default elements: the loan, and the writes.
use Rattle.std.specs.Prelude.{◌≡◌, ℕ, List, length, All, IsSomeAnd}
use Rattle.rr_protocol.specs.Loans.{empty_content}
use Rattle.rr_protocol.specs.State.{State, handle_at}
use Rattle.rr_protocol.specs.Refusals.{content_in}
use Rattle.rr_protocol.specs.Step.{with_complete}

module _ {T H K : Type 0} where
  -- this number names a message without elements, of this loaned length
  abbrev pub IsBlank : State T H T H K → ℕ → ℕ → Type 0
  IsBlank s n len =
      IsSomeAnd (handle_at s n) (λ handle. content_in handle ≡ empty_content (content_in handle).user_header len)

  -- this many default elements were written to the message under this number, and it was taken as complete
  abbrev pub FillsWithDefaults : (T → Type 0) → State T H T H K → ℕ → ℕ → State T H T H K → Type 0
  FillsWithDefaults IsDefault old n len new =
      (elements : List T) × (length elements ≡ len) × All IsDefault elements × (new ≡ with_complete old n elements)
