-- A list of lists in which one element was replaced.
use Rattle.std.proofs.Common.{◌≡◌, ◌≢◌, ◌<◌, ℕ, List, [], length, get_or, ap, ◌∙◌}
use Rattle.std.specs.Prelude.{slice_set}
use Rattle.std.proofs.lemmas.List.{get_or-set_same, get_or-set_other, length-set}
use Rattle.rr_sender.specs.Senders.{at_two, set_two}
use Rattle.rr_store.proofs.base.lists.Replaced.{set_alike}

module _ {X : Type 0} (rows : List (List X)) (i j : ℕ) (x d : X) where
  -- in another row nothing changed
  pub other_row : (r c : ℕ) → r ≢ i → at_two d (set_two rows i j x) r c ≡ at_two d rows r c
  other_row r c n = ap (λ (row : List X). get_or row c d) (get_or-set_other rows i r (slice_set (get_or rows i []) j x) [] n)

  -- nor at another place of the row
  pub other_column : i < length rows → (c : ℕ) → c ≢ j → at_two d (set_two rows i j x) i c ≡ at_two d rows i c
  other_column h c n = ap (λ (row : List X). get_or row c d) (get_or-set_same rows i (slice_set (get_or rows i []) j x) [] h)
      ∙ get_or-set_other (get_or rows i []) j c x d n

  -- rows are as long as before
  pub row_length : (r : ℕ) → length (get_or (set_two rows i j x) r []) ≡ length (get_or rows r [])
  row_length r = set_alike rows i (slice_set (get_or rows i []) j x) [] (λ (row : List X). length row) (length-set (get_or rows i []) j x) r
