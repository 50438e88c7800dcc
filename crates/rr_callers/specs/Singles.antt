-- The elements of responses of one number each.
use Rattle.std.specs.Prelude.{ℕ, List, [], ◌∷◌, map}
use Rattle.std.specs.List.{range_with_len}

-- this many lists of one number, counting up from a number
abbrev pub singles : ℕ → ℕ → List (List ℕ)
singles first count = map (λ value. value ∷ []) (range_with_len first count)
