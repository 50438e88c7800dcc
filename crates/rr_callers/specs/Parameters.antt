-- A parameter service: the effect of a question on the values, and its answer.
use Rattle.std.specs.Prelude.{ℕ, List, [], ◌∷◌, Option, Some, None, set, slice_get}
use Rattle.rr_callers.specs.declared.parameters.Asked.{Asked}
use Rattle.rr_callers.specs.declared.parameters.Asked.TheVariants.{Get, Set, List as AllValues}

-- the values after a question
abbrev pub values_after : Asked → List ℕ → List ℕ
values_after (Get key) values = values
values_after (Set key value) values = set values key value
values_after AllValues values = values

-- one value, or none
abbrev pub listed : Option ℕ → List ℕ
listed (Some value) = value ∷ []
listed None = []

-- the answer, from the values after the question: the value under its key, if there is one, or all
abbrev pub answer_of : Asked → List ℕ → List ℕ
answer_of (Get key) values = listed (slice_get values key)
answer_of (Set key value) values = listed (slice_get values key)
answer_of AllValues values = values

-- the answers to questions, one after another
abbrev pub answers_of : List Asked → List ℕ → List (List ℕ)
answers_of [] values = []
answers_of (asked ∷ later) values =
    answer_of asked (values_after asked values) ∷ answers_of later (values_after asked values)
