-- The refusal of a call, by the kind of its number.
use Rattle.std.specs.Prelude.{ℕ, Option, Some}
use Rattle.std.specs.Option.{option_map_or}
use Rattle.rr_protocol.specs.declared.kind.Kind.{Kind}
use Rattle.rr_protocol.specs.Queries.{kind_at}
use Rattle.rr_protocol.specs.State.{State}

-- the refusal that its kind has, if it has one; or this one, where the number names nothing
abbrev pub refusal_by_kind : {T H K Refusal : Type 0} → (Kind → Option Refusal) → Refusal → State T H T H K → ℕ
    → Option Refusal
refusal_by_kind of_kind unknown s n = option_map_or of_kind (kind_at s n) (Some unknown)
