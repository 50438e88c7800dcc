-- The round-robin cursor of a receiver on a channel.
use Rattle.std.specs.Prelude.{◌<◌, ℕ, IsSomeAnd, Vec, length, slice_get, slice_index_or}
use Rattle.std.specs.Global.{Global}
use Rattle.std.specs.Option.{option_map_or}
use Rattle.rr_sender.specs.declared.turns.Turns.{Turns}

-- the cursor: the sender to poll first, and the first of all if none is kept
abbrev pub turn_at : Turns → ℕ → ℕ → ℕ
turn_at t receiver channel =
    option_map_or (λ (row : Vec ℕ Global). slice_index_or row.items channel 0) (slice_get t.rows.items receiver) 0

-- there is a place for it
abbrev pub HasTurn : Turns → ℕ → ℕ → Type 0
HasTurn t receiver channel =
    IsSomeAnd (slice_get t.rows.items receiver) (λ (row : Vec ℕ Global). channel < length row.items)
