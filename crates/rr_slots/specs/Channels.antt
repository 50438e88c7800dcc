-- The channels of a client, as contracts see them.
use Rattle.std.specs.Prelude.{ℕ, Bool, false, ◌&&◌, ◌||◌, ◌==◌, if◌then◌else◌, List, slice_get, slice_set}
use Rattle.std.specs.Option.{option_map_or}
use Rattle.rr_slots.specs.declared.channel_table.Channel.{Channel}
use Rattle.rr_slots.specs.declared.channel_table.Channel.TheVariants.{Closed, Open}

-- a channel after it was closed for an id: another id's channel stays
abbrev pub closed : ℕ → Channel → Channel
closed id Closed = Closed
closed id (Open other hint) = if other == id then Closed else Open other hint

-- a channel after the hint of an id was set: another id's channel stays
abbrev pub hinted : ℕ → Channel → Channel
hinted id Closed = Closed
hinted id (Open other hint) = Open other (hint || other == id)

-- whether a channel is open for an id
abbrev pub is_open : ℕ → Channel → Bool
is_open id Closed = false
is_open id (Open other hint) = other == id

-- whether a channel is open for an id with its hint set
abbrev pub is_hinted : ℕ → Channel → Bool
is_hinted id Closed = false
is_hinted id (Open other hint) = other == id && hint

-- the channels after one of them changed
abbrev pub with_changed_at : List Channel → ℕ → (Channel → Channel) → List Channel
with_changed_at channels index change =
    option_map_or (λ channel. slice_set channels index (change channel)) (slice_get channels index) channels

-- the result of a test for one of them
abbrev pub is_at : List Channel → ℕ → (Channel → Bool) → Bool
is_at channels index test = option_map_or test (slice_get channels index) false
