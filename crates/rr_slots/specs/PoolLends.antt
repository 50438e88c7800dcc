-- The final value of a pool, once a `&mut` into it has ended. The argument before the pool names the body's members.
use Rattle.std.specs.Prelude.{ℕ, List, length, Option}
use Rattle.std.specs.List.{refill}
use Rattle.std.specs.Borrow.{Fml, RattleType, MutBor, Array, Lends}
use Rattle.std.specs.contracts.option.Option.{the_row as option_row}
use Rattle.rr_slots.specs.Elements.{option_elements}
use Rattle.rr_slots.specs.Pools.{Written, Slots, with_changed_at, with_element_at, with_elements}
use Rattle.rr_slots.specs.declared.body.Body.{Ghosts}
use Rattle.rr_slots.specs.contracts.pool.Pool.{the_row}

-- other elements, of which there are as many as before
abbrev pub refilled : {T : Type 0} → List T → Written T → Written T
refilled items w = with_elements (refill (length w.elements) w.elements items) w

-- the element at an index is the last one written through r
abbrev pub lends_element : (B T : RattleType) → Ghosts B.Denot T.Denot → MutBor (Slots T.Denot) → ℕ → ℕ
    → MutBor T.Denot → Fml
lends_element B T body p slot index r =
    Lends (the_row B T body) T p r (λ item. with_changed_at p.now slot (with_element_at index item))

-- the slot's content is the value last written through r
abbrev pub lends_option : (T : RattleType) → Ghosts (Option T.Denot) T.Denot → MutBor (Slots T.Denot) → ℕ
    → MutBor (Option T.Denot) → Fml
lends_option T body p slot r =
    Lends (the_row (option_row T) T body) (option_row T) p r
    (λ item. with_changed_at p.now slot (with_elements (option_elements item)))

-- the elements are the last ones written through r
abbrev pub lends_slice : (B T : RattleType) → Ghosts B.Denot T.Denot → MutBor (Slots T.Denot) → ℕ
    → MutBor (List T.Denot) → Fml
lends_slice B T body p slot r =
    Lends (the_row B T body) (Array T 0) p r (λ items. with_changed_at p.now slot (refilled items))
