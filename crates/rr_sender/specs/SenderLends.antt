-- The final value of a sender, once a `&mut` into it has ended. The argument before the sender names the body's
-- members.
use Rattle.std.specs.Prelude.{ℕ, List, Option}
use Rattle.std.specs.Borrow.{Fml, RattleType, MutBor, Array, Lends}
use Rattle.std.specs.contracts.option.Option.{the_row as option_row}
use Rattle.rr_slots.specs.Elements.{option_elements}
use Rattle.rr_slots.specs.Pools.{with_element_at, with_elements}
use Rattle.rr_slots.specs.PoolLends.{refilled}
use Rattle.rr_slots.specs.declared.body.Body.{Ghosts}
use Rattle.rr_sender.specs.Senders.{Messages, with_changed_at, with_user_header}
use Rattle.rr_sender.specs.contracts.sender.Sender.{the_row}

-- the user header of a slot is the last one written through r
abbrev pub lends_user_header : (B N H T : RattleType) → Ghosts B.Denot T.Denot
    → MutBor (Messages T.Denot N.Denot H.Denot) → ℕ → MutBor H.Denot → Fml
lends_user_header B N H T body m slot r =
    Lends (the_row B N H T body) H m r (λ header. with_user_header m.now slot header)

-- the element at an index is the last one written through r
abbrev pub lends_element : (B N H T : RattleType) → Ghosts B.Denot T.Denot → MutBor (Messages T.Denot N.Denot H.Denot)
    → ℕ → ℕ → MutBor T.Denot → Fml
lends_element B N H T body m slot index r =
    Lends (the_row B N H T body) T m r (λ item. with_changed_at m.now slot (with_element_at index item))

-- the slot's content is the value last written through r
abbrev pub lends_option : (N H T : RattleType) → Ghosts (Option T.Denot) T.Denot
    → MutBor (Messages T.Denot N.Denot H.Denot) → ℕ → MutBor (Option T.Denot) → Fml
lends_option N H T body m slot r =
    Lends (the_row (option_row T) N H T body) (option_row T) m r
    (λ item. with_changed_at m.now slot (with_elements (option_elements item)))

-- the elements are the last ones written through r
abbrev pub lends_slice : (B N H T : RattleType) → Ghosts B.Denot T.Denot → MutBor (Messages T.Denot N.Denot H.Denot)
    → ℕ → MutBor (List T.Denot) → Fml
lends_slice B N H T body m slot r =
    Lends (the_row B N H T body) (Array T 0) m r (λ items. with_changed_at m.now slot (refilled items))
