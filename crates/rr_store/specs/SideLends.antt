-- The final value of a side, once a `&mut` into it has ended. The arguments before the side name the members of the
-- bounds.
use Rattle.std.specs.Prelude.{ℕ, List, Option}
use Rattle.std.specs.Borrow.{Fml, RattleType, MutBor, Array, Lends}
use Rattle.std.specs.contracts.option.Option.{the_row as option_row}
use Rattle.rr_slots.specs.Elements.{option_elements}
use Rattle.rr_slots.specs.Pools.{with_element_at, with_elements}
use Rattle.rr_slots.specs.PoolLends.{refilled}
use Rattle.rr_slots.specs.declared.body.Body.{Ghosts}
use Rattle.rr_sender.specs.Senders.{Messages, with_changed_at, with_user_header}
use Rattle.rr_store.specs.contracts.side.Side.{the_row}
use Rattle.rr_store.specs.Sides.{SideParts, with_sent}

module _ (B N H P T : RattleType) (body : Ghosts B.Denot T.Denot)
    (side : MutBor (SideParts T.Denot N.Denot H.Denot P.Denot)) (sender : ℕ) where
  -- a change of the messages of a sender by the last value written through a `&mut`
  abbrev lends_change : (W : RattleType) → MutBor W.Denot
      → (W.Denot → Messages T.Denot N.Denot H.Denot → Messages T.Denot N.Denot H.Denot) → Fml
  lends_change W r change =
      Lends (the_row B N H P T body) W side r (λ value. with_sent side.now sender (change value))

  -- the element at an index of the message in a slot is the last one written through r
  abbrev pub lends_element : ℕ → ℕ → MutBor T.Denot → Fml
  lends_element slot index r =
      lends_change T r (λ item messages. with_changed_at messages slot (with_element_at index item))

  -- and so is the user header
  abbrev pub lends_user_header : ℕ → MutBor H.Denot → Fml
  lends_user_header slot r = lends_change H r (λ header messages. with_user_header messages slot header)

module _ (N H P T : RattleType) where
  -- the content of a slot for one element is the value last written through r
  abbrev pub lends_option : Ghosts (Option T.Denot) T.Denot → MutBor (SideParts T.Denot N.Denot H.Denot P.Denot) → ℕ
      → ℕ → MutBor (Option T.Denot) → Fml
  lends_option body side sender slot r =
      lends_change (option_row T) N H P T body side sender (option_row T) r
      (λ item messages. with_changed_at messages slot (with_elements (option_elements item)))

module _ (B N H P T : RattleType) where
  -- the elements of a message are the last ones written through r
  abbrev pub lends_slice : Ghosts B.Denot T.Denot → MutBor (SideParts T.Denot N.Denot H.Denot P.Denot) → ℕ → ℕ
      → MutBor (List T.Denot) → Fml
  lends_slice body side sender slot r =
      lends_change B N H P T body side sender (Array T 0) r
      (λ items messages. with_changed_at messages slot (refilled items))
