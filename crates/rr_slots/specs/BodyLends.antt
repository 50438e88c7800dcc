-- The final value of a body, once a `&mut` to its elements has ended.
use Rattle.std.specs.Prelude.{List, length}
use Rattle.std.specs.List.{refill}
use Rattle.rr_slots.specs.Elements.{SliceState}

-- a body with other elements, of which there are as many as before
abbrev pub with_slice : {T : Type 0} → SliceState T → List T → SliceState T
with_slice body items = record body { elements = refill (length body.elements) body.elements items }
