-- Bodies, as contracts see them.
use Rattle.std.proofs.Common.{◌≡◌, ℕ, ◌<◌, List, get_or, length, map, sym, ap, ◌∙◌, ⊎_elim, arith}
use Rattle.std.specs.Prelude.{slice_set, slice_get, Some}
use Rattle.std.proofs.lemmas.Bool.{cases_lt}
use Rattle.std.proofs.lemmas.List.{map-set, length-map, get_or-map, get_or_past}
use Rattle.std.proofs.lemmas.Option.{slice_get_within}
use Rattle.rr_slots.specs.Pools.{Written, written, nothing_written}

module _ {B T : Type 0} (asked_len : B → ℕ) (elements : B → List T) (bodies : List B) (slot : ℕ) where
  -- a slot that asks for something is there
  pub is_there : length (get_or (map (written asked_len elements) bodies) slot (nothing_written 0)).elements <
      (get_or (map (written asked_len elements) bodies) slot (nothing_written 0)).asked_len → slot < length bodies
  is_there some =
      ⊎_elim (λ h. h)
      (λ h. absurd (omega (
        arith,
        some,
        ap (λ w. w.asked_len)
            (get_or_past (map (written asked_len elements) bodies) slot (nothing_written 0)
            (omega (arith, h, length-map bodies (written asked_len elements)))),
      )))
      (cases_lt slot (length bodies))

  -- a slot with an element is there
  pub is_there_with : (index : ℕ) → index < length (get_or (map (written asked_len elements) bodies) slot (nothing_written 0)).elements
      → slot < length bodies
  is_there_with index some =
      ⊎_elim (λ h. h)
      (λ h. absurd (omega (
        arith,
        some,
        ap (λ w. length w.elements)
            (get_or_past (map (written asked_len elements) bodies) slot (nothing_written 0)
            (omega (arith, h, length-map bodies (written asked_len elements)))),
      )))
      (cases_lt slot (length bodies))

  pub is_inside : slot < length (map (written asked_len elements) bodies) → slot < length bodies
  is_inside h = omega (arith, h, length-map bodies (written asked_len elements))

  module _ (body : B) (inside : slot < length bodies) (is : body ≡ get_or bodies slot body) where
    -- what stands in a slot is what its body holds
    pub content_is : get_or (map (written asked_len elements) bodies) slot (nothing_written 0) ≡ written asked_len elements body
    content_is = get_or-map (written asked_len elements) bodies slot body (nothing_written 0) inside
        ∙ ap (written asked_len elements) (sym is)

    -- a body became another
    pub became : (after : B) (w : Written T) → asked_len after ≡ w.asked_len → elements after ≡ w.elements
        → map (written asked_len elements) (slice_set bodies slot after) ≡ slice_set (map (written asked_len elements) bodies) slot w
    became after w len items =
        map-set (written asked_len elements) bodies slot after
        ∙ ap (λ (w : Written T). slice_set (map (written asked_len elements) bodies) slot w)
        (ap (λ n. record { asked_len = n; elements = elements after }) len
        ∙ ap (λ xs. record { asked_len = w.asked_len; elements = xs }) items)

    pub changed : (after : B) (change : Written T → Written T) → asked_len after ≡ (change (written asked_len elements body)).asked_len
        → elements after ≡ (change (written asked_len elements body)).elements
        → map (written asked_len elements) (slice_set bodies slot after) ≡ slice_set (map (written asked_len elements) bodies) slot
        (change (get_or (map (written asked_len elements) bodies) slot (nothing_written 0)))
    changed after change len items =
        became after (change (written asked_len elements body)) len items
        ∙ ap (λ (w : Written T). slice_set (map (written asked_len elements) bodies) slot (change w)) (sym content_is)

-- a slot of which somebody knows the holders has a body
pub within_bodies : {B : Type 0} (holders : List ℕ) (bodies : List B) (slot n : ℕ) → slice_get holders slot ≡ Some n
    → length bodies ≡ length holders → slot < length bodies
within_bodies holders bodies slot n e same = omega (arith, slice_get_within holders slot n e, same)

-- and so has a slot that somebody holds
pub within_held : {B : Type 0} (holders : List ℕ) (bodies : List B) (slot : ℕ) → 0 < get_or holders slot 0
    → length bodies ≡ length holders → slot < length bodies
within_held holders bodies slot some same = ⊎_elim
    (λ h. omega (arith, h, same))
    (λ h. absurd (omega (arith, some, get_or_past holders slot 0 h)))
    (cases_lt slot (length holders))
