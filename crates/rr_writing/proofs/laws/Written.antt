-- The senders after what stands in a slot was written, or after nothing was.
use Rattle.std.proofs.Common.{◌≡◌, Bool, true, false, cond, refl}

-- a whole whose part changes, or doesn't
pub whole_or : {X Y : Type 0} (whole : X → Y) (b : Bool) (x y : X) → whole (cond b x y) ≡ cond b (whole x) (whole y)
whole_or whole true x y = refl
whole_or whole false x y = refl
