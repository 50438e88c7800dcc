-- What is told of something that is known, and elements that are written through a `&mut`.
use Rattle.std.proofs.Common.{◌≡◌, Option, None, Some, List, length, refl, subst}
use Rattle.std.specs.Prelude.{IsSomeAnd}
use Rattle.std.specs.List.{length_refill, refill}
use Rattle.rr_protocol.specs.Writing.{with_elements}
use Rattle.rr_laws.proofs.CompleteMessages.{KeepsComplete}

-- what is told of something that is known is true of it
pub both : {X : Type 0} (o : Option X) (x : X) (R : X → Type 0) → IsSomeAnd o (λ y. y ≡ x) → IsSomeAnd o R → R x
both None x R is told = absurd is
both (Some y) x R is told = subst R is told

-- as many other elements keep a complete body complete
pub refill_keeps : {T H : Type 0} (items : List T) → KeepsComplete {T = T} {H = H} (λ c. with_elements (refill (length c.elements) c.elements items) c)
refill_keeps items c e = rw (← length_refill (length c.elements) c.elements items refl) e
