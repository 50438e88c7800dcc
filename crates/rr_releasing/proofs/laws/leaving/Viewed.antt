-- What calls of a store ask and say of its ports, by the ports that it keeps.
use Rattle.std.proofs.Common.{◌≡◌, ◌&&◌, ℕ, List, Some, map, sym, ap, ◌∙◌, subst}
use Rattle.std.specs.Prelude.{◌==◌, slice_get}
use Rattle.std.specs.List.{list_any}
use Rattle.rr_store.specs.declared.port.LeftPort.{LeftPort}
use Rattle.rr_store.specs.Draining.{AreApart, SendersDrained}
use Rattle.rr_store.specs.Leaving.{is_of, outdated}
use Rattle.rr_store.specs.Parts.{Sender}
use Rattle.rr_store.proofs.base.lists.Adding.{mapped}
use Rattle.rr_store.proofs.base.lookups.Looking.{list_any-map}
use Rattle.rr_store.proofs.base.views.Counts.{listed}
use Rattle.rr_store.proofs.leaving.Drained.{drained_same}

-- what is told of the one at an index is told of it as it is seen
pub told_seen : {X Y : Type 0} (f : X → Y) (items : List X) (i : ℕ) (R : Y → Type 0)
    → ((x : X) → slice_get items i ≡ Some x → R (f x)) → (y : Y) → slice_get (map f items) i ≡ Some y → R y
told_seen f items i R told y at =
    let found = mapped f items i y at in
    subst R found.2 (told found.0 found.1)

module _ {X Y : Type 0} (f : X → Y) (read : Y → ℕ) (slice items : List X) (is : slice ≡ items) where
  -- an element as it is seen
  pub element_seen : (i : ℕ) (x : X) → slice_get slice i ≡ Some x → slice_get (map f items) i ≡ Some (f x)
  element_seen i x at = listed f items i x (ap (λ (xs : List X). slice_get xs i) (sym is) ∙ at)

  -- those that are seen apart are apart
  pub apart_seen : AreApart read (map f items) → AreApart (λ x. read (f x)) slice
  apart_seen apart i j x y at there = apart i j (f x) (f y) (element_seen i x at) (element_seen j y there)

  -- whether one of them is a receiver
  any_seen : (r : ℕ) → list_any (λ x. read (f x) == r) slice ≡ list_any (λ y. read y == r) (map f items)
  any_seen r = ap (λ (xs : List X). list_any (λ x. read (f x) == r) xs) is ∙ sym (list_any-map f (λ y. read y == r) items)

  -- what is expired at those that are kept is so at those that are seen
  pub drained_seen : {T N H : Type 0} (before after : List (Sender T N H)) (left seen : List LeftPort) → left ≡ seen → (leaving : LeftPort)
      (room : ℕ)
      → SendersDrained (λ l r. list_any (λ x. read (f x) == r) slice && is_of (outdated before left room leaving r) l) before after
      → SendersDrained (λ l r. list_any (λ y. read y == r) (map f items) && is_of (outdated before seen room leaving r) l) before after
  drained_seen before after left seen same leaving room =
      drained_same (λ l r. list_any (λ x. read (f x) == r) slice && is_of (outdated before left room leaving r) l)
      (λ l r. list_any (λ y. read y == r) (map f items) && is_of (outdated before seen room leaving r) l) before after
      (λ l r. ap (λ b. b && is_of (outdated before left room leaving r) l) (any_seen r)
      ∙ ap (λ ls. list_any (λ y. read y == r) (map f items) && is_of (outdated before ls room leaving r) l) same)
