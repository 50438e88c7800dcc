-- What is asked of all ports under a number is asked of the only one that has it.
use Rattle.std.proofs.Common.{◌≡◌, ℕ, Bool, true, false, List, None, Some, get_or, refl, sym, ap, ◌∙◌}
use Rattle.std.specs.Prelude.{◌==◌, ◌&&◌, slice_get}
use Rattle.std.specs.List.{list_any, position}
use Rattle.std.proofs.lemmas.Bool.{eq-eqb, eqb-true}
use Rattle.std.proofs.lemmas.Option.{slice_get_within, slice_get-get_or}
use Rattle.rr_table.proofs.Members.{any_gives, any_there}
use Rattle.rr_store.specs.Order.{IsRising}
use Rattle.rr_store.proofs.base.lists.Replaced.{Standing, standing}
use Rattle.rr_store.proofs.base.lists.Rising.{rising_once}
use Rattle.rr_store.proofs.base.senders.Ports.{sender_found}

module _ {X : Type 0} (read : X → ℕ) (test : X → Bool) (xs : List X) (n : ℕ) where
  -- both parts of a test
  both : (a b : Bool) → (a && b) ≡ true → (a ≡ true) × (b ≡ true)
  both true b h = (refl, h)
  both false b h = absurd (cc)

  -- whether some element with a number passes a test is asked of the only one that has it
  pub any_alone : IsRising read xs → (i : ℕ) (x : X) → position (λ x. read x == n) xs ≡ Some i → x ≡ get_or xs i x
      → list_any (λ x. read x == n && test x) xs ≡ test x
  any_alone rising i x found element = go (test x) refl
    where
      there : Standing (λ x. read x == n) xs i
      there = standing (λ x. read x == n) xs i found

      at : slice_get xs i ≡ Some x
      at = slice_get-get_or xs i x (slice_get_within xs i there.it there.at) ∙ ap Some (sym element)

      is : read x ≡ n
      is =
          let same : Some there.it ≡ Some x = sym there.at ∙ at in
          let e : there.it ≡ x = cc in
          sym (ap read e) ∙ eqb-true _ _ there.passes

      go : (b : Bool) → test x ≡ b → list_any (λ x. read x == n && test x) xs ≡ test x
      go true e = any_there (λ x. read x == n && test x) xs i x at (rw (eq-eqb (read x) n is) e) ∙ sym e
      go false e = none (list_any (λ x. read x == n && test x) xs) refl
        where
          none : (b : Bool) → list_any (λ x. read x == n && test x) xs ≡ b → list_any (λ x. read x == n && test x) xs ≡ test x
          none false h = h ∙ sym e
          none true h =
              let s = any_gives (λ x. read x == n && test x) xs h in
              let b = both (read s.1 == n) (test s.1) s.3 in
              let here = rising_once read xs rising s.0 i s.1 x s.2 at (eqb-true _ _ b.0 ∙ sym is) in
              let same : Some s.1 ≡ Some x = sym s.2 ∙ ap (slice_get xs) here ∙ at in
              let f : s.1 ≡ x = cc in
              let t : true ≡ false = sym b.1 ∙ ap test f ∙ e in
              absurd (cc)

  -- and where none has it, none passes
  pub any_nowhere : position (λ x. read x == n) xs ≡ None → list_any (λ x. read x == n && test x) xs ≡ false
  any_nowhere found = go (list_any (λ x. read x == n && test x) xs) refl
    where
      go : (b : Bool) → list_any (λ x. read x == n && test x) xs ≡ b → list_any (λ x. read x == n && test x) xs ≡ false
      go false h = h
      go true h =
          let s = any_gives (λ x. read x == n && test x) xs h in
          let r = sender_found (λ x. read x == n) xs s.0 s.1 s.2 (both (read s.1 == n) (test s.1) s.3).0 in
          let t : None ≡ Some r.0 = sym found ∙ r.1 in
          absurd (cc)
