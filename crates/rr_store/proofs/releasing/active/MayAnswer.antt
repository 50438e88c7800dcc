-- A mark is taken away: that server will not answer that request any more.
use Rattle.std.proofs.Common.{◌≡◌, ◌<◌, ◌+◌, ◌*◌, ℕ, suc, Bool, true, false, cond, List, [], ◌∷◌, Some, map, length, get_or, refl, sym, ap, ◌∙◌, ⊎_elim, arith}
use Rattle.std.specs.Prelude.{◌==◌, ◌&&◌, not, slice_get, slice_set, filter}
use Rattle.std.proofs.Math.Nat.{mul-le-mul_right}
use Rattle.std.proofs.lemmas.Bool.{cases_eq, cases_lt, eq-eqb, ne_eqb}
use Rattle.std.proofs.lemmas.List.{get_or-set_same, get_or-set_other, get_or_past, length-set}
use Rattle.rr_store.specs.Views.{no_server}

-- what is none is none in a list that may be too short
set_none : (marks : List ℕ) (j : ℕ) → get_or (slice_set marks j no_server) j no_server ≡ no_server
set_none marks j =
    ⊎_elim
    (λ h. get_or-set_same marks j no_server no_server h)
    (λ h. get_or_past (slice_set marks j no_server) j no_server (omega (arith, h, length-set marks j no_server)))
    (cases_lt j (length marks))

pub true_stays : (b : Bool) → b ≡ (b && true)
true_stays true = refl
true_stays false = refl

false_comes : (b : Bool) → false ≡ (b && false)
false_comes true = refl
false_comes false = refl

-- that mark is gone, and every other as it was
pub mark_cleared : (marks : List ℕ) (j q server : ℕ) → server < no_server
    → (get_or (slice_set marks j no_server) q no_server == server) ≡ ((get_or marks q no_server == server) && not (j == q))
mark_cleared marks j q server fits =
    ⊎_elim
    (λ e. ap (λ q. get_or (slice_set marks j no_server) q no_server == server) (sym e)
    ∙ ap (λ m. m == server) (set_none marks j) ∙ ne_eqb no_server server (λ f. absurd (omega (arith, f, fits)))
    ∙ false_comes (get_or marks q no_server == server)
    ∙ sym (ap (λ b. (get_or marks q no_server == server) && not b) (eq-eqb j q e)))
    (λ n. ap (λ m. m == server) (get_or-set_other marks j q no_server no_server (λ e. n (sym e)))
    ∙ true_stays (get_or marks q no_server == server)
    ∙ sym (ap (λ b. (get_or marks q no_server == server) && not b) (ne_eqb j q n)))
    (cases_eq j q)

-- what was not marked is not
pub not_marked : (marks : List ℕ) (j q server : ℕ) → server < no_server → (get_or marks q no_server == server) ≡ false
    → (get_or (slice_set marks j no_server) q no_server == server) ≡ false
not_marked marks j q server fits e = mark_cleared marks j q server fits ∙ ap (λ b. b && not (j == q)) e

-- a mark's index tells its slot and its receiver
pub mark_of : (receivers slot receiver i r : ℕ) → receiver < receivers → r < receivers → slot * receivers + receiver ≡ i * receivers + r
    → (slot ≡ i) × (receiver ≡ r)
mark_of receivers slot receiver i r h g e =
    ⊎_elim
    (λ l. absurd (omega (arith, e, h, g, mul-le-mul_right {m = slot + 1} {n = i} receivers (omega (arith, l)))))
    (λ l. ⊎_elim
    (λ m. absurd (omega (arith, e, h, g, mul-le-mul_right {m = i + 1} {n = slot} receivers (omega (arith, m)))))
    (λ m. let same : slot ≡ i = omega (arith, l, m) in (same, omega (arith, e, ap (λ n. n * receivers) same)))
    (cases_lt i slot))
    (cases_lt slot i)

module _ {X : Type 0} where
  -- tests that agree on each element pass the same ones
  pub filter_same : (t u : X → Bool) (xs : List X) → ((j : ℕ) (x : X) → slice_get xs j ≡ Some x → t x ≡ u x) → filter t xs ≡ filter u xs
  filter_same t u [] same = refl
  filter_same t u (x ∷ xs) same =
      ap (λ b. cond b (x ∷ filter t xs) (filter t xs)) (same 0 x refl)
      ∙ ap (λ (ys : List X). cond (u x) (x ∷ ys) ys) (filter_same t u xs (λ j y at. same (suc j) y at))

  -- a second test of what is made of each that passed the first
  pub filter_twice : (t : X → Bool) (f : X → ℕ) (u : ℕ → Bool) (xs : List X)
      → map f (filter (λ x. t x && u (f x)) xs) ≡ filter u (map f (filter t xs))
  filter_twice t f u [] = refl
  filter_twice t f u (x ∷ xs) = go (t x) (u (f x)) refl (filter_twice t f u xs)
    where
      go : (a b : Bool) → u (f x) ≡ b → map f (filter (λ x. t x && u (f x)) xs) ≡ filter u (map f (filter t xs))
          → map f (cond (a && b) (x ∷ filter (λ x. t x && u (f x)) xs) (filter (λ x. t x && u (f x)) xs)) ≡ filter u
          (map f (cond a (x ∷ filter t xs) (filter t xs)))
      go true true e rest = ap (λ (ys : List ℕ). f x ∷ ys) rest
          ∙ sym (ap (λ b. cond b (f x ∷ filter u (map f (filter t xs))) (filter u (map f (filter t xs)))) e)
      go true false e rest = rest ∙ sym (ap (λ b. cond b (f x ∷ filter u (map f (filter t xs))) (filter u (map f (filter t xs)))) e)
      go false b e rest = rest
