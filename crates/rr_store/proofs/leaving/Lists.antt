-- Lists of which each element has a number of its own, and what is chosen of them.
use Rattle.std.proofs.Common.{◌≡◌, ◌||◌, ◌&&◌, ℕ, suc, zero, Bool, true, false, cond, not, List, [], ◌∷◌, Some, drop, find, get_or, length, map, refl, sym, take, ap, ◌∙◌, arith}
use Rattle.std.specs.Prelude.{◌==◌, filter, nat_eq, slice_get}
use Rattle.std.specs.List.{AllByRecursion, IsDistinct, list_any, remove}
use Rattle.std.proofs.lemmas.Bool.{eq-eqb, eqb-true, ne_eqb}
use Rattle.std.proofs.lemmas.Option.{slice_get_within}
use Rattle.rr_store.proofs.base.lists.EachOnce.{IsApart, apart_rest}
use Rattle.rr_store.proofs.base.senders.Entries.{found_alone}

module _ {X : Type 0} where
  -- what is true of the element at each index is true of each element
  pub all_at : (P : X → Type 0) (xs : List X) → ((i : ℕ) (x : X) → slice_get xs i ≡ Some x → P x) → AllByRecursion P xs
  all_at P [] each = tt
  all_at P (x ∷ xs) each = (each 0 x refl, all_at P xs (λ i y at. each (suc i) y at))

  -- and of each of the first ones
  pub all_take : (P : X → Type 0) (k : ℕ) (xs : List X) → AllByRecursion P xs → AllByRecursion P (take k xs)
  all_take P zero xs all = tt
  all_take P (suc k) [] all = tt
  all_take P (suc k) (x ∷ xs) all = (all.0, all_take P k xs all.1)

  -- tests that agree on each element find and choose the same
  pub any_alike : (t u : X → Bool) (xs : List X) → AllByRecursion (λ x. t x ≡ u x) xs → list_any t xs ≡ list_any u xs
  any_alike t u [] all = refl
  any_alike t u (x ∷ xs) all = ap (λ b. b || list_any t xs) all.0 ∙ ap (λ b. u x || b) (any_alike t u xs all.1)

  pub filter_alike : (t u : X → Bool) (xs : List X) → AllByRecursion (λ x. t x ≡ u x) xs → filter t xs ≡ filter u xs
  filter_alike t u [] all = refl
  filter_alike t u (x ∷ xs) all =
      ap (λ b. cond b (x ∷ filter t xs) (filter t xs)) all.0
      ∙ ap (λ (ys : List X). cond (u x) (x ∷ ys) ys) (filter_alike t u xs all.1)

  -- a test that always passes chooses all
  pub filter_all : (xs : List X) → filter (λ x. true) xs ≡ xs
  filter_all [] = refl
  filter_all (x ∷ xs) = ap (λ ys. x ∷ ys) (filter_all xs)

  -- the elements that pass two tests
  pub filter_both : (t u : X → Bool) (xs : List X) → filter (λ x. t x && u x) xs ≡ filter u (filter t xs)
  filter_both t u [] = refl
  filter_both t u (x ∷ xs) = go (t x) (filter_both t u xs)
    where
      go : (a : Bool) → filter (λ x. t x && u x) xs ≡ filter u (filter t xs)
          → cond (a && u x) (x ∷ filter (λ x. t x && u x) xs) (filter (λ x. t x && u x) xs)
          ≡ filter u (cond a (x ∷ filter t xs) (filter t xs))
      go true rest = ap (λ (ys : List X). cond (u x) (x ∷ ys) ys) rest
      go false rest = rest

  -- whether a test passes on any of a list with one element
  pub only : (t : X → Bool) (xs : List X) (d : X) → length xs ≡ 1 → list_any t xs ≡ t (get_or xs 0 d)
  only t [] d one = absurd (omega (arith, one))
  only t (x ∷ []) d one = elim (t x) as (λ b. (b || false) ≡ b) [ true ↦ refl | false ↦ refl ]
  only t (x ∷ y ∷ ys) d one = absurd (omega (arith, one))

  module _ (read : X → ℕ) where
    -- an element is found by its number
    pub found_at : (xs : List X) (i : ℕ) (x : X) → slice_get xs i ≡ Some x → IsApart read xs → (n : ℕ) → read x ≡ n
        → find (λ y. read y == n) xs ≡ Some x
    found_at xs i x at apart n is =
        found_alone (λ y. read y == n) xs i x at (eq-eqb (read x) n is)
        (λ j y there same. apart j i y x there at (eqb-true (read y) n same ∙ sym is))

    -- without the element at an index there are those with another number
    pub removed : (xs : List X) (i : ℕ) (x : X) → slice_get xs i ≡ Some x → IsApart read xs
        → remove xs i ≡ filter (λ y. not (read y == read x)) xs
    removed [] i x at apart = absurd (omega (arith, slice_get_within [] i x at))
    removed (y ∷ ys) zero x at apart =
        let f : Some y ≡ Some x = at in
        let same : y ≡ x = cc in
        let kept : List X = filter (λ z. not (read z == read x)) ys in
        sym (ap (λ b. cond (not b) (y ∷ kept) kept) (eq-eqb (read y) (read x) (ap read same))
        ∙ filter_alike (λ z. not (read z == read x)) (λ z. true) ys
        (all_at (λ z. not (read z == read x) ≡ true) ys
        (λ j z there. ap not (ne_eqb (read z) (read x)
        (λ e. absurd (omega (arith, apart (suc j) 0 z y there refl (e ∙ sym (ap read same))))))))
        ∙ filter_all ys)
    removed (y ∷ ys) (suc i) x at apart =
        let kept : List X = filter (λ z. not (read z == read x)) ys in
        ap (λ zs. y ∷ zs) (removed ys i x at (apart_rest read y ys apart))
        ∙ sym (ap (λ b. cond (not b) (y ∷ kept) kept)
        (ne_eqb (read y) (read x) (λ e. absurd (omega (arith, apart 0 (suc i) y x refl at e)))))

    -- no number stands twice
    pub numbers_distinct : (xs : List X) → IsApart read xs → IsDistinct nat_eq (map read xs)
    unfolding IsDistinct
    numbers_distinct [] apart = tt
    numbers_distinct (x ∷ xs) apart = (
      others xs (λ i y at e. absurd (omega (arith, apart 0 (suc i) x y refl at e))),
      numbers_distinct xs (apart_rest read x xs apart),
    )
      where
        others : (ys : List X) → ((i : ℕ) (y : X) → slice_get ys i ≡ Some y → read x ≡ read y → ⊥)
            → AllByRecursion (λ k. nat_eq (read x) k ≡ false) (map read ys)
        others [] other = tt
        others (y ∷ ys) other = (ne_eqb (read x) (read y) (other 0 y refl), others ys (λ i z at. other (suc i) z at))

-- what is made of those that pass a test
pub map_filter : {X Y : Type 0} (f : X → Y) (t : X → Bool) (u : Y → Bool) (xs : List X) → AllByRecursion (λ x. t x ≡ u (f x)) xs
    → map f (filter t xs) ≡ filter u (map f xs)
map_filter f t u [] all = refl
map_filter {X} {Y} f t u (x ∷ xs) all =
    ap (λ b. map f (cond b (x ∷ filter t xs) (filter t xs))) all.0 ∙ go (u (f x)) (map_filter f t u xs all.1)
  where
    go : (b : Bool) → map f (filter t xs) ≡ filter u (map f xs)
        → map f (cond b (x ∷ filter t xs) (filter t xs)) ≡ cond b (f x ∷ filter u (map f xs)) (filter u (map f xs))
    go true rest = ap (λ (ys : List Y). f x ∷ ys) rest
    go false rest = rest

-- of different numbers those are left that are not among the first ones
pub rest_left : (k : ℕ) (xs : List ℕ) → IsDistinct nat_eq xs
    → filter (λ y. not (list_any (λ x. x == y) (take k xs))) xs ≡ drop k xs
unfolding IsDistinct
rest_left zero xs once = filter_all xs
rest_left (suc k) [] once = refl
rest_left (suc k) (x ∷ xs) once =
    let t : ℕ → Bool = λ y. not ((x == y) || list_any (λ z. z == y) (take k xs)) in
    ap (λ b. cond (not (b || list_any (λ z. z == x) (take k xs))) (x ∷ filter t xs) (filter t xs)) (eq-eqb x x refl)
    ∙ filter_alike t (λ y. not (list_any (λ z. z == y) (take k xs))) xs (others xs once.0)
    ∙ rest_left k xs once.1
  where
    others : (ys : List ℕ) → AllByRecursion (λ y. nat_eq x y ≡ false) ys
        → AllByRecursion (λ y. not ((x == y) || list_any (λ z. z == y) (take k xs)) ≡ not (list_any (λ z. z == y) (take k xs))) ys
    others [] all = tt
    others (y ∷ ys) all = (ap (λ b. not (b || list_any (λ z. z == y) (take k xs))) all.0, others ys all.1)
