-- Elements of a list in which one was replaced, and the first element that passes a test.
use Rattle.std.proofs.Common.{◌≡◌, ◌≢◌, ◌<◌, ◌≤◌, ◌+◌, ℕ, zero, suc, cond, Bool, true, false, List, [], ◌∷◌, Option, None, Some, option_map, length, get_or, map, refl, sym, ap, ◌∙◌, subst, ⊎_elim, arith}
use Rattle.std.specs.Prelude.{slice_get, slice_set, find}
use Rattle.std.specs.Option.{option_map_or}
use Rattle.std.specs.List.{position, position_from}
use Rattle.std.proofs.lemmas.Bool.{cases_eq, cases_lt, eq-eqb}
use Rattle.std.proofs.lemmas.List.{get_or-set_same, get_or-set_other, length-set, map-set}
use Rattle.std.proofs.lemmas.Option.{slice_get-get_or, get_or_from_slice_get, slice_get_within}
use Rattle.std.proofs.lemmas.Iterator.Adapters.{position_from-zero}
use Rattle.std.proofs.Math.Seq.{map-set_same}
use Rattle.rr_sender.specs.Senders.{times}
use Rattle.rr_store.proofs.base.lists.Found.{find_here, find_there}

module _ {X : Type 0} where
  -- past the end nothing is replaced
  pub set_past : (xs : List X) (i : ℕ) (y : X) → length xs ≤ i → slice_set xs i y ≡ xs
  set_past [] i y h = refl
  set_past (x ∷ xs) zero y h = absurd (omega arith)
  set_past (x ∷ xs) (suc i) y h = ap (λ (zs : List X). x ∷ zs) (set_past xs i y (omega arith))

  -- what is read of each element is as it was, if it is the same of the new one
  pub set_alike : {Y : Type 0} (xs : List X) (i : ℕ) (y d : X) (f : X → Y) → f y ≡ f (get_or xs i d) → (j : ℕ)
      → f (get_or (slice_set xs i y) j d) ≡ f (get_or xs j d)
  set_alike xs i y d f same j =
      ⊎_elim
      (λ e. ⊎_elim
      (λ h. ap (λ k. f (get_or (slice_set xs i y) k d)) e ∙ ap f (get_or-set_same xs i y d h) ∙ same ∙ ap (λ k. f (get_or xs k d)) (sym e))
      (λ h. ap (λ (zs : List X). f (get_or zs j d)) (set_past xs i y h))
      (cases_lt i (length xs)))
      (λ n. ap f (get_or-set_other xs i j y d n))
      (cases_eq j i)

  -- an element of the list is the new one, or was there
  pub set_cases : {Z : Type 0} (xs : List X) (i : ℕ) (y : X) (j : ℕ) (x : X) → slice_get (slice_set xs i y) j ≡ Some x → (j ≡ i → y ≡ x → Z)
      → (j ≢ i → slice_get xs j ≡ Some x → Z) → Z
  set_cases xs i y j x at now before =
      let within : j < length xs = omega (arith, slice_get_within (slice_set xs i y) j x at, length-set xs i y) in
      let is : get_or (slice_set xs i y) j x ≡ x = get_or_from_slice_get (slice_set xs i y) j x x at in
      ⊎_elim
      (λ e. now e (sym (get_or-set_same xs i y x (omega (arith, within, e))) ∙ ap (λ k. get_or (slice_set xs i y) k x) (sym e) ∙ is))
      (λ n. before n (slice_get-get_or xs j x within ∙ ap Some (sym (get_or-set_other xs i j y x n) ∙ is)))
      (cases_eq j i)

  -- the first element that passes, and where it stands
  pub record Standing (p : X → Bool) (xs : List X) (i : ℕ) : Type 0 where
    pub it : X
    pub at : slice_get xs i ≡ Some it
    pub found : find p xs ≡ Some it
    pub passes : p it ≡ true

  -- the first index at which a test passes
  pub standing : (p : X → Bool) (xs : List X) (i : ℕ) → position p xs ≡ Some i → Standing p xs i
  standing p xs i is =
      let r = go xs 0 i (sym (position_from-zero p xs) ∙ is) in
      let index : i ≡ r.0 = omega (arith, r.1) in
      subst (Standing p xs) (sym index) r.2
    where
      go : (xs : List X) (base i : ℕ) → position_from p base xs ≡ Some i → (j : ℕ) × (i ≡ base + j) × Standing p xs j
      go [] base i e = absurd (let f : None ≡ Some i = e in cc)
      go (x ∷ xs) base i e = by (go xs (base + 1) i) (p x) refl
        where
          by : (position_from p (base + 1) xs ≡ Some i → (j : ℕ) × (i ≡ (base + 1) + j) × Standing p xs j) → (b : Bool) → p x ≡ b → (j : ℕ)
              × (i ≡ base + j) × Standing p (x ∷ xs) j
          by rest true t =
              let here : Some base ≡ Some i = sym (ap (λ b. cond b (Some base) (position_from p (base + 1) xs)) t) ∙ e in
              let same : base ≡ i = cc in
              (0, omega (arith, same), record { it = x; at = refl; found = find_here p x xs t; passes = t })
          by rest false t =
              let r = rest (sym (ap (λ b. cond b (Some base) (position_from p (base + 1) xs)) t) ∙ e) in (
                suc r.0,
                omega (arith, r.1),
                record {
                  it = r.2.it;
                  at = r.2.at;
                  found = find_there p x xs t
                      ∙ r.2.found;
                  passes = r.2.passes;
                },
              )

  -- where no element passes
  pub standing_nowhere : (p : X → Bool) (xs : List X) → position p xs ≡ None → find p xs ≡ None
  standing_nowhere p xs is = go xs 0 (sym (position_from-zero p xs) ∙ is)
    where
      go : (xs : List X) (base : ℕ) → position_from p base xs ≡ None → find p xs ≡ None
      go [] base e = refl
      go (x ∷ xs) base e = by (go xs (base + 1)) (p x) refl
        where
          by : (position_from p (base + 1) xs ≡ None → find p xs ≡ None) → (b : Bool) → p x ≡ b → find p (x ∷ xs) ≡ None
          by rest true t = absurd (let here : Some base ≡ None = sym (ap (λ b. cond b (Some base) (position_from p (base + 1) xs)) t) ∙ e in
              cc)
          by rest false t = find_there p x xs t ∙ (rest (sym (ap (λ b. cond b (Some base) (position_from p (base + 1) xs)) t) ∙ e))

-- the first element by what is made of each
pub find_mapped : {X Y : Type 0} (f : X → Y) (p : Y → Bool) (xs : List X) → find p (map f xs) ≡ option_map f (find (λ x. p (f x)) xs)
find_mapped f p [] = refl
find_mapped {X} {Y} f p (x ∷ xs) = by (find_mapped f p xs) (p (f x)) refl
  where
    by : find p (map f xs) ≡ option_map f (find (λ x. p (f x)) xs) → (b : Bool) → p (f x) ≡ b
        → find p (map f (x ∷ xs)) ≡ option_map f (find (λ x. p (f x)) (x ∷ xs))
    by rest true t = rw t refl
    by rest false t = rw t rest

-- one element of a mapped list was replaced
pub map-set_one : {X Y : Type 0} (f : X → Y) (xs : List X) (i : ℕ) (y : X) → map f (slice_set xs i y) ≡ slice_set (map f xs) i (f y)
map-set_one f xs i y = map-set f xs i y

-- or one that is alike
pub map-set_alike : {X Y : Type 0} (f : X → Y) (xs : List X) (i : ℕ) (y d : X) → f y ≡ f (get_or xs i d)
    → map f (slice_set xs i y) ≡ map f xs
map-set_alike f xs i y d same = map-set_same f xs i y d same

module _ {X Y : Type 0} where
  -- two functions that agree on each element of a list
  pub map_same : (f g : X → Y) (xs : List X) → ((j : ℕ) (x : X) → slice_get xs j ≡ Some x → g x ≡ f x) → map g xs ≡ map f xs
  map_same f g [] same = refl
  map_same f g (x ∷ xs) same = ap (λ y. y ∷ map g xs) (same 0 x refl)
      ∙ ap (λ (ys : List Y). f x ∷ ys) (map_same f g xs (λ j z e. same (suc j) z e))

  -- and two that agree on each but one
  pub map_but : (f g : X → Y) (xs : List X) (i : ℕ) (x : X) → slice_get xs i ≡ Some x
      → ((j : ℕ) (z : X) → j ≢ i → slice_get xs j ≡ Some z → g z ≡ f z) → map g xs ≡ slice_set (map f xs) i (g x)
  map_but f g [] i x at same = absurd (omega (arith, slice_get_within [] i x at))
  map_but f g (y ∷ xs) zero x at same =
      let here : Some y ≡ Some x = at in
      let is : y ≡ x = cc in
      ap (λ (z : X). g z ∷ map g xs) is ∙ ap (λ (ys : List Y). g x ∷ ys)
      (map_same f g xs (λ j z e. same (suc j) z (λ h. absurd (omega (arith, h))) e))
  map_but f g (y ∷ xs) (suc i) x at same =
      ap (λ z. z ∷ map g xs) (same 0 y (λ h. absurd (omega (arith, h))) refl)
      ∙ ap (λ (ys : List Y). f y ∷ ys) (map_but f g xs i x at (λ j z n e. same (suc j) z (λ h. n (omega (arith, h))) e))

  -- what is read of the first element that passes is as it was, if neither the test nor the reading tells the new element from the old one
  pub find_read : (test : X → Bool) (f : X → Y) (default : Y) (xs : List X) (i : ℕ) (y d : X) → test y ≡ test (get_or xs i d)
      → f y ≡ f (get_or xs i d)
      → option_map_or f (find test (slice_set xs i y)) default ≡ option_map_or f (find test xs) default
  find_read test f default [] i y d t s = refl
  find_read test f default (x ∷ xs) zero y d t s = by (test x) refl
    where
      by : (b : Bool) → test x ≡ b → option_map_or f (find test (y ∷ xs)) default ≡ option_map_or f (find test (x ∷ xs)) default
      by true e = ap (λ (o : Option X). option_map_or f o default) (find_here test y xs (t ∙ e)) ∙ s
          ∙ sym (ap (λ (o : Option X). option_map_or f o default) (find_here test x xs e))
      by false e = ap (λ (o : Option X). option_map_or f o default) (find_there test y xs (t ∙ e))
          ∙ sym (ap (λ (o : Option X). option_map_or f o default) (find_there test x xs e))
  find_read test f default (x ∷ xs) (suc i) y d t s = by (find_read test f default xs i y d t s) (test x) refl
    where
      by : option_map_or f (find test (slice_set xs i y)) default ≡ option_map_or f (find test xs) default → (b : Bool) → test x ≡ b
          → option_map_or f (find test (x ∷ slice_set xs i y)) default ≡ option_map_or f (find test (x ∷ xs)) default
      by rest true e = ap (λ (o : Option X). option_map_or f o default) (find_here test x (slice_set xs i y) e)
          ∙ sym (ap (λ (o : Option X). option_map_or f o default) (find_here test x xs e))
      by rest false e = ap (λ (o : Option X). option_map_or f o default) (find_there test x (slice_set xs i y) e) ∙ rest
          ∙ sym (ap (λ (o : Option X). option_map_or f o default) (find_there test x xs e))

-- functions that agree on each number but one agree on a list without it
pub map_without : {Y : Type 0} (f g : ℕ → Y) (slot : ℕ) → ((j : ℕ) → j ≢ slot → g j ≡ f j) → (slots : List ℕ) → times slot slots ≡ 0
    → map g slots ≡ map f slots
map_without f g slot same [] none = refl
map_without {Y} f g slot same (j ∷ slots) none =
    let other : j ≢ slot = λ e. absurd (omega (arith, none, ap {B = ℕ} (λ b. cond b 1 0) (eq-eqb j slot e))) in
    ap (λ y. y ∷ map g slots) (same j other) ∙ ap (λ (ys : List Y). f j ∷ ys) (map_without f g slot same slots (omega (arith, none)))
