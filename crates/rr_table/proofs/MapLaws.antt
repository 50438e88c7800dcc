-- Laws on finite maps from numbers, and on how many distinct numbers a list has.
use Rattle.std.specs.Prelude.{◌≡◌, ◌≢◌, ℕ, ◌+◌, Bool, true, false, cond, ◌&&◌, ◌||◌, List, [], ◌∷◌, Option, Some, None, length, map, get_or, count_by, nat_eq, option_map, ◌⊎◌, ◌<◌, ◌≤◌}
use Rattle.std.proofs.Common.{suc, zero, eqb, refl, sym, ap, ◌∙◌, subst, ⊎_elim, inl, inr, arith}
use Rattle.std.specs.List.{list_any, IsDistinct, AllByRecursion}
use Rattle.std.proofs.lemmas.Bool.{or_cases}
use Rattle.std.specs.Ordering.{nat_cmp, eq_by_cmp, is_lt, is_eq}
use Rattle.std.specs.Cmp.{nat_cmp_total, unsigned_tied}
use Rattle.std.specs.FinMap.{FinMap, entries, entries_sorted, find, is_sorted, put, get, insert, remove, entries-from_sorted, get-entries, get-insert, get-remove, entries-insert, same_map, nat_cmp-IsAntisymmetric, empty, get-empty, len-empty, len-entries}
use Rattle.std.specs.FinMap.Entries.{below_all, by_order}
use lib.Dec.{T}
use Rattle.std.specs.declared.cmp.Ordering.TheVariants.{Less, Equal, Greater}
use Rattle.std.proofs.lemmas.Bool.{cases_eq, eq-eqb, ne_eqb}
use Rattle.std.proofs.lemmas.List.Sums.{sum_by-cons}
use Rattle.std.proofs.lemmas.List.{nil_from_length}
use Rattle.rr_table.specs.Maps.{mark, tally, times, map_values}

pub tied_same : (q k : ℕ) → q ≡ k → eq_by_cmp nat_cmp q k ≡ true
tied_same q k e = unsigned_tied q k ∙ eq-eqb q k e

pub tied_other : (q k : ℕ) → q ≢ k → eq_by_cmp nat_cmp q k ≡ false
tied_other q k n = unsigned_tied q k ∙ ne_eqb q k n

mark-le : (a b : Bool) → (a ≡ true → b ≡ true) → mark a ≤ mark b
mark-le true b h = omega (arith, ap mark (h refl))
mark-le false b h = omega arith

module _ {X : Type 0} where
  module _ (m : FinMap nat_cmp X) (k : ℕ) where
    pub get-insert_same : (v : X) (q : ℕ) → q ≡ k → get (insert m k v) q ≡ Some v
    get-insert_same v q e = get-insert nat_cmp_total m k v q ∙ ap (λ b. cond b (Some v) (get m q)) (tied_same q k e)

    pub get-insert_other : (v : X) (q : ℕ) → q ≢ k → get (insert m k v) q ≡ get m q
    get-insert_other v q n = get-insert nat_cmp_total m k v q ∙ ap (λ b. cond b (Some v) (get m q)) (tied_other q k n)

    pub get-remove_same : (q : ℕ) → q ≡ k → get (remove m k) q ≡ None
    get-remove_same q e = get-remove nat_cmp_total m k q ∙ ap (λ b. cond b None (get m q)) (tied_same q k e)

    pub get-remove_other : (q : ℕ) → q ≢ k → get (remove m k) q ≡ get m q
    get-remove_other q n = get-remove nat_cmp_total m k q ∙ ap (λ b. cond b None (get m q)) (tied_other q k n)

    -- what an answer after a change says of the map before
    pub get-insert_cases : (v : X) (q : ℕ) (x : X) → get (insert m k v) q ≡ Some x → ((q ≡ k) × (v ≡ x)) ⊎ ((q ≢ k) × (get m q ≡ Some x))
    get-insert_cases v q x h = ⊎_elim
        (λ e. inl (e, (let g : Some v ≡ Some x = sym (get-insert_same v q e) ∙ h in cc)))
        (λ n. inr (n, sym (get-insert_other v q n) ∙ h))
        (cases_eq q k)

    pub get-remove_cases : (q : ℕ) (x : X) → get (remove m k) q ≡ Some x → (q ≢ k) × (get m q ≡ Some x)
    get-remove_cases q x h = ⊎_elim
        (λ e. absurd (let g : None ≡ Some x = sym (get-remove_same q e) ∙ h in cc))
        (λ n. (n, sym (get-remove_other q n) ∙ h))
        (cases_eq q k)

    -- taken away and put back
    pub insert-remove : (v : X) → insert (remove m k) k v ≡ insert m k v
    insert-remove v = same_map nat_cmp_total nat_cmp-IsAntisymmetric _ _ (λ q.
        get-insert nat_cmp_total (remove m k) k v q ∙ ⊎_elim
        (λ e. ap (λ b. cond b (Some v) (get (remove m k) q)) (tied_same q k e) ∙ sym (get-insert_same v q e))
        (λ n. ap (λ b. cond b (Some v) (get (remove m k) q)) (tied_other q k n) ∙ get-remove_other q n ∙ sym (get-insert_other v q n))
        (cases_eq q k))

    pub insert_itself : (v : X) → get m k ≡ Some v → insert m k v ≡ m
    insert_itself v h = same_map nat_cmp_total nat_cmp-IsAntisymmetric _ _ (λ q. ⊎_elim
        (λ e. get-insert_same v q e ∙ sym (ap (get m) e ∙ h))
        (λ n. get-insert_other v q n)
        (cases_eq q k))

  entries-empty : entries (empty {X = X} {R = nat_cmp}) ≡ []
  entries-empty = nil_from_length (entries (empty {X = X} {R = nat_cmp}))
      (sym (len-entries (empty {X = X} {R = nat_cmp})) ∙ len-empty nat_cmp X)

  pub tally-empty : (p : X → Bool) → tally p empty ≡ 0
  tally-empty p = ap (count_by (λ (e : ℕ × X). p e.1)) entries-empty

  count-put : (p : X → Bool) (k : ℕ) (v : X) (es : List (ℕ × X)) → find nat_cmp k es ≡ None
      → count_by (λ e. p e.1) (put nat_cmp k v es) ≡ count_by (λ e. p e.1) es + mark (p v)
  count-put p k v [] none = refl
  count-put p k v (e ∷ es) none =
      let w : ℕ × X → ℕ = λ x. mark (p x.1) in
      elim (nat_cmp k e.0) as (λ r. cond (is_eq r) (Some e.1) (find nat_cmp k es) ≡ None
      → count_by (λ x. p x.1) (by_order r ((k, v) ∷ e ∷ es) ((e.0, v) ∷ es) (e ∷ put nat_cmp k v es)) ≡ count_by (λ x. p x.1)
      (e ∷ es) + mark (p v)) [
        | Less ↦ λ h. omega (arith, sum_by-cons w (k, v) (e ∷ es))
        | Equal ↦ λ h. absurd (let g : Some e.1 ≡ None = h in cc)
        | Greater ↦ λ h. omega (arith, sum_by-cons w e (put nat_cmp k v es), sum_by-cons w e es, count-put p k v es h)
      ] none

  pub tally-insert : (p : X → Bool) (m : FinMap nat_cmp X) (k : ℕ) (v : X) → get m k ≡ None
      → tally p (insert m k v) ≡ tally p m + mark (p v)
  tally-insert p m k v none = ap (count_by (λ e. p e.1)) (entries-insert nat_cmp_total m k v)
      ∙ count-put p k v (entries m) (sym (get-entries m k) ∙ none)

  pub tally-remove : (p : X → Bool) (m : FinMap nat_cmp X) (k : ℕ) (v : X) → get m k ≡ Some v
      → tally p (remove m k) + mark (p v) ≡ tally p m
  tally-remove p m k v h =
      sym (tally-insert p (remove m k) k v (get-remove_same m k k refl)) ∙ ap (tally p) (insert-remove m k v ∙ insert_itself m k v h)

  -- a value that is replaced
  pub tally-replace : (p : X → Bool) (m : FinMap nat_cmp X) (k : ℕ) (v w : X) → get m k ≡ Some v
      → tally p (insert m k w) + mark (p v) ≡ tally p m + mark (p w)
  tally-replace p m k v w h = omega (
    arith,
    tally-remove p m k v h,
    ap (tally p) (insert-remove m k w),
    tally-insert p (remove m k) k w (get-remove_same m k k refl),
  )

  -- a value that passes counts
  pub tally-at : (p : X → Bool) (m : FinMap nat_cmp X) (k : ℕ) (v : X) → get m k ≡ Some v → p v ≡ true → 0 < tally p m
  tally-at p m k v h pass = omega (arith, tally-remove p m k v h, ap mark pass)

  -- where at most one value passes, its number is the only one
  pub tally_one : (p : X → Bool) (m : FinMap nat_cmp X) (k j : ℕ) (v w : X) → tally p m ≤ 1 → get m k ≡ Some v → p v ≡ true
      → get m j ≡ Some w → p w ≡ true → k ≡ j
  tally_one p m k j v w one h pass g pass' = ⊎_elim (λ e. e)
      (λ n. absurd (omega (
        arith,
        tally-remove p m k v h,
        ap mark pass,
        tally-at p (remove m k) j w (get-remove_other m k j (λ e. n (sym e)) ∙ g) pass',
      )))
      (cases_eq k j)

  count-le : (p q : X → Bool) (es : List (ℕ × X)) → ((x : X) → p x ≡ true → q x ≡ true)
      → count_by (λ (e : ℕ × X). p e.1) es ≤ count_by (λ (e : ℕ × X). q e.1) es
  count-le p q [] h = omega arith
  count-le p q (e ∷ es) h = omega (
    arith,
    sum_by-cons (λ (x : ℕ × X). mark (p x.1)) e es,
    sum_by-cons (λ (x : ℕ × X). mark (q x.1)) e es,
    count-le p q es h,
    mark-le (p e.1) (q e.1) (h e.1),
  )

  -- a weaker test counts no less
  pub tally-le : (p q : X → Bool) (m : FinMap nat_cmp X) → ((x : X) → p x ≡ true → q x ≡ true) → tally p m ≤ tally q m
  tally-le p q m h = count-le p q (entries m) h

module _ {X Y : Type 0} (f : X → Y) where
  below-map : (x : ℕ) (es : List (ℕ × X)) → below_all nat_cmp x (map (λ e. (e.0, f e.1)) es) ≡ below_all nat_cmp x es
  below-map x [] = refl
  below-map x (e ∷ es) = ap (λ b. is_lt (nat_cmp x e.0) && b) (below-map x es)

  sorted-map : (es : List (ℕ × X)) → is_sorted nat_cmp (map (λ e. (e.0, f e.1)) es) ≡ is_sorted nat_cmp es
  sorted-map [] = refl
  sorted-map (e ∷ es) = λ i. below-map e.0 es i && sorted-map es i

  find-map : (q : ℕ) (es : List (ℕ × X)) → find nat_cmp q (map (λ e. (e.0, f e.1)) es) ≡ option_map f (find nat_cmp q es)
  find-map q [] = refl
  find-map q (e ∷ es) = elim (eq_by_cmp nat_cmp q e.0) as (λ b. cond b (Some (f e.1))
      (find nat_cmp q (map (λ e. (e.0, f e.1)) es)) ≡ option_map f (cond b (Some e.1) (find nat_cmp q es)))
      [ true ↦ refl | false ↦ find-map q es ]

  pub entries-map_values : (m : FinMap nat_cmp X) → entries (map_values f m) ≡ map (λ e. (e.0, f e.1)) (entries m)
  unfolding map_values
  entries-map_values m = entries-from_sorted nat_cmp _ (subst T (sym (sorted-map (entries m))) (entries_sorted m))

  pub get-map_values : (m : FinMap nat_cmp X) (q : ℕ) → get (map_values f m) q ≡ option_map f (get m q)
  get-map_values m q = get-entries (map_values f m) q ∙ ap (find nat_cmp q) (entries-map_values m) ∙ find-map q (entries m)
      ∙ ap (option_map f) (sym (get-entries m q))

  -- a function of each value, through each change of the map
  pub map_values-empty : map_values f empty ≡ empty
  map_values-empty = same_map nat_cmp_total nat_cmp-IsAntisymmetric _ _
      (λ q. get-map_values empty q ∙ ap (option_map f) (get-empty nat_cmp q) ∙ sym (get-empty nat_cmp q))

  count-map : (p : Y → Bool) (es : List (ℕ × X)) → count_by (λ (e : ℕ × Y). p e.1) (map (λ e. (e.0, f e.1)) es) ≡ count_by
      (λ e. p (f e.1)) es
  count-map p [] = refl
  count-map p (e ∷ es) = sum_by-cons (λ (x : ℕ × Y). mark (p x.1)) (e.0, f e.1) (map (λ x. (x.0, f x.1)) es)
      ∙ ap (λ n. mark (p (f e.1)) + n) (count-map p es) ∙ sym (sum_by-cons (λ (x : ℕ × X). mark (p (f x.1))) e es)

  pub tally-map_values : (p : Y → Bool) (m : FinMap nat_cmp X) → tally p (map_values f m) ≡ tally (λ x. p (f x)) m
  tally-map_values p m = ap (count_by (λ (e : ℕ × Y). p e.1)) (entries-map_values m) ∙ count-map p (entries m)

  pub map_values-insert : (m : FinMap nat_cmp X) (k : ℕ) (v : X) → map_values f (insert m k v) ≡ insert (map_values f m) k (f v)
  map_values-insert m k v = same_map nat_cmp_total nat_cmp-IsAntisymmetric _ _ (λ q. get-map_values (insert m k v) q ∙ ⊎_elim
      (λ e. ap (option_map f) (get-insert_same m k v q e) ∙ sym (get-insert_same (map_values f m) k (f v) q e))
      (λ n. ap (option_map f) (get-insert_other m k v q n) ∙ sym (get-map_values m q) ∙ sym (get-insert_other (map_values f m) k (f v) q n))
      (cases_eq q k))

  pub map_values-remove : (m : FinMap nat_cmp X) (k : ℕ) → map_values f (remove m k) ≡ remove (map_values f m) k
  map_values-remove m k = same_map nat_cmp_total nat_cmp-IsAntisymmetric _ _ (λ q. get-map_values (remove m k) q ∙ ⊎_elim
      (λ e. ap (option_map f) (get-remove_same m k q e) ∙ sym (get-remove_same (map_values f m) k q e))
      (λ n. ap (option_map f) (get-remove_other m k q n) ∙ sym (get-map_values m q) ∙ sym (get-remove_other (map_values f m) k q n))
      (cases_eq q k))

module _ {X Y : Type 0} (f g : X → Y) (m : FinMap nat_cmp X) where
  same_at : (o : Option X) → ((x : X) → o ≡ Some x → f x ≡ g x) → option_map f o ≡ option_map g o
  same_at None h = refl
  same_at (Some x) h = ap Some (h x refl)

  -- functions that agree on the values
  pub map_values-same : ((k : ℕ) (x : X) → get m k ≡ Some x → f x ≡ g x) → map_values f m ≡ map_values g m
  map_values-same h = same_map nat_cmp_total nat_cmp-IsAntisymmetric _ _
      (λ q. get-map_values f m q ∙ same_at (get m q) (h q) ∙ sym (get-map_values g m q))

  -- functions that agree but at one key
  pub map_values-but : (n : ℕ) (v : X) → get m n ≡ Some v → ((k : ℕ) (x : X) → get m k ≡ Some x → k ≢ n → f x ≡ g x)
      → map_values g m ≡ insert (map_values f m) n (g v)
  map_values-but n v at h = same_map nat_cmp_total nat_cmp-IsAntisymmetric _ _ (λ q. get-map_values g m q ∙ ⊎_elim
      (λ e. ap (option_map g) (ap (get m) e ∙ at) ∙ sym (get-insert_same (map_values f m) n (g v) q e))
      (λ k. sym (same_at (get m q) (λ x is. h q x is k)) ∙ sym (get-map_values f m q) ∙ sym (get-insert_other (map_values f m) n (g v) q k))
      (cases_eq q n))

-- how often a number is in a list
pub mark-same : (i j : ℕ) → i ≡ j → mark (eqb i j) ≡ 1
mark-same i j e = ap mark (eq-eqb i j e)

pub mark-other : (i j : ℕ) → i ≢ j → mark (eqb i j) ≡ 0
mark-other i j n = ap mark (ne_eqb i j n)

pub times-cons : (i x : ℕ) (xs : List ℕ) → times i (x ∷ xs) ≡ mark (eqb x i) + times i xs
times-cons i x xs = sum_by-cons (λ y. mark (eqb y i)) x xs

or_true : (a : Bool) → (a || true) ≡ true
or_true true = refl
or_true false = refl

bool_same : (a b : Bool) → (a ≡ true → b ≡ true) → (b ≡ true → a ≡ true) → a ≡ b
bool_same true b f g = sym (f refl)
bool_same false true f g = g refl
bool_same false false f g = refl

-- the indexes of what is not 0, where the first of the list has index i
abbrev held_from : ℕ → List ℕ → List ℕ
held_from i [] = []
held_from i (h ∷ hs) = cond (eqb h 0) (held_from (i + 1) hs) (i ∷ held_from (i + 1) hs)

held-zero : (i h : ℕ) (hs : List ℕ) → h ≡ 0 → held_from i (h ∷ hs) ≡ held_from (i + 1) hs
held-zero i h hs e = ap (λ b. cond b (held_from (i + 1) hs) (i ∷ held_from (i + 1) hs)) (eq-eqb h 0 e)

held-some : (i h : ℕ) (hs : List ℕ) → h ≢ 0 → held_from i (h ∷ hs) ≡ i ∷ held_from (i + 1) hs
held-some i h hs n = ap (λ b. cond b (held_from (i + 1) hs) (i ∷ held_from (i + 1) hs)) (ne_eqb h 0 n)

length-held : (i : ℕ) (hs : List ℕ) → length (held_from i hs) + count_by (λ h. eqb h 0) hs ≡ length hs
length-held i [] = refl
length-held i (h ∷ hs) = ⊎_elim
    (λ e. omega (arith, ap length (held-zero i h hs e), sum_by-cons (λ x. mark (eqb x 0)) h hs, mark-same h 0 e, length-held (i + 1) hs))
    (λ n. omega (arith, ap length (held-some i h hs n), sum_by-cons (λ x. mark (eqb x 0)) h hs, mark-other h 0 n, length-held (i + 1) hs))
    (cases_eq h 0)

times-held_low : (i : ℕ) (hs : List ℕ) (j : ℕ) → j < i → times j (held_from i hs) ≡ 0
times-held_low i [] j l = refl
times-held_low i (h ∷ hs) j l = ⊎_elim
    (λ e. ap (times j) (held-zero i h hs e) ∙ times-held_low (i + 1) hs j (omega arith))
    (λ n. ap (times j) (held-some i h hs n) ∙ omega (
      arith,
      times-cons j i (held_from (i + 1) hs),
      mark-other i j (λ p. absurd (omega arith)),
      times-held_low (i + 1) hs j (omega arith),
    ))
    (cases_eq h 0)

-- such an index is there once, and no other is there
held_once : (i : ℕ) (hs : List ℕ) (k : ℕ) → (times (i + k) (held_from i hs) ≤ 1) × (0 < get_or hs k 0 → 0 < times (i + k) (held_from i hs))
    × (0 < times (i + k) (held_from i hs) → 0 < get_or hs k 0)
held_once i [] k = (omega arith, λ h. absurd (omega arith), λ h. absurd (omega arith))
held_once i (h ∷ hs) zero =
    let low = times-held_low (i + 1) hs (i + 0) (omega arith) in
    ⊎_elim
    (λ e. let is = ap (times (i + 0)) (held-zero i h hs e) in (omega arith, λ p. absurd (omega arith), λ p. absurd (omega arith)))
    (λ n. let is = ap (times (i + 0)) (held-some i h hs n) in
    let c = times-cons (i + 0) i (held_from (i + 1) hs) in
    let m = mark-same i (i + 0) (omega arith) in
    (omega arith, λ p. omega arith, λ p. omega arith))
    (cases_eq h 0)
held_once i (h ∷ hs) (suc k) =
    let r = held_once (i + 1) hs k in
    let at : times ((i + 1) + k) (held_from (i + 1) hs) ≡ times (i + suc k) (held_from (i + 1) hs) = ap
    (λ n. times n (held_from (i + 1) hs)) (omega arith) in
    ⊎_elim
    (λ e. let is = ap (times (i + suc k)) (held-zero i h hs e) in (omega (arith, r.0), λ p. omega (arith, r.1 p), λ p. r.2 (omega arith)))
    (λ n. let is = ap (times (i + suc k)) (held-some i h hs n) in
    let c = times-cons (i + suc k) i (held_from (i + 1) hs) in
    let m = mark-other i (i + suc k) (λ e. absurd (omega arith)) in
    (omega (arith, r.0), λ p. omega (arith, r.1 p), λ p. r.2 (omega arith)))
    (cases_eq h 0)

-- a test of what a list of indexes is mapped to
any_at_slot : (g : ℕ → ℕ) (t : ℕ → Bool) (us : List ℕ) → list_any t (map g us) ≡ true → (j : ℕ) × (0 < times j us) × (t (g j) ≡ true)
any_at_slot g t [] h = absurd (let e : false ≡ true = h in cc)
any_at_slot g t (u ∷ us) h = ⊎_elim
    (λ p. (u, omega (arith, times-cons u u us, mark-same u u refl), p))
    (λ p. let r = any_at_slot g t us p in (r.0, omega (arith, times-cons r.0 u us, r.1), r.2))
    (or_cases (t (g u)) (list_any t (map g us)) h)

slot_any : (g : ℕ → ℕ) (t : ℕ → Bool) (us : List ℕ) (j : ℕ) → 0 < times j us → t (g j) ≡ true → list_any t (map g us) ≡ true
slot_any g t [] j h p = absurd (omega arith)
slot_any g t (u ∷ us) j h p = ⊎_elim
    (λ e. ap (λ b. b || list_any t (map g us)) (ap (λ x. t (g x)) e ∙ p))
    (λ n. ap (λ b. t (g u) || b) (slot_any g t us j (omega (arith, times-cons j u us, mark-other u j n)) p) ∙ or_true (t (g u)))
    (cases_eq u j)

all_apart : (g : ℕ → ℕ) (x : ℕ) (us : List ℕ) → ((j : ℕ) → 0 < times j us → g x ≢ g j)
    → AllByRecursion (λ y. nat_eq (g x) y ≡ false) (map g us)
all_apart g x [] h = tt
all_apart g x (u ∷ us) h = (
  ne_eqb (g x) (g u) (h u (omega (arith, times-cons u u us, mark-same u u refl))),
  all_apart g x us (λ j p. h j (omega (arith, times-cons j u us))),
)

distinct_map : (g : ℕ → ℕ) (us : List ℕ) → ((j : ℕ) → times j us ≤ 1) → ((i j : ℕ) → 0 < times i us → 0 < times j us → g i ≡ g j → i ≡ j)
    → IsDistinct nat_eq (map g us)
unfolding IsDistinct
distinct_map g [] once apart = tt
distinct_map g (u ∷ us) once apart = (
  all_apart g u us (λ j h e. let same : u ≡ j = apart u j (omega (arith, times-cons u u us, mark-same u u refl))
      (omega (arith, times-cons j u us)) e in
      absurd (omega (arith, once j, times-cons j u us, mark-same u j same))),
  distinct_map g us (λ j. omega (arith, once j, times-cons j u us))
      (λ i j h k. apart i j (omega (arith, times-cons i u us)) (omega (arith, times-cons j u us))),
)
