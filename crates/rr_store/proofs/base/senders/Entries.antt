-- Where the slots of a sender stand in its queues, and which sender or port has a number or a receiver.
use Rattle.std.proofs.Common.{◌≡◌, ◌≢◌, ◌<◌, ◌≤◌, ℕ, zero, suc, Bool, true, false, not, cond, List, [], ◌∷◌, Option, None, Some, length, get_or, refl, sym, ap, ◌∙◌, ⊎_elim, ◌⊎◌, inl, inr, arith}
use Rattle.std.specs.Prelude.{◌==◌, ◌||◌, slice_get, flat_map, find}
use Rattle.std.specs.List.{list_any}
use Rattle.std.proofs.lemmas.Bool.{cases_eq, cases_lt, eq-eqb, eqb-true, ne_eqb, false≢true}
use Rattle.std.proofs.lemmas.List.{get_or_past}
use Rattle.std.proofs.lemmas.Option.{get_or_from_slice_get, slice_get_within}
use Rattle.rr_table.proofs.ListFacts.{or_true}
use Rattle.rr_table.proofs.Members.{any_gives, any_there, any-flat}
use Rattle.rr_sender.specs.Senders.{Messages, times, at_two, all_entries, uses, used_below}
use Rattle.rr_store.specs.Sound.{IsShaped}
use Rattle.rr_store.proofs.base.lists.Distinct.{count_below}
use Rattle.rr_store.proofs.base.lists.Found.{found_passes, found_somewhere, find_here, find_there}

-- a slot of a list that passes
pub any_slot : (t : ℕ → Bool) (slots : List ℕ) → list_any t slots ≡ true → (j : ℕ) × (0 < times j slots) × (t j ≡ true)
any_slot t [] h = absurd (false≢true h)
any_slot t (s ∷ slots) h = go (any_slot t slots) (t s) refl h
  where
    go : (list_any t slots ≡ true → (j : ℕ) × (0 < times j slots) × (t j ≡ true)) → (b : Bool) → t s ≡ b → (b || list_any t slots) ≡ true
        → (j : ℕ) × (0 < times j (s ∷ slots)) × (t j ≡ true)
    go rest true e h = (s, omega (arith, ap {B = ℕ} (λ b. cond b 1 0) (eq-eqb s s refl)), e)
    go rest false e h = let r = rest h in (r.0, omega (arith, r.1), r.2)

-- a slot that stands in a list
pub slot_there : (t : ℕ → Bool) (slots : List ℕ) (j : ℕ) → 0 < times j slots → t j ≡ true → list_any t slots ≡ true
slot_there t [] j h e = absurd (omega (arith, h))
slot_there t (s ∷ slots) j h e =
    ⊎_elim
    (λ is. ap (λ b. b || list_any t slots) (ap t is ∙ e))
    (λ n. or_true (t s) (list_any t slots) (slot_there t slots j (omega (arith, h, ap {B = ℕ} (λ b. cond b 1 0) (ne_eqb s j n))) e))
    (cases_eq s j)

-- a slot in some queue
pub entry_somewhere : (rows : List (List (List ℕ))) (slot : ℕ) → 0 < times slot (all_entries rows) → (r : ℕ) × (c : ℕ)
    × (0 < times slot (at_two [] rows r c))
entry_somewhere rows slot h =
    let is : ℕ → Bool = λ x. x == slot in
    let any = slot_there is (all_entries rows) slot h (eq-eqb slot slot refl) in
    let row = any_gives (λ (channels : List (List ℕ)). list_any is (flat_map (λ queue. queue) channels)) rows
    (sym (any-flat is (λ (channels : List (List ℕ)). flat_map (λ queue. queue) channels) rows) ∙ any) in
    let queue = any_gives (λ (queue : List ℕ). list_any is queue) row.1 (sym (any-flat is (λ (queue : List ℕ). queue) row.1) ∙ row.3) in
    let entry = any_slot is queue.1 queue.3 in
    let at_row : get_or rows row.0 [] ≡ row.1 = get_or_from_slice_get rows row.0 row.1 [] row.2 in
    let at_queue : get_or row.1 queue.0 [] ≡ queue.1 = get_or_from_slice_get row.1 queue.0 queue.1 [] queue.2 in (
      row.0,
      queue.0,
      omega (
        arith,
        entry.1,
        ap (λ j. times j queue.1) (eqb-true entry.0 slot entry.2),
        ap (times slot) at_queue,
        ap (λ (channels : List (List ℕ)). times slot (get_or channels queue.0 [])) at_row,
      ),
    )

-- a slot that is used is one of the sender's
pub used_inside : {T N H : Type 0} {receivers channels capacity : ℕ} (m : Messages T N H) → IsShaped receivers channels capacity m
    → (slot : ℕ) → 0 < uses m slot → slot < length m.held
used_inside m shaped slot used =
    ⊎_elim (λ h. h)
    (λ h. shaped.inside slot (omega (arith, used, get_or_past m.held slot 0 h)))
    (cases_lt slot (length m.held))

-- how many slots are used
pub used_counted : {T N H : Type 0} (m : Messages T N H) (n : ℕ) → used_below m n ≡ count_below (λ i. not (uses m i == 0)) n
used_counted m zero = refl
used_counted m (suc n) = omega (arith, one (uses m n == 0), used_counted m n)
  where
    one : (b : Bool) → cond {A = ℕ} b 0 1 ≡ cond {A = ℕ} (not b) 1 0
    one true = refl
    one false = refl

module _ {X : Type 0} where
  -- where nothing is found, nothing passes
  pub found_none : (p : X → Bool) (ys : List X) → find p ys ≡ None → (j : ℕ) (y : X) → slice_get ys j ≡ Some y → p y ≡ false
  found_none p [] e j y at = absurd (omega (arith, slice_get_within [] j y at))
  found_none p (z ∷ ys) e j y at = by (found_none p ys) (p z) refl j at
    where
      by : (find p ys ≡ None → (j : ℕ) (y : X) → slice_get ys j ≡ Some y → p y ≡ false) → (b : Bool) → p z ≡ b → (j : ℕ)
          → slice_get (z ∷ ys) j ≡ Some y → p y ≡ false
      by rest true t j at = absurd (let f : Some z ≡ None = sym (find_here p z ys t) ∙ e in cc)
      by rest false t zero at = let f : Some z ≡ Some y = at in let is : z ≡ y = cc in ap p (sym is) ∙ t
      by rest false t (suc j) at = rest (sym (find_there p z ys t) ∙ e) j y at

  -- an element that passes alone is the first that does
  pub found_alone : (p : X → Bool) (xs : List X) (i : ℕ) (x : X) → slice_get xs i ≡ Some x → p x ≡ true
      → ((j : ℕ) (y : X) → slice_get xs j ≡ Some y → p y ≡ true → j ≡ i) → find p xs ≡ Some x
  found_alone p xs i x at h alone = go (find p xs) refl
    where
      go : (o : Option X) → find p xs ≡ o → find p xs ≡ Some x
      go None e = absurd (false≢true (sym (found_none p xs e i x at) ∙ h))
      go (Some y) e =
          let there = found_somewhere p xs y e in
          let same : there.0 ≡ i = alone there.0 y there.1 (found_passes p xs y e) in
          let f : Some y ≡ Some x = sym there.1 ∙ ap (slice_get xs) same ∙ at in
          e ∙ f

  -- some element has a number, or none has
  pub somewhere : (f : X → ℕ) (xs : List X) (r : ℕ) → ((i : ℕ) × (x : X) × (slice_get xs i ≡ Some x) × (f x ≡ r))
      ⊎ ((i : ℕ) (x : X) → slice_get xs i ≡ Some x → f x ≢ r)
  somewhere f xs r = go (list_any (λ x. f x == r) xs) refl
    where
      go : (b : Bool) → list_any (λ x. f x == r) xs ≡ b → ((i : ℕ) × (x : X) × (slice_get xs i ≡ Some x) × (f x ≡ r))
          ⊎ ((i : ℕ) (x : X) → slice_get xs i ≡ Some x → f x ≢ r)
      go true e = let g = any_gives (λ x. f x == r) xs e in inl (g.0, g.1, g.2, eqb-true (f g.1) r g.3)
      go false e = inr (λ i x at is. false≢true (sym e ∙ any_there (λ x. f x == r) xs i x at (eq-eqb (f x) r is)))

-- a number that is not 0
pub some_used : (n : ℕ) → 0 < n → not (n == 0) ≡ true
some_used n h = ap not (ne_eqb n 0 (λ e. absurd (omega (arith, h, e))))

pub used_some : (n : ℕ) → not (n == 0) ≡ true → 0 < n
used_some n h = ⊎_elim (λ l. l) (λ l. absurd (false≢true (sym (ap not (eq-eqb n 0 (omega (arith, l)))) ∙ h))) (cases_lt 0 n)

-- no more slots are used than there are
pub used_le : {T N H : Type 0} (m : Messages T N H) (n : ℕ) → used_below m n ≤ n
used_le m zero = omega arith
used_le m (suc n) = omega (arith, one (uses m n == 0), used_le m n)
  where
    one : (b : Bool) → cond {A = ℕ} b 0 1 ≤ 1
    one true = omega arith
    one false = omega arith
