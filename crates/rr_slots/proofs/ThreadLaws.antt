-- A step of the list that leads through the free slots.
use Rattle.std.proofs.Common.{◌≡◌, ℕ, suc, zero, ◌+◌, ◌-◌, ◌<◌, ◌≤◌, List, ◌∷◌, cond, eqb, get_or, length, refl, sym, ap, ◌∙◌, subst, ⊎_elim, arith, add-one}
use Rattle.std.specs.Prelude.{slice_set, count_by, replicate}
use Rattle.std.proofs.lemmas.Bool.{cases_eq, eq-eqb, ne_eqb, cases_lt}
use Rattle.std.proofs.lemmas.List.{get_or-set_same, get_or-set_other, get_or_past, get_or_default, length-replicate, get_or-replicate}
use Rattle.std.proofs.lemmas.List.Sums.{sum_by-set, sum_by-cons}
use Rattle.rr_slots.specs.Threads.{LeadsThroughFree, thread, times, is_zero}

times-head : (i : ℕ) (xs : List ℕ) → times i (i ∷ xs) ≡ 1 + times i xs
times-head i xs = rw (eq-eqb i i refl) refl

times-other : (i x : ℕ) (xs : List ℕ) → (x ≡ i → ⊥) → times i (x ∷ xs) ≡ times i xs
times-other i x xs n = rw (ne_eqb x i n) (omega arith)

is_zero-one : (n : ℕ) → 1 ≤ is_zero n → n ≡ 0
is_zero-one n h = ⊎_elim (λ e. e) (λ e. absurd (omega (arith, ap {B = ℕ} (λ b. cond b 1 0) (ne_eqb n 0 e)))) (cases_eq n 0)

is_zero-pos : (n : ℕ) → 0 < n → is_zero n ≡ 0
is_zero-pos n h = ap {B = ℕ} (λ b. cond b 1 0) (ne_eqb n 0 (λ e. omega arith))

-- a link of a slot that isn't led through changes nothing
thread-set : (nexts : List ℕ) (first n slot x : ℕ) → times slot (thread nexts first n) ≡ 0
    → thread (slice_set nexts slot x) first n ≡ thread nexts first n
thread-set nexts first zero slot x none = refl
thread-set nexts first (suc n) slot x none =
    ⊎_elim (λ e. absurd (let h : times slot (slot ∷ thread nexts (get_or nexts first 0) n) ≡ 0 = let P : ℕ
    → Type 0 = λ k. times slot (k ∷ thread nexts (get_or nexts first 0) n) ≡ 0 in subst P e none in
    omega (arith, times-head slot (thread nexts (get_or nexts first 0) n))))
    (λ e. let here : get_or (slice_set nexts slot x) first 0 ≡ get_or nexts first 0 = get_or-set_other nexts slot first x 0 e in
    ap (λ h. first ∷ thread (slice_set nexts slot x) h n) here
    ∙ ap (λ t. first ∷ t) (thread-set nexts (get_or nexts first 0) n slot x (sym (times-other slot first _ e) ∙ none)))
    (cases_eq first slot)

module _ {hs ls : List ℕ} where
  pub first_zero : {head n : ℕ} → LeadsThroughFree hs ls head (suc n) → get_or hs head 1 ≡ 0
  first_zero {head} {n} t = is_zero-one _ (omega (arith, t.each_once head, times-head head (thread ls (get_or ls head 0) n)))

  pub first_within : {head n : ℕ} → LeadsThroughFree hs ls head (suc n) → head < length hs
  first_within {head} t = ⊎_elim (λ h. h) (λ h. absurd (omega (arith, first_zero t, get_or_past hs head 1 h))) (cases_lt head (length hs))

  -- the first free slot is held once, and the list begins with the one after it
  pub leads_after_take : {head n : ℕ} (x : ℕ) → LeadsThroughFree hs ls head (suc n)
      → LeadsThroughFree (slice_set hs head 1) (slice_set ls head x) (get_or ls head 0) n
  leads_after_take {head} {n} x t =
      let inside = first_within t in
      let rest : List ℕ = thread ls (get_or ls head 0) n in
      let none : times head rest ≡ 0 = omega (arith, t.each_once head, times-head head rest, ap is_zero (first_zero t)) in
      let same : thread (slice_set ls head x) (get_or ls head 0) n ≡ rest = thread-set ls (get_or ls head 0) n head x none in
      record {
        stored =
            let e : count_by (λ h. eqb h 0) (slice_set hs head 1) + is_zero (get_or hs head 1) ≡ count_by (λ h. eqb h 0) hs + 0 =
            sum_by-set is_zero hs head 1 1 inside in
            let z : is_zero (get_or hs head 1) ≡ 1 = ap is_zero (first_zero t) in
            omega (arith, t.stored);
        each_once = λ i. rw same (⊎_elim
            (λ e. let P : ℕ → Type 0 = λ k. times k rest ≡ is_zero (get_or (slice_set hs head 1) k 1) in
            subst P (sym e) (none ∙ sym (ap is_zero (get_or-set_same hs head 1 1 inside))))
            (λ e. rw (get_or-set_other hs head i 1 1 e) (sym (times-other i head _ (λ p. e (sym p))) ∙ t.each_once i))
            (cases_eq i head));
      }

  -- the only holder of a slot gave it back: it is the first free one
  pub leads_after_free : {head n : ℕ} (slot : ℕ) → slot < length ls → get_or hs slot 0 ≡ 1 → LeadsThroughFree hs ls head n
      → LeadsThroughFree (slice_set hs slot 0) (slice_set ls slot head) slot (n + 1)
  leads_after_free {head} {n} slot link one t =
      let inside : slot < length hs = ⊎_elim (λ h. h) (λ h. absurd (omega (arith, get_or_past hs slot 0 h))) (cases_lt slot (length hs)) in
      let one' : get_or hs slot 1 ≡ 1 = get_or_default hs slot 1 0 inside ∙ one in
      let none : times slot (thread ls head n) ≡ 0 = t.each_once slot ∙ ap is_zero one' in
      let next : get_or (slice_set ls slot head) slot 0 ≡ head = get_or-set_same ls slot head 0 link in
      let whole : thread (slice_set ls slot head) slot (n + 1) ≡ slot ∷ thread ls head n =
      rw add-one (ap (λ h. slot ∷ thread (slice_set ls slot head) h n) next ∙ ap (λ l. slot ∷ l) (thread-set ls head n slot head none)) in
      record {
        stored =
            let e : count_by (λ h. eqb h 0) (slice_set hs slot 0) + is_zero (get_or hs slot 1) ≡ count_by (λ h. eqb h 0) hs + 1 =
            sum_by-set is_zero hs slot 0 1 inside in
            let z : is_zero (get_or hs slot 1) ≡ 0 = ap is_zero one' in
            omega (arith, t.stored);
        each_once = λ i. rw whole (⊎_elim
            (λ e. let P : ℕ → Type 0 = λ k. times k (slot ∷ thread ls head n) ≡ is_zero (get_or (slice_set hs slot 0) k 1) in
            subst P (sym e) (omega (arith, none, times-head slot (thread ls head n), ap is_zero (get_or-set_same hs slot 0 1 inside))))
            (λ e. rw (get_or-set_other hs slot i 0 1 e) (times-other i slot _ (λ p. e (sym p)) ∙ t.each_once i))
            (cases_eq i slot));
      }

  -- a slot that was held stays held, by more or by less
  pub leads_as_before : {head n : ℕ} (slot m x : ℕ) → 0 < get_or hs slot 0 → 0 < m → LeadsThroughFree hs ls head n
      → LeadsThroughFree (slice_set hs slot m) (slice_set ls slot x) head n
  leads_as_before {head} {n} slot m x held more t =
      let inside : slot < length hs = ⊎_elim (λ h. h) (λ h. absurd (omega (arith, get_or_past hs slot 0 h))) (cases_lt slot (length hs)) in
      let before : is_zero (get_or hs slot 1) ≡ 0 = is_zero-pos _ (subst (λ k. 0 < k) (get_or_default hs slot 0 1 inside) held) in
      let none : times slot (thread ls head n) ≡ 0 = t.each_once slot ∙ before in
      record {
        stored =
            let e : count_by (λ h. eqb h 0) (slice_set hs slot m) + is_zero (get_or hs slot 1) ≡ count_by (λ h. eqb h 0) hs + is_zero m =
            sum_by-set is_zero hs slot m 1 inside in
            omega (arith, t.stored, is_zero-pos m more);
        each_once = λ i. rw (thread-set ls head n slot x none) (⊎_elim
            (λ e. let P : ℕ → Type 0 = λ k. times k (thread ls head n) ≡ is_zero (get_or (slice_set hs slot m) k 1) in
            subst P (sym e) (none ∙ sym (ap is_zero (get_or-set_same hs slot m 1 inside) ∙ is_zero-pos m more)))
            (λ e. rw (get_or-set_other hs slot i m 1 e) (t.each_once i))
            (cases_eq i slot));
      }

-- links that lead to the slot before
next_falling : (ls : List ℕ) (n i : ℕ) → ((k : ℕ) → k < suc n → get_or ls k 0 ≡ k - 1)
    → times i (thread ls (get_or ls (suc n - 1) 0) n) ≡ times i (thread ls (n - 1) n)
next_falling ls n i each =
    let before : get_or ls (suc n - 1) 0 ≡ n - 1 = omega (arith, each (suc n - 1) (omega arith)) in
    ap (λ x. times i (thread ls x n)) before

thread_falling-out : (ls : List ℕ) (n i : ℕ) → ((k : ℕ) → k < n → get_or ls k 0 ≡ k - 1) → n ≤ i → times i (thread ls (n - 1) n) ≡ 0
thread_falling-out ls zero i each out = refl
thread_falling-out ls (suc n) i each out =
    times-other i (suc n - 1) _ (λ e. omega arith) ∙ next_falling ls n i each
    ∙ thread_falling-out ls n i (λ k l. each k (omega arith)) (omega arith)

thread_falling-in : (ls : List ℕ) (n i : ℕ) → ((k : ℕ) → k < n → get_or ls k 0 ≡ k - 1) → i < n → times i (thread ls (n - 1) n) ≡ 1
thread_falling-in ls zero i each within = absurd (omega arith)
thread_falling-in ls (suc n) i each within =
    let rest : List ℕ = thread ls (get_or ls (suc n - 1) 0) n in
    ⊎_elim
    (λ e. let P : ℕ → Type 0 = λ k. times i (k ∷ rest) ≡ 1 in
    subst P (sym e) (omega (
      arith,
      times-head i rest,
      next_falling ls n i each,
      thread_falling-out ls n i (λ k l. each k (omega arith)) (omega arith),
    )))
    (λ e. times-other i (suc n - 1) rest e ∙ next_falling ls n i each
    ∙ thread_falling-in ls n i (λ k l. each k (omega arith)) (omega arith))
    (cases_eq (suc n - 1) i)

all_zero : (n : ℕ) → count_by (λ h. eqb h 0) (replicate n 0) ≡ n
all_zero zero = refl
all_zero (suc n) = sum_by-cons is_zero 0 (replicate n 0) ∙ omega (arith, all_zero n)

-- slots that nobody holds, each followed by the one before it
pub leads_at_last : (n : ℕ) (ls : List ℕ) → ((k : ℕ) → k < n → get_or ls k 0 ≡ k - 1) → LeadsThroughFree (replicate n 0) ls (n - 1) n
leads_at_last n ls each = record {
  stored = sym (all_zero n);
  each_once = λ i. ⊎_elim
      (λ h. thread_falling-in ls n i each h ∙ sym (ap is_zero (get_or-replicate n i 0 1 h)))
      (λ h. thread_falling-out ls n i each h
      ∙ sym (ap is_zero (get_or_past (replicate n 0) i 1 (omega (arith, length-replicate {A = ℕ} n 0)))))
      (cases_lt i n);
}
