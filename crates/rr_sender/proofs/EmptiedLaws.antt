-- Slots that lost their last use are emptied.
use Rattle.std.proofs.Common.{◌≡◌, ℕ, suc, zero, ◌<◌, Bool, true, false, List, [], ◌∷◌, cond, length, get_or, refl, sym, ap, ◌∙◌, ⊎_elim, arith}
use Rattle.std.specs.Prelude.{slice_set, not, ◌&&◌, ◌||◌, ◌==◌, ◌≢◌}
use Rattle.std.proofs.lemmas.Bool.{cases_eq, eq-eqb, ne_eqb}
use Rattle.rr_slots.specs.Pools.{Written, emptied, nothing_written}
use Rattle.rr_sender.specs.Senders.{Messages, times, uses, emptied_where, is_left, emptied_among}
use Rattle.rr_sender.proofs.EntryLaws.{mark-same, mark-other}

module _ {T : Type 0} where
  -- what stands in a slot after it
  pub emptied_where-at : (test : ℕ → Bool) (ws : List (Written T)) (i : ℕ) → get_or (emptied_where test ws) i (nothing_written 0)
      ≡ cond (test i) (emptied (get_or ws i (nothing_written 0))) (get_or ws i (nothing_written 0))
  emptied_where-at test [] i = elim (test i) as (λ b. nothing_written {T = T} 0 ≡ cond b (nothing_written 0) (nothing_written 0))
      [ true ↦ refl | false ↦ refl ]
  emptied_where-at test (w ∷ ws) zero = refl
  emptied_where-at test (w ∷ ws) (suc i) = emptied_where-at (λ i. test (suc i)) ws i

  pub length-emptied_where : (test : ℕ → Bool) (ws : List (Written T)) → length (emptied_where test ws) ≡ length ws
  length-emptied_where test [] = refl
  length-emptied_where test (w ∷ ws) = omega (arith, length-emptied_where (λ i. test (suc i)) ws)

  -- by a test that is as another
  pub emptied_where-alike : (test other : ℕ → Bool) (ws : List (Written T)) → ((i : ℕ) → test i ≡ other i)
      → emptied_where test ws ≡ emptied_where other ws
  emptied_where-alike test other ws same = λ k. emptied_where (λ i. same i k) ws

  -- where none passes
  nothing_emptied : (ws : List (Written T)) → emptied_where (λ _. false) ws ≡ ws
  nothing_emptied [] = refl
  nothing_emptied (w ∷ ws) = ap (λ rest. w ∷ rest) (nothing_emptied ws)

  pub emptied_where-none : (test : ℕ → Bool) (ws : List (Written T)) → ((i : ℕ) → test i ≡ false) → emptied_where test ws ≡ ws
  emptied_where-none test ws none = emptied_where-alike test (λ _. false) ws none ∙ nothing_emptied ws

  -- where one slot passes
  only_emptied : (ws : List (Written T)) (slot : ℕ) → emptied_where (λ i. i == slot) ws
      ≡ slice_set ws slot (emptied (get_or ws slot (nothing_written 0)))
  only_emptied [] slot = refl
  only_emptied (w ∷ ws) zero =
      ap (λ b. cond b (emptied w) w ∷ emptied_where (λ i. suc i == 0) ws) (eq-eqb 0 0 refl)
      ∙ ap (λ rest. emptied w ∷ rest) (emptied_where-none (λ i. suc i == 0) ws (λ i. ne_eqb (suc i) 0 (λ e. omega (arith, e))))
  only_emptied (w ∷ ws) (suc slot) =
      ap (λ b. cond b (emptied w) w ∷ emptied_where (λ i. suc i == suc slot) ws) (ne_eqb 0 (suc slot) (λ e. omega (arith, e)))
      ∙ ap (λ rest. w ∷ rest) (emptied_where-alike (λ i. suc i == suc slot) (λ i. i == slot) ws (λ i. ⊎_elim
      (λ e. eq-eqb (suc i) (suc slot) (ap suc e) ∙ sym (eq-eqb i slot e))
      (λ n. ne_eqb (suc i) (suc slot) (λ e. n (omega (arith, e))) ∙ sym (ne_eqb i slot n))
      (cases_eq i slot)) ∙ only_emptied ws slot)

  -- one after the other
  pub emptied_where-twice : (test other : ℕ → Bool) (ws : List (Written T)) → emptied_where other (emptied_where test ws)
      ≡ emptied_where (λ i. test i || other i) ws
  emptied_where-twice test other [] = refl
  emptied_where-twice test other (w ∷ ws) =
      ap (λ rest. cond (other 0) (emptied (cond (test 0) (emptied w) w)) (cond (test 0) (emptied w) w) ∷ rest)
      (emptied_where-twice (λ i. test (suc i)) (λ i. other (suc i)) ws)
      ∙ ap (λ w. w ∷ emptied_where (λ i. test (suc i) || other (suc i)) ws) (both (test 0) (other 0))
    where
      both : (a b : Bool) → cond b (emptied (cond a (emptied w) w)) (cond a (emptied w) w) ≡ cond (a || b) (emptied w) w
      both true true = refl
      both true false = refl
      both false true = refl
      both false false = refl

  -- a list in which one slot may be emptied
  pub emptied_where-one : (test : ℕ → Bool) (ws : List (Written T)) (slot : ℕ) → ((i : ℕ) → i ≢ slot → test i ≡ false)
      → emptied_where test ws ≡ cond (test slot) (slice_set ws slot (emptied (get_or ws slot (nothing_written 0)))) ws
  emptied_where-one test ws slot other = by (test slot) refl where
    by : (b : Bool) → test slot ≡ b → emptied_where test ws ≡ cond b (slice_set ws slot (emptied (get_or ws slot (nothing_written 0)))) ws
    by true here = emptied_where-alike test (λ i. i == slot) ws (λ i. ⊎_elim
        (λ e. ap test e ∙ here ∙ sym (eq-eqb i slot e))
        (λ n. other i n ∙ sym (ne_eqb i slot n))
        (cases_eq i slot)) ∙ only_emptied ws slot
    by false here = emptied_where-none test ws (λ i. ⊎_elim (λ e. ap test e ∙ here) (other i) (cases_eq i slot))

module _ {T N H : Type 0} (m : Messages T N H) (slots : List ℕ) where
  -- a slot that isn't one of these stays, and one that is used
  pub left-other : (i : ℕ) → times i slots ≡ 0 → is_left slots m i ≡ false
  left-other i none = ap (λ b. not b && (uses m i == 0)) (eq-eqb (times i slots) 0 none)

  pub left-used : (i : ℕ) → 0 < uses m i → is_left slots m i ≡ false
  left-used i used = ap (λ b. not (times i slots == 0) && b) (ne_eqb (uses m i) 0 (λ e. omega (arith, e, used)))
      ∙ elim (not (times i slots == 0)) as (λ b. b && false ≡ false) [ true ↦ refl | false ↦ refl ]

  -- one of these that nothing uses doesn't
  pub left-free : (i : ℕ) → 0 < times i slots → uses m i ≡ 0 → is_left slots m i ≡ true
  left-free i one free = ap (λ b. not b && (uses m i == 0)) (ne_eqb (times i slots) 0 (λ e. omega (arith, e, one)))
      ∙ eq-eqb (uses m i) 0 free

  -- what stands in a slot that is used stays
  pub used_stays : (i : ℕ) → 0 < uses m i → get_or (emptied_among slots m).contents i (nothing_written 0) ≡ get_or m.contents i (nothing_written 0)
  used_stays i used = emptied_where-at (is_left slots m) m.contents i
      ∙ ap (λ b. cond b (emptied (get_or m.contents i (nothing_written 0))) (get_or m.contents i (nothing_written 0))) (left-used i used)

module _ {T N H : Type 0} (m : Messages T N H) where
  -- none of no slots
  pub emptied_among-none : emptied_among [] m ≡ m
  emptied_among-none = ap (λ contents. record m { contents = contents })
      (emptied_where-none (is_left [] m) m.contents (λ i. left-other m [] i refl))

  -- one slot alone
  pub emptied_among-one : (slot : ℕ) → (emptied_among (slot ∷ []) m).contents
      ≡ cond (uses m slot == 0) (slice_set m.contents slot (emptied (get_or m.contents slot (nothing_written 0)))) m.contents
  emptied_among-one slot =
      emptied_where-one (is_left (slot ∷ []) m) m.contents slot
      (λ i n. left-other m (slot ∷ []) i (omega (arith, mark-other slot i (λ e. n (sym e)))))
      ∙ ap (λ b. cond (not b && (uses m slot == 0)) (slice_set m.contents slot (emptied (get_or m.contents slot (nothing_written 0)))) m.contents)
      (ne_eqb (times slot (slot ∷ [])) 0 (λ e. omega (arith, e, mark-same slot)))

  -- the test by uses in another core, and among other slots
  pub emptied_among-alike : (slots others : List ℕ) (m' : Messages T N H) → ((i : ℕ) → is_left slots m i ≡ is_left others m' i)
      → m.contents ≡ m'.contents → (emptied_among slots m).contents ≡ (emptied_among others m').contents
  emptied_among-alike slots others m' same contents = emptied_where-alike (is_left slots m) (is_left others m') m.contents same
      ∙ ap (emptied_where (is_left others m')) contents
