-- What words and bits tell of sets of numbers.
use Rattle.std.proofs.Common.{zero, suc, ◌≡◌, ◌≢◌, ◌⊎◌, inl, inr, ℕ, ◌+◌, ◌-◌, ◌*◌, ◌/◌, ◌%◌, ◌^◌, ◌<◌, ◌≤◌, None, Some, List, ◌∷◌, ◌++◌, [], Vec, length, replicate, get_or, length-append, bit_and, bit_or, refl, sym, ap, subst, ◌∙◌, shr-shr, lt_of_not-le, lt_of_le_of_lt, pos_of_ne-zero, arith, w64}
use Rattle.std.specs.Prelude.{slice_get, slice_index_or, IsSomeAnd}
use Rattle.std.specs.Global.{Global}
use Rattle.std.specs.Option.{option_map_or}
use Rattle.std.specs.Int.{bit_at, bit_not, trailing_zeros}
use Rattle.std.proofs.lemmas.Nat.Bits.{bit_at-zero, bit_at_above, bit_at-trailing_zeros, bit_at_set_same, bit_at_set_other, bit_at_clear_same, bit_at_clear_other}
use Rattle.std.proofs.lemmas.Bool.{cases_eq, cases_lt}
use Rattle.std.proofs.lemmas.List.{get_or-replicate, length-replicate}
use Rattle.std.proofs.Math.ListN.{get_or-eq_default}
use Rattle.std.proofs.lemmas.Nat.{shr_le}
use Rattle.rr_sender.specs.declared.bit_sets.BitSets.{BitSets}
use Rattle.rr_sender.specs.BitSets.{HasWord, IsBitChanged, IsColumnAdded, IsNextInWord, IsWordChanged, has, word_of}

zero≢one : ◌≡◌ {A = ℕ} 0 1 → ⊥
zero≢one e = omega arith

-- the bits of a word from one on
rest_bit : (word k i : ℕ) → bit_at (word / 2 ^ k) i ≡ bit_at word (k + i)
rest_bit word k i = ap (λ n. n % 2) (shr-shr word k i)

-- a number that stands in the word of another, from that one on
record IsSameWord (from n : ℕ) : Type 0 where
  rest : from % 64 + (n - from) ≡ n % 64
  apart : n - from + from ≡ n

same_word : (from n : ℕ) → from ≤ n → n / 64 ≡ from / 64 → IsSameWord from n
same_word from n le same = record { rest = omega arith; apart = omega arith }

module _ (b : BitSets) (set from word : ℕ) (is : word ≡ word_of b set (from / 64)) where
  -- the bit of a number in the rest of a word
  bit_in_rest : (n : ℕ) → from ≤ n → n / 64 ≡ from / 64 → has b set n ≡ bit_at (word / 2 ^ (from % 64)) (n - from)
  bit_in_rest n le same =
      ap (λ w. bit_at (word_of b set w) (n % 64)) same
      ∙ ap (λ w. bit_at w (n % 64)) (sym is)
      ∙ ap (bit_at word) (sym (same_word from n le same).rest)
      ∙ sym (rest_bit word (from % 64) (n - from))

  -- an empty rest
  pub none_next : word / 2 ^ (from % 64) ≡ 0 → IsNextInWord b set from None
  none_next empty m le same = bit_in_rest m le same ∙ ap (λ w. bit_at w (m - from)) empty ∙ bit_at-zero (m - from)

  module _ (fits : word < 2 ^ 64) (some : word / 2 ^ (from % 64) ≢ 0) where
    abbrev rest : ℕ
    rest = word / 2 ^ (from % 64)

    abbrev zeros : ℕ
    zeros = trailing_zeros w64 rest

    lowest : (zeros < 64) × (bit_at rest zeros ≡ 1) × ((i : ℕ) → i < zeros → bit_at rest i ≡ 0)
    lowest = bit_at-trailing_zeros w64 rest (pos_of_ne-zero some) (lt_of_le_of_lt (shr_le word (from % 64)) fits)

    -- the lowest bit of the rest is one of the word
    inside : from % 64 + zeros < 64
    inside = lt_of_not-le (λ le. zero≢one (sym (bit_at_above word 64 (from % 64 + zeros) fits le)
        ∙ sym (rest_bit word (from % 64) zeros) ∙ lowest.1))

    pub next_fits : from < 2 ^ 64 → from + zeros < 2 ^ 64
    next_fits h = omega (arith, inside)

    pub next : IsNextInWord b set from (Some (from + zeros))
    next =
        let same : (from + zeros) / 64 ≡ from / 64 = omega (arith, inside) in
        let back : from + zeros - from ≡ zeros = omega arith in (
          omega arith,
          same,
          bit_in_rest (from + zeros) (omega arith) same ∙ ap (bit_at rest) back ∙ lowest.1,
          (λ m le lt. bit_in_rest m le (omega (arith, inside, le, lt)) ∙ lowest.2 (m - from) (omega (arith, le, lt))),
        )

-- a word with one bit more
module _ (old new : BitSets) (set number : ℕ) where
  -- a number of the same word is another bit
  elsewhere_in : (bit : ℕ) → ((i : ℕ) → i < 64 → i ≢ number % 64 → bit_at (word_of new set (number / 64)) i ≡ bit_at (word_of old set (number / 64)) i)
      → ((s i : ℕ) → (s ≢ set) ⊎ (i ≢ number / 64) → word_of new s i ≡ word_of old s i)
      → (s n : ℕ) → (s ≢ set) ⊎ (n ≢ number) → has new s n ≡ has old s n
  elsewhere_in bit same others s n apart = elim (cases_eq (n / 64) (number / 64)) [
    | inl w ↦ elim (cases_eq s set) [
      | inl e ↦
          let other : n % 64 ≢ number % 64 = (λ r. go e w r apart) in
          subst (λ t. has new t n ≡ has old t n) (sym e) (subst (λ v. bit_at (word_of new set v) (n % 64) ≡ bit_at (word_of old set v) (n % 64)) (sym w) (same (n % 64) (omega arith) other))
      | inr d ↦ ap (λ v. bit_at v (n % 64)) (others s (n / 64) (inl d))
    ]
    | inr d ↦ ap (λ v. bit_at v (n % 64)) (others s (n / 64) (inr d))
  ]
    where
      go : s ≡ set → n / 64 ≡ number / 64 → n % 64 ≡ number % 64 → (s ≢ set) ⊎ (n ≢ number) → ⊥
      go e w r (inl d) = d e
      go e w r (inr d) = d (omega arith)

  changed : (bit word : ℕ) → IsWordChanged set (number / 64) word old new
      → bit_at word (number % 64) ≡ bit
      → ((i : ℕ) → i < 64 → i ≢ number % 64 → bit_at word i ≡ bit_at (word_of old set (number / 64)) i)
      → IsBitChanged bit set number old new
  changed bit word w same others = record {
    here = ap (λ v. bit_at v (number % 64)) w.here ∙ same;
    elsewhere = elsewhere_in bit (λ i lt d. ap (λ v. bit_at v i) w.here ∙ others i lt d) w.elsewhere;
    words = w.elsewhere;
    places = w.places;
    columns = w.columns;
  }

  pub inserted : IsWordChanged set (number / 64) (bit_or (word_of old set (number / 64)) (1 * 2 ^ (number % 64) % 2 ^ 64)) old new
      → IsBitChanged 1 set number old new
  inserted w =
      let lt : number % 64 < 64 = omega arith in
      changed 1 _ w (bit_at_set_same w64 (word_of old set (number / 64)) (number % 64) lt)
      (λ i below d. bit_at_set_other w64 (word_of old set (number / 64)) (number % 64) lt i d)

  pub removed : IsWordChanged set (number / 64) (bit_and (word_of old set (number / 64)) (bit_not w64 (1 * 2 ^ (number % 64) % 2 ^ 64))) old new
      → IsBitChanged 0 set number old new
  removed w =
      let lt : number % 64 < 64 = omega arith in
      changed 0 _ w (bit_at_clear_same w64 (word_of old set (number / 64)) (number % 64) lt)
      (λ i below d. bit_at_clear_other w64 (word_of old set (number / 64)) (number % 64) lt i below d)

-- a column of empty words changes no word
nothing_at : (n i : ℕ) → ◌≡◌ {A = ℕ} (get_or (replicate n 0) i 0) 0
nothing_at n i = elim (cases_lt i n) [
  | inl h ↦ get_or-replicate n i 0 0 h
  | inr h ↦ get_or-eq_default (replicate n 0) 0 (omega (arith, h, length-replicate {A = ℕ} n 0))
]

module _ (sets : ℕ) (column : Vec ℕ Global) (items : column.items ≡ replicate sets 0) where
  word_after : (xs : List (Vec ℕ Global)) (s i : ℕ)
      → option_map_or (λ (c : Vec ℕ Global). slice_index_or c.items s 0) (slice_get (xs ++ column ∷ []) i) 0
      ≡ option_map_or (λ (c : Vec ℕ Global). slice_index_or c.items s 0) (slice_get xs i) 0
  word_after [] s zero = ap (λ l. get_or l s 0) items ∙ nothing_at sets s
  word_after [] s (suc i) = refl
  word_after (x ∷ xs) s zero = refl
  word_after (x ∷ xs) s (suc i) = word_after xs s i

  place_after : (xs : List (Vec ℕ Global)) (s i : ℕ) → IsSomeAnd (slice_get xs i) (λ (c : Vec ℕ Global). s < length c.items)
      → IsSomeAnd (slice_get (xs ++ column ∷ []) i) (λ (c : Vec ℕ Global). s < length c.items)
  place_after [] s i h = elim h [ ]
  place_after (x ∷ xs) s zero h = h
  place_after (x ∷ xs) s (suc i) h = place_after xs s i h

  place_last : (xs : List (Vec ℕ Global)) (s : ℕ) → s < sets
      → IsSomeAnd (slice_get (xs ++ column ∷ []) (length xs)) (λ (c : Vec ℕ Global). s < length c.items)
  place_last [] s h = omega (arith, h, ap length items, length-replicate {A = ℕ} sets 0)
  place_last (x ∷ xs) s h = place_last xs s h

  place_before : (xs : List (Vec ℕ Global)) (s i : ℕ) → IsSomeAnd (slice_get (xs ++ column ∷ []) i) (λ (c : Vec ℕ Global). s < length c.items)
      → IsSomeAnd (slice_get xs i) (λ (c : Vec ℕ Global). s < length c.items) ⊎ ((i ≡ length xs) × (s < sets))
  place_before [] s zero h = inr (refl, omega (arith, h, ap length items, length-replicate {A = ℕ} sets 0))
  place_before [] s (suc i) h = elim h [ ]
  place_before (x ∷ xs) s zero h = inl h
  place_before (x ∷ xs) s (suc i) h = elim (place_before xs s i h) [ inl b ↦ inl b | inr e ↦ inr (ap suc e.0, e.1) ]

  pub column_added : (old new : BitSets) → new.columns.items ≡ old.columns.items ++ column ∷ [] → IsColumnAdded sets old new
  column_added old new is = record {
    words = λ s i. ap (λ (xs : List (Vec ℕ Global)). option_map_or (λ (c : Vec ℕ Global). slice_index_or c.items s 0) (slice_get xs i) 0) is ∙ word_after old.columns.items s i;
    places = λ s i h. subst (λ (xs : List (Vec ℕ Global)). IsSomeAnd (slice_get xs i) (λ (c : Vec ℕ Global). s < length c.items)) (sym is) (place_after old.columns.items s i h);
    more = λ s h. subst (λ (xs : List (Vec ℕ Global)). IsSomeAnd (slice_get xs (length old.columns.items)) (λ (c : Vec ℕ Global). s < length c.items)) (sym is) (place_last old.columns.items s h);
    back = λ s i h. place_before old.columns.items s i (subst (λ (xs : List (Vec ℕ Global)). IsSomeAnd (slice_get xs i) (λ (c : Vec ℕ Global). s < length c.items)) is h);
    columns = ap length is ∙ length-append old.columns.items (column ∷ []);
  }

-- what was added to sets was added to the same sets in another place
module _ (sets : ℕ) (old other new : BitSets) (same : old.columns.items ≡ other.columns.items) (added : IsColumnAdded sets old new) where
  word_there : (s i : ℕ) → word_of old s i ≡ word_of other s i
  word_there s i = ap (λ (xs : List (Vec ℕ Global)). option_map_or (λ (c : Vec ℕ Global). slice_index_or c.items s 0) (slice_get xs i) 0) same

  place_there : (s i : ℕ) → HasWord old s i → HasWord other s i
  place_there s i h = subst (λ (xs : List (Vec ℕ Global)). IsSomeAnd (slice_get xs i) (λ (c : Vec ℕ Global). s < length c.items)) same h

  place_back : (s i : ℕ) → HasWord other s i → HasWord old s i
  place_back s i h = subst (λ (xs : List (Vec ℕ Global)). IsSomeAnd (slice_get xs i) (λ (c : Vec ℕ Global). s < length c.items)) (sym same) h

  pub added_there : IsColumnAdded sets other new
  added_there = record {
    words = λ s i. added.words s i ∙ word_there s i;
    places = λ s i h. added.places s i (place_back s i h);
    more = λ s h. subst (HasWord new s) (ap length same) (added.more s h);
    back = λ s i h. elim (added.back s i h) [ inl b ↦ inl (place_there s i b) | inr e ↦ inr (e.0 ∙ ap length same, e.1) ];
    columns = added.columns ∙ ap (λ n. n + 1) (ap length same);
  }
