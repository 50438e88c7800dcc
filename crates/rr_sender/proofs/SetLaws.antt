-- Sets of senders stay with what is noted of their words, and a look that goes by that finds the next member.
use Rattle.std.proofs.Common.{suc, ◌≡◌, ◌≢◌, ◌⊎◌, inl, inr, ℕ, ◌+◌, ◌*◌, ◌/◌, ◌%◌, ◌^◌, ◌<◌, ◌≤◌, Option, None, Some, IfNone, length, refl, sym, ap, subst, ◌∙◌, arith}
use Rattle.std.specs.Prelude.{slice_index_or, Vec}
use Rattle.std.specs.Global.{Global}
use Rattle.std.specs.Int.{bit_at}
use Rattle.std.specs.Option.{option_map_or}
use Rattle.std.proofs.lemmas.Bool.{cases_eq, cases_lt}
use Rattle.std.proofs.lemmas.Nat.Bits.{bit_at-zero}
use Rattle.std.proofs.lemmas.Option.{slice_get_past}
use Rattle.rr_sender.specs.declared.bit_sets.BitSets.{BitSets}
use Rattle.rr_sender.specs.BitSets.{HasWord, IsColumnAdded, IsFirstFrom, IsNextInWord, has, word_of}
use Rattle.rr_sender.specs.SenderSets.{HasRoom, IsEven, KnowsWords}

-- a word past the last column is empty
past : (b : BitSets) (set index : ℕ) → length b.columns.items ≤ index → word_of b set index ≡ 0
past b set index h = ap (λ o. option_map_or (λ (c : Vec ℕ Global). slice_index_or c.items set 0) o 0) (slice_get_past b.columns.items index h)

-- so one that is not empty is not past it
within : (b : BitSets) (set index : ℕ) → 0 < word_of b set index → index < length b.columns.items
within b set index h = elim (cases_lt index (length b.columns.items)) [ inl lt ↦ lt | inr le ↦ elim (let e = past b set index le in let no : ⊥ = omega (arith, h, e) in no) [ ] ]

-- a set with a member has a word that is not empty
filled_by : (b : BitSets) (set number : ℕ) → has b set number ≡ 1 → 0 < word_of b set (number / 64)
filled_by b set number h = elim (cases_eq (word_of b set (number / 64)) 0) [
  | inl e ↦ elim (let z : bit_at 0 (number % 64) ≡ 0 = bit_at-zero (number % 64) in
      let one : bit_at 0 (number % 64) ≡ 1 = ap (λ w. bit_at w (number % 64)) (sym e) ∙ h in
      let no : ⊥ = omega (arith, z, one) in no) [ ]
  | inr d ↦ omega (arith, d)
]

-- and an empty word has none
empty_has : (b : BitSets) (set number : ℕ) → word_of b set (number / 64) ≡ 0 → has b set number ≡ 0
empty_has b set number e = ap (λ w. bit_at w (number % 64)) e ∙ bit_at-zero (number % 64)

-- whether a word is another one
cases_apart : (s t i j : ℕ) → ((s ≡ t) × (i ≡ j)) ⊎ ((s ≢ t) ⊎ (i ≢ j))
cases_apart s t i j = elim (cases_eq s t) [
  | inl e ↦ elim (cases_eq i j) [ inl f ↦ inl (e, f) | inr d ↦ inr (inr d) ]
  | inr d ↦ inr (inl d)
]

module _ (members words : BitSets) (known : KnowsWords members words) where
  -- one more column
  module _ (sets sender : ℕ) (after : BitSets) (even : IsEven sets members) (new : length members.columns.items ≤ sender / 64)
      (next : sender / 64 ≤ length members.columns.items) (fits : sender < 2 ^ 64) (added : IsColumnAdded sets members after) where
    grown : (noted : BitSets) → ((s i : ℕ) → word_of noted s i ≡ word_of words s i) → ((s i : ℕ) → HasWord words s i → HasWord noted s i)
        → ((s : ℕ) → s < sets → HasWord noted s (length members.columns.items / 64))
        → (length members.columns.items + 1 ≤ 64 * length noted.columns.items) × (64 * length noted.columns.items < length members.columns.items + 1 + 64)
        → KnowsWords after noted
    grown noted same places more many = record {
      noted = λ s i h. ap (λ w. bit_at w (i % 64)) (same s (i / 64)) ∙ known.noted s i (let e = added.words s i in omega (arith, h, e));
      filled = λ s i h. let old = known.filled s i (sym (ap (λ w. bit_at w (i % 64)) (same s (i / 64))) ∙ h) in let e = added.words s i in omega (arith, old, e);
      places = λ s i h. elim (added.back s i h) [
        | inl b ↦ places s (i / 64) (known.places s i b)
        | inr e ↦ subst (λ j. HasWord noted s (j / 64)) (sym e.0) (more s e.1)
      ];
      many = (omega (arith, many.0, added.columns), omega (arith, many.1, added.columns));
      few = omega (arith, added.columns, new, fits);
    }

    pub knows_more : (noted : BitSets) → sender / 64 % 64 ≡ 0 → IsColumnAdded sets words noted → KnowsWords after noted
    knows_more noted whole there =
        let here : length members.columns.items / 64 ≡ length words.columns.items = omega (arith, known.many.0, known.many.1, new, next, whole) in
        grown noted there.words there.places (λ s h. subst (HasWord noted s) (sym here) (there.more s h))
        (omega (arith, known.many.0, there.columns), omega (arith, known.many.1, there.columns, new, next, whole))

    pub knows_as_many : sender / 64 % 64 ≢ 0 → KnowsWords after words
    knows_as_many part =
        let first = length members.columns.items / 64 * 64 in
        let before : first < length members.columns.items = omega (arith, new, next, part) in
        let back : first / 64 ≡ length members.columns.items / 64 = omega arith in
        grown words (λ s i. refl) (λ s i h. h) (λ s h. subst (HasWord words s) back (known.places s first (even s first h before)))
        (omega (arith, known.many.0, before), omega (arith, known.many.1))

    pub room : HasRoom sets sender members after
    room = record {
      same = λ s n. ap (λ w. bit_at w (n % 64)) (added.words s (n / 64));
      even = λ s i h lt. elim (cases_lt i (length members.columns.items)) [
        | inl old ↦ added.places s i (even s i h old)
        | inr le ↦ subst (HasWord after s) (let e : length members.columns.items ≡ i = omega (arith, lt, le, added.columns) in e) (added.more s h)
      ];
      there = omega (arith, added.columns, new, next);
      more = omega (arith, added.columns);
    }

  -- the next member, by the words that are noted
  module _ (set from : ℕ) where
    pub first_here : (n : ℕ) → IsNextInWord members set from (Some n) → IsFirstFrom members set from (Some n)
    first_here n next = (next.0, next.2, next.3)

    module _ (none : IsNextInWord members set from None) where
      -- before a word, if no word between is noted
      between : (word : ℕ) → ((m : ℕ) → from / 64 + 1 ≤ m → m < word → has words set m ≡ 0) → (m : ℕ) → from ≤ m → m / 64 < word → has members set m ≡ 0
      between word skipped m le lt = elim (cases_eq (m / 64) (from / 64)) [
        | inl e ↦ none m le e
        | inr d ↦ empty_has members set m (elim (cases_eq (word_of members set (m / 64)) 0) [
          | inl z ↦ z
          | inr some ↦ elim (let one = known.noted set (m / 64) (omega (arith, some)) in
              let no_bit = skipped (m / 64) (omega (arith, le, d)) lt in
              let no : ⊥ = omega (arith, one, no_bit) in no) [ ]
        ])
      ]

      first_after : (word n : ℕ) → IsFirstFrom words set (from / 64 + 1) (Some word) → IsNextInWord members set (word * 64) (Some n)
          → IsFirstFrom members set from (Some n)
      first_after word n found next = (
        omega (arith, found.0, next.0),
        next.2,
        (λ m le lt. elim (cases_lt (m / 64) word) [
          | inl b ↦ between word found.2 m le b
          | inr b ↦ next.3 m (omega (arith, b)) lt
        ]),
      )

      pub none_after : IsFirstFrom words set (from / 64 + 1) None → IsFirstFrom members set from None
      none_after skipped m le = between (suc (m / 64)) (λ w above below. skipped w above) m le (omega arith)

      -- a word that is noted has a member
      found_after : (word : ℕ) → IsFirstFrom words set (from / 64 + 1) (Some word) → word_of members set (word * 64 / 64) / 2 ^ (word * 64 % 64) ≢ 0
      found_after word found e =
          let some : 0 < word_of members set word = known.filled set word found.1 in
          let i : word * 64 / 64 ≡ word = omega arith in
          let r : word * 64 % 64 ≡ 0 = omega arith in
          let whole : word_of members set word / 2 ^ 0 ≡ word_of members set word = omega arith in
          let empty : word_of members set word ≡ 0 = sym whole
          ∙ ap (λ k. word_of members set word / 2 ^ k) (sym r) ∙ ap (λ j. word_of members set j / 2 ^ (word * 64 % 64)) (sym i) ∙ e in
          omega (arith, some, empty)

      pub word_fits : (word : ℕ) → IsFirstFrom words set (from / 64 + 1) (Some word) → word * 64 < 2 ^ 64
      word_fits word found =
          let lt = within members set word (known.filled set word found.1) in
          omega (arith, lt, known.few)

      pub found_first : (word : ℕ) → IsFirstFrom words set (from / 64 + 1) (Some word) → (r : Option ℕ) → IsNextInWord members set (word * 64) r
          → IfNone r (word_of members set (word * 64 / 64) / 2 ^ (word * 64 % 64) ≡ 0) → IsFirstFrom members set from r
      found_first word found None next empty = elim (found_after word found empty) [ ]
      found_first word found (Some n) next empty = first_after word n found next
