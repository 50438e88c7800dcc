-- Where all receipts of all seats are counted, they are the entries of the history.
use Rattle.std.proofs.Common.{◌≡◌, ℕ, suc, ◌+◌, ◌^◌, ◌<◌, ◌≤◌, List, [], ◌∷◌, length, Bool, cond, Some, refl, sym, ap, ◌∙◌, inl, inr, arith}
use Rattle.std.specs.Prelude.{◌==◌, slice_get}
use Rattle.std.proofs.lemmas.Bool.{cases_Bool, eqb-true, eq-eqb, ne_eqb}
use Rattle.rr_locked.specs.Numbers.{number-same}
use Rattle.rr_locked.specs.Sums.{times, worth}
use Rattle.rr_locked.proofs.Digits.{multiset-same, length-same}
use Rattle.rr_protocol.specs.declared.limits.Limits.{Limits}
use Rattle.rr_locked.specs.declared.receipt.Receipt.{Receipt}
use Rattle.rr_locked.specs.Machine.{HubCommand, HubReply, Entry}
use Rattle.rr_locked.specs.Receipts.{mark_code, entry_number, opening_number, history_numbers, receipt_numbers}
use Rattle.rr_locked.specs.Books.{start, log, AllStand, NoneAt, AreApart, IsWhole}

-- ---- the numbers tell what they count
entry-same : (p q : ℕ) (c d : HubCommand) (r s : HubReply) → entry_number p c r ≡ entry_number q d s → ◌≡◌ {A = ℕ × Entry} (p, (c, r)) (q, (d, s))
unfolding entry_number
entry-same p q c d r s e = let m = number-same mark_code (inr (p, (c, r))) (inr (q, (d, s))) e in cc

opening-same : (l m : Limits) (a b : ℕ) → opening_number l a ≡ opening_number m b → ◌≡◌ {A = Limits × ℕ} (l, a) (m, b)
unfolding opening_number
opening-same l m a b e = let k = number-same mark_code (inl (l, a)) (inl (m, b)) e in cc

apart : (l : Limits) (a p : ℕ) (c : HubCommand) (r : HubReply) → opening_number l a ≡ entry_number p c r → ⊥
unfolding entry_number opening_number
apart l a p c r e = let k = number-same mark_code (inl (l, a)) (inr (p, (c, r))) e in cc

zero-left : (n : ℕ) → 0 + n ≡ n
zero-left n = omega arith

abbrev once : Bool → ℕ
once t = cond t 1 0

same-once : (a b : ℕ) → a ≡ b → once (a == b) ≡ 1
same-once a b e = ap once (eq-eqb a b e)

other-once : (a b : ℕ) → (a ≡ b → ⊥) → once (a == b) ≡ 0
other-once a b e = ap once (ne_eqb a b e)

-- ---- a history
-- a number that a history counts is that of an entry
abbrev Found : ℕ → ℕ → List Entry → Type 0
Found n place h = (k : ℕ) × (e : Entry) × (slice_get h k ≡ Some e) × (n ≡ entry_number (place + k) e.0 e.1)

find : (n place : ℕ) (h : List Entry) → 0 < times n (history_numbers place h) → Found n place h
find n place [] some = absurd (omega arith)
find n place (x ∷ h) some =
    elim (cases_Bool (entry_number place x.0 x.1 == n)) [
      | inl e ↦ let z : place ≡ place + 0 = omega arith in (0, x, refl, sym (eqb-true _ n e) ∙ ap (λ (p : ℕ). entry_number p x.0 x.1) z)
      | inr e ↦
          let t = ap once e in
          let r = find n (place + 1) h (omega arith) in
          let z : place + 1 + r.0 ≡ place + suc r.0 = omega arith in
          (suc r.0, r.1, r.2, r.3 ∙ ap (λ (p : ℕ). entry_number p r.1.0 r.1.1) z)
    ]

none-before : (p : ℕ) (c : HubCommand) (r : HubReply) (place : ℕ) (h : List Entry) → p < place → times (entry_number p c r) (history_numbers place h) ≡ 0
none-before p c r place [] less = refl
none-before p c r place (x ∷ h) less =
    let rest = none-before p c r (place + 1) h (omega arith) in
    let here = other-once (entry_number place x.0 x.1) (entry_number p c r) (λ e. let q = ap (λ t. t.0) (entry-same place p x.0 c x.1 r e) in absurd (omega arith)) in
    omega arith

at-most-once : (p : ℕ) (c : HubCommand) (r : HubReply) (place : ℕ) (h : List Entry) → times (entry_number p c r) (history_numbers place h) ≤ 1
at-most-once p c r place [] = omega arith
at-most-once p c r place (x ∷ h) =
    elim (cases_Bool (entry_number place x.0 x.1 == entry_number p c r)) [
      | inl e ↦
          let t = ap once e in
          let q = ap (λ t. t.0) (entry-same place p x.0 c x.1 r (eqb-true _ _ e)) in
          let rest = none-before p c r (place + 1) h (omega arith) in
          omega arith
      | inr e ↦ let t = ap once e in let rest = at-most-once p c r (place + 1) h in omega arith
    ]

-- ---- receipts, none of which is counted more often than its entry
abbrev Counted : List Entry → List Receipt → Type 0
Counted h rs = (p : ℕ) (c : HubCommand) (r : HubReply) → times (entry_number p c r) (receipt_numbers rs) ≤ times (entry_number p c r) (history_numbers 0 h)

counted-rest : (h : List Entry) (x : Receipt) (rs : List Receipt) → Counted h (x ∷ rs) → Counted h rs
counted-rest h x rs all p c r = let k = all p c r in omega arith

all-stand : (h : List Entry) (rs : List Receipt) → Counted h rs → AllStand h rs
all-stand h [] all = tt
all-stand h (x ∷ rs) all =
    let n = entry_number x.place x.command x.reply in
    let here = same-once n n refl in
    let k = all x.place x.command x.reply in
    let f = find n 0 h (omega arith) in
    let e = entry-same x.place (0 + f.0) x.command f.1.0 x.reply f.1.1 f.3 in
    let at : x.place ≡ f.0 = ap (λ t. t.0) e ∙ zero-left f.0 in
    (ap (slice_get h) at ∙ f.2 ∙ ap Some (sym (ap (λ t. t.1) e)), all-stand h rs (counted-rest h x rs all))

some-same : (a b : Entry) → Some a ≡ Some b → a ≡ b
some-same a b e = cc

none-at : (h : List Entry) (place : ℕ) (c : HubCommand) (r : HubReply) (rs : List Receipt) → slice_get h place ≡ Some (c, r) → AllStand h rs → times (entry_number place c r) (receipt_numbers rs) ≡ 0 → NoneAt place rs
none-at h place c r [] at stand none = tt
none-at h place c r (x ∷ rs) at stand none = (
  (λ same.
      let e : Some (x.command, x.reply) ≡ Some (c, r) = sym stand.0 ∙ ap (slice_get h) same ∙ at in
      let f : ◌≡◌ {A = Entry} (x.command, x.reply) (c, r) = some-same (x.command, x.reply) (c, r) e in
      let n : entry_number x.place x.command x.reply ≡ entry_number place c r = λ i. entry_number (same i) (f i).0 (f i).1 in
      let t = same-once _ _ n in
      absurd (omega arith)),
  none-at h place c r rs at stand.1 (omega arith),
)

are-apart : (h : List Entry) (rs : List Receipt) → Counted h rs → AreApart rs
are-apart h [] all = tt
are-apart h (x ∷ rs) all =
    let n = entry_number x.place x.command x.reply in
    let stand = all-stand h (x ∷ rs) all in
    let here = same-once n n refl in
    let k = all x.place x.command x.reply in
    let most = at-most-once x.place x.command x.reply 0 h in
    (none-at h x.place x.command x.reply rs stand.0 stand.1 (omega arith), are-apart h rs (counted-rest h x rs all))

length-receipt_numbers : (rs : List Receipt) → length (receipt_numbers rs) ≡ length rs
length-receipt_numbers [] = refl
length-receipt_numbers (r ∷ rs) = ap suc (length-receipt_numbers rs)

length-history_numbers : (place : ℕ) (h : List Entry) → length (history_numbers place h) ≡ length h
length-history_numbers place [] = refl
length-history_numbers place (e ∷ h) = ap suc (length-history_numbers (place + 1) h)

-- ---- the whole
pub whole : (limits mine : Limits) (node my_node : ℕ) (h : List Entry) (rs : List Receipt) (made : ℕ) → length h + 1 < 2 ^ 84 → length rs + 1 < 2 ^ 84
    → worth 84 (opening_number mine my_node ∷ receipt_numbers rs) ≡ worth 84 (opening_number limits node ∷ history_numbers 0 h)
    → IsWhole (start mine my_node) rs (log limits node h made)
whole limits mine node my_node h rs made few-entries few-receipts sums =
    let ns = receipt_numbers rs in
    let hs = history_numbers 0 h in
    let a = length-receipt_numbers rs in
    let b = length-history_numbers 0 h in
    let same : (c : ℕ) → times c (opening_number mine my_node ∷ ns) ≡ times c (opening_number limits node ∷ hs) = multiset-same 84 (opening_number mine my_node ∷ ns) (opening_number limits node ∷ hs) (omega arith) (omega arith) sums in
    let all : Counted h rs = λ p c r.
    let k = same (entry_number p c r) in
    let x = other-once (opening_number mine my_node) (entry_number p c r) (apart mine my_node p c r) in
    let y = other-once (opening_number limits node) (entry_number p c r) (apart limits node p c r) in
    omega arith in
    let lengths = length-same (opening_number mine my_node ∷ ns) (opening_number limits node ∷ hs) same in
    let opening : ◌≡◌ {A = Limits × ℕ} (limits, node) (mine, my_node) = elim (cases_Bool (opening_number limits node == opening_number mine my_node)) [
      | inl e ↦ opening-same limits mine node my_node (eqb-true _ _ e)
      | inr e ↦
          let t = ap once e in
          let k = same (opening_number mine my_node) in
          let x = same-once (opening_number mine my_node) (opening_number mine my_node) refl in
          let f = find (opening_number mine my_node) 0 h (omega arith) in
          absurd (apart mine my_node (0 + f.0) f.1.0 f.1.1 f.3)
    ] in
    record { stand = all-stand h rs all; apart = are-apart h rs all; as_many = omega arith; same_limits = ap (λ p. p.0) opening; same_node = ap (λ p. p.1) opening }
