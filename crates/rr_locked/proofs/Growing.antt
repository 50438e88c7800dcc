-- A call more, in a book and in a seat.
use Rattle.std.proofs.Common.{◌≡◌, ℕ, suc, ◌+◌, ◌*◌, ◌^◌, ◌<◌, ◌≤◌, List, [], ◌∷◌, ◌++◌, length, refl, sym, ap, ◌∙◌, subst, arith, length-append}
use Rattle.rr_slots.specs.declared.family.Family.TheVariants.{Typed}
use Rattle.rr_protocol.specs.declared.limits.Limits.{Limits}
use Rattle.rr_locked.specs.Sums.{worth}
use Rattle.rr_locked.proofs.Digits.{worth-append}
use Rattle.rr_locked.specs.declared.receipt.Receipt.{Receipt}
use Rattle.rr_locked.specs.Machine.{HubState, HubCommand, HubReply, Entry, Step, LeadsTo}
use Rattle.rr_run.specs.Numbers.{IsZero, follow_strategy}
use Rattle.rr_locked.specs.Receipts.{entry_number, history_numbers, receipt_numbers, joined}
use Rattle.rr_locked.specs.Seats.{AllBelow, AllAbove, Rises, IsSeat}
use Rattle.rr_locked.specs.Books.{IsKept}
use Rattle.rr_protocol.proofs.Continuing.{leads_on}

zero-right : (n : ℕ) → n + 0 ≡ n
zero-right n = omega arith

zero-left : (n : ℕ) → 0 + n ≡ n
zero-left n = omega arith

suc-right : (m n : ℕ) → m + suc n ≡ m + 1 + n
suc-right m n = omega arith

-- ---- a book
history_worth-push : (place : ℕ) (h : List Entry) (c : HubCommand) (r : HubReply) → worth 84 (history_numbers place (h ++ (c, r) ∷ [])) ≡ worth 84 (history_numbers place h) + 2 ^ (84 * entry_number (place + length h) c r)
history_worth-push place [] c r = let e = ap (λ n. 2 ^ (84 * entry_number n c r)) (zero-right place) in omega arith
history_worth-push place (x ∷ h) c r =
    let k = history_worth-push (place + 1) h c r in
    let e = ap (λ n. 2 ^ (84 * entry_number n c r)) (suc-right place (length h)) in
    omega arith

-- the same book in a state that is the same
pub book-same : (s t : HubState) (limits : Limits) (node_id : ℕ) (h : List Entry) (made total parts amount cut : ℕ)
    → t ≡ s → IsKept s limits node_id h made total parts amount cut → IsKept t limits node_id h made total parts amount cut
book-same s t limits node_id h made total parts amount cut same kept = subst (λ (x : HubState). IsKept x limits node_id h made total parts amount cut) (sym same) kept

pub book-more : (s t : HubState) (limits : Limits) (node_id : ℕ) (h now : List Entry) (c : HubCommand) (r : HubReply) (made total after parts amount cut : ℕ)
    → IsKept s limits node_id h made total parts amount cut → Step s c r t → after ≡ total + 2 ^ (84 * entry_number (length h) c r) → now ≡ h ++ (c, r) ∷ [] → length now < 2 ^ 64
    → IsKept t limits node_id now made after parts amount cut
book-more s t limits node_id h now c r made total after parts amount cut kept step added is few =
    let w = history_worth-push 0 h c r in
    let n = ap (λ es. worth 84 (history_numbers 0 es)) is in
    let e = ap (λ n. 2 ^ (84 * entry_number n c r)) (zero-left (length h)) in
    let k = kept.counted in
    record {
      makes_hub = kept.makes_hub;
      legal = subst (λ (es : List Entry). LeadsTo limits node_id es t) (sym is) (leads_on follow_strategy IsZero IsZero Typed limits node_id h s t c r kept.legal step);
      counted = omega arith;
      left = kept.left;
      seats = kept.seats;
      nothing_else = kept.nothing_else;
      whole = kept.whole;
      few = few;
    }

-- ---- a seat
below-weaker : (m n : ℕ) (rs : List Receipt) → m ≤ n → AllBelow m rs → AllBelow n rs
below-weaker m n [] h b = tt
below-weaker m n (r ∷ rs) h b = let x = b.0 in (omega arith, below-weaker m n rs h b.1)

below-push : (n : ℕ) (rs : List Receipt) (x : Receipt) → AllBelow n rs → x.place < n → AllBelow n (rs ++ x ∷ [])
below-push n [] x b h = (h, tt)
below-push n (r ∷ rs) x b h = (b.0, below-push n rs x b.1 h)

above-push : (n : ℕ) (rs : List Receipt) (x : Receipt) → AllAbove n rs → n < x.place → AllAbove n (rs ++ x ∷ [])
above-push n [] x b h = (h, tt)
above-push n (r ∷ rs) x b h = (b.0, above-push n rs x b.1 h)

rises-push : (rs : List Receipt) (x : Receipt) → Rises rs → AllBelow x.place rs → Rises (rs ++ x ∷ [])
rises-push [] x h b = (tt, tt)
rises-push (r ∷ rs) x h b = (above-push r.place rs x h.0 b.0, rises-push rs x h.1 b.1)

receipt_worth-push : (rs : List Receipt) (x : Receipt) → worth 84 (receipt_numbers (rs ++ x ∷ [])) ≡ worth 84 (receipt_numbers rs) + 2 ^ (84 * entry_number x.place x.command x.reply)
receipt_worth-push [] x = omega arith
receipt_worth-push (r ∷ rs) x = let h = receipt_worth-push rs x in omega arith

pub seat-more : (rs now : List Receipt) (x : Receipt) (next parts same amount after : ℕ)
    → IsSeat rs next parts amount → next ≤ x.place → same ≡ parts → after ≡ amount + 2 ^ (84 * entry_number x.place x.command x.reply) → now ≡ rs ++ x ∷ [] → length now < 2 ^ 64
    → IsSeat now (x.place + 1) same after
seat-more rs now x next parts same amount after seat le p added is few =
    let w = receipt_worth-push rs x in
    let k = seat.counted in
    let q = seat.part in
    let n = ap (λ es. worth 84 (receipt_numbers es)) is in
    let below = below-weaker next x.place rs le seat.below in
    record {
      rises = rw is (rises-push rs x seat.rises below);
      below = rw is (below-push (x.place + 1) rs x (below-weaker x.place (x.place + 1) rs (omega arith) below) (omega arith));
      part = omega arith;
      counted = omega arith;
      few = few;
    }

-- ---- the seats together
receipt_numbers-append : (rs ss : List Receipt) → receipt_numbers (rs ++ ss) ≡ receipt_numbers rs ++ receipt_numbers ss
receipt_numbers-append [] ss = refl
receipt_numbers-append (r ∷ rs) ss = ap (λ ns. entry_number r.place r.command r.reply ∷ ns) (receipt_numbers-append rs ss)

pub first-seat : (before rest : List (List Receipt)) (s inside : List Receipt) → before ≡ s ∷ rest → inside ≡ s
    → (length before ≡ length rest + 1)
    × (worth 84 (receipt_numbers (joined before)) ≡ worth 84 (receipt_numbers inside) + worth 84 (receipt_numbers (joined rest)))
    × (length (joined before) ≡ length inside + length (joined rest))
first-seat before rest s inside is same =
    let first : before ≡ inside ∷ rest = is ∙ ap (λ rs. rs ∷ rest) (sym same) in
    let n = ap length first in (
      omega arith,
      ap (λ rss. worth 84 (receipt_numbers (joined rss))) first ∙ ap (worth 84) (receipt_numbers-append inside (joined rest)) ∙ worth-append 84 (receipt_numbers inside) (receipt_numbers (joined rest)),
      ap (λ rss. length (joined rss)) first ∙ length-append inside (joined rest),
    )
