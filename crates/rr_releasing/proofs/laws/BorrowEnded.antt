-- A receiver has one message less from a channel, and the message's slot is held once less.
use Rattle.std.proofs.Common.{◌≡◌, ◌<◌, ◌≤◌, ◌+◌, ◌-◌, ℕ, List, [], length, get_or, sym, ap, ◌∙◌, ⊎_elim, arith}
use Rattle.std.specs.Prelude.{◌==◌, ◌&&◌, slice_index_or, slice_set}
use Rattle.std.proofs.lemmas.Bool.{cases_eq, cases_lt, eq-eqb, ne_eqb}
use Rattle.std.proofs.lemmas.List.{get_or-set_same, get_or-set_other, get_or_past, length-set}
use Rattle.rr_table.specs.Maps.{mark}
use Rattle.rr_sender.specs.Senders.{at_two, set_two, borrowed_at}
use Rattle.rr_sender.proofs.EntryLaws.{length-set_two}
use Rattle.rr_store.specs.Parts.{Sender}
use Rattle.rr_store.specs.Views.{sender_of}
use Rattle.rr_releasing.proofs.laws.GivenBack.{senders_less, there_is, here_is}
use Rattle.rr_store.proofs.base.lists.Replaced.{set_alike}
use Rattle.rr_store.proofs.base.lookups.Shown.{held_within}

module _ (rows : List (List ℕ)) (i j : ℕ) where
  -- the counts with one less at a receiver
  abbrev pub one_less : List (List ℕ)
  one_less = set_two rows i j (at_two 0 rows i j - 1)

  abbrev new_row : List ℕ
  new_row = slice_set (get_or rows i []) j (at_two 0 rows i j - 1)

  -- as many rows, of the same lengths
  pub less_rows : length one_less ≡ length rows
  less_rows = length-set_two rows i j (at_two 0 rows i j - 1)

  pub less_row : (r : ℕ) → length (slice_index_or one_less r []) ≡ length (slice_index_or rows r [])
  less_row r = set_alike rows i new_row [] length (length-set (get_or rows i []) j (at_two 0 rows i j - 1)) r

  module _ (some : 0 < at_two 0 rows i j) where
    -- the receiver is there
    pub column_there : j < length (get_or rows i [])
    column_there = held_within (get_or rows i []) j some

    pub row_there : i < length rows
    row_there =
        ⊎_elim (λ h. h)
        (λ h. absurd (omega (arith, some, ap (λ (row : List ℕ). get_or row j 0) (get_or_past rows i [] h))))
        (cases_lt i (length rows))

    -- that receiver has one less, and every other as many
    pub less_at : (r q : ℕ) → at_two 0 one_less r q + mark (i == r && j == q) ≡ at_two 0 rows r q
    less_at r q =
        ⊎_elim
        (λ e. let row : get_or one_less r [] ≡ new_row = sym (ap (λ r. get_or one_less r []) e)
        ∙ get_or-set_same rows i new_row [] row_there in
        ⊎_elim
        (λ f. omega (
          arith,
          some,
          ap (λ (row : List ℕ). get_or row q 0) row,
          sym (ap (λ q. get_or new_row q 0) f) ∙ get_or-set_same (get_or rows i []) j (at_two 0 rows i j - 1) 0 column_there,
          ap (λ r. at_two 0 rows r q) e,
          ap (λ q. at_two 0 rows i q) f,
          ap mark (λ k. eq-eqb i r e k && eq-eqb j q f k),
        ))
        (λ n. omega (
          arith,
          ap (λ (row : List ℕ). get_or row q 0) row,
          get_or-set_other (get_or rows i []) j q (at_two 0 rows i j - 1) 0 (λ f. n (sym f)),
          ap (λ r. at_two 0 rows r q) e,
          ap mark (λ k. eq-eqb i r e k && ne_eqb j q n k),
        ))
        (cases_eq j q))
        (λ n. omega (
          arith,
          ap (λ (row : List ℕ). get_or row q 0) (get_or-set_other rows i r new_row [] (λ e. n (sym e))),
          ap (λ b. mark (b && j == q)) (ne_eqb i r n),
        ))
        (cases_eq i r)

module _ {T N H : Type 0} (senders : List (Sender T N H)) (sender slot receiver channel loans pendings : ℕ)
    (there : sender < length senders)
    (held : 0 < slice_index_or (sender_of sender senders).messages.held slot 0)
    (some : 0 < borrowed_at (sender_of sender senders).messages receiver channel) where
  abbrev rows : List (List ℕ)
  rows = (sender_of sender senders).messages.borrowed

  abbrev after : List (Sender T N H)
  after = senders_less senders sender slot (one_less rows receiver channel) loans pendings

  -- one receiver has one less from one channel of one sender
  pub borrowed_less : (l r q : ℕ) → borrowed_at (sender_of l after).messages r q + mark
      (sender == l && (receiver == r && channel == q)) ≡ borrowed_at (sender_of l senders).messages r q
  borrowed_less l r q =
      ⊎_elim
      (λ e. omega (
        arith,
        ap (λ (x : Sender T N H). borrowed_at x.messages r q) (sym (ap (λ l. sender_of l after) e)
            ∙ here_is senders sender slot (one_less rows receiver channel) loans pendings there held),
        less_at rows receiver channel some r q,
        ap (λ l. borrowed_at (sender_of l senders).messages r q) e,
        ap (λ b. mark (b && (receiver == r && channel == q))) (eq-eqb sender l e),
      ))
      (λ n. omega (
        arith,
        ap (λ (x : Sender T N H). borrowed_at x.messages r q) (there_is senders sender slot
            (one_less rows receiver channel) loans pendings l n),
        ap (λ b. mark (b && (receiver == r && channel == q))) (ne_eqb sender l n),
      ))
      (cases_eq sender l)

  -- so none has more
  pub borrowed_le : (l r q : ℕ) → borrowed_at (sender_of l after).messages r q ≤ borrowed_at (sender_of l senders).messages r q
  borrowed_le l r q = omega (arith, borrowed_less l r q)
