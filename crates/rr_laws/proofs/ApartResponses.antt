-- Responses stay apart as one is sent or received.
use Rattle.std.proofs.Common.{◌≡◌, ℕ, suc, zero, ◌+◌, ◌<◌, ◌≤◌, Bool, true, false, cond, not, eqb, List, [], ◌∷◌, ◌++◌, drop, Some, None, refl, sym, ap, ◌∙◌, subst, ⊎_elim, inl, inr, arith}
use Rattle.std.specs.Prelude.{◌≢◌, ◌⊎◌, count_by}
use Rattle.std.specs.declared.cmp.Ordering.{Ordering}
use Rattle.std.specs.declared.cmp.Ordering.TheVariants.{Less, Equal, Greater}
use Rattle.std.specs.Ordering.{is_eq}
use Rattle.std.specs.FinMap.{get, insert, remove}
use Rattle.std.proofs.lemmas.Bool.{cases_eq, ne_eqb, eq-eqb}
use Rattle.rr_table.specs.Maps.{mark}
use Rattle.rr_table.proofs.MapLaws.{get-insert_other, get-remove_same, get-remove_other}
use Rattle.rr_protocol.specs.Lists.{Lists, at, with_at}
use Rattle.rr_protocol.specs.Keys.{ResponseKey, response_key_cmp}
use Rattle.rr_protocol.specs.Messages.{ResponseMessage}
use Rattle.rr_protocol.specs.Sends.{is_full, put}
use Rattle.rr_protocol.proofs.KeyLaws.{response_keys_total, response_keys_exact}
use Rattle.rr_protocol.proofs.ListsLaws.{at-with_at}
use Rattle.rr_laws.specs.Roles.{Role, Roles}
use Rattle.rr_laws.specs.Apart.{standing, ResponsesApart}
use Rattle.rr_table.proofs.Counting.{count-cons, count-append}
use Rattle.rr_table.proofs.MapFacts.{itself}
use Rattle.rr_laws.proofs.Putting.{shrinks_taken}
use Rattle.rr_laws.proofs.Apart.{count-drop, standing_shrinks}

-- a message that comes to a list adds one at most
pub count-put : {X : Type 0} (p : X → Bool) (overflow : Bool) (capacity : ℕ) (entries : List X) (x : X)
    → count_by p (put overflow capacity entries x) ≤ count_by p entries + mark (p x)
count-put p overflow capacity entries x = go (is_full capacity entries) overflow
  where
    go : (full over : Bool) → count_by p (cond (not full) (entries ++ x ∷ []) (cond over (drop 1 entries ++ x ∷ []) entries))
        ≤ count_by p entries + mark (p x)
    go false over = omega (arith, count-append p entries (x ∷ []), count-cons p x [])
    go true true = omega (arith, count-append p (drop 1 entries) (x ∷ []), count-cons p x [], count-drop p 1 entries)
    go true false = omega arith

module _ {T H : Type 0} (lists : Lists response_key_cmp (ResponseMessage T H)) (key : ResponseKey) (overflow : Bool) (capacity : ℕ)
    (message : ResponseMessage T H) where
  after_put : Lists response_key_cmp (ResponseMessage T H)
  after_put = with_at lists key (put overflow capacity (at lists key) message)

  -- after a message came to a list, only that list may have one more, and of its number alone
  standing_put : (number : ℕ) (k : ResponseKey) → (standing after_put number k ≤ standing lists number k)
      ⊎ ((k ≡ key) × (standing after_put number k ≤ standing lists number k + mark (eqb message.number number)))
  unfolding after_put
  standing_put number k = go (response_key_cmp k key) refl
    where
      entries : List (ResponseMessage T H)
      entries = put overflow capacity (at lists key) message

      changed : at (with_at lists key entries) k ≡ cond (is_eq (response_key_cmp k key)) entries (at lists k)
      changed = at-with_at response_keys_total lists key entries k

      count : List (ResponseMessage T H) → ℕ
      count xs = count_by (λ m. eqb m.number number) xs

      go : (r : Ordering) → response_key_cmp k key ≡ r →
          (count (at (with_at lists key entries) k) ≤ count (at lists k))
          ⊎ ((k ≡ key) × (count (at (with_at lists key entries) k) ≤ count (at lists k) + mark (eqb message.number number)))
      go Less e = inl (omega (arith, ap count (changed ∙ ap (λ r. cond (is_eq r) entries (at lists k)) e)))
      go Greater e = inl (omega (arith, ap count (changed ∙ ap (λ r. cond (is_eq r) entries (at lists k)) e)))
      go Equal e =
          let same = response_keys_exact k key e in
          inr (
            same,
            omega (
              arith,
              ap count (changed ∙ ap (λ r. cond (is_eq r) entries (at lists k)) e),
              ap (λ j. count (at lists j)) same,
              count-put (λ m. eqb m.number number) overflow capacity (at lists key) message,
            ),
          )

  -- a response that goes from its handle to a list
  pub sent_apart : (roles : Roles) (role : Role) → get roles message.number ≡ Some role → ResponsesApart roles lists
      → ResponsesApart (remove roles message.number) (with_at lists key (put overflow capacity (at lists key) message))
  unfolding after_put
  sent_apart roles role here apart =
      record {
        once = λ number k. ⊎_elim
            (λ same. ⊎_elim (λ less. omega (arith, less, apart.once number k))
            (λ more. omega (arith, more.1, none number k same, mark_le (eqb message.number number))) (standing_put number k))
            (λ other. omega (arith, old number k other, apart.once number k))
            (cases_eq number message.number);
        one_list = λ number k j a b. ⊎_elim
            (λ same. at_key number k same a ∙ sym (at_key number j same b))
            (λ other. apart.one_list number k j (omega (arith, old number k other, a)) (omega (arith, old number j other, b)))
            (cases_eq number message.number);
        no_handle = λ number k a. ⊎_elim
            (λ same. get-remove_same roles message.number number same)
            (λ other. get-remove_other roles message.number number other ∙ apart.no_handle number k (omega (arith, old number k other, a)))
            (cases_eq number message.number);
      }
    where
      mark_le : (b : Bool) → mark b ≤ 1
      mark_le true = omega arith
      mark_le false = omega arith

      zero_or : (n : ℕ) → (0 < n → ⊥) → n ≡ 0
      zero_or zero h = refl
      zero_or (suc n) h = absurd (h (omega arith))

      none : (number : ℕ) (k : ResponseKey) → number ≡ message.number → standing lists number k ≡ 0
      none number k same = zero_or (standing lists number k)
          (λ some. absurd (let f : None ≡ Some role = sym (apart.no_handle number k some) ∙ ap (get roles) same ∙ here in cc))

      at_key : (number : ℕ) (k : ResponseKey) → number ≡ message.number → 0 < standing after_put number k → k ≡ key
      at_key number k same some = ⊎_elim (λ less. absurd (omega (arith, less, some, none number k same))) (λ more. more.0)
          (standing_put number k)

      old : (number : ℕ) (k : ResponseKey) → number ≢ message.number → standing after_put number k ≤ standing lists number k
      old number k other = ⊎_elim (λ less. less) (λ more. omega
          (arith, more.1, ap mark (ne_eqb message.number number (λ e. other (sym e))))) (standing_put number k)

-- a response that goes from its list to a handle
pub taken_apart : {T H : Type 0} (lists : Lists response_key_cmp (ResponseMessage T H)) (key : ResponseKey) (message : ResponseMessage T H)
    (rest : List (ResponseMessage T H)) → at lists key ≡ message ∷ rest →
    (roles : Roles) (role : Role) → ResponsesApart roles lists → ResponsesApart (insert roles message.number role) (with_at lists key rest)
taken_apart {T} {H} lists key message rest first roles role apart =
    record {
      once = λ number k. omega (arith, fewer number k, apart.once number k);
      one_list = λ number k j a b. apart.one_list number k j (omega (arith, fewer number k, a)) (omega (arith, fewer number j, b));
      no_handle = λ number k a. ⊎_elim
          (λ same. absurd (gone number k same a))
          (λ other. get-insert_other roles message.number role number other ∙ apart.no_handle number k (omega (arith, fewer number k, a)))
          (cases_eq number message.number);
    }
  where
    fewer : (number : ℕ) (k : ResponseKey) → standing (with_at lists key rest) number k ≤ standing lists number k
    fewer = standing_shrinks lists (with_at lists key rest) (shrinks_taken response_keys_total response_keys_exact lists key message rest
        first)

    count : ℕ → List (ResponseMessage T H) → ℕ
    count number xs = count_by (λ m. eqb m.number number) xs

    was : (number : ℕ) → number ≡ message.number → count number (at lists key) ≡ 1 + count number rest
    was number same = ap (count number) first ∙ count-cons (λ (m : ResponseMessage T H). eqb m.number number) message rest
        ∙ ap (λ b. mark b + count number rest) (eq-eqb message.number number (sym same))

    is : (number : ℕ) → count number (at (with_at lists key rest) key) ≡ count number rest
    is number = ap (count number) (at-with_at response_keys_total lists key rest key
        ∙ ap (λ b. cond b rest (at lists key)) (itself response_keys_total key))

    gone : (number : ℕ) (k : ResponseKey) → number ≡ message.number → 0 < standing (with_at lists key rest) number k → ⊥
    gone number k same a =
        let there : 0 < standing lists number k = omega (arith, fewer number k, a) in
        let here : 0 < standing lists number key = omega (arith, was number same) in
        let k_is : k ≡ key = apart.one_list number k key there here in
        let left : 0 < standing (with_at lists key rest) number key = subst (λ j. 0 < standing (with_at lists key rest) number j) k_is a in
        omega (arith, left, is number, was number same, apart.once number key)
