-- What stands in the lists after a request came to those of some keys, none of which overflows.
use Rattle.std.proofs.Common.{◌≡◌, ℕ, Bool, true, false, cond, not, List, [], ◌∷◌, ◌++◌, refl, ap, ◌∙◌, subst}
use Rattle.std.specs.Prelude.{◌≢◌, fold}
use Rattle.std.specs.List.{AllByRecursion, list_any}
use Rattle.std.specs.declared.cmp.Ordering.{Ordering}
use Rattle.std.specs.declared.cmp.Ordering.TheVariants.{Less, Equal, Greater}
use Rattle.std.specs.Ordering.{is_eq}
use Rattle.std.specs.Cmp.{IsTotalOrder}
use Rattle.std.specs.FinMap as fin_map
use Rattle.rr_table.proofs.ListFacts.{any-append}
use Rattle.rr_table.proofs.MapFacts.{itself}
use Rattle.rr_protocol.specs.Lists.{Lists, at, with_at}
use Rattle.rr_protocol.specs.Sends.{is_full, put}
use Rattle.rr_protocol.proofs.ListsLaws.{at-with_at}

module _ {A X : Type 0} {cmp : A → A → Ordering} (o : IsTotalOrder cmp) (exact : fin_map.IsAntisymmetric cmp) (capacity : ℕ) (message : X) where
  -- the lists after it
  abbrev pub puts : Lists cmp X → List A → Lists cmp X
  puts lists keys = fold (λ ls key. with_at ls key (put false capacity (at ls key) message)) lists keys

  -- what a full list that may not overflow has stays, and a message comes to one with room
  any_put : (t : X → Bool) (entries : List X) → list_any t entries ≡ true → list_any t (put false capacity entries message) ≡ true
  any_put t entries there = go (is_full capacity entries)
    where
      go : (full : Bool) → list_any t (cond (not full) (entries ++ message ∷ []) (cond false entries entries)) ≡ true
      go false = any-append t entries (message ∷ []) there
      go true = there

  -- what stands in a list stands there then
  pub any_puts : (t : X → Bool) (k : A) (keys : List A) (lists : Lists cmp X) → list_any t (at lists k) ≡ true
      → list_any t (at (puts lists keys) k) ≡ true
  any_puts t k [] lists there = there
  any_puts t k (key ∷ keys) lists there = any_puts t k keys (with_at lists key (put false capacity (at lists key) message)) (
      ap (list_any t) (at-with_at o lists key (put false capacity (at lists key) message) k) ∙ go (cmp k key) refl)
    where
      go : (r : Ordering) → cmp k key ≡ r → list_any t (cond (is_eq r) (put false capacity (at lists key) message) (at lists k)) ≡ true
      go Less e = there
      go Equal e = any_put t (at lists key) (subst (λ j. list_any t (at lists j) ≡ true) (exact k key e) there)
      go Greater e = there

  -- the lists of other keys are as they were
  pub puts_elsewhere : (k : A) (keys : List A) → AllByRecursion (λ key. k ≢ key) keys → (lists : Lists cmp X)
      → at (puts lists keys) k ≡ at lists k
  puts_elsewhere k [] other lists = refl
  puts_elsewhere k (key ∷ keys) other lists =
      puts_elsewhere k keys other.1 (with_at lists key (put false capacity (at lists key) message))
      ∙ at-with_at o lists key (put false capacity (at lists key) message) k ∙ go (cmp k key) refl
    where
      go : (r : Ordering) → cmp k key ≡ r → cond (is_eq r) (put false capacity (at lists key) message) (at lists k) ≡ at lists k
      go Less e = refl
      go Equal e = absurd (other.0 (exact k key e))
      go Greater e = refl

  -- and to the last key's list it came once
  pub puts_last : (k : A) (keys : List A) → AllByRecursion (λ key. k ≢ key) keys → (lists : Lists cmp X)
      → at (puts lists (keys ++ k ∷ [])) k ≡ put false capacity (at lists k) message
  puts_last k [] other lists =
      at-with_at o lists k (put false capacity (at lists k) message) k
      ∙ ap (λ b. cond b (put false capacity (at lists k) message) (at lists k)) (itself o k)
  puts_last k (key ∷ keys) other lists =
      puts_last k keys other.1 (with_at lists key (put false capacity (at lists key) message))
      ∙ ap (λ xs. put false capacity xs message) (puts_elsewhere k (key ∷ []) (other.0, tt) lists)
