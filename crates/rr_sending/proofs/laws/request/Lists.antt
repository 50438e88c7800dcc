-- What stands at each key after a request was put into the lists to all servers.
use Rattle.std.proofs.Common.{◌≡◌, ◌≢◌, ℕ, Bool, true, cond, List, Some, map, refl, sym, ap, ◌∙◌}
use Rattle.std.specs.Prelude.{fold, slice_get}
use Rattle.std.specs.declared.cmp.Ordering.{Ordering}
use Rattle.std.specs.declared.cmp.Ordering.TheVariants.{Less, Equal, Greater}
use Rattle.std.specs.Ordering.{eq_by_cmp, is_eq}
use Rattle.std.proofs.lemmas.Bool.{false≢true, false_from_ne_true}
use Rattle.std.proofs.lemmas.Cmp.{eq_by_cmp_equiv}
use Rattle.rr_protocol.specs.Keys.{RequestKey, request_key, request_key_cmp}
use Rattle.rr_protocol.specs.Lists.{Lists, at, with_at}
use Rattle.rr_protocol.specs.Sends.{put}
use Rattle.rr_protocol.proofs.KeyLaws.{request_keys_total, request_keys_exact}
use Rattle.rr_protocol.proofs.ListsLaws.{at-with_at}
use Rattle.rr_store.proofs.base.lists.EachOnce.{IsApart, passed_by, reached}

-- keys that compare alike are one
pub same_key : (a b : RequestKey) → eq_by_cmp request_key_cmp a b ≡ true → a ≡ b
same_key a b e = request_keys_exact a b (tied (request_key_cmp a b) e)
  where
    tied : (o : Ordering) → is_eq o ≡ true → o ≡ Equal
    tied Equal h = refl
    tied Less h = absurd (false≢true h)
    tied Greater h = absurd (false≢true h)

module _ {M : Type 0} (overflow : Bool) (capacity : ℕ) (message : M) where
  abbrev pub step : Lists request_key_cmp M → RequestKey → Lists request_key_cmp M
  step lists key = with_at lists key (put overflow capacity (at lists key) message)

  at_it : (lists : Lists request_key_cmp M) (key : RequestKey) → true ≡ true
      → at (step lists key) key ≡ put overflow capacity (at lists key) message
  at_it lists key _ =
      at-with_at request_keys_total lists key (put overflow capacity (at lists key) message) key
      ∙ ap (λ b. cond b (put overflow capacity (at lists key) message) (at lists key)) ((eq_by_cmp_equiv request_keys_total).refl key)

  at_other : (lists : Lists request_key_cmp M) (key other : RequestKey) → key ≢ other → at (step lists key) other ≡ at lists other
  at_other lists key other n =
      at-with_at request_keys_total lists key (put overflow capacity (at lists key) message) other
      ∙ ap (λ b. cond b (put overflow capacity (at lists key) message) (at lists other))
      (false_from_ne_true (eq_by_cmp request_key_cmp other key) (λ e. n (sym (same_key other key e))))

  module _ {X : Type 0} (client : ℕ) (number : X → ℕ) (xs : List X) (lists : Lists request_key_cmp M) where
    abbrev after : Lists request_key_cmp M
    after = fold step lists (map (λ x. request_key client (number x)) xs)

    -- the list to each server took the request, or was full
    pub listed_here : IsApart number xs → (i : ℕ) (x : X) → slice_get xs i ≡ Some x
        → at after (request_key client (number x)) ≡ put overflow capacity (at lists (request_key client (number x))) message
    listed_here apart i x there =
        reached step (λ key. key) (λ ls key. at ls key) (λ key xs. put overflow capacity xs message) (λ ls key. true ≡ true) at_it at_other
        (λ ls a b h. h)
        (λ x. request_key client (number x)) xs lists (λ j l y z f g e. apart j l y z f g (ap (λ (k : RequestKey). k.server) e)) i x there
        refl

    -- every other list is as it was
    pub listed_there : (key : RequestKey) → ((i : ℕ) (x : X) → slice_get xs i ≡ Some x → request_key client (number x) ≢ key)
        → at after key ≡ at lists key
    listed_there key other =
        passed_by step (λ key. key) (λ ls key. at ls key) (λ key xs. put overflow capacity xs message) (λ ls key. true ≡ true) at_it at_other
        (λ ls a b h. h)
        (λ x. request_key client (number x)) xs lists key other
