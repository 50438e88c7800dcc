-- What stands at each key after a change, and that lists which agree at each key are equal.
use Rattle.std.proofs.Common.{◌≡◌, ◌||◌, Bool, true, false, cond, List, [], ◌∷◌, Option, Some, None, refl, sym, ap, ◌∙◌}
use Rattle.std.specs.declared.cmp.Ordering.{Ordering}
use Rattle.std.specs.Ordering.{eq_by_cmp, is_eq}
use Rattle.std.specs.declared.cmp.Ordering.TheVariants.{Less, Equal, Greater}
use Rattle.std.specs.List.{list_any}
use Rattle.std.specs.Cmp.{IsTotalOrder}
use Rattle.std.specs.FinMap as fin_map
use Rattle.rr_protocol.specs.Lists.{Lists, list_of, at, with_at, no_lists, lists_by}

module _ {X : Type 0} where
  -- the option that a list is kept as
  kept_of : List X → Option (X × List X)
  kept_of [] = None
  kept_of (x ∷ xs) = Some (x, xs)

  kept_of-list_of : (kept : Option (X × List X)) → kept_of (list_of kept) ≡ kept
  unfolding kept_of
  kept_of-list_of None = refl
  kept_of-list_of (Some kept) = refl

  list_of-cond : (b : Bool) (kept other : Option (X × List X)) → list_of (cond b kept other) ≡ cond b (list_of kept) (list_of other)
  list_of-cond true kept other = refl
  list_of-cond false kept other = refl

module _ {A X : Type 0} (cmp : A → A → Ordering) where
  pub at-no_lists : (key : A) → at {X = X} {cmp = cmp} no_lists key ≡ []
  at-no_lists key = ap list_of (fin_map.get-empty cmp key)

module _ {A X : Type 0} {cmp : A → A → Ordering} where
  module _ (o : IsTotalOrder cmp) where
    pub at-with_at : (lists : Lists cmp X) (key : A) (xs : List X) (other : A)
        → at (with_at lists key xs) other ≡ cond (eq_by_cmp cmp other key) xs (at lists other)
    at-with_at lists key [] other = ap list_of (fin_map.get-remove o lists key other) ∙ list_of-cond (eq_by_cmp cmp other key) None _
    at-with_at lists key (x ∷ xs) other = ap list_of (fin_map.get-insert o lists key (x, xs) other)
        ∙ list_of-cond (eq_by_cmp cmp other key) (Some (x, xs)) _

    pub same_lists : fin_map.IsAntisymmetric cmp → (m n : Lists cmp X) → ((key : A) → at m key ≡ at n key) → m ≡ n
    same_lists exact m n same =
        fin_map.same_map o exact m n (λ key.
        sym (kept_of-list_of (fin_map.get m key)) ∙ ap kept_of (same key) ∙ kept_of-list_of (fin_map.get n key))

    pub at-retain_keys : fin_map.IsAntisymmetric cmp → (lists : Lists cmp X) (p : A → Bool) (key : A)
        → at (fin_map.retain_keys lists p) key ≡ cond (p key) (at lists key) []
    at-retain_keys exact lists p key =
        ap list_of (fin_map.get-retain_keys lists p key (λ x e. ap p (sym (exact key x e))))
        ∙ list_of-cond (p key) (fin_map.get lists key) None

    pub at-lists_by : fin_map.IsAntisymmetric cmp → (keys : List A) (f : A → List X) (key : A)
        → at (lists_by {cmp = cmp} keys f) key ≡ cond (list_any (eq_by_cmp cmp key) keys) (f key) []
    at-lists_by exact [] f key = at-no_lists cmp key
    at-lists_by exact (k ∷ keys) f key =
        at-with_at (lists_by keys f) k (f k) key ∙ ap (cond (eq_by_cmp cmp key k) (f k)) (at-lists_by exact keys f key)
        ∙ of_key (cmp key k) (λ e. sym (exact key k e)) (list_any (eq_by_cmp cmp key) keys)
      where
        of_key : (r : Ordering) → (r ≡ Equal → k ≡ key) → (b : Bool)
            → cond (is_eq r) (f k) (cond b (f key) []) ≡ cond (is_eq r || b) (f key) []
        of_key Less same b = refl
        of_key Equal same b = ap f (same refl)
        of_key Greater same b = refl
