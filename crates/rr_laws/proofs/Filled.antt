-- Keys whose lists are not empty, and tests of them.
use Rattle.std.proofs.Common.{◌≡◌, ◌≢◌, Bool, true, false, cond, List, [], ◌∷◌, Option, Some, None, refl, sym, ap, ◌∙◌}
use Rattle.std.specs.Prelude.{◌||◌}
use Rattle.std.specs.List.{list_any}
use Rattle.std.specs.declared.cmp.Ordering.{Ordering}
use Rattle.std.specs.declared.cmp.Ordering.TheVariants.{Less, Equal, Greater}
use Rattle.std.specs.Ordering.{eq_by_cmp, is_eq}
use Rattle.std.specs.Cmp.{IsTotalOrder}
use Rattle.std.specs.FinMap.{IsAntisymmetric, entries, get, get-entries}
use Rattle.std.specs.FinMap.Entries.{find}
use Rattle.std.proofs.lemmas.Bool.{false≢true}
use Rattle.rr_protocol.specs.Lists.{Lists, list_of, at, filled_keys}
use Rattle.rr_table.proofs.ListFacts.{any-map, or_true}
use Rattle.rr_table.proofs.MapFacts.{all_entries}
use Rattle.rr_table.proofs.Members.{any_of_all}

module _ {A : Type 0} {cmp : A → A → Ordering} (exact : IsAntisymmetric cmp) where
  tied : (a b : A) (r : Ordering) → cmp a b ≡ r → is_eq r ≡ true → a ≡ b
  tied a b Equal e h = exact a b e
  tied a b Less e h = absurd (false≢true h)
  tied a b Greater e h = absurd (false≢true h)

  -- keys that compare alike are one
  pub same_key : (a b : A) → eq_by_cmp cmp a b ≡ true → a ≡ b
  same_key a b h = tied a b (cmp a b) refl h

module _ {A X : Type 0} {cmp : A → A → Ordering} (o : IsTotalOrder cmp) (exact : IsAntisymmetric cmp) (t : A → Bool) where
  -- a key that passes has a list that isn't empty
  pub filled_gives : (lists : Lists cmp X) → list_any t (filled_keys lists) ≡ true → (key : A) × (at lists key ≢ []) × (t key ≡ true)
  filled_gives lists h =
      let r = any_of_all (λ (e : A × (X × List X)). t e.0) (entries lists)
      (all_entries o (λ e. get lists e.0 ≡ Some e.1) lists (λ k x e. e))
      (sym (any-map (λ (e : A × (X × List X)). e.0) t (entries lists)) ∙ h) in
      (r.0.0, (λ none. absurd (let f : r.0.1.0 ∷ r.0.1.1 ≡ [] = sym (ap list_of r.1) ∙ none in cc)), r.2)

  found_there : (es : List (A × (X × List X))) (key : A) (kept : X × List X) → find cmp key es ≡ Some kept → t key ≡ true
      → list_any (λ e. t e.0) es ≡ true
  found_there [] key kept e h = absurd (let f : None ≡ Some kept = e in cc)
  found_there (f ∷ es) key kept e h = go (found_there es key kept) (eq_by_cmp cmp key f.0) refl e
    where
      go : (find cmp key es ≡ Some kept → t key ≡ true → list_any (λ e. t e.0) es ≡ true) → (b : Bool) → eq_by_cmp cmp key f.0 ≡ b
          → cond b (Some f.1) (find cmp key es) ≡ Some kept → (t f.0 || list_any (λ e. t e.0) es) ≡ true
      go rest true alike e = ap (λ b. b || list_any (λ e. t e.0) es) (ap t (sym (same_key exact key f.0 alike)) ∙ h)
      go rest false alike e = or_true (t f.0) (list_any (λ e. t e.0) es) (rest e h)

  -- and a key whose list isn't empty is found if it passes
  pub filled_there : (lists : Lists cmp X) (key : A) → at lists key ≢ [] → t key ≡ true → list_any t (filled_keys lists) ≡ true
  filled_there lists key some h = any-map (λ (e : A × (X × List X)). e.0) t (entries lists) ∙ go (get lists key) refl
    where
      go : (kept : Option (X × List X)) → get lists key ≡ kept → list_any (λ (e : A × (X × List X)). t e.0) (entries lists) ≡ true
      go None e = absurd (some (ap list_of e))
      go (Some kept) e = found_there (entries lists) key kept (sym (get-entries lists key) ∙ e) h
