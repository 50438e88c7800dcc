-- A map of which one entry changed and came back, while another one came and went.
use Rattle.std.proofs.Common.{◌≡◌, ◌≢◌, ℕ, None, Some, refl, sym, ap, ◌∙◌, ⊎_elim}
use Rattle.std.specs.Cmp.{nat_cmp_total}
use Rattle.std.specs.FinMap as fin_map
use Rattle.std.specs.Ordering.{nat_cmp}
use Rattle.std.proofs.lemmas.Bool.{cases_eq}
use Rattle.rr_table.proofs.MapLaws.{get-insert_other, get-insert_same, get-remove_other, get-remove_same}

module _ {X : Type 0} (m : fin_map.FinMap nat_cmp X) (n k : ℕ) (a b c d : X) (is : fin_map.get m n ≡ Some d) (none : fin_map.get m k ≡ None)
    (apart : n ≢ k) where
  abbrev with_a : fin_map.FinMap nat_cmp X
  with_a = fin_map.insert m n a

  abbrev with_b : fin_map.FinMap nat_cmp X
  with_b = fin_map.insert with_a k b

  abbrev with_c : fin_map.FinMap nat_cmp X
  with_c = fin_map.insert with_b k c

  pub there : fin_map.get (fin_map.remove with_c k) n ≡ Some a
  there = get-remove_other with_c k n apart ∙ get-insert_other with_b k c n apart ∙ get-insert_other with_a k b n apart ∙ get-insert_same m n a n refl

  pub back : m ≡ fin_map.insert (fin_map.remove with_c k) n d
  back = sym (fin_map.same_map nat_cmp_total fin_map.nat_cmp-IsAntisymmetric _ _ (λ q. ⊎_elim
      (λ e. get-insert_same (fin_map.remove with_c k) n d q e ∙ sym (ap (fin_map.get m) e ∙ is))
      (λ other. get-insert_other (fin_map.remove with_c k) n d q other ∙ ⊎_elim
      (λ e. get-remove_same with_c k q e ∙ sym (ap (fin_map.get m) e ∙ none))
      (λ o. get-remove_other with_c k q o ∙ get-insert_other with_b k c q o ∙ get-insert_other with_a k b q o ∙ get-insert_other m n a q other)
      (cases_eq q k))
      (cases_eq q n)))
