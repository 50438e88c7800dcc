-- What stands at a number after each handle changed.
use Rattle.std.proofs.Common.{◌≡◌, ℕ, Bool, true, false, cond, List, [], ◌∷◌, map, Option, Some, option_map, refl, sym, ap, ◌∙◌}
use Rattle.std.specs.Ordering.{eq_by_cmp, nat_cmp}
use Rattle.std.specs.Cmp.{nat_cmp_total}
use Rattle.std.specs.FinMap.{FinMap, get, entries, find, get-from_entries, get-entries}
use Rattle.rr_protocol.specs.Messages.{Handle}
use Rattle.rr_protocol.specs.Releases.{map_handles}

option_map-cond : {X Y : Type 0} (f : X → Y) (b : Bool) (x : X) (o : Option X)
    → cond b (Some (f x)) (option_map f o) ≡ option_map f (cond b (Some x) o)
option_map-cond f true x o = refl
option_map-cond f false x o = refl

module _ {Q QH P PH : Type 0} where
  find-map : (f : Handle Q QH P PH → Handle Q QH P PH) (es : List (ℕ × Handle Q QH P PH)) (n : ℕ)
      → find nat_cmp n (map (λ e. (e.0, f e.1)) es) ≡ option_map f (find nat_cmp n es)
  find-map f [] n = refl
  find-map f (e ∷ es) n =
      ap (cond (eq_by_cmp nat_cmp n e.0) (Some (f e.1))) (find-map f es n)
      ∙ option_map-cond f (eq_by_cmp nat_cmp n e.0) e.1 (find nat_cmp n es)

  pub get-map_handles : (f : Handle Q QH P PH → Handle Q QH P PH) (handles : FinMap nat_cmp (Handle Q QH P PH)) (n : ℕ)
      → get (map_handles f handles) n ≡ option_map f (get handles n)
  get-map_handles f handles n =
      get-from_entries nat_cmp_total (map (λ e. (e.0, f e.1)) (entries handles)) n ∙ find-map f (entries handles) n
      ∙ ap (option_map f) (sym (get-entries handles n))
