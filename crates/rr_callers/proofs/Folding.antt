-- What a fold comes to whose function leaves the state of its closure alone.
use Rattle.std.proofs.Common.{◌≡◌, List, [], ◌∷◌, ap, sym, ◌∙◌}
use Rattle.std.specs.Prelude.{fold}
use Rattle.std.specs.List.{FoldsTo}

-- each call returns what h makes of what came before, so all of them return the fold by h
pub folds_are : {F A X : Type 0} (R : F × A → X → F × A → Type 0) (h : A → X → A) → ((p : F × A) (x : X) (q : F × A) → R p x q → q.1 ≡ h p.1 x)
    → (xs : List X) (p q : F × A) → FoldsTo R p xs q → q.1 ≡ fold h p.1 xs
folds_are R h each [] p q same = ap (λ r. r.1) (sym same)
folds_are R h each (x ∷ xs) p q folds = folds_are R h each xs folds.0 q folds.2 ∙ ap (λ a. fold h a xs) (each p x folds.0 folds.1)
