use Rattle.std.proofs.Common.{refl, ◌≡◌, None, Option, Some, sym, ◌∙◌, subst}
use Rattle.std.specs.Prelude.{IsSome}
use Rattle.std.proofs.lemmas.Bool.{false≢true}
use Rattle.rr_store.specs.Opened.{opened}
use Rattle.rr_store.proofs.base.lookups.Looking.{nothing_shown}
use Rattle.rr_store.proofs.base.lookups.Placed.{found_at, found_none}
use Rattle.rr_store.proofs.store.Store.place_of.Goals as goal

pub of_this_hub-requires : goal.of_this_hub-requires
of_this_hub-requires g c =
    some_found c.find.result (λ n. false≢true (subst IsSome (nothing_shown (opened c.args.self.now) c.args.number
    (found_none c.args.self.now.table c.args.number (sym c.find.ensures ∙ n))) c.requires))
  where
    some_found : {X : Type 0} (o : Option X) → (o ≡ None → ⊥) → IsSome o
    some_found None h = absurd (h refl)
    some_found (Some x) h = refl

pub returns : goal.returns
returns g c = found_at c.args.self.now.table c.args.number c.of_this_hub.result (sym c.find.ensures ∙ c.of_this_hub.ensures)
