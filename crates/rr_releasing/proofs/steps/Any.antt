-- What contracts see of a handle at some stage.
use Rattle.std.proofs.Common.{◌≡◌, ◌⊎◌, ℕ, Bool, true, Some, sym, ap, ◌∙◌, subst, ⊎_elim}
use Rattle.std.specs.Prelude.{IsSomeAnd}
use Rattle.std.specs.FinMap as fin_map
use Rattle.rr_table.specs.TableView.{table_entry}
use Rattle.rr_table.specs.declared.place.Place.{Place}
use Rattle.rr_protocol.specs.Messages.{Handle}
use Rattle.rr_protocol.specs.State.{handle_at}
use Rattle.rr_store.specs.declared.handle_entry.HandleEntry.{HandleEntry}
use Rattle.rr_store.specs.declared.handle_entry.Stage.{Stage}
use Rattle.rr_store.specs.Parts.{Parts}
use Rattle.rr_store.specs.Views.{handle_in, state_of}
use Rattle.rr_store.proofs.base.lookups.Looking.{shown}
use Rattle.rr_store.proofs.base.lookups.Placed.{value_there}

module _ {Q QH P PH K : Type 0} (p : Parts Q QH P PH K) (n : ℕ) (place : Place) (entry : HandleEntry)
    (at : fin_map.get p.table.entries n ≡ Some (table_entry place entry)) (test : Handle Q QH P PH → Bool) where
  -- what is true of the handle that a stage makes is true of it, where it has this stage
  pub asked : {s : Stage} → entry.stage ≡ s → test (handle_in p s entry.sender entry.slot) ≡ true
      → IsSomeAnd (handle_at (state_of p) n) (λ handle. test handle ≡ true)
  asked is holds =
      subst (λ o. IsSomeAnd o (λ handle. test handle ≡ true)) (sym (shown p n entry (value_there p.table n place entry at)))
      (ap (λ s. test (handle_in p s entry.sender entry.slot)) is ∙ holds)

  -- or one of two
  pub either : {s t : Stage} → (entry.stage ≡ s) ⊎ (entry.stage ≡ t) → test (handle_in p s entry.sender entry.slot) ≡ true
      → test (handle_in p t entry.sender entry.slot) ≡ true → IsSomeAnd (handle_at (state_of p) n) (λ handle. test handle ≡ true)
  either is first second = ⊎_elim (λ e. asked e first) (λ e. asked e second) is
