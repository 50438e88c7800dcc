-- A table of which the row of an idle sender was made anew: no handle stood there.
use Rattle.std.proofs.Common.{◌≡◌, ◌≢◌, ℕ, Option, None, Some, true, refl, sym, ap, ◌∙◌}
use Rattle.std.specs.Prelude.{if◌then◌else◌, slice_set}
use Rattle.std.specs.Cmp.{nat_cmp_total}
use Rattle.std.specs.FinMap as fin_map
use Rattle.std.specs.FinMap.{nat_cmp-IsAntisymmetric}
use Rattle.std.proofs.lemmas.Bool.{ne_eqb}
use Rattle.rr_table.specs.TableView.{IsRenewed, TableEntry, TableView, outside}
use Rattle.rr_store.specs.declared.handle_entry.HandleEntry.{HandleEntry}
use Rattle.rr_store.specs.declared.handle_entry.Stage.{Stage}
use Rattle.rr_store.specs.declared.handle_entry.Stage.TheVariants as stage
use Rattle.rr_store.specs.Parts.{Parts}
use Rattle.rr_store.specs.Sound.{IsSoundStore, empty_hand, is_of_request, is_of_response, place_at}
use Rattle.rr_store.specs.Views.{sender_of}

module _ {Q QH P PH K : Type 0} (p : Parts Q QH P PH K) (sound : IsSoundStore p empty_hand) (row : ℕ)
    (requests : (k : ℕ) (s : TableEntry HandleEntry) → fin_map.get p.table.entries k ≡ Some s → is_of_request s.value.stage ≡ true
    → (sender_of s.value.sender p.client_senders).row ≢ row)
    (responses : (k : ℕ) (s : TableEntry HandleEntry) → fin_map.get p.table.entries k ≡ Some s → is_of_response s.value.stage ≡ true
    → (sender_of s.value.sender p.server_senders).row ≢ row) where
  -- no handle stands in the row
  nobody : (k : ℕ) (s : TableEntry HandleEntry) → fin_map.get p.table.entries k ≡ Some s → s.place.row ≢ row
  nobody k s at same = go s.value.stage refl (sym (ap (λ place. place.row) (sound.inserted.placed k s at)) ∙ same)
    where
      go : (g : Stage) → s.value.stage ≡ g → (place_at p g s.value.sender s.value.slot).row ≡ row → ⊥
      go stage.RequestMutUninit e = requests k s at (ap is_of_request e)
      go stage.RequestMut e = requests k s at (ap is_of_request e)
      go (stage.PendingResponse hint connections) e = requests k s at (ap is_of_request e)
      go (stage.ActiveRequest server loans) e = requests k s at (ap is_of_request e)
      go stage.ResponseMutUninit e = responses k s at (ap is_of_response e)
      go stage.ResponseMut e = responses k s at (ap is_of_response e)
      go stage.Response e = responses k s at (ap is_of_response e)

  stays : (k : ℕ) → outside row (fin_map.get p.table.entries k) ≡ fin_map.get p.table.entries k
  stays k = go (fin_map.get p.table.entries k) refl
    where
      go : (o : Option (TableEntry HandleEntry)) → fin_map.get p.table.entries k ≡ o → outside row o ≡ o
      go None e = refl
      go (Some s) e = ap (λ b. if b then None else Some s) (ne_eqb s.place.row row (nobody k s e))

  -- so all handles are as they were
  pub renewed_table : (len : ℕ) (table : TableView HandleEntry) → IsRenewed row len p.table table
      → table ≡ record p.table { rows = slice_set p.table.rows row len }
  renewed_table len table renewed =
      let same : table.entries ≡ p.table.entries = fin_map.same_map nat_cmp_total nat_cmp-IsAntisymmetric table.entries p.table.entries
      (λ k. renewed.1 k ∙ stays k) in
      λ i. record { entries = same i; rows = renewed.0 i }
