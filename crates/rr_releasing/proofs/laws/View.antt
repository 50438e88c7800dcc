-- What contracts see of a handle that goes.
use Rattle.std.proofs.Common.{◌≡◌, ℕ, Some, option_map, sym, ap, ◌∙◌}
use Rattle.std.specs.Option.{option_map_or}
use Rattle.std.specs.FinMap as fin_map
use Rattle.rr_table.specs.TableView.{TableEntry, removed}
use Rattle.rr_table.proofs.MapLaws.{map_values-remove}
use Rattle.rr_protocol.specs.Messages.{port_of}
use Rattle.rr_protocol.specs.State.{State, handle_at}
use Rattle.rr_protocol.specs.Releases.{after_handle_gone, after_release, without_unused_port, without_port_value}
use Rattle.rr_store.specs.declared.handle_entry.HandleEntry.{HandleEntry}
use Rattle.rr_store.specs.Parts.{Parts}
use Rattle.rr_store.specs.Releasing.{IsHandleGone}
use Rattle.rr_store.specs.Views.{state_of, handle_of}
use Rattle.rr_store.proofs.base.lookups.Looking.{handle_at-state_of}

module _ {Q QH P PH K : Type 0} where
  -- a release is what goes with the handle, and then the port's leaving if nothing else of it lives
  pub release_from : (s t : State Q QH P PH K) (n port : ℕ) → IsHandleGone s n port t → after_release s n ≡ without_unused_port t port
  release_from s t n port is =
      ap (λ o. option_map_or (λ h. without_unused_port (after_handle_gone (record s { handles = fin_map.remove s.handles n }) h)
      (port_of h)) o (without_unused_port (without_port_value s n) n)) is.there
      ∙ ap (λ (t : State Q QH P PH K). without_unused_port t (port_of is.handle)) (sym is.gone)
      ∙ ap (without_unused_port t) is.its_port

  -- the same of a state that is equal
  pub gone_as : (s t u : State Q QH P PH K) (n port : ℕ) → IsHandleGone s n port t → u ≡ t → IsHandleGone s n port u
  gone_as s t u n port is same = record { handle = is.handle; there = is.there; its_port = is.its_port; gone = same ∙ is.gone }

  module _ (p : Parts Q QH P PH K) (k : ℕ) where
    -- the core without a handle
    pub removed_view : state_of (record p { table = removed p.table k }) ≡ record (state_of p)
        { handles = fin_map.remove (state_of p).handles k }
    removed_view = ap (λ hs. record (state_of p) { handles = hs }) (map_values-remove (handle_of p) p.table.entries k)

    -- what an entry shows
    pub table_entry_shown : (s : TableEntry HandleEntry) → fin_map.get p.table.entries k ≡ Some s → handle_at (state_of p) k ≡ Some
        (handle_of p s)
    table_entry_shown s at = handle_at-state_of p k ∙ ap (option_map (handle_of p)) at
