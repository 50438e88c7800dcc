-- An active request has a server, and what it and its server count can grow.
use Rattle.std.proofs.Common.{◌≡◌, ◌<◌, ◌+◌, ◌^◌, ℕ, Some, length, arith}
use Rattle.std.specs.FinMap as fin_map
use Rattle.rr_table.specs.TableView.{TableEntry}
use Rattle.rr_store.specs.declared.handle_entry.HandleEntry.{HandleEntry}
use Rattle.rr_store.specs.declared.handle_entry.Stage.TheVariants as stage
use Rattle.rr_store.specs.Parts.{Parts}
use Rattle.rr_store.specs.Views.{sender_of}
use Rattle.rr_store.specs.Sound.{IsSoundStore, empty_hand, is_in_sender, is_loan_from, is_response_loan}
use Rattle.rr_store.proofs.base.lists.Tallies.{tally_below}

module _ {Q QH P PH K : Type 0} (p : Parts Q QH P PH K) (sound : IsSoundStore p empty_hand) where
  -- one more response on loan from an active request can be counted
  pub loans_from_fit : (n server loans : ℕ) (s : TableEntry HandleEntry) → fin_map.get p.table.entries n ≡ Some s
      → s.value.stage ≡ stage.ActiveRequest server loans → loans + 1 < 2 ^ 64
  loans_from_fit n server loans s at is =
      omega (
        arith,
        sound.stored.active_loans n server loans s at is,
        tally_below (λ (t : TableEntry HandleEntry). is_loan_from p n t.value) p.next p.table.entries sound.numbered.fresh,
        sound.sized.next_fits,
      )

  -- and so can one more from a server's sender
  pub answers_fit : (sender : ℕ) → sender < length p.server_senders → (sender_of sender p.server_senders).loans + 1 < 2 ^ 64
  answers_fit sender there =
      omega (
        arith,
        sound.stored.response_loans sender there,
        tally_below
            (λ (t : TableEntry HandleEntry). is_in_sender is_response_loan sender t.value) p.next p.table.entries sound.numbered.fresh,
        sound.sized.next_fits,
      )
