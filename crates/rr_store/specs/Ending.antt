-- The end of a response's loan: its handle, and one of the loans of its active request.
use Rattle.std.specs.Prelude.{◌≡◌, ◌<◌, ℕ, ◌+◌, ◌-◌, ◌*◌, ◌^◌, List, Option, Some, None, IfSome, IsSomeAnd, slice_get, length}
use Rattle.std.specs.FinMap as fin_map
use Rattle.rr_table.specs.TableView.{TableView, inserted, value_at, value_in}
use Rattle.rr_table.specs.declared.place.Place.{Place}
use Rattle.rr_store.specs.declared.handle_entry.HandleEntry.{HandleEntry}
use Rattle.rr_store.specs.declared.details.ResponseDetails.{ResponseDetails}
use Rattle.rr_store.specs.Answering.{active_in, active_entry}
use Rattle.rr_store.specs.Parts.{Sender}

-- the place of a response's active request, if there is one: in the row of its client's sender, by the receiver of
-- the server; no row has more places than can be numbered
abbrev pub IsAskedPlace : {T N H : Type 0} → List (Sender T N H) → ResponseDetails → ℕ → Place → Type 0
IsAskedPlace senders details receiver at = IsSomeAnd (slice_get senders details.client_sender) (λ l.
    (receiver + 1) * length l.messages.held + details.channel < 2 ^ 64
    → at ≡ record { row = l.row; index = (receiver + 1) * length l.messages.held + details.channel })

-- the entry under a number: in this place, if a place is given
abbrev pub found_under : TableView HandleEntry → ℕ → Option Place → Option HandleEntry
found_under table n None = value_at table n
found_under table n (Some place) = value_in table n place

-- the active request that was found has one response less on loan; else nothing changed
abbrev pub IsCountedLess : ℕ → HandleEntry → Option (ℕ × ℕ) → TableView HandleEntry → TableView HandleEntry → Type 0
IsCountedLess n entry None old new = new ≡ old
IsCountedLess n entry (Some active) old new =
    IfSome (fin_map.get old.entries n) (λ s.
    new ≡ inserted old n s.place (active_entry active.0 entry.sender entry.slot (active.1 - 1)))

abbrev pub IsLoanEnded : ℕ → Option HandleEntry → TableView HandleEntry → TableView HandleEntry → Type 0
IsLoanEnded n None old new = new ≡ old
IsLoanEnded n (Some entry) old new = IsCountedLess n entry (active_in entry.stage) old new
