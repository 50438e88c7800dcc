-- The conditions of a store's methods on its parts.
use Rattle.std.specs.Prelude.{◌≡◌, ◌<◌, ◌+◌, ◌^◌, ℕ, List, [], length, None, slice_index_or}
use Rattle.std.specs.FinMap as fin_map
use Rattle.rr_table.specs.TableView.{IsInside, IsVacant, TableView}
use Rattle.rr_table.specs.declared.place.Place.{Place}
use Rattle.rr_store.specs.declared.handle_entry.HandleEntry.{HandleEntry}
use Rattle.rr_store.specs.declared.port.LeftPort.{LeftPort}
use Rattle.rr_store.specs.Creating.{left_at}
use Rattle.rr_store.specs.Parts.{Sender}
use Rattle.rr_store.specs.Receiving.{borrowed_from, queue_from}
use Rattle.rr_store.specs.Views.{sender_of}

-- a handle can be put into a place: the table has the place, it is vacant, and the number has no handle
pub record CanInsert (t : TableView HandleEntry) (n : ℕ) (place : Place) : Type 0 where
  pub inside : IsInside t place
  pub vacant : IsVacant t place
  pub fresh : fin_map.get t.entries n ≡ None

-- the oldest entry of a queue can become a handle: the queue exists and has an entry, and the borrow can be counted
pub record CanTake {T N H : Type 0} (senders : List (Sender T N H)) (sender receiver channel : ℕ) : Type 0 where
  pub there : sender < length senders
  pub queue : (receiver < length (sender_of sender senders).messages.queues)
      × (channel < length (slice_index_or (sender_of sender senders).messages.queues receiver []))
  pub entry : 0 < length (queue_from senders receiver channel sender)
  pub fits : borrowed_from senders receiver channel sender + 1 < 2 ^ 64

-- a port can send from the sender of the port at an index of those that left: the sender exists, and has a row
pub record CanTakeOver {T N H : Type 0} (senders : List (Sender T N H)) (left : List LeftPort) (rows : List ℕ)
    (index : ℕ) : Type 0 where
  pub listed : index < length left
  pub there : (left_at index left).sender < length senders
  pub row : (sender_of (left_at index left).sender senders).row < length rows
