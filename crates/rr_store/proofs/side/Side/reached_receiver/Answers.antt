use Rattle.std.proofs.Common.{◌≡◌, ◌<◌, ◌≤◌, ℕ, cond, List, None, Option, Some, length, get_or, map, sym, ap, ◌∙◌, arith}
use Rattle.std.specs.Prelude.{option_and_then}
use Rattle.std.proofs.lemmas.List.{length-map}
use Rattle.std.proofs.lemmas.Option.{slice_get_past}
use Rattle.rr_table.specs.TableView.{TableView, value_in}
use Rattle.rr_store.specs.declared.details.ResponseDetails.{ResponseDetails}
use Rattle.rr_store.specs.declared.handle_entry.HandleEntry.{HandleEntry}
use Rattle.rr_store.specs.declared.port.OwnedSender.{OwnedSender}
use Rattle.rr_store.specs.Delivering.{reached, reached_if}
use Rattle.rr_store.specs.Parts.{Sender}
use Rattle.rr_store.specs.Ports.{sender_part}
use Rattle.rr_store.proofs.base.lists.ReadAt.{item_at}
use Rattle.rr_store.proofs.base.views.Counts.{listed}
use Rattle.rr_store.proofs.side.Side.reached_receiver.Goals as goal
use Rattle.rr_store.proofs.side.Side.reached_receiver.Goals.{In_ok-owned}

module _ {B N H T : Type 0} (items : List (OwnedSender B N H T)) (table : TableView HandleEntry) (details : ResponseDetails) where
  -- whom a sender reaches
  abbrev from : Option (Sender T N H) → Option ℕ
  from = option_and_then
      (λ l. reached_if l.receiver (value_in table details.request (record { row = l.row; index = details.channel })))

  -- where no sender stands, none is reached
  none_there : length items ≤ details.client_sender → reached (map sender_part items) table details ≡ None
  none_there past =
      ap from (slice_get_past (map sender_part items) details.client_sender (omega (arith, past, length-map items sender_part)))

  -- and else the one that the entry tells
  told : (x : OwnedSender B N H T) → details.client_sender < length items → x ≡ get_or items details.client_sender x
      → (entry : Option HandleEntry)
      → entry ≡ value_in table details.request (record { row = x.row; index = details.channel })
      → reached (map sender_part items) table details ≡ reached_if x.receiver entry
  told x there read entry is =
      ap from (listed sender_part items details.client_sender x (item_at items details.client_sender x there read))
      ∙ ap (reached_if x.receiver) (sym is)

-- whom the sender reaches that was read
its : (g : _) (c : In_ok-owned g) (entry : Option HandleEntry)
    → entry
    ≡ value_in c.args.table.now c.args.details.request (record { row = c.in_ok-owned.owned.now.row; index = c.args.details.channel })
    → reached_if c.in_ok-owned.owned.now.receiver entry
    ≡ reached (map sender_part c.self.inside.senders.items) c.args.table.now c.args.details
its g c entry is =
    let at = c.in_ok-owned.ensures.lookup in
    sym (told c.deref.result.now c.args.table.now c.args.details c.in_ok-owned.owned.now at.3.0 at.1 entry is)
    ∙ ap (λ ls. reached (map sender_part ls) c.args.table.now c.args.details) c.deref.ensures.value

pub returns-in_err-owned : goal.returns-in_err-owned
returns-in_err-owned g c =
    rw (← c.self.view_is) (c.from_residual.ensures
    ∙ sym (none_there c.deref.result.now c.args.table.now c.args.details c.in_err-owned.ensures.lookup.3)
    ∙ ap (λ ls. reached (map sender_part ls) c.args.table.now c.args.details) c.deref.ensures.value)

pub returns-in_err-request : goal.returns-in_err-request
returns-in_err-request g c =
    rw (← c.self.view_is) (c.from_residual-in_err-request.ensures
    ∙ its g (goal.at.returns-in_err-request g c).In_ok-owned None c.in_err-request.ensures)

pub returns-then-is_pending : goal.returns-then-is_pending
returns-then-is_pending g c =
    rw (← c.self.view_is) (ap (λ b. cond b (Some c.in_ok-owned.owned.now.receiver) None) (sym c.if-is_pending.true ∙ c.is_pending.ensures)
    ∙ its g (goal.at.returns-then-is_pending g c).In_ok-owned (Some c.in_ok-request.request) c.in_ok-request.ensures)

pub returns-else-is_pending : goal.returns-else-is_pending
returns-else-is_pending g c =
    rw (← c.self.view_is) (ap (λ b. cond b (Some c.in_ok-owned.owned.now.receiver) None) (sym c.if-is_pending.false ∙ c.is_pending.ensures)
    ∙ its g (goal.at.returns-else-is_pending g c).In_ok-owned (Some c.in_ok-request.request) c.in_ok-request.ensures)
