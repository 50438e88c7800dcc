-- A sender that is stored, and the senders after its messages changed.
use Rattle.std.proofs.Common.{◌≡◌, ◌<◌, ◌≤◌, ℕ, List, Some, length, map, get_or, sym, ap, ◌∙◌, arith}
use Rattle.std.specs.Prelude.{slice_get, slice_index_or, slice_set}
use Rattle.std.proofs.lemmas.List.{get_or-set_same, length-map, set-set}
use Rattle.std.proofs.lemmas.Option.{get_or_from_slice_get}
use Rattle.rr_slots.specs.Pools.{Written, nothing_written}
use Rattle.rr_sender.specs.Senders.{Messages, content_at}
use Rattle.rr_store.specs.declared.port.OwnedSender.{OwnedSender}
use Rattle.rr_store.specs.declared.side.Side.TheInside.{Inside}
use Rattle.rr_store.specs.Loaning as part
use Rattle.rr_store.specs.Parts.{Sender}
use Rattle.rr_store.specs.Ports.{sender_part}
use Rattle.rr_store.specs.SideInside.{side_of}
use Rattle.rr_store.specs.Sides.{with_sent}
use Rattle.rr_store.specs.Views.{no_sender, sender_of}
use Rattle.rr_store.specs.Writing.{with_messages}
use Rattle.rr_store.proofs.base.lists.Replaced.{map-set_one}
use Rattle.rr_store.proofs.base.lookups.Asking.{sender_is, senders_many}

module _ {B N H T : Type 0} (items : List (OwnedSender B N H T)) (sender : ℕ) (x : OwnedSender B N H T)
    (there : sender < length (map sender_part items)) (read : x ≡ get_or items sender x) where
  -- a sender that was read
  pub stored_is : sender_of sender (map sender_part items) ≡ sender_part x
  stored_is = sender_is items sender x (senders_many items sender there) read

  -- the details that were read of a slot
  pub details_are : (slot : ℕ) (details none : N) → slice_get x.messages.details slot ≡ Some details
      → details ≡ slice_index_or (sender_of sender (map sender_part items)).messages.details slot none
  details_are slot details none at =
      sym (get_or_from_slice_get x.messages.details slot details none at)
      ∙ ap (λ l. slice_index_or l.messages.details slot none) (sym stored_is)

  -- what was read of a slot
  pub content_is : (slot : ℕ) (content : Written T) → slice_get x.messages.contents slot ≡ Some content
      → content_at (sender_of sender (map sender_part items)).messages slot ≡ content
  content_is slot content at =
      ap (λ l. content_at l.messages slot) stored_is
      ∙ get_or_from_slice_get x.messages.contents slot content (nothing_written 0) at

  -- the user header
  pub user_header_is : (slot : ℕ) (header spare : H) → slice_get x.messages.user_headers slot ≡ Some header
      → header ≡ slice_index_or (sender_of sender (map sender_part items)).messages.user_headers slot spare
  user_header_is slot header spare at =
      sym (get_or_from_slice_get x.messages.user_headers slot header spare at)
      ∙ ap (λ l. slice_index_or l.messages.user_headers slot spare) (sym stored_is)

  -- the senders after its messages changed
  pub stored_set : (m : Messages T N H) (change : Messages T N H → Messages T N H) → m ≡ change x.messages
      → map sender_part (slice_set items sender (with_messages x m))
      ≡ slice_set (map sender_part items) sender
      (part.with_messages (sender_of sender (map sender_part items)) (change (sender_of sender (map sender_part items)).messages))
  stored_set m change is =
      ap (λ m. map sender_part (slice_set items sender (with_messages x m))) is
      ∙ map-set_one sender_part items sender (with_messages x (change x.messages))
      ∙ ap (λ y. slice_set (map sender_part items) sender (part.with_messages y (change y.messages))) (sym stored_is)

-- an index that was counted up to is one of a sender
pub in_senders : {B N H T : Type 0} (items : List (OwnedSender B N H T)) {n end many : ℕ} → n < end → end ≡ many → many ≡ length items
    → n < length (map sender_part items)
in_senders items below end many = omega (arith, below, end, many, length-map items sender_part)

-- and one that was counted to the end is past all
pub past_senders : {B N H T : Type 0} (items : List (OwnedSender B N H T)) {n end many : ℕ} → end ≤ n → end ≡ many → many ≡ length items
    → length (map sender_part items) ≤ n
past_senders items past end many = omega (arith, past, end, many, length-map items sender_part)

-- a side after the messages of a sender, which was read, changed
pub sent_set : {B N H P T : Type 0} (s : Inside B N H P T) (sender : ℕ) (x : OwnedSender B N H T)
    (there : sender < length (map sender_part s.senders.items)) (read : x ≡ get_or s.senders.items sender x) (m : Messages T N H)
    (change : Messages T N H → Messages T N H) → m ≡ change x.messages
    → record (side_of s) { senders = map sender_part (slice_set s.senders.items sender (with_messages x m)) }
    ≡ with_sent (side_of s) sender change
sent_set s sender x there read m change is =
    ap (λ ls. record (side_of s) { senders = ls }) (stored_set s.senders.items sender x there read m change is)

-- the senders after one of them, which was read, changed
pub stored_changed : {B N H T : Type 0} (items : List (OwnedSender B N H T)) (sender : ℕ) (x : OwnedSender B N H T) → sender < length items
    → x ≡ get_or items sender x → (y : OwnedSender B N H T) (change : Sender T N H → Sender T N H) → sender_part y ≡ change (sender_part x)
    → map sender_part (slice_set items sender y) ≡ part.with_sender_at (map sender_part items) sender change
stored_changed items sender x there read y change is =
    map-set_one sender_part items sender y
    ∙ ap (slice_set (map sender_part items) sender) (is ∙ ap change (sym (sender_is items sender x there read)))

-- a sender that changed twice
pub stored_twice : {T N H : Type 0} (senders : List (Sender T N H)) (i : ℕ) (x : Sender T N H) (change : Sender T N H → Sender T N H)
    → i < length senders
    → slice_set (slice_set senders i x) i (change (sender_of i (slice_set senders i x))) ≡ slice_set senders i (change x)
stored_twice senders i x change there =
    ap (λ y. slice_set (slice_set senders i x) i (change y)) (get_or-set_same senders i x no_sender there) ∙ set-set senders i x (change x)
