-- The marks of senders with waiting entries, by receiver and channel.
use Rattle.std.specs.Prelude.{◌≡◌, ◌⊎◌, ◌<◌, ◌≤◌, ◌+◌, ◌*◌, ◌/◌, ◌^◌, ℕ, List, Option, None, Some, [], length, replicate, slice_get, slice_index_or}
use Rattle.rr_sender.specs.BitSets.{HasWord, IsBitChanged, has}
use Rattle.rr_store.specs.declared.port.ServerPort.{ServerPort}
use Rattle.rr_sender.specs.SenderSets.{IsEven}
use Rattle.rr_store.specs.declared.side.waiting.Waiting.{Waiting}
use Rattle.rr_store.specs.Parts.{Sender}
use Rattle.rr_store.specs.Receiving.{queue_from}
use Rattle.rr_store.specs.Views.{sender_of}

-- the set of a receiver's channel
abbrev pub set_of : Waiting → ℕ → ℕ → ℕ
set_of w receiver channel = receiver * w.channels + channel

-- the first sender at or after an index that may have a waiting entry, or none
abbrev pub IsNextWaiting : {T N H : Type 0} → List (Sender T N H) → ℕ → ℕ → ℕ → Option ℕ → Type 0
IsNextWaiting senders receiver channel from (Some sender) =
    (from ≤ sender) × (sender < length senders)
    × ((l : ℕ) → from ≤ l → l < sender → queue_from senders receiver channel l ≡ [])
IsNextWaiting senders receiver channel from None =
    (l : ℕ) → from ≤ l → l < length senders → queue_from senders receiver channel l ≡ []

-- each sender has this many queues to this many receivers
pub record AreAlike {T N H : Type 0} (receivers channels : ℕ) (senders : List (Sender T N H)) : Type 0 where
  pub rows : (l : ℕ) → l < length senders → length (sender_of l senders).messages.queues ≡ receivers
  pub columns : (l r : ℕ) → l < length senders → r < receivers
      → length (slice_index_or (sender_of l senders).messages.queues r []) ≡ channels

-- queues on which nothing was sent, as many as all senders have
abbrev pub AreSentAgain : {T N H : Type 0} → List (Sender T N H) → List (List (List ℕ)) → Type 0
AreSentAgain senders queues =
    (receivers channels : ℕ) × (queues ≡ replicate receivers (replicate channels []))
    × AreAlike receivers channels senders

-- of several senders, each with a waiting entry is marked. All have the same queues, each queue has a set, and each
-- set has room for all senders
pub record KnowsWaiting {T N H : Type 0} (w : Waiting) (senders : List (Sender T N H)) : Type 0 where
  pub alike : AreAlike w.receivers w.channels senders
  pub sets : w.sets ≡ w.receivers * w.channels
  pub fits : w.sets < 2 ^ 64
  pub even : IsEven w.sets w.senders
  pub room : 1 < length senders → length senders ≤ 64 * length w.senders.columns.items
  pub there : (set l : ℕ) → has w.senders set l ≡ 1 → l < length senders
  pub noted : 1 < length senders → (l r c : ℕ) → l < length senders → 0 < length (queue_from senders r c l)
      → has w.senders (set_of w r c) l ≡ 1

-- no mark is lost, and only senders that were marked before or are among these are marked, whether memory was refused
-- or not
pub record IsGrown (count : ℕ) (old new : Waiting) : Type 0 where
  pub dims : 0 < count → (new.receivers ≡ old.receivers) × (new.channels ≡ old.channels)
  pub sets : new.sets ≡ new.receivers * new.channels
  pub fits : new.sets < 2 ^ 64
  pub even : IsEven new.sets new.senders
  pub columns : 0 < count → length old.senders.columns.items ≤ length new.senders.columns.items
  pub kept : 0 < count → (set l : ℕ) → has old.senders set l ≡ 1 → has new.senders set l ≡ 1
  pub only : (set l : ℕ) → has new.senders set l ≡ 1 → (has old.senders set l ≡ 1) ⊎ (l < count)

-- and there is room for one more, whose queues are these
pub record IsReady (count receivers channels : ℕ) (new : Waiting) : Type 0 where
  pub begun : count ≡ 0 → (new.receivers ≡ receivers) × (new.channels ≡ channels)
  pub room : 0 < count → count < 64 * length new.senders.columns.items
  pub first : count ≡ 1 → (set : ℕ) → set < new.sets → has new.senders set 0 ≡ 1

-- there is a place to mark a sender
abbrev pub HasPlace : Waiting → ℕ → ℕ → ℕ → Type 0
HasPlace w receiver channel sender =
    (set_of w receiver channel < 2 ^ 64) × HasWord w.senders (set_of w receiver channel) (sender / 64)

-- one of `count` senders is marked, if there are several
pub record IsNotedAmong (count receiver channel sender : ℕ) (old new : Waiting) : Type 0 where
  pub several : 1 < count → IsBitChanged 1 (set_of old receiver channel) sender old.senders new.senders
  pub alone : count ≤ 1 → new ≡ old
  pub rest : new ≡ record old { senders = new.senders }

-- there is one for each of these servers
abbrev pub HavePlaces : {K : Type 0} → Waiting → ℕ → List (ServerPort K) → Type 0
HavePlaces w sender servers =
    (i : ℕ) (s : ServerPort _) → slice_get servers i ≡ Some s → HasPlace w s.port.receiver 0 sender

-- one of `count` senders is marked for the first `n` of these servers, if there are several, and nothing else changed
pub record AreNotedBelow {K : Type 0} (n count : ℕ) (servers : List (ServerPort K)) (sender : ℕ) (old new : Waiting)
    : Type 0 where
  pub here : 1 < count → (i : ℕ) (s : ServerPort K) → i < n → slice_get servers i ≡ Some s
      → has new.senders (set_of old s.port.receiver 0) sender ≡ 1
  pub kept : (set l : ℕ) → has old.senders set l ≡ 1 → has new.senders set l ≡ 1
  pub only : (set l : ℕ) → has new.senders set l ≡ 1 → (has old.senders set l ≡ 1) ⊎ (l ≡ sender)
  pub places : (set index : ℕ) → HasWord old.senders set index → HasWord new.senders set index
  pub columns : length new.senders.columns.items ≡ length old.senders.columns.items
  pub rest : new ≡ record old { senders = new.senders }

abbrev pub AreNotedAmong : {K : Type 0} → ℕ → List (ServerPort K) → ℕ → Waiting → Waiting → Type 0
AreNotedAmong count servers sender old new = AreNotedBelow (length servers) count servers sender old new
