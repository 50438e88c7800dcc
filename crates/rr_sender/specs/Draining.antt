-- A sender as contracts see it after the queues to some receivers were cleared.
use Rattle.std.specs.Prelude.{◌≡◌, ◌<◌, ◌≤◌, ℕ, Bool, if◌then◌else◌, [], length, slice_index_or}
use Rattle.rr_sender.specs.Senders.{Messages, all_entries, content_at, queue_at, times, uses}

-- the queues to some receivers lost all their entries; slots that nothing uses any more may have lost their contents;
-- nothing else changed
pub record MessagesDrained {T N H : Type 0} (cut : ℕ → Bool) (before after : Messages T N H) : Type 0 where
  pub rest : after ≡ record before { contents = after.contents; queues = after.queues }
  pub many : length after.contents ≡ length before.contents
  pub used : (slot : ℕ) → 0 < uses after slot → content_at after slot ≡ content_at before slot
  pub receivers : length after.queues ≡ length before.queues
  pub channels : (receiver : ℕ) → length (slice_index_or after.queues receiver [])
      ≡ length (slice_index_or before.queues receiver [])
  pub queues : (receiver channel : ℕ) → queue_at after receiver channel
      ≡ (if cut receiver then [] else queue_at before receiver channel)
  pub fewer : (slot : ℕ) → times slot (all_entries after.queues) ≤ times slot (all_entries before.queues)
