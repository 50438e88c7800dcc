-- What stands in one queue of a sender stands in the sender.
use Rattle.std.proofs.Common.{◌≤◌, ℕ, List, [], length, get_or, ap, ⊎_elim, arith}
use Rattle.std.proofs.lemmas.Bool.{cases_lt}
use Rattle.std.proofs.lemmas.List.{get_or_past}
use Rattle.rr_sender.specs.Senders.{Messages, times, queue_at, all_entries}
use Rattle.rr_sender.proofs.EntryLaws.{times-at_two}

-- a slot is in all queues at least as often as in one
pub times_queue : {T N H : Type 0} (m : Messages T N H) (slot receiver channel : ℕ)
    → times slot (queue_at m receiver channel) ≤ times slot (all_entries m.queues)
times_queue m slot receiver channel =
    ⊎_elim
    (λ h. ⊎_elim
    (λ g. times-at_two m.queues receiver channel h g slot)
    (λ g. omega (arith, ap (times slot) (get_or_past (get_or m.queues receiver []) channel [] g)))
    (cases_lt channel (length (get_or m.queues receiver []))))
    (λ h. omega (arith, ap (λ (row : List (List ℕ)). times slot (get_or row channel [])) (get_or_past m.queues receiver [] h)))
    (cases_lt receiver (length m.queues))
