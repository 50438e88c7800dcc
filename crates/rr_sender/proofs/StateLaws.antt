-- What contracts see after one queue changed twice.
use Rattle.std.proofs.Common.{◌≡◌, ℕ, suc, zero, ◌+◌, ◌<◌, ◌≤◌, List, [], ◌∷◌, length, drop, get_or, refl, sym, ap, ◌∙◌, arith}
use Rattle.std.specs.Prelude.{slice_set}
use Rattle.std.proofs.lemmas.List.{length-set, get_or-set_same, set-set}
use Rattle.rr_sender.specs.Senders.{Messages, times, set_two, uses, queue_at, with_queue}
use Rattle.rr_sender.proofs.EntryLaws.{times-set_two, at_two-set_two, set_two-itself, length-set_two}

pub times-drop_le : (i n : ℕ) (xs : List ℕ) → times i (drop n xs) ≤ times i xs
times-drop_le i zero xs = omega arith
times-drop_le i (suc n) [] = omega arith
times-drop_le i (suc n) (x ∷ xs) = omega (arith, times-drop_le i n xs)

drop_one : (n : ℕ) (xs : List ℕ) → drop 1 (drop n xs) ≡ drop (n + 1) xs
drop_one zero xs = refl
drop_one (suc n) [] = let more : suc (n + 1) ≡ suc n + 1 = omega arith in ap (λ k. drop {A = ℕ} k []) more
drop_one (suc n) (x ∷ xs) = drop_one n xs ∙ (let more : suc (n + 1) ≡ suc n + 1 = omega arith in ap (λ k. drop k (x ∷ xs)) more)

module _ {T N H : Type 0} (m : Messages T N H) (receiver channel : ℕ) (at : receiver < length m.queues)
    (inside : channel < length (get_or m.queues receiver [])) where
  -- the queue is what it became
  pub queue_now : (queue : List ℕ) → queue_at (with_queue m receiver channel queue) receiver channel ≡ queue
  queue_now queue = at_two-set_two [] m.queues receiver channel at inside queue

  -- there are as many receivers and channels as before
  pub at_now : (queue : List ℕ) → receiver < length (set_two m.queues receiver channel queue)
  at_now queue = omega (arith, at, length-set_two m.queues receiver channel queue)

  pub inside_now : (queue : List ℕ) → channel < length (get_or (set_two m.queues receiver channel queue) receiver [])
  inside_now queue = omega (
    arith,
    inside,
    ap length (get_or-set_same m.queues receiver (slice_set (get_or m.queues receiver []) channel queue) [] at),
    length-set (get_or m.queues receiver []) channel queue,
  )

  -- the later change stays
  pub twice : (first second : List ℕ) → with_queue (with_queue m receiver channel first) receiver channel second
      ≡ with_queue m receiver channel second
  twice first second = ap (λ queues. record m { queues = queues })
      (ap (λ row. slice_set (set_two m.queues receiver channel first) receiver (slice_set row channel second))
      (get_or-set_same m.queues receiver (slice_set (get_or m.queues receiver []) channel first) [] at)
      ∙ ap (λ row. slice_set (set_two m.queues receiver channel first) receiver row)
      (set-set (get_or m.queues receiver []) channel first second)
      ∙ set-set m.queues receiver (slice_set (get_or m.queues receiver []) channel first)
      (slice_set (get_or m.queues receiver []) channel second))

  -- a queue that becomes itself
  pub itself : m ≡ with_queue m receiver channel (queue_at m receiver channel)
  itself = ap (λ queues. record m { queues = queues }) (sym (set_two-itself [] m.queues receiver channel))

  -- fewer entries use a slot no more
  pub uses_less : (slot n : ℕ) → uses (with_queue m receiver channel (drop n (queue_at m receiver channel))) slot ≤ uses m slot
  uses_less slot n = omega (
    arith,
    times-set_two m.queues receiver channel at inside slot (drop n (queue_at m receiver channel)),
    times-drop_le slot n (queue_at m receiver channel),
  )

  -- one more entry is dropped
  pub drop-more : (n : ℕ) → with_queue (with_queue m receiver channel (drop n (queue_at m receiver channel))) receiver channel
      (drop 1 (queue_at (with_queue m receiver channel (drop n (queue_at m receiver channel))) receiver channel))
      ≡ with_queue m receiver channel (drop (n + 1) (queue_at m receiver channel))
  drop-more n =
      twice (drop n (queue_at m receiver channel)) (drop 1 (queue_at (with_queue m receiver channel (drop n (queue_at m receiver channel)))
      receiver channel))
      ∙ ap (λ queue. with_queue m receiver channel (drop 1 queue)) (queue_now (drop n (queue_at m receiver channel)))
      ∙ ap (with_queue m receiver channel) (drop_one n (queue_at m receiver channel))
