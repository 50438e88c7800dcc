-- The oldest ports that left lose their entries for a receiver, one after another.
use Rattle.std.proofs.Common.{◌≡◌, ◌<◌, ◌≤◌, ◌+◌, ◌-◌, ◌||◌, ◌&&◌, ◌++◌, ℕ, Bool, true, false, cond, List, [], ◌∷◌, Some, append-nil, arith}
use Rattle.std.proofs.Common.{length, get_or, refl, sym, take, subst, ap, ◌∙◌}
use Rattle.std.specs.Prelude.{◌==◌, slice_get}
use Rattle.std.proofs.lemmas.Bool.{ne_eqb}
use Rattle.std.proofs.lemmas.List.{take-append-le, take_all}
use Rattle.std.proofs.lemmas.List.Elements.{filter_more}
use Rattle.std.proofs.lemmas.List.Filters.{length-filter_more}
use Rattle.std.proofs.lemmas.List.Folds.{list_any-append}
use Rattle.std.proofs.lemmas.Option.{get_or_from_slice_get, slice_get-get_or, slice_get_within}
use Rattle.rr_table.proofs.ListFacts.{all_filter}
use Rattle.rr_store.specs.declared.port.LeftPort.{LeftPort}
use Rattle.rr_store.specs.Draining.{AreApart, AreThere, HaveQueues, SendersDrained}
use Rattle.rr_store.specs.Leaving.{has_queued, is_of, queued_left}
use Rattle.rr_store.specs.Parts.{Sender}
use Rattle.rr_store.specs.Views.{sender_of}
use Rattle.rr_store.proofs.leaving.Drained.{drained_same, drained_twice}
use Rattle.rr_store.proofs.leaving.Expiring.{early, gather, none_of, queued_kept, turned}
use Rattle.rr_store.proofs.leaving.Lists.{all_take}

-- nothing and no test
pub no_more : (b : Bool) → (b && false) ≡ false
no_more true = refl
no_more false = refl

module _ {T N H : Type 0} (before : List (Sender T N H)) (left : List LeftPort) (receiver : ℕ) where
  -- of the first ports that left, those of which the receiver has an entry
  abbrev pub queued : ℕ → List LeftPort
  queued i = queued_left before (take i left) receiver

  -- what is queued of one more
  queued_more : (i : ℕ) (x : LeftPort) → slice_get left i ≡ Some x
      → queued (i + 1) ≡ queued i ++ cond (has_queued (sender_of x.sender before) receiver) (x ∷ []) []
  queued_more i x at =
      filter_more (λ (l : LeftPort). has_queued (sender_of l.sender before) receiver) left i x (slice_get_within left i x at)
      ∙ ap (λ (y : LeftPort). queued i ++ cond (has_queued (sender_of y.sender before) receiver) (y ∷ []) [])
      (get_or_from_slice_get left i x x at)

  -- how many are
  pub count_more : (i : ℕ) (x : LeftPort) → slice_get left i ≡ Some x
      → length (queued (i + 1)) ≡ length (queued i) + cond (has_queued (sender_of x.sender before) receiver) 1 0
  count_more i x at =
      length-filter_more (λ (l : LeftPort). has_queued (sender_of l.sender before) receiver) left i x (slice_get_within left i x at)
      ∙ ap (λ (y : LeftPort). length (queued i) + cond (has_queued (sender_of y.sender before) receiver) 1 0)
      (get_or_from_slice_get left i x x at)

  -- one more is counted, or not
  pub counted_more : (i n : ℕ) (x : LeftPort) → slice_get left i ≡ Some x → n ≡ length (queued i) → (b : Bool)
      → has_queued (sender_of x.sender before) receiver ≡ b → cond b (n + 1) n ≡ length (queued (i + 1))
  counted_more i n x at so b is = go b (count_more i x at ∙ ap (λ c. length (queued i) + cond c 1 0) is)
    where
      go : (b : Bool) → length (queued (i + 1)) ≡ length (queued i) + cond b 1 0 → cond b (n + 1) n ≡ length (queued (i + 1))
      go true e = omega (arith, so, e)
      go false e = omega (arith, so, e)

  module _ (excess : ℕ) where
    -- the ports so far are expired, and so many are left to be
    pub record IsExpiring (i remaining : ℕ) (now : List (Sender T N H)) : Type 0 where
      pub drained : SendersDrained (λ l r. r == receiver && is_of (take excess (queued i)) l) before now
      pub counted : remaining ≡ excess - length (queued i)

    module _ (i remaining : ℕ) (now : List (Sender T N H)) (so : IsExpiring i remaining now) where
      -- the sender of the next one is still there
      pub next_there : (none : LeftPort) → i < length left → AreThere before left → (get_or left i none).sender < length now
      next_there none h there = omega (arith, there i (get_or left i none) (slice_get-get_or left i none h), so.drained.many)

      -- and has its queues
      pub next_queues : (none : LeftPort) → i < length left → AreThere before left → HaveQueues before receiver
          → receiver < length (sender_of (get_or left i none).sender now).messages.queues
      next_queues none h there queues =
          let x = get_or left i none in
          omega (
            arith,
            queues x.sender (there i x (slice_get-get_or left i none h)),
            (so.drained.each x.sender).messages.receivers,
          )

      -- all are expired
      pub all_expired : length left ≤ i →
          SendersDrained (λ l r. r == receiver && is_of (take excess (queued_left before left receiver)) l) before now
      all_expired h =
          subst (λ ps. SendersDrained (λ l r. r == receiver && is_of (take excess (queued_left before ps receiver)) l) before now)
          (take_all i left h) so.drained

    module _ (i remaining : ℕ) (now : List (Sender T N H)) (so : IsExpiring i remaining now) (x : LeftPort)
        (at : slice_get left i ≡ Some x) where
      -- none more where as many are expired as should be
      same_more : take excess (queued (i + 1)) ≡ take excess (queued i) →
          SendersDrained (λ l r. r == receiver && is_of (take excess (queued (i + 1))) l) before now
      same_more same =
          drained_same (λ l r. r == receiver && is_of (take excess (queued i)) l)
          (λ l r. r == receiver && is_of (take excess (queued (i + 1))) l) before now
          (λ l r. ap (λ ps. r == receiver && is_of ps l) (sym same)) so.drained

      pub expiring_done : remaining ≡ 0 → IsExpiring (i + 1) remaining now
      expiring_done none = record {
        drained = same_more
            (ap (take excess) (queued_more i x at)
            ∙ take-append-le excess (queued i) (cond (has_queued (sender_of x.sender before) receiver) (x ∷ []) [])
            (omega (arith, none, so.counted)));
        counted = omega (arith, none, so.counted, count_more i x at);
      }

      pub expiring_past : has_queued (sender_of x.sender before) receiver ≡ false → IsExpiring (i + 1) remaining now
      expiring_past none =
          let same : queued (i + 1) ≡ queued i = queued_more i x at
          ∙ ap (λ b. queued i ++ cond b (x ∷ []) []) none ∙ append-nil (queued i) in
          record {
            drained = same_more (ap (take excess) same);
            counted = so.counted ∙ ap (λ (ps : List LeftPort). excess - length ps) (sym same);
          }

      pub expiring_more : (after : List (Sender T N H)) → 0 < remaining → has_queued (sender_of x.sender before) receiver ≡ true
          → SendersDrained (λ l r. l == x.sender && r == receiver) now after → IsExpiring (i + 1) (remaining - 1) after
      expiring_more after some has then = record {
        drained = drained_same
            (λ l r. (r == receiver && is_of (take excess (queued i)) l) || (l == x.sender && r == receiver))
            (λ l r. r == receiver && is_of (take excess (queued (i + 1))) l) before after
            (λ l r. gather (r == receiver) (is_of (take excess (queued i)) l) (l == x.sender)
            ∙ ap (λ b. r == receiver && (is_of (take excess (queued i)) l || (b || false))) (turned l x.sender)
            ∙ ap (λ b. r == receiver && b) (sym (chosen l)))
            (drained_twice (λ l r. r == receiver && is_of (take excess (queued i)) l) (λ l r. l == x.sender && r == receiver)
            before now after so.drained then);
        counted = omega (arith, so.counted, some, longer);
      }
        where
          next : queued (i + 1) ≡ queued i ++ x ∷ []
          next = queued_more i x at ∙ ap (λ b. queued i ++ cond b (x ∷ []) []) has

          longer : length (queued (i + 1)) ≡ length (queued i) + 1
          longer = count_more i x at ∙ ap (λ b. length (queued i) + cond b 1 0) has

          chosen : (l : ℕ) → is_of (take excess (queued (i + 1))) l
              ≡ (is_of (take excess (queued i)) l || (x.sender == l || false))
          chosen l =
              ap (λ ps. is_of ps l) (take_all excess (queued (i + 1)) (omega (arith, longer, some, so.counted)) ∙ next)
              ∙ list_any-append (λ (p : LeftPort). p.sender == l) (queued i) (x ∷ [])
              ∙ ap (λ ps. is_of ps l || (x.sender == l || false))
              (sym (take_all excess (queued i) (omega (arith, some, so.counted))))

      -- the next one has what it had
      pub next_kept : AreApart (λ (l : LeftPort). l.sender) left
          → has_queued (sender_of x.sender now) receiver ≡ has_queued (sender_of x.sender before) receiver
      next_kept apart =
          queued_kept (λ l r. r == receiver && is_of (take excess (queued i)) l) before now so.drained x.sender receiver
          (ap (λ b. receiver == receiver && b)
          (none_of (λ (p : LeftPort). p.sender == x.sender) (take excess (queued i))
          (all_take _ excess (queued i)
          (all_filter _ (λ (l : LeftPort). has_queued (sender_of l.sender before) receiver) (take i left)
          (early (λ (p : LeftPort). (p.sender == x.sender) ≡ false) i left
          (λ j y h there. ne_eqb y.sender x.sender (λ e. omega (arith, h, apart j i y x there at e)))))))
          ∙ no_more (receiver == receiver))
