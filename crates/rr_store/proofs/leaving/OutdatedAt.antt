-- The ports for which there is no room lose their entries for a receiver, and for each of some receivers.
use Rattle.std.proofs.Common.{◌≡◌, ◌<◌, ◌≤◌, ◌+◌, ◌-◌, ◌||◌, ◌&&◌, ◌++◌, ℕ, Bool, true, false, cond, List, [], ◌∷◌, Some, length, length-append, sym, take, ap, ◌∙◌, ⊎_elim, arith}
use Rattle.std.specs.Prelude.{◌==◌, filter, slice_get}
use Rattle.std.specs.List.{list_any}
use Rattle.std.proofs.lemmas.Bool.{cases_eq, ne_eqb}
use Rattle.std.proofs.lemmas.List.{take-append-le, take_all}
use Rattle.std.proofs.lemmas.List.Folds.{list_any-append, list_any_more}
use Rattle.std.proofs.lemmas.Option.{get_or_from_slice_get, slice_get_within}
use Rattle.rr_store.specs.declared.port.LeftPort.{LeftPort}
use Rattle.rr_store.specs.Draining.{AreApart, HaveQueues, SendersDrained}
use Rattle.rr_store.specs.Leaving.{has_queued, is_of, outdated, queued_left}
use Rattle.rr_store.specs.Parts.{Sender}
use Rattle.rr_store.specs.Views.{sender_of}
use Rattle.rr_store.proofs.leaving.Drained.{drained_none, drained_same, drained_twice}
use Rattle.rr_store.proofs.leaving.Expiring.{early, gather, none_of, queued_kept, spread, turned}
use Rattle.rr_store.proofs.leaving.Outdated.{no_more}

module _ (left : List LeftPort) (leaving : LeftPort) (room : ℕ) where
  -- of those that are queued the oldest, and all with the leaving one where there is no room at all
  outdated_some : (queued : List LeftPort) → 0 < room
      → take (length queued + 1 - room) (queued ++ leaving ∷ []) ≡ take (length queued - (room - 1)) queued
  outdated_some queued some =
      take-append-le (length queued + 1 - room) queued (leaving ∷ []) (omega (arith, some))
      ∙ (let same : length queued + 1 - room ≡ length queued - (room - 1) = omega (arith, some) in ap (λ n. take n queued) same)

  outdated_each : (queued : List LeftPort) → room ≡ 0
      → take (length queued + 1 - room) (queued ++ leaving ∷ []) ≡ take (length queued - (room - 1)) queued ++ leaving ∷ []
  outdated_each queued none =
      take_all (length queued + 1 - room) (queued ++ leaving ∷ []) (omega (arith, none, length-append queued (leaving ∷ [])))
      ∙ ap (λ ps. ps ++ leaving ∷ []) (sym (take_all (length queued - (room - 1)) queued (omega (arith, none))))

  -- what is outdated, by which sender has an entry
  abbrev outdated_by : (ℕ → Bool) → List LeftPort
  outdated_by has =
      cond (has leaving.sender)
      (take (length (filter (λ (l : LeftPort). has l.sender) left) + 1 - room)
      (filter (λ (l : LeftPort). has l.sender) left ++ leaving ∷ []))
      []

  module _ {T N H : Type 0} where
    -- the same is outdated where no queue to the receiver was cleared
    pub outdated_kept : (cut : ℕ → ℕ → Bool) (a b : List (Sender T N H)) → SendersDrained cut a b → (r : ℕ) → ((l : ℕ) → cut l r ≡ false)
        → outdated b left room leaving r ≡ outdated a left room leaving r
    outdated_kept cut a b drained r none = λ k. outdated_by (λ l. queued_kept cut a b drained l r (none l) k)

    module _ (before : List (Sender T N H)) (receiver : ℕ) where
      abbrev queued : List LeftPort
      queued = queued_left before left receiver

      -- what is outdated is expired
      abbrev pub IsExpired : List (Sender T N H) → Type 0
      IsExpired after = SendersDrained (λ l r. r == receiver && is_of (outdated before left room leaving receiver) l) before after

      -- if the leaving one has no entry, that is none
      pub expired_none : has_queued (sender_of leaving.sender before) receiver ≡ false → IsExpired before
      expired_none none =
          drained_same (λ l r. false) (λ l r. r == receiver && is_of (outdated before left room leaving receiver) l) before before
          (λ l r. sym (ap (λ b. r == receiver
          && is_of (cond b (take (length queued + 1 - room) (queued ++ leaving ∷ [])) []) l) none ∙ no_more (r == receiver)))
          (drained_none before)

      module _ (has : has_queued (sender_of leaving.sender before) receiver ≡ true) (excess : ℕ)
          (is : excess ≡ length queued - (room - 1)) (now : List (Sender T N H))
          (so : SendersDrained (λ l r. r == receiver && is_of (take excess queued) l) before now) where
        outdated_is : outdated before left room leaving receiver ≡ take (length queued + 1 - room) (queued ++ leaving ∷ [])
        outdated_is = ap (λ b. cond b (take (length queued + 1 - room) (queued ++ leaving ∷ [])) []) has

        -- the oldest ones where there is room
        pub expired_some : 0 < room → IsExpired now
        expired_some some =
            drained_same (λ l r. r == receiver && is_of (take excess queued) l)
            (λ l r. r == receiver && is_of (outdated before left room leaving receiver) l) before now
            (λ l r. ap (λ ps. r == receiver && is_of ps l)
            (ap (λ n. take n queued) is ∙ sym (outdated_some queued some) ∙ sym outdated_is)) so

        -- and the leaving one where there is none
        pub expired_each : room ≡ 0 → (after : List (Sender T N H))
            → SendersDrained (λ l r. l == leaving.sender && r == receiver) now after → IsExpired after
        expired_each none after then =
            drained_same
            (λ l r. (r == receiver && is_of (take excess queued) l) || (l == leaving.sender && r == receiver))
            (λ l r. r == receiver && is_of (outdated before left room leaving receiver) l) before after
            (λ l r. gather (r == receiver) (is_of (take excess queued) l) (l == leaving.sender)
            ∙ ap (λ b. r == receiver && (is_of (take excess queued) l || (b || false))) (turned l leaving.sender)
            ∙ ap (λ b. r == receiver && b) (sym (list_any-append (λ (p : LeftPort). p.sender == l) (take excess queued) (leaving ∷ [])))
            ∙ ap (λ ps. r == receiver && is_of ps l)
            (ap (λ n. take n queued ++ leaving ∷ []) is ∙ sym (outdated_each queued none) ∙ sym outdated_is))
            (drained_twice (λ l r. r == receiver && is_of (take excess queued) l) (λ l r. l == leaving.sender && r == receiver)
            before now after so then)

    module _ {X : Type 0} (read : X → ℕ) (ports : List X) (before : List (Sender T N H)) where
      -- whether one of the first ports has a receiver
      abbrev among : ℕ → ℕ → Bool
      among i r = list_any (λ p. read p == r) (take i ports)

      -- for the receivers of the first ports they are expired
      pub record IsExpiredBelow (i : ℕ) (now : List (Sender T N H)) : Type 0 where
        pub drained : SendersDrained (λ l r. list_any (λ p. read p == r) (take i ports) && is_of (outdated before left room leaving r) l)
            before now

      pub expired_start : IsExpiredBelow 0 before
      expired_start = record { drained = drained_none before }

      -- senders have the queues that they had
      pub queues_kept : (i : ℕ) (now : List (Sender T N H)) → IsExpiredBelow i now → (r : ℕ) → HaveQueues before r → HaveQueues now r
      queues_kept i now so r have l h = omega (
        arith,
        have l (omega (arith, h, so.drained.many)),
        (so.drained.each l).messages.receivers,
      )

      pub expired_more : (i : ℕ) (now after : List (Sender T N H)) → IsExpiredBelow i now → AreApart read ports → (x : X)
          → slice_get ports i ≡ Some x
          → SendersDrained (λ l r. r == read x && is_of (outdated now left room leaving (read x)) l) now after
          → IsExpiredBelow (i + 1) after
      expired_more i now after so apart x at then = record {
        drained = drained_same
            (λ l r. (among i r && is_of (outdated before left room leaving r) l)
            || (r == read x && is_of (outdated now left room leaving (read x)) l))
            (λ l r. among (i + 1) r && is_of (outdated before left room leaving r) l) before after
            (λ l r. ⊎_elim
            (λ e. ap (λ (ps : List LeftPort). (among i r && is_of (outdated before left room leaving r) l) || (r == read x && is_of ps l))
            (same ∙ ap (outdated before left room leaving) (sym e))
            ∙ spread (among i r) (r == read x) (is_of (outdated before left room leaving r) l)
            ∙ ap (λ b. b && is_of (outdated before left room leaving r) l) (sym (next r)))
            (λ n. ap (λ b. (among i r && is_of (outdated before left room leaving r) l)
            || (b && is_of (outdated now left room leaving (read x)) l)) (ne_eqb r (read x) n)
            ∙ spread (among i r) false (is_of (outdated before left room leaving r) l)
            ∙ ap (λ b. (among i r || b) && is_of (outdated before left room leaving r) l) (sym (ne_eqb r (read x) n))
            ∙ ap (λ b. b && is_of (outdated before left room leaving r) l) (sym (next r)))
            (cases_eq r (read x)))
            (drained_twice (λ l r. among i r && is_of (outdated before left room leaving r) l)
            (λ l r. r == read x && is_of (outdated now left room leaving (read x)) l) before now after so.drained then);
      }
        where
          next : (r : ℕ) → among (i + 1) r ≡ (among i r || (r == read x))
          next r = list_any_more (λ p. read p == r) ports i x (slice_get_within ports i x at)
              ∙ ap (λ (y : X). among i r || (read y == r)) (get_or_from_slice_get ports i x x at)
              ∙ ap (λ b. among i r || b) (turned (read x) r)

          none : among i (read x) ≡ false
          none = none_of (λ p. read p == read x) (take i ports)
              (early (λ p. (read p == read x) ≡ false) i ports
              (λ j y h there. ne_eqb (read y) (read x) (λ e. omega (arith, h, apart j i y x there at e))))

          same : outdated now left room leaving (read x) ≡ outdated before left room leaving (read x)
          same = outdated_kept (λ l r. among i r && is_of (outdated before left room leaving r) l) before now so.drained (read x)
              (λ l. ap (λ b. b && is_of (outdated before left room leaving (read x)) l) none)

      pub expired_all : (i : ℕ) (now : List (Sender T N H)) → IsExpiredBelow i now → length ports ≤ i
          → SendersDrained (λ l r. list_any (λ p. read p == r) ports && is_of (outdated before left room leaving r) l) before now
      expired_all i now so all =
          drained_same (λ l r. among i r && is_of (outdated before left room leaving r) l)
          (λ l r. list_any (λ p. read p == r) ports && is_of (outdated before left room leaving r) l) before now
          (λ l r. ap (λ (ps : List X). list_any (λ p. read p == r) ps && is_of (outdated before left room leaving r) l)
          (take_all i ports all))
          so.drained
