-- Servers as they are stored, and as parts: their queues, marks and numbers.
use Rattle.std.proofs.Common.{◌≡◌, ◌<◌, ◌+◌, ◌*◌, ℕ, Bool, true, false, not, Option, List, [], ◌∷◌, Some, length, map, refl, sym, ap, ◌∙◌, subst, arith}
use Rattle.std.specs.Prelude.{◌&&◌, ◌||◌, count_by, slice_get, slice_index_or}
use Rattle.std.specs.List.{list_any}
use Rattle.std.proofs.lemmas.List.Sums.{count_by-le-length}
use Rattle.rr_table.proofs.Counting.{count-cons}
use Rattle.rr_table.specs.Maps.{mark}
use Rattle.rr_sender.specs.Senders.{Messages}
use Rattle.rr_store.specs.declared.port.ServerPort.{ServerPort}
use Rattle.rr_store.specs.Parts.{ServerPart}
use Rattle.rr_store.specs.Ports.{server_part}
use Rattle.rr_store.specs.Sending.{HasQueues}
use Rattle.rr_store.proofs.base.lookups.Looking.{list_any-map}
use Rattle.rr_store.proofs.base.views.Counts.{listed}

-- where no element passes a test, none passes it and another one
pub none_and : {X : Type 0} (t u : X → Bool) (xs : List X) → list_any t xs ≡ false → list_any (λ x. t x && u x) xs ≡ false
none_and t u [] none = refl
none_and t u (x ∷ xs) none = go (t x) none (none_and t u xs)
  where
    go : (b : Bool) → (b || list_any t xs) ≡ false → (list_any t xs ≡ false → list_any (λ x. t x && u x) xs ≡ false)
        → ((b && u x) || list_any (λ x. t x && u x) xs) ≡ false
    go true e rest = absurd (let f : true ≡ false = e in cc)
    go false e rest = rest e

-- where as many fail a test as there are, none passes it
pub all_fail : {X : Type 0} (t : X → Bool) (xs : List X) → count_by (λ x. not (t x)) xs ≡ length xs → list_any t xs ≡ false
all_fail t [] all = refl
all_fail t (x ∷ xs) all = go (t x) refl (all_fail t xs)
  where
    go : (b : Bool) → t x ≡ b → (count_by (λ x. not (t x)) xs ≡ length xs → list_any t xs ≡ false) → (b || list_any t xs) ≡ false
    go true e rest =
        absurd (omega (
          arith,
          count-cons (λ x. not (t x)) x xs,
          ap (λ b. mark (not b)) e,
          count_by-le-length (λ x. not (t x)) xs,
          all,
        ))
    go false e rest = rest (omega (arith, count-cons (λ x. not (t x)) x xs, ap (λ b. mark (not b)) e, all))

-- what is found at an index is one
pub one_found : {X : Type 0} (xs : List X) (o : Option ℕ) (i j : ℕ) (x y : X) → o ≡ Some i → o ≡ Some j → slice_get xs i ≡ Some x
    → slice_get xs j ≡ Some y → x ≡ y
one_found xs o i j x y first second here there =
    let both : Some i ≡ Some j = sym first ∙ second in
    let same : i ≡ j = cc in
    let found : Some x ≡ Some y = sym here ∙ ap (slice_get xs) same ∙ there in
    cc

module _ {K : Type 0} (items slice : List (ServerPort K)) (same : slice ≡ items) where
  -- a server of the slice is one of the parts
  part_there : (i : ℕ) (s : ServerPort K) → slice_get slice i ≡ Some s → slice_get (map server_part items) i ≡ Some (server_part s)
  part_there i s at = listed server_part items i s (ap (λ (xs : List (ServerPort K)). slice_get xs i) (sym same) ∙ at)

  -- each has a queue
  pub has_queues : {T N H : Type 0} (m : Messages T N H)
      → ((i : ℕ) (s : ServerPart K) → slice_get (map server_part items) i ≡ Some s
      → (s.receiver < length m.queues) × (0 < length (slice_index_or m.queues s.receiver []))) → HasQueues m slice
  has_queues m h i s at = h i (server_part s) (part_there i s at)

  -- also in what was read
  pub queues_seen : {T N H : Type 0} (m read : Messages T N H) → read ≡ m
      → ((i : ℕ) (s : ServerPart K) → slice_get (map server_part items) i ≡ Some s
      → (s.receiver < length m.queues) × (0 < length (slice_index_or m.queues s.receiver []))) → HasQueues read slice
  queues_seen m read is h = subst (λ (m : Messages _ _ _). HasQueues m slice) (sym is) (has_queues m h)

  -- how many of them pass, and whether one does
  pub any_is : (t : ServerPart K → Bool) → list_any (λ s. t (server_part s)) slice ≡ list_any t (map server_part items)
  any_is t = ap (list_any (λ s. t (server_part s))) same ∙ sym (list_any-map server_part t items)

  -- each has a mark
  pub has_marks : (marks : List ℕ) (slot receivers : ℕ)
      → ((i : ℕ) (s : ServerPart K) → slice_get (map server_part items) i ≡ Some s → slot * receivers + s.receiver < length marks)
      → (i : ℕ) (s : ServerPort K) → slice_get slice i ≡ Some s → slot * receivers + s.port.receiver < length marks
  has_marks marks slot receivers h i s at = h i (server_part s) (part_there i s at)
