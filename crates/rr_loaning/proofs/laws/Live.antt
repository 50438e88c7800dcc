-- A port has as many live messages as slots of its sender are in use, in either direction.
use Rattle.std.proofs.Common.{◌≡◌, ◌≢◌, ◌<◌, ℕ, Bool, true, false, not, List, [], ◌∷◌, ◌++◌, Option, None, Some, length, map, refl, sym, ap, ◌∙◌, subst, ⊎_elim, arith}
use Rattle.std.specs.Prelude.{◌==◌, ◌&&◌, ◌||◌, slice_get, slice_index, filter, filter_map, find}
use Rattle.std.specs.List.{list_any}
use Rattle.std.specs.Option.{option_map_or}
use Rattle.std.specs.declared.cmp.Ordering.{Ordering}
use Rattle.std.specs.Cmp.{IsTotalOrder, nat_cmp_total}
use Rattle.std.specs.FinMap as fin_map
use Rattle.std.proofs.lemmas.Bool.{cases_lt, eq-eqb, eqb-true, and_parts, or_cases, false≢true}
use Rattle.std.proofs.lemmas.List.{get_or_past}
use Rattle.std.proofs.lemmas.List.Folds.{list_any-append}
use Rattle.std.proofs.lemmas.Option.{slice_get-get_or, get_or_from_slice_get, slice_get_within}
use Rattle.rr_table.specs.TableView.{TableEntry}
use Rattle.rr_table.proofs.ListFacts.{any-map, any-filter_map, or_true}
use Rattle.rr_table.proofs.MapLaws.{entries-map_values}
use Rattle.rr_table.proofs.Members.{any-filtered, any-flat, entry_gives, entry_there, tally_gives}
use Rattle.rr_sender.specs.Senders.{Messages, times, queue_at, all_entries, borrowed_at, uses, used_count}
use Rattle.rr_protocol.specs.Lists.{Lists, list_of, at, all_elements}
use Rattle.rr_protocol.specs.Messages.{Handle}
use Rattle.rr_protocol.specs.State.{all_handles}
use Rattle.rr_protocol.specs.Counts.{distinct_count}
use Rattle.rr_store.specs.declared.handle_entry.HandleEntry.{HandleEntry}
use Rattle.rr_store.specs.declared.handle_entry.Stage.{Stage}
use Rattle.rr_store.specs.Parts.{Parts, Connected, Sender}
use Rattle.rr_store.specs.Views.{sender_of, no_sender, state_of, handle_of, handle_in}
use Rattle.rr_store.specs.Sound.{empty_hand, handles}
use Rattle.rr_store.proofs.base.lists.Distinct.{distinct_used}
use Rattle.rr_store.proofs.base.senders.Entries.{any_slot, slot_there, entry_somewhere, used_counted, found_alone, somewhere, some_used, used_some}
use Rattle.rr_store.proofs.base.views.Counts.{listed}
use Rattle.rr_store.proofs.base.lists.Found.{found_somewhere}
use Rattle.rr_store.proofs.base.senders.Queues.{times_queue}

-- the messages of a direction: who sends them and where they wait, which handles have them, and the port in question
module _ {T N H M K Z A Q QH P PH : Type 0} {cmp : A → A → Ordering} (p : Parts Q QH P PH K) (in_slot : Messages T N H → ℕ → M)
    (senders : List (Sender T N H)) (connected : Z → Connected K) (receivers : List Z) (number_of port_of : M → ℕ) (is_of : Stage → Bool)
    (message_in : Handle Q QH P PH → Option M) (order : IsTotalOrder cmp) (lists : Lists cmp M) (c : Connected K) where
  -- the port's slots
  abbrev m : Messages T N H
  m = (sender_of c.sender senders).messages

  -- a message by sender and slot, and how many handles and entries have it
  abbrev message_at : ℕ → ℕ → M
  message_at sender slot = in_slot (sender_of sender senders).messages slot

  abbrev uses_at : ℕ → ℕ → ℕ
  uses_at sender slot = uses (sender_of sender senders).messages slot

  -- whether a handle is of the message in a slot
  abbrev is_at : ℕ → ℕ → HandleEntry → Bool
  is_at sender slot h = is_of h.stage && (h.sender == sender && h.slot == slot)

  -- what waits from one port to another on a channel, the oldest first
  abbrev waiting : ℕ → ℕ → ℕ → List M
  waiting owner id channel =
      option_map_or
      (λ z.
      option_map_or
      (λ l. map (in_slot l.messages) (queue_at l.messages (connected z).receiver channel))
      (find (λ l. l.owner == owner) senders)
      [])
      (find (λ z. (connected z).port.id == id) receivers)
      []

  -- what is true of them: a handle has its message, a slot is held as often as it has handles, a message says who sent it,
  -- numbers are apart, nothing waits where no port receives, and each list stands at its key
  pub record IsDirection : Type 0 where
    pub any : (t : M → Bool) (g : Stage) (sender slot : ℕ)
        → option_map_or t (message_in (handle_in p g sender slot)) false ≡ (is_of g && t (message_at sender slot))
    pub counted : (sender slot : ℕ) → slice_index (sender_of sender senders).messages.held slot ≡ handles p (is_at sender slot) empty_hand
    pub in_use : (k : ℕ) (s : TableEntry HandleEntry) → fin_map.get p.table.entries k ≡ Some s → is_of s.value.stage ≡ true
        → 0 < uses_at s.value.sender s.value.slot
    pub addressed : (sender slot : ℕ) → 0 < uses_at sender slot → port_of (message_at sender slot) ≡ (sender_of sender senders).owner
    pub apart : (l i k j : ℕ) → 0 < uses_at l i → 0 < uses_at k j → number_of (message_at l i) ≡ number_of (message_at k j)
        → (l ≡ k) × (i ≡ j)
    pub within : c.sender < length senders
    pub owner : (sender_of c.sender senders).owner ≡ c.port.id
    pub owned_once : (i j : ℕ) → i < length senders → j < length senders → (sender_of i senders).owner ≡ (sender_of j senders).owner
        → i ≡ j
    pub inside : (slot : ℕ) → 0 < uses m slot → slot < length m.held
    pub numbered_once : (i j : ℕ) (y z : Connected K) → slice_get (map connected receivers) i ≡ Some y
        → slice_get (map connected receivers) j ≡ Some z → y.port.id ≡ z.port.id → i ≡ j
    pub vacated : (receiver channel : ℕ) → ((i : ℕ) (z : Z) → slice_get receivers i ≡ Some z → (connected z).receiver ≢ receiver)
        → (queue_at m receiver channel ≡ []) × (borrowed_at m receiver channel ≡ 0)
    pub at_key : (key : A) → (owner : ℕ) × (id : ℕ) × (channel : ℕ) × (at lists key ≡ waiting owner id channel)
    pub key_of : (j : ℕ) (z : Z) → slice_get receivers j ≡ Some z → (channel i : ℕ)
        → 0 < times i (queue_at m (connected z).receiver channel)
        → (key : A) × (at lists key ≡ waiting c.port.id (connected z).port.id channel)

  module _ (direction : IsDirection) where
    -- whether a message is the port's, with this number
    abbrev tests : ℕ → M → Bool
    tests x message = (port_of message == c.port.id) && (number_of message == x)

    -- the numbers of the port's messages in handles, and in lists
    abbrev numbers : List ℕ
    numbers = map number_of
        (filter (λ message. port_of message == c.port.id) (filter_map message_in (all_handles (state_of p)) ++ all_elements lists))

    -- whether it is in a handle, or in a list
    abbrev in_handle : ℕ → TableEntry HandleEntry → Bool
    in_handle x s = option_map_or (tests x) (message_in (handle_of p s)) false

    abbrev in_list : ℕ → M × List M → Bool
    in_list x kept = list_any (tests x) (kept.0 ∷ kept.1)

    abbrev Handled : ℕ → Type 0
    Handled x = list_any (λ e. in_handle x e.1) (fin_map.entries p.table.entries) ≡ true

    abbrev Listed : ℕ → Type 0
    Listed x = list_any (λ e. in_list x e.1) (fin_map.entries lists) ≡ true

    -- a number is that of a message in a handle, or in a list
    split : (x : ℕ) → list_any (λ n. n == x) numbers
        ≡ (list_any (λ e. in_handle x e.1) (fin_map.entries p.table.entries) || list_any (λ e. in_list x e.1) (fin_map.entries lists))
    split x =
        let handled = filter_map message_in (all_handles (state_of p)) in
        let holds : Handle Q QH P PH → Bool = λ handle. option_map_or (tests x) (message_in handle) false in
        any-map number_of (λ n. n == x) (filter (λ message. port_of message == c.port.id) (handled ++ all_elements lists))
        ∙ any-filtered (λ message. number_of message == x) (λ message. port_of message == c.port.id) (handled ++ all_elements lists)
        ∙ list_any-append (tests x) handled (all_elements lists)
        ∙ ap (λ b. b || list_any (tests x) (all_elements lists))
        (any-filter_map message_in (tests x) (all_handles (state_of p))
        ∙ any-map (λ e. e.1) holds (fin_map.entries (state_of p).handles)
        ∙ ap (list_any (λ e. holds e.1)) (entries-map_values (handle_of p) p.table.entries)
        ∙ any-map (λ (e : ℕ × TableEntry HandleEntry). (e.0, handle_of p e.1)) (λ e. holds e.1) (fin_map.entries p.table.entries))
        ∙ ap (λ b. list_any (λ e. in_handle x e.1) (fin_map.entries p.table.entries) || b)
        (any-flat (tests x) (λ kept. kept.0 ∷ kept.1) (fin_map.values lists) ∙ any-map (λ e. e.1) (in_list x) (fin_map.entries lists))

    abbrev number : ℕ → ℕ
    number i = number_of (message_at c.sender i)

    abbrev used : ℕ → Bool
    used i = not (uses m i == 0)

    abbrev Shown : ℕ → Type 0
    Shown x = (i : ℕ) × (i < length m.held) × (used i ≡ true) × (number i ≡ x)

    -- a used slot whose message is the port's is one of the port's sender
    slot_of : (x sender slot : ℕ) → 0 < uses_at sender slot → tests x (message_at sender slot) ≡ true → Shown x
    slot_of x sender slot some h =
        let both = and_parts (port_of (message_at sender slot) == c.port.id) (number_of (message_at sender slot) == x) h in
        let there : sender < length senders = ⊎_elim (λ h. h)
        (λ h. absurd (omega (arith, some, ap (λ (l : Sender T N H). uses l.messages slot) (get_or_past senders sender no_sender h))))
        (cases_lt sender (length senders)) in
        let same : sender ≡ c.sender = direction.owned_once sender c.sender there direction.within
        (sym (direction.addressed sender slot some) ∙ eqb-true _ _ both.0 ∙ sym direction.owner) in
        let here : 0 < uses m slot = subst (λ l. 0 < uses_at l slot) same some in (
          slot,
          direction.inside slot here,
          some_used _ here,
          sym (ap (λ l. number_of (message_at l slot)) same) ∙ eqb-true _ _ both.1,
        )

    -- a number in a handle, or in a list, is that of a slot
    from_handle : (x : ℕ) → Handled x → Shown x
    from_handle x h =
        let e = entry_gives nat_cmp_total (in_handle x) p.table.entries h in
        let both = and_parts (is_of e.1.value.stage) (tests x (message_at e.1.value.sender e.1.value.slot))
        (sym (direction.any (tests x) e.1.value.stage e.1.value.sender e.1.value.slot) ∙ e.3) in
        slot_of x e.1.value.sender e.1.value.slot (direction.in_use e.0 e.1 e.2 both.0) both.1

    from_list : (x : ℕ) → Listed x → Shown x
    from_list x h =
        let e = entry_gives order (in_list x) lists h in
        let key = direction.at_key e.0 in
        go key.0 key.1 key.2 (find (λ z. (connected z).port.id == key.1) receivers) (find (λ l. l.owner == key.0) senders) refl
        (ap (list_any (tests x)) (sym key.3 ∙ ap list_of e.2) ∙ e.3)
      where
        go : (owner id channel : ℕ) (receiver : Option Z) (sender : Option (Sender T N H)) → find (λ l. l.owner == owner) senders ≡ sender
            → list_any (tests x) (option_map_or (λ z. option_map_or
            (λ l. map (in_slot l.messages) (queue_at l.messages (connected z).receiver channel)) sender []) receiver []) ≡ true → Shown x
        go owner id channel None sender e t = absurd (false≢true t)
        go owner id channel (Some z) None e t = absurd (false≢true t)
        go owner id channel (Some z) (Some l) e t =
            let queue = queue_at l.messages (connected z).receiver channel in
            let k = found_somewhere (λ l. l.owner == owner) senders l e in
            let is : sender_of k.0 senders ≡ l = get_or_from_slice_get senders k.0 l no_sender k.1 in
            let j = any_slot (λ j. tests x (in_slot l.messages j)) queue (sym (any-map (in_slot l.messages) (tests x) queue) ∙ t) in
            let here : 0 < uses l.messages j.0 = omega (arith, j.1, times_queue l.messages j.0 (connected z).receiver channel) in
            slot_of x k.0 j.0 (subst (λ (l : Sender T N H). 0 < uses l.messages j.0) (sym is) here)
            (ap (λ (l : Sender T N H). tests x (in_slot l.messages j.0)) is ∙ j.2)

    -- each number is that of a slot
    shown : (x : ℕ) → list_any (λ n. n == x) numbers ≡ true → Shown x
    shown x h = ⊎_elim (from_handle x) (from_list x) (or_cases _ _ (sym (split x) ∙ h))

    -- the message of a used slot is the port's
    is_its : (i : ℕ) → 0 < uses m i → tests (number i) (message_at c.sender i) ≡ true
    is_its i some = rw (eq-eqb (port_of (message_at c.sender i)) c.port.id (direction.addressed c.sender i some ∙ direction.owner))
        (eq-eqb (number i) (number i) refl)

    -- a slot that is held has a handle, and one that waits stands in a list
    to_handle : (i : ℕ) → 0 < slice_index m.held i → Handled (number i)
    to_handle i entry =
        let e = tally_gives (λ (s : TableEntry HandleEntry). is_at c.sender i s.value) p.table.entries
        (omega (arith, entry, direction.counted c.sender i)) in
        let both = and_parts (is_of e.1.value.stage) _ e.3 in
        let place = and_parts (e.1.value.sender == c.sender) (e.1.value.slot == i) both.1 in
        let says : tests (number i) (message_at e.1.value.sender e.1.value.slot) ≡ true =
        ap (λ l. tests (number i) (message_at l e.1.value.slot)) (eqb-true _ _ place.0)
        ∙ ap (λ j. tests (number i) (message_at c.sender j)) (eqb-true _ _ place.1) ∙ is_its i (omega (arith, entry)) in
        entry_there nat_cmp_total (in_handle (number i)) p.table.entries e.0 e.1 e.2
        (direction.any (tests (number i)) e.1.value.stage e.1.value.sender e.1.value.slot ∙ rw both.0 says)

    to_list : (i : ℕ) → 0 < times i (all_entries m.queues) → Listed (number i)
    to_list i some =
        let e = entry_somewhere m.queues i some in
        ⊎_elim
        (λ s. with_receiver e.1 s.0 s.1 s.2 (subst (λ r. 0 < times i (queue_at m r e.1)) (sym s.3) e.2))
        (λ none. absurd (omega (arith, e.2, ap (times i) (direction.vacated e.0 e.1 none).0)))
        (somewhere (λ z. (connected z).receiver) receivers e.0)
      where
        kept : (key : A) (o : Option (M × List M)) → fin_map.get lists key ≡ o → list_any (tests (number i)) (list_of o) ≡ true
            → Listed (number i)
        kept key None e t = absurd (false≢true t)
        kept key (Some k) e t = entry_there order (in_list (number i)) lists key k e t

        with_receiver : (channel j : ℕ) (z : Z) → slice_get receivers j ≡ Some z → 0 < times i (queue_at m (connected z).receiver channel)
            → Listed (number i)
        with_receiver channel j z there waits =
            let key = direction.key_of j z there channel i waits in
            let queue = queue_at m (connected z).receiver channel in
            let receiver : find (λ y. (connected y).port.id == (connected z).port.id) receivers ≡ Some z =
            found_alone (λ y. (connected y).port.id == (connected z).port.id) receivers j z there
            (eq-eqb (connected z).port.id (connected z).port.id refl)
            (λ k y e same. direction.numbered_once k j (connected y) (connected z) (listed connected receivers k y e)
            (listed connected receivers j z there) (eqb-true (connected y).port.id (connected z).port.id same)) in
            let sender : find (λ l. l.owner == c.port.id) senders ≡ Some (sender_of c.sender senders) =
            found_alone (λ (l : Sender T N H). l.owner == c.port.id) senders c.sender (sender_of c.sender senders)
            (slice_get-get_or senders c.sender no_sender direction.within) (eq-eqb _ _ direction.owner)
            (λ k l e same. direction.owned_once k c.sender (slice_get_within senders k l e) direction.within
            (ap (λ (l : Sender T N H). l.owner) (get_or_from_slice_get senders k l no_sender e)
            ∙ eqb-true l.owner c.port.id same ∙ sym direction.owner)) in
            let queued : waiting c.port.id (connected z).port.id channel ≡ map (in_slot m) queue = rw receiver (rw sender refl) in
            kept key.0 (fin_map.get lists key.0) refl
            (ap (list_any (tests (number i))) (key.1 ∙ queued) ∙ any-map (in_slot m) (tests (number i)) queue
            ∙ slot_there (λ j. tests (number i) (in_slot m j)) queue i waits
            (is_its i (omega (arith, waits, times_queue m i (connected z).receiver channel))))

    -- each used slot's number is there
    listed_all : (i : ℕ) → i < length m.held → used i ≡ true → list_any (λ n. n == number i) numbers ≡ true
    listed_all i h u =
        split (number i)
        ∙ ⊎_elim
        (λ l. ap (λ b. b || list_any (λ e. in_list (number i) e.1) (fin_map.entries lists)) (to_handle i l))
        (λ l. or_true _ _ (to_list i (omega (arith, l, used_some _ u))))
        (cases_lt 0 (slice_index m.held i))

    -- as many live messages as used slots
    pub live_used : distinct_count numbers ≡ used_count m
    live_used =
        distinct_used number used (length m.held)
        (λ i j _ _ u v e. (direction.apart c.sender i c.sender j (used_some _ u) (used_some _ v) e).1) numbers shown listed_all
        ∙ sym (used_counted m (length m.held))
