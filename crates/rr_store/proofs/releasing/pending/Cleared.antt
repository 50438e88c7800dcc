-- The queues from all senders to a receiver's channel were emptied.
use Rattle.std.proofs.Common.{◌≡◌, ◌<◌, ◌≤◌, ◌+◌, ℕ, zero, suc, List, [], ◌∷◌, length, get_or, map, refl, sym, ap, ◌∙◌, subst, ⊎_elim, arith}
use Rattle.std.proofs.lemmas.Bool.{cases_eq, cases_lt}
use Rattle.std.proofs.lemmas.List.{get_or_past, get_or-set_same, get_or-set_other, ext_get_or, length-map, length-set}
use Rattle.rr_sender.specs.Senders.{times, all_entries, at_two, set_two, queue_at}
use Rattle.rr_sender.proofs.EntryLaws.{times-set_two, at_two-set_two, length-set_two}
use Rattle.std.specs.Prelude.{slice_set}
use Rattle.rr_store.specs.Clearing.{with_empty_queue, channel_cleared, IsClearedBelow}
use Rattle.rr_store.specs.Frames.{SenderAlike, SendersAlike}
use Rattle.rr_store.specs.Parts.{Sender}
use Rattle.rr_store.specs.Sound.{IsShaped}
use Rattle.rr_store.specs.Views.{sender_of, no_sender}
use Rattle.rr_store.proofs.base.hands.Hands.{senders_same}
use Rattle.rr_store.proofs.base.lists.SetTwo.{other_row, other_column, row_length}

module _ {T N H : Type 0} (receiver channel : ℕ) where
  -- nothing is emptied where there is no sender
  none_cleared : with_empty_queue receiver channel (no_sender {T = T} {N = N} {H = H}) ≡ no_sender
  none_cleared = refl

  -- the sender at an index
  pub cleared_at : (senders : List (Sender T N H)) (l : ℕ) → sender_of l
      (map (with_empty_queue receiver channel) senders) ≡ with_empty_queue receiver channel (sender_of l senders)
  cleared_at [] l = sym none_cleared
  cleared_at (x ∷ senders) zero = refl
  cleared_at (x ∷ senders) (suc l) = cleared_at senders l

module _ {T N H : Type 0} (senders : List (Sender T N H)) (receivers channels capacity receiver channel : ℕ)
    (shaped : (l : ℕ) → l < length senders → IsShaped receivers channels capacity (sender_of l senders).messages)
    (placed : receiver < receivers) (inside : channel < channels) where
  abbrev pub after : List (Sender T N H)
  after = map (with_empty_queue receiver channel) senders

  -- a sender is there, or both are none
  within_or : {Z : Type 0} (l : ℕ) → (l < length senders → Z) → (sender_of l after ≡ sender_of l senders → Z) → Z
  within_or l there past =
      ⊎_elim there
      (λ h. past (get_or_past after l no_sender (omega (arith, h, length-map senders (with_empty_queue receiver channel)))
      ∙ sym (get_or_past senders l no_sender h)))
      (cases_lt l (length senders))

  is : (l : ℕ) → sender_of l after ≡ with_empty_queue receiver channel (sender_of l senders)
  is l = cleared_at receiver channel senders l

  queues : (l r c : ℕ) → queue_at (sender_of l after).messages r c
      ≡ at_two [] (set_two (sender_of l senders).messages.queues receiver channel []) r c
  queues l r c = ap (λ (x : Sender T N H). queue_at x.messages r c) (is l)

  in_rows : (l : ℕ) → l < length senders → receiver < length (sender_of l senders).messages.queues
  in_rows l h = omega (arith, placed, (shaped l h).queues)

  in_columns : (l : ℕ) → l < length senders → channel < length (get_or (sender_of l senders).messages.queues receiver [])
  in_columns l h = omega (arith, inside, (shaped l h).queue_channels receiver placed)

  -- the queue is empty
  pub queue_here : (l : ℕ) → l < length senders → queue_at (sender_of l after).messages receiver channel ≡ []
  queue_here l h = queues l receiver channel ∙ at_two-set_two [] (sender_of l senders).messages.queues receiver channel (in_rows l h)
      (in_columns l h) []

  -- every other one is as it was
  pub queue_there : (l r c : ℕ) → (r ≡ receiver → c ≡ channel → ⊥)
      → queue_at (sender_of l after).messages r c ≡ queue_at (sender_of l senders).messages r c
  queue_there l r c other =
      within_or l
      (λ h. ⊎_elim
      (λ e. ap (λ r. queue_at (sender_of l after).messages r c) e ∙ queues l receiver c
      ∙ other_column (sender_of l senders).messages.queues receiver channel [] [] (in_rows l h) c (λ f. other e f)
      ∙ sym (ap (λ r. queue_at (sender_of l senders).messages r c) e))
      (λ far. queues l r c ∙ other_row (sender_of l senders).messages.queues receiver channel [] [] r c far)
      (cases_eq r receiver))
      (λ e. ap (λ (x : Sender T N H). queue_at x.messages r c) e)

  -- each is one or the other
  pub queue_cases : {Z : Type 0} (l r c : ℕ) → (queue_at (sender_of l after).messages r c ≡ [] → Z)
      → (queue_at (sender_of l after).messages r c ≡ queue_at (sender_of l senders).messages r c → Z) → Z
  queue_cases {Z} l r c empty same =
      within_or l
      (λ h. ⊎_elim
      (λ e. ⊎_elim
      (λ f. empty (ap (λ r. queue_at (sender_of l after).messages r c) e ∙ ap (λ c. queue_at (sender_of l after).messages receiver c) f
      ∙ queue_here l h))
      (λ n. same (queue_there l r c (λ _ f. n f)))
      (cases_eq c channel))
      (λ n. same (queue_there l r c (λ e _. n e)))
      (cases_eq r receiver))
      (λ e. same (ap (λ (x : Sender T N H). queue_at x.messages r c) e))

  pub queue_less : (l r c i : ℕ) → times i (queue_at (sender_of l after).messages r c) ≤ times i
      (queue_at (sender_of l senders).messages r c)
  queue_less l r c i = queue_cases l r c (λ e. omega (arith, ap (times i) e)) (λ e. omega (arith, ap (times i) e))

  pub stays_empty : (l r c : ℕ) → queue_at (sender_of l senders).messages r c ≡ [] → queue_at (sender_of l after).messages r c ≡ []
  stays_empty l r c none = queue_cases l r c (λ e. e) (λ e. e ∙ none)

  pub all_less : (l i : ℕ) → times i (all_entries (sender_of l after).messages.queues) ≤ times i
      (all_entries (sender_of l senders).messages.queues)
  all_less l i =
      within_or l
      (λ h. omega (
        arith,
        ap (λ (x : Sender T N H). times i (all_entries x.messages.queues)) (is l),
        times-set_two (sender_of l senders).messages.queues receiver channel (in_rows l h) (in_columns l h) i [],
      ))
      (λ e. omega (arith, ap (λ (x : Sender T N H). times i (all_entries x.messages.queues)) e))

  alike_there : (l : ℕ) → l < length senders → SenderAlike (sender_of l senders) (with_empty_queue receiver channel (sender_of l senders))
  alike_there l there = record {
    owner = refl;
    row = refl;
    receiver = refl;
    has_value = refl;
    slots = refl;
    room = refl;
    marks = refl;
    shaped = λ r n k h. record {
      contents = h.contents;
      details = h.details;
      user_headers = h.user_headers;
      queues = length-set_two (sender_of l senders).messages.queues receiver channel [] ∙ h.queues;
      borrowed = h.borrowed;
      queue_channels = λ q small. row_length (sender_of l senders).messages.queues receiver channel [] [] q ∙ h.queue_channels q small;
      borrowed_channels = h.borrowed_channels;
      capacity_is = h.capacity_is;
      within = λ q c. queue_cases l q c
          (λ e. omega (arith, ap length (sym (queues l q c) ∙ e)))
          (λ e. omega (arith, ap length (sym (queues l q c) ∙ e), h.within q c));
      inside = λ i some. h.inside i (omega (
        arith,
        some,
        all_less l i,
        ap (λ (x : Sender T N H). times i (all_entries x.messages.queues)) (is l),
      ));
    };
  }

  -- the senders are of the same sizes
  pub cleared_alike : SendersAlike senders after
  cleared_alike = record {
    many = length-map senders (with_empty_queue receiver channel);
    each = λ l. within_or l
        (λ h. subst (λ x. SenderAlike (sender_of l senders) x) (sym (is l)) (alike_there l h))
        (λ e. subst (λ x. SenderAlike (sender_of l senders) x) (sym e) ((senders_same senders).each l));
  }

-- senders are emptied one after another
module _ {T N H : Type 0} (receiver channel : ℕ) (senders : List (Sender T N H)) where
  -- the sender at an index
  pub dropped_at : (all : List (Sender T N H)) (l : ℕ) → sender_of l (map (channel_cleared receiver channel) all)
      ≡ channel_cleared receiver channel (sender_of l all)
  dropped_at [] l = refl
  dropped_at (x ∷ all) zero = refl
  dropped_at (x ∷ all) (suc l) = dropped_at all l

  pub cleared_none : IsClearedBelow receiver channel 0 senders senders
  cleared_none = record { many = refl; done = λ l h. absurd (omega (arith, h)); rest = λ l h. refl }

  pub cleared_more : (n : ℕ) (now : List (Sender T N H)) → IsClearedBelow receiver channel n senders now → n < length senders
      → (x : Sender T N H)
      → sender_of n now ≡ x → IsClearedBelow receiver channel (n + 1) senders (slice_set now n (channel_cleared receiver channel x))
  cleared_more n now so there x is = record {
    many = length-set now n (channel_cleared receiver channel x) ∙ so.many;
    done = λ l h w. ⊎_elim
        (λ e. ap (λ i. sender_of i (slice_set now n (channel_cleared receiver channel x))) e
        ∙ get_or-set_same now n (channel_cleared receiver channel x) no_sender (omega (arith, there, so.many))
        ∙ ap (channel_cleared receiver channel) (sym is ∙ so.rest n (omega arith))
        ∙ ap (λ i. channel_cleared receiver channel (sender_of i senders)) (sym e))
        (λ e. get_or-set_other now n l (channel_cleared receiver channel x) no_sender e ∙ so.done l (below l h e) w)
        (cases_eq l n);
    rest = λ l h. get_or-set_other now n l (channel_cleared receiver channel x) no_sender (λ e. omega (arith, e, h))
        ∙ so.rest l (omega (arith, h));
  }
    where
      below : (l : ℕ) → l < n + 1 → (l ≡ n → ⊥) → l < n
      below l h e = ⊎_elim (λ g. g) (λ g. absurd (e (omega (arith, h, g)))) (cases_lt l n)

  pub cleared_all : (n : ℕ) (now : List (Sender T N H)) → IsClearedBelow receiver channel n senders now → length senders ≤ n
      → now ≡ map (channel_cleared receiver channel) senders
  cleared_all n now so all =
      ext_get_or no_sender now (map (channel_cleared receiver channel) senders)
      (so.many ∙ sym (length-map senders (channel_cleared receiver channel)))
      (λ l h. so.done l (omega (arith, h, all, so.many)) (omega (arith, h, so.many)) ∙ sym (dropped_at senders l))
