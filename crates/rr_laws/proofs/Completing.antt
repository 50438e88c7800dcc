-- After one more event a request has still received all that does not stand in a list.
use Rattle.std.proofs.Common.{◌≡◌, ℕ, ◌<◌, ◌≤◌, Bool, true, false, cond, List, [], ◌∷◌, ◌++◌, Some, None, refl, sym, ap, ◌∙◌, subst, ⊎_elim, inl, inr, arith, append_assoc}
use Rattle.std.specs.Prelude.{◌⊎◌, ◌||◌, filter, filter_map}
use Rattle.std.specs.List.{list_any, cons_option}
use Rattle.std.proofs.lemmas.List.{append-nil}
use Rattle.std.proofs.lemmas.List.Folds.{list_any-append}
use Rattle.rr_protocol.specs.Ports.{Server}
use Rattle.rr_protocol.specs.State.{State, server_at, is_server_value}
use Rattle.rr_protocol.specs.AnswerRule.{Event, IsSubsequence, IsPrefix, is_active_of, sent_by, received_by, lender_of, creates_waiting, is_release, is_answer, sent_for, received_from}
use Rattle.rr_laws.specs.Reached.{IsReached}
use Rattle.rr_laws.specs.Following.{queued, WasReceived, Follows}
use Rattle.rr_laws.specs.Settling.{IsServing, IsNew, IsWaiting, Settles}
use Rattle.rr_laws.specs.Completing.{IsUnderWay, Completes}
use Rattle.rr_laws.proofs.Occurring.{false_is_true}
use Rattle.rr_laws.proofs.Growing.{EventFits, received_parts, sent_for-grown}
use Rattle.rr_laws.proofs.Following.{received_same}

-- a list is the first of a longer one
pub prefix_longer : (xs ys zs : List ℕ) → IsPrefix xs ys → IsPrefix xs (ys ++ zs)
prefix_longer xs ys zs h = (h.0 ++ zs, ap (λ l. l ++ zs) h.1 ∙ append_assoc xs h.0 zs)

-- and so is the first part of it
pub prefix_front : (xs ys zs : List ℕ) → IsPrefix (xs ++ ys) zs → IsPrefix xs zs
prefix_front xs ys zs h = (ys ++ h.0, h.1 ∙ append_assoc xs ys h.0)

-- the same list is
pub prefix_same : (xs ys : List ℕ) → xs ≡ ys → IsPrefix xs ys
prefix_same xs ys e = ([], sym e ∙ sym (append-nil xs))

-- nothing is a part of the empty list but itself
pub part_of_empty : (xs : List ℕ) → IsSubsequence xs [] → xs ≡ []
part_of_empty [] h = refl
part_of_empty (x ∷ xs) h = absurd h

-- a test that nothing passes finds nothing
pub any_never : {X : Type 0} (f : X → Bool) → ((x : X) → f x ≡ false) → (xs : List X) → list_any f xs ≡ false
any_never f never [] = refl
any_never f never (x ∷ xs) = ap (λ b. b || list_any f xs) (never x) ∙ any_never f never xs

-- and chooses nothing
pub filter_never : (f : ℕ → Bool) → ((x : ℕ) → f x ≡ false) → (xs : List ℕ) → filter f xs ≡ []
filter_never f never [] = refl
filter_never f never (x ∷ xs) = ap (λ b. cond b (x ∷ filter f xs) (filter f xs)) (never x) ∙ filter_never f never xs

-- a test that can't pass fails
fails : (b : Bool) → (b ≡ true → ⊥) → b ≡ false
fails true h = absurd (h refl)
fails false h = refl

-- two tests of which one passes
either_part : (a b : Bool) → (a || (b || false)) ≡ true → (a ≡ true) ⊎ (b ≡ true)
either_part true b e = inl refl
either_part false true e = inr refl
either_part false false e = absurd (false_is_true e)

-- two tests that fail
neither_part : (a b : Bool) → (a || (b || false)) ≡ false → (a ≡ false) × (b ≡ false)
neither_part true b e = absurd (false_is_true (sym e))
neither_part false true e = absurd (false_is_true (sym e))
neither_part false false e = (refl, refl)

module _ {T H K : Type 0} where
  -- a request that no server with this number received gets no answers from it
  pub unasked_answers : (history : List (Event T H K)) (server p : ℕ) → ((a : ℕ) → WasReceived history server a p → ⊥) → (k : ℕ)
      → is_answer history server p k ≡ false
  unasked_answers history server p not k = any_never (λ a. list_any (is_active_of server a p) history)
      (λ a. fails (list_any (is_active_of server a p) history) (not a)) (filter_map (lender_of k) history)

module _ {T H Q QH P PH K : Type 0} where
  -- nothing new was received
  pub new_unasked : (history : List (Event T H K)) (s : State Q QH P PH K) → Completes history s → (server p : ℕ) → IsNew s server p
      → (a : ℕ) → WasReceived history server a p → ⊥
  new_unasked history s completes server p new a was =
      let way = completes.under_way a server p was in
      ⊎_elim
      (λ high. absurd (omega (arith, high, way.server_given)))
      (λ request. ⊎_elim
      (λ high. absurd (omega (arith, high, way.request_given)))
      (λ loaned. absurd (way.sent loaned.0 loaned.1))
      request)
      new

module _ {T H Q QH P PH K : Type 0} {Begins : ℕ → ℕ → Type 0} {Ends : ℕ → Type 0} {GoesOn : ℕ → ℕ → List ℕ → List ℕ → Type 0}
    (history : List (Event T H K)) (event : Event T H K) (old new : State Q QH P PH K) (fits : IsReached old)
    (completes : Completes history old) (settles : Settles Begins Ends GoesOn old new) (limits : new.limits ≡ old.limits) where
  -- what was under way is
  pub way_later : (server p : ℕ) → IsUnderWay old server p → IsUnderWay new server p
  way_later server p way = record {
    server_given = omega (arith, way.server_given, settles.next);
    request_given = omega (arith, way.request_given, settles.next);
    sent = λ q e. ⊎_elim (λ was. way.sent q was) (λ high. absurd (omega (arith, high, way.request_given))) (settles.loaned p q e);
    no_server = λ c e. ⊎_elim (λ was. way.no_server was.0 was.1) (λ high. absurd (omega (arith, high, way.request_given)))
        (settles.servers p c e);
  }

  -- what is to be said of an event: what it makes active, which server it creates, which it ends, and of the lists
  pub completes_on : ((a server p : ℕ) → is_active_of server a p event ≡ true → IsUnderWay new server p) →
      ((n : ℕ) → creates_waiting n event ≡ true → (old.next ≤ n) × (n < new.next)
      × ((c : Server K) → server_at new n ≡ Some c → IsWaiting c) × (is_server_value new n ≡ true)) →
      ((n : ℕ) → Ends n → is_release n event ≡ true) →
      (new.limits.enable_safe_overflow_for_responses ≡ false → (server p : ℕ) → creates_waiting server event ≡ true
      → received_from (history ++ event ∷ []) server p ++ queued new server p ≡ sent_for (history ++ event ∷ []) server p) →
      (new.limits.enable_safe_overflow_for_responses ≡ false → (server p : ℕ) → list_any (creates_waiting server) history ≡ true
      → IsServing new server p →
      received_from (history ++ event ∷ []) server p ++ queued new server p ≡ sent_for (history ++ event ∷ []) server p) →
      (new.limits.enable_safe_overflow_for_responses ≡ false → (server p : ℕ) → list_any (creates_waiting server) history ≡ true →
      IsPrefix (received_from (history ++ event ∷ []) server p ++ queued new server p) (sent_for (history ++ event ∷ []) server p)) →
      Completes (history ++ event ∷ []) new
  completes_on active creates ends created whole first = record {
    under_way = λ a server p was. ⊎_elim
        (λ before. way_later server p (completes.under_way a server p before))
        (λ now. active a server p now)
        (received_parts history event server a p was);
    given = λ n made. ⊎_elim
        (λ before. omega (arith, completes.given n before, settles.next))
        (λ now. (creates n now).1)
        (parts (creates_waiting n) made);
    waits = λ n made c e. ⊎_elim
        (λ before. ⊎_elim
        (λ was. let waiting = completes.waits n before was.0 was.1 in (was.2 ∙ waiting.0, was.3 ∙ waiting.1))
        (λ high. absurd (omega (arith, high, completes.given n before)))
        (settles.servers n c e))
        (λ now. (creates n now).2 c e)
        (parts (creates_waiting n) made);
    held = λ n made kept.
        let neither = neither_part (list_any (is_release n) history) (is_release n event)
        (sym (list_any-append (is_release n) history (event ∷ [])) ∙ kept) in
        ⊎_elim
        (λ before. ⊎_elim
        (λ is. is)
        (λ ended. absurd (false_is_true (sym neither.1 ∙ ends n ended)))
        (settles.held n (completes.held n before neither.0)))
        (λ now. (creates n now).3)
        (parts (creates_waiting n) made);
    clear = λ n clashes. completes.clear n (settles.clash n clashes);
    whole = λ no_overflow server p made serves. ⊎_elim
        (λ before. whole no_overflow server p before serves)
        (λ now. created no_overflow server p now)
        (parts (creates_waiting server) made);
    first = λ no_overflow server p made. ⊎_elim
        (λ before. first no_overflow server p before)
        (λ now. prefix_same _ _ (created no_overflow server p now))
        (parts (creates_waiting server) made);
  }
    where
      parts : (f : Event T H K → Bool) → list_any f (history ++ event ∷ []) ≡ true → (list_any f history ≡ true) ⊎ (f event ≡ true)
      parts f e = either_part (list_any f history) (f event) (sym (list_any-append f history (event ∷ [])) ∙ e)

module _ {T H Q QH P PH K : Type 0} (history : List (Event T H K)) (event : Event T H K) (old new : State Q QH P PH K)
    (follows : Follows history old)
    (comes : EventFits history old.next new.next event) where
  -- what was sent, where the event sends nothing
  pub sent_same : (server p : ℕ) → sent_by event ≡ None → sent_for (history ++ event ∷ []) server p ≡ sent_for history server p
  sent_same server p none =
      sent_for-grown history old.next new.next event follows.numbers comes server p
      ∙ ap (λ o. sent_for history server p ++ filter (is_answer (history ++ event ∷ []) server p) (cons_option o [])) none ∙ append-nil _

  -- all is received that was sent where nothing was, by an event that sends and receives nothing
  pub new_whole : Completes history old → Follows (history ++ event ∷ []) new → sent_by event ≡ None
      → ((p : ℕ) → received_by p event ≡ None) → (server p : ℕ) → IsNew old server p →
      received_from (history ++ event ∷ []) server p ++ queued new server p ≡ sent_for (history ++ event ∷ []) server p
  new_whole completes after sends receives server p is =
      let unasked = unasked_answers history server p (new_unasked history old completes server p is) in
      let sent : sent_for (history ++ event ∷ []) server p ≡ [] = sent_same server p sends
      ∙ filter_never (is_answer history server p) unasked (filter_map sent_by history) in
      let received : received_from (history ++ event ∷ []) server p ≡ [] = received_same history event old new follows comes server p
      (receives p) ∙ filter_never (is_answer history server p) unasked (filter_map (received_by p) history) in
      let left : queued new server p ≡ [] = part_of_empty (queued new server p)
      (subst (λ xs. IsSubsequence (xs ++ queued new server p) []) received
      (subst (IsSubsequence (received_from (history ++ event ∷ []) server p ++ queued new server p)) sent (after.order server p))) in
      ap (λ xs. xs ++ queued new server p) received ∙ left ∙ sym sent

  -- the same as before, where nothing was sent or received and the entries stayed
  pub whole_stays : sent_by event ≡ None → ((p : ℕ) → received_by p event ≡ None) → (server p : ℕ)
      → queued new server p ≡ queued old server p → received_from history server p ++ queued old server p ≡ sent_for history server p →
      received_from (history ++ event ∷ []) server p ++ queued new server p ≡ sent_for (history ++ event ∷ []) server p
  whole_stays sends receives server p same before =
      ap (λ xs. xs ++ queued new server p) (received_same history event old new follows comes server p (receives p))
      ∙ ap (λ ys. received_from history server p ++ ys) same ∙ before ∙ sym (sent_same server p sends)

  -- what was received and stands in the list are the first ones that were sent, if entries stay or are gone, and the request received
  -- nothing by the event
  pub first_stays : (server p : ℕ) → received_from (history ++ event ∷ []) server p ≡ received_from history server p
      → (queued new server p ≡ []) ⊎ (queued new server p ≡ queued old server p)
      → IsPrefix (received_from history server p ++ queued old server p) (sent_for history server p) →
      IsPrefix (received_from (history ++ event ∷ []) server p ++ queued new server p) (sent_for (history ++ event ∷ []) server p)
  first_stays server p received either before =
      subst (λ xs. IsPrefix (xs ++ queued new server p) (sent_for (history ++ event ∷ []) server p)) (sym received)
      (subst (IsPrefix (received_from history server p ++ queued new server p))
      (sym (sent_for-grown history old.next new.next event follows.numbers comes server p))
      (prefix_longer (received_from history server p ++ queued new server p) (sent_for history server p) _ (⊎_elim
      (λ gone. subst (λ xs. IsPrefix (received_from history server p ++ xs) (sent_for history server p)) (sym gone)
      (subst (λ xs. IsPrefix xs (sent_for history server p)) (sym (append-nil (received_from history server p)))
      (prefix_front (received_from history server p) (queued old server p) (sent_for history server p) before)))
      (λ same. subst (λ xs. IsPrefix (received_from history server p ++ xs) (sent_for history server p)) (sym same) before)
      either)))
