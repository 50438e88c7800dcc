-- A request has still received all that does not stand in a list, event by event.
use Rattle.std.proofs.Common.{◌≡◌, ℕ, ◌<◌, ◌≤◌, Bool, true, false, cond, List, [], ◌∷◌, ◌++◌, Some, None, refl, sym, ap, ◌∙◌, subst, ⊎_elim, inl, inr, append_assoc}
use Rattle.std.specs.Prelude.{◌⊎◌, filter}
use Rattle.std.specs.List.{list_any, cons_option}
use Rattle.std.proofs.lemmas.Bool.{cases_eq}
use Rattle.std.proofs.lemmas.List.{append-nil}
use Rattle.rr_protocol.specs.Ports.{Server}
use Rattle.rr_protocol.specs.State.{State, server_at, is_server_value}
use Rattle.rr_protocol.specs.declared.command.Command.{Command}
use Rattle.rr_protocol.specs.declared.reply.Reply.{Reply}
use Rattle.rr_protocol.specs.AnswerRule.{Event, IsPrefix, is_active_of, sent_by, received_by, creates_waiting, is_release, is_answer, sent_for, received_from}
use Rattle.rr_laws.specs.Reached.{IsReached}
use Rattle.rr_laws.specs.Following.{queued, Moves, WasSent, Follows}
use Rattle.rr_laws.specs.Settling.{IsServing, IsNew, IsWaiting, Settles}
use Rattle.rr_laws.specs.Completing.{IsUnderWay, Completes}
use Rattle.rr_laws.proofs.Occurring.{false_is_true}
use Rattle.rr_laws.proofs.Growing.{EventFits, loaned_answers_one, sent_for-grown}
use Rattle.rr_laws.proofs.Coming.{IsSend}
use Rattle.rr_laws.proofs.Following.{received_same}
use Rattle.rr_laws.proofs.FollowingSends.{sent_one_more, responded_more, responded_same}
use Rattle.rr_laws.proofs.SettlingResponses.{WaitsForRoom, Appends, MayAppend}
use Rattle.rr_laws.proofs.Completing.{prefix_same, completes_on, sent_same, new_whole, whole_stays, first_stays}

module _ {T H Q QH P PH K : Type 0} (history : List (Event T H K)) (event : Event T H K) (old new : State Q QH P PH K)
    (fits : IsReached old)
    (completes : Completes history old) (limits : new.limits ≡ old.limits)
    (follows : Follows history old) (after : Follows (history ++ event ∷ []) new) (comes : EventFits history old.next new.next event) where
  -- the limits stay as they were
  no_overflow_before : new.limits.enable_safe_overflow_for_responses ≡ false → old.limits.enable_safe_overflow_for_responses ≡ false
  no_overflow_before e = subst (λ l. l.enable_safe_overflow_for_responses ≡ false) limits e

  -- after an event that sends and receives no response
  pub completes_quietly : {Ends : ℕ → Type 0} {Gains : ℕ → _ → Type 0}
      → Settles (IsNew old) Ends (λ server p before after. after ≡ before) old new
      → Moves Gains (λ server p before after. after ≡ before) old new →
      sent_by event ≡ None → ((p : ℕ) → received_by p event ≡ None)
      → ((a server p : ℕ) → is_active_of server a p event ≡ true → IsUnderWay new server p) →
      ((n : ℕ) → creates_waiting n event ≡ true → (old.next ≤ n) × (n < new.next)
      × ((c : Server K) → server_at new n ≡ Some c → IsWaiting c) × (is_server_value new n ≡ true)) →
      ((n : ℕ) → Ends n → is_release n event ≡ true) → Completes (history ++ event ∷ []) new
  completes_quietly settles moves sends receives active creates ends =
      completes_on history event old new fits completes settles limits active creates ends
      (λ no_overflow server p made. new_whole history event old new follows comes completes after sends receives server p
      (inl (creates server made).0))
      (λ no_overflow server p made serves. ⊎_elim
      (λ was. whole_stays history event old new follows comes sends receives server p was.1
      (completes.whole (no_overflow_before no_overflow) server p made was.0))
      (λ is. new_whole history event old new follows comes completes after sends receives server p is)
      (settles.serving server p serves))
      (λ no_overflow server p made. first_stays history event old new follows comes server p
      (received_same history event old new follows comes server p (receives p)) (moves.entries server p)
      (completes.first (no_overflow_before no_overflow) server p made))

  -- after a send of a response, of which a server that waits for room puts each at the end
  pub completes_sent : (x : State Q QH P PH K) (server p k : ℕ) → IsSend event k → WasSent (history ++ event ∷ []) server p k
      → ((n : ℕ) → creates_waiting n event ≡ false) → ((s a q : ℕ) → is_active_of s a q event ≡ false) →
      Settles (λ s q. ⊥) (λ n. ⊥) (Appends x server p k) old new → Moves (λ n role. ⊥) (MayAppend x server p k) old new
      → (IsServing x server p → IsServing old server p) →
      (list_any (creates_waiting server) history ≡ true → old.limits.enable_safe_overflow_for_responses ≡ false → WaitsForRoom x server)
      → Completes (history ++ event ∷ []) new
  completes_sent x server p k send sent plain inactive settles moves serves_before room =
      completes_on history event old new fits completes settles limits (λ a s q is. absurd (false_is_true (sym (inactive s a q) ∙ is)))
      (λ n is. absurd (false_is_true (sym (plain n) ∙ is))) (λ n e. absurd e)
      (λ no_overflow s q is. absurd (false_is_true (sym (plain s) ∙ is)))
      (λ no_overflow s q made serves. ⊎_elim
      (λ was. ⊎_elim
      (λ pair. at_pair (λ o r. received_from (history ++ event ∷ []) o r ++ queued new o r ≡ sent_for (history ++ event ∷ []) o r) s q
      pair.0 pair.1
      (one_more (no_overflow_before no_overflow) (subst (λ o. list_any (creates_waiting o) history ≡ true) pair.0 made)
      (subst (λ r. IsServing old server r) pair.1 (subst (λ o. IsServing old o q) pair.0 was.0))
      (subst (λ r. queued new server r ≡ queued old server r ++ k ∷ []) pair.1
      (subst (λ o. queued new o q ≡ queued old o q ++ k ∷ []) pair.0
      (pair.2 (room (subst (λ o. list_any (creates_waiting o) history ≡ true) pair.0 made) (no_overflow_before no_overflow)))))))
      (λ away. ap (λ xs. xs ++ queued new s q) (received_same history event old new follows comes s q (send.receives q))
      ∙ ap (λ ys. received_from history s q ++ ys) away.1
      ∙ completes.whole (no_overflow_before no_overflow) s q made was.0 ∙ sym (sent_away s q away.0))
      was.1)
      (λ begins. absurd begins)
      (settles.serving s q serves))
      (λ no_overflow s q made. ⊎_elim
      (λ gone. stays s q (inl gone) (completes.first (no_overflow_before no_overflow) s q made))
      (λ goes. ⊎_elim
      (λ same. stays s q (inr same) (completes.first (no_overflow_before no_overflow) s q made))
      (λ pair. at_pair (λ o r. IsPrefix (received_from (history ++ event ∷ []) o r ++ queued new o r)
      (sent_for (history ++ event ∷ []) o r)) s q pair.0 pair.1
      (prefix_same _ _ (one_more (no_overflow_before no_overflow) (subst (λ o. list_any (creates_waiting o) history ≡ true) pair.0 made)
      (serves_before pair.2)
      (subst (λ r. queued new server r ≡ queued old server r ++ k ∷ []) pair.1
      (subst (λ o. queued new o q ≡ queued old o q ++ k ∷ []) pair.0
      (pair.3 (room (subst (λ o. list_any (creates_waiting o) history ≡ true) pair.0 made) (no_overflow_before no_overflow))))))))
      goes)
      (moves.entries s q))
    where
      at_pair : (P : ℕ → ℕ → Type 0) (s q : ℕ) → s ≡ server → q ≡ p → P server p → P s q
      at_pair P s q a b here = subst (λ o. P o q) (sym a) (subst (P server) (sym b) here)

      stays : (s q : ℕ) → (queued new s q ≡ []) ⊎ (queued new s q ≡ queued old s q)
          → IsPrefix (received_from history s q ++ queued old s q) (sent_for history s q)
          → IsPrefix (received_from (history ++ event ∷ []) s q ++ queued new s q) (sent_for (history ++ event ∷ []) s q)
      stays s q either before = first_stays history event old new follows comes s q
          (received_same history event old new follows comes s q (send.receives q)) either before

      -- what goes on the list was sent after all that was received and stands in it
      one_more : old.limits.enable_safe_overflow_for_responses ≡ false → list_any (creates_waiting server) history ≡ true
          → IsServing old server p → queued new server p ≡ queued old server p ++ k ∷ [] →
          received_from (history ++ event ∷ []) server p ++ queued new server p ≡ sent_for (history ++ event ∷ []) server p
      one_more no_overflow made serves last =
          ap (λ xs. xs ++ queued new server p) (received_same history event old new follows comes server p (send.receives p))
          ∙ ap (λ ys. received_from history server p ++ ys) last
          ∙ sym (append_assoc (received_from history server p) (queued old server p) (k ∷ []))
          ∙ ap (λ xs. xs ++ k ∷ []) (completes.whole no_overflow server p made serves)
          ∙ sym (sent_one_more history event old new follows server p k comes send sent)

      -- nothing was sent for another request, or by another server
      sent_away : (s q : ℕ) → ((s ≡ server) × (q ≡ p) → ⊥) → sent_for (history ++ event ∷ []) s q ≡ sent_for history s q
      sent_away s q not =
          sent_for-grown history old.next new.next event follows.numbers comes s q
          ∙ ap (λ o. sent_for history s q ++ filter (is_answer (history ++ event ∷ []) s q) (cons_option o [])) send.sends
          ∙ go (is_answer (history ++ event ∷ []) s q k) refl
        where
          go : (b : Bool) → is_answer (history ++ event ∷ []) s q k ≡ b → sent_for history s q ++ cond b (k ∷ []) [] ≡ sent_for history s q
          go true is = absurd (not (loaned_answers_one (history ++ event ∷ []) new.next server p sent.lender k after.numbers sent.loaned s q
              is))
          go false is = append-nil _

module _ {T H Q QH P PH K : Type 0} (history : List (Event T H K)) (old new : State Q QH P PH K) (fits : IsReached old)
    (completes : Completes history old) (limits : new.limits ≡ old.limits) (follows : Follows history old) (server p k : ℕ)
    (comes : EventFits history old.next new.next (Command.Receive p, Reply.Response k)) where
  -- after a request received the first response of a list
  pub completes_responded : WasSent history server p k → queued old server p ≡ k ∷ queued new server p →
      Settles (λ s q. ⊥) (λ n. ⊥) (λ s q before after. (after ≡ before) ⊎ ((s ≡ server) × (q ≡ p))) old new
      → Moves (λ n role. ⊥) (λ s q before after. (after ≡ before) ⊎ ((s ≡ server) × (q ≡ p))) old new →
      Completes (history ++ (Command.Receive p, Reply.Response k) ∷ []) new
  completes_responded sent first settles moves =
      completes_on history (Command.Receive p, Reply.Response k) old new fits completes settles limits
      (λ a s q is. absurd (false_is_true is)) (λ n is. absurd (false_is_true is)) (λ n e. absurd e)
      (λ no_overflow s q is. absurd (false_is_true is))
      (λ no_overflow s q made serves. ⊎_elim
      (λ was. by_pair
      (λ o r. list_any (creates_waiting o) history ≡ true → IsServing old o r → (queued new o r ≡ queued old o r) ⊎ ((o ≡ server) × (r ≡ p))
      →
      received_from (history ++ (Command.Receive p, Reply.Response k) ∷ []) o r ++ queued new o r ≡ sent_for
      (history ++ (Command.Receive p, Reply.Response k) ∷ []) o r)
      (λ here_made here_serves either. moved ∙ completes.whole (no_overflow_before no_overflow) server p here_made here_serves
      ∙ sym (sent_same history (Command.Receive p, Reply.Response k) old new follows comes server p refl))
      (λ o r not there_made there_serves either. ap (λ xs. xs ++ queued new o r)
      (responded_same history old new follows server p k comes sent o r not)
      ∙ ap (λ ys. received_from history o r ++ ys) (stays o r not either)
      ∙ completes.whole (no_overflow_before no_overflow) o r there_made there_serves
      ∙ sym (sent_same history (Command.Receive p, Reply.Response k) old new follows comes o r refl))
      s q made was.0 was.1)
      (λ begins. absurd begins)
      (settles.serving s q serves))
      (λ no_overflow s q made. by_pair
      (λ o r. list_any (creates_waiting o) history ≡ true → (queued new o r ≡ [])
      ⊎ ((queued new o r ≡ queued old o r) ⊎ ((o ≡ server) × (r ≡ p))) →
      IsPrefix (received_from (history ++ (Command.Receive p, Reply.Response k) ∷ []) o r ++ queued new o r)
      (sent_for (history ++ (Command.Receive p, Reply.Response k) ∷ []) o r))
      (λ here_made either. subst (λ xs. IsPrefix xs (sent_for (history ++ (Command.Receive p, Reply.Response k) ∷ []) server p)) (sym moved)
      (subst (IsPrefix (received_from history server p ++ queued old server p))
      (sym (sent_same history (Command.Receive p, Reply.Response k) old new follows comes server p refl))
      (completes.first (no_overflow_before no_overflow) server p here_made)))
      (λ o r not there_made either. first_stays history (Command.Receive p, Reply.Response k) old new follows comes o r
      (responded_same history old new follows server p k comes sent o r not)
      (⊎_elim (λ gone. inl gone) (λ goes. inr (stays o r not goes)) either)
      (completes.first (no_overflow_before no_overflow) o r there_made))
      s q made (moves.entries s q))
    where
      no_overflow_before : new.limits.enable_safe_overflow_for_responses ≡ false → old.limits.enable_safe_overflow_for_responses ≡ false
      no_overflow_before e = subst (λ l. l.enable_safe_overflow_for_responses ≡ false) limits e

      by_pair : (P : ℕ → ℕ → Type 0) → P server p → ((s q : ℕ) → ((s ≡ server) × (q ≡ p) → ⊥) → P s q) → (s q : ℕ) → P s q
      by_pair P here away s q = ⊎_elim
          (λ a. ⊎_elim
          (λ b. subst (λ o. P o q) (sym a) (subst (P server) (sym b) here))
          (λ not. away s q (λ pair. not pair.1))
          (cases_eq q p))
          (λ not. away s q (λ pair. not pair.0))
          (cases_eq s server)

      stays : (s q : ℕ) → ((s ≡ server) × (q ≡ p) → ⊥) → (queued new s q ≡ queued old s q) ⊎ ((s ≡ server) × (q ≡ p))
          → queued new s q ≡ queued old s q
      stays s q not either = ⊎_elim (λ same. same) (λ pair. absurd (not pair)) either

      -- the response went from the list to what was received
      moved : received_from (history ++ (Command.Receive p, Reply.Response k) ∷ []) server p ++ queued new server p
          ≡ received_from history server p ++ queued old server p
      moved =
          ap (λ xs. xs ++ queued new server p) (responded_more history old new follows server p k comes sent)
          ∙ append_assoc (received_from history server p) (k ∷ []) (queued new server p)
          ∙ ap (λ ys. received_from history server p ++ ys) (sym first)
