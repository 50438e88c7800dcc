-- A state follows from its history still after a send of a response, and after a receive.
use Rattle.std.proofs.Common.{◌≡◌, ℕ, ◌<◌, Bool, true, false, cond, eqb, ◌&&◌, List, [], ◌∷◌, ◌++◌, drop, Some, None, refl, sym, ap, ◌∙◌, subst, ⊎_elim, inl, inr, append_assoc}
use Rattle.std.specs.Prelude.{◌⊎◌, ◌≢◌, filter}
use Rattle.std.specs.List.{AllByRecursion, cons_option}
use Rattle.std.specs.FinMap.{get}
use Rattle.std.proofs.lemmas.Bool.{cases_eq, eq-eqb, ne_eqb}
use Rattle.std.proofs.lemmas.List.{append-nil}
use Rattle.rr_table.proofs.ListFacts.{all_append, all_drop}
use Rattle.rr_protocol.specs.State.{State}
use Rattle.rr_protocol.specs.declared.command.Command.{Command}
use Rattle.rr_protocol.specs.declared.reply.Reply.{Reply}
use Rattle.rr_protocol.specs.AnswerRule.{Event, IsSubsequence, is_answer, sent_for, received_from}
use Rattle.rr_laws.specs.Roles.{Question, ReceivedRequest, LoanedResponse, Answer, roles_of}
use Rattle.rr_laws.specs.Following.{queued, Moves, WasReceived, WasSent, Follows}
use Rattle.rr_laws.proofs.Occurring.{subsequence_then, subsequence_of, subsequence_dropped}
use Rattle.rr_laws.proofs.Growing.{EventFits, loaned_below, loaned_answers, loaned_answers_one, received_now, all_sent_later, answer-grown, sent_for-grown, received_from-grown}
use Rattle.rr_laws.proofs.Coming.{said_of_another, IsSend, received_comes, responded_comes}
use Rattle.rr_laws.proofs.Following.{Enters, GainsRequest, unheard, received_same, entries_stay, order_grows, order_longer, part_stays, follows_on}

-- three tests that pass
all_true : (a b c : Bool) → a ≡ true → b ≡ true → c ≡ true → (a && b && c) ≡ true
all_true a b c e f g = ap (λ x. x && b && c) e ∙ ap (λ x. x && c) f ∙ g

module _ {T H Q QH P PH K : Type 0} (history : List (Event T H K)) (event : Event T H K) (old new : State Q QH P PH K)
    (follows : Follows history old) where
  -- what was sent for a request, after the event sent a response for it
  pub sent_one_more : (server p k : ℕ) → EventFits history old.next new.next event → IsSend event k
      → WasSent (history ++ event ∷ []) server p k →
      sent_for (history ++ event ∷ []) server p ≡ sent_for history server p ++ k ∷ []
  sent_one_more server p k comes send sent =
      sent_for-grown history old.next new.next event follows.numbers comes server p
      ∙ ap (λ o. sent_for history server p ++ filter (is_answer (history ++ event ∷ []) server p) (cons_option o [])) send.sends
      ∙ ap (λ b. sent_for history server p ++ cond b (k ∷ []) []) (loaned_answers (history ++ event ∷ []) server p sent.lender k
      sent.loaned)

  -- after a send, also one that loaned at once
  pub follows_sent : (server p k : ℕ) → IsSend event k → EventFits history old.next new.next event
      → WasSent (history ++ event ∷ []) server p k →
      Moves (λ n role. ⊥) (Enters server p k) old new → Follows (history ++ event ∷ []) new
  follows_sent server p k send comes sent moves =
      follows_on history event old new follows comes (λ n role. ⊥) (Enters server p k) moves (λ n other q e. absurd e) (λ j a e. absurd e)
      (λ j a e. send.responds j)
      (λ other q. ⊎_elim
      (λ gone. entries_stay history event old new follows comes other q send.responds (inl gone))
      (λ goes. ⊎_elim
      (λ same. entries_stay history event old new follows comes other q send.responds (inr same))
      (λ came. at_pair (λ o r. AllByRecursion (WasSent (history ++ event ∷ []) o r) (queued new o r)) entered other q came)
      goes)
      (moves.entries other q))
      (λ other q. ⊎_elim
      (λ gone. order_longer history event old new follows comes other q (send.receives q)
      (part_stays history event old new follows comes other q (inl gone)))
      (λ goes. ⊎_elim
      (λ same. order_longer history event old new follows comes other q (send.receives q)
      (part_stays history event old new follows comes other q (inr same)))
      (λ came. at_pair (λ o r. IsSubsequence (received_from (history ++ event ∷ []) o r ++ queued new o r)
      (sent_for (history ++ event ∷ []) o r)) ordered other q came)
      goes)
      (moves.entries other q))
    where
      at_pair : (P : ℕ → ℕ → Type 0) → ((queued new server p ≡ queued old server p ++ k ∷ [])
          ⊎ (queued new server p ≡ drop 1 (queued old server p) ++ k ∷ []) → P server p) → (other q : ℕ) →
          (other ≡ server) × (q ≡ p) × ((queued new other q ≡ queued old other q ++ k ∷ [])
          ⊎ (queued new other q ≡ drop 1 (queued old other q) ++ k ∷ [])) → P other q
      at_pair P here other q came =
          subst (λ o. (queued new o q ≡ queued old o q ++ k ∷ []) ⊎ (queued new o q ≡ drop 1 (queued old o q) ++ k ∷ []) → P o q)
          (sym came.0)
          (subst (λ r. (queued new server r ≡ queued old server r ++ k ∷ [])
          ⊎ (queued new server r ≡ drop 1 (queued old server r) ++ k ∷ []) → P server r) (sym came.1) here)
          came.2

      before : AllByRecursion (WasSent (history ++ event ∷ []) server p) (queued old server p)
      before = all_sent_later history old.next new.next event follows.numbers comes server p (queued old server p)
          (follows.entries server p) (unheard history event old new follows comes send.responds (queued old server p))

      entered : (queued new server p ≡ queued old server p ++ k ∷ []) ⊎ (queued new server p ≡ drop 1 (queued old server p) ++ k ∷ [])
          → AllByRecursion (WasSent (history ++ event ∷ []) server p) (queued new server p)
      entered came = ⊎_elim
          (λ e. subst (AllByRecursion (WasSent (history ++ event ∷ []) server p)) (sym e)
          (all_append (WasSent (history ++ event ∷ []) server p) (queued old server p) k before sent))
          (λ e. subst (AllByRecursion (WasSent (history ++ event ∷ []) server p)) (sym e)
          (all_append (WasSent (history ++ event ∷ []) server p) (drop 1 (queued old server p)) k
          (all_drop (WasSent (history ++ event ∷ []) server p) 1 (queued old server p) before) sent))
          came

      moved : (xs : List ℕ) → queued new server p ≡ xs ++ k ∷ []
          → IsSubsequence (received_from history server p ++ xs) (sent_for history server p) →
          IsSubsequence (received_from (history ++ event ∷ []) server p ++ queued new server p) (sent_for (history ++ event ∷ []) server p)
      moved xs e part =
          subst (IsSubsequence (received_from (history ++ event ∷ []) server p ++ queued new server p))
          (sym (sent_one_more server p k comes send sent))
          (subst (λ ys. IsSubsequence ys (sent_for history server p ++ k ∷ []))
          (append_assoc (received_from history server p) xs (k ∷ []) ∙ ap (λ ys. received_from history server p ++ ys) (sym e)
          ∙ ap (λ ys. ys ++ queued new server p) (sym (received_same history event old new follows comes server p (send.receives p))))
          (subsequence_then (received_from history server p ++ xs) (sent_for history server p) k part))

      ordered : (queued new server p ≡ queued old server p ++ k ∷ []) ⊎ (queued new server p ≡ drop 1 (queued old server p) ++ k ∷ []) →
          IsSubsequence (received_from (history ++ event ∷ []) server p ++ queued new server p) (sent_for (history ++ event ∷ []) server p)
      ordered came = ⊎_elim
          (λ e. moved (queued old server p) e (follows.order server p))
          (λ e. moved (drop 1 (queued old server p)) e
          (subsequence_of (received_from history server p ++ drop 1 (queued old server p))
          (received_from history server p ++ queued old server p) (sent_for history server p)
          (subsequence_dropped (received_from history server p) 1 (queued old server p)) (follows.order server p)))
          came

module _ {T H Q QH P PH K : Type 0} (history : List (Event T H K)) (old new : State Q QH P PH K) (follows : Follows history old) where
  -- after a server received a request
  pub follows_received : (server a p : ℕ) → a ≡ old.next → old.next < new.next
      → Moves (GainsRequest server a p) (λ other q before after. after ≡ before) old new →
      Follows (history ++ (Command.Receive server, Reply.Active a p) ∷ []) new
  follows_received server a p is more moves =
      follows_on history (Command.Receive server, Reply.Active a p) old new follows comes (GainsRequest server a p)
      (λ other q before after. after ≡ before) moves
      (λ n other q gained. this n other q gained)
      (λ k b gained. absurd (let f : LoanedResponse b ≡ ReceivedRequest server gained.1.0 = gained.1.1 in cc))
      (λ k b e. refl)
      (λ other q. entries_stay history (Command.Receive server, Reply.Active a p) old new follows comes other q (λ k. refl)
      (moves.entries other q))
      (λ other q. order_longer history (Command.Receive server, Reply.Active a p) old new follows comes other q refl
      (part_stays history (Command.Receive server, Reply.Active a p) old new follows comes other q (moves.entries other q)))
    where
      comes : EventFits history old.next new.next (Command.Receive server, Reply.Active a p)
      comes = received_comes history old.next new.next server a p is more

      this : (n other : ℕ) (q : Question) → GainsRequest server a p n (ReceivedRequest other q)
          → WasReceived (history ++ (Command.Receive server, Reply.Active a p) ∷ []) other n q.number
      this n other q gained =
          let same : ReceivedRequest other q ≡ ReceivedRequest server gained.1.0 = gained.1.1 in
          let server_is : other ≡ server = cc in
          let question_is : q ≡ gained.1.0 = cc in
          received_now history (Command.Receive server, Reply.Active a p) other n q.number
          (all_true (eqb server other) (eqb a n) (eqb p q.number) (eq-eqb server other (sym server_is)) (eq-eqb a n (sym gained.0))
          (eq-eqb p q.number (sym gained.1.2 ∙ ap (λ (x : Question). x.number) (sym question_is))))

  -- what a request received with a response, by whether the response answers it
  received_answer : (p k : ℕ) → EventFits history old.next new.next (Command.Receive p, Reply.Response k) → k < old.next
      → (other : ℕ) (b : Bool) → is_answer history other p k ≡ b →
      received_from (history ++ (Command.Receive p, Reply.Response k) ∷ []) other p ≡ received_from history other p ++ cond b (k ∷ []) []
  received_answer p k comes given other b is =
      received_from-grown history old.next new.next (Command.Receive p, Reply.Response k) follows.numbers comes other p
      ∙ ap (λ c. received_from history other p ++ filter (is_answer (history ++ (Command.Receive p, Reply.Response k) ∷ []) other p)
      (cons_option (cond c (Some k) None) [])) (eq-eqb p p refl)
      ∙ ap (λ c. received_from history other p ++ cond c (k ∷ []) []) (answer-grown history old.next new.next
      (Command.Receive p, Reply.Response k) follows.numbers comes other p k given ∙ is)

  -- a request received the response from the server that sent it
  pub responded_more : (server p k : ℕ) → EventFits history old.next new.next (Command.Receive p, Reply.Response k)
      → WasSent history server p k →
      received_from (history ++ (Command.Receive p, Reply.Response k) ∷ []) server p ≡ received_from history server p ++ k ∷ []
  responded_more server p k comes sent =
      received_answer p k comes (loaned_below history old.next server p sent.lender k follows.numbers sent.loaned) server true
      (loaned_answers history server p sent.lender k sent.loaned)

  -- and no other request, and from no other server
  pub responded_same : (server p k : ℕ) → EventFits history old.next new.next (Command.Receive p, Reply.Response k)
      → WasSent history server p k → (other q : ℕ) → ((other ≡ server) × (q ≡ p) → ⊥) →
      received_from (history ++ (Command.Receive p, Reply.Response k) ∷ []) other q ≡ received_from history other q
  responded_same server p k comes sent other q not = ⊎_elim
      (λ is. subst (λ r. received_from (history ++ (Command.Receive p, Reply.Response k) ∷ []) other r ≡ received_from history other r)
      (sym is) (go is (is_answer history other p k) refl))
      (λ away. received_same history (Command.Receive p, Reply.Response k) old new follows comes other q
      (said_of_another p q k (λ e. away (sym e))))
      (cases_eq q p)
    where
      given : k < old.next
      given = loaned_below history old.next server p sent.lender k follows.numbers sent.loaned

      go : q ≡ p → (b : Bool) → is_answer history other p k ≡ b
          → received_from (history ++ (Command.Receive p, Reply.Response k) ∷ []) other p ≡ received_from history other p
      go same true is = absurd (not (
        (loaned_answers_one history old.next server p sent.lender k follows.numbers sent.loaned other p is).0,
        same,
      ))
      go same false is = received_answer p k comes given other false is ∙ append-nil _

  -- after a request received a response
  pub follows_responded : (server p k : ℕ) → Moves (λ n role. ⊥)
      (λ other q before after. (after ≡ before) ⊎ ((other ≡ server) × (q ≡ p))) old new → queued old server p ≡ k ∷ queued new server p →
      ((other q : ℕ) → AllByRecursion (λ j. eqb k j ≡ false) (queued new other q))
      → ((a : Answer) → get (roles_of new.handles) k ≢ Some (LoanedResponse a)) →
      Follows (history ++ (Command.Receive p, Reply.Response k) ∷ []) new
  follows_responded server p k moves taken absent unloaned =
      follows_on history (Command.Receive p, Reply.Response k) old new follows comes (λ n role. ⊥) _ moves (λ n other q e. absurd e)
      (λ j a e. absurd e)
      (λ j a e. ne_eqb k j (λ same. unloaned a (ap (get (roles_of new.handles)) same ∙ e)))
      (λ other q. all_sent_later history old.next new.next (Command.Receive p, Reply.Response k) follows.numbers comes other q
      (queued new other q) (left other q) (absent other q))
      (λ other q. ⊎_elim
      (λ one. ⊎_elim
      (λ two. subst (λ o. IsSubsequence (received_from (history ++ (Command.Receive p, Reply.Response k) ∷ []) o q ++ queued new o q)
      (sent_for (history ++ (Command.Receive p, Reply.Response k) ∷ []) o q)) (sym one)
      (subst (λ r. IsSubsequence (received_from (history ++ (Command.Receive p, Reply.Response k) ∷ []) server r ++ queued new server r)
      (sent_for (history ++ (Command.Receive p, Reply.Response k) ∷ []) server r)) (sym two) here))
      (λ not. others other q (λ pair. not pair.1))
      (cases_eq q p))
      (λ not. others other q (λ pair. not pair.0))
      (cases_eq other server))
    where
      first : WasSent history server p k
      first = (subst (AllByRecursion (WasSent history server p)) taken (follows.entries server p)).0

      given : k < old.next
      given = loaned_below history old.next server p first.lender k follows.numbers first.loaned

      comes : EventFits history old.next new.next (Command.Receive p, Reply.Response k)
      comes = responded_comes history old.next new.next p k given moves.next first.loaned.unreceived

      -- what is left of the entries was sent before
      left : (other q : ℕ) → AllByRecursion (WasSent history other q) (queued new other q)
      left other q = ⊎_elim
          (λ gone. subst (AllByRecursion (WasSent history other q)) (sym gone) tt)
          (λ goes. ⊎_elim
          (λ same. subst (AllByRecursion (WasSent history other q)) (sym same) (follows.entries other q))
          (λ pair. subst (λ o. AllByRecursion (WasSent history o q) (queued new o q)) (sym pair.0)
          (subst (λ r. AllByRecursion (WasSent history server r) (queued new server r)) (sym pair.1)
          (subst (AllByRecursion (WasSent history server p)) taken (follows.entries server p)).1))
          goes)
          (moves.entries other q)

      stays : (other q : ℕ) → ((other ≡ server) × (q ≡ p) → ⊥) → (queued new other q ≡ []) ⊎ (queued new other q ≡ queued old other q)
      stays other q not = ⊎_elim
          (λ gone. inl gone)
          (λ goes. ⊎_elim (λ same. inr same) (λ pair. absurd (not pair)) goes)
          (moves.entries other q)

      others : (other q : ℕ) → ((other ≡ server) × (q ≡ p) → ⊥) →
          IsSubsequence (received_from (history ++ (Command.Receive p, Reply.Response k) ∷ []) other q ++ queued new other q)
          (sent_for (history ++ (Command.Receive p, Reply.Response k) ∷ []) other q)
      others other q not = order_grows history (Command.Receive p, Reply.Response k) old new follows comes other q
          (responded_same server p k comes first other q not)
          (part_stays history (Command.Receive p, Reply.Response k) old new follows comes other q (stays other q not))

      here : IsSubsequence (received_from (history ++ (Command.Receive p, Reply.Response k) ∷ []) server p ++ queued new server p)
          (sent_for (history ++ (Command.Receive p, Reply.Response k) ∷ []) server p)
      here =
          subst (IsSubsequence (received_from (history ++ (Command.Receive p, Reply.Response k) ∷ []) server p ++ queued new server p))
          (sym (sent_for-grown history old.next new.next (Command.Receive p, Reply.Response k) follows.numbers comes server p
          ∙ append-nil _))
          (subst (λ xs. IsSubsequence xs (sent_for history server p))
          (ap (λ xs. received_from history server p ++ xs) taken
          ∙ sym (append_assoc (received_from history server p) (k ∷ []) (queued new server p))
          ∙ ap (λ xs. xs ++ queued new server p) (sym (responded_more server p k comes first)))
          (follows.order server p))
