-- A state follows from its history still after one more event.
use Rattle.std.proofs.Common.{◌≡◌, ℕ, ◌<◌, Bool, true, false, cond, List, [], ◌∷◌, ◌++◌, drop, Some, None, refl, sym, ap, ◌∙◌, subst, ⊎_elim, arith}
use Rattle.std.specs.Prelude.{◌⊎◌, filter}
use Rattle.std.specs.List.{AllByRecursion, cons_option}
use Rattle.std.specs.FinMap.{get}
use Rattle.std.proofs.lemmas.Bool.{eq-eqb}
use Rattle.std.proofs.lemmas.List.{append-nil}
use Rattle.std.proofs.lemmas.List.Elements.{filter_map-append}
use Rattle.rr_table.proofs.ListFacts.{any_weaker}
use Rattle.rr_protocol.specs.State.{State}
use Rattle.rr_protocol.specs.AnswerRule.{Event, IsSubsequence, occur_in_order, is_active, is_active_of, is_loan, is_response, received_by, lender_of, is_answer, sent_for, received_from}
use Rattle.rr_laws.specs.Roles.{Question, Role, ReceivedRequest, LoanedResponse, Answer, roles_of}
use Rattle.rr_laws.specs.Following.{queued, Moves, MovesQuietly, WasReceived, IsLoaned, LoanOccurs, WasSent, IsUnused, Follows}
use Rattle.rr_laws.proofs.Occurring.{occurs_later, occurs_then, occurs_alone, subsequence_longer, subsequence_front}
use Rattle.rr_laws.proofs.Telling.{IsSilent, active_of_some}
use Rattle.rr_laws.proofs.Coming.{IsLoan, silent_comes, loan_comes}
use Rattle.rr_laws.proofs.Growing.{EventFits, loaned_below, received_later, responses-grown, loaned_later, all_sent_later, sent_for-grown, received_from-grown, numbers_grow}

-- a list of entries after one came: it is as before, or this is the pair of a server and a request for which it came, at the end and
-- perhaps in place of the oldest
abbrev pub Enters : ℕ → ℕ → ℕ → ℕ → ℕ → List ℕ → List ℕ → Type 0
Enters server p k other q before after =
    (after ≡ before) ⊎ ((other ≡ server) × (q ≡ p) × ((after ≡ before ++ k ∷ []) ⊎ (after ≡ drop 1 before ++ k ∷ [])))

-- what a server gains by a receive
abbrev pub GainsRequest : ℕ → ℕ → ℕ → ℕ → Role → Type 0
GainsRequest server a p n role = (n ≡ a) × ((q : Question) × (role ≡ ReceivedRequest server q) × (q.number ≡ p))

module _ {T H K : Type 0} where
  -- what it gains by a loan from an active request
  abbrev pub GainsLoan : List (Event T H K) → ℕ → ℕ → ℕ → Role → Type 0
  GainsLoan history n k j role = (j ≡ k) × ((a : Answer) × (role ≡ LoanedResponse a) × (a.active_request ≡ n)
      × WasReceived history a.server n a.request)

-- what an event loans under a number that was not used
pub now_loaned : {T H K : Type 0} (history : List (Event T H K)) (event : Event T H K) (server p n k : ℕ) → IsUnused history k
    → WasReceived history server n p → lender_of k event ≡ Some n → is_response k event ≡ false →
    IsLoaned (history ++ event ∷ []) server p n k
now_loaned history event server p n k unused was lends quiet =
    record {
      active = received_later history event server n p was;
      lenders = filter_map-append (lender_of k) history (event ∷ []) ∙ ap (λ xs. xs ++ cons_option (lender_of k event) []) unused.no_lender
          ∙ ap (λ o. cons_option o []) lends;
      unreceived = responses-grown history event k quiet ∙ unused.no_response;
    }

-- the active request that a server received occurs, and then an event
pub occurs_after_active : {T H K : Type 0} (history : List (Event T H K)) (event : Event T H K) (server a p : ℕ) (test : Event T H K → Bool)
    → WasReceived history server a p → test event ≡ true →
    occur_in_order (is_active a p ∷ test ∷ []) (history ++ event ∷ []) ≡ true
occurs_after_active history event server a p test was now =
    occurs_then (is_active a p ∷ []) test history event (occurs_alone (is_active a p) history
    (any_weaker (is_active_of server a p) (is_active a p) (λ e h. active_of_some server a p e.0 e.1 h) history was)) now

module _ {T H Q QH P PH K : Type 0} (history : List (Event T H K)) (event : Event T H K) (old new : State Q QH P PH K)
    (follows : Follows history old)
    (comes : EventFits history old.next new.next event) where
  -- no number is received by an event that receives none
  pub unheard : ((k : ℕ) → is_response k event ≡ false) → (xs : List ℕ) → AllByRecursion (λ k. is_response k event ≡ false) xs
  unheard quiet [] = tt
  unheard quiet (x ∷ xs) = (quiet x, unheard quiet xs)

  -- what a request received, where it receives nothing by the event
  pub received_same : (server p : ℕ) → received_by p event ≡ None
      → received_from (history ++ event ∷ []) server p ≡ received_from history server p
  received_same server p none =
      received_from-grown history old.next new.next event follows.numbers comes server p
      ∙ ap (λ o. received_from history server p ++ filter (is_answer (history ++ event ∷ []) server p) (cons_option o [])) none
      ∙ append-nil _

  -- entries that stay or are gone, where none is received
  pub entries_stay : (server p : ℕ) → ((k : ℕ) → is_response k event ≡ false) → (queued new server p ≡ [])
      ⊎ (queued new server p ≡ queued old server p) →
      AllByRecursion (WasSent (history ++ event ∷ []) server p) (queued new server p)
  entries_stay server p quiet either = ⊎_elim
      (λ gone. subst (AllByRecursion (WasSent (history ++ event ∷ []) server p)) (sym gone) tt)
      (λ same. subst (AllByRecursion (WasSent (history ++ event ∷ []) server p)) (sym same)
      (all_sent_later history old.next new.next event follows.numbers comes server p (queued old server p) (follows.entries server p)
      (unheard quiet (queued old server p))))
      either

  -- entries that are a part, after what was received, of what was sent before, are one of what was sent by now, where no more was received
  pub order_grows : (server p : ℕ) → received_from (history ++ event ∷ []) server p ≡ received_from history server p
      → IsSubsequence (received_from history server p ++ queued new server p) (sent_for history server p) →
      IsSubsequence (received_from (history ++ event ∷ []) server p ++ queued new server p) (sent_for (history ++ event ∷ []) server p)
  order_grows server p same part =
      subst (λ xs. IsSubsequence (xs ++ queued new server p) (sent_for (history ++ event ∷ []) server p)) (sym same)
      (subst (IsSubsequence (received_from history server p ++ queued new server p))
      (sym (sent_for-grown history old.next new.next event follows.numbers comes server p))
      (subsequence_longer (received_from history server p ++ queued new server p) (sent_for history server p) _ part))

  -- the same where the event is no receive of the request
  pub order_longer : (server p : ℕ) → received_by p event ≡ None
      → IsSubsequence (received_from history server p ++ queued new server p) (sent_for history server p) →
      IsSubsequence (received_from (history ++ event ∷ []) server p ++ queued new server p) (sent_for (history ++ event ∷ []) server p)
  order_longer server p none part = order_grows server p (received_same server p none) part

  -- they stay or are gone
  pub part_stays : (server p : ℕ) → (queued new server p ≡ []) ⊎ (queued new server p ≡ queued old server p)
      → IsSubsequence (received_from history server p ++ queued new server p) (sent_for history server p)
  part_stays server p either = ⊎_elim
      (λ gone. subst (λ xs. IsSubsequence (received_from history server p ++ xs) (sent_for history server p)) (sym gone)
      (subst (λ xs. IsSubsequence xs (sent_for history server p)) (sym (append-nil (received_from history server p)))
      (subsequence_front (received_from history server p) (queued old server p) (sent_for history server p) (follows.order server p))))
      (λ same. subst (λ xs. IsSubsequence (received_from history server p ++ xs) (sent_for history server p)) (sym same)
      (follows.order server p))
      either

  -- what remains to be said of an event: of what servers gain by it, and of the lists
  pub follows_on : (Gains : ℕ → Role → Type 0) (GoesOn : ℕ → ℕ → List ℕ → List ℕ → Type 0) → Moves Gains GoesOn old new →
      ((n server : ℕ) (q : Question) → Gains n (ReceivedRequest server q) → WasReceived (history ++ event ∷ []) server n q.number) →
      ((k : ℕ) (a : Answer) → Gains k (LoanedResponse a) → IsLoaned (history ++ event ∷ []) a.server a.request a.active_request k
      × LoanOccurs (history ++ event ∷ []) a.request a.active_request k) →
      ((k : ℕ) (a : Answer) → get (roles_of new.handles) k ≡ Some (LoanedResponse a) → is_response k event ≡ false) →
      ((server p : ℕ) → AllByRecursion (WasSent (history ++ event ∷ []) server p) (queued new server p)) →
      ((server p : ℕ) → IsSubsequence (received_from (history ++ event ∷ []) server p ++ queued new server p)
      (sent_for (history ++ event ∷ []) server p)) →
      Follows (history ++ event ∷ []) new
  follows_on Gains GoesOn moves received loaned unresponded entries order = record {
    numbers = numbers_grow history old.next new.next event follows.numbers comes;
    held = λ n server q is. ⊎_elim
        (λ was. received_later history event server n q.number (follows.held n server q was))
        (λ gained. received n server q gained)
        (moves.roles n (ReceivedRequest server q) refl is);
    loaned = λ k a is. ⊎_elim
        (λ was.
        let before = follows.loaned k a was in
        let below = loaned_below history old.next a.server a.request a.active_request k follows.numbers before.0 in (
          loaned_later history event a.server a.request a.active_request k before.0 (comes.lends_new k below) (unresponded k a is),
          occurs_later (is_active a.active_request a.request ∷ is_loan a.active_request k ∷ []) history event before.1,
        ))
        (λ gained. loaned k a gained)
        (moves.roles k (LoanedResponse a) refl is);
    entries = entries;
    order = order;
  }

module _ {T H Q QH P PH K : Type 0} (history : List (Event T H K)) (event : Event T H K) (old new : State Q QH P PH K)
    (follows : Follows history old) where
  -- after an event that tells nothing
  pub follows_silently : IsSilent event → MovesQuietly old new → Follows (history ++ event ∷ []) new
  follows_silently quiet moves =
      follows_on history event old new follows comes (λ n role. ⊥) (λ server p before after. after ≡ before) moves
      (λ n server q e. absurd e) (λ k a e. absurd e) (λ k a e. quiet.responds k)
      (λ server p. entries_stay history event old new follows comes server p quiet.responds (moves.entries server p))
      (λ server p. order_longer history event old new follows comes server p (quiet.receives p)
      (part_stays history event old new follows comes server p (moves.entries server p)))
    where
      comes : EventFits history old.next new.next event
      comes = silent_comes history event old.next new.next quiet moves.next

  -- after a loan
  pub follows_loaned : (n k : ℕ) → IsLoan event n k → k ≡ old.next → old.next < new.next → n < old.next →
      Moves (GainsLoan history n k) (λ server p before after. after ≡ before) old new → Follows (history ++ event ∷ []) new
  follows_loaned n k loan is more below moves =
      follows_on history event old new follows comes (GainsLoan history n k) (λ server p before after. after ≡ before) moves
      (λ j server q gained. absurd (let f : ReceivedRequest server q ≡ LoanedResponse gained.1.0 = gained.1.1 in cc))
      (λ j a gained. this j a gained)
      (λ j a e. loan.responds j)
      (λ server p. entries_stay history event old new follows comes server p loan.responds (moves.entries server p))
      (λ server p. order_longer history event old new follows comes server p (loan.receives p)
      (part_stays history event old new follows comes server p (moves.entries server p)))
    where
      comes : EventFits history old.next new.next event
      comes = loan_comes history event old.next new.next n k loan is more below

      own : (a : Answer) → a.active_request ≡ n → WasReceived history a.server n a.request
          → IsLoaned (history ++ event ∷ []) a.server a.request n k × LoanOccurs (history ++ event ∷ []) a.request n k
      own a of was = (
        now_loaned history event a.server a.request n k (follows.numbers.unused k (omega (arith, is)))
            was (loan.lends k ∙ ap (λ b. cond b (Some n) None) (eq-eqb k k refl)) (loan.responds k),
        occurs_after_active history event a.server n a.request (is_loan n k) was loan.loans,
      )

      this : (j : ℕ) (a : Answer) → GainsLoan history n k j (LoanedResponse a)
          → IsLoaned (history ++ event ∷ []) a.server a.request a.active_request j
          × LoanOccurs (history ++ event ∷ []) a.request a.active_request j
      this j a gained =
          let same : gained.1.0 ≡ a = (let f : LoanedResponse a ≡ LoanedResponse gained.1.0 = gained.1.1 in cc) in
          let of : a.active_request ≡ n = subst (λ (x : Answer). x.active_request ≡ n) same gained.1.2 in
          let was : WasReceived history a.server n a.request = subst
          (λ (x : Answer). WasReceived history x.server n x.request) same gained.1.3 in
          subst (λ i. IsLoaned (history ++ event ∷ []) a.server a.request a.active_request i
          × LoanOccurs (history ++ event ∷ []) a.request a.active_request i) (sym gained.0)
          (subst (λ i. IsLoaned (history ++ event ∷ []) a.server a.request i k × LoanOccurs (history ++ event ∷ []) a.request i k) (sym of)
          (own a of was))

-- the first entry for a request was sent for it
pub first_was_sent : {T H Q QH P PH K : Type 0} (history : List (Event T H K)) (s : State Q QH P PH K) → Follows history s
    → (server p k : ℕ) (rest : List ℕ) → queued s server p ≡ k ∷ rest → WasSent history server p k
first_was_sent history s follows server p k rest first = (subst (AllByRecursion (WasSent history server p)) first
    (follows.entries server p)).0
