-- A history grows by an event: what was received, loaned and sent before stays so.
use Rattle.std.proofs.Common.{◌≡◌, ℕ, ◌<◌, ◌≤◌, Bool, true, false, List, [], ◌∷◌, ◌++◌, Option, Some, None, refl, sym, ap, ◌∙◌, subst, ⊎_elim, inl, inr, arith}
use Rattle.std.specs.Prelude.{◌⊎◌, ◌||◌, nat_lt, count_by, filter, filter_map}
use Rattle.std.specs.List.{AllByRecursion, list_any, cons_option}
use Rattle.std.proofs.Math.Bool.{or-false}
use Rattle.std.proofs.lemmas.List.{append-nil}
use Rattle.std.proofs.lemmas.List.Elements.{filter_map-append, filter-append}
use Rattle.std.proofs.lemmas.List.Folds.{list_any-append}
use Rattle.std.proofs.lemmas.Bool.{ltb-true, ltb-false}
use Rattle.rr_table.specs.Maps.{mark}
use Rattle.rr_protocol.specs.AnswerRule.{Event, is_active, is_active_of, is_loan, is_sent, is_sent_copy, is_response, sent_by, received_by, lender_of, is_answer, sent_for, received_from}
use Rattle.rr_laws.specs.Following.{WasReceived, IsLoaned, SendOccurs, WasSent, NumbersFit}
use Rattle.rr_table.proofs.ListFacts.{any-append, all_each}
use Rattle.rr_table.proofs.Counting.{count-cons, count-append}
use Rattle.rr_laws.proofs.Occurring.{false_is_true, occurs_later, filter_agree, any_agree, all_joined}
use Rattle.rr_laws.proofs.Telling.{active_once}

-- a number is below another or not
pub below_or_not : (k n : ℕ) → (k < n) ⊎ (n ≤ k)
below_or_not k n = go (nat_lt k n) refl
  where
    go : (b : Bool) → nat_lt k n ≡ b → (k < n) ⊎ (n ≤ k)
    go true e = inl (ltb-true k n e)
    go false e = inr (ltb-false k n e)

module _ {T H K : Type 0} where
  -- an event fits a history whose next number is this, and then is the later one: what it loans and makes active is new, and it names
  -- nothing that was not given
  pub record EventFits (history : List (Event T H K)) (next after : ℕ) (event : Event T H K) : Type 0 where
    pub more : next ≤ after
    pub lends_new : (k : ℕ) → k < next → lender_of k event ≡ None
    pub activates_new : (server a p : ℕ) → a < next → is_active_of server a p event ≡ false
    pub lends_given : (k : ℕ) → after ≤ k → lender_of k event ≡ None
    pub activates_given : (server a p : ℕ) → after ≤ a → is_active_of server a p event ≡ false
    pub responds_given : (k : ℕ) → after ≤ k → is_response k event ≡ false
    pub lenders : (k n : ℕ) → lender_of k event ≡ Some n → n < after
    pub sends : (k : ℕ) → sent_by event ≡ Some k → k < after
    pub receives : (p k : ℕ) → received_by p event ≡ Some k → k < after
    pub first : (k : ℕ) → is_response k event ≡ true → count_by (is_response k) history ≡ 0

  -- a response that was loaned has a number that was given
  pub loaned_below : (history : List (Event T H K)) (next server p a k : ℕ) → NumbersFit history next → IsLoaned history server p a k
      → k < next
  loaned_below history next server p a k fits loaned = ⊎_elim
      (λ below. below)
      (λ not. absurd (let f : [] ≡ a ∷ [] = sym (fits.unused k not).no_lender ∙ loaned.lenders in cc))
      (below_or_not k next)

  -- a response that was loaned answers the request of its active request
  pub loaned_answers : (history : List (Event T H K)) (server p a k : ℕ) → IsLoaned history server p a k
      → is_answer history server p k ≡ true
  loaned_answers history server p a k loaned =
      ap (list_any (λ j. list_any (is_active_of server j p) history)) loaned.lenders ∙ or-false _ ∙ loaned.active

  -- and no other
  pub loaned_answers_one : (history : List (Event T H K)) (next server p a k : ℕ) → NumbersFit history next → IsLoaned history server p a k
      → (other q : ℕ) → is_answer history other q k ≡ true → (other ≡ server) × (q ≡ p)
  loaned_answers_one history next server p a k fits loaned other q e =
      fits.one_receiver a other server q p
      (sym (ap (list_any (λ j. list_any (is_active_of other j q) history)) loaned.lenders
      ∙ or-false (list_any (is_active_of other a q) history)) ∙ e) loaned.active

module _ {T H K : Type 0} (history : List (Event T H K)) (event : Event T H K) where
  -- the history with the event
  abbrev pub grown : List (Event T H K)
  grown = history ++ event ∷ []

  -- what a server received it received
  pub received_later : (server a p : ℕ) → WasReceived history server a p → WasReceived grown server a p
  received_later server a p h = any-append (is_active_of server a p) history (event ∷ []) h

  -- what the event makes active was received
  pub received_now : (server a p : ℕ) → is_active_of server a p event ≡ true → WasReceived grown server a p
  received_now server a p h = list_any-append (is_active_of server a p) history (event ∷ [])
      ∙ ap (λ b. list_any (is_active_of server a p) history || (b || false)) h ∙ go (list_any (is_active_of server a p) history)
    where
      go : (b : Bool) → (b || true) ≡ true
      go true = refl
      go false = refl

  -- what was not received before was received by the event
  pub received_parts : (server a p : ℕ) → WasReceived grown server a p → WasReceived history server a p
      ⊎ (is_active_of server a p event ≡ true)
  received_parts server a p h = go (list_any (is_active_of server a p) history) (is_active_of server a p event)
      (sym (list_any-append (is_active_of server a p) history (event ∷ [])) ∙ h)
    where
      go : (b c : Bool) → (b || (c || false)) ≡ true → (b ≡ true) ⊎ (c ≡ true)
      go true c h = inl refl
      go false true h = inr refl
      go false false h = absurd (false_is_true h)

  -- the lenders of a number, where the event loans nothing under it
  pub lenders-grown : (k : ℕ) → lender_of k event ≡ None → filter_map (lender_of k) grown ≡ filter_map (lender_of k) history
  lenders-grown k none = filter_map-append (lender_of k) history (event ∷ [])
      ∙ ap (λ o. filter_map (lender_of k) history ++ cons_option o []) none ∙ append-nil _

  -- how often a number was received, where the event does not
  pub responses-grown : (k : ℕ) → is_response k event ≡ false → count_by (is_response k) grown ≡ count_by (is_response k) history
  responses-grown k quiet = omega (
    arith,
    count-append (is_response k) history (event ∷ []),
    count-cons (is_response k) event [],
    ap mark quiet,
  )

  -- a loan stays
  pub loaned_later : (server p a k : ℕ) → IsLoaned history server p a k → lender_of k event ≡ None → is_response k event ≡ false
      → IsLoaned grown server p a k
  loaned_later server p a k loaned none quiet = record {
    active = received_later server a p loaned.active;
    lenders = lenders-grown k none ∙ loaned.lenders;
    unreceived = responses-grown k quiet ∙ loaned.unreceived;
  }

  -- and so does a send
  pub send_occurs_later : (p a k : ℕ) → SendOccurs history p a k → SendOccurs grown p a k
  send_occurs_later p a k h = ⊎_elim
      (λ sent. inl (occurs_later (is_active a p ∷ is_loan a k ∷ is_sent k ∷ []) history event sent))
      (λ copied. inr (occurs_later (is_active a p ∷ is_sent_copy a k ∷ []) history event copied))
      h

module _ {T H K : Type 0} (history : List (Event T H K)) (next after : ℕ) (event : Event T H K) (fits : NumbersFit history next)
    (comes : EventFits history next after event) where
  -- responses that were sent and that the event does not receive stay so
  pub all_sent_later : (server p : ℕ) (xs : List ℕ) → AllByRecursion (WasSent history server p) xs
      → AllByRecursion (λ k. is_response k event ≡ false) xs → AllByRecursion (WasSent (history ++ event ∷ []) server p) xs
  all_sent_later server p [] sent quiet = tt
  all_sent_later server p (k ∷ xs) sent quiet = (
    record {
      lender = sent.0.lender;
      loaned = loaned_later history event server p sent.0.lender k sent.0.loaned
          (comes.lends_new k (loaned_below history next server p sent.0.lender k fits sent.0.loaned)) quiet.0;
      occurs = send_occurs_later history event p sent.0.lender k sent.0.occurs;
    },
    all_sent_later server p xs sent.1 quiet.1,
  )

  -- whom a response with a given number answers was decided
  pub answer-grown : (server p k : ℕ) → k < next → is_answer (history ++ event ∷ []) server p k ≡ is_answer history server p k
  answer-grown server p k below =
      ap (list_any (λ a. list_any (is_active_of server a p) (history ++ event ∷ []))) (lenders-grown history event k
      (comes.lends_new k below))
      ∙ any_agree (λ a. list_any (is_active_of server a p) (history ++ event ∷ [])) (λ a. list_any (is_active_of server a p) history) next
      (λ a small. list_any-append (is_active_of server a p) history (event ∷ [])
      ∙ ap (λ b. list_any (is_active_of server a p) history || (b || false)) (comes.activates_new server a p small) ∙ or-false _)
      (filter_map (lender_of k) history) (fits.lenders k)

  -- what was sent for a request, and what the event sends for it
  pub sent_for-grown : (server p : ℕ) → sent_for (history ++ event ∷ []) server p ≡ sent_for history server p ++ filter
      (is_answer (history ++ event ∷ []) server p) (filter_map sent_by (event ∷ []))
  sent_for-grown server p =
      let later = is_answer (history ++ event ∷ []) server p in
      ap (filter later) (filter_map-append sent_by history (event ∷ []))
      ∙ filter-append later (filter_map sent_by history) (filter_map sent_by (event ∷ []))
      ∙ ap (λ xs. xs ++ filter later (filter_map sent_by (event ∷ []))) (filter_agree later (is_answer history server p) next
      (λ k below. answer-grown server p k below) (filter_map sent_by history) fits.sent)

  -- what a request received, and what it receives by the event
  pub received_from-grown : (server p : ℕ) → received_from (history ++ event ∷ []) server p ≡ received_from history server p ++ filter
      (is_answer (history ++ event ∷ []) server p) (filter_map (received_by p) (event ∷ []))
  received_from-grown server p =
      let later = is_answer (history ++ event ∷ []) server p in
      ap (filter later) (filter_map-append (received_by p) history (event ∷ []))
      ∙ filter-append later (filter_map (received_by p) history) (filter_map (received_by p) (event ∷ []))
      ∙ ap (λ xs. xs ++ filter later (filter_map (received_by p) (event ∷ []))) (filter_agree later (is_answer history server p) next
      (λ k below. answer-grown server p k below) (filter_map (received_by p) history) (fits.received p))

  -- numbers that an event names were given, and so were those before
  all_grown : (f : Event T H K → Option ℕ) → AllByRecursion (λ k. k < next) (filter_map f history)
      → ((k : ℕ) → f event ≡ Some k → k < after) → AllByRecursion (λ k. k < after) (filter_map f (history ++ event ∷ []))
  all_grown f all one = subst (AllByRecursion (λ k. k < after)) (sym (filter_map-append f history (event ∷ [])))
      (all_joined (λ k. k < after) (filter_map f history) (filter_map f (event ∷ [])) (all_each (λ k. k < next) (λ k. k < after)
      (λ k small. omega (arith, small, comes.more)) (filter_map f history) all) (go (f event) one))
    where
      go : (o : Option ℕ) → ((k : ℕ) → o ≡ Some k → k < after) → AllByRecursion (λ k. k < after) (cons_option o [])
      go None one = tt
      go (Some k) one = (one k refl, tt)

  -- a number is received once at most
  count_once : (k : ℕ) (b : Bool) → is_response k event ≡ b → count_by (is_response k) (history ++ event ∷ []) ≤ 1
  count_once k true is = omega (
    arith,
    count-append (is_response k) history (event ∷ []),
    count-cons (is_response k) event [],
    ap mark is,
    comes.first k is,
  )
  count_once k false is = omega (arith, responses-grown history event k is, fits.once k)

  -- the numbers in the longer history fit
  pub numbers_grow : NumbersFit (history ++ event ∷ []) after
  numbers_grow = record {
    unused = λ k high.
        let was = fits.unused k (omega (arith, high, comes.more)) in
        record {
          no_lender = lenders-grown history event k (comes.lends_given k high) ∙ was.no_lender;
          no_response = responses-grown history event k (comes.responds_given k high) ∙ was.no_response;
          not_active = λ server p. list_any-append (is_active_of server k p) history (event ∷ [])
              ∙ ap (λ b. b || (is_active_of server k p event || false)) (was.not_active server p)
              ∙ ap (λ b. b || false) (comes.activates_given server k p high);
        };
    lenders = λ k. all_grown (lender_of k) (fits.lenders k) (comes.lenders k);
    sent = all_grown sent_by fits.sent comes.sends;
    received = λ p. all_grown (received_by p) (fits.received p) (comes.receives p);
    one_receiver = λ a server other p q x y. ⊎_elim
        (λ old. ⊎_elim
        (λ too. fits.one_receiver a server other p q old too)
        (λ now. absurd (clash a server p other q old now))
        (received_parts history event other a q y))
        (λ now. ⊎_elim
        (λ old. absurd (clash a other q server p old now))
        (λ too. active_once a server other p q event.0 event.1 now too)
        (received_parts history event other a q y))
        (received_parts history event server a p x);
    once = λ k. count_once k (is_response k event) refl;
  }
    where
      clash : (a server p other q : ℕ) → WasReceived history server a p → is_active_of other a q event ≡ true → ⊥
      clash a server p other q old now = ⊎_elim
          (λ below. false_is_true (sym (comes.activates_new other a q below) ∙ now))
          (λ not. false_is_true (sym ((fits.unused a not).not_active server p) ∙ old))
          (below_or_not a next)
