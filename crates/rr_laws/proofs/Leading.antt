-- Every history of a machine from the empty hub keeps the answer rule, if each of its steps keeps what holds of a history and its state.
use Rattle.std.proofs.Common.{◌≡◌, ℕ, map, ⊎_elim, subst, eqb, append_assoc, true, Some, Option, List, refl, false, arith, ◌<◌, ◌++◌, ◌∷◌, ◌∙◌, [], None, sym, ap, Ok}
use Rattle.std.specs.Prelude.{option_and_then, filter_map, count_by, is_some, ◌⊎◌, ◌&&◌}
use Rattle.std.specs.List.{AllByRecursion, list_any}
use Rattle.std.specs.FinMap.{get-empty, get}
use Rattle.std.proofs.lemmas.List.{append-nil}
use Rattle.std.specs.Ordering.{nat_cmp}
use Rattle.rr_table.proofs.ListFacts.{any_found, any_weaker}
use Rattle.rr_table.proofs.MapLaws.{map_values-empty}
use Rattle.rr_protocol.specs.declared.limits.Limits.{Limits}
use Rattle.rr_protocol.specs.Keys.{request_key_cmp, RequestKey}
use Rattle.rr_protocol.specs.State.{handle_at, is_server_value, pending_at, server_at, empty_hub, State}
use Rattle.rr_protocol.specs.Limits.{hub_refusal}
use Rattle.rr_protocol.specs.Messages.{PendingResponse, RequestMessage}
use Rattle.rr_protocol.specs.Receives.{ReceivesRequest, ReceivesResponse}
use Rattle.rr_protocol.specs.Ports.{Server}
use Rattle.rr_protocol.proofs.ListsLaws.{at-no_lists}
use Rattle.rr_protocol.specs.declared.reply.Reply.{Reply}
use Rattle.rr_protocol.specs.declared.command.Command.{Command}
use Rattle.rr_protocol.specs.AnswerRule.{sent_for, is_answer, creates_waiting, ReceivesOnce, ReceivesAll, received_by, KeepsAnswerRule, ReceivesWithoutGap, ReceivesInOrder, AnswersTheRequest, received_from, Event, sent_by, IsSubsequence, is_release}
use Rattle.rr_laws.specs.Standing.{Stands}
use Rattle.rr_laws.specs.Completing.{Completes}
use Rattle.rr_laws.specs.Following.{WasSent, Follows, WasReceived, waiting_question, queued}
use Rattle.rr_laws.specs.Roles.{SentRequest, roles_of, question_of, role_of}
use Rattle.rr_laws.specs.Apart.{IsApart}
use Rattle.rr_laws.specs.Settling.{listed}
use Rattle.rr_laws.proofs.RoleLaws.{role_at}
use Rattle.rr_laws.proofs.Opening.{from_pending, some_and}
use Rattle.rr_laws.proofs.Occurring.{subsequence_front, false_is_true}
use Rattle.rr_laws.proofs.Moving.{entries-none, entries-waiting}
use Rattle.rr_laws.proofs.MovingReceives.{received_response_moves}
use Rattle.rr_laws.proofs.Following.{first_was_sent}
use Rattle.rr_laws.proofs.ApartSteps.{empty_hub_apart}
use Rattle.rr_laws.proofs.Creating.{empty_hub_reached}
use Rattle.rr_laws.proofs.LeftRuns.{empty_left}
use Rattle.rr_laws.proofs.Counts.{and_first}
use Rattle.rr_laws.proofs.Completing.{unasked_answers, filter_never, prefix_front}

module _ {T H Q QH P PH K : Type 0} where
  -- the empty hub follows from no events
  pub empty_follows : (limits : Limits) (node_id : ℕ)
      → Follows {T = T} {H = H} [] (empty_hub {Q = Q} {QH = QH} {P = P} {PH = PH} {K = K} limits node_id)
  empty_follows limits node_id =
      record {
        numbers = record {
          unused = λ k high. record { no_lender = refl; no_response = refl; not_active = λ server p. refl };
          lenders = λ k. tt;
          sent = tt;
          received = λ p. tt;
          one_receiver = λ a server other p q e f. absurd (false_is_true e);
          once = λ k. omega arith;
        };
        held = λ n server q e. absurd (let f = sym (unnamed n) ∙ e in cc);
        loaned = λ k a e. absurd (let f = sym (unnamed k) ∙ e in cc);
        entries = λ server p. subst (AllByRecursion (WasSent {T = T} {H = H} {K = K} [] server p)) (sym (nothing server p)) tt;
        order = λ server p. subst (λ xs. IsSubsequence xs []) (sym (nothing server p)) tt;
      }
    where
      unnamed : (n : ℕ) → get (roles_of (empty_hub {Q = Q} {QH = QH} {P = P} {PH = PH} {K = K} limits node_id).handles) n ≡ None
      unnamed n = ap (λ r. get r n) (map_values-empty (role_of {Q = Q} {QH = QH} {P = P} {PH = PH})) ∙ get-empty nat_cmp n

      nothing : (server p : ℕ) → queued (empty_hub {Q = Q} {QH = QH} {P = P} {PH = PH} {K = K} limits node_id) server p ≡ []
      nothing server p = entries-none (roles_of (empty_hub {Q = Q} {QH = QH} {P = P} {PH = PH} {K = K} limits node_id).handles) _ server p
          (ap (option_and_then waiting_question) (unnamed p))

  -- in the empty hub nothing is under way
  empty_completes : (limits : Limits) (node_id : ℕ)
      → Completes {T = T} {H = H} [] (empty_hub {Q = Q} {QH = QH} {P = P} {PH = PH} {K = K} limits node_id)
  empty_completes limits node_id =
      record {
        under_way = λ a server p was. absurd (false_is_true was);
        given = λ n made. absurd (false_is_true made);
        waits = λ n made c e. absurd (false_is_true made);
        held = λ n made kept. absurd (false_is_true made);
        clear = λ n clashes. ⊎_elim
            (λ unsent. unlisted n unsent.1 unsent.3)
            (λ both. absurd (let f : None ≡ Some both.0 = both.1 in cc))
            clashes;
        whole = λ no_overflow server p made serves. absurd (false_is_true made);
        first = λ no_overflow server p made. absurd (false_is_true made);
      }
    where
      unlisted : (n : ℕ) (key : RequestKey)
          → 0 < listed (empty_hub {Q = Q} {QH = QH} {P = P} {PH = PH} {K = K} limits node_id).requests n key
          → ⊥
      unlisted n key some = absurd (omega (
        arith,
        some,
        ap (count_by (λ (m : RequestMessage Q QH). eqb m.number n))
            (at-no_lists request_key_cmp key),
      ))

  -- all that holds of a history and its state holds of none and the empty hub
  empty_stands : (limits : Limits) (node_id : ℕ) → hub_refusal limits ≡ None
      → Stands {T = T} {H = H} [] (empty_hub {Q = Q} {QH = QH} {P = P} {PH = PH} {K = K} limits node_id)
  empty_stands limits node_id makes_hub = record {
    fits = empty_hub_reached limits node_id makes_hub;
    apart = empty_hub_apart Q QH P PH K limits node_id;
    left = empty_left;
    follows = empty_follows limits node_id;
    completes = empty_completes limits node_id;
  }

-- a request that no server received gets nothing, and nothing is sent for it
unasked_same : {T H K : Type 0} (history : List (Event T H K)) (server p : ℕ) → ((a : ℕ) → WasReceived history server a p → ⊥)
    → received_from history server p ≡ sent_for history server p
unasked_same history server p not =
    let never = unasked_answers history server p not in
    filter_never (is_answer history server p) never (filter_map (received_by p) history)
    ∙ sym (filter_never (is_answer history server p) never (filter_map sent_by history))

-- a server whose value lives is connected
held_connected : {Q QH P PH K : Type 0} (s : State Q QH P PH K) (n : ℕ) → is_server_value s n ≡ true → (c : Server K)
    × (server_at s n ≡ Some c)
held_connected {Q} {QH} {P} {PH} {K} s n held =
    go (server_at s n) refl (any_found (λ (c : Server K). eqb c.id n) s.servers
    ∙ any_weaker (λ (c : Server K). eqb c.id n && c.has_value) (λ c. eqb c.id n)
    (λ c h. and_first (eqb c.id n) c.has_value h) s.servers held)
  where
    go : (o : Option (Server K)) → server_at s n ≡ o → is_some o ≡ true → (c : Server K) × (server_at s n ≡ Some c)
    go None is some = absurd (false_is_true some)
    go (Some c) is some = (c, is)

-- what is something is not nothing, however it is told
not_absent : {X : Type 0} (o : Option X) → is_some o ≡ true → ((x : X) → o ≡ Some x → ⊥) → ⊥
not_absent None some not = absurd (false_is_true some)
not_absent (Some x) some not = not x refl

module _ {T H Q QH P PH K : Type 0} (history : List (Event T H K)) (s : State Q QH P PH K) (stands : Stands history s) where
  -- a response that a request receives was sent for it
  received_was_sent : (p k : ℕ) (new : State Q QH P PH K) → IsApart new → ReceivesResponse s p (Ok (Some k)) new →
      (server : ℕ) × WasSent history server p k
  received_was_sent p k new after receives =
      let taken = received_response_moves s stands.fits stands.apart p k new after receives in
      (taken.0, first_was_sent history s stands.follows taken.0 p k (queued new taken.0 p) taken.1.first)

  -- who finds nothing has received all that a server that waits for room, and was not released, sent for it
  nothing_left : s.limits.enable_safe_overflow_for_responses ≡ false → (server p : ℕ) (new : State Q QH P PH K)
      → ReceivesRequest s p (Ok None) new ⊎ ReceivesResponse s p (Ok None) new →
      list_any (creates_waiting server) history ≡ true → list_any (is_release server) history ≡ false
      → received_from history server p ≡ sent_for history server p
  nothing_left no_overflow server p new receives made kept = ⊎_elim
      (λ (request : ReceivesRequest s p (Ok None) new). unasked_same history server p
      (λ a was. not_absent (server_at s p) request.0 (stands.completes.under_way a server p was).no_server))
      (λ (response : ReceivesResponse s p (Ok None) new).
      let o = some_and (pending_at s p) _ response in
      let waits : get (roles_of s.handles) p ≡ Some (SentRequest (question_of o.0.message)) = role_at s.handles p
      (PendingResponse o.0) (from_pending (handle_at s p) o.0 o.1) in
      let nothing : queued s server p ≡ [] =
      entries-waiting (roles_of s.handles) s.responses server p (SentRequest (question_of o.0.message)) (question_of o.0.message) waits refl
      ∙ ap (map (λ m. m.number)) (o.2.0 server) in
      sym (append-nil (received_from history server p)) ∙ ap (λ xs. received_from history server p ++ xs) (sym nothing)
      ∙ stands.completes.whole no_overflow server p made
      ((question_of o.0.message, waits), held_connected s server (stands.completes.held server made kept)))
      receives

module _ {T H Q QH P PH K : Type 0} (Goes : State Q QH P PH K → Event T H K → State Q QH P PH K → Type 0) where
  -- these events lead from one state to another, one after another
  abbrev pub Leads : State Q QH P PH K → List (Event T H K) → State Q QH P PH K → Type 0
  Leads old [] new = new ≡ old
  Leads old (event ∷ events) new = (mid : State Q QH P PH K) × Goes old event mid × Leads mid events new

  -- each step keeps what holds of a history and its state, and the limits; and receives of responses, and of nothing, are such
  pub record KeepsStanding : Type 0 where
    pub stands : (history : List (Event T H K)) (old : State Q QH P PH K) → Stands history old → (event : Event T H K)
        (new : State Q QH P PH K) → Goes old event new → Stands (history ++ event ∷ []) new × (new.limits ≡ old.limits)
    pub responds : (old : State Q QH P PH K) (p k : ℕ) (new : State Q QH P PH K) → Goes old (Command.Receive p, Reply.Response k) new
        → ReceivesResponse old p (Ok (Some k)) new
    pub finds_nothing : (old : State Q QH P PH K) (p : ℕ) (new : State Q QH P PH K) → Goes old (Command.Receive p, Reply.Nothing) new
        → ReceivesRequest old p (Ok None) new ⊎ ReceivesResponse old p (Ok None) new

  -- events up to one of them, that step, and the rest
  leads_at : (before : List (Event T H K)) (event : Event T H K) (after : List (Event T H K)) (old new : State Q QH P PH K)
      → Leads old (before ++ event ∷ after) new → (mid next : State Q QH P PH K) × Leads old before mid × Goes mid event next
  leads_at [] event after old new leads = (old, leads.0, refl, leads.1)
  leads_at (first ∷ before) event after old new leads =
      let rest = leads_at before event after leads.0 new leads.2 in
      (rest.0, rest.1, (leads.0, leads.1, rest.2), rest.3)

  module _ (keeps : KeepsStanding) where
    -- whatever the events, all that holds of the history and its state holds still
    pub leads_stand : (before : List (Event T H K)) (old : State Q QH P PH K) → Stands before old → (events : List (Event T H K))
        (new : State Q QH P PH K) → Leads old events new → Stands (before ++ events) new × (new.limits ≡ old.limits)
    leads_stand before old stands [] new leads = (
      subst (λ (x : State Q QH P PH K). Stands (before ++ []) x) (sym leads) (subst (λ h. Stands h old) (sym (append-nil before)) stands),
      ap (λ (x : State Q QH P PH K). x.limits) leads,
    )
    leads_stand before old stands (event ∷ events) new leads =
        let one = keeps.stands before old stands event leads.0 leads.1 in
        let rest = leads_stand (before ++ event ∷ []) leads.0 one.0 events new leads.2 in
        (subst (λ h. Stands h new) (append_assoc before (event ∷ []) events) rest.0, rest.1 ∙ one.1)

    module _ (limits : Limits) (node_id : ℕ) (makes_hub : hub_refusal limits ≡ None) (history : List (Event T H K))
        (s : State Q QH P PH K) (leads : Leads (empty_hub limits node_id) history s) where
      -- all that holds of a history from the empty hub and its state, and its limits
      pub leads_from_empty : Stands history s × (s.limits ≡ limits)
      leads_from_empty = leads_stand [] (empty_hub limits node_id) (empty_stands limits node_id makes_hub) history s leads

      -- the same of the events before one of them, and its step
      before_event : (before : List (Event T H K)) (event : Event T H K) (after : List (Event T H K)) → history ≡ before ++ event ∷ after →
          (mid next : State Q QH P PH K) × Stands before mid × (mid.limits ≡ limits) × Goes mid event next
      before_event before event after is =
          let at = leads_at before event after (empty_hub limits node_id) s (subst (λ h. Leads (empty_hub limits node_id) h s) is leads) in
          let stood = leads_stand [] (empty_hub limits node_id) (empty_stands limits node_id makes_hub) before at.0 at.2 in
          (at.0, at.1, stood.0, stood.1, at.3)

      -- what a request receives answers it
      pub leads_answer : AnswersTheRequest history
      leads_answer before after p k is =
          let at = before_event before (Command.Receive p, Reply.Response k) after is in
          let next = keeps.stands before at.0 at.2 (Command.Receive p, Reply.Response k) at.1 at.4 in
          let sent = received_was_sent before at.0 at.2 p k at.1 next.0.apart (keeps.responds at.0 p k at.1 at.4) in
          (sent.1.lender, sent.1.occurs)

      -- nothing is received twice
      pub leads_once : ReceivesOnce history
      leads_once k = leads_from_empty.0.follows.numbers.once k

      -- what is received was sent, in this order
      pub leads_in_order : ReceivesInOrder history
      leads_in_order server p = subsequence_front (received_from history server p) (queued s server p) (sent_for history server p)
          (leads_from_empty.0.follows.order server p)

      -- what is received from a server that waits for room has no gap
      pub leads_without_gap : limits.enable_safe_overflow_for_responses ≡ false → ReceivesWithoutGap history
      leads_without_gap no_overflow server p made =
          prefix_front (received_from history server p) (queued s server p) (sent_for history server p)
          (leads_from_empty.0.completes.first
          (ap (λ (l : Limits). l.enable_safe_overflow_for_responses) leads_from_empty.1 ∙ no_overflow) server p made)

      -- where nothing is received, all that such a server sent was, if it was not released
      pub leads_all : limits.enable_safe_overflow_for_responses ≡ false → ReceivesAll history
      leads_all no_overflow before after server p is made kept =
          let at = before_event before (Command.Receive p, Reply.Nothing) after is in
          nothing_left before at.0 at.2 (ap (λ (l : Limits). l.enable_safe_overflow_for_responses) at.3 ∙ no_overflow) server p at.1
          (keeps.finds_nothing at.0 p at.1 at.4) made kept

      -- the answer rule
      pub leads_keep_answer_rule : KeepsAnswerRule limits history
      leads_keep_answer_rule = record {
        answers = leads_answer;
        once = leads_once;
        in_order = leads_in_order;
        without_gap = leads_without_gap;
        all = leads_all;
      }
