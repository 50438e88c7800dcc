-- Every history from an empty hub is one in which a whole pool never runs dry.
use Rattle.std.proofs.Common.{◌≡◌, ℕ, ◌<◌, ◌≤◌, true, List, [], ◌∷◌, ◌++◌, map, Some, None, sym, ap, ◌∙◌, subst, ⊎_elim, inl, inr, arith, append_assoc}
use Rattle.std.specs.List.{list_any}
use Rattle.std.proofs.lemmas.List.{append-nil}
use Rattle.rr_slots.specs.declared.family.Family.{Family}
use Rattle.rr_protocol.specs.declared.limits.Limits.{Limits}
use Rattle.rr_protocol.specs.declared.settings.BackpressureAction.{BackpressureAction}
use Rattle.rr_protocol.specs.Limits.{hub_refusal, worst_case_responses}
use Rattle.rr_protocol.specs.Messages.{Active, ActiveRequest}
use Rattle.rr_protocol.specs.Ports.{Client, Server}
use Rattle.rr_protocol.specs.State.{State, empty_hub, client_at, server_at, handle_at, active_at}
use Rattle.rr_protocol.specs.Run.{Run}
use Rattle.rr_protocol.specs.Step.{Step}
use Rattle.rr_protocol.specs.AnswerRule.{Event, is_active_of}
use Rattle.rr_laws.specs.Reached.{IsReached}
use Rattle.rr_laws.specs.Apart.{IsApart}
use Rattle.rr_laws.specs.Following.{WasReceived, NumbersFit, Follows}
use Rattle.rr_laws.specs.Unreduced.{HasClientPool, HasServerPool, ClientHasPool, ServerHasPool, HasPool}
use Rattle.rr_laws.specs.Whole.{creates_whole_client, creates_whole_server, HasWholePool, NeverRunsDry}
use Rattle.rr_laws.proofs.Opening.{from_active}
use Rattle.rr_laws.proofs.RoleLaws.{role_at}
use Rattle.rr_laws.proofs.Creating.{empty_hub_reached}
use Rattle.rr_laws.proofs.Stepping.{step_reached}
use Rattle.rr_laws.proofs.ApartSteps.{empty_hub_apart, step_apart}
use Rattle.rr_laws.proofs.Occurring.{false_is_true}
use Rattle.rr_laws.proofs.FollowingSteps.{step_follows}
use Rattle.rr_laws.proofs.Histories.{run_at, stands_from_empty}
use Rattle.rr_laws.proofs.Leading.{empty_follows}
use Rattle.rr_laws.proofs.Lasting.{client_lasting, server_lasting, Lasts}
use Rattle.rr_laws.proofs.LastingSteps.{step_lasts, run_lasts}
use Rattle.rr_laws.proofs.Memory.{finds_memory}
use Rattle.rr_laws.proofs.Made.{IsMadeSo, last_or_before, made_more, event_makes_client, event_makes_server, event_receives, makes_or_receives}

module _ {T H K : Type 0} where
  -- who was created with a whole pool has it, and no number of such a client or of a connected one is an active request's
  pub record IsMade (family : Family) (limits : Limits) (history : List (Event T H K)) (s : State T H T H K) : Type 0 where
    pub clients : (n len : ℕ) → IsMadeSo (creates_whole_client family limits n len) (λ (c : Client K). HasClientPool limits c len) history
        (client_at s n) s.next n
    pub servers : (n len : ℕ) → IsMadeSo (creates_whole_server family limits n len) (λ (c : Server K). HasServerPool limits c len) history
        (server_at s n) s.next n
    pub no_request : (n len server p : ℕ) → list_any (creates_whole_client family limits n len) history ≡ true
        → WasReceived history server n p → ⊥
    pub no_client : (n server p : ℕ) → WasReceived history server n p → (c : Client K) → client_at s n ≡ Some c → ⊥

  -- in the empty hub nothing was made
  empty_made : (family : Family) (limits : Limits) (node_id : ℕ) → IsMade family limits [] (empty_hub limits node_id)
  empty_made family limits node_id =
      record {
        clients = λ n len. record { given = λ e. absurd (false_is_true e); fits = λ e. absurd (false_is_true e) };
        servers = λ n len. record { given = λ e. absurd (false_is_true e); fits = λ e. absurd (false_is_true e) };
        no_request = λ n len server p e. absurd (false_is_true e);
        no_client = λ n server p e. absurd (false_is_true e);
      }

  -- what was received has a number that was given
  old_number : (history : List (Event T H K)) (next n server p : ℕ) → NumbersFit history next → WasReceived history server n p
      → next ≤ n → ⊥
  old_number history next n server p numbers was high = false_is_true (sym ((numbers.unused n high).not_active server p) ∙ was)

-- a pool like another one that is whole
client_like : {K : Type 0} (limits : Limits) (len : ℕ) (c d : Client K) → client_lasting c ≡ client_lasting d → HasClientPool limits d len
    → HasClientPool limits c len
client_like limits len c d e has =
    record {
      whole = ap (λ p. p.0) e ∙ has.whole;
      short = subst (λ k. len ≤ k) (sym (ap (λ p. p.1) e)) has.short;
    }

server_like : {K : Type 0} (limits : Limits) (len : ℕ) (c d : Server K) → server_lasting c ≡ server_lasting d → HasServerPool limits d len
    → HasServerPool limits c len
server_like limits len c d e has =
    record {
      whole = ap (λ p. p.0) e ∙ has.whole ∙ sym (ap (λ p. worst_case_responses limits p.2) e);
      short = subst (λ k. len ≤ k) (sym (ap (λ p. p.1) e)) has.short;
    }

module _ {T H K : Type 0} (action : K → ℕ → ℕ → BackpressureAction) (IsDefaultElement : T → Type 0) (IsDefaultHeader : H → Type 0)
    (family : Family) where
  -- each step keeps what was made
  step_made : (before : List (Event T H K)) (old : State T H T H K) → IsReached old → Follows before old
      → IsMade family old.limits before old → (event : Event T H K) (new : State T H T H K) → IsReached new
      → Step action IsDefaultElement IsDefaultHeader family old event.0 event.1 new → IsMade family new.limits (before ++ event ∷ []) new
  step_made before old fits follows made event new new_fits step = subst (λ l. IsMade family l (before ++ event ∷ []) new)
      (sym lasts.limits)
      (record {
        clients = λ n len. made_more (creates_whole_client family old.limits n len) (λ (c : Client K). HasClientPool old.limits c len)
            before event (client_at old n) (client_at new n) old.next new.next n (made.clients n len) lasts.next
            (λ c is. ⊎_elim (λ was. inl (was.0, was.1, client_like old.limits len c was.0 was.2)) (λ high. inr high)
            (lasts.clients n c is))
            (λ now. let m = makes n len now in (m.1, m.2));
        servers = λ n len. made_more (creates_whole_server family old.limits n len) (λ (c : Server K). HasServerPool old.limits c len)
            before event (server_at old n) (server_at new n) old.next new.next n (made.servers n len) lasts.next
            (λ c is. ⊎_elim (λ was. inl (was.0, was.1, server_like old.limits len c was.0 was.2)) (λ high. inr high)
            (lasts.servers n c is))
            (λ now. let m = event_makes_server action IsDefaultElement IsDefaultHeader family old fits n len new event.0 event.1 step now in
            (m.1, m.2));
        no_request = λ n len server p is was. ⊎_elim
            (λ is_before. ⊎_elim
            (λ was_before. made.no_request n len server p is_before was_before)
            (λ was_now. let low = (made.clients n len).given is_before in
            let high = (receives n server p was_now).0 in
            omega (arith, low, high))
            (last_or_before (is_active_of server n p) before event was))
            (λ is_now. ⊎_elim
            (λ was_before. old_number before old.next n server p follows.numbers was_before (makes n len is_now).0)
            (λ was_now. makes_or_receives family old.limits n len n server p event.0 event.1 is_now was_now)
            (last_or_before (is_active_of server n p) before event was))
            (last_or_before (creates_whole_client family old.limits n len) before event is);
        no_client = λ n server p was c is. ⊎_elim
            (λ was_before. ⊎_elim
            (λ same. made.no_client n server p was_before same.0 same.1)
            (λ high. old_number before old.next n server p follows.numbers was_before high)
            (lasts.clients n c is))
            (λ was_now. (receives n server p was_now).1 c is)
            (last_or_before (is_active_of server n p) before event was);
      })
    where
      lasts : Lasts old new
      lasts = step_lasts action IsDefaultElement IsDefaultHeader family old event.0 event.1 new step

      makes : (n len : ℕ) → creates_whole_client family old.limits n len event ≡ true →
          (old.next ≤ n) × (n < new.next) × ((c : Client K) → client_at new n ≡ Some c → HasClientPool old.limits c len)
      makes n len now = event_makes_client action IsDefaultElement IsDefaultHeader family old fits n len new event.0 event.1 step now

      receives : (n server p : ℕ) → is_active_of server n p event ≡ true
          → (old.next ≤ n) × ((c : Client K) → client_at new n ≡ Some c → ⊥)
      receives n server p now = event_receives action IsDefaultElement IsDefaultHeader family old fits n 0 new new_fits server p event.0
          event.1 step now

  -- and so does each run
  run_made : (before : List (Event T H K)) (old : State T H T H K) → IsReached old → IsApart old → Follows before old
      → IsMade family old.limits before old → (events : List (Event T H K)) (new : State T H T H K) →
      Run action IsDefaultElement IsDefaultHeader family old (map (λ e. e.0) events) (map (λ e. e.1) events) new
      → IsMade family new.limits (before ++ events) new
  run_made before old fits apart follows made [] new run =
      subst (λ (x : State T H T H K). IsMade family x.limits (before ++ []) x) (sym run)
      (subst (λ h. IsMade family old.limits h old) (sym (append-nil before)) made)
  run_made before old fits apart follows made (event ∷ events) new run =
      let mid : State T H T H K = run.0 in
      let mid_fits = step_reached action IsDefaultElement IsDefaultHeader family old fits event.0 event.1 mid run.1 in
      let mid_apart = step_apart action IsDefaultElement IsDefaultHeader family old fits apart event.0 event.1 mid run.1 in
      let mid_follows = step_follows action IsDefaultElement IsDefaultHeader family before old fits apart follows event.0 event.1 mid
      mid_apart run.1 in
      subst (λ h. IsMade family new.limits h new) (append_assoc before (event ∷ []) events)
      (run_made (before ++ event ∷ []) mid mid_fits mid_apart mid_follows
      (step_made before old fits follows made event mid mid_fits run.1) events new run.2)

-- whom a history says to have a whole pool has it
has_pool : {T H K : Type 0} (family : Family) (before : List (Event T H K)) (s : State T H T H K) → Follows before s
    → IsMade family s.limits before s → (n len : ℕ) → HasWholePool family s.limits before n len → HasPool s.limits s n len
has_pool {T} {H} {K} family before s follows made n len has = (client, server)
  where
    received : (a : Active T H) → active_at s n ≡ Some a → WasReceived before a.server n a.message.number
    received a is = follows.held n a.server _ (role_at s.handles n (ActiveRequest a) (from_active (handle_at s n) a is))

    client : ClientHasPool s.limits s n len
    client c is = ⊎_elim
        (λ created. (made.clients n len).fits created c is)
        (λ held. absurd (made.no_client n held.0 held.1 held.2 c is))
        has

    server : ServerHasPool s.limits s n len
    server a c is at = ⊎_elim
        (λ created. absurd (made.no_request n len a.server a.message.number created (received a is)))
        (λ held. (made.servers a.server len).fits
        (subst (λ o. list_any (creates_whole_server family s.limits o len) before ≡ true)
        (follows.numbers.one_receiver n held.0 a.server held.1 a.message.number held.2 (received a is)).0 held.3) c at)
        has

module _ {T H K : Type 0} (action : K → ℕ → ℕ → BackpressureAction) (IsDefaultElement : T → Type 0) (IsDefaultHeader : H → Type 0)
    (family : Family) (limits : Limits) (node_id : ℕ) (makes_hub : hub_refusal limits ≡ None) where
  -- a whole pool never runs dry
  pub never_runs_dry : (history : List (Event T H K)) (s : State T H T H K)
      → Run action IsDefaultElement IsDefaultHeader family (empty_hub limits node_id) (map (λ e. e.0) history) (map (λ e. e.1) history) s
      → NeverRunsDry family limits history
  never_runs_dry history s run before after command reply n len is asked has =
      let at = run_at action IsDefaultElement IsDefaultHeader family before (command, reply) after (empty_hub limits node_id) s
      (subst (λ h. Run action IsDefaultElement IsDefaultHeader family (empty_hub limits node_id) (map (λ e. e.0) h) (map (λ e. e.1) h) s)
      is run) in
      let mid : State T H T H K = at.0 in
      let stands = stands_from_empty action IsDefaultElement IsDefaultHeader family limits node_id makes_hub before mid at.2 in
      let made = run_made action IsDefaultElement IsDefaultHeader family [] (empty_hub limits node_id)
      (empty_hub_reached limits node_id makes_hub) (empty_hub_apart T H T H K limits node_id) (empty_follows limits node_id)
      (empty_made family limits node_id) before mid at.2 in
      let same : mid.limits ≡ limits = (run_lasts action IsDefaultElement IsDefaultHeader family (empty_hub limits node_id)
      (map (λ e. e.0) before) (map (λ e. e.1) before) mid at.2).limits in
      finds_memory IsDefaultElement IsDefaultHeader mid stands.0 action family command reply at.1 n len asked
      (has_pool family before mid stands.2 made n len (subst (λ l. HasWholePool family l before n len) (sym same) has)) at.3
