-- What a history says of the ports that it made with whole pools: they have them as long as they are connected.
use Rattle.std.proofs.Common.{◌≡◌, ℕ, ◌+◌, ◌<◌, ◌≤◌, Bool, true, false, eqb, List, [], ◌∷◌, ◌++◌, Option, Some, None, Ok, refl, sym, ap, ◌∙◌, subst, ⊎_elim, inl, inr, arith}
use Rattle.std.specs.Prelude.{◌⊎◌, ◌||◌, nat_le, is_some}
use Rattle.std.specs.List.{list_any}
use Rattle.std.proofs.Math.Nat.{mul-pos}
use Rattle.std.proofs.lemmas.Bool.{eqb-true, leb-true}
use Rattle.std.proofs.lemmas.List.Folds.{list_any-append}
use Rattle.rr_slots.specs.declared.family.Family.{Family}
use Rattle.rr_slots.specs.declared.family.Family.TheVariants.{Typed, Sliced}
use Rattle.rr_protocol.specs.declared.limits.Limits.{Limits}
use Rattle.rr_protocol.specs.declared.settings.BackpressureAction.{BackpressureAction}
use Rattle.rr_protocol.specs.declared.settings.ClientSettings.{ClientSettings}
use Rattle.rr_protocol.specs.declared.settings.ServerSettings.{ServerSettings}
use Rattle.rr_protocol.specs.Limits.{worst_case_requests, worst_case_responses}
use Rattle.rr_protocol.specs.Ports.{Client, Server}
use Rattle.rr_protocol.specs.State.{State, client_at, server_at, handle_at, active_at}
use Rattle.rr_protocol.specs.Messages.{ActiveRequest}
use Rattle.rr_protocol.specs.Creation.{pool_size_of, loans_of, CreatesClient, CreatesServer}
use Rattle.rr_protocol.specs.declared.command.Command.{Command}
use Rattle.rr_protocol.specs.declared.reply.Reply.{Reply}
use Rattle.rr_protocol.specs.Step.{client_settings, server_settings, Step}
use Rattle.rr_protocol.specs.AnswerRule.{is_active_of}
use Rattle.rr_laws.specs.Reached.{has_server, is_port, IsReached}
use Rattle.rr_laws.specs.Unreduced.{HasClientPool, HasServerPool}
use Rattle.rr_laws.specs.Whole.{is_whole, creates_whole_client, creates_whole_server}
use Rattle.rr_laws.proofs.Connected.{has_below}
use Rattle.rr_laws.proofs.Tests.{ArePositive, positive}
use Rattle.rr_laws.proofs.Opening.{some_and, from_active}
use Rattle.rr_laws.proofs.RoleLaws.{role_at}
use Rattle.rr_laws.proofs.LastingSteps.{skims}
use Rattle.rr_laws.proofs.LeftPorts.{found-append_cases}
use Rattle.rr_laws.proofs.Occurring.{false_is_true}
use Rattle.rr_laws.proofs.Telling.{three_true}
use Rattle.rr_laws.proofs.Histories.{step_acts}

-- who passes this test of an event was made: its number was given, and this holds of it as long as it is there
pub record IsMadeSo {E X : Type 0} (made : E → Bool) (P : X → Type 0) (history : List E) (found : Option X) (next n : ℕ) : Type 0 where
  pub given : list_any made history ≡ true → n < next
  pub fits : list_any made history ≡ true → (x : X) → found ≡ Some x → P x

-- one of two tests passes, where one more came at the end
pub last_or_before : {E : Type 0} (test : E → Bool) (history : List E) (event : E) → list_any test (history ++ event ∷ []) ≡ true
    → (list_any test history ≡ true) ⊎ (test event ≡ true)
last_or_before test history event e = go (list_any test history) (test event) (sym (list_any-append test history (event ∷ [])) ∙ e)
  where
    go : (a b : Bool) → (a || (b || false)) ≡ true → (a ≡ true) ⊎ (b ≡ true)
    go true b e = inl refl
    go false true e = inr refl
    go false false e = absurd (false_is_true e)

-- it stays so as one more event comes, if who was made earlier is what it was, and who is made now is so
pub made_more : {E X : Type 0} (made : E → Bool) (P : X → Type 0) (history : List E) (event : E) (old new : Option X) (next after n : ℕ)
    → IsMadeSo made P history old next n → next ≤ after
    → ((x : X) → new ≡ Some x → ((y : X) × (old ≡ Some y) × (P y → P x)) ⊎ (next ≤ n))
    → (made event ≡ true → (n < after) × ((x : X) → new ≡ Some x → P x))
    → IsMadeSo made P (history ++ event ∷ []) new after n
made_more made P history event old new next after n was more stays makes =
    record {
      given = λ e. ⊎_elim
          (λ before. let low = was.given before in omega (arith, low, more))
          (λ now. (makes now).0)
          (last_or_before made history event e);
      fits = λ e x is. ⊎_elim
          (λ before. ⊎_elim
          (λ same. same.2 (was.fits before same.0 same.1))
          (λ high. absurd (let low = was.given before in omega (arith, low, high)))
          (stays x is))
          (λ now. (makes now).1 x is)
          (last_or_before made history event e);
    }

-- a pool that is not reduced has the worst-case size
whole_size : (worst_case : ℕ) (pool : Option ℕ) → 0 < worst_case → is_whole worst_case pool ≡ true
    → pool_size_of worst_case pool ≡ worst_case
whole_size worst_case None some e = refl
whole_size worst_case (Some pool) some e = let most = leb-true worst_case pool e in omega (arith, some, most)

-- the worst case of responses is above 0
pub responses_positive : (l : Limits) (loans : ℕ) → ArePositive l → 0 < loans → 0 < worst_case_responses l loans
responses_positive l loans p some = more _ _ (mul-pos (mul-pos some p.active) p.clients)
  where
    more : (a b : ℕ) → 0 < a → 0 < a + b
    more a b h = omega (arith, h)

module _ {K : Type 0} where
  -- a family leaves the pool and the loans as they are set
  client_pool_kept : (family : Family) (settings : ClientSettings K) → (client_settings family settings).pool ≡ settings.pool
  client_pool_kept Typed settings = refl
  client_pool_kept Sliced settings = refl

  server_pool_kept : (family : Family) (settings : ServerSettings K) → ((server_settings family settings).pool ≡ settings.pool)
      × (loans_of (server_settings family settings) ≡ loans_of settings)
  server_pool_kept Typed settings = (refl, refl)
  server_pool_kept Sliced settings = (refl, refl)

module _ {T H K : Type 0} (family : Family) (s : State T H T H K) (fits : IsReached s) (m n len : ℕ) where
  -- a client that is created so has such a pool
  client_made : (settings : ClientSettings K) (new : State T H T H K) → CreatesClient s (client_settings family settings) (Ok m) new
      → creates_whole_client {T = T} {H = H} {K = K} family s.limits n len (Command.CreateClient settings, Reply.Created m) ≡ true →
      (s.next ≤ n) × (n < new.next) × ((c : Client K) → client_at new n ≡ Some c → HasClientPool s.limits c len)
  client_made settings new made e =
      let t = three_true (eqb m n) (is_whole (worst_case_requests s.limits) settings.pool)
      (nat_le len (client_settings family settings).initial_max_slice_len) e in
      let is : n ≡ s.next = sym (eqb-true m n t.0) ∙ made.1 in
      subst (λ (x : State T H T H K). (s.next ≤ n) × (n < x.next)
      × ((c : Client K) → client_at x n ≡ Some c → HasClientPool s.limits c len))
      (sym made.2) (
        omega (arith, is),
        omega (arith, is),
        (λ c at. ⊎_elim
            (λ was. absurd (
            let low = has_below (λ (d : Client K). d.id) s.clients n s.next fits.ports.client_numbers (ap is_some was) in
            omega (arith, is, low)))
            (λ now. subst (λ (d : Client K). HasClientPool s.limits d len) now.1 (record {
              whole = ap (pool_size_of (worst_case_requests s.limits)) (client_pool_kept family settings)
                  ∙ whole_size (worst_case_requests s.limits) settings.pool (positive s.limits fits.makes_hub).worst t.1;
              short = leb-true _ _ t.2;
            }))
            (found-append_cases (λ (d : Client K). d.id) s.clients _ n c at)),
      )

  -- and so has a server
  server_made : (settings : ServerSettings K) (new : State T H T H K) → CreatesServer s (server_settings family settings) (Ok m) new
      → creates_whole_server {T = T} {H = H} {K = K} family s.limits n len (Command.CreateServer settings, Reply.Created m) ≡ true →
      (s.next ≤ n) × (n < new.next) × ((c : Server K) → server_at new n ≡ Some c → HasServerPool s.limits c len)
  server_made settings new made e =
      let t = three_true (eqb m n) (is_whole (worst_case_responses s.limits (loans_of settings)) settings.pool)
      (nat_le len (server_settings family settings).initial_max_slice_len) e in
      let is : n ≡ s.next = sym (eqb-true m n t.0) ∙ made.1 in
      let kept = server_pool_kept family settings in
      subst (λ (x : State T H T H K). (s.next ≤ n) × (n < x.next)
      × ((c : Server K) → server_at x n ≡ Some c → HasServerPool s.limits c len))
      (sym made.2) (
        omega (arith, is),
        omega (arith, is),
        (λ c at. ⊎_elim
            (λ was. absurd (
            let low = has_below (λ (d : Server K). d.id) s.servers n s.next fits.ports.server_numbers (ap is_some was) in
            omega (arith, is, low)))
            (λ now. subst (λ (d : Server K). HasServerPool s.limits d len) now.1 (record {
              whole = ap (pool_size_of (worst_case_responses s.limits (loans_of (server_settings family settings)))) kept.0
                  ∙ ap (λ l. pool_size_of (worst_case_responses s.limits l) settings.pool) kept.1
                  ∙ whole_size (worst_case_responses s.limits (loans_of settings)) settings.pool
                  (responses_positive s.limits (loans_of settings) (positive s.limits fits.makes_hub) (omega arith)) t.1
                  ∙ sym (ap (worst_case_responses s.limits) kept.1);
              short = leb-true _ _ t.2;
            }))
            (found-append_cases (λ (d : Server K). d.id) s.servers _ n c at)),
      )

module _ {T H K : Type 0} (action : K → ℕ → ℕ → BackpressureAction) (IsDefaultElement : T → Type 0) (IsDefaultHeader : H → Type 0)
    (family : Family) (s : State T H T H K) (fits : IsReached s) (n len : ℕ) (new : State T H T H K) where
  -- who an event creates so has such a pool, and a new number
  pub event_makes_client : (command : Command T H K) (reply : Reply T H)
      → Step action IsDefaultElement IsDefaultHeader family s command reply new
      → creates_whole_client family s.limits n len (command, reply) ≡ true →
      (s.next ≤ n) × (n < new.next) × ((c : Client K) → client_at new n ≡ Some c → HasClientPool s.limits c len)
  event_makes_client (Command.CreateClient settings) (Reply.Created m) step e = client_made family s fits m n len settings new
      (step_acts action IsDefaultElement IsDefaultHeader family s (Command.CreateClient settings) (Reply.Created m) new refl step) e
  event_makes_client command reply step e = absurd (false_is_true e)

  pub event_makes_server : (command : Command T H K) (reply : Reply T H)
      → Step action IsDefaultElement IsDefaultHeader family s command reply new
      → creates_whole_server family s.limits n len (command, reply) ≡ true →
      (s.next ≤ n) × (n < new.next) × ((c : Server K) → server_at new n ≡ Some c → HasServerPool s.limits c len)
  event_makes_server (Command.CreateServer settings) (Reply.Created m) step e = server_made family s fits m n len settings new
      (step_acts action IsDefaultElement IsDefaultHeader family s (Command.CreateServer settings) (Reply.Created m) new refl step) e
  event_makes_server command reply step e = absurd (false_is_true e)

  -- what a server receives by an event has a new number, which is no client's
  pub event_receives : IsReached new → (server p : ℕ) (command : Command T H K) (reply : Reply T H)
      → Step action IsDefaultElement IsDefaultHeader family s command reply new → is_active_of server n p (command, reply) ≡ true
      → (s.next ≤ n) × ((c : Client K) → client_at new n ≡ Some c → ⊥)
  event_receives new_fits server p (Command.Receive k) (Reply.Active a r) step e =
      let is : a ≡ n = eqb-true a n (three_true (eqb k server) (eqb a n) (eqb r p) e).1 in
      let acts = step_acts action IsDefaultElement IsDefaultHeader family s (Command.Receive k) (Reply.Active a r) new refl step in
      let o = acts.0.1 in
      let grown = (skims o.0 s k o.1 o.2).next in
      let next : a ≡ o.1.next = o.3.0 in
      let active = some_and (active_at new a) _ acts.1 in
      let no_port = (new_fits.handles a _ (role_at new.handles a (ActiveRequest active.0) (from_active (handle_at new a) active.0
      active.1))).no_port in (
        omega (arith, grown, next, is),
        (λ c at. false_is_true (sym no_port
            ∙ subst (λ j. is_port new.clients new.servers j ≡ true) (sym is) (ap (λ o. is_some o || has_server new.servers n) at))),
      )
  event_receives new_fits server p command reply step e = absurd (false_is_true e)

-- no event creates a client and receives a request
pub makes_or_receives : {T H K : Type 0} (family : Family) (limits : Limits) (n len a server p : ℕ)
    (command : Command T H K) (reply : Reply T H)
    → creates_whole_client family limits n len (command, reply) ≡ true → is_active_of server a p (command, reply) ≡ true → ⊥
makes_or_receives family limits n len a server p (Command.CreateClient settings) (Reply.Created m) e f = false_is_true f
makes_or_receives family limits n len a server p command reply e f = false_is_true e
