-- How states settle as a server is created, and as a request goes to a server.
use Rattle.std.proofs.Common.{◌≡◌, ℕ, ◌<◌, ◌≤◌, Bool, true, false, eqb, ◌&&◌, [], ◌∷◌, ◌++◌, Option, Some, None, Ok, refl, sym, ap, ◌∙◌, subst, ⊎_elim, inl, inr, arith}
use Rattle.std.specs.Prelude.{◌⊎◌, ◌||◌, find, is_some, is_none, count_by, option_and_then, IsSomeAnd}
use Rattle.std.specs.List.{list_any}
use Rattle.std.specs.FinMap.{get}
use Rattle.std.proofs.lemmas.Bool.{eq-eqb, eqb-true}
use Rattle.std.proofs.lemmas.List.Folds.{list_any-append}
use Rattle.rr_slots.specs.declared.family.Family.{Family}
use Rattle.rr_slots.specs.declared.family.Family.TheVariants.{Typed, Sliced}
use Rattle.rr_table.specs.Maps.{mark}
use Rattle.rr_table.proofs.MapLaws.{get-insert_same}
use Rattle.rr_table.proofs.ListFacts.{any-append}
use Rattle.rr_table.proofs.Counting.{count-cons}
use Rattle.rr_protocol.specs.declared.settings.BackpressureStrategy.{BackpressureStrategy}
use Rattle.rr_protocol.specs.declared.settings.ServerSettings.{ServerSettings}
use Rattle.rr_protocol.specs.Keys.{RequestKey, request_key}
use Rattle.rr_protocol.specs.Messages.{RequestMessage, Active, ActiveRequest, as_active}
use Rattle.rr_protocol.specs.Ports.{Server}
use Rattle.rr_protocol.specs.State.{State, server_at, active_at, is_server_value}
use Rattle.rr_protocol.specs.Creation.{CreatesServer}
use Rattle.rr_protocol.specs.Receives.{with_active_request, ReceivesRequest}
use Rattle.rr_protocol.specs.declared.command.Command.{Command}
use Rattle.rr_protocol.specs.declared.reply.Reply.{Reply}
use Rattle.rr_protocol.specs.Step.{server_settings}
use Rattle.rr_protocol.specs.AnswerRule.{retries, creates_waiting}
use Rattle.rr_laws.specs.Roles.{Question, Role, roles_of, asking, asking_at}
use Rattle.rr_laws.specs.Reached.{IsReached}
use Rattle.rr_laws.specs.Following.{entries_for}
use Rattle.rr_laws.specs.Settling.{listed, IsNew, IsWaiting, Settles}
use Rattle.rr_laws.proofs.Opening.{some_and}
use Rattle.rr_laws.proofs.Connected.{has_below}
use Rattle.rr_laws.proofs.Occurring.{false_is_true}
use Rattle.rr_laws.proofs.Telling.{three_true}
use Rattle.rr_laws.proofs.LeftPorts.{found-append_cases}
use Rattle.rr_laws.proofs.SettlingSends.{listed_below, skims_fewer}

module _ {Q QH P PH K : Type 0} where
  -- a server with the next number, which nothing waits for yet
  pub new_server_settles : {Ends : ℕ → Type 0} (s new : State Q QH P PH K) (one : Server K) → IsReached s → s.next ≤ new.next
      → one.id ≡ s.next → new.handles ≡ s.handles → new.responses ≡ s.responses → new.requests ≡ s.requests →
      new.servers ≡ s.servers ++ one ∷ [] → Settles (IsNew s) Ends (λ server p before after. after ≡ before) s new
  new_server_settles s new one fits more is handles responses requests servers = record {
    next = more;
    serving = λ server p serves. ⊎_elim
        (λ was. inl (
          ((serves.0.0, sym (ap (λ h. get (roles_of h) p) handles) ∙ serves.0.1), (serves.1.0, was)),
          ap (λ h. entries_for (roles_of h) new.responses server p) handles
              ∙ ap (λ l. entries_for (roles_of s.handles) l server p) responses,
        ))
        (λ now. inr (inl (omega (arith, is, now.0))))
        (at_server server serves.1.0 serves.1.1);
    servers = λ n c e. ⊎_elim (λ was. inl (c, was, refl, refl)) (λ now. inr (omega (arith, is, now.0))) (at_server n c e);
    held = λ n e. inl (ap (list_any (λ (x : Server K). eqb x.id n && x.has_value)) servers
        ∙ any-append (λ (x : Server K). eqb x.id n && x.has_value) s.servers (one ∷ []) e);
    loaned = λ n q e. inl (sym (ap (λ h. get (roles_of h) n) handles) ∙ e);
    clash = λ n clashes. ⊎_elim
        (λ unsent. inl (
          unsent.0,
          unsent.1,
          sym (ap (λ h. get (roles_of h) n) handles)
              ∙ unsent.2,
          subst (λ l. 0 < listed l n unsent.1) requests unsent.3,
        ))
        (λ both.
        let other = ⊎_elim
        (λ asked. inl (asked.0, sym (ap (λ h. asking_at (roles_of h) n) handles) ∙ asked.1))
        (λ stands. inr (stands.0, subst (λ l. 0 < listed l n stands.0) requests stands.1))
        both.2 in
        ⊎_elim
        (λ was. inr (both.0, was, other))
        (λ now. absurd (unused n (sym now.0 ∙ is) other))
        (at_server n both.0 both.1))
        clashes;
  }
    where
      at_server : (n : ℕ) (c : Server K) → server_at new n ≡ Some c → (server_at s n ≡ Some c) ⊎ ((one.id ≡ n) × (one ≡ c))
      at_server n c e = found-append_cases (λ (d : Server K). d.id) s.servers one n c (sym (ap (find (λ d. eqb d.id n)) servers) ∙ e)

      named : (n : ℕ) (q : Question) → asking_at (roles_of s.handles) n ≡ Some q → n < s.next
      named n q e = go (get (roles_of s.handles) n) refl e
        where
          go : (o : Option Role) → get (roles_of s.handles) n ≡ o → option_and_then asking o ≡ Some q → n < s.next
          go None is e = absurd (let f : None ≡ Some q = e in cc)
          go (Some role) is e = (fits.handles n role is).below

      unused : (n : ℕ) → n ≡ s.next → ((q : Question) × (asking_at (roles_of s.handles) n ≡ Some q))
          ⊎ ((key : RequestKey) × (0 < listed s.requests n key)) → ⊥
      unused n is either = ⊎_elim
          (λ asked. absurd (omega (arith, is, named n asked.0 asked.1)))
          (λ stands. absurd (omega (arith, is, listed_below s fits n stands.0 stands.1)))
          either

  -- what a server receives stood in a list
  pub received_listed : (s : State Q QH P PH K) (n a r : ℕ) (new : State Q QH P PH K) → ReceivesRequest s n (Ok (Some a)) new
      → IsSomeAnd (active_at new a) (λ active. r ≡ active.message.number) → (key : RequestKey) × (0 < listed s.requests r key)
  received_listed s n a r new receives told =
      let o = receives.1 in
      let got = (o.3).1 in
      let mid : State Q QH P PH K = got.2 in
      let m : RequestMessage Q QH = got.1 in
      let key = request_key got.0 n in
      let is : a ≡ mid.next = (o.3).0 ∙ sym (ap (λ (x : State Q QH P PH K). x.next) (got.3).1.2) in
      let active : Active Q QH = record { message = m; server = n } in
      let t = some_and (active_at (with_active_request mid n m) a) _
      (subst (λ (x : State Q QH P PH K). IsSomeAnd (active_at x a) (λ active. r ≡ active.message.number)) got.5 told) in
      let there : Some t.0 ≡ Some active = sym t.1 ∙ ap (option_and_then as_active)
      (get-insert_same mid.handles mid.next (ActiveRequest active) a is) in
      let number_is : r ≡ m.number = t.2 ∙ ap (λ (x : Active Q QH). x.message.number) (let f : t.0 ≡ active = cc in f) in
      let stood : 0 < listed (o.1).requests m.number key = subst
      (λ xs. 0 < count_by (λ (x : RequestMessage Q QH). eqb x.number m.number) xs) (sym (got.3).1.1)
      (omega (
        arith,
        count-cons (λ (x : RequestMessage Q QH). eqb x.number m.number) m (got.3).1.0,
        ap mark (eq-eqb m.number m.number refl),
      )) in
      (key, subst (λ j. 0 < listed s.requests j key) (sym number_is) ((skims_fewer o.0 s n o.1 o.2).1 m.number key stood))

-- a strategy that retries
retries_is : (strategy : BackpressureStrategy) → retries strategy ≡ true → strategy ≡ BackpressureStrategy.RetryUntilDelivered
retries_is BackpressureStrategy.RetryUntilDelivered e = refl
retries_is BackpressureStrategy.DiscardData e = absurd (false_is_true e)

-- what is tested to be nothing is nothing
none_is : {X : Type 0} (o : Option X) → is_none o ≡ true → o ≡ None
none_is None e = refl
none_is (Some x) e = absurd (false_is_true e)

module _ {K : Type 0} where
  -- a family reads settings with their strategy and handler
  family_keeps : (family : Family) (settings : ServerSettings K) → ((server_settings family settings).strategy ≡ settings.strategy)
      × ((server_settings family settings).handler ≡ settings.handler)
  family_keeps Typed settings = (refl, refl)
  family_keeps Sliced settings = (refl, refl)

module _ {Q QH P PH K : Type 0} where
  -- a server that an event creates as one that waits for room is one
  pub created_waits : (T H : Type 0) (family : Family) (s : State Q QH P PH K) → IsReached s → (settings : ServerSettings K) (m : ℕ)
      (new : State Q QH P PH K) → CreatesServer s (server_settings family settings) (Ok m) new → (n : ℕ) →
      creates_waiting {T = T} {H = H} {K = K} n (Command.CreateServer settings, Reply.Created m) ≡ true → (s.next ≤ n) × (n < new.next)
      × ((c : Server K) → server_at new n ≡ Some c → IsWaiting c) × (is_server_value new n ≡ true)
  created_waits T H family s fits settings m new made n e = subst
      (λ (x : State Q QH P PH K). (s.next ≤ n) × (n < x.next) × ((c : Server K) → server_at x n ≡ Some c → IsWaiting c)
      × (is_server_value x n ≡ true)) (sym made.2) (
        omega (arith, is),
        omega (arith, is),
        (λ c at. ⊎_elim
            (λ was. absurd (omega (
              arith,
              is,
              has_below (λ (d : Server K). d.id) s.servers n s.next fits.ports.server_numbers
                  (ap is_some was),
            )))
            (λ now. subst IsWaiting now.1 (
              (family_keeps family settings).0 ∙ retries_is settings.strategy t.1,
              (family_keeps family settings).1
                  ∙ none_is settings.handler t.2,
            ))
            (found-append_cases (λ (d : Server K). d.id) s.servers _ n c at)),
        list_any-append (λ (x : Server K). eqb x.id n && x.has_value) s.servers _
            ∙ ap (λ b. list_any (λ (x : Server K). eqb x.id n && x.has_value) s.servers || ((b && true) || false))
            (eq-eqb s.next n (sym is))
            ∙ last (list_any (λ (x : Server K). eqb x.id n && x.has_value) s.servers),
      )
    where
      t : (eqb m n ≡ true) × (retries settings.strategy ≡ true) × (is_none settings.handler ≡ true)
      t = three_true (eqb m n) (retries settings.strategy) (is_none settings.handler) e

      is : n ≡ s.next
      is = sym (eqb-true m n (three_true (eqb m n) (retries settings.strategy) (is_none settings.handler) e).0) ∙ made.1

      last : (b : Bool) → (b || true) ≡ true
      last true = refl
      last false = refl
