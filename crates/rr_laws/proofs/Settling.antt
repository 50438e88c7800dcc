-- How states settle: steps that add nothing, steps one after another, and one more handle.
use Rattle.std.proofs.Common.{◌≡◌, ℕ, ◌<◌, ◌≤◌, true, eqb, List, Option, Some, None, refl, sym, ap, ◌∙◌, subst, ⊎_elim, inl, inr, arith}
use Rattle.std.specs.Prelude.{◌⊎◌, ◌&&◌, find, option_and_then}
use Rattle.std.specs.List.{list_any}
use Rattle.std.specs.FinMap.{get, insert}
use Rattle.rr_table.proofs.MapLaws.{get-insert_other, get-insert_cases}
use Rattle.rr_protocol.specs.Keys.{RequestKey}
use Rattle.rr_protocol.specs.Ports.{Server}
use Rattle.rr_protocol.specs.State.{State, server_at, is_server_value}
use Rattle.rr_laws.specs.Roles.{Question, Role, LoanedRequest, SentRequest, roles_of, asking, asking_at}
use Rattle.rr_laws.specs.Following.{entries_for, queued}
use Rattle.rr_laws.specs.Settling.{listed, IsServing, Settles}
use Rattle.rr_laws.proofs.Moving.{entries-same_role}

module _ {Q QH P PH K : Type 0} where
  -- a server that was there, as it was made
  abbrev pub StaysAsMade : State Q QH P PH K → ℕ → Server K → Type 0
  StaysAsMade old n c = (d : Server K) × (server_at old n ≡ Some d) × (c.strategy ≡ d.strategy) × (c.handler ≡ d.handler)

  -- nothing is new: servers and requests were there before
  pub settles_by : {Begins : ℕ → ℕ → Type 0} {Ends : ℕ → Type 0} {GoesOn : ℕ → ℕ → List ℕ → List ℕ → Type 0} (old new : State Q QH P PH K)
      → old.next ≤ new.next →
      ((n : ℕ) (c : Server K) → server_at new n ≡ Some c → StaysAsMade old n c) →
      ((n : ℕ) → is_server_value old n ≡ true → (is_server_value new n ≡ true) ⊎ Ends n) →
      ((n : ℕ) (role : Role) (q : Question) → asking role ≡ Some q → get (roles_of new.handles) n ≡ Some role
      → get (roles_of old.handles) n ≡ Some role) →
      ((server p : ℕ) → IsServing old server p → IsServing new server p → GoesOn server p (queued old server p) (queued new server p)) →
      ((n : ℕ) (key : RequestKey) → 0 < listed new.requests n key → (other : RequestKey) × (0 < listed old.requests n other)) →
      Settles Begins Ends GoesOn old new
  settles_by old new more servers held roles lists requests = record {
    next = more;
    serving = λ server p serves.
        let d = servers server serves.1.0 serves.1.1 in
        let before : IsServing old server p = ((serves.0.0, roles p (SentRequest serves.0.0) serves.0.0 refl serves.0.1), (d.0, d.1)) in
        inl (before, lists server p before serves);
    servers = λ n c e. inl (servers n c e);
    held = held;
    loaned = λ n q e. inl (roles n (LoanedRequest q) q refl e);
    clash = λ n clashes. ⊎_elim
        (λ unsent. let before = requests n unsent.1 unsent.3 in
        inl (unsent.0, before.0, roles n (LoanedRequest unsent.0) unsent.0 refl unsent.2, before.1))
        (λ both.
        let d = servers n both.0 both.1 in
        inr (
          d.0,
          d.1,
          ⊎_elim
              (λ asked. inl (asked.0, asked_before n asked.0 asked.1))
              (λ stands. inr (requests n stands.0 stands.1))
              both.2,
        ))
        clashes;
  }
    where
      asked_before : (n : ℕ) (q : Question) → asking_at (roles_of new.handles) n ≡ Some q → asking_at (roles_of old.handles) n ≡ Some q
      asked_before n q e = go (get (roles_of new.handles) n) refl e
        where
          go : (o : Option Role) → get (roles_of new.handles) n ≡ o → option_and_then asking o ≡ Some q
              → asking_at (roles_of old.handles) n ≡ Some q
          go None is e = absurd (let f : None ≡ Some q = e in cc)
          go (Some role) is e = ap (option_and_then asking) (roles n role q e is) ∙ e

  -- the same servers
  pub same_servers : (old new : State Q QH P PH K) → new.servers ≡ old.servers → (n : ℕ) (c : Server K) → server_at new n ≡ Some c
      → StaysAsMade old n c
  same_servers old new same n c e = (c, sym (ap (λ l. find (λ x. eqb x.id n) l) same) ∙ e, refl, refl)

  -- are held as they were
  pub same_held : (Ends : ℕ → Type 0) (old new : State Q QH P PH K) → new.servers ≡ old.servers → (n : ℕ) → is_server_value old n ≡ true
      → (is_server_value new n ≡ true) ⊎ Ends n
  same_held Ends old new same n e = inl (ap (λ l. list_any (λ x. eqb x.id n && x.has_value) l) same ∙ e)

  -- the same lists of requests
  pub same_requests : (old new : State Q QH P PH K) → new.requests ≡ old.requests → (n : ℕ) (key : RequestKey)
      → 0 < listed new.requests n key → (other : RequestKey) × (0 < listed old.requests n other)
  same_requests old new same n key some = (key, subst (λ l. 0 < listed l n key) same some)

  -- the same roles, servers and lists
  pub settles_same : {Begins : ℕ → ℕ → Type 0} {Ends : ℕ → Type 0} (old new : State Q QH P PH K) → old.next ≤ new.next
      → roles_of new.handles ≡ roles_of old.handles → new.responses ≡ old.responses → new.servers ≡ old.servers →
      new.requests ≡ old.requests → Settles Begins Ends (λ server p before after. after ≡ before) old new
  settles_same {Begins} {Ends} old new more roles responses servers requests =
      settles_by old new more (same_servers old new servers) (same_held Ends old new servers)
      (λ n role q asks e. sym (ap (λ r. get r n) roles) ∙ e)
      (λ server p before after. ap (λ r. entries_for r new.responses server p) roles
      ∙ ap (λ l. entries_for (roles_of old.handles) l server p) responses)
      (same_requests old new requests)

  -- one more role, of no request that its client still has
  pub settles_with_role : {Begins : ℕ → ℕ → Type 0} {Ends : ℕ → Type 0} (old new : State Q QH P PH K) (n : ℕ) (role : Role)
      → asking role ≡ None → old.next ≤ new.next → roles_of new.handles ≡ insert (roles_of old.handles) n role →
      new.responses ≡ old.responses → new.servers ≡ old.servers
      → ((n : ℕ) (key : RequestKey) → 0 < listed new.requests n key → (other : RequestKey) × (0 < listed old.requests n other)) →
      Settles Begins Ends (λ server p before after. after ≡ before) old new
  settles_with_role {Begins} {Ends} old new n role none more roles responses servers requests =
      settles_by old new more (same_servers old new servers) (same_held Ends old new servers) before
      (λ server p was serves.
      ap (λ r. entries_for r new.responses server p) roles ∙ ap
      (λ l. entries_for (insert (roles_of old.handles) n role) l server p) responses
      ∙ entries-same_role (roles_of old.handles) (insert (roles_of old.handles) n role) old.responses server p
      (get-insert_other (roles_of old.handles) n role p (λ is. absurd (here p serves.0.0 is serves.0.1))))
      requests
    where
      before : (k : ℕ) (other : Role) (q : Question) → asking other ≡ Some q → get (roles_of new.handles) k ≡ Some other
          → get (roles_of old.handles) k ≡ Some other
      before k other q asks e = ⊎_elim
          (λ this. absurd (let f : None ≡ Some q = sym none ∙ ap asking this.1 ∙ asks in cc))
          (λ was. was.1)
          (get-insert_cases (roles_of old.handles) n role k other (sym (ap (λ r. get r k) roles) ∙ e))

      here : (p : ℕ) (q : Question) → p ≡ n → get (roles_of new.handles) p ≡ Some (SentRequest q) → ⊥
      here p q is e = ⊎_elim
          (λ this. absurd (let f : None ≡ Some q = sym none ∙ ap asking this.1 in cc))
          (λ was. was.0 is)
          (get-insert_cases (roles_of old.handles) n role p (SentRequest q) (sym (ap (λ r. get r p) roles) ∙ e))

  -- what settles, and then settles again
  settles_twice : {Begins : ℕ → ℕ → Type 0} {Ends : ℕ → Type 0} (First Then Both : ℕ → ℕ → List ℕ → List ℕ → Type 0)
      (old mid new : State Q QH P PH K)
      → ((server p : ℕ) → First server p (queued old server p) (queued mid server p)
      → Then server p (queued mid server p) (queued new server p) → Both server p (queued old server p) (queued new server p))
      → Settles Begins Ends First old mid → Settles Begins Ends Then mid new → Settles Begins Ends Both old new
  settles_twice {Begins} {Ends} First Then Both old mid new both first then = record {
    next = omega (arith, first.next, then.next);
    serving = λ server p serves. ⊎_elim
        (λ was. ⊎_elim
        (λ before. inl (before.0, both server p before.1 was.1))
        (λ begins. inr begins)
        (first.serving server p was.0))
        (λ begins. inr begins)
        (then.serving server p serves);
    servers = λ n c e. ⊎_elim
        (λ was. ⊎_elim
        (λ before. inl (before.0, before.1, was.2 ∙ before.2, was.3 ∙ before.3))
        (λ above. inr above)
        (first.servers n was.0 was.1))
        (λ above. inr (omega (arith, first.next, above)))
        (then.servers n c e);
    held = λ n e. ⊎_elim (λ was. then.held n was) (λ ends. inr ends) (first.held n e);
    loaned = λ n q e. ⊎_elim
        (λ was. first.loaned n q was)
        (λ above. inr (omega (arith, first.next, above)))
        (then.loaned n q e);
    clash = λ n clashes. first.clash n (then.clash n clashes);
  }

  -- what settles, and then settles with nothing new
  pub then_settles : {Begins : ℕ → ℕ → Type 0} {Ends : ℕ → Type 0} {GoesOn : ℕ → ℕ → List ℕ → List ℕ → Type 0}
      (old mid new : State Q QH P PH K) → Settles Begins Ends GoesOn old mid →
      Settles Begins Ends (λ server p before after. after ≡ before) mid new → Settles Begins Ends GoesOn old new
  then_settles {Begins} {Ends} {GoesOn} old mid new =
      settles_twice GoesOn (λ server p before after. after ≡ before) GoesOn old mid new
      (λ server p goes same. subst (GoesOn server p (queued old server p)) (sym same) goes)

  -- what settles with nothing new, and then settles
  pub settles_after : {Begins : ℕ → ℕ → Type 0} {Ends : ℕ → Type 0} {GoesOn : ℕ → ℕ → List ℕ → List ℕ → Type 0}
      (old mid new : State Q QH P PH K) → Settles Begins Ends (λ server p before after. after ≡ before) old mid →
      Settles Begins Ends GoesOn mid new → Settles Begins Ends GoesOn old new
  settles_after {Begins} {Ends} {GoesOn} old mid new =
      settles_twice (λ server p before after. after ≡ before) GoesOn GoesOn old mid new
      (λ server p same goes. subst (λ xs. GoesOn server p xs (queued new server p)) same goes)
