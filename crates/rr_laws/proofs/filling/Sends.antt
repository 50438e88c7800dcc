-- One request more lives after the client sent one.
use Rattle.std.proofs.Common.{◌≡◌, ℕ, ◌+◌, ◌<◌, Bool, true, false, cond, eqb, map, Some, None, Ok, refl, sym, ap, ◌∙◌, subst, inl, arith}
use Rattle.std.specs.Prelude.{IsSomeAnd, find, if◌then◌else◌, nat_le, option_map}
use Rattle.std.specs.FinMap.{get, insert}
use Rattle.std.specs.List.{list_any}
use Rattle.std.proofs.lemmas.Bool.{eq-eqb, eqb-true}
use Rattle.rr_table.proofs.ListFacts.{find-changed, passes_found}
use Rattle.rr_table.proofs.MapLaws.{get-insert_same, get-insert_other}
use Rattle.rr_protocol.specs.declared.limits.Limits.{Limits}
use Rattle.rr_protocol.specs.Lists.{at}
use Rattle.rr_protocol.specs.Ports.{Client}
use Rattle.rr_protocol.specs.State.{State, client_at}
use Rattle.rr_protocol.specs.declared.error.LoanError.{LoanError}
use Rattle.rr_protocol.specs.Counts.{live_requests, loaned_requests}
use Rattle.rr_protocol.specs.Loans.{is_too_long, request_loan_refusal, with_loan_counted, with_loaned_request, LoansRequest}
use Rattle.rr_laws.specs.Roles.{Question, LoanedRequest, Roles, roles_of}
use Rattle.rr_laws.specs.Reached.{IsReached}
use Rattle.rr_laws.specs.Filling.{only_client, IsHolding}
use Rattle.rr_laws.proofs.LiveRequests.{both_true}
use Rattle.rr_laws.proofs.Opening.{some_and}
use Rattle.rr_laws.proofs.RoleLaws.{roles-insert}
use Rattle.rr_laws.proofs.Tests.{not_due, below_of_test}
use Rattle.rr_laws.proofs.filling.Counted.{live_at_least}
use Rattle.rr_laws.proofs.filling.Holding.{holds_more, lives_kept}

-- a client that counts one loan more is the one that it was
loan_counted : {K : Type 0} (n : ℕ) (c : Client K)
    → ((with_loan_counted n c).id ≡ c.id) × ((with_loan_counted n c).pool_size ≡ c.pool_size) × ((with_loan_counted n c).has_value ≡ c.has_value)
loan_counted {K} n c = go (eqb c.id n)
  where
    go : (b : Bool) → let d : Client K = cond b (record c { loans_made = c.loans_made + 1 }) c in
        (d.id ≡ c.id) × (d.pool_size ≡ c.pool_size) × (d.has_value ≡ c.has_value)
    go true = (refl, refl, refl)
    go false = (refl, refl, refl)

module _ {Q QH P PH K : Type 0} (old : State Q QH P PH K) where
  -- the one client is there still, after it counted a loan
  pub client_stays : (pool n : ℕ) → IsSomeAnd (client_at old only_client) (λ c. (c.pool_size ≡ pool) × (c.has_value ≡ true))
      → IsSomeAnd (find (λ c. eqb c.id only_client) (map (with_loan_counted n) old.clients)) (λ c. (c.pool_size ≡ pool) × (c.has_value ≡ true))
  client_stays pool n there =
      let c = some_and (client_at old only_client) _ there in
      let counted = loan_counted n c.0 in
      subst (λ o. IsSomeAnd o (λ (c : Client K). (c.pool_size ≡ pool) × (c.has_value ≡ true)))
      (sym (find-changed (λ (c : Client K). c.id) (with_loan_counted n) (λ c. (loan_counted n c).0) only_client old.clients
      ∙ ap (option_map (with_loan_counted n)) c.1))
      (counted.1 ∙ c.2.0, counted.2 ∙ c.2.1)

  -- a loan that isn't refused finds room
  room_of : (client : Client K) (len : ℕ) → request_loan_refusal old client len ≡ None → live_requests old client.id < client.pool_size
  room_of client len due =
      let room : (if nat_le client.pool_size (live_requests old client.id) then Some LoanError.OutOfMemory else None) ≡ None =
      (not_due (nat_le old.limits.max_loaned_requests (loaned_requests old client.id)) _ _ ((not_due (is_too_long client.port len) _ _ due).1)).1
      in
      below_of_test client.pool_size (live_requests old client.id) (not_due _ _ None room).0

  pub room_for_loan : (IsDefault : QH → Type 0) (limits : Limits) (pool count len k : ℕ) (mid : State Q QH P PH K)
      → IsHolding old limits pool count → LoansRequest IsDefault old only_client len (Ok k) mid
      → (count < pool) × ((client : Client K) × (channel : ℕ) × (header : QH) × (client.id ≡ only_client) × (k ≡ old.next)
      × (mid ≡ with_loaned_request old client len channel header))
  room_for_loan IsDefault limits pool count len k mid holding loans =
      let a = some_and (client_at old only_client) _ loans in
      let client : Client K = a.0 in
      let is_client : client.id ≡ only_client = eqb-true client.id only_client (passes_found (λ c. eqb c.id only_client) old.clients client a.1) in
      let room = room_of client len a.2.0 in
      let there = some_and (client_at old only_client) _ holding.client in
      let same : Some client ≡ Some there.0 = sym a.1 ∙ there.1 in
      let is : client ≡ there.0 = cc in
      let size : client.pool_size ≡ pool = ap (λ (c : Client K). c.pool_size) is ∙ there.2.0 in (
        omega (arith, live_at_least old limits pool count holding, room, size, ap (live_requests old) is_client),
        (client, a.2.2.0, a.2.2.1, is_client, a.2.1, a.2.2.4),
      )

  -- so one more is held after a loan
  pub loan_holds : (IsDefault : QH → Type 0) (limits : Limits) (pool count len k : ℕ) (new : State Q QH P PH K)
      → IsHolding old limits pool count → LoansRequest IsDefault old only_client len (Ok k) new → IsReached new
      → IsHolding new limits pool (count + 1)
  loan_holds IsDefault limits pool count len k new holding loans reached =
      let r = room_for_loan IsDefault limits pool count len k new holding loans in
      let q : Question = record { number = old.next; client = r.1.0.id; request_id = r.1.0.loans_made; channel = r.1.1 } in
      let roles : roles_of new.handles ≡ insert (roles_of old.handles) old.next (LoanedRequest q) =
      ap (λ (s : State Q QH P PH K). roles_of s.handles) r.1.5 ∙ roles-insert old.handles old.next _ in
      holds_more old new limits pool count holding reached (ap (λ (s : State Q QH P PH K). s.limits) r.1.5)
      (subst (λ (s : State Q QH P PH K). IsSomeAnd (client_at s only_client) (λ c. (c.pool_size ≡ pool) × (c.has_value ≡ true)))
      (sym r.1.5) (client_stays pool r.1.0.id holding.client))
      (λ key other. ap (λ (s : State Q QH P PH K). at s.requests key) r.1.5 ∙ holding.others key other)
      (lives_kept old new
      (λ j role e. ap (λ (rs : Roles). get rs j) roles
      ∙ get-insert_other (roles_of old.handles) old.next (LoanedRequest q) j
      (λ same. absurd (let below = (holding.reached.handles j role e).below in omega (arith, same, below))) ∙ e)
      (λ t key there. ap (λ (s : State Q QH P PH K). list_any t (at s.requests key)) r.1.5 ∙ there))
      (inl (
        old.next,
        LoanedRequest q,
        refl,
        ap (λ (rs : Roles). get rs old.next) roles ∙ get-insert_same (roles_of old.handles) old.next (LoanedRequest q) old.next refl,
        both_true _ _ (eq-eqb r.1.0.id only_client r.1.3) (eq-eqb old.next old.next refl),
      ))
      r.0
