-- The number that a creation, a loan or a receive gave named nothing before, and no port that left its value had it.
use Rattle.std.proofs.Common.{◌≡◌, ◌<◌, ℕ, cond, List, [], ◌∷◌, None, Option, Some, Result, Ok, Err, refl, ap, ◌∙◌, arith}
use Rattle.std.specs.Prelude.{◌==◌, IfOk, IfSome, find}
use Rattle.std.proofs.lemmas.Bool.{ne_eqb}
use Rattle.std.specs.List.{AllByRecursion}
use Rattle.rr_protocol.specs.Creation.{CreatesClient, CreatesServer}
use Rattle.rr_protocol.specs.declared.error.ClientCreateError.{ClientCreateError}
use Rattle.rr_protocol.specs.declared.error.LoanError.{LoanError}
use Rattle.rr_protocol.specs.declared.error.ServerCreateError.{ServerCreateError}
use Rattle.rr_protocol.specs.declared.settings.ClientSettings.{ClientSettings}
use Rattle.rr_protocol.specs.declared.settings.ServerSettings.{ServerSettings}
use Rattle.rr_protocol.specs.Loans.{LoansRequest, LoansResponse}
use Rattle.rr_protocol.specs.declared.error.ReceiveError.{ReceiveError}
use Rattle.rr_protocol.specs.Ports.{Client, Server}
use Rattle.rr_protocol.specs.Queries.{kind_at}
use Rattle.rr_protocol.specs.Receives.{ReceivesRequest}
use Rattle.rr_protocol.specs.State.{State, client_at, server_at}
use Rattle.rr_laws.proofs.MovingReceives.{skims_same}
use Rattle.rr_laws.proofs.Opening.{open_active, some_and}

-- a number that is above all others is none of them
none_above : {X : Type 0} (id : X → ℕ) (next : ℕ) (xs : List X) → AllByRecursion (λ x. id x < next) xs → find (λ x. id x == next) xs ≡ None
none_above id next [] below = refl
none_above id next (x ∷ xs) below =
    ap (λ b. cond b (Some x) (find (λ y. id y == next) xs)) (ne_eqb (id x) next (λ e. let h = below.0 in omega arith)) ∙ none_above id next xs below.1

module _ {Q QH P PH K : Type 0} (s : State Q QH P PH K) where
  pub no_client : AllByRecursion (λ (c : Client K). c.id < s.next) s.clients → (settings : ClientSettings K) (result : Result ℕ ClientCreateError)
      (new : State Q QH P PH K) → CreatesClient s settings result new → IfOk result (λ k. client_at s k ≡ None)
  no_client below settings (Ok k) new h = ap (client_at s) h.1 ∙ none_above (λ (c : Client K). c.id) s.next s.clients below
  no_client below settings (Err e) new h = tt

  pub no_server : AllByRecursion (λ (c : Server K). c.id < s.next) s.servers → (settings : ServerSettings K) (result : Result ℕ ServerCreateError)
      (new : State Q QH P PH K) → CreatesServer s settings result new → IfOk result (λ k. server_at s k ≡ None)
  no_server below settings (Ok k) new h = ap (server_at s) h.1 ∙ none_above (λ (c : Server K). c.id) s.next s.servers below
  no_server below settings (Err e) new h = tt

module _ {Q QH P PH K : Type 0} (s : State Q QH P PH K) (unused : kind_at s s.next ≡ None) where
  unnamed : (k : ℕ) → k ≡ s.next → kind_at s k ≡ None
  unnamed k e = ap (kind_at s) e ∙ unused

  pub by_client : (settings : ClientSettings K) (result : Result ℕ ClientCreateError) (new : State Q QH P PH K)
      → CreatesClient s settings result new → IfOk result (λ k. kind_at s k ≡ None)
  by_client settings (Ok k) new h = unnamed k h.1
  by_client settings (Err e) new h = tt

  pub by_server : (settings : ServerSettings K) (result : Result ℕ ServerCreateError) (new : State Q QH P PH K)
      → CreatesServer s settings result new → IfOk result (λ k. kind_at s k ≡ None)
  by_server settings (Ok k) new h = unnamed k h.1
  by_server settings (Err e) new h = tt

  pub by_request : (IsDefault : QH → Type 0) (n len : ℕ) (result : Result ℕ LoanError) (new : State Q QH P PH K)
      → LoansRequest IsDefault s n len result new → IfOk result (λ k. kind_at s k ≡ None)
  by_request IsDefault n len (Ok k) new h = unnamed k (some_and (client_at s n) _ h).2.1
  by_request IsDefault n len (Err e) new h = tt

  pub by_response : (IsDefault : PH → Type 0) (n len : ℕ) (result : Result ℕ LoanError) (new : State Q QH P PH K)
      → LoansResponse IsDefault s n len result new → IfOk result (λ k. kind_at s k ≡ None)
  by_response IsDefault n len (Ok k) new h = unnamed k (open_active s n _ h).4.1
  by_response IsDefault n len (Err e) new h = tt

  pub by_receive : (n : ℕ) (result : Result (Option ℕ) ReceiveError) (new : State Q QH P PH K) → ReceivesRequest s n result new
      → IfOk result (λ handle. IfSome handle (λ k. kind_at s k ≡ None))
  by_receive n (Ok (Some k)) new h = unnamed k ((h.1).3.0 ∙ (skims_same (h.1).0 s n (h.1).1 (h.1).2).2)
  by_receive n (Ok None) new h = tt
  by_receive n (Err e) new h = tt
