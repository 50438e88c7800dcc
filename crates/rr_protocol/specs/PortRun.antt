-- Runs of ports, whose requests and responses have types of their own. The calls that change a hub appear as commands
-- and replies without their payloads, so the answer rule applies to them.
use Rattle.std.specs.Prelude.{◌≡◌, ◌⊎◌, ℕ, true, List, [], ◌∷◌, Some, None, IsSomeAnd, Ok, Err}
use Rattle.rr_protocol.specs.declared.settings.BackpressureAction.{BackpressureAction}
use Rattle.rr_protocol.specs.Messages.{Content, with_hint}
use Rattle.rr_protocol.specs.Writing.{with_request_content, with_response_content, after_init}
use Rattle.rr_protocol.specs.State.{State, active_at, with_changed}
use Rattle.rr_protocol.specs.Loans.{LoansRequest, LoansResponse}
use Rattle.rr_protocol.specs.Sends.{SendsRequest, SendsResponse}
use Rattle.rr_protocol.specs.Receives.{ReceivesRequest, ReceivesResponse}
use Rattle.rr_protocol.specs.Releases.{after_release}
use Rattle.rr_protocol.specs.Creation.{CreatesClient, CreatesServer}
use Rattle.rr_protocol.specs.declared.command.Command.{Command}
use Rattle.rr_protocol.specs.declared.reply.Reply.{Reply}
use Rattle.rr_protocol.specs.AnswerRule.{Event}

-- a call of a port or of a handle, and its answer
abbrev pub PortEvent : Type 0 → Type 0
PortEvent K = Event (Unit {0}) (Unit {0}) K

module _ {T H : Type 0} where
  -- a change of a message's content that keeps its loaned length
  abbrev pub KeepsAsked : (Content T H → Content T H) → Type 0
  KeepsAsked change = (content : Content T H) → (change content).asked_len ≡ content.asked_len

module _ {Q QH P PH K : Type 0} where
  -- a request or a response that was not sent changes its content
  abbrev pub Rewrites : State Q QH P PH K → ℕ → State Q QH P PH K → Type 0
  Rewrites old n new =
      ((change : Content Q QH → Content Q QH) × KeepsAsked change
      × (new ≡ with_changed old n (with_request_content change)))
      ⊎ ((change : Content P PH → Content P PH) × KeepsAsked change
      × (new ≡ with_changed old n (with_response_content change)))

module _ {Q QH P PH K : Type 0} (action : K → ℕ → ℕ → BackpressureAction) (IsDefaultRequestHeader : QH → Type 0)
    (IsDefaultResponseHeader : PH → Type 0) where
  -- The steps of calls that change a hub, or that find nothing. Any write appears as a write of one element.
  abbrev pub PortStep : State Q QH P PH K → PortEvent K → State Q QH P PH K → Type 0
  PortStep old (Command.CreateClient settings, Reply.Created n) new = CreatesClient old settings (Ok n) new
  PortStep old (Command.CreateServer settings, Reply.Created n) new = CreatesServer old settings (Ok n) new
  PortStep old (Command.Loan n len, Reply.Loaned k) new =
      LoansRequest IsDefaultRequestHeader old n len (Ok k) new
      ⊎ LoansResponse IsDefaultResponseHeader old n len (Ok k) new
  PortStep old (Command.Set n index element, Reply.Flag true) new = Rewrites old n new
  PortStep old (Command.AssumeInit n, Reply.Done) new = new ≡ with_changed old n after_init
  PortStep old (Command.Send n, Reply.Pending k connections) new =
      (k ≡ n) × SendsRequest action old n (Ok connections) new
  PortStep old (Command.Send n, Reply.RequestError e) new = SendsRequest action old n (Err e) new
  PortStep old (Command.Send n, Reply.Sent k) new = (k ≡ n) × SendsResponse action old n (Ok k) new
  PortStep old (Command.Send n, Reply.SendError e) new = SendsResponse {U = ℕ} action old n (Err e) new
  PortStep old (Command.Receive n, Reply.Active a r) new =
      ReceivesRequest old n (Ok (Some a)) new × IsSomeAnd (active_at new a) (λ active. r ≡ active.message.number)
  PortStep old (Command.Receive n, Reply.Response k) new = ReceivesResponse old n (Ok (Some k)) new
  PortStep old (Command.Receive n, Reply.Nothing) new =
      ReceivesRequest old n (Ok None) new ⊎ ReceivesResponse old n (Ok None) new
  PortStep old (Command.Receive n, Reply.ReceiveError e) new =
      ReceivesRequest old n (Err e) new ⊎ ReceivesResponse old n (Err e) new
  PortStep old (Command.SetHint n, Reply.Done) new = new ≡ with_changed old n with_hint
  PortStep old (Command.Release n, Reply.Done) new = new ≡ after_release old n
  -- a run of ports has no other steps
  PortStep old event new = ⊥

  -- these calls lead from one state to another, one after another
  abbrev pub PortRun : State Q QH P PH K → List (PortEvent K) → State Q QH P PH K → Type 0
  PortRun old [] new = new ≡ old
  PortRun old (event ∷ events) new = (mid : State Q QH P PH K) × PortStep old event mid × PortRun mid events new
