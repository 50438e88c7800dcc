-- Each step of a run of ports keeps what a step of the message machine keeps.
use Rattle.std.proofs.Common.{◌≡◌, ℕ, subst, ⊎_elim, sym, None, Ok, Some, true, Err}
use Rattle.rr_protocol.specs.declared.settings.BackpressureAction.{BackpressureAction}
use Rattle.rr_protocol.specs.State.{State, with_changed}
use Rattle.rr_protocol.specs.Messages.{Handle, with_hint}
use Rattle.rr_protocol.specs.Writing.{with_request_content, with_response_content, after_init}
use Rattle.rr_protocol.specs.declared.command.Command.{Command}
use Rattle.rr_protocol.specs.declared.reply.Reply.{Reply}
use Rattle.rr_protocol.specs.PortRun.{PortEvent, Rewrites, PortStep}
use Rattle.rr_laws.specs.Roles.{role_of}
use Rattle.rr_laws.specs.Reached.{IsReached}
use Rattle.rr_laws.proofs.Calling.{KeptByCalls}
use Rattle.rr_laws.proofs.Changing.{request_content_role, response_content_role, hint_role, init_role}

module _ {Q QH P PH K : Type 0} where
  -- a message that says something else keeps its role
  pub rewrites_change : (old : State Q QH P PH K) (n : ℕ) (new : State Q QH P PH K) → Rewrites old n new →
      (change : Handle Q QH P PH → Handle Q QH P PH) × ((h : Handle Q QH P PH) → role_of (change h) ≡ role_of h)
      × (new ≡ with_changed old n change)
  rewrites_change old n new rewrites = ⊎_elim
      (λ request. (with_request_content request.0, request_content_role request.0, request.2))
      (λ response. (with_response_content response.0, response_content_role response.0, response.2))
      rewrites

module _ {Q QH P PH K : Type 0} (action : K → ℕ → ℕ → BackpressureAction) (IsDefaultRequestHeader : QH → Type 0)
    (IsDefaultResponseHeader : PH → Type 0) {Holds : State Q QH P PH K → Type 0} {MayRelease : State Q QH P PH K → ℕ → Type 0}
    (kept : KeptByCalls action IsDefaultRequestHeader IsDefaultResponseHeader Holds MayRelease)
    (old : State Q QH P PH K) (fits : IsReached old) (holds : Holds old) where
  -- a handle changed that keeps its role
  changed : (n : ℕ) (change : Handle Q QH P PH → Handle Q QH P PH) → ((h : Handle Q QH P PH) → role_of (change h) ≡ role_of h)
      → (new : State Q QH P PH K) → new ≡ with_changed old n change → Holds new
  changed n change same new is = subst (λ (x : State Q QH P PH K). Holds x) (sym is) (kept.change old fits holds n change same)

  -- what each call keeps is kept by each step, if any number may be released
  pub port_step_keeps : ((n : ℕ) → MayRelease old n) → (event : PortEvent K) (new : State Q QH P PH K)
      → PortStep action IsDefaultRequestHeader IsDefaultResponseHeader old event new → Holds new
  port_step_keeps may (Command.CreateClient settings, Reply.Created n) new step = kept.client old fits holds settings (Ok n) new step
  port_step_keeps may (Command.CreateServer settings, Reply.Created n) new step = kept.server old fits holds settings (Ok n) new step
  port_step_keeps may (Command.Loan n len, Reply.Loaned k) new step = ⊎_elim (kept.loan_request old fits holds n len (Ok k) new)
      (kept.loan_response old fits holds n len (Ok k) new) step
  port_step_keeps may (Command.Set n i v, Reply.Flag true) new step =
      let written = rewrites_change old n new step in changed n written.0 written.1 new written.2
  port_step_keeps may (Command.AssumeInit n, Reply.Done) new step = changed n after_init init_role new step
  port_step_keeps may (Command.Send n, Reply.Pending k connections) new step =
      kept.send_request old fits holds n (Ok connections) new step.1
  port_step_keeps may (Command.Send n, Reply.RequestError e) new step = kept.send_request old fits holds n (Err e) new step
  port_step_keeps may (Command.Send n, Reply.Sent k) new step = kept.send_response old fits holds n (Ok k) new step.1
  port_step_keeps may (Command.Send n, Reply.SendError e) new step = kept.send_response old fits holds n (Err e) new step
  port_step_keeps may (Command.Receive n, Reply.Active a r) new step = kept.receive_request old fits holds n (Ok (Some a)) new step.0
  port_step_keeps may (Command.Receive n, Reply.Response k) new step = kept.receive_response old fits holds n (Ok (Some k)) new step
  port_step_keeps may (Command.Receive n, Reply.Nothing) new step = ⊎_elim (kept.receive_request old fits holds n (Ok None) new)
      (kept.receive_response old fits holds n (Ok None) new) step
  port_step_keeps may (Command.Receive n, Reply.ReceiveError e) new step = ⊎_elim (kept.receive_request old fits holds n (Err e) new)
      (kept.receive_response old fits holds n (Err e) new) step
  port_step_keeps may (Command.SetHint n, Reply.Done) new step = changed n with_hint hint_role new step
  port_step_keeps may (Command.Release n, Reply.Done) new step = subst (λ (x : State Q QH P PH K). Holds x) (sym step)
      (kept.release old fits holds n (may n))
  port_step_keeps may event new step = absurd step
