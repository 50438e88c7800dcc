use Rattle.std.proofs.Common.{ap, ◌∙◌}
use Rattle.std.specs.Prelude.{not}
use Rattle.rr_sender.specs.Senders.{Messages}
use Rattle.rr_store.specs.Delivering.{is_blocked_in}
use Rattle.rr_sending.proofs.deliverable.takes_response.Goals as goal

pub returns : goal.returns
returns g c =
    let overflow = c.args.store.now.limits.enable_safe_overflow_for_responses in
    ap not (c.is_response_blocked.ensures
    ∙ ap (λ (m : Messages _ _ _). is_blocked_in m overflow c.args.channel c.args.reach) c.messages-messages.ensures)
