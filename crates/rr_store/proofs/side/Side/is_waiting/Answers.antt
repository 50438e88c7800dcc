use Rattle.std.proofs.Common.{inl, inr, sym}
use Rattle.std.proofs.lemmas.Bool.{cases_lt}
use Rattle.rr_store.proofs.receiving.Passed.{entry_nowhere}
use Rattle.rr_store.proofs.side.Side.is_waiting.Goals as goal

pub returns : goal.returns
returns g c =
    sym (entry_nowhere c.args.self.now.senders c.args.receiver c.args.channel (λ l there. elim (cases_lt l c.loop-sender.start) [
      | inl before ↦ c.loop-sender.invariant l before
      | inr after ↦ c.in_default.ensures.next l after there
    ]))
