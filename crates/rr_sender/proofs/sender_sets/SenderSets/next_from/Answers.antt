use Rattle.rr_sender.proofs.SetLaws.{found_first}
use Rattle.rr_sender.proofs.sender_sets.SenderSets.next_from.Goals as goal

pub returns-in-Some-next_from : goal.returns-in-Some-next_from
returns-in-Some-next_from c =
    rw (← c.self.view_is) (found_first c.self.inside.members c.self.inside.words c.self.invariant c.args.set c.args.from
    c.in_default.ensures.next c.in-Some-next_from.word c.in-Some-next_from.ensures
    c.next_in_word-in-Some-next_from.result c.next_in_word-in-Some-next_from.ensures.next c.next_in_word-in-Some-next_from.ensures.empty)
