use Rattle.std.proofs.Common.{◌≡◌, ◌-◌, length}
use Rattle.rr_store.specs.Receiving.{IsLookedThrough}
use Rattle.rr_store.specs.Skimming.{IsSkimmed}
use Rattle.rr_store.proofs.side.skimming.Side+B+RequestDetails+H+P.skim_to_next.Given as goal

-- senders were skimmed, and of those so far, from the first that is asked for, none is next
abbrev pub invariant-loop-sender : goal.invariant-loop-sender
invariant-loop-sender g l =
    IsSkimmed l.table l.receiver l.most l.initial.self.senders l.self.senders
    × IsLookedThrough l.self.senders l.receiver 0 l.most l.from l.start l.is_at_limit
    × (l.self ≡ record l.initial.self { senders = l.self.senders })

abbrev pub decreases-loop-sender : goal.decreases-loop-sender
decreases-loop-sender g l = length l.self.senders - l.start
