use Rattle.std.proofs.Common.{◌-◌}
use Rattle.rr_store.proofs.base.lists.Bisected.{IsBetween}
use Rattle.rr_store.proofs.port.index_by_halving.Given as goal

-- what was looked at says where the number may stand
abbrev pub invariant-loop-low : goal.invariant-loop-low
invariant-loop-low g l = IsBetween g.P.ConnectedPort.id l.ports l.id l.low l.high

abbrev pub decreases-loop-low : goal.decreases-loop-low
decreases-loop-low g l = l.high - l.low
