use Rattle.std.proofs.Common.{◌<◌, ◌≤◌, ◌+◌, ◌-◌}
use Rattle.rr_store.proofs.base.lists.Ranges.{between}
use Rattle.rr_store.proofs.side.Side.free_receiver.Given as goal

-- fewer ports than numbers are in the range
abbrev pub invariant-loop-low : goal.invariant-loop-low
invariant-loop-low g l = (between g.P.ConnectedPort.receiver l.low l.high l.self.ports + l.low < l.high) × (l.high ≤ l.receivers)

abbrev pub decreases-loop-low : goal.decreases-loop-low
decreases-loop-low g l = l.high - l.low
