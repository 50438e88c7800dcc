use Rattle.std.proofs.Common.{◌≡◌, ◌≤◌, count_by, take}
use Rattle.rr_store.specs.Creating.{is_between}
use Rattle.rr_store.proofs.side.Side.receivers_between.Given as goal

-- the ports so far were counted
abbrev pub invariant-loop-port : goal.invariant-loop-port
invariant-loop-port g l =
    (l.count ≡ count_by (λ p. is_between l.low l.high (g.P.ConnectedPort.receiver p)) (take l.port-index l.self.ports)) × (l.count ≤ l.port-index)
