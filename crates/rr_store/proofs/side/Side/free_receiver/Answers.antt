use Rattle.std.proofs.Common.{◌≡◌, ◌<◌, ◌+◌, ◌-◌, ◌/◌, subst, arith}
use Rattle.rr_store.proofs.base.lists.Ranges.{between, between_one, between_split}
use Rattle.rr_store.proofs.side.Side.free_receiver.Goals as goal

pub loop-low-preserved : goal.loop-low-preserved
loop-low-preserved g c =
    let low = c.loop-low.low in
    let high = c.loop-low.high in
    let split = between_split g.P.ConnectedPort.receiver low (low + (high - low) / 2) high (omega arith) (omega (arith, c.loop-low-test.true))
    c.args.self.now.ports in
    (omega (arith, split, c.loop-low.invariant.0, c.receivers_between.ensures, c.if-receivers_between-middle.false), c.loop-low.invariant.1)

pub returns-clause-vacant : goal.returns-clause-vacant
returns-clause-vacant g c i port at same =
    let low = c.loop-low.low in
    let ports = c.args.self.now.ports in
    let next : c.loop-low.high ≡ low + 1 = omega (arith, c.loop-low-test.false, c.loop-low.invariant.0) in
    let few = subst (λ h. between g.P.ConnectedPort.receiver low h ports + low < h) next c.loop-low.invariant.0 in
    between_one g.P.ConnectedPort.receiver low ports (omega (arith, few)) i port at same
