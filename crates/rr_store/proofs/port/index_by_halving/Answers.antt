use Rattle.std.proofs.Common.{◌≡◌, ◌≢◌, ◌-◌, inl, inr, length, sym, ◌∙◌, subst, arith}
use Rattle.std.proofs.lemmas.Bool.{eqb-false}
use Rattle.rr_store.proofs.base.lists.ReadAt.{item_at}
use Rattle.rr_store.proofs.base.lists.Bisected.{IsBetween, between_after, between_before, between_found, between_none, between_start}
use Rattle.rr_store.proofs.port.index_by_halving.Goals.{then-behind-most, else-behind-most}
use Rattle.rr_store.proofs.port.index_by_halving.Goals as goal

pub loop-low-init : goal.loop-low-init
loop-low-init g c =
    let ports = c.args.ports.now in
    let read = g.P.ConnectedPort.id in
    let first = c.index-ports-0.result in
    let last = c.index-ports-most.result in
    let most = length ports - 1 in
    let some : length ports ≢ 0 = eqb-false (length ports) 0 (sym c.is_empty.ensures ∙ c.if-is_empty.false) in
    let low : c.saturating_sub-low.result ≡ most - (read last - c.args.id) =
    omega (arith, c.saturating_sub-low.ensures, c.saturating_sub-before.ensures, c.details-2.ensures.id) in
    let behind : c.saturating_sub-behind.result ≡ c.args.id - read first = omega (arith, c.saturating_sub-behind.ensures, c.details.ensures.id) in
    let start = between_start read ports c.args.id c.requires most (omega (arith, some)) first last
    (item_at ports 0 first (omega (arith, some)) c.index-ports-0.is) (item_at ports most last (omega (arith, some)) c.index-ports-most.is) in
    subst (λ low. IsBetween read ports c.args.id low c.if-behind-most.high) (sym low)
    (elim c.if-behind-most.branch [
      | then-behind-most w ↦ start c.if-behind-most.high (omega (arith, w.high-is, w.if-behind-most.true)) (inl (omega (arith, w.high-is, behind)))
      | else-behind-most w ↦ start c.if-behind-most.high (omega (arith, w.high-is, some)) (inr (omega (arith, w.high-is, some)))
    ])

pub returns-then-found-id : goal.returns-then-found-id
returns-then-found-id g c =
    sym (between_found g.P.ConnectedPort.id c.args.ports.now c.args.id c.requires _ c.index-ports-middle.result
    (omega (arith, c.loop-low.invariant.inside)) c.index-ports-middle.is (sym c.details-found.ensures.id ∙ c.if-found-id.true))

pub loop-low-smaller-then-found-id-2 : goal.loop-low-smaller-then-found-id-2
loop-low-smaller-then-found-id-2 g c = omega arith

pub loop-low-smaller : goal.loop-low-smaller
loop-low-smaller g c = omega arith

pub loop-low-preserved-then-found-id-2 : goal.loop-low-preserved-then-found-id-2
loop-low-preserved-then-found-id-2 g c =
    between_after g.P.ConnectedPort.id c.args.ports.now c.args.id c.requires _ c.index-ports-middle.result
    (omega (arith, c.loop-low.invariant.inside)) c.index-ports-middle.is _ _ c.loop-low.invariant
    (omega (arith, c.details-found.ensures.id, c.if-found-id-2.true))

pub loop-low-preserved : goal.loop-low-preserved
loop-low-preserved g c =
    between_before g.P.ConnectedPort.id c.args.ports.now c.args.id c.requires _ c.index-ports-middle.result
    (omega (arith, c.loop-low.invariant.inside)) c.index-ports-middle.is _ _ c.loop-low.invariant
    (omega (arith, c.details-found.ensures.id, c.if-found-id.false, c.if-found-id-2.false))

pub returns : goal.returns
returns g c =
    sym (between_none g.P.ConnectedPort.id c.args.ports.now c.args.id _ _ c.loop-low.invariant (omega arith))
