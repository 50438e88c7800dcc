use Rattle.std.proofs.Common.{◌≡◌, ◌-◌, ◌+◌, ◌++◌, [], ◌∷◌, None, Some, cond, sym, ap, ◌∙◌, subst}
use Rattle.std.specs.List.{range_with_len}
use Rattle.rr_protocol.specs.declared.kind.Kind.TheVariants as kind
use Rattle.rr_ports.specs.Facts.{IsA, Of}
use Rattle.rr_ports.specs.Queues.{Awaits}
use Rattle.rr_ports.proofs.FactLaws.{keeps_both}
use Rattle.rr_ports.proofs.Frames.{kept}
use Rattle.rr_callers.specs.Singles.{singles}
use Rattle.rr_callers.proofs.Singles.{range_next, singles_first}
use Rattle.rr_callers.proofs.counting.received.Goals as goal

pub unreachable-requires : goal.unreachable-requires
unreachable-requires c =
    let v = c.loop-received.received in
    let first = subst (Awaits c.loop-received.hub c.args.pending.now c.args.server.now) (singles_first v c.args.count c.loop-received-test.true)
    c.loop-received.invariant.2 in
    let e : None ≡ Some v = sym c.in-Ok-None.field-0-is ∙ c.in-Ok-None.ensures.answers c.args.server.now v (singles (v + 1) (c.args.count - (v + 1))) first in
    absurd (cc)

pub loop-received-preserved : goal.loop-received-preserved
loop-received-preserved c =
    let v = c.loop-received.received in
    let so_far = c.loop-received.invariant in
    let first = subst (Awaits c.loop-received.hub c.args.pending.now c.args.server.now) (singles_first v c.args.count c.loop-received-test.true) so_far.2 in
    let later = singles (v + 1) (c.args.count - (v + 1)) in
    let e : Some c.in-Ok-Some.number ≡ Some v = sym c.in-Ok-Some.field-0-is ∙ c.in-Ok-Some.ensures.answers c.args.server.now v later first in (
      keeps_both c.args.hub.now c.loop-received.hub c.receive_copy.new.hub so_far.0 c.in-Ok-Some.ensures.keeps,
      c.push.ensures.items
          ∙ ap (λ b. cond b (c.loop-received.came.items ++ c.in-Ok-Some.number ∷ []) c.loop-received.came.items) c.if-is_err.ensures.negation
          ∙ ap (λ xs. xs ++ c.in-Ok-Some.number ∷ []) so_far.1
          ∙ ap (λ n. range_with_len 0 v ++ n ∷ []) (let f : c.in-Ok-Some.number ≡ v = cc in f) ∙ sym (range_next v),
      c.in-Ok-Some.ensures.later c.args.client.now c.args.pending.now c.args.server.now (v ∷ []) later
          (kept [] c.args.hub.now c.loop-received.hub c.args.pending.now (Of c.args.client.now c.args.pending.now) so_far.0 tt c.requires.of)
          (kept [] c.args.hub.now c.loop-received.hub c.args.client.now (IsA kind.Client) so_far.0 tt c.requires.client) first,
    )
