use Rattle.std.proofs.Common.{◌<◌, ◌+◌, [], ◌∷◌, ◌++◌, length, sym, ap, ◌∙◌, arith}
use Rattle.std.specs.Prelude.{take}
use Rattle.std.proofs.lemmas.List.{take_more}
use Rattle.std.proofs.lemmas.Option.{get_or_from_slice_get}
use Rattle.rr_run.proofs.runner.payload.vector_of.Goals as goal

pub loop-index-preserved : goal.loop-index-preserved
loop-index-preserved g c =
    let xs = g.B.Body.elements c.args.body.now in
    let i = c.loop-index.index in
    let x = c.get.result.now in
    let within : i < length xs = omega (arith, c.loop-index-test.true, c.len-index-end.ensures) in (
      c.push_reserved.ensures.items ∙ ap (λ ys. ys ++ x ∷ []) c.loop-index.invariant.0
          ∙ ap (λ y. take i xs ++ y ∷ []) (sym (get_or_from_slice_get xs i x x c.get.ensures)) ∙ sym (take_more xs i x within),
      c.push_reserved.ensures.len ∙ ap (λ n. n + 1) c.loop-index.invariant.1,
      omega (arith, c.push_reserved.ensures.capacity, c.loop-index.invariant.2),
    )
