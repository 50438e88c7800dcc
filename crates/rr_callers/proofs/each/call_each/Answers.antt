use Rattle.std.proofs.Common.{of_calls, [], ◌∷◌, ◌++◌, ◌+◌, cond, sym, ap, ◌∙◌, subst, take, arith}
use Rattle.std.specs.List.{AllZip}
use Rattle.rr_ports.proofs.FactLaws.{keeps_both}
use Rattle.rr_callers.proofs.Zipped.{zip_next}
use Rattle.rr_callers.proofs.each.call_each.Goals as goal

pub loop-index-preserved : goal.loop-index-preserved
loop-index-preserved g c =
    let so_far = c.loop-index.invariant in
    let items = c.push.ensures.items
    ∙ ap (λ b. cond b (c.loop-index.answers.items ++ c.in_ok-answer.answer ∷ []) c.loop-index.answers.items) c.if-is_err.ensures.negation in (
      keeps_both c.args.hub.now c.loop-index.hub c.call.new.hub so_far.0 c.in_ok-answer.ensures.keeps,
      c.in_ok-answer.ensures.quiet,
      subst (AllZip (goal.F-post g c.args.answer_by.now) (take (c.loop-index.index + 1) c.args.questions.now)) (sym items)
          (zip_next (goal.F-post g c.args.answer_by.now) c.args.questions.now c.loop-index.index c.index-questions-index.result c.loop-index.answers.items
          c.in_ok-answer.answer c.loop-index-test.true so_far.2 c.index-questions-index.is (search of_calls)),
      (let a = so_far.3 in let b = c.in_ok-answer.ensures.numbers in omega arith),
    )
