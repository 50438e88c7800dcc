use Rattle.std.proofs.Common.{◌+◌, ◌%◌, ◌^◌, rules}
use Rattle.rr_ports.proofs.FactLaws.{if_ok}
use Rattle.rr_callers.proofs.Folding.{folds_are}
use Rattle.rr_callers.proofs.draining.sum_of_answers.Goals as goal

pub returns-clause-sum : goal.returns-clause-sum
returns-clause-sum c answers awaits short =
    if_ok c.fold_responses.result
    (c.fold_responses.ensures.answers c.args.client.now c.args.pending.now c.args.server.now answers c.requires.of c.requires.client awaits short)
    (λ folded all. folds_are _ (λ sum x. (sum + x) % 2 ^ 64) (λ p x q one. search rules) answers _ _ all.1)
