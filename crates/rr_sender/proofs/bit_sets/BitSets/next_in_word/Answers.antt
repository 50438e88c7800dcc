use Rattle.std.proofs.Common.{◌/◌, ◌%◌, ◌^◌, ap, sym, ◌∙◌, arith}
use Rattle.rr_sender.proofs.BitLaws.{next, next_fits, none_next}
use Rattle.rr_sender.proofs.bit_sets.BitSets.next_in_word.Goals as goal

pub returns-then-rest-eq0-clause-next : goal.returns-then-rest-eq0-clause-next
returns-then-rest-eq0-clause-next c =
    none_next c.args.self.now c.args.set c.args.from c.word.result c.word.ensures c.if-rest-eq0.true

pub returns-then-rest-eq0-clause-empty : goal.returns-then-rest-eq0-clause-empty
returns-then-rest-eq0-clause-empty c = ap (λ w. w / 2 ^ (c.args.from % 64)) (sym c.word.ensures) ∙ c.if-rest-eq0.true

pub overflow_add-result : goal.overflow_add-result
overflow_add-result c =
    omega (arith, next_fits c.args.self.now c.args.set c.args.from c.word.result c.word.ensures c.word.type_inv c.if-rest-eq0.false c.ranges.from.fits)

pub returns-clause-next : goal.returns-clause-next
returns-clause-next c =
    next c.args.self.now c.args.set c.args.from c.word.result c.word.ensures c.word.type_inv c.if-rest-eq0.false
