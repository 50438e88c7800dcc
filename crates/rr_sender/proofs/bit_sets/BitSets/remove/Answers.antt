use Rattle.std.proofs.Common.{arith}
use Rattle.std.proofs.lemmas.Nat.{and_le_l}
use Rattle.rr_sender.proofs.BitLaws.{removed}
use Rattle.rr_sender.proofs.bit_sets.BitSets.remove.Goals as goal

pub returns-clause-gone : goal.returns-clause-gone
returns-clause-gone c = removed _ _ _ _ (rw (← c.known_word-word.ensures) c.set_word.ensures)

pub returns-clause-less : goal.returns-clause-less
returns-clause-less c = omega (arith, c.set_word.ensures.here, c.known_word-word.ensures, and_le_l)
