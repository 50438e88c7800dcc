use Rattle.rr_sender.proofs.BitLaws.{inserted}
use Rattle.rr_sender.proofs.bit_sets.BitSets.insert.Goals as goal

pub returns-clause-there : goal.returns-clause-there
returns-clause-there c = inserted _ _ _ _ (rw (← c.known_word-word.ensures) c.set_word.ensures)
