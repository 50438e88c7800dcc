use Rattle.rr_slots.proofs.PlainLaws.{only_element}
use Rattle.rr_slots.proofs.kept_body.KeptBodyFillBody.copy.Goals as goal

pub returns-clause-elements : goal.returns-clause-elements
returns-clause-elements g c = rw c.copy.ensures.elements (only_element c.args.elements.now c.requires)
