-- The elements of a message as a list.
use Rattle.std.specs.Prelude.{List}
use Rattle.rr_protocol.specs.declared.elements.Items.{Items}
use Rattle.rr_protocol.specs.declared.elements.Items.TheVariants.{One, Many}

abbrev pub listed : {T : Type 0} → Items T → List T
listed (One element) = element
listed (Many elements) = elements.items
