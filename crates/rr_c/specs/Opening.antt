-- From the pointer that a C program holds to the hub.
use Rattle.std.specs.Borrow.{Fml, MutBor, Lends}
use Rattle.rr_c.specs.declared.held.Held.{Held}
use Rattle.rr_c.specs.declared.held.Hub.{Hub}
use Rattle.rr_c.specs.contracts.held.Held.{the_row as held_row}
use Rattle.rr_c.specs.contracts.held.Hub.{the_row as hub_row}

-- at the same address another hub
abbrev pub with_hub : Held → Hub → Held
with_hub held hub = record { at = held.at; hub = hub }

-- the held hub is the last one written through r
abbrev pub lends_hub : MutBor Held → MutBor Hub → Fml
lends_hub held r = Lends held_row hub_row held r (with_hub held.now)
