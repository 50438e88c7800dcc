use Rattle.std.proofs.Common.{◌≤◌, length}
use Rattle.std.proofs.lemmas.List.Elements.{All-map}
use Rattle.rr_slots.proofs.connection.Connection.capacity.Goals as goal

pub returns-clause-within : goal.returns-clause-within
returns-clause-within c = rw (← c.self.view_is) (All-map (λ queue. length queue ≤ c.self.inside.capacity)
    (λ buffer. buffer.items) c.self.inside.queues.items c.self.invariant.within)
