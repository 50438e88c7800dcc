use Rattle.rr_store.specs.KnownWaiting.{AreNotedBelow}
use Rattle.rr_store.proofs.side.waiting.Waiting.note_all.Given as goal

-- the sender is noted for the servers so far
abbrev pub invariant-loop-server : goal.invariant-loop-server
invariant-loop-server g l = AreNotedBelow l.server-index l.count l.servers l.sender l.fn.self l.self
