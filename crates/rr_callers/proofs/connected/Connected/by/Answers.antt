use Rattle.std.proofs.Common.{[]}
use Rattle.rr_ports.specs.Facts.{Buffers}
use Rattle.rr_ports.proofs.Frames.{kept}
use Rattle.rr_callers.proofs.connected.Connected.by.Goals as goal

pub returns-in-Ok-clause-room : goal.returns-in-Ok-clause-room
returns-in-Ok-clause-room g c room le = kept [] _ _ _ (Buffers room) c.in-Ok.ensures.keeps tt (c.in_ok-client.ensures.buffers room le)
