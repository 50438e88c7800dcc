-- A hub may go to another thread with what is held of it.
use mir.Raw.{raw}
use denote.Memory.{lone}
use denote.Param.Send.{IsSend, owning_send, struct_send, sendable}
use denote.Struct.Owning.{fields, shape, to}
use denote.Struct.Struct.{exits_of}
use Rattle.std.proofs.Crossing.{frees}
use Rattle.std_alloc.proofs.SendSync.{lies, quiet}
use Rattle.rr_c.proofs.Taken.{HubRow}
use Rattle.rr_bytes.proofs.slices.Slices.TheSendSync.{the_send}
use Rattle.rr_c.specs.Heap.{heap}
use Rattle.rr_c.specs.contracts.held.Held.{the_row, the_type}

hub_send : IsSend HubRow
hub_send = search (sendable, the_send) depth 12

pub send : IsSend the_row
send =
    owning_send the_type (search sendable, tt) (λ held. (lies HubRow hub_send held.at held.hub, frees.frees heap (raw (lone HubRow.mir)) held.at))
    (λ k. quiet (to the_type) (exits_of k (fields the_type)) ((struct_send (shape the_type) (search sendable, tt)).leaving k))
