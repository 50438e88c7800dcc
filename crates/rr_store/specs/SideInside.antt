-- The fields of a side as parts.
use Rattle.std.specs.Prelude.{map, vec_capacity}
use Rattle.rr_store.specs.declared.side.Side.TheInside.{Inside}
use Rattle.rr_store.specs.Ports.{sender_part}
use Rattle.rr_store.specs.Sides.{SideParts}

-- the whole
abbrev pub side_of : {B N H P T : Type 0} → Inside B N H P T → SideParts T N H P
side_of s =
    record {
      senders = map sender_part s.senders.items;
      ports = s.ports.items;
      left = s.left.items;
      room = vec_capacity s.left;
      spare_header = s.spare_header;
    }
