-- The replies that own memory.
use Rattle.std.specs.Prelude.{◌<◌, length}
use Rattle.rr_protocol.specs.declared.reply.Reply.{Reply}

-- the reply is the elements of a message that has several
abbrev pub HasSeveral : {T H : Type 0} → Reply T H → Type 0
HasSeveral (Reply.Payload elements) = 1 < length elements
HasSeveral reply = ⊥
