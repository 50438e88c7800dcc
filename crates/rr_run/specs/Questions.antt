-- The commands that change nothing.
use Rattle.std.specs.Prelude.{⊤}
use Rattle.rr_protocol.specs.declared.command.Command.{Command}

module _ {T H K : Type 0} where
  -- whether a command changes nothing, whatever it names
  abbrev pub IsQuestion : Command T H K → Type 0
  IsQuestion (Command.IsDeliverable n) = ⊤
  IsQuestion (Command.HasEntries n) = ⊤
  IsQuestion (Command.IsConnected n) = ⊤
  IsQuestion (Command.HasHint n) = ⊤
  IsQuestion (Command.Servers n) = ⊤
  IsQuestion (Command.Header n) = ⊤
  IsQuestion (Command.UserHeader n) = ⊤
  IsQuestion (Command.Payload n) = ⊤
  IsQuestion (Command.Origin n) = ⊤
  IsQuestion (Command.Strategy n) = ⊤
  IsQuestion (Command.MaxSliceLen n) = ⊤
  IsQuestion (Command.UpdateConnections n) = ⊤
  IsQuestion command = ⊥
