use Rattle.std.proofs.Common.{◌≡◌, take, replicate}
use Rattle.rr_slots.specs.declared.channel_table.Channel.TheVariants.{Closed}
use Rattle.rr_slots.proofs.channel_table.close_each.Given as goal

-- the channels so far are closed
abbrev pub invariant-loop-index : goal.invariant-loop-index
invariant-loop-index l = take l.index l.channels ≡ replicate l.index Closed
