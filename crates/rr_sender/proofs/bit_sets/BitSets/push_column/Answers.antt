use Rattle.rr_sender.proofs.BitLaws.{column_added}
use Rattle.rr_sender.proofs.bit_sets.BitSets.push_column.Goals as goal

pub returns : goal.returns
returns c sets empty = column_added sets c.args.column empty c.args.self.now (record { columns = c.push_reserved.new.self }) c.push_reserved.ensures.items
