-- Any thread may share a roster.
use denote.RattleType.{RattleType}
use denote.Param.Send.{IsSync, part_keyless}
use Rattle.rr_claims.specs.contracts.roster.Roster.{the_row}
use Rattle.rr_claims.proofs.roster.Roster.TheSendSync.Send.{send}

pub sync : (W : RattleType) → IsSync (the_row W)
sync W = record { shared = λ d b o κ q. part_keyless (the_row W) (send W) q d b o }
