-- A roster owns parts of ghost entries, and so it may go to any thread.
use denote.RattleType.{RattleType}
use denote.Param.Send.{IsSend}
use Rattle.rr_claims.specs.contracts.roster.Roster.{the_row}

pub send : (W : RattleType) → IsSend (the_row W)
send W = record { owned = λ d vs. ((λ vss. (tt, ((λ uss. (tt, tt)), tt))), tt); leaving = λ k f vs. tt }
