-- A name owns nothing, so it may go to any thread.
use denote.RattleType.{RattleType}
use denote.Param.Send.{IsSend}
use Rattle.rr_log.specs.contracts.name.Name.{the_row}

pub send : (E : RattleType) → IsSend (the_row E)
send E = record { owned = λ d vs. ((λ vss. (tt, ((λ uss. (tt, tt)), tt))), tt); leaving = λ k f vs. tt }
