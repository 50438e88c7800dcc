-- What is shown owns nothing, so it may go to any thread, and any thread may share it.
use denote.RattleType.{RattleType}
use denote.Param.Send.{IsSend, IsSync, part_keyless}
use Rattle.rr_claims.specs.contracts.shown.Shown.{the_row}

shown_send : (E : RattleType) → IsSend (the_row E)
shown_send E = record { owned = λ d vs. ((λ vss. (tt, ((λ uss. (tt, tt)), tt))), tt); leaving = λ k f vs. tt }

pub sync : (E : RattleType) → IsSync (the_row E)
sync E = record { shared = λ d b o κ q. part_keyless (the_row E) (shown_send E) q d b o }
