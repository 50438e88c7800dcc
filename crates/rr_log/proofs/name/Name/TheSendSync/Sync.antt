-- A name owns nothing, so any thread may share it.
use denote.RattleType.{RattleType}
use denote.Param.Send.{IsSend, IsSync, part_keyless}
use Rattle.rr_log.specs.contracts.name.Name.{the_row}

name_send : (E : RattleType) → IsSend (the_row E)
name_send E = record { owned = λ d vs. ((λ vss. (tt, ((λ uss. (tt, tt)), tt))), tt); leaving = λ k f vs. tt }

pub sync : (E : RattleType) → IsSync (the_row E)
sync E = record { shared = λ d b o κ q. part_keyless (the_row E) (name_send E) q d b o }
