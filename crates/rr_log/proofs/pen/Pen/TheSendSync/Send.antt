-- A pen owns ghost state alone, so it may go to any thread.
use denote.RattleType.{RattleType}
use denote.Param.Send.{IsSend}
use Rattle.rr_log.specs.contracts.pen.Pen.{the_row}
use Rattle.rr_log.proofs.Keyless.{pen_keyless}

pub send : (E : RattleType) → IsSend (the_row E)
send E = record { owned = λ d vs. ((λ vss. (tt, ((λ uss. (tt, tt)), tt))), pen_keyless E.coded d.log_id d.entries); leaving = λ k f vs. tt }
