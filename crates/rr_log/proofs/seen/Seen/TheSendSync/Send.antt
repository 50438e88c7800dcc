-- A caller owns ghost state alone, so it may go to any thread.
use denote.RattleType.{RattleType}
use denote.Param.Send.{IsSend}
use Rattle.rr_log.specs.contracts.seen.Seen.{the_row}
use Rattle.rr_log.proofs.Keyless.{seen_keyless}

pub send : (E : RattleType) → IsSend (the_row E)
send E = record { owned = λ d vs. ((λ vss. (tt, ((λ uss. (tt, tt)), tt))), seen_keyless E.coded d.log_id d.caller d.entries); leaving = λ k f vs. tt }
