use mathlib.Core.List.{[], ◌∷◌}
use denote.Exit.{no}
use denote.Param.{param}
use denote.Param.Send.{param_send, arg_send, given_sync, shr_send}
use Rattle.rr_locked.proofs.bells.Bells.TheSendSync as bells
use Rattle.rr_locked.proofs.seat.Seat.TheSendSync as seat
use Rattle.rr_locked.proofs.Shared.{caller_send}
use Rattle.rr_test_runs.proofs.tests.hubs.examples.work.Goals as goal

pub join-requires-send-F : goal.join-requires-send-F
join-requires-send-F g c κs within =
    param_send _ _ (arg_send _ no _
    (caller_send _ g.row.L g.row.R g.L.Ledger _ _ (_ ∷ _ ∷ []) (given_sync _ _ c.type_bounds.sync-R)
    (shr_send _ _ _ bells.the_sync, (seat.the_send (param 0 g.row.L) g.L.Ledger, tt))))
