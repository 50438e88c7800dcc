use Rattle.std.proofs.Common.{◌*◌, arith}
use Rattle.std.proofs.Math.Nat.{le-mul_of_pos_right}
use Rattle.rr_creating.proofs.server.server_of.Goals as goal

pub overflow_mul-max_loaned_responses : goal.overflow_mul-max_loaned_responses
overflow_mul-max_loaned_responses g c =
    let limits = c.args.limits.now in
    omega (arith, c.requires.loans, le-mul_of_pos_right (c.args.loans * limits.max_active_requests_per_client) c.requires.clients)
