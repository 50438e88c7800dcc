use Rattle.std.proofs.Common.{rules, ◌≤◌, ◌^◌}
use Rattle.rr_protocol.specs.Limits.{worst_case_responses}
use Rattle.rr_protocol.proofs.Growth.{large_requests, large_borrows, large_queued, large_entries, not_below, large_sum}
use Rattle.rr_protocol.proofs.limits.Limits.worst_case_responses.Goals as goal

pub returns-in_err-requests-clause-none : goal.returns-in_err-requests-clause-none
returns-in_err-requests-clause-none c =
    let large : 2 ^ 64 ≤ worst_case_responses c.args.self.now c.args.loans =
    large_requests c.args.self.now _ _ c.requires.clients c.requires.borrowed c.in_err-requests.ensures.none in
    search rules

pub returns-in_err-borrowed-clause-none : goal.returns-in_err-borrowed-clause-none
returns-in_err-borrowed-clause-none c =
    let large : 2 ^ 64 ≤ worst_case_responses c.args.self.now c.args.loans = large_borrows c.args.self.now _ _ c.requires.clients
    (rw (← c.in_ok-requests.ensures.some) (not_below _ _ c.in_err-borrowed.ensures)) in
    search rules

pub returns-in_err-queued-clause-none : goal.returns-in_err-queued-clause-none
returns-in_err-queued-clause-none c =
    let large : 2 ^ 64 ≤ worst_case_responses c.args.self.now c.args.loans = large_queued c.args.self.now _ _ c.requires.clients
    (not_below _ _ c.in_err-queued.ensures) in
    search rules

pub returns-in_err-received-clause-none : goal.returns-in_err-received-clause-none
returns-in_err-received-clause-none c =
    let large : 2 ^ 64 ≤ worst_case_responses c.args.self.now c.args.loans = large_entries c.args.self.now _ _ c.requires.clients
    (large_sum _ c.in_ok-queued.ensures.1 c.in_ok-borrowed.ensures.1 c.in_ok-requests.ensures.some c.in_err-received.ensures) in
    search rules
