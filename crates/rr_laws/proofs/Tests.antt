-- What follows where a test in front of an act has passed.
use Rattle.std.proofs.Common.{◌≡◌, ℕ, ◌+◌, ◌*◌, ◌<◌, Bool, true, false, cond, eqb, Option, Some, None, refl, arith}
use Rattle.std.specs.Prelude.{◌||◌, nat_le}
use Rattle.std.proofs.lemmas.Bool.{eqb-false, leb-false}
use Rattle.rr_protocol.specs.declared.limits.Limits.{Limits}
use Rattle.rr_protocol.specs.Limits.{worst_case_requests, has_zero_limit, hub_refusal}

-- a reason that is not due, and then the rest
pub not_due : {A : Type 0} (b : Bool) (x : A) (rest : Option A) → cond b (Some x) rest ≡ None → (b ≡ false) × (rest ≡ None)
not_due true x rest e = absurd (cc)
not_due false x rest e = (refl, e)

-- two tests that fail
pub or_false : (a b : Bool) → (a || b) ≡ false → (a ≡ false) × (b ≡ false)
or_false true b e = absurd (cc)
or_false false b e = (refl, e)

-- a number that is not 0
pub above_zero : (n : ℕ) → eqb n 0 ≡ false → 0 < n
above_zero n e = let d = eqb-false n 0 e in omega arith

-- a test of order that fails
pub below_of_test : (a b : ℕ) → nat_le a b ≡ false → b < a
below_of_test a b e = leb-false a b e

-- limits that make a hub are above 0
pub record ArePositive (l : Limits) : Type 0 where
  pub clients : 0 < l.max_clients
  pub loaned : 0 < l.max_loaned_requests
  pub active : 0 < l.max_active_requests_per_client
  pub buffer : 0 < l.max_response_buffer_size
  pub borrowed : 0 < l.max_borrowed_responses_per_pending_response
  pub worst : 0 < worst_case_requests l

-- limits that make a hub are above 0
pub positive : (l : Limits) → hub_refusal l ≡ None → ArePositive l
positive l e =
    let zero_limit : has_zero_limit l ≡ false = (not_due (has_zero_limit l) _ _ e).0 in
    let borrowed = or_false _ _ zero_limit in
    let buffer = or_false _ _ borrowed.0 in
    let active = or_false _ _ buffer.0 in
    let loaned = or_false _ _ active.0 in
    let some = above_zero l.max_loaned_requests loaned.1 in
    let clients = or_false _ _ loaned.0 in
    record {
      clients = above_zero l.max_clients clients.0;
      loaned = some;
      active = above_zero l.max_active_requests_per_client active.1;
      buffer = above_zero l.max_response_buffer_size buffer.1;
      borrowed = above_zero l.max_borrowed_responses_per_pending_response borrowed.1;
      worst = sum_above_zero l.max_loaned_requests l.max_active_requests_per_client
          (l.max_servers * 2 * l.max_active_requests_per_client) some;
    }
  where
    sum_above_zero : (a b c : ℕ) → 0 < a → 0 < a + b + c
    sum_above_zero a b c h = omega arith
