-- Sizes that are too large stay so as more is added to them.
use Rattle.std.proofs.Common.{◌≡◌, ℕ, ◌+◌, ◌*◌, ◌<◌, ◌≤◌, arith}
use Rattle.std.proofs.Math.Nat.{le-mul_of_pos_right}
use Rattle.rr_protocol.specs.declared.limits.Limits.{Limits}
use Rattle.rr_protocol.specs.Limits.{worst_case_requests, worst_case_responses, max_loaned_responses}

-- what a client may hold of one server
abbrev pub entries_and_borrows : Limits → ℕ
entries_and_borrows l = l.max_active_requests_per_client * l.max_response_buffer_size
    + worst_case_requests l * l.max_borrowed_responses_per_pending_response

pub large_entries : (l : Limits) (loans n : ℕ) → 0 < l.max_clients → n ≤ entries_and_borrows l → n ≤ worst_case_responses l loans
large_entries l loans n some e =
    let grows = le-mul_of_pos_right (entries_and_borrows l) some in
    go (max_loaned_responses l loans) (l.max_clients) (entries_and_borrows l) n e grows
  where
    go : (loaned clients x n : ℕ) → n ≤ x → x ≤ x * clients → n ≤ loaned + clients * x
    go loaned clients x n e grows = omega (arith, e, grows)

pub large_queued : (l : Limits) (loans n : ℕ) → 0 < l.max_clients → n ≤ l.max_active_requests_per_client * l.max_response_buffer_size
    → n ≤ worst_case_responses l loans
large_queued l loans n some e =
    large_entries l loans n some (go (l.max_active_requests_per_client * l.max_response_buffer_size)
    (worst_case_requests l * l.max_borrowed_responses_per_pending_response) n e)
  where
    go : (x y n : ℕ) → n ≤ x → n ≤ x + y
    go x y n e = omega (arith, e)

pub large_borrows : (l : Limits) (loans n : ℕ) → 0 < l.max_clients
    → n ≤ worst_case_requests l * l.max_borrowed_responses_per_pending_response → n ≤ worst_case_responses l loans
large_borrows l loans n some e =
    large_entries l loans n some (go (l.max_active_requests_per_client * l.max_response_buffer_size)
    (worst_case_requests l * l.max_borrowed_responses_per_pending_response) n e)
  where
    go : (x y n : ℕ) → n ≤ y → n ≤ x + y
    go x y n e = omega (arith, e)

pub large_requests : (l : Limits) (loans n : ℕ) → 0 < l.max_clients → 0 < l.max_borrowed_responses_per_pending_response
    → n ≤ worst_case_requests l → n ≤ worst_case_responses l loans
large_requests l loans n some borrows e =
    large_borrows l loans n some (go (worst_case_requests l) (worst_case_requests l * l.max_borrowed_responses_per_pending_response) n e
    (le-mul_of_pos_right (worst_case_requests l) borrows))
  where
    go : (x y n : ℕ) → n ≤ x → x ≤ y → n ≤ y
    go x y n e grows = omega (arith, e, grows)

pub not_below : (x n : ℕ) → (x < n → ⊥) → n ≤ x
not_below x n e = search (arith, e)

pub large_sum : {queued borrowed requests x all n : ℕ} (borrows : ℕ) → queued ≡ x → borrowed ≡ requests * borrows → requests ≡ all
    → (queued + borrowed < n → ⊥) → n ≤ x + all * borrows
large_sum borrows q b r e = rw (← r, ← b, ← q) (not_below _ _ e)
