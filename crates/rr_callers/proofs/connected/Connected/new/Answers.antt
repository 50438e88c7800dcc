use Rattle.std.proofs.Common.{◌≡◌, Ok, Err, IfOk, ap, arith}
use Rattle.std.specs.Prelude.{Result}
use Rattle.rr_callers.proofs.connected.Connected.new.Goals as goal

-- what is true of a value that there is
ok_more : {T E : Type 0} (r : Result T E) (P Q : T → Type 0) → ((x : T) → P x → Q x) → IfOk r P → IfOk r Q
ok_more (Ok x) P Q more is = more x is
ok_more (Err e) P Q more is = tt

pub returns-clause-room : goal.returns-clause-room
returns-clause-room g c =
    let two : c.with_default_limits-hub.result.limits.max_response_buffer_size ≡ 2 =
    ap (λ s. s.limits.max_response_buffer_size) c.with_default_limits-hub.ensures.makes in
    c.by.ensures.room 2 (omega (arith, two))

pub returns-clause-numbers : goal.returns-clause-numbers
returns-clause-numbers g c =
    ok_more c.by.result _ _ (λ made most. omega (arith, most, c.with_default_limits-hub.ensures.numbers)) c.by.ensures.numbers
