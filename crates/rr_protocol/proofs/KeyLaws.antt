-- The orders of the keys are total, and keys that compare alike are one.
use Rattle.std.proofs.Common.{ℕ, ap}
use Rattle.std.specs.Ordering.{nat_cmp}
use Rattle.std.specs.Cmp.{IsTotalOrder, nat_cmp_total, on_total, then_total}
use Rattle.std.proofs.lemmas.Map.Lookups.{exact_unsigned, exact_pairs}
use Rattle.std.specs.FinMap.{IsAntisymmetric}
use Rattle.rr_protocol.specs.Keys.{request_key_cmp, response_key_cmp}

pub request_keys_total : IsTotalOrder request_key_cmp
request_keys_total = then_total (on_total (λ k. k.client) nat_cmp_total) (on_total (λ k. k.server) nat_cmp_total)

pub response_keys_total : IsTotalOrder response_key_cmp
response_keys_total =
    then_total (on_total (λ k. k.server) nat_cmp_total)
    (then_total (on_total (λ k. k.client) nat_cmp_total) (on_total (λ k. k.channel) nat_cmp_total))

pub request_keys_exact : IsAntisymmetric request_key_cmp
request_keys_exact a b h =
    ap (λ (p : ℕ × ℕ). record { client = p.0; server = p.1 })
    (exact_pairs nat_cmp nat_cmp exact_unsigned exact_unsigned (a.client, a.server) (b.client, b.server) h)

pub response_keys_exact : IsAntisymmetric response_key_cmp
response_keys_exact a b h =
    ap (λ (p : ℕ × (ℕ × ℕ)). record { server = p.0; client = p.1.0; channel = p.1.1 })
    (exact_pairs nat_cmp _ exact_unsigned (exact_pairs nat_cmp nat_cmp exact_unsigned exact_unsigned)
    (a.server, (a.client, a.channel)) (b.server, (b.client, b.channel)) h)
