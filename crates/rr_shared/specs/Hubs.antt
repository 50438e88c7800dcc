-- The identity of a hub, as a type parameter.
use Rattle.std.specs.Prelude.{◌≡◌, ℕ, Result, Ok, Err, Some, None}
use base.Stored.{Coded, coded×, coded_ℕ, coded_via}
use Rattle.rr_protocol.specs.declared.limits.Limits.{Limits}
use Rattle.rr_protocol.specs.declared.error.HubCreateError.{HubCreateError}
use Rattle.rr_protocol.specs.Codes.{limits_code}
use Rattle.rr_protocol.specs.Limits.{hub_refusal}

-- the log of a hub's calls, its limits and its node id
pub record Name : Type 0 where
  pub log_id : ℕ
  pub limits : Limits
  pub node_id : ℕ

abbrev pub name : ℕ → Limits → ℕ → Name
name log_id limits node_id = record { log_id = log_id; limits = limits; node_id = node_id }

abbrev pub name_code : Coded Name
name_code =
    coded_via (coded× coded_ℕ (coded× limits_code coded_ℕ))
    (λ n. (n.log_id, (n.limits, n.node_id)))
    (λ x y e i. record { log_id = (e i).0; limits = (e i).1.0; node_id = (e i).1.1 })

-- a hub with these limits and this node id is opened, unless the limits are refused
abbrev pub OpensHub : Limits → ℕ → Result Name HubCreateError → Type 0
OpensHub limits node_id (Ok opened) =
    (hub_refusal limits ≡ None) × (opened.limits ≡ limits) × (opened.node_id ≡ node_id)
OpensHub limits node_id (Err error) = hub_refusal limits ≡ Some error
