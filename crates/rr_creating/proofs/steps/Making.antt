-- A store in which nothing was made.
use Rattle.std.proofs.Common.{◌≡◌, ℕ, sym, ap, ◌∙◌, subst}
use Rattle.std.specs.Prelude.{None}
use Rattle.rr_protocol.specs.declared.limits.Limits.{Limits}
use Rattle.rr_protocol.specs.Limits.{hub_refusal}
use Rattle.rr_protocol.specs.State.{empty_hub}
use Rattle.rr_laws.specs.Complete.{MessagesComplete}
use Rattle.rr_laws.specs.Reached.{IsReached}
use Rattle.rr_laws.proofs.CompleteRuns.{empty_hub_complete}
use Rattle.rr_laws.proofs.Creating.{empty_hub_reached}
use Rattle.rr_store.specs.Parts.{Parts}
use Rattle.rr_store.specs.Reaching.{IsCore}
use Rattle.rr_store.specs.Sound.{IsSoundStore, empty_hand}
use Rattle.rr_store.specs.Start.{start_parts}
use Rattle.rr_store.specs.Views.{state_of}
use Rattle.rr_creating.proofs.laws.hub.View.{start_sound, start_view}

module _ {Q QH P PH K : Type 0} (limits : Limits) (fits : hub_refusal limits ≡ None) (node_id : ℕ) (p : Parts Q QH P PH K)
    (made : p ≡ start_parts limits node_id p.spare_request_header p.spare_response_header) where
  -- what contracts see
  pub view_then : state_of p ≡ empty_hub limits node_id
  view_then = ap state_of made ∙ start_view Q QH P PH K limits node_id p.spare_request_header p.spare_response_header

  -- what is true
  pub core_then : IsCore p
  core_then = record {
    sound = subst (λ q. IsSoundStore q empty_hand) (sym made)
        (start_sound Q QH P PH K limits node_id p.spare_request_header p.spare_response_header fits);
    reached = subst (λ s. IsReached s) (sym view_then) (empty_hub_reached limits node_id fits);
    complete = subst (λ s. MessagesComplete s) (sym view_then) (empty_hub_complete Q QH P PH K limits node_id);
  }
