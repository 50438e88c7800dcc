-- A release is what goes with a handle, and then its port's leaving.
use Rattle.std.proofs.Common.{◌≡◌, ℕ, sym, ◌∙◌, subst}
use Rattle.rr_protocol.specs.Releases.{after_release, without_unused_port}
use Rattle.rr_laws.specs.Complete.{MessagesComplete}
use Rattle.rr_laws.specs.Reached.{IsReached}
use Rattle.rr_laws.proofs.CompleteReleases.{after_release_complete}
use Rattle.rr_laws.proofs.Leaving.{after_release_reached}
use Rattle.rr_store.specs.Parts.{Parts}
use Rattle.rr_store.specs.Reaching.{IsCore}
use Rattle.rr_store.specs.Releasing.{IsHandleGone}
use Rattle.rr_store.specs.Sound.{IsSoundStore, empty_hand}
use Rattle.rr_store.specs.Views.{state_of}
use Rattle.rr_releasing.proofs.laws.View.{release_from}

module _ {Q QH P PH K : Type 0} (p : Parts Q QH P PH K) (core : IsCore p) (n port : ℕ) (q : Parts Q QH P PH K)
    (gone : IsHandleGone (state_of p) n port (state_of q)) (t : Parts Q QH P PH K)
    (left : state_of t ≡ without_unused_port (state_of q) port) where
  -- what contracts see
  view_then : state_of t ≡ after_release (state_of p) n
  view_then = left ∙ sym (release_from (state_of p) (state_of q) n port gone)

  -- what is true
  core_then : IsSoundStore t empty_hand → IsCore t
  core_then sound = record {
    sound = sound;
    reached = subst (λ s. IsReached s) (sym view_then) (after_release_reached (state_of p) n core.reached);
    complete = subst (λ s. MessagesComplete s) (sym view_then) (after_release_complete (state_of p) n core.complete);
  }

  -- both
  pub released : IsSoundStore t empty_hand → IsCore t × (state_of t ≡ after_release (state_of p) n)
  released sound = (core_then sound, view_then)
