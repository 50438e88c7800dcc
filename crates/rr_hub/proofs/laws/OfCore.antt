-- What holds of the state of every core, from the invariant of its parts.
use Rattle.rr_hub.specs.Copies.{IsOfCore}
use Rattle.rr_store.specs.Parts.{Parts}
use Rattle.rr_store.specs.Reaching.{IsCore}
use Rattle.rr_store.specs.Views.{state_of}
use Rattle.rr_hub.proofs.laws.OneChannel.{one_channel, one_kind, one_number, own_number}
use Rattle.rr_hub.proofs.laws.OwnServer.{loans_keep_servers}

pub of_core : {Q QH P PH K : Type 0} (p : Parts Q QH P PH K) → IsCore p → IsOfCore (state_of p)
of_core p core = record {
  reached = core.reached;
  channels = one_channel p core.sound (own_number (state_of p) core.reached);
  servers = one_number p core.sound;
  kinds = one_kind p core.sound;
  loans = loans_keep_servers p core.sound;
}
