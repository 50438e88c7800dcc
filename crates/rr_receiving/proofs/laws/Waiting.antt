-- Something waits for a port where some sender has an entry for it.
use Rattle.std.proofs.Common.{◌≡◌, ◌<◌, ℕ, Bool, true, false, List, [], Some, length, nat_lt, refl, sym, ap, ◌∙◌}
use Rattle.std.specs.Prelude.{◌↔◌, IsTrue, slice_get}
use Rattle.std.proofs.lemmas.Bool.{false≢true, lt-ltb, ltb-true}
use Rattle.std.proofs.lemmas.Option.{get_or_from_slice_get, slice_get-get_or, slice_get_within}
use Rattle.rr_table.proofs.Members.{any_gives, any_there}
use Rattle.rr_sender.specs.Senders.{queue_at}
use Rattle.rr_protocol.specs.Lists.{at}
use Rattle.rr_protocol.specs.Messages.{response_key}
use Rattle.rr_protocol.specs.Queries.{HasRequests, HasResponse}
use Rattle.rr_store.specs.Parts.{ClientPart, Parts, Sender, ServerPart}
use Rattle.rr_store.specs.Receiving.{queue_from}
use Rattle.rr_store.specs.Sound.{IsSoundStore, empty_hand}
use Rattle.rr_store.specs.Views.{no_sender, request_in_slot, response_in_slot, sender_of, state_of}
use Rattle.rr_store.specs.Waiting.{has_entry}
use Rattle.rr_store.proofs.receiving.NextSender.{empty_of, some_of}
use Rattle.rr_receiving.proofs.laws.request.Refusals as of_requests
use Rattle.rr_receiving.proofs.laws.response.Refusals as of_responses
use Rattle.rr_receiving.proofs.laws.response.Refusals.{map_some}

module _ {T N H : Type 0} (senders : List (Sender T N H)) (receiver channel : ℕ) where
  abbrev holds : Sender T N H → Bool
  holds l = nat_lt 0 (length (queue_at l.messages receiver channel))

  -- a sender with an entry
  pub with_entry : has_entry receiver channel senders ≡ true
      → (sender : ℕ) × (sender < length senders) × (0 < length (queue_from senders receiver channel sender))
  with_entry some =
      let found = any_gives holds senders some in
      let is : sender_of found.0 senders ≡ found.1 = get_or_from_slice_get senders found.0 found.1 no_sender found.2 in (
        found.0,
        slice_get_within senders found.0 found.1 found.2,
        ltb-true 0 (length (queue_from senders receiver channel found.0)) (ap holds is ∙ found.3),
      )

  -- where there is none, each queue is empty
  pub without_entry : has_entry receiver channel senders ≡ false → (sender : ℕ) → sender < length senders
      → queue_from senders receiver channel sender ≡ []
  without_entry none sender there =
      empty_of (queue_from senders receiver channel sender)
      (λ h. false≢true (sym none ∙ any_there holds senders sender (sender_of sender senders)
      (slice_get-get_or senders sender no_sender there) (lt-ltb 0 (length (queue_from senders receiver channel sender)) h)))

-- what is told where something is there, and where nothing is
decide : {R : Type 0} (told entry : Bool) → told ≡ entry → (entry ≡ true → R) → (entry ≡ false → R → ⊥) → IsTrue told ↔ R
decide told true is some none = (λ h. some refl, λ r. is)
decide told false is some none = (λ h. absurd (false≢true (sym is ∙ h)), λ r. absurd (none refl r))

module _ {Q QH P PH K : Type 0} (p : Parts Q QH P PH K) (sound : IsSoundStore p empty_hand) where
  -- requests wait for a server
  pub requests_wait : (index : ℕ) (c : ServerPart K) → slice_get p.servers index ≡ Some c → (told : Bool)
      → told ≡ has_entry c.receiver 0 p.client_senders → IsTrue told ↔ HasRequests (state_of p) c.port.id
  requests_wait index c at_c told is =
      decide told (has_entry c.receiver 0 p.client_senders) is
      (λ some. let e = with_entry p.client_senders c.receiver 0 some in (
        (sender_of e.0 p.client_senders).owner,
        (λ none. map_some (request_in_slot p.spare_request_header (sender_of e.0 p.client_senders).messages)
            (queue_from p.client_senders c.receiver 0 e.0) (some_of (queue_from p.client_senders c.receiver 0 e.0) e.2)
            (sym (of_requests.shown_from p sound index c at_c e.0 e.1) ∙ none)),
      ))
      (λ none has. has.1 (of_requests.all_empty p sound index c at_c (without_entry p.client_senders c.receiver 0 none) has.0))

  -- responses wait for a pending response of a client
  pub responses_wait : (index : ℕ) (c : ClientPart K) → slice_get p.clients index ≡ Some c → (channel n : ℕ)
      → (asks : of_responses.IsAsking p n index channel c) → (told : Bool) → told ≡ has_entry c.receiver channel p.server_senders
      → IsTrue told ↔ HasResponse (state_of p) asks.pending
  responses_wait index c at_c channel n asks told is =
      decide told (has_entry c.receiver channel p.server_senders) is
      (λ some. let e = with_entry p.server_senders c.receiver channel some in (
        (sender_of e.0 p.server_senders).owner,
        (λ none. map_some (response_in_slot p.spare_response_header (sender_of e.0 p.server_senders).messages)
            (queue_from p.server_senders c.receiver channel e.0) (some_of (queue_from p.server_senders c.receiver channel e.0) e.2)
            (sym (of_responses.shown_from p sound index c at_c channel e.0 e.1)
            ∙ ap (at (state_of p).responses) (keys (sender_of e.0 p.server_senders).owner) ∙ none)),
      ))
      (λ none has. has.1 (ap (at (state_of p).responses) (sym (keys has.0))
      ∙ of_responses.all_empty p sound index c at_c channel (without_entry p.server_senders c.receiver channel none) has.0))
    where
      keys : (server : ℕ) → of_responses.from p sound index c at_c channel server ≡ response_key asks.pending server
      keys = of_responses.keys p sound index c at_c channel n asks.pending asks.seen asks.its_client asks.its_channel (state_of p) refl
