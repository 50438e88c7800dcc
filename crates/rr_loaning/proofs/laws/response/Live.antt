-- A server has as many live responses as slots of its sender are in use.
use Rattle.std.proofs.Common.{◌≡◌, ◌<◌, ℕ, Bool, false, Some, length, refl}
use Rattle.std.specs.Prelude.{◌&&◌, slice_get}
use Rattle.std.specs.Option.{option_map_or}
use Rattle.rr_sender.specs.Senders.{Messages, used_count}
use Rattle.rr_protocol.specs.Keys.{ResponseKey}
use Rattle.rr_protocol.specs.Messages.{ResponseMessage, response_in}
use Rattle.rr_protocol.specs.Counts.{live_responses}
use Rattle.rr_protocol.proofs.KeyLaws.{response_keys_total}
use Rattle.rr_store.specs.declared.handle_entry.Stage.{Stage}
use Rattle.rr_store.specs.declared.handle_entry.Stage.TheVariants as stage
use Rattle.rr_store.specs.declared.details.ResponseDetails.{ResponseDetails}
use Rattle.rr_store.specs.Parts.{Parts, ClientPart, ServerPart}
use Rattle.rr_store.specs.Views.{sender_of, state_of, response_in_slot, response_at, handle_in}
use Rattle.rr_store.specs.Sound.{IsSoundStore, empty_hand, is_of_response}
use Rattle.rr_store.proofs.base.hands.Stages.{handle_uses_response}
use Rattle.rr_store.proofs.base.senders.Entries.{used_inside}
use Rattle.rr_store.proofs.base.senders.Numbered.{numbered_once}
use Rattle.rr_store.proofs.base.views.Counts.{listed}
use Rattle.rr_store.proofs.base.views.Keyed.{at_responses}
use Rattle.rr_loaning.proofs.laws.Live.{live_used}

module _ {Q QH P PH K : Type 0} (p : Parts Q QH P PH K) where
  -- a test of the response in a handle
  pub any_response : (t : ResponseMessage P PH → Bool) (g : Stage) (sender slot : ℕ)
      → option_map_or t (response_in (handle_in p g sender slot)) false ≡ (is_of_response g && t (response_at p sender slot))
  any_response t stage.RequestMutUninit sender slot = refl
  any_response t stage.RequestMut sender slot = refl
  any_response t (stage.PendingResponse hint connections) sender slot = refl
  any_response t (stage.ActiveRequest server loans) sender slot = refl
  any_response t stage.ResponseMutUninit sender slot = refl
  any_response t stage.ResponseMut sender slot = refl
  any_response t stage.Response sender slot = refl

  module _ (sound : IsSoundStore p empty_hand) (index : ℕ) (c : ServerPart K) (at : slice_get p.servers index ≡ Some c) where
    abbrev m : Messages P ResponseDetails PH
    m = (sender_of c.sender p.server_senders).messages

    own : (c.sender < length p.server_senders) × ((sender_of c.sender p.server_senders).owner ≡ c.port.id)
        × (length m.held ≡ c.port.pool_size) × (m.room ≡ c.port.initial_max_slice_len)
    own = sound.server_ports.own index c.connected (listed (λ c. c.connected) p.servers index c at)

    -- as many live responses as used slots
    pub live_responses_used : live_responses (state_of p) c.port.id ≡ used_count m
    live_responses_used =
        live_used p (response_in_slot p.spare_response_header) p.server_senders (λ (s : ClientPart K). s.connected) p.clients
        (λ message. message.number) (λ message. message.server) is_of_response response_in response_keys_total (state_of p).responses
        c.connected
        (record {
          any = any_response;
          counted = sound.counted.responses;
          in_use = handle_uses_response p empty_hand sound.counted;
          addressed = sound.addressed.responses;
          apart = sound.numbered.responses_apart;
          within = own.0;
          owner = own.1;
          owned_once = sound.server_ports.owned_once;
          inside = used_inside m (sound.sized.server_senders c.sender own.0);
          numbered_once = numbered_once sound.client_ports;
          vacated = sound.vacated.of_clients c.sender;
          at_key = λ key. (key.server, key.client, key.channel, at_responses p key);
          key_of = λ j s there channel i waits.
              let key : ResponseKey = record { server = c.port.id; client = s.port.id; channel = channel } in (key, at_responses p key);
        })
