-- A client has as many live requests as slots of its sender are in use.
use Rattle.std.proofs.Common.{◌≡◌, ◌<◌, ℕ, Bool, false, Some, length, refl, ap, arith}
use Rattle.std.specs.Prelude.{◌&&◌, slice_get}
use Rattle.std.specs.Option.{option_map_or}
use Rattle.rr_sender.specs.Senders.{Messages, times, queue_at, used_count}
use Rattle.rr_protocol.specs.Keys.{request_key}
use Rattle.rr_protocol.specs.Messages.{RequestMessage, request_in}
use Rattle.rr_protocol.specs.Counts.{live_requests}
use Rattle.rr_protocol.proofs.KeyLaws.{request_keys_total}
use Rattle.rr_store.specs.declared.handle_entry.Stage.{Stage}
use Rattle.rr_store.specs.declared.handle_entry.Stage.TheVariants as stage
use Rattle.rr_store.specs.declared.details.RequestDetails.{RequestDetails}
use Rattle.rr_store.specs.Parts.{Parts, ClientPart, ServerPart}
use Rattle.rr_store.specs.Views.{sender_of, state_of, request_in_slot, request_at, handle_in}
use Rattle.rr_store.specs.Sound.{IsSoundStore, IsShaped, empty_hand, is_of_request}
use Rattle.rr_store.proofs.base.hands.Stages.{handle_uses_request}
use Rattle.rr_store.proofs.base.senders.Entries.{used_inside}
use Rattle.rr_store.proofs.base.senders.Numbered.{numbered_once}
use Rattle.rr_store.proofs.base.views.Counts.{listed}
use Rattle.rr_store.proofs.base.views.Keyed.{at_requests, queue_within}
use Rattle.rr_loaning.proofs.laws.Live.{live_used}

module _ {Q QH P PH K : Type 0} (p : Parts Q QH P PH K) where
  -- a test of the request in a handle
  pub any_request : (t : RequestMessage Q QH → Bool) (g : Stage) (sender slot : ℕ)
      → option_map_or t (request_in (handle_in p g sender slot)) false ≡ (is_of_request g && t (request_at p sender slot))
  any_request t stage.RequestMutUninit sender slot = refl
  any_request t stage.RequestMut sender slot = refl
  any_request t (stage.PendingResponse hint connections) sender slot = refl
  any_request t (stage.ActiveRequest server loans) sender slot = refl
  any_request t stage.ResponseMutUninit sender slot = refl
  any_request t stage.ResponseMut sender slot = refl
  any_request t stage.Response sender slot = refl

  module _ (sound : IsSoundStore p empty_hand) (index : ℕ) (c : ClientPart K) (at : slice_get p.clients index ≡ Some c) where
    abbrev m : Messages Q RequestDetails QH
    m = (sender_of c.sender p.client_senders).messages

    own : (c.sender < length p.client_senders) × ((sender_of c.sender p.client_senders).owner ≡ c.port.id)
        × (length m.held ≡ c.port.pool_size) × (m.room ≡ c.port.initial_max_slice_len)
    own = sound.client_ports.own index c.connected (listed (λ c. c.connected) p.clients index c at)

    shaped : IsShaped p.limits.max_servers 1 p.limits.max_active_requests_per_client m
    shaped = sound.sized.client_senders c.sender own.0

    -- requests wait on channel 0
    only_channel : (j : ℕ) (s : ServerPart K) → slice_get p.servers j ≡ Some s → (channel i : ℕ)
        → 0 < times i (queue_at m s.receiver channel) → channel ≡ 0
    only_channel j s there channel i waits =
        omega (
          arith,
          queue_within m.queues s.receiver channel (λ none. absurd (omega (arith, waits, ap (times i) none))),
          shaped.queue_channels s.receiver (sound.server_ports.placed j s.connected (listed (λ s. s.connected) p.servers j s there)),
        )

    -- as many live requests as used slots
    pub live_requests_used : live_requests (state_of p) c.port.id ≡ used_count m
    live_requests_used =
        live_used p (request_in_slot p.spare_request_header) p.client_senders (λ (s : ServerPart K). s.connected) p.servers
        (λ message. message.number) (λ message. message.client) is_of_request request_in request_keys_total (state_of p).requests
        c.connected
        (record {
          any = any_request;
          counted = sound.counted.requests;
          in_use = handle_uses_request p empty_hand sound.counted;
          addressed = sound.addressed.requests;
          apart = sound.numbered.requests_apart;
          within = own.0;
          owner = own.1;
          owned_once = sound.client_ports.owned_once;
          inside = used_inside m shaped;
          numbered_once = numbered_once sound.server_ports;
          vacated = sound.vacated.of_servers c.sender;
          at_key = λ key. (key.client, key.server, 0, at_requests p key);
          key_of = λ j s there channel i waits. (
            request_key c.port.id s.port.id,
            rw (only_channel j s there channel i waits) (at_requests p (request_key c.port.id s.port.id)),
          );
        })
