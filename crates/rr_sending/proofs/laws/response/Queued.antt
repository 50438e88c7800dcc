-- What waits in the queue from a sender of a server to a client's channel.
use Rattle.std.proofs.Common.{◌≡◌, ◌<◌, ℕ, Some, length, map, refl, ap, ◌∙◌}
use Rattle.std.specs.Prelude.{◌==◌, slice_get, find}
use Rattle.std.proofs.lemmas.Bool.{eq-eqb, eqb-true}
use Rattle.std.proofs.lemmas.Option.{slice_get-get_or, get_or_from_slice_get, slice_get_within}
use Rattle.rr_sender.specs.Senders.{queue_at}
use Rattle.rr_protocol.specs.Lists.{at}
use Rattle.rr_store.specs.declared.details.ResponseDetails.{ResponseDetails}
use Rattle.rr_store.specs.Parts.{Parts, ClientPart, Sender}
use Rattle.rr_store.specs.Views.{no_sender, sender_of, state_of, response_in_slot}
use Rattle.rr_store.specs.Sound.{IsSoundStore, Hand}
use Rattle.rr_store.proofs.base.senders.Entries.{found_alone}
use Rattle.rr_store.proofs.base.views.Counts.{listed}
use Rattle.rr_store.proofs.base.views.Keyed.{at_responses}
use Rattle.rr_store.proofs.base.senders.Numbered.{numbered_once}

module _ {Q QH P PH K : Type 0} (p : Parts Q QH P PH K) (hand : Hand) (sound : IsSoundStore p hand) where
  -- a client that stands at an index is the one with its number
  pub client_alone : (i : ℕ) (c : ClientPart K) → slice_get p.clients i ≡ Some c → find (λ d. d.port.id == c.port.id) p.clients ≡ Some c
  client_alone i c at =
      found_alone (λ (d : ClientPart K). d.port.id == c.port.id) p.clients i c at (eq-eqb c.port.id c.port.id refl)
      (λ j d e same. numbered_once sound.client_ports j i d.connected c.connected
      (listed (λ (c : ClientPart K). c.connected) p.clients j d e)
      (listed (λ (c : ClientPart K). c.connected) p.clients i c at) (eqb-true d.port.id c.port.id same))

  -- a sender of servers is the one with its owner
  pub sender_alone : (sender : ℕ) → sender < length p.server_senders
      → find (λ l. l.owner == (sender_of sender p.server_senders).owner) p.server_senders ≡ Some (sender_of sender p.server_senders)
  sender_alone sender there =
      found_alone (λ (l : Sender P ResponseDetails PH). l.owner == (sender_of sender p.server_senders).owner) p.server_senders sender
      (sender_of sender p.server_senders) (slice_get-get_or p.server_senders sender no_sender there)
      (eq-eqb (sender_of sender p.server_senders).owner (sender_of sender p.server_senders).owner refl)
      (λ k l e same. sound.server_ports.owned_once k sender (slice_get_within p.server_senders k l e) there
      (ap (λ (l : Sender P ResponseDetails PH). l.owner) (get_or_from_slice_get p.server_senders k l no_sender e)
      ∙ eqb-true l.owner (sender_of sender p.server_senders).owner same))

  -- what contracts see of the queue
  pub queued : (sender : ℕ) → sender < length p.server_senders → (i : ℕ) (c : ClientPart K) → slice_get p.clients i ≡ Some c → (channel : ℕ)
      → at (state_of p).responses (record { server = (sender_of sender p.server_senders).owner; client = c.port.id; channel = channel })
      ≡ map (response_in_slot p.spare_response_header (sender_of sender p.server_senders).messages)
      (queue_at (sender_of sender p.server_senders).messages c.receiver channel)
  queued sender there i c at channel =
      at_responses p (record { server = (sender_of sender p.server_senders).owner; client = c.port.id; channel = channel })
      ∙ (rw (client_alone i c at) (rw (sender_alone sender there) refl))
