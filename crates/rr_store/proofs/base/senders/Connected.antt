-- Which receivers connected ports are, and that each sender of the other side has queues for them.
use Rattle.std.proofs.Common.{◌≡◌, ◌<◌, ℕ, List, Option, None, Some, map, refl, sym, ap, ◌∙◌, ⊎_elim, arith}
use Rattle.std.specs.Prelude.{◌==◌, slice_get, find}
use Rattle.std.specs.Option.{option_map_or}
use Rattle.std.proofs.lemmas.Bool.{cases_eq, eq-eqb, eqb-true, ne_eqb}
use Rattle.rr_store.specs.Draining.{HaveQueues}
use Rattle.rr_store.specs.Parts.{Parts, Sender, ServerPart, ClientPart}
use Rattle.rr_store.specs.Sound.{IsSoundStore, empty_hand, server_place, Hand}
use Rattle.rr_store.proofs.base.lists.Found.{found_passes, found_somewhere}
use Rattle.rr_store.proofs.base.views.Counts.{listed}
use Rattle.rr_store.proofs.base.senders.Numbered.{numbered_once}
use Rattle.rr_protocol.specs.Lists.{at}
use Rattle.rr_protocol.specs.Limits.{worst_case_requests}
use Rattle.rr_store.specs.Receiving.{HaveChannels, Reaches}

module _ {Q QH P PH K : Type 0} (p : Parts Q QH P PH K) (hand : Hand) (sound : IsSoundStore p hand) where
  -- servers have receivers and numbers of their own
  pub servers_placed : (i : ℕ) (s : ServerPart K) → slice_get p.servers i ≡ Some s → s.receiver < p.limits.max_servers
  servers_placed i s at = sound.server_ports.placed i s.connected (listed (λ (s : ServerPart K). s.connected) p.servers i s at)

module _ {Q QH P PH K : Type 0} (p : Parts Q QH P PH K) (sound : IsSoundStore p empty_hand) where
  -- a server with a receiver is connected
  pub server_placed : (server : ℕ) → server_place p server < p.limits.max_servers → (i : ℕ) × (s : ServerPart K)
      × (slice_get p.servers i ≡ Some s) × (s.port.id ≡ server) × (server_place p server ≡ s.receiver)
  server_placed server h = go (find (λ s. s.port.id == server) p.servers) refl h
    where
      go : (o : Option (ServerPart K)) → find (λ s. s.port.id == server) p.servers ≡ o
          → option_map_or (λ s. s.receiver) o p.limits.max_servers < p.limits.max_servers
          → (i : ℕ) × (s : ServerPart K) × (slice_get p.servers i ≡ Some s) × (s.port.id ≡ server) × (server_place p server ≡ s.receiver)
      go None e h = absurd (omega (arith, h))
      go (Some s) e h =
          let f = found_somewhere (λ s. s.port.id == server) p.servers s e in (
            f.0,
            s,
            f.1,
            eqb-true _ _ (found_passes (λ s. s.port.id == server) p.servers s e),
            ap (λ o. option_map_or (λ s. s.receiver) o p.limits.max_servers) e,
          )

  -- a connected server is the one that is its receiver
  pub server_is : (server : ℕ) → server_place p server < p.limits.max_servers → (i : ℕ) (d : ServerPart K) → slice_get p.servers i ≡ Some d
      → (server_place p server == d.receiver) ≡ (d.port.id == server)
  server_is server h i d e =
      let f = server_placed server h in
      let l : (j : ℕ) (b : ServerPart K) → slice_get p.servers j ≡ Some b
      → slice_get (map (λ c. c.connected) p.servers) j ≡ Some b.connected = λ j b g. listed (λ c. c.connected) p.servers j b g in
      ⊎_elim
      (λ is. let same : f.1 ≡ d = let g : Some f.1 ≡ Some d = sym f.2 ∙ ap (slice_get p.servers) (sym is) ∙ e in cc in
      eq-eqb (server_place p server) d.receiver (f.4 ∙ ap (λ (d : ServerPart K). d.receiver) same)
      ∙ sym (eq-eqb d.port.id server (sym (ap (λ (d : ServerPart K). d.port.id) same) ∙ f.3)))
      (λ n.
      ne_eqb (server_place p server) d.receiver (λ g. n (sound.server_ports.receivers_once i f.0 d.connected f.1.connected (l i d e)
      (l f.0 f.1 f.2) (sym g ∙ f.4)))
      ∙ sym (ne_eqb d.port.id server (λ g. n (numbered_once sound.server_ports i f.0 d.connected f.1.connected (l i d e) (l f.0 f.1 f.2)
      (g ∙ sym f.3)))))
      (cases_eq i f.0)

  -- two servers of one receiver, which one of them has, are one
  pub servers_apart : (server other : ℕ) → server_place p server < p.limits.max_servers
      → (server == other) ≡ (server_place p server == server_place p other)
  servers_apart server other h =
      ⊎_elim
      (λ e. eq-eqb server other e ∙ sym (eq-eqb (server_place p server) (server_place p other) (ap (server_place p) e)))
      (λ n. ne_eqb server other n ∙ sym (ne_eqb (server_place p server) (server_place p other) (λ g.
      let f = server_placed server h in
      let o = server_placed other (omega (arith, h, g)) in
      let l : (j : ℕ) (b : ServerPart K) → slice_get p.servers j ≡ Some b
      → slice_get (map (λ c. c.connected) p.servers) j ≡ Some b.connected = λ j b g. listed (λ c. c.connected) p.servers j b g in
      let at : f.0 ≡ o.0 = sound.server_ports.receivers_once f.0 o.0 f.1.connected o.1.connected (l f.0 f.1 f.2) (l o.0 o.1 o.2)
      (sym f.4 ∙ g ∙ o.4) in
      let same : f.1 ≡ o.1 = let e : Some f.1 ≡ Some o.1 = sym f.2 ∙ ap (slice_get p.servers) at ∙ o.2 in cc in
      n (sym f.3 ∙ ap (λ (d : ServerPart K). d.port.id) same ∙ o.3))))
      (cases_eq server other)

  -- each server's sender has a queue for it
  pub reaches : (index : ℕ) (c : ClientPart K) → slice_get p.clients index ≡ Some c → (channel : ℕ) → channel < worst_case_requests p.limits
      → Reaches p.server_senders c.receiver channel
  reaches index c at channel inside sender there =
      let shaped = sound.sized.server_senders sender there in
      let placed = sound.client_ports.placed index c.connected (listed (λ (c : ClientPart K). c.connected) p.clients index c at) in
      (omega (arith, placed, shaped.queues), omega (arith, inside, shaped.queue_channels c.receiver placed))

-- senders that have queues to a receiver, with a channel, reach it on that channel
pub reaches_both : {T N H : Type 0} (senders : List (Sender T N H)) (receiver channel : ℕ) → HaveQueues senders receiver
    → HaveChannels senders receiver channel → Reaches senders receiver channel
reaches_both senders receiver channel there wide sender inside = (there sender inside, wide sender inside)

-- and those that reach it have both
pub reached_apart : {T N H : Type 0} (senders : List (Sender T N H)) (receiver channel : ℕ) → Reaches senders receiver channel
    → HaveQueues senders receiver × HaveChannels senders receiver channel
reached_apart senders receiver channel reach = (λ sender inside. (reach sender inside).0, λ sender inside. (reach sender inside).1)
