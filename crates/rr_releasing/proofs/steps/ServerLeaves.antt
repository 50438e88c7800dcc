-- A server leaves, step by step.
use Rattle.std.proofs.Common.{◌≡◌, ◌<◌, ℕ, false, Some, length, sym, ap, ◌∙◌, subst, arith}
use Rattle.std.specs.Prelude.{◌==◌, ◌&&◌, IsSomeAnd, slice_get}
use Rattle.std.specs.List.{list_any}
use Rattle.rr_protocol.specs.Releases.{after_server_left}
use Rattle.rr_laws.proofs.Opening.{some_and}
use Rattle.rr_store.specs.declared.port.LeftPort.{LeftPort}
use Rattle.rr_store.specs.Draining.{HaveQueues, SendersDrained}
use Rattle.rr_store.specs.Leaving.{is_server_used, is_of, leaving_server, outdated, without_server}
use Rattle.rr_store.specs.Parts.{ClientPart, Parts, ServerPart}
use Rattle.rr_store.specs.Sound.{IsSoundStore, empty_hand}
use Rattle.rr_store.specs.Views.{state_of}
use Rattle.rr_releasing.proofs.steps.Server.{after, left_sound, left_view, queues_to_server, sender_there}

module _ {Q QH P PH K : Type 0} (p : Parts Q QH P PH K) (sound : IsSoundStore p empty_hand) (index : ℕ)
    (unused : IsSomeAnd (slice_get p.servers index) (λ s. is_server_used p s ≡ false)) where
  it : (s : ServerPart K) × (slice_get p.servers index ≡ Some s) × (is_server_used p s ≡ false)
  it = some_and (slice_get p.servers index) (λ s. is_server_used p s ≡ false) unused

  -- what is told of the server at the index
  told_of : (q : Parts Q QH P PH K) → q.servers ≡ p.servers → (R : ServerPart K → Type 0) → IsSomeAnd (slice_get q.servers index) R → R it.0
  told_of q same R told = subst (λ o. IsSomeAnd o R) (ap (λ xs. slice_get xs index) same ∙ it.1) told

  module _ (leaving : LeftPort) (is : IsSomeAnd (slice_get p.servers index) (λ s. leaving ≡ leaving_server s)) where
    leaving_is : leaving ≡ leaving_server it.0
    leaving_is = told_of p (λ i. p.servers) (λ s. leaving ≡ leaving_server s) is

    pub leaving_asked : leaving.sender < length p.server_senders
    leaving_asked = omega (arith, sender_there p sound index it.0 it.1, ap (λ (l : LeftPort). l.sender) leaving_is)

    module _ (receiver : ℕ) (its : IsSomeAnd (slice_get p.servers index) (λ s. receiver ≡ s.receiver)) (room : ℕ)
        (room_is : room ≡ p.limits.client_expired_connection_buffer)
        (q : Parts Q QH P PH K) (q_rest : q ≡ record p { server_senders = q.server_senders })
        (q_drained : SendersDrained (λ l r. list_any (λ (c : ClientPart K). c.receiver == r) p.clients && is_of
        (outdated p.server_senders p.left_servers room leaving r) l) p.server_senders q.server_senders) where
      receiver_is : receiver ≡ it.0.receiver
      receiver_is = told_of p (λ i. p.servers) (λ s. receiver ≡ s.receiver) its

      pub queues_asked : HaveQueues q.client_senders receiver
      queues_asked =
          subst (λ (q : Parts Q QH P PH K). HaveQueues q.client_senders receiver) (sym q_rest)
          (subst (HaveQueues p.client_senders) (sym receiver_is) (queues_to_server p sound index it.0 it.1))

      module _ (r : Parts Q QH P PH K) (r_rest : r ≡ record q { client_senders = r.client_senders })
          (r_drained : SendersDrained (λ l x. x == receiver) q.client_senders r.client_senders)
          (t : Parts Q QH P PH K) (removed : IsSomeAnd (slice_get r.servers index) (λ s. t ≡ without_server r index s)) where
        r_is : r ≡ record p { server_senders = q.server_senders; client_senders = r.client_senders }
        r_is = r_rest ∙ ap (λ (q : Parts Q QH P PH K). record q { client_senders = r.client_senders }) q_rest

        -- the senders lost what the machine says
        expired : SendersDrained (λ l x. list_any (λ (c : ClientPart K). c.receiver == x) p.clients && is_of
            (outdated p.server_senders p.left_servers (p.limits.client_expired_connection_buffer) (leaving_server it.0) x) l)
            p.server_senders q.server_senders
        expired =
            subst (λ n. SendersDrained (λ l x. list_any (λ (c : ClientPart K). c.receiver == x) p.clients && is_of
            (outdated p.server_senders p.left_servers n (leaving_server it.0) x) l) p.server_senders q.server_senders) room_is
            (subst (λ (port : LeftPort). SendersDrained (λ l x. list_any (λ (c : ClientPart K). c.receiver == x) p.clients && is_of
            (outdated p.server_senders p.left_servers room port x) l) p.server_senders q.server_senders) leaving_is q_drained)

        dropped : SendersDrained (λ l x. x == it.0.receiver) p.client_senders r.client_senders
        dropped =
            subst (λ n. SendersDrained (λ l x. x == n) p.client_senders r.client_senders) receiver_is
            (subst (λ (q : Parts Q QH P PH K). SendersDrained (λ l x. x == receiver) q.client_senders r.client_senders) q_rest r_drained)

        t_is : t ≡ after p sound index it.0 it.1 it.2 q.server_senders r.client_senders expired dropped
        t_is =
            told_of r (ap (λ (r : Parts Q QH P PH K). r.servers) r_is) (λ s. t ≡ without_server r index s) removed
            ∙ ap (λ (r : Parts Q QH P PH K). without_server r index it.0) r_is

        pub sound_then : IsSoundStore t empty_hand
        sound_then = subst (λ q. IsSoundStore q empty_hand) (sym t_is)
            (left_sound p sound index it.0 it.1 it.2 q.server_senders r.client_senders expired dropped)

        pub view_then : IsSomeAnd (slice_get p.servers index) (λ s. state_of t ≡ after_server_left (state_of p) s.port.id)
        view_then = subst (λ o. IsSomeAnd o (λ s. state_of t ≡ after_server_left (state_of p) s.port.id)) (sym it.1)
            (ap state_of t_is ∙ left_view p sound index it.0 it.1 it.2 q.server_senders r.client_senders expired dropped)
