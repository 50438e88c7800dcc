-- A client leaves, step by step.
use Rattle.std.proofs.Common.{◌≡◌, ◌<◌, ℕ, false, Some, length, sym, ap, ◌∙◌, subst, arith}
use Rattle.std.specs.Prelude.{◌==◌, ◌&&◌, IsSomeAnd, slice_get}
use Rattle.std.specs.List.{list_any}
use Rattle.rr_protocol.specs.Releases.{after_client_left, room_for_expired_clients}
use Rattle.rr_laws.proofs.Opening.{some_and}
use Rattle.rr_store.specs.declared.port.LeftPort.{LeftPort}
use Rattle.rr_store.specs.Draining.{HaveQueues, SendersDrained}
use Rattle.rr_store.specs.Leaving.{is_client_used, is_of, leaving_client, outdated, without_client}
use Rattle.rr_store.specs.Parts.{ClientPart, Parts, ServerPart}
use Rattle.rr_store.specs.Sound.{IsSoundStore, empty_hand}
use Rattle.rr_store.specs.Views.{state_of}
use Rattle.rr_releasing.proofs.steps.Client.{after, left_sound, left_view, queues_to_client, sender_there}

module _ {Q QH P PH K : Type 0} (p : Parts Q QH P PH K) (sound : IsSoundStore p empty_hand) (index : ℕ)
    (unused : IsSomeAnd (slice_get p.clients index) (λ c. is_client_used p c ≡ false)) where
  it : (c : ClientPart K) × (slice_get p.clients index ≡ Some c) × (is_client_used p c ≡ false)
  it = some_and (slice_get p.clients index) (λ c. is_client_used p c ≡ false) unused

  -- what is told of the client at the index
  told_of : (q : Parts Q QH P PH K) → q.clients ≡ p.clients → (R : ClientPart K → Type 0) → IsSomeAnd (slice_get q.clients index) R → R it.0
  told_of q same R told = subst (λ o. IsSomeAnd o R) (ap (λ xs. slice_get xs index) same ∙ it.1) told

  module _ (leaving : LeftPort) (is : IsSomeAnd (slice_get p.clients index) (λ c. leaving ≡ leaving_client c)) where
    leaving_is : leaving ≡ leaving_client it.0
    leaving_is = told_of p (λ i. p.clients) (λ c. leaving ≡ leaving_client c) is

    pub leaving_asked : leaving.sender < length p.client_senders
    leaving_asked = omega (arith, sender_there p sound index it.0 it.1, ap (λ (l : LeftPort). l.sender) leaving_is)

    module _ (receiver : ℕ) (its : IsSomeAnd (slice_get p.clients index) (λ c. receiver ≡ c.receiver)) (room : ℕ)
        (room_is : room ≡ room_for_expired_clients (state_of p))
        (q : Parts Q QH P PH K) (q_rest : q ≡ record p { client_senders = q.client_senders })
        (q_drained : SendersDrained (λ l r. list_any (λ (s : ServerPart K). s.receiver == r) p.servers && is_of
        (outdated p.client_senders p.left_clients room leaving r) l) p.client_senders q.client_senders) where
      receiver_is : receiver ≡ it.0.receiver
      receiver_is = told_of p (λ i. p.clients) (λ c. receiver ≡ c.receiver) its

      pub queues_asked : HaveQueues q.server_senders receiver
      queues_asked =
          subst (λ (q : Parts Q QH P PH K). HaveQueues q.server_senders receiver) (sym q_rest)
          (subst (HaveQueues p.server_senders) (sym receiver_is) (queues_to_client p sound index it.0 it.1))

      module _ (r : Parts Q QH P PH K) (r_rest : r ≡ record q { server_senders = r.server_senders })
          (r_drained : SendersDrained (λ l x. x == receiver) q.server_senders r.server_senders)
          (t : Parts Q QH P PH K) (removed : IsSomeAnd (slice_get r.clients index) (λ c. t ≡ without_client r index c)) where
        r_is : r ≡ record p { client_senders = q.client_senders; server_senders = r.server_senders }
        r_is = r_rest ∙ ap (λ (q : Parts Q QH P PH K). record q { server_senders = r.server_senders }) q_rest

        -- the senders lost what the machine says
        expired : SendersDrained (λ l x. list_any (λ (s : ServerPart K). s.receiver == x) p.servers && is_of
            (outdated p.client_senders p.left_clients (room_for_expired_clients (state_of p)) (leaving_client it.0) x) l)
            p.client_senders q.client_senders
        expired =
            subst (λ n. SendersDrained (λ l x. list_any (λ (s : ServerPart K). s.receiver == x) p.servers && is_of
            (outdated p.client_senders p.left_clients n (leaving_client it.0) x) l) p.client_senders q.client_senders) room_is
            (subst (λ (port : LeftPort). SendersDrained (λ l x. list_any (λ (s : ServerPart K). s.receiver == x) p.servers && is_of
            (outdated p.client_senders p.left_clients room port x) l) p.client_senders q.client_senders) leaving_is q_drained)

        dropped : SendersDrained (λ l x. x == it.0.receiver) p.server_senders r.server_senders
        dropped =
            subst (λ n. SendersDrained (λ l x. x == n) p.server_senders r.server_senders) receiver_is
            (subst (λ (q : Parts Q QH P PH K). SendersDrained (λ l x. x == receiver) q.server_senders r.server_senders) q_rest r_drained)

        t_is : t ≡ after p sound index it.0 it.1 it.2 q.client_senders r.server_senders expired dropped
        t_is =
            told_of r (ap (λ (r : Parts Q QH P PH K). r.clients) r_is) (λ c. t ≡ without_client r index c) removed
            ∙ ap (λ (r : Parts Q QH P PH K). without_client r index it.0) r_is

        pub sound_then : IsSoundStore t empty_hand
        sound_then = subst (λ q. IsSoundStore q empty_hand) (sym t_is)
            (left_sound p sound index it.0 it.1 it.2 q.client_senders r.server_senders expired dropped)

        pub view_then : IsSomeAnd (slice_get p.clients index) (λ c. state_of t ≡ after_client_left (state_of p) c.port.id)
        view_then = subst (λ o. IsSomeAnd o (λ c. state_of t ≡ after_client_left (state_of p) c.port.id)) (sym it.1)
            (ap state_of t_is ∙ left_view p sound index it.0 it.1 it.2 q.client_senders r.server_senders expired dropped)
