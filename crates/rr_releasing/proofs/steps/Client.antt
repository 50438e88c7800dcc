-- A client leaves: what stays true, and what contracts see.
use Rattle.std.proofs.Common.{◌≡◌, ◌<◌, ◌⊎◌, ℕ, Bool, true, false, List, [], Some, inl, inr, length, map, refl, sym, ap, ◌∙◌, arith}
use Rattle.std.specs.Prelude.{◌==◌, ◌&&◌, slice_get}
use Rattle.std.specs.List.{list_any}
use Rattle.std.proofs.lemmas.Bool.{eq-eqb}
use Rattle.rr_table.proofs.Members.{any_there}
use Rattle.rr_sender.specs.Senders.{borrowed_at, queue_at}
use Rattle.rr_protocol.specs.Releases.{after_client_left, room_for_expired_clients}
use Rattle.rr_store.specs.declared.details.RequestDetails.{RequestDetails}
use Rattle.rr_store.specs.declared.details.ResponseDetails.{ResponseDetails}
use Rattle.rr_store.specs.Draining.{AreApart, AreThere, HaveQueues, SendersDrained}
use Rattle.rr_store.specs.Emptying.{PartsEmptied, SendersEmptied}
use Rattle.rr_store.specs.Leaving.{IsUnusedClient, SendersCleared, SendersCut, is_client_used, is_of, leaving_client, outdated, without_client}
use Rattle.rr_store.specs.Parts.{ClientPart, Parts, Sender, ServerPart}
use Rattle.rr_store.specs.Sound.{IsSoundStore, empty_hand}
use Rattle.rr_store.specs.Views.{sender_of, state_of}
use Rattle.rr_store.proofs.base.frames.Emptied.{emptied_sound, emptied_view}
use Rattle.rr_store.proofs.base.views.Counts.{listed}
use Rattle.rr_releasing.proofs.laws.leaving.Cleared.{cleared_sound}
use Rattle.rr_releasing.proofs.laws.leaving.ClientGone.{client_gone_sound}
use Rattle.rr_releasing.proofs.laws.leaving.ClientView.{client_left_view}
use Rattle.rr_store.proofs.leaving.Drained.{drained_as, drained_middle}
use Rattle.rr_releasing.proofs.laws.leaving.InUse.{client_unused}

module _ {Q QH P PH K : Type 0} (p : Parts Q QH P PH K) (sound : IsSoundStore p empty_hand) where
  -- no two servers are one receiver
  pub servers_apart : AreApart (λ (s : ServerPart K). s.receiver) p.servers
  servers_apart i j s t at there same =
      sound.server_ports.receivers_once i j s.connected t.connected (listed (λ (s : ServerPart K). s.connected) p.servers i s at)
      (listed (λ (s : ServerPart K). s.connected) p.servers j t there) same

  -- each client's sender has queues to each server
  pub queues_to_servers : (i : ℕ) (s : ServerPart K) → slice_get p.servers i ≡ Some s → HaveQueues p.client_senders s.receiver
  queues_to_servers i s at l there = omega (
    arith,
    sound.server_ports.placed i s.connected (listed (λ (s : ServerPart K). s.connected) p.servers i s at),
    (sound.sized.client_senders l there).queues,
  )

  -- clients that left have senders, each its own
  pub left_there : AreThere p.client_senders p.left_clients
  left_there i l at = (sound.have_ports.left_clients.own i l at).0

  -- there is room to note that a client leaves
  pub room_left : (index : ℕ) → index < length p.clients → length p.left_clients < p.client_room
  room_left index there = omega (arith, sound.have_ports.client_room)

  module _ (index : ℕ) (c : ClientPart K) (at_c : slice_get p.clients index ≡ Some c) where
    here : slice_get (map (λ (c : ClientPart K). c.connected) p.clients) index ≡ Some c.connected
    here = listed (λ (c : ClientPart K). c.connected) p.clients index c at_c

    -- the client has a sender
    pub sender_there : c.sender < length p.client_senders
    sender_there = (sound.client_ports.own index c.connected here).0

    -- each server's sender has queues to it
    pub queues_to_client : HaveQueues p.server_senders c.receiver
    queues_to_client l there = omega (
      arith,
      sound.client_ports.placed index c.connected here,
      (sound.sized.server_senders l there).queues,
    )

    module _ (unused : is_client_used p c ≡ false) (client_senders : List (Sender Q RequestDetails QH))
        (server_senders : List (Sender P ResponseDetails PH))
        (requests : SendersDrained (λ l r. list_any (λ (s : ServerPart K). s.receiver == r) p.servers && is_of
        (outdated p.client_senders p.left_clients (room_for_expired_clients (state_of p)) (leaving_client c) r) l)
        p.client_senders client_senders)
        (responses : SendersDrained (λ l r. r == c.receiver) p.server_senders server_senders) where
      -- whether the queue from a sender to a receiver is cut
      abbrev cut : ℕ → ℕ → Bool
      cut l r = is_of (outdated p.client_senders p.left_clients (room_for_expired_clients (state_of p)) (leaving_client c) r) l

      -- nothing waits where no server is
      as_seen : (l r : ℕ) → ((list_any (λ (s : ServerPart K). s.receiver == r) p.servers && cut l r) ≡ cut l r)
          ⊎ ((channel : ℕ) → queue_at (sender_of l p.client_senders).messages r channel ≡ [])
      as_seen l r = go (list_any (λ (s : ServerPart K). s.receiver == r) p.servers) refl
        where
          go : (b : Bool) → list_any (λ (s : ServerPart K). s.receiver == r) p.servers ≡ b
              → ((b && cut l r) ≡ cut l r) ⊎ ((channel : ℕ) → queue_at (sender_of l p.client_senders).messages r channel ≡ [])
          go true e = inl refl
          go false e = inr (λ channel. (sound.vacated.of_servers l r channel (λ i s at same.
              let any = any_there (λ (s : ServerPart K). s.receiver == r) p.servers i s at (eq-eqb s.receiver r same) in
              let no : true ≡ false = sym any ∙ e in
              cc)).0)

      asked : (middle : List (Sender Q RequestDetails QH)) × SendersCut cut p.client_senders middle
          × SendersCleared p.client_senders middle × SendersEmptied middle client_senders
      asked = drained_middle cut p.client_senders client_senders
          (drained_as (λ l r. list_any (λ (s : ServerPart K). s.receiver == r) p.servers && cut l r) cut p.client_senders client_senders
          as_seen requests)

      answered : (middle : List (Sender P ResponseDetails PH)) × SendersCut (λ l r. r == c.receiver) p.server_senders middle
          × SendersCleared p.server_senders middle × SendersEmptied middle server_senders
      answered = drained_middle (λ l r. r == c.receiver) p.server_senders server_senders responses

      -- where no slot is emptied
      abbrev drained : Parts Q QH P PH K
      drained = record p { client_senders = asked.0; server_senders = answered.0 }

      drained_sound : IsSoundStore drained empty_hand
      drained_sound = cleared_sound p empty_hand sound asked.0 answered.0 asked.2 answered.2

      is_unused : IsUnusedClient drained c
      is_unused =
          let none = client_unused p c unused in
          record {
            loans = ap (λ (l : Sender Q RequestDetails QH). l.loans) (asked.1.rest c.sender) ∙ none.0;
            pendings = ap (λ (l : Sender Q RequestDetails QH). l.pendings) (asked.1.rest c.sender) ∙ none.1;
            received = λ l channel. ap (λ (l : Sender P ResponseDetails PH). borrowed_at l.messages c.receiver channel)
                (answered.1.rest l) ∙ none.2 l channel;
            waits = λ l channel. answered.1.queues l c.receiver channel
                ∙ rw (eq-eqb c.receiver c.receiver refl) refl;
          }

      abbrev before : Parts Q QH P PH K
      before = without_client drained index c

      before_sound : IsSoundStore before empty_hand
      before_sound = client_gone_sound drained drained_sound index c at_c is_unused

      -- and where some may be
      abbrev pub after : Parts Q QH P PH K
      after = without_client (record p { client_senders = client_senders; server_senders = server_senders }) index c

      emptied : PartsEmptied before after
      emptied = record { rest = refl; client_senders = asked.3; server_senders = answered.3 }

      pub left_sound : IsSoundStore after empty_hand
      left_sound = emptied_sound before after emptied empty_hand before_sound

      pub left_view : state_of after ≡ after_client_left (state_of p) c.port.id
      left_view = emptied_view before after emptied empty_hand before_sound
          ∙ client_left_view p sound index c at_c asked.0 answered.0 asked.1 answered.1
