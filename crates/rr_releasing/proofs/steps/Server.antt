-- A server leaves: what stays true, and what contracts see.
use Rattle.std.proofs.Common.{◌≡◌, ◌<◌, ◌⊎◌, ℕ, Bool, true, false, List, [], Some, inl, inr, length, map, refl, sym, ap, ◌∙◌, arith}
use Rattle.std.specs.Prelude.{◌==◌, ◌&&◌, slice_get}
use Rattle.std.specs.List.{list_any}
use Rattle.std.proofs.lemmas.Bool.{eq-eqb}
use Rattle.rr_table.proofs.Members.{any_there}
use Rattle.rr_sender.specs.Senders.{borrowed_at, queue_at}
use Rattle.rr_protocol.specs.Releases.{after_server_left}
use Rattle.rr_store.specs.declared.details.ResponseDetails.{ResponseDetails}
use Rattle.rr_store.specs.declared.details.RequestDetails.{RequestDetails}
use Rattle.rr_store.specs.Draining.{AreApart, AreThere, HaveQueues, SendersDrained}
use Rattle.rr_store.specs.Emptying.{PartsEmptied, SendersEmptied}
use Rattle.rr_store.specs.Leaving.{IsUnusedServer, SendersCleared, SendersCut, is_server_used, is_of, leaving_server, outdated, without_server}
use Rattle.rr_store.specs.Parts.{ServerPart, Parts, Sender, ClientPart}
use Rattle.rr_store.specs.Sound.{IsSoundStore, empty_hand}
use Rattle.rr_store.specs.Views.{sender_of, state_of}
use Rattle.rr_store.proofs.base.frames.Emptied.{emptied_sound, emptied_view}
use Rattle.rr_store.proofs.base.views.Counts.{listed}
use Rattle.rr_releasing.proofs.laws.leaving.Cleared.{cleared_sound}
use Rattle.rr_releasing.proofs.laws.leaving.ServerGone.{server_gone_sound}
use Rattle.rr_releasing.proofs.laws.leaving.ServerView.{server_left_view}
use Rattle.rr_store.proofs.leaving.Drained.{drained_as, drained_middle}
use Rattle.rr_releasing.proofs.laws.leaving.InUse.{server_unused}

module _ {Q QH P PH K : Type 0} (p : Parts Q QH P PH K) (sound : IsSoundStore p empty_hand) where
  -- no two clients are one receiver
  pub clients_apart : AreApart (λ (c : ClientPart K). c.receiver) p.clients
  clients_apart i j c d at there same =
      sound.client_ports.receivers_once i j c.connected d.connected (listed (λ (c : ClientPart K). c.connected) p.clients i c at)
      (listed (λ (c : ClientPart K). c.connected) p.clients j d there) same

  -- each server's sender has queues to each client
  pub queues_to_clients : (i : ℕ) (c : ClientPart K) → slice_get p.clients i ≡ Some c → HaveQueues p.server_senders c.receiver
  queues_to_clients i c at l there = omega (
    arith,
    sound.client_ports.placed i c.connected (listed (λ (c : ClientPart K). c.connected) p.clients i c at),
    (sound.sized.server_senders l there).queues,
  )

  -- servers that left have senders, each its own
  pub left_there : AreThere p.server_senders p.left_servers
  left_there i l at = (sound.have_ports.left_servers.own i l at).0

  -- there is room to note that a server leaves
  pub room_left : (index : ℕ) → index < length p.servers → length p.left_servers < p.server_room
  room_left index there = omega (arith, sound.have_ports.server_room)

  module _ (index : ℕ) (s : ServerPart K) (at_s : slice_get p.servers index ≡ Some s) where
    here : slice_get (map (λ (s : ServerPart K). s.connected) p.servers) index ≡ Some s.connected
    here = listed (λ (s : ServerPart K). s.connected) p.servers index s at_s

    -- the server has a sender
    pub sender_there : s.sender < length p.server_senders
    sender_there = (sound.server_ports.own index s.connected here).0

    -- each client's sender has queues to it
    pub queues_to_server : HaveQueues p.client_senders s.receiver
    queues_to_server l there = omega (
      arith,
      sound.server_ports.placed index s.connected here,
      (sound.sized.client_senders l there).queues,
    )

    module _ (unused : is_server_used p s ≡ false) (server_senders : List (Sender P ResponseDetails PH))
        (client_senders : List (Sender Q RequestDetails QH))
        (responses : SendersDrained (λ l r. list_any (λ (c : ClientPart K). c.receiver == r) p.clients && is_of
        (outdated p.server_senders p.left_servers p.limits.client_expired_connection_buffer (leaving_server s) r) l)
        p.server_senders server_senders)
        (requests : SendersDrained (λ l r. r == s.receiver) p.client_senders client_senders) where
      -- whether the queue from a sender to a receiver is cut
      abbrev cut : ℕ → ℕ → Bool
      cut l r = is_of (outdated p.server_senders p.left_servers p.limits.client_expired_connection_buffer (leaving_server s) r) l

      -- nothing waits where no client is
      as_seen : (l r : ℕ) → ((list_any (λ (c : ClientPart K). c.receiver == r) p.clients && cut l r) ≡ cut l r)
          ⊎ ((channel : ℕ) → queue_at (sender_of l p.server_senders).messages r channel ≡ [])
      as_seen l r = go (list_any (λ (c : ClientPart K). c.receiver == r) p.clients) refl
        where
          go : (b : Bool) → list_any (λ (c : ClientPart K). c.receiver == r) p.clients ≡ b
              → ((b && cut l r) ≡ cut l r) ⊎ ((channel : ℕ) → queue_at (sender_of l p.server_senders).messages r channel ≡ [])
          go true e = inl refl
          go false e = inr (λ channel. (sound.vacated.of_clients l r channel (λ i c at same.
              let any = any_there (λ (c : ClientPart K). c.receiver == r) p.clients i c at (eq-eqb c.receiver r same) in
              let no : true ≡ false = sym any ∙ e in
              cc)).0)

      answered : (middle : List (Sender P ResponseDetails PH)) × SendersCut cut p.server_senders middle
          × SendersCleared p.server_senders middle × SendersEmptied middle server_senders
      answered = drained_middle cut p.server_senders server_senders
          (drained_as (λ l r. list_any (λ (c : ClientPart K). c.receiver == r) p.clients && cut l r) cut p.server_senders server_senders
          as_seen responses)

      asked : (middle : List (Sender Q RequestDetails QH)) × SendersCut (λ l r. r == s.receiver) p.client_senders middle
          × SendersCleared p.client_senders middle × SendersEmptied middle client_senders
      asked = drained_middle (λ l r. r == s.receiver) p.client_senders client_senders requests

      -- where no slot is emptied
      abbrev drained : Parts Q QH P PH K
      drained = record p { server_senders = answered.0; client_senders = asked.0 }

      drained_sound : IsSoundStore drained empty_hand
      drained_sound = cleared_sound p empty_hand sound asked.0 answered.0 asked.2 answered.2

      is_unused : IsUnusedServer drained s
      is_unused =
          let none = server_unused p s unused in
          record {
            loans = ap (λ (l : Sender P ResponseDetails PH). l.loans) (answered.1.rest s.sender) ∙ none.0;
            received = λ l channel. ap (λ (l : Sender Q RequestDetails QH). borrowed_at l.messages s.receiver channel)
                (asked.1.rest l) ∙ none.1 l channel;
            waits = λ l channel. asked.1.queues l s.receiver channel
                ∙ rw (eq-eqb s.receiver s.receiver refl) refl;
          }

      abbrev before : Parts Q QH P PH K
      before = without_server drained index s

      before_sound : IsSoundStore before empty_hand
      before_sound = server_gone_sound drained drained_sound index s at_s is_unused

      -- and where some may be
      abbrev pub after : Parts Q QH P PH K
      after = without_server (record p { server_senders = server_senders; client_senders = client_senders }) index s

      emptied : PartsEmptied before after
      emptied = record { rest = refl; server_senders = answered.3; client_senders = asked.3 }

      pub left_sound : IsSoundStore after empty_hand
      left_sound = emptied_sound before after emptied empty_hand before_sound

      pub left_view : state_of after ≡ after_server_left (state_of p) s.port.id
      left_view = emptied_view before after emptied empty_hand before_sound
          ∙ server_left_view p sound index s at_s asked.0 answered.0 asked.1 answered.1
