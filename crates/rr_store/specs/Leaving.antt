-- The effect on a core when a port leaves.
use Rattle.std.specs.Prelude.{◌≡◌, ◌≤◌, ◌⊎◌, ℕ, ◌+◌, ◌-◌, ◌==◌, Bool, ◌||◌, if◌then◌else◌, List, [], ◌∷◌, ◌++◌, filter, length, nat_lt, slice_index_or, take, false, slice_set}
use Rattle.std.specs.List.{list_any, remove}
use Rattle.rr_sender.specs.Senders.{all_entries, borrowed_at, queue_at, times}
use Rattle.rr_store.specs.declared.port.LeftPort.{LeftPort}
use Rattle.rr_store.specs.Loaning.{with_sender_at}
use Rattle.rr_store.specs.Parts.{ClientPart, Parts, Sender, ServerPart}
use Rattle.rr_store.specs.Views.{sender_of}

-- the record of a port that leaves
abbrev pub leaving_client : {K : Type 0} → ClientPart K → LeftPort
leaving_client c = record { number = c.port.id; sender = c.sender }

abbrev pub leaving_server : {K : Type 0} → ServerPart K → LeftPort
leaving_server s = record { number = s.port.id; sender = s.sender }

-- a sender whose port's value was released
abbrev pub valueless : {T N H : Type 0} → Sender T N H → Sender T N H
valueless l = record l { has_value = false }

-- a client, and a server, without its value
abbrev pub valueless_client : {K : Type 0} → ClientPart K → ClientPart K
valueless_client c = record c { connected = record c.connected { port = record c.port { has_value = false } } }

abbrev pub valueless_server : {K : Type 0} → ServerPart K → ServerPart K
valueless_server s = record s { connected = record s.connected { port = record s.port { has_value = false } } }

-- a sender of which some queues lost all their entries, and else nothing changed
pub record SenderCleared {T N H : Type 0} (before after : Sender T N H) : Type 0 where
  pub rest : after ≡ record before { messages = record before.messages { queues = after.messages.queues } }
  pub receivers : length after.messages.queues ≡ length before.messages.queues
  pub channels : (receiver : ℕ) → length (slice_index_or after.messages.queues receiver [])
      ≡ length (slice_index_or before.messages.queues receiver [])
  pub each : (receiver channel : ℕ) → (queue_at after.messages receiver channel ≡ [])
      ⊎ (queue_at after.messages receiver channel ≡ queue_at before.messages receiver channel)
  pub fewer : (slot : ℕ) → times slot (all_entries after.messages.queues)
      ≤ times slot (all_entries before.messages.queues)

-- each sender is so
pub record SendersCleared {T N H : Type 0} (before after : List (Sender T N H)) : Type 0 where
  pub many : length after ≡ length before
  pub each : (sender : ℕ) → SenderCleared (sender_of sender before) (sender_of sender after)

-- whether a sender has an entry for a receiver
abbrev pub has_queued : {T N H : Type 0} → Sender T N H → ℕ → Bool
has_queued l receiver = list_any (λ queue. nat_lt 0 (length queue)) (slice_index_or l.messages.queues receiver [])

module _ {T N H : Type 0} (senders : List (Sender T N H)) (left : List LeftPort) where
  -- the ports that left from which a receiver has an entry
  abbrev pub queued_left : ℕ → List LeftPort
  queued_left receiver = filter (λ l. has_queued (sender_of l.sender senders) receiver) left

  -- and the oldest of them, which exceed the room when one more leaves from which it has an entry
  abbrev pub outdated : ℕ → LeftPort → ℕ → List LeftPort
  outdated room leaving receiver =
      if has_queued (sender_of leaving.sender senders) receiver
      then take (length (queued_left receiver) + 1 - room) (queued_left receiver ++ leaving ∷ [])
      else []

-- one of these ports sent from a sender
abbrev pub is_of : List LeftPort → ℕ → Bool
is_of ports sender = list_any (λ l. l.sender == sender) ports

-- the queues from some senders to some receivers are empty, and else nothing changed
pub record SendersCut {T N H : Type 0} (cut : ℕ → ℕ → Bool) (before after : List (Sender T N H)) : Type 0 where
  pub many : length after ≡ length before
  pub rest : (sender : ℕ) → sender_of sender after ≡ record (sender_of sender before) {
    messages =
        record (sender_of sender before).messages { queues = (sender_of sender after).messages.queues };
  }
  pub queues : (sender receiver channel : ℕ)
      → queue_at (sender_of sender after).messages receiver channel
      ≡ (if cut sender receiver then [] else queue_at (sender_of sender before).messages receiver channel)

-- whether a receiver has a message from some sender
abbrev pub is_borrowing : {T N H : Type 0} → List (Sender T N H) → ℕ → Bool
is_borrowing senders receiver =
    list_any (λ l. list_any (λ n. nat_lt 0 n) (slice_index_or l.messages.borrowed receiver [])) senders

module _ {Q QH P PH K : Type 0} (p : Parts Q QH P PH K) where
  -- without the client at an index, whose sender stays as long as others have its messages
  abbrev pub without_client : ℕ → ClientPart K → Parts Q QH P PH K
  without_client index c =
      record p {
        clients = remove p.clients index;
        left_clients = p.left_clients ++ record { number = c.port.id; sender = c.sender } ∷ [];
      }

  -- without the server at an index
  abbrev pub without_server : ℕ → ServerPart K → Parts Q QH P PH K
  without_server index s =
      record p {
        servers = remove p.servers index;
        left_servers = p.left_servers ++ record { number = s.port.id; sender = s.sender } ∷ [];
      }

  -- whether a client's value lives, or it has a handle
  abbrev pub is_client_used : ClientPart K → Bool
  is_client_used c =
      c.port.has_value || (nat_lt 0 (sender_of c.sender p.client_senders).loans ||
      (nat_lt 0 (sender_of c.sender p.client_senders).pendings || is_borrowing p.server_senders c.receiver))

  -- and a server's
  abbrev pub is_server_used : ServerPart K → Bool
  is_server_used s =
      s.port.has_value || (nat_lt 0 (sender_of s.sender p.server_senders).loans || is_borrowing p.client_senders
      s.receiver)

  -- after the value of the client, or the server, at an index was released
  abbrev pub without_client_value : ℕ → ClientPart K → Parts Q QH P PH K
  without_client_value index c =
      record p {
        clients =
            slice_set p.clients index (valueless_client c);
        client_senders = with_sender_at p.client_senders c.sender valueless;
      }

  abbrev pub without_server_value : ℕ → ServerPart K → Parts Q QH P PH K
  without_server_value index s =
      record p {
        servers =
            slice_set p.servers index (valueless_server s);
        server_senders = with_sender_at p.server_senders s.sender valueless;
      }

  -- a client has no handle, and no entry waits for it
  pub record IsUnusedClient (c : ClientPart K) : Type 0 where
    pub loans : (sender_of c.sender p.client_senders).loans ≡ 0
    pub pendings : (sender_of c.sender p.client_senders).pendings ≡ 0
    pub received : (sender channel : ℕ) → borrowed_at (sender_of sender p.server_senders).messages c.receiver channel
        ≡ 0
    pub waits : (sender channel : ℕ) → queue_at (sender_of sender p.server_senders).messages c.receiver channel ≡ []

  -- and a server
  pub record IsUnusedServer (s : ServerPart K) : Type 0 where
    pub loans : (sender_of s.sender p.server_senders).loans ≡ 0
    pub received : (sender channel : ℕ) → borrowed_at (sender_of sender p.client_senders).messages s.receiver channel
        ≡ 0
    pub waits : (sender channel : ℕ) → queue_at (sender_of sender p.client_senders).messages s.receiver channel ≡ []
