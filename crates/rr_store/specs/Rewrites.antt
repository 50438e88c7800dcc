-- Facts about a sender that stay true when its slots are written, or when a server may no longer answer: everything
-- but the contents, the user headers and the marks is unchanged.
use Rattle.std.specs.Prelude.{◌≡◌, ◌<◌, ℕ, ◌==◌, Bool, false, List, length, slice_index_or}
use Rattle.rr_store.specs.Parts.{Sender}
use Rattle.rr_store.specs.Views.{no_server, sender_of}

-- a sender without the contents of its slots and its marks
pub record Outline (N : Type 0) : Type 0 where
  pub owner : ℕ
  pub row : ℕ
  pub receiver : ℕ
  pub has_value : Bool
  pub loans : ℕ
  pub pendings : ℕ
  pub details : List N
  pub held : List ℕ
  pub queues : List (List (List ℕ))
  pub borrowed : List (List ℕ)
  pub capacity : ℕ
  pub room : ℕ

-- the outline of a sender
abbrev pub outline_of : {T N H : Type 0} → Sender T N H → Outline N
outline_of l =
    record {
      owner =
          l.owner;
      row = l.row;
      receiver = l.receiver;
      has_value = l.has_value;
      loans = l.loans;
      pendings = l.pendings;
      details = l.messages.details;
      held = l.messages.held;
      queues = l.messages.queues;
      borrowed = l.messages.borrowed;
      capacity = l.messages.capacity;
      room = l.messages.room;
    }

-- other contents and user headers, as many as before, and no server more that may answer
pub record SenderRewritten {T N H : Type 0} (before after : Sender T N H) : Type 0 where
  pub outline : outline_of after ≡ outline_of before
  pub contents : length after.messages.contents ≡ length before.messages.contents
  pub user_headers : length after.messages.user_headers ≡ length before.messages.user_headers
  pub marks : length after.may_answer ≡ length before.may_answer
  pub none_more : (index server : ℕ) → server < no_server
      → (slice_index_or before.may_answer index no_server == server) ≡ false
      → (slice_index_or after.may_answer index no_server == server) ≡ false

-- in each sender
pub record SendersRewritten {T N H : Type 0} (before after : List (Sender T N H)) : Type 0 where
  pub many : length after ≡ length before
  pub each : (sender : ℕ) → SenderRewritten (sender_of sender before) (sender_of sender after)
