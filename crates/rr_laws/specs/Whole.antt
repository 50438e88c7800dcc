-- A whole pool never runs dry, in terms of commands and replies.
use Rattle.std.specs.Prelude.{◌≡◌, ◌⊎◌, ℕ, Bool, true, false, ◌&&◌, ◌==◌, nat_le, List, ◌∷◌, ◌++◌, Option, Some, None}
use Rattle.std.specs.List.{list_any}
use Rattle.rr_slots.specs.declared.family.Family.{Family}
use Rattle.rr_protocol.specs.declared.limits.Limits.{Limits}
use Rattle.rr_protocol.specs.Limits.{worst_case_requests, worst_case_responses}
use Rattle.rr_protocol.specs.Creation.{loans_of}
use Rattle.rr_protocol.specs.declared.command.Command.{Command}
use Rattle.rr_protocol.specs.declared.reply.Reply.{Reply}
use Rattle.rr_protocol.specs.Step.{client_settings, server_settings}
use Rattle.rr_protocol.specs.AnswerRule.{Event, is_active_of}
use Rattle.rr_laws.specs.Unreduced.{asked_in, is_out_of_memory}

-- whether a pool is not reduced: no override, or one of at least the worst case
abbrev pub is_whole : ℕ → Option ℕ → Bool
is_whole worst_case None = true
is_whole worst_case (Some pool) = nat_le worst_case pool

module _ {T H K : Type 0} (family : Family) (limits : Limits) where
  -- the client n is created with a whole pool, whose slots have room for a slice of this length from the start
  abbrev pub creates_whole_client : ℕ → ℕ → Event T H K → Bool
  creates_whole_client n len (Command.CreateClient settings, Reply.Created m) =
      m == n && is_whole (worst_case_requests limits) settings.pool && nat_le len
      (client_settings family settings).initial_max_slice_len
  creates_whole_client n len event = false

  -- the server n is
  abbrev pub creates_whole_server : ℕ → ℕ → Event T H K → Bool
  creates_whole_server n len (Command.CreateServer settings, Reply.Created m) =
      m == n && is_whole (worst_case_responses limits (loans_of settings)) settings.pool
      && nat_le len (server_settings family settings).initial_max_slice_len
  creates_whole_server n len event = false

  -- n is a client that was created so, or an active request that a server received which was
  abbrev pub HasWholePool : List (Event T H K) → ℕ → ℕ → Type 0
  HasWholePool before n len =
      (list_any (creates_whole_client n len) before ≡ true)
      ⊎ ((server p : ℕ) × (list_any (is_active_of server n p) before ≡ true)
      × (list_any (creates_whole_server server len) before ≡ true))

  -- no loan from such a pool is answered with want of memory
  abbrev pub NeverRunsDry : List (Event T H K) → Type 0
  NeverRunsDry history =
      (before after : List (Event T H K)) (command : Command T H K) (reply : Reply T H) (n len : ℕ)
      → history ≡ before ++ (command, reply) ∷ after → asked_in command ≡ Some (n, len) → HasWholePool before n len
      → is_out_of_memory reply ≡ false
