-- What a list of commands and their replies proves of the least pool of a client.
use Rattle.std.specs.Prelude.{◌≡◌, ◌≢◌, ◌⊎◌, ◌<◌, ◌↔◌, ℕ, Bool, true, false, List, ◌∷◌, Some, None, slice_get}
use Rattle.std.specs.List.{AllByRecursion}
use Rattle.rr_slots.specs.declared.family.Family.TheVariants.{Typed}
use Rattle.rr_protocol.specs.declared.limits.Limits.{Limits}
use Rattle.rr_protocol.specs.declared.settings.AllocationStrategy.{AllocationStrategy}
use Rattle.rr_protocol.specs.declared.settings.BackpressureStrategy.{BackpressureStrategy}
use Rattle.rr_protocol.specs.declared.settings.ClientSettings.{ClientSettings}
use Rattle.rr_protocol.specs.Limits.{hub_refusal, worst_case_requests}
use Rattle.rr_protocol.specs.State.{State, empty_hub}
use Rattle.rr_protocol.specs.declared.command.Command.{Command}
use Rattle.rr_protocol.specs.declared.reply.Reply.{Reply}
use Rattle.rr_protocol.specs.Run.{Run}
use Rattle.rr_run.specs.Numbers.{IsZero, follow_strategy}
use Rattle.rr_laws.specs.Filling.{only_client}
use Rattle.rr_laws.specs.Unreduced.{asked_in, is_out_of_memory}

module _ {K : Type 0} where
  -- the client's settings: full queues are skipped, slots don't grow, there is no handler, and the override returns
  -- this
  abbrev pub reduced_client : ℕ → ClientSettings K
  reduced_client pool = record {
    strategy = BackpressureStrategy.DiscardData;
    initial_max_slice_len = 1;
    allocation_strategy = AllocationStrategy.Static;
    pool = Some pool;
    handler = None;
  }

  -- whether a command creates a client
  abbrev pub creates_client : Command ℕ ℕ K → Bool
  creates_client (Command.CreateClient settings) = true
  creates_client command = false

  -- one client is created, with these settings, by the first command
  pub record CreatesOneClient (pool : ℕ) (commands : List (Command ℕ ℕ K)) (replies : List (Reply ℕ ℕ)) : Type 0 where
    pub others : List (Command ℕ ℕ K)
    pub other_replies : List (Reply ℕ ℕ)
    pub commands_are : commands ≡ Command.CreateClient (reduced_client pool) ∷ others
    pub replies_are : replies ≡ Reply.Created only_client ∷ other_replies
    pub only_one : AllByRecursion (λ c. creates_client c ≡ false) others

  -- a loan of that client is answered with want of memory
  abbrev pub WantsMemory : List (Command ℕ ℕ K) → List (Reply ℕ ℕ) → Type 0
  WantsMemory commands replies =
      (i len : ℕ) × (command : Command ℕ ℕ K) × (reply : Reply ℕ ℕ) × (slice_get commands i ≡ Some command)
      × (slice_get replies i ≡ Some reply)
      × (asked_in command ≡ Some (only_client, len)) × (is_out_of_memory reply ≡ true)

  -- the typed machine with these limits may answer the commands so
  abbrev pub IsTypedRun : Limits → List (Command ℕ ℕ K) → List (Reply ℕ ℕ) → Type 0
  IsTypedRun limits commands replies =
      (s : State ℕ ℕ ℕ ℕ K) × Run follow_strategy IsZero IsZero Typed (empty_hub limits 0) commands replies s

  -- the commands and replies are such a run with one client, whose override returns this size, and a loan of the
  -- client is answered with want of memory exactly if that size is below the worst case
  pub record ShowsPool (limits : Limits) (pool : ℕ) (commands : List (Command ℕ ℕ K)) (replies : List (Reply ℕ ℕ))
      : Type 0 where
    pub run : IsTypedRun limits commands replies
    pub one_client : CreatesOneClient pool commands replies
    pub least : WantsMemory commands replies ↔ (pool < worst_case_requests limits)

-- the limits make no hub, or a full list of requests overflows
abbrev pub AreWrong : Limits → Type 0
AreWrong limits = (hub_refusal limits ≢ None) ⊎ (limits.enable_safe_overflow_for_requests ≡ true)
