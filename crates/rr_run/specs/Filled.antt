-- A list of commands on the way to a full pool.
use Rattle.std.specs.Prelude.{◌≡◌, ◌⊎◌, ◌<◌, ◌+◌, ◌*◌, ◌^◌, ℕ, false, List, [], ◌∷◌, ◌++◌, length, None, Some}
use Rattle.std.specs.List.{AllByRecursion}
use Rattle.rr_slots.specs.declared.family.Family.TheVariants.{Typed}
use Rattle.rr_protocol.specs.declared.error.LoanError.{LoanError}
use Rattle.rr_protocol.specs.declared.error.RequestSendError.{RequestSendError}
use Rattle.rr_protocol.specs.declared.error.SendError.{SendError}
use Rattle.rr_protocol.specs.declared.limits.Limits.{Limits}
use Rattle.rr_protocol.specs.declared.no_handler.NoHandler.{NoHandler}
use Rattle.rr_protocol.specs.Creation.{pool_size_of}
use Rattle.rr_protocol.specs.Limits.{hub_refusal, worst_case_requests}
use Rattle.rr_protocol.specs.Messages.{RequestMessage}
use Rattle.rr_protocol.specs.State.{empty_hub}
use Rattle.rr_protocol.specs.declared.command.Command.{Command}
use Rattle.rr_protocol.specs.declared.reply.Reply.{Reply}
use Rattle.rr_protocol.specs.Run.{Run}
use Rattle.rr_protocol.specs.Step.{Step}
use Rattle.rr_laws.specs.Filling.{LivesElsewhere, IsHolding, IsServed, Waits}
use Rattle.rr_laws.specs.Unreduced.{asked_in}
use Rattle.rr_run.specs.declared.least.filling.Filling.{Filling}
use Rattle.rr_run.specs.declared.least.outcome.Outcome.{Outcome}
use Rattle.rr_run.specs.Numbers.{IsZero, follow_strategy}
use Rattle.rr_run.specs.Least.{creates_client, CreatesOneClient, WantsMemory}

-- the outcome that a reply reports
abbrev pub outcome_of : Reply ℕ ℕ → Outcome
outcome_of (Reply.Created n) = Outcome.Created n
outcome_of (Reply.Pending n connections) = Outcome.Pending n
outcome_of (Reply.Active n request) = Outcome.Active
outcome_of (Reply.Loaned n) = Outcome.Loaned
outcome_of Reply.Done = Outcome.Done
outcome_of (Reply.LoanError LoanError.OutOfMemory) = Outcome.Full
outcome_of (Reply.RequestError (RequestSendError.SendError (SendError.LoanError LoanError.OutOfMemory))) =
    Outcome.Full
outcome_of reply = Outcome.Other

-- a command after the first one: it creates no client, and loans one element
pub record IsLater (command : Command ℕ ℕ NoHandler) : Type 0 where
  pub no_client : creates_client command ≡ false
  pub short : (n len : ℕ) → asked_in command ≡ Some (n, len) → len ≡ 1

module _ (f : Filling) where
  -- the commands so far are a run with one client, which loaned only messages of one element
  pub record IsNoted : Type 0 where
    pub run : Run follow_strategy IsZero IsZero Typed (empty_hub f.limits 0) f.commands.items f.replies.items f.runner
    pub one_client : CreatesOneClient f.pool f.commands.items f.replies.items
    pub short : AllByRecursion (λ c. (n len : ℕ) → asked_in c ≡ Some (n, len) → len ≡ 1) f.commands.items

  -- this number of requests of the client are live
  pub record IsFilled : Type 0 where
    pub noted : IsNoted
    pub holding : IsHolding f.runner f.limits (pool_size_of (worst_case_requests f.limits) (Some f.pool)) f.live
    pub keeps_old : f.limits.enable_safe_overflow_for_requests ≡ false
    pub pool_fits : f.pool < 2 ^ 64

  -- the pool is full: a loan of the client was answered with want of memory
  pub record IsFull : Type 0 where
    pub noted : IsNoted
    pub wants : WantsMemory f.commands.items f.replies.items

  -- the server is being served, and the list to it has this many requests
  abbrev pub HasQueued : ℕ → ℕ → Type 0
  HasQueued server n = (entries : List (RequestMessage ℕ ℕ)) × (length entries ≡ n) × IsServed f.runner server entries

  -- the server is being served, and the list to it has only the request with this number, which waits for answers
  abbrev pub HasAsked : ℕ → ℕ → Type 0
  HasAsked server request =
      (message : RequestMessage ℕ ℕ) × IsServed f.runner server (message ∷ []) × Waits f.runner request message

  -- the request with this number waits for answers, and stays live without its pending response
  abbrev pub IsSpare : ℕ → Type 0
  IsSpare request = (message : RequestMessage ℕ ℕ) × Waits f.runner request message × LivesElsewhere f.runner request

  -- a hub in which nothing was done
  pub record IsUnused : Type 0 where
    pub runner : f.runner ≡ empty_hub f.limits 0
    pub commands : f.commands.items ≡ []
    pub replies : f.replies.items ≡ []
    pub none_live : f.live ≡ 0
    pub makes_hub : hub_refusal f.limits ≡ None
    pub keeps_old : f.limits.enable_safe_overflow_for_requests ≡ false
    pub pool_fits : f.pool < 2 ^ 64

-- a command was carried out, answered, and recorded with its reply, which reports this outcome
pub record Does (old new : Filling) (command : Command ℕ ℕ NoHandler) (outcome : Outcome) : Type 0 where
  pub reply : Reply ℕ ℕ
  pub told : outcome ≡ outcome_of reply
  pub step : Step follow_strategy IsZero IsZero Typed old.runner command reply new.runner
  pub commands : new.commands.items ≡ old.commands.items ++ command ∷ []
  pub replies : new.replies.items ≡ old.replies.items ++ reply ∷ []

-- the same hub, and the same override
pub record IsSameHub (old new : Filling) : Type 0 where
  pub limits : new.limits ≡ old.limits
  pub pool : new.pool ≡ old.pool

-- and this many more are live
pub record HasGrown (more : ℕ) (old new : Filling) : Type 0 where
  pub filled : IsFilled new
  pub live : new.live ≡ old.live + more

-- the number of requests live at each server: its borrow limit, plus the capacity of its queue
abbrev pub server_requests : Limits → ℕ
server_requests l = l.max_active_requests_per_client + l.max_active_requests_per_client

-- and how many in all
abbrev pub all_requests : Limits → ℕ
all_requests l = l.max_servers * server_requests l + l.max_active_requests_per_client + l.max_loaned_requests

-- all commands were carried out, or a loan found the pool full
abbrev pub IsFilledUp : Filling → Filling → Type 0
IsFilledUp old new = HasGrown (all_requests old.limits) old new ⊎ IsFull new
