-- What a list that fills a pool has done, command by command.
use Rattle.std.proofs.Common.{◌≡◌, ℕ, true, false, List, [], ◌∷◌, ◌++◌, length, Some, refl, sym, ap, ◌∙◌, subst, arith}
use Rattle.std.specs.Prelude.{slice_get, Result, Ok, Err, IfOk, OnOk}
use Rattle.std.specs.List.{AllByRecursion}
use Rattle.rr_table.proofs.ListFacts.{all_append}
use Rattle.rr_slots.specs.declared.family.Family.TheVariants.{Typed}
use Rattle.rr_protocol.specs.declared.error.LoanError.{LoanError}
use Rattle.rr_protocol.specs.declared.error.RequestSendError.{RequestSendError}
use Rattle.rr_protocol.specs.declared.error.SendError.{SendError}
use Rattle.rr_protocol.specs.declared.no_handler.NoHandler.{NoHandler}
use Rattle.rr_protocol.specs.State.{State, empty_hub}
use Rattle.rr_protocol.specs.declared.command.Command.{Command}
use Rattle.rr_protocol.specs.declared.reply.Reply.{Reply}
use Rattle.rr_protocol.specs.Run.{Run}
use Rattle.rr_protocol.proofs.RunLaws.{run_then_step}
use Rattle.rr_laws.specs.Filling.{only_client}
use Rattle.rr_laws.specs.Unreduced.{asked_in, is_out_of_memory}
use Rattle.rr_run.specs.declared.least.filling.Filling.{Filling}
use Rattle.rr_run.specs.declared.least.outcome.Outcome.{Outcome}
use Rattle.rr_run.specs.declared.least.stop.Stop.{Stop}
use Rattle.rr_run.specs.Filled.{outcome_of, Does, IsLater, IsNoted, IsSameHub}
use Rattle.rr_run.specs.Numbers.{IsZero, follow_strategy}
use Rattle.rr_run.specs.Least.{reduced_client, creates_client, WantsMemory}

-- a reply for each command
pub run_length : {K : Type 0} (commands : List (Command ℕ ℕ K)) (replies : List (Reply ℕ ℕ)) (old new : State ℕ ℕ ℕ ℕ K)
    → Run follow_strategy IsZero IsZero Typed old commands replies new → length replies ≡ length commands
run_length [] [] old new run = refl
run_length (c ∷ cs) (r ∷ rs) old new run = omega (arith, run_length cs rs run.0 new run.2)
run_length [] (r ∷ rs) old new run = absurd run
run_length (c ∷ cs) [] old new run = absurd run

-- the last element
get_last : {X : Type 0} (xs : List X) (x : X) → slice_get (xs ++ x ∷ []) (length xs) ≡ Some x
get_last [] x = refl
get_last (y ∷ ys) x = get_last ys x

-- what is told as a full pool is want of memory
full_means : (reply : Reply ℕ ℕ) → Outcome.Full ≡ outcome_of reply → is_out_of_memory reply ≡ true
full_means (Reply.LoanError LoanError.OutOfMemory) e = refl
full_means (Reply.RequestError (RequestSendError.SendError (SendError.LoanError LoanError.OutOfMemory))) e = refl
full_means reply e = absurd (cc)

module _ (old new : Filling) (noted : IsNoted old) (same : IsSameHub old new) (command : Command ℕ ℕ NoHandler) (outcome : Outcome)
    (does : Does old new command outcome) where
  -- one command more was carried out
  pub noted_more : IsLater command → IsNoted new
  noted_more later = record {
    run = subst (λ l. Run follow_strategy IsZero IsZero Typed (empty_hub l 0) new.commands.items new.replies.items new.runner) (sym same.limits)
        (subst (λ cs. Run follow_strategy IsZero IsZero Typed (empty_hub old.limits 0) cs new.replies.items new.runner) (sym does.commands)
        (subst (λ rs. Run follow_strategy IsZero IsZero Typed (empty_hub old.limits 0) (old.commands.items ++ command ∷ []) rs new.runner)
        (sym does.replies)
        (run_then_step follow_strategy IsZero IsZero Typed old.commands.items old.replies.items (empty_hub old.limits 0) old.runner
        new.runner command does.reply noted.run does.step)));
    one_client = record {
      others = noted.one_client.others ++ command ∷ [];
      other_replies = noted.one_client.other_replies ++ does.reply ∷ [];
      commands_are = does.commands ∙ ap (λ cs. cs ++ command ∷ []) noted.one_client.commands_are
          ∙ ap (λ n. Command.CreateClient (reduced_client n) ∷ noted.one_client.others ++ command ∷ []) (sym same.pool);
      replies_are = does.replies ∙ ap (λ rs. rs ++ does.reply ∷ []) noted.one_client.replies_are;
      only_one = all_append (λ c. creates_client c ≡ false) noted.one_client.others command noted.one_client.only_one later.no_client;
    };
    short = subst (AllByRecursion (λ c. (n len : ℕ) → asked_in c ≡ Some (n, len) → len ≡ 1)) (sym does.commands)
        (all_append (λ c. (n len : ℕ) → asked_in c ≡ Some (n, len) → len ≡ 1) old.commands.items command noted.short later.short);
  }

  -- a loan that finds no room tells that the pool is full
  pub full_wants : outcome ≡ Outcome.Full → asked_in command ≡ Some (only_client, 1) → WantsMemory new.commands.items new.replies.items
  full_wants full asks = (
    length old.commands.items,
    1,
    command,
    does.reply,
    ap (λ cs. slice_get cs (length old.commands.items)) does.commands ∙ get_last old.commands.items command,
    ap (λ rs. slice_get rs (length old.commands.items)) does.replies
        ∙ ap (slice_get (old.replies.items ++ does.reply ∷ [])) (sym (run_length old.commands.items old.replies.items (empty_hub old.limits 0) old.runner noted.run))
        ∙ get_last old.replies.items does.reply,
    asks,
    full_means does.reply (sym full ∙ does.told),
  )

module _ (old new : Filling) (noted : IsNoted old) (same : IsSameHub old new) (command : Command ℕ ℕ NoHandler) where
  -- the same of a call that may have found no memory
  pub noted_result : IsLater command → (result : Result Outcome Stop) → IfOk result (λ outcome. Does old new command outcome)
      → OnOk result (IsNoted new)
  noted_result later (Ok outcome) does = noted_more old new noted same command outcome does later
  noted_result later (Err stop) does = tt

  pub full_result : (result : Result Outcome Stop) → IfOk result (λ outcome. Does old new command outcome) → result ≡ Ok Outcome.Full
      → asked_in command ≡ Some (only_client, 1) → WantsMemory new.commands.items new.replies.items
  full_result (Ok outcome) does full asks = full_wants old new noted same command outcome does (cc) asks
  full_result (Err stop) does full asks = absurd (cc)
