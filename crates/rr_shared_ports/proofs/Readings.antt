-- A history is a run of the message machine.
use Rattle.std.proofs.Common.{◌≡◌, ℕ, List, [], ◌∷◌, ◌++◌, Option, Some, None, Result, Ok, Err, refl, sym, ap, ◌∙◌, append_assoc, append-nil, subst}
use Rattle.rr_protocol.specs.declared.settings.BackpressureAction.{BackpressureAction}
use Rattle.rr_protocol.specs.State.{State}
use Rattle.std.specs.Prelude.{IfOk, IfSome}
use Rattle.rr_protocol.specs.declared.limits.Limits.{Limits}
use Rattle.rr_protocol.specs.declared.error.ReceiveError.{ReceiveError}
use Rattle.rr_protocol.specs.Receives.{ReceivesResponse}
use Rattle.rr_protocol.specs.declared.command.Command.{Command}
use Rattle.rr_protocol.specs.declared.reply.Reply.{Reply}
use Rattle.rr_protocol.specs.AnswerRule.{KeepsAnswerRule}
use Rattle.rr_protocol.specs.PortRun.{PortEvent, PortRun}
use Rattle.rr_shared_ports.specs.Leading.{IsHistory, LeadsTo, Reads, Steps, WasAnswered, calls_in}
use Rattle.rr_shared_ports.specs.Turns.{MakesCall, Seated, state_after}
use Rattle.rr_shared_ports.proofs.Leading.{joined}

-- the calls of a reading with one more part
calls_in_then : {X : Type 0} (readings : List (List X)) (calls : List X) → calls_in (readings ++ calls ∷ []) ≡ calls_in readings ++ calls
calls_in_then [] calls = append-nil calls
calls_in_then (first ∷ readings) calls = ap (λ more. first ++ more) (calls_in_then readings calls) ∙ sym (append_assoc first (calls_in readings) calls)

module _ {Q QH P PH K : Type 0} (action : K → ℕ → ℕ → BackpressureAction) (D : QH → Type 0) (E : PH → Type 0) where
  -- the calls that lead from one state to another
  calls_of : (old new : State Q QH P PH K) → LeadsTo action D E old new → (events : List (PortEvent K)) × PortRun action D E old events new
  unfolding LeadsTo
  calls_of old new leads = leads

  -- a history can be read as calls
  pub history_read : (start : State Q QH P PH K) (calls : List (ℕ × State Q QH P PH K)) → IsHistory (Steps action D E) start calls
      → (readings : List (List (PortEvent K))) × Reads action D E start calls readings
  history_read start [] history = ([], tt)
  history_read start (call ∷ calls) history =
      let first = calls_of start call.1 history.0.1.1 in
      let rest = history_read call.1 calls history.1 in
      (first.0 ∷ rest.0, (first.1, rest.1))

  -- and these are one run
  pub read_runs : (start : State Q QH P PH K) (calls : List (ℕ × State Q QH P PH K)) (readings : List (List (PortEvent K)))
      → Reads action D E start calls readings → PortRun action D E start (calls_in readings) (state_after start calls)
  read_runs start [] [] reads = refl
  read_runs start (call ∷ calls) (events ∷ readings) reads =
      joined action D E events (calls_in readings) start call.1 (state_after call.1 calls) reads.0 (read_runs call.1 calls readings reads.1)
  read_runs start [] (events ∷ readings) reads = absurd reads
  read_runs start (call ∷ calls) [] reads = absurd reads

  -- what is read of a history is read of what begins it
  pub read_before : (start : State Q QH P PH K) (calls : List (ℕ × State Q QH P PH K)) (last : ℕ × State Q QH P PH K) (readings : List (List (PortEvent K)))
      → Reads action D E start (calls ++ last ∷ []) readings → (before : List (List (PortEvent K))) × Reads action D E start calls before
  read_before start [] last readings reads = ([], tt)
  read_before start (call ∷ calls) last (events ∷ readings) reads =
      let before = read_before call.1 calls last readings reads.1 in
      (events ∷ before.0, (reads.0, before.1))
  read_before start (call ∷ calls) last [] reads = absurd reads

  -- and goes on by a reading of one more call
  pub read_then : (start : State Q QH P PH K) (calls : List (ℕ × State Q QH P PH K)) (last : ℕ × State Q QH P PH K) (readings : List (List (PortEvent K)))
      (events : List (PortEvent K)) → Reads action D E start calls readings → PortRun action D E (state_after start calls) events last.1
      → Reads action D E start (calls ++ last ∷ []) (readings ++ events ∷ [])
  read_then start [] last [] events reads run = (run, tt)
  read_then start (call ∷ calls) last (first ∷ readings) events reads run = (reads.0, read_then call.1 calls last readings events reads.1 run)
  read_then start [] last (first ∷ readings) events reads run = absurd reads
  read_then start (call ∷ calls) last [] events reads run = absurd reads

  -- What a pending response received was loaned from an active request of its request, and sent after that: the seat that received it
  -- reads its own call as it knows it, and those before as they can be read.
  answers_received : (limits : Limits) (start : State Q QH P PH K) (p k : ℕ) (old new : Seated (State Q QH P PH K))
      → MakesCall start (λ before after. ReceivesResponse before p (Ok (Some k)) after) old new
      → (readings : List (List (PortEvent K))) × Reads action D E start new.1 readings
      → ((readings : List (List (PortEvent K))) → Reads action D E start new.1 readings → KeepsAnswerRule limits (calls_in readings))
      → WasAnswered action D E start new.1 p k
  answers_received limits start p k old new made legal rule =
      let earlier : List (ℕ × State Q QH P PH K) = old.1 ++ made.0 in
      let last : ℕ × State Q QH P PH K = (old.0, made.1) in
      let is : new.1 ≡ earlier ++ last ∷ [] = ap (λ seat. seat.1) made.2 in
      let own : List (PortEvent K) = (Command.Receive p, Reply.Response k) ∷ [] in
      let before = read_before start earlier last legal.0 (subst (λ calls. Reads action D E start calls legal.0) is legal.1) in
      let reads = read_then start earlier last before.0 own before.1 (made.1, made.4, refl) in
      let keeps = rule (before.0 ++ own ∷ []) (subst (λ calls. Reads action D E start calls (before.0 ++ own ∷ [])) (sym is) reads) in
      (earlier, last, is, (before.0, before.1, keeps.answers (calls_in before.0) [] p k (calls_in_then before.0 own)))

  -- the same of whatever a receive returns
  pub received_answers : (limits : Limits) (start : State Q QH P PH K) (p : ℕ) (result : Result (Option ℕ) ReceiveError) (old new : Seated (State Q QH P PH K))
      → MakesCall start (λ before after. ReceivesResponse before p result after) old new
      → (readings : List (List (PortEvent K))) × Reads action D E start new.1 readings
      → ((readings : List (List (PortEvent K))) → Reads action D E start new.1 readings → KeepsAnswerRule limits (calls_in readings))
      → IfOk result (λ came. IfSome came (λ k. WasAnswered action D E start new.1 p k))
  received_answers limits start p (Ok (Some k)) old new made legal rule = answers_received limits start p k old new made legal rule
  received_answers limits start p (Ok None) old new made legal rule = tt
  received_answers limits start p (Err error) old new made legal rule = tt
