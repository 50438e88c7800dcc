-- Replies that the machine can't give, whatever state it would go on to.
use Rattle.std.proofs.Common.{◌≡◌, inl, inr, ℕ, true, false, List, [], ◌∷◌, Some, None, Ok, refl, sym, ap, arith, subst, ◌∙◌}
use Rattle.std.specs.Ordering.{nat_cmp}
use Rattle.std.specs.declared.cmp.Ordering.{Ordering}
use Rattle.std.specs.declared.cmp.Ordering.TheVariants.{Less, Equal, Greater}
use Rattle.rr_protocol.specs.declared.error.LoanError.{LoanError}
use Rattle.rr_protocol.specs.declared.error.SendError.{SendError}
use Rattle.rr_protocol.specs.declared.settings.BackpressureStrategy.{BackpressureStrategy}
use Rattle.rr_protocol.specs.Lists.{at}
use Rattle.rr_protocol.specs.Keys.{request_key}
use Rattle.std.specs.FinMap.{nat_cmp-IsAntisymmetric}
use Rattle.rr_protocol.specs.Counts.{has_response_room}
use Rattle.rr_protocol.specs.Messages.{RequestMessage, ResponseMessage, Pending, Handle, response_key}
use Rattle.rr_protocol.specs.State.{handle_at}
use Rattle.rr_protocol.specs.Loans.{with_loaned_request}
use Rattle.rr_protocol.specs.Sends.{SendsRequest}
use Rattle.rr_protocol.specs.Receives.{is_dead, TakesRequest, Skims, TakesResponse}
use Rattle.rr_protocol.specs.Step.{with_complete}
use Rattle.rr_protocol.specs.declared.command.Command.{Command}
use Rattle.rr_protocol.specs.declared.reply.Reply.{Reply}
use Rattle.rr_test_core.proofs.Literals.{literals}
use Rattle.rr_test_core.proofs.States.{HubState, StepOf, answer, answered, asked_again, borrowed, client_port, idle, not_true, one_full_queue, place_taken_again, port, question, queued}

not_filled : {X : Type 0} (x : X) (xs : List X) → [] ≡ x ∷ xs → ⊥
not_filled x xs e = cc

-- a response is not received twice
pub no_second_response : (k : ℕ) (new : HubState) → StepOf answered (Command.Receive 2) (Reply.Response k) new → ⊥
no_second_response k new step =
    let known = simp literals at step in
    not_filled known.1 known.3.1.0 known.3.1.1

-- a loan does not lack memory in an empty pool
pub no_refused_loan : (new : HubState) → StepOf idle (Command.Loan 0 1) (Reply.LoanError LoanError.OutOfMemory) new → ⊥
no_refused_loan new step =
    let known = simp literals at step in
    elim known [ inl refused ↦ absurd (omega (arith, refused.0.1)) | inr never ↦ never ]

-- the third request was loaned, on some channel and with some user header
abbrev loaned_third : ℕ → ℕ → HubState
loaned_third channel header =
    with_loaned_request one_full_queue (client_port (port 0 BackpressureStrategy.RetryUntilDelivered 12 true) 2) 1 channel
    header

never_sent : (connections channel header : ℕ) (new : HubState)
    → SendsRequest answer (with_complete (loaned_third channel header) 7 (3 ∷ [])) 7 (Ok connections) new → ⊥
never_sent connections channel header new sends = let known = simp literals at sends in not_none known.0
  where
    not_none : {X : Type 0} {x : X} → Some x ≡ None → ⊥
    not_none e = cc

-- the first request of the one list that isn't empty
first_of : (client : ℕ) (message : RequestMessage ℕ ℕ) (rest : List (RequestMessage ℕ ℕ)) (r : Ordering) → nat_cmp client 0 ≡ r →
    at queued.requests (request_key client 1) ≡ message ∷ rest → question ≡ message
first_of client message rest Less e stands = absurd (not_filled message rest (simp (literals, e) at stands))
first_of client message rest Equal e stands = let known : question ∷ [] ≡ message ∷ rest = simp (literals, e) at stands in cc
first_of client message rest Greater e stands = absurd (not_filled message rest (simp (literals, e) at stands))

-- it is alive, so nothing is skimmed
no_skim : (client : ℕ) (message : RequestMessage ℕ ℕ) (mid : HubState) → is_dead queued message ≡ true
    → TakesRequest queued (request_key client 1) message mid → ⊥
no_skim client message mid dead takes =
    let same = first_of client message takes.1.0 (nat_cmp client 0) refl takes.1.1 in
    not_true (sym lives ∙ ap (is_dead queued) same ∙ dead)
  where
    lives : is_dead queued question ≡ false
    lives = simp literals

lost : (skimmed : List ℕ) (mid : HubState) → Skims queued 1 skimmed mid
    → ((client : ℕ) → at mid.requests (request_key client 1) ≡ []) → ⊥
lost [] mid skims none = waits (subst IsEmptyAt skims (none 0))
  where
    IsEmptyAt : HubState → Type 0
    IsEmptyAt s = at s.requests (request_key 0 1) ≡ []

    waits : at queued.requests (request_key 0 1) ≡ [] → ⊥
    waits e = let known = simp literals at e in cc
lost (client ∷ clients) mid skims none = no_skim client skims.0 skims.1 skims.2 skims.3

-- a server doesn't find nothing while a request waits that is alive
pub no_lost_request : (new : HubState) → StepOf queued (Command.Receive 1) Reply.Nothing new → ⊥
no_lost_request new step =
    elim step [
      | inl received ↦ lost received.1.0 received.1.1 received.1.2 received.1.3.0
      | inr asked ↦ let never = simp literals at asked in never
    ]

-- a send that one full list refuses is not sent to another that has room
pub no_partial_send : (k connections : ℕ) (new : HubState) → StepOf one_full_queue (Command.SendCopy 0 3)
    (Reply.Pending k connections) new → ⊥
no_partial_send k connections new step =
    let loaned = step.1 in
    let Sends : HubState → ℕ → Type 0 = λ mid number. SendsRequest answer (with_complete mid number (3 ∷ [])) number (Ok connections) new in
    never_sent connections loaned.2.0 loaned.2.1 new (subst (Sends (loaned_third loaned.2.0 loaned.2.1)) loaned.1
    (subst (λ mid. Sends mid k) loaned.2.4 step.2))

abbrev asking : Pending ℕ ℕ
asking = record { message = question; hint = false; connections = 1; servers = 1 ∷ [] }

asks : handle_at borrowed 2 ≡ Some (Handle.PendingResponse asking)
asks = simp literals

no_room : has_response_room borrowed (response_key asking 1) ≡ true → ⊥
no_room room = let never = simp literals at room in cc

-- the other lists of the channel are empty
only_first : (server : ℕ) (r : Ordering) → nat_cmp server 1 ≡ r → has_response_room borrowed (response_key asking server) ≡ true
    → at borrowed.responses (response_key asking server) ≡ []
only_first server Less e room = simp (literals, e)
only_first server Equal e room = absurd (no_room (subst (λ s. has_response_room borrowed (response_key asking s) ≡ true)
    (nat_cmp-IsAntisymmetric server 1 e) room))
only_first server Greater e room = simp (literals, e)

-- no list of the channel gives one while the first response is held
never_taken : (server : ℕ) (message : ResponseMessage ℕ ℕ) (mid : HubState)
    → TakesResponse borrowed (response_key asking server) message mid → ⊥
never_taken server message mid takes = not_filled message takes.1.0
    (sym (only_first server (nat_cmp server 1) refl takes.0) ∙ takes.1.1)

-- a response is not received past the borrow limit
pub no_borrow_past_the_limit : (k : ℕ) (new : HubState) → StepOf borrowed (Command.Receive 2) (Reply.Response k) new → ⊥
no_borrow_past_the_limit k new step = let known = rw asks at step in never_taken known.0 known.1 known.2 known.3

-- a new client is not connected with a request of the one before it
pub no_other_client : (new : HubState) → StepOf place_taken_again (Command.IsConnected 3) (Reply.Flag true) new → ⊥
no_other_client new step = let known = simp literals at step in not_some_true known.0
  where
    not_some_true : Some false ≡ Some true → ⊥
    not_some_true e = cc

-- a late answer is not refused
pub no_refused_late_answer : (e : SendError) (new : HubState) → StepOf asked_again (Command.Send 4) (Reply.SendError e) new → ⊥
no_refused_late_answer e new step = let known = simp literals at step in not_true known.0

-- a loan of another length than one is not refused as one too many
pub no_other_refusal : (e : LoanError) (new : HubState) → StepOf idle (Command.Loan 0 2) (Reply.LoanError e) new → ⊥
no_other_refusal e new step = let refused = step.0 in cc
