-- The answer rule holds of a whole history with one answer, and not of histories in which a response is read twice or by another request.
use Rattle.std.specs.List.{list_any}
use Rattle.std.proofs.Common.{◌≡◌, ◌≤◌, ◌+◌, ℕ, Bool, true, false, ◌&&◌, ◌||◌, ◌==◌, if◌then◌else◌, List, [], ◌∷◌, ◌++◌, refl, sym, ap, ◌∙◌, inl, inr, arith}
use Rattle.rr_protocol.specs.declared.settings.ServerSettings.{ServerSettings}
use Rattle.rr_protocol.specs.declared.settings.BackpressureStrategy.{BackpressureStrategy}
use Rattle.rr_protocol.specs.declared.command.Command.{Command}
use Rattle.rr_protocol.specs.declared.reply.Reply.{Reply}
use Rattle.rr_protocol.specs.AnswerRule.{Event, IsSubsequence, IsPrefix, ReceivesOnce, ReceivesInOrder, ReceivesWithoutGap, ReceivesAll, AnswersTheRequest, KeepsAnswerRule, sent_for, received_from}
use Rattle.rr_test_core.proofs.States.{NoHandler, not_true, limits, client, server}

abbrev Events : Type 0
Events = List (Event ℕ ℕ NoHandler)

-- a server that waits for room
abbrev waiting_server : ServerSettings NoHandler
waiting_server = record server { strategy = BackpressureStrategy.RetryUntilDelivered }

-- up to the answer
abbrev answered : Events
answered =
    (Command.CreateClient (client BackpressureStrategy.DiscardData), Reply.Created 0) ∷
    (Command.CreateServer waiting_server, Reply.Created 1)
    ∷ (Command.SendCopy 0 123, Reply.Pending 2 1) ∷ (Command.Receive 1, Reply.Active 3 2) ∷ (Command.SendCopy 3 456, Reply.Sent 4) ∷ []

-- the answer is read, and then there is none
abbrev read_once : Events
read_once = answered ++ (Command.Receive 2, Reply.Response 4) ∷ (Command.Receive 2, Reply.Nothing) ∷ []

pub sent_once : sent_for read_once 1 2 ≡ 4 ∷ []
sent_once = refl

pub received_once : received_from read_once 1 2 ≡ 4 ∷ []
received_once = refl

-- whether an event receives a response, or nothing
abbrev is_received : Event ℕ ℕ NoHandler → Bool
is_received (command, Reply.Response k) = true
is_received event = false

abbrev is_nothing : Event ℕ ℕ NoHandler → Bool
is_nothing (command, Reply.Nothing) = true
is_nothing event = false

-- the request that an event asks for, and the response that it receives
abbrev receiver_in : Event ℕ ℕ NoHandler → ℕ
receiver_in (Command.Receive n, reply) = n
receiver_in event = 0

abbrev response_of : Event ℕ ℕ NoHandler → ℕ
response_of (command, Reply.Response k) = k
response_of event = 0

or_true : (b : Bool) → (b || true) ≡ true
or_true true = refl
or_true false = refl

left_false : (b c : Bool) → (b || c) ≡ false → b ≡ false
left_false true c e = cc
left_false false c e = refl

right_false : (b c : Bool) → (b || c) ≡ false → c ≡ false
right_false true c e = cc
right_false false c e = e

any_at : {X : Type 0} (test : X → Bool) (before after : List X) (x : X) → test x ≡ true → list_any test (before ++ x ∷ after) ≡ true
any_at test [] after x passes = rw passes refl
any_at test (z ∷ zs) after x passes = rw (any_at test zs after x passes) (or_true (test z))

-- where one element alone passes a test, an element that passes it is that one, at its place
only_one : {X : Type 0} (test : X → Bool) (firsts lasts : List X) (it : X) → list_any test firsts ≡ false → list_any test lasts ≡ false →
    (before after : List X) (x : X) → test x ≡ true → firsts ++ it ∷ lasts ≡ before ++ x ∷ after → (before ≡ firsts) × (it ≡ x)
only_one test [] lasts it none rest [] after x passes e = let f : it ∷ lasts ≡ x ∷ after = e in (refl, cc)
only_one test [] lasts it none rest (z ∷ zs) after x passes e =
    let f : it ∷ lasts ≡ z ∷ (zs ++ x ∷ after) = e in
    let same : lasts ≡ zs ++ x ∷ after = cc in
    absurd (not_true (sym rest ∙ ap (list_any test) same ∙ any_at test zs after x passes))
only_one test (y ∷ ys) lasts it none rest [] after x passes e =
    let f : y ∷ (ys ++ it ∷ lasts) ≡ x ∷ after = e in
    let same : y ≡ x = cc in
    absurd (not_true (sym (left_false (test y) (list_any test ys) none) ∙ ap test same ∙ passes))
only_one test (y ∷ ys) lasts it none rest (z ∷ zs) after x passes e =
    let f : y ∷ (ys ++ it ∷ lasts) ≡ z ∷ (zs ++ x ∷ after) = e in
    let head : z ≡ y = cc in
    let tail : ys ++ it ∷ lasts ≡ zs ++ x ∷ after = cc in
    let found = only_one test ys lasts it (right_false (test y) (list_any test ys) none) rest zs after x passes tail in
    (rw (head, found.0) refl, found.1)

pub answers : AnswersTheRequest read_once
answers before after p k e =
    let found = only_one is_received answered ((Command.Receive 2, Reply.Nothing) ∷ []) (Command.Receive 2, Reply.Response 4) refl refl
    before after (Command.Receive p, Reply.Response k) refl e in
    rw (found.0, ← ap receiver_in found.1, ← ap response_of found.1) (3, inr refl)

pub once : ReceivesOnce read_once
once k = at_most (4 == k)
  where
    at_most : (b : Bool) → 0 + (if b then 1 else 0) + 0 ≤ 1
    at_most true = omega arith
    at_most false = omega arith

-- the one answer, if the server is the one that sent it and the request is the one that it answers
abbrev answer_if : Bool → Bool → List ℕ
answer_if server request = if (server && true && request || false || false) then 4 ∷ [] else []

pub in_order : ReceivesInOrder read_once
in_order server p = by_request (2 == p) refl
  where
    ordered : (b c : Bool) → c ≡ true → IsSubsequence (answer_if b c) (answer_if b true)
    ordered false c e = tt
    ordered true true e = inl (refl, tt)
    ordered true false e = absurd (not_true e)

    by_request : (c : Bool) → (2 == p) ≡ c → IsSubsequence (received_from read_once server p) (sent_for read_once server p)
    by_request true e = rw e (ordered (1 == server) (2 == p) e)
    by_request false e = rw e tt

pub without_gap : ReceivesWithoutGap read_once
without_gap server p waits = by_request (2 == p) refl
  where
    begins : (b c : Bool) → c ≡ true → IsPrefix (answer_if b c) (answer_if b true)
    begins false c e = ([], refl)
    begins true true e = ([], refl)
    begins true false e = absurd (not_true e)

    by_request : (c : Bool) → (2 == p) ≡ c → IsPrefix (received_from read_once server p) (sent_for read_once server p)
    by_request true e = rw e (begins (1 == server) (2 == p) e)
    by_request false e = rw e (_, refl)

pub all : ReceivesAll read_once
all before after server p e waits held =
    let found = only_one is_nothing (answered ++ (Command.Receive 2, Reply.Response 4) ∷ []) [] (Command.Receive 2, Reply.Nothing) refl refl
    before after (Command.Receive p, Reply.Nothing) refl e in
    rw (found.0, ← ap receiver_in found.1) refl

pub answer_rule : KeepsAnswerRule (limits 2 1 false) read_once
answer_rule = record {
  answers = answers;
  once = once;
  in_order = in_order;
  without_gap = λ no_overflow. without_gap;
  all = λ no_overflow. all;
}

abbrev read_twice : Events
read_twice = (Command.Receive 1, Reply.Active 3 2) ∷ (Command.SendCopy 3 456, Reply.Sent 4) ∷ (Command.Receive 2, Reply.Response 4) ∷
    (Command.Receive 2, Reply.Response 4) ∷ []

abbrev read_by_another : Events
read_by_another = (Command.Receive 1, Reply.Active 3 2) ∷ (Command.SendCopy 3 456, Reply.Sent 4) ∷
    (Command.Receive 5, Reply.Response 4) ∷ []

pub not_twice : ReceivesOnce read_twice → ⊥
not_twice once = omega (arith, once 4)

never : (b c : Bool) → (((b && false) && c) || false) ≡ true → ⊥
never true true e = cc
never true false e = cc
never false true e = cc
never false false e = cc

-- a response to another request: no active request of 5 was handed out before
pub not_by_another : AnswersTheRequest read_by_another → ⊥
not_by_another answers =
    let found = answers ((Command.Receive 1, Reply.Active 3 2) ∷ (Command.SendCopy 3 456, Reply.Sent 4) ∷ []) [] 5 4 refl in
    elim found.1 [ inl loaned ↦ never _ _ loaned | inr copied ↦ never _ _ copied ]

-- a server that waits for room sent two responses, and the second was received without the first
abbrev read_with_gap : Events
read_with_gap =
    (Command.CreateServer waiting_server, Reply.Created 1) ∷ (Command.Receive 1, Reply.Active 3 2) ∷ (Command.SendCopy 3 10, Reply.Sent 4) ∷
    (Command.SendCopy 3 11, Reply.Sent 5)
    ∷ (Command.Receive 2, Reply.Response 5) ∷ []

pub not_with_gap : ReceivesWithoutGap read_with_gap → ⊥
not_with_gap without =
    let found = without 1 2 refl in
    let starts : 4 ∷ 5 ∷ [] ≡ 5 ∷ found.0 = found.1 in
    cc

-- it sent a response, and nothing was received
abbrev read_none : Events
read_none =
    (Command.CreateServer waiting_server, Reply.Created 1) ∷ (Command.Receive 1, Reply.Active 3 2) ∷ (Command.SendCopy 3 10, Reply.Sent 4)
    ∷ (Command.Receive 2, Reply.Nothing) ∷ []

pub not_none : ReceivesAll read_none → ⊥
not_none all =
    let found = all ((Command.CreateServer waiting_server, Reply.Created 1) ∷ (Command.Receive 1, Reply.Active 3 2) ∷
    (Command.SendCopy 3 10, Reply.Sent 4) ∷ []) [] 1 2 refl refl refl in
    let known : ◌≡◌ {A = List ℕ} [] (4 ∷ []) = found in
    cc

-- two responses were received in the other order
abbrev read_turned : Events
read_turned =
    (Command.Receive 1, Reply.Active 3 2) ∷ (Command.SendCopy 3 10, Reply.Sent 4) ∷ (Command.SendCopy 3 11, Reply.Sent 5)
    ∷ (Command.Receive 2, Reply.Response 5) ∷ (Command.Receive 2, Reply.Response 4) ∷ []

pub not_turned : ReceivesInOrder read_turned → ⊥
not_turned in_order = turned (in_order 1 2)
  where
    turned : IsSubsequence (5 ∷ 4 ∷ []) (4 ∷ 5 ∷ []) → ⊥
    turned found = elim found [ inl first ↦ omega (arith, first.0) | inr rest ↦ elim rest [ inl second ↦ second.1 | inr none ↦ none ] ]
