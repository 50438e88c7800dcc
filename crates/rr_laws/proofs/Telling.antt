-- What one event tells: of which responses and active requests, and that most events tell nothing.
use Rattle.std.proofs.Common.{◌≡◌, ℕ, Bool, true, false, cond, eqb, ◌&&◌, Option, Some, None, refl, sym, ap, ◌∙◌, subst}
use Rattle.std.specs.Prelude.{option_and_then}
use Rattle.std.specs.Option.{option_map_or}
use Rattle.std.proofs.lemmas.Bool.{eqb-true}
use Rattle.rr_slots.specs.declared.family.Family.{Family}
use Rattle.rr_protocol.specs.declared.kind.Kind.{Kind}
use Rattle.rr_protocol.specs.State.{State}
use Rattle.rr_protocol.specs.Queries.{kind_at}
use Rattle.rr_protocol.specs.declared.command.Command.{Command}
use Rattle.rr_protocol.specs.declared.reply.Reply.{Reply}
use Rattle.rr_protocol.specs.Refusals.{refusal_of_kind, number_in, refusal}
use Rattle.rr_protocol.specs.AnswerRule.{Event, is_active, is_active_of, is_response, sent_by, received_by, lender_of, creates_waiting}
use Rattle.rr_laws.proofs.Occurring.{false_is_true}

-- three tests that all pass
pub three_true : (a b c : Bool) → (a && b && c) ≡ true → (a ≡ true) × (b ≡ true) × (c ≡ true)
three_true true true c e = (refl, refl, e)
three_true true false c e = absurd (false_is_true e)
three_true false b c e = absurd (false_is_true e)

module _ {T H : Type 0} where
  -- whether a reply refuses a command before it acts
  abbrev pub is_refusing : Reply T H → Bool
  is_refusing Reply.Unknown = true
  is_refusing Reply.WrongKind = true
  is_refusing Reply.NumbersExhausted = true
  is_refusing Reply.Incomplete = true
  is_refusing reply = false

module _ {T H K : Type 0} where
  -- an event tells nothing of responses and of active requests
  pub record IsSilent (event : Event T H K) : Type 0 where
    pub sends : sent_by event ≡ None
    pub receives : (p : ℕ) → received_by p event ≡ None
    pub lends : (k : ℕ) → lender_of k event ≡ None
    pub responds : (k : ℕ) → is_response k event ≡ false
    pub activates : (server a p : ℕ) → is_active_of server a p event ≡ false

  abbrev is_receive : Command T H K → Bool
  is_receive (Command.Receive n) = true
  is_receive command = false

  abbrev is_loan : Command T H K → Bool
  is_loan (Command.Loan n len) = true
  is_loan (Command.LoanDefault n len) = true
  is_loan command = false

  -- whether an event may tell something
  abbrev pub speaks : Event T H K → Bool
  speaks (command, Reply.Active a r) = is_receive command
  speaks (command, Reply.Loaned k) = is_loan command
  speaks (command, Reply.Sent k) = true
  speaks (command, Reply.Response k) = true
  speaks event = false

  -- who does not speak is silent
  pub silent : (command : Command T H K) (reply : Reply T H) → speaks (command, reply) ≡ false → IsSilent (command, reply)
  silent (Command.Receive n) (Reply.Active a r) h = absurd (false_is_true (sym h))
  silent (Command.Loan n len) (Reply.Loaned k) h = absurd (false_is_true (sym h))
  silent (Command.LoanDefault n len) (Reply.Loaned k) h = absurd (false_is_true (sym h))
  silent command (Reply.Sent k) h = absurd (false_is_true (sym h))
  silent command (Reply.Response k) h = absurd (false_is_true (sym h))
  silent command reply h = record {
    sends = refl;
    receives = λ p. refl;
    lends = λ k. refl;
    responds = λ k. refl;
    activates = λ server a p. refl;
  }

  -- a refused command is silent
  pub refusing_silent : (command : Command T H K) (reply : Reply T H) → is_refusing reply ≡ true → IsSilent (command, reply)
  refusing_silent command Reply.Unknown h = silent command Reply.Unknown refl
  refusing_silent command Reply.WrongKind h = silent command Reply.WrongKind refl
  refusing_silent command Reply.NumbersExhausted h = silent command Reply.NumbersExhausted refl
  refusing_silent command Reply.Incomplete h = silent command Reply.Incomplete refl
  refusing_silent command reply h = absurd (false_is_true h)

  -- nor does it create a server
  pub refusing_creates_none : (command : Command T H K) (reply : Reply T H) → is_refusing reply ≡ true → (n : ℕ)
      → creates_waiting n (command, reply) ≡ false
  refusing_creates_none (Command.CreateServer settings) (Reply.Created m) h n = absurd (false_is_true h)
  refusing_creates_none command reply h n = refl

  -- a refusal refuses
  pub refusal_refuses : (family : Family) (s : State T H T H K) (command : Command T H K) (reply : Reply T H)
      → refusal family s command ≡ Some reply → is_refusing reply ≡ true
  refusal_refuses family s command reply e = named (number_in command) e
    where
      first : (a b c : Bool) → cond a (Some Reply.WrongKind)
          (cond b (Some Reply.NumbersExhausted) (cond c (Some Reply.Incomplete) None)) ≡ Some reply → is_refusing reply ≡ true
      first true b c e = subst (λ r. is_refusing r ≡ true) (let f : Reply.WrongKind ≡ reply = cc in f) refl
      first false true c e = subst (λ r. is_refusing r ≡ true) (let f : Reply.NumbersExhausted ≡ reply = cc in f) refl
      first false false true e = subst (λ r. is_refusing r ≡ true) (let f : Reply.Incomplete ≡ reply = cc in f) refl
      first false false false e = absurd (cc)

      known : (o : Option Kind) → option_map_or (refusal_of_kind family s command) o (Some Reply.Unknown) ≡ Some reply
          → is_refusing reply ≡ true
      known None e = subst (λ r. is_refusing r ≡ true) (let f : Reply.Unknown ≡ reply = cc in f) refl
      known (Some kind) e = first _ _ _ e

      named : (o : Option ℕ) → option_and_then (λ n. option_map_or (refusal_of_kind family s command) (kind_at s n) (Some Reply.Unknown)) o
          ≡ Some reply → is_refusing reply ≡ true
      named None e = absurd (let f : None ≡ Some reply = e in cc)
      named (Some n) e = known (kind_at s n) e

  -- an active request of a server is one of some server
  pub active_of_some : (server a p : ℕ) (command : Command T H K) (reply : Reply T H) → is_active_of server a p (command, reply) ≡ true
      → is_active a p (command, reply) ≡ true
  active_of_some server a p (Command.Receive n) (Reply.Active b r) h =
      let t = three_true (eqb n server) (eqb b a) (eqb r p) h in
      ap (λ x. x && eqb r p) t.1 ∙ t.2
  active_of_some server a p command reply h = absurd (false_is_true h)

  -- one event makes one active request of a number
  pub active_once : (a server other p q : ℕ) (command : Command T H K) (reply : Reply T H) → is_active_of server a p (command, reply) ≡ true
      → is_active_of other a q (command, reply) ≡ true → (server ≡ other) × (p ≡ q)
  active_once a server other p q (Command.Receive n) (Reply.Active b r) h g =
      let t = three_true (eqb n server) (eqb b a) (eqb r p) h in
      let u = three_true (eqb n other) (eqb b a) (eqb r q) g in
      (sym (eqb-true n server t.0) ∙ eqb-true n other u.0, sym (eqb-true r p t.2) ∙ eqb-true r q u.2)
  active_once a server other p q command reply h g = absurd (false_is_true h)
