-- Events fit a history: what each of them tells is new, or was given.
use Rattle.std.proofs.Common.{◌≡◌, ℕ, ◌<◌, ◌≤◌, Bool, true, false, cond, eqb, ◌&&◌, List, Some, None, refl, sym, ap, ◌∙◌, subst, arith}
use Rattle.std.specs.Prelude.{◌≢◌, count_by}
use Rattle.std.proofs.lemmas.Bool.{eqb-true, ne_eqb}
use Rattle.rr_protocol.specs.declared.command.Command.{Command}
use Rattle.rr_protocol.specs.declared.reply.Reply.{Reply}
use Rattle.rr_protocol.specs.AnswerRule.{Event, is_active_of, is_loan, is_response, sent_by, received_by, lender_of}
use Rattle.rr_laws.proofs.Occurring.{false_is_true}
use Rattle.rr_laws.proofs.Telling.{IsSilent}
use Rattle.rr_laws.proofs.Growing.{EventFits}

-- what is said only of the event's own number
pub said_of_another : (k j n : ℕ) → k ≢ j → cond (eqb k j) (Some n) None ≡ None
said_of_another k j n other = ap (λ b. cond b (Some n) None) (ne_eqb k j other)

-- and what is said of it is this
pub said_is : (b : Bool) (n m : ℕ) → cond b (Some n) None ≡ Some m → n ≡ m
said_is true n m e = (cc)
said_is false n m e = absurd (let f : None ≡ Some m = e in cc)

-- three tests of which the second fails
second_false : (a b c : Bool) → b ≡ false → (a && b && c) ≡ false
second_false true b c e = ap (λ x. x && c) e
second_false false b c e = refl

module _ {T H K : Type 0} where
  -- an event loans the number k from n, and tells nothing else
  pub record IsLoan (event : Event T H K) (n k : ℕ) : Type 0 where
    pub sends : sent_by event ≡ None
    pub receives : (p : ℕ) → received_by p event ≡ None
    pub responds : (j : ℕ) → is_response j event ≡ false
    pub activates : (server a p : ℕ) → is_active_of server a p event ≡ false
    pub lends : (j : ℕ) → lender_of j event ≡ cond (eqb k j) (Some n) None
    pub loans : is_loan n k event ≡ true

  -- an event sends the response k, and receives none
  pub record IsSend (event : Event T H K) (k : ℕ) : Type 0 where
    pub sends : sent_by event ≡ Some k
    pub receives : (p : ℕ) → received_by p event ≡ None
    pub responds : (j : ℕ) → is_response j event ≡ false

module _ {T H K : Type 0} (history : List (Event T H K)) (event : Event T H K) (next after : ℕ) where
  -- an event that tells nothing
  pub silent_comes : IsSilent event → next ≤ after → EventFits history next after event
  silent_comes quiet more = record {
    more = more;
    lends_new = λ k below. quiet.lends k;
    activates_new = λ server a p below. quiet.activates server a p;
    lends_given = λ k high. quiet.lends k;
    activates_given = λ server a p high. quiet.activates server a p;
    responds_given = λ k high. quiet.responds k;
    lenders = λ k n e. absurd (let f : None ≡ Some n = sym (quiet.lends k) ∙ e in cc);
    sends = λ k e. absurd (let f : None ≡ Some k = sym quiet.sends ∙ e in cc);
    receives = λ p k e. absurd (let f : None ≡ Some k = sym (quiet.receives p) ∙ e in cc);
    first = λ k e. absurd (false_is_true (sym (quiet.responds k) ∙ e));
  }

  -- a loan under the next number
  pub loan_comes : (n k : ℕ) → IsLoan event n k → k ≡ next → next < after → n < next → EventFits history next after event
  loan_comes n k loan is more below = record {
    more = omega (arith, more);
    lends_new = λ j small. loan.lends j ∙ said_of_another k j n (λ e. absurd (omega (arith, is, e, small)));
    activates_new = λ server a p small. loan.activates server a p;
    lends_given = λ j high. loan.lends j ∙ said_of_another k j n (λ e. absurd (omega (arith, is, e, high, more)));
    activates_given = λ server a p high. loan.activates server a p;
    responds_given = λ j high. loan.responds j;
    lenders = λ j m e. omega (arith, said_is (eqb k j) n m (sym (loan.lends j) ∙ e), below, more);
    sends = λ j e. absurd (let f : None ≡ Some j = sym loan.sends ∙ e in cc);
    receives = λ p j e. absurd (let f : None ≡ Some j = sym (loan.receives p) ∙ e in cc);
    first = λ j e. absurd (false_is_true (sym (loan.responds j) ∙ e));
  }

module _ {T H K : Type 0} (history : List (Event T H K)) (next after : ℕ) where
  -- a receive of a request under the next number
  pub received_comes : (server a p : ℕ) → a ≡ next → next < after → EventFits history next after (Command.Receive server, Reply.Active a p)
  received_comes server a p is more = record {
    more = omega (arith, more);
    lends_new = λ k below. refl;
    activates_new = λ s b r below. second_false (eqb server s) (eqb a b) (eqb p r) (ne_eqb a b (λ e. absurd (omega (arith, is, e, below))));
    lends_given = λ k high. refl;
    activates_given = λ s b r high. second_false (eqb server s) (eqb a b) (eqb p r)
        (ne_eqb a b (λ e. absurd (omega (arith, is, e, high, more))));
    responds_given = λ k high. refl;
    lenders = λ k n e. absurd (let f : None ≡ Some n = e in cc);
    sends = λ k e. absurd (let f : None ≡ Some k = e in cc);
    receives = λ q k e. absurd (let f : None ≡ Some k = e in cc);
    first = λ k e. absurd (false_is_true e);
  }

  -- a receive of a response that was not received
  pub responded_comes : (p k : ℕ) → k < next → next ≤ after → count_by (is_response k) history ≡ 0
      → EventFits history next after (Command.Receive p, Reply.Response k)
  responded_comes p k given more unreceived = record {
    more = more;
    lends_new = λ j below. refl;
    activates_new = λ s b r below. refl;
    lends_given = λ j high. refl;
    activates_given = λ s b r high. refl;
    responds_given = λ j high. ne_eqb k j (λ e. absurd (omega (arith, e, high, given, more)));
    lenders = λ j n e. absurd (let f : None ≡ Some n = e in cc);
    sends = λ j e. absurd (let f : None ≡ Some j = e in cc);
    receives = λ q j e. omega (arith, said_is (eqb p q) k j e, given, more);
    first = λ j e. subst (λ i. count_by (is_response i) history ≡ 0) (eqb-true k j e) unreceived;
  }

  -- a send of a response that was loaned
  pub sent_comes : (n : ℕ) → n < next → next ≤ after → EventFits history next after (Command.Send n, Reply.Sent n)
  sent_comes n below more = record {
    more = more;
    lends_new = λ j small. refl;
    activates_new = λ server a p small. refl;
    lends_given = λ j high. refl;
    activates_given = λ server a p high. refl;
    responds_given = λ j high. refl;
    lenders = λ j i e. absurd (let f : None ≡ Some i = e in cc);
    sends = λ j e. omega (arith, below, more, (let f : n ≡ j = cc in f));
    receives = λ p j e. absurd (let f : None ≡ Some j = e in cc);
    first = λ j e. absurd (false_is_true e);
  }

  -- a loan under the next number and the send of it
  pub copied_comes : (n k : ℕ) (v : T) → k ≡ next → next < after → n < next
      → EventFits history next after (Command.SendCopy n v, Reply.Sent k)
  copied_comes n k v is more below = record {
    more = omega (arith, more);
    lends_new = λ j small. said_of_another k j n (λ e. absurd (omega (arith, is, e, small)));
    activates_new = λ server a p small. refl;
    lends_given = λ j high. said_of_another k j n (λ e. absurd (omega (arith, is, e, high, more)));
    activates_given = λ server a p high. refl;
    responds_given = λ j high. refl;
    lenders = λ j i e. omega (arith, said_is (eqb k j) n i e, below, more);
    sends = λ j e. omega (arith, is, more, (let f : k ≡ j = cc in f));
    receives = λ p j e. absurd (let f : None ≡ Some j = e in cc);
    first = λ j e. absurd (false_is_true e);
  }
