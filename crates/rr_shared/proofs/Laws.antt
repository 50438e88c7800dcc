-- What a call tells of the histories before and after it, and what two seats tell that meet.
use Rattle.std.proofs.Common.{◌≡◌, ◌≤◌, ◌+◌, ◌⊎◌, ℕ, Bool, true, false, eqb, cond, if◌then◌else◌, List, [], ◌∷◌, ◌++◌, map, Option, Some, None, refl, ap, sym, subst, inl, inr, ◌∙◌, arith, append_assoc, eq-eqb, eqb→eq}
use Rattle.std.specs.Prelude.{◌||◌, ◌&&◌, IfSome, IsTrue, T, count_by}
use Rattle.std.specs.List.{list_any}
use Rattle.std.proofs.lemmas.List.{append-nil, map-append}
use Rattle.std.proofs.lemmas.List.Folds.{list_any-append}
use Rattle.std.proofs.lemmas.List.Sums.{sum_by-cons}
use mathlib.Core.List.{IsPrefix}
use Rattle.rr_slots.specs.declared.family.Family.{Family}
use Rattle.rr_protocol.specs.declared.limits.Limits.{Limits}
use Rattle.rr_protocol.specs.declared.command.Command.{Command}
use Rattle.rr_protocol.specs.declared.reply.Reply.{Reply}
use Rattle.rr_protocol.specs.AnswerRule.{Event, KeepsAnswerRule, ReceivesOnce, is_active, is_loan, is_response, is_sent, is_sent_copy, occur_in_order}
use Rattle.rr_laws.specs.Unreduced.{asked_in, is_out_of_memory}
use Rattle.rr_laws.specs.Whole.{HasWholePool, NeverRunsDry}
use Rattle.rr_log.specs.Entries.{entries_of, Follows}
use Rattle.rr_log.proofs.Lists.{entries-append}
use Rattle.rr_shared.specs.Histories.{Seated, history_of, MakesCall, without_callers}
use Rattle.rr_shared.specs.Laws.{calls_of, FindsRoom, HasReceived, IsAnswered, WasSentFor}

or_left : (a b : Bool) → a ≡ true → (a || b) ≡ true
or_left true b is = refl
or_left false b is = absurd (cc is)

or_right : (a b : Bool) → b ≡ true → (a || b) ≡ true
or_right true b is = refl
or_right false b is = is

module _ {E : Type 0} (p : E → Bool) where
  count-cons : (x : E) (xs : List E) → count_by p (x ∷ xs) ≡ cond (p x) 1 0 + count_by p xs
  count-cons = sum_by-cons (λ x. cond (p x) 1 0)

  -- what some entry passes, some entry of a longer list passes
  any_more : (xs ys : List E) → list_any p xs ≡ true → list_any p (xs ++ ys) ≡ true
  any_more xs ys is = list_any-append p xs ys ∙ or_left (list_any p xs) (list_any p ys) is

  -- where no entry passes, none of a caller does
  none_of : (caller : ℕ) (xs : List (ℕ × E)) → count_by p (map (λ x. x.1) xs) ≡ 0 → list_any p (entries_of caller xs) ≡ false
  none_of caller [] none = refl
  none_of caller (x ∷ xs) none =
      step (none_of caller xs) (p x.1) (eqb x.0 caller) refl (sym (count-cons x.1 (map (λ x. x.1) xs)) ∙ none)
    where
      step : (count_by p (map (λ x. x.1) xs) ≡ 0 → list_any p (entries_of caller xs) ≡ false) → (passes own : Bool) → p x.1 ≡ passes
          → cond passes 1 0 + count_by p (map (λ x. x.1) xs) ≡ 0
          → list_any p (if own then x.1 ∷ entries_of caller xs else entries_of caller xs) ≡ false
      step rest true own is count = absurd (omega (arith, count))
      step rest false true is count = ap (λ b. b || list_any p (entries_of caller xs)) is ∙ rest (omega (arith, count))
      step rest false false is count = rest (omega (arith, count))

  -- where one entry at most passes, whoever has one that does is the same caller
  only_one : (a b : ℕ) (xs : List (ℕ × E)) → count_by p (map (λ x. x.1) xs) ≤ 1 → list_any p (entries_of a xs) ≡ true
      → list_any p (entries_of b xs) ≡ true → a ≡ b
  only_one a b [] count one two = absurd (cc one)
  only_one a b (x ∷ xs) count one two =
      step (only_one a b xs) (p x.1) refl (subst (λ n. n ≤ 1) (count-cons x.1 (map (λ x. x.1) xs)) count)
    where
      own : (c : ℕ) → count_by p (map (λ x. x.1) xs) ≡ 0 → (same : Bool) → eqb x.0 c ≡ same
          → list_any p (if same then x.1 ∷ entries_of c xs else entries_of c xs) ≡ true → x.0 ≡ c
      own c none true same any = eqb→eq x.0 c (subst T (sym same) tt)
      own c none false same any = absurd (let e : false ≡ true = sym (none_of c xs none) ∙ any in cc e)

      later : (c : ℕ) → p x.1 ≡ false → (same : Bool) → list_any p (if same then x.1 ∷ entries_of c xs else entries_of c xs) ≡ true
          → list_any p (entries_of c xs) ≡ true
      later c is true any = sym (ap (λ b. b || list_any p (entries_of c xs)) is) ∙ any
      later c is false any = any

      step : (count_by p (map (λ x. x.1) xs) ≤ 1 → list_any p (entries_of a xs) ≡ true → list_any p (entries_of b xs) ≡ true → a ≡ b)
          → (passes : Bool) → p x.1 ≡ passes → cond passes 1 0 + count_by p (map (λ x. x.1) xs) ≤ 1 → a ≡ b
      step rest true is most =
          let none : count_by p (map (λ x. x.1) xs) ≡ 0 = omega (arith, most) in
          sym (own a none (eqb x.0 a) refl one) ∙ own b none (eqb x.0 b) refl two
      step rest false is most = rest (omega (arith, most)) (later a is (eqb x.0 a) one) (later b is (eqb x.0 b) two)

module _ {T H K : Type 0} where
  -- events that occur in order in a history do so in a longer one
  occurs_more : (tests : List (Event T H K → Bool)) (xs ys : List (Event T H K)) → occur_in_order tests xs ≡ true → occur_in_order tests (xs ++ ys) ≡ true
  occurs_more [] xs ys is = refl
  occurs_more (test ∷ tests) [] ys is = absurd (cc is)
  occurs_more (test ∷ tests) (x ∷ xs) ys is =
      step (occurs_more tests xs ys) (occurs_more (test ∷ tests) xs ys) (test x) (occur_in_order tests xs) refl is
    where
      step : (occur_in_order tests xs ≡ true → occur_in_order tests (xs ++ ys) ≡ true)
          → (occur_in_order (test ∷ tests) xs ≡ true → occur_in_order (test ∷ tests) (xs ++ ys) ≡ true)
          → (first rest : Bool) → occur_in_order tests xs ≡ rest → ((first && rest) || occur_in_order (test ∷ tests) xs) ≡ true
          → ((first && occur_in_order tests (xs ++ ys)) || occur_in_order (test ∷ tests) (xs ++ ys)) ≡ true
      step later again true true rest is = or_left (occur_in_order tests (xs ++ ys)) (occur_in_order (test ∷ tests) (xs ++ ys)) (later rest)
      step later again true false rest is = or_right (occur_in_order tests (xs ++ ys)) (occur_in_order (test ∷ tests) (xs ++ ys)) (again is)
      step later again false rest known is = again is

  -- what others add is no call of the seat
  pub no_more : (caller : ℕ) (seen calls : List (ℕ × Event T H K)) → Follows caller seen calls → entries_of caller calls ≡ entries_of caller seen
  no_more caller seen calls follows =
      ap (entries_of caller) follows.1 ∙ entries-append caller seen follows.0
      ∙ ap (λ others. entries_of caller seen ++ others) follows.2 ∙ append-nil (entries_of caller seen)

  -- a seat's own calls go on by this one
  pub own_call : (command : Command T H K) (reply : Reply T H) (old new : Seated T H K) → MakesCall command reply old new
      → calls_of new ≡ calls_of old ++ (command, reply) ∷ []
  own_call command reply old new made =
      let call : List (Event T H K) = (command, reply) ∷ [] in
      ap calls_of made.1
      ∙ entries-append old.0 (old.1 ++ made.0) ((old.0, (command, reply)) ∷ [])
      ∙ ap (λ own. entries_of old.0 (old.1 ++ made.0) ++ (if own then call else [])) (eq-eqb old.0 old.0 refl)
      ∙ ap (λ calls. calls ++ call) (entries-append old.0 old.1 made.0 ∙ ap (λ calls. calls_of old ++ calls) made.2 ∙ append-nil (calls_of old))

  -- and what it has seen begins what it has seen then
  pub seen_begins : (command : Command T H K) (reply : Reply T H) (old new : Seated T H K) → MakesCall command reply old new → IsPrefix old.1 new.1
  seen_begins command reply old new made = (
    made.0 ++ (old.0, (command, reply)) ∷ [],
    sym (append_assoc old.1 made.0 ((old.0, (command, reply)) ∷ [])) ∙ sym (ap (λ s. s.1) made.1),
  )

  -- the history up to the call
  before_call : (command : Command T H K) (reply : Reply T H) (old new : Seated T H K) (made : MakesCall command reply old new)
      → history_of new ≡ (history_of old ++ without_callers made.0) ++ (command, reply) ∷ []
  before_call command reply old new made =
      ap history_of made.1 ∙ map-append (λ call. call.1) (old.1 ++ made.0) ((old.0, (command, reply)) ∷ [])
      ∙ ap (λ h. h ++ (command, reply) ∷ []) (map-append (λ call. call.1) old.1 made.0)

  -- a response that a seat receives was sent for the request
  pub was_sent_for : (limits : Limits) (p k : ℕ) (old new : Seated T H K) → MakesCall (Command.Receive p) (Reply.Response k) old new
      → KeepsAnswerRule limits (history_of new) → WasSentFor p k (history_of new)
  was_sent_for limits p k old new made rule =
      let before : List (Event T H K) = history_of old ++ without_callers made.0 in
      let is = before_call (Command.Receive p) (Reply.Response k) old new made in
      let answer = rule.answers before [] p k is in
      subst (WasSentFor p k) (sym is) (answer.0, more before answer.0 answer.1)
    where
      loaned : ℕ → List (Event T H K → Bool)
      loaned a = is_active a p ∷ is_loan a k ∷ is_sent k ∷ []

      copied : ℕ → List (Event T H K → Bool)
      copied a = is_active a p ∷ is_sent_copy a k ∷ []

      more : (before : List (Event T H K)) (a : ℕ) → IsTrue (occur_in_order (loaned a) before) ⊎ IsTrue (occur_in_order (copied a) before)
          → IsTrue (occur_in_order (loaned a) (before ++ (Command.Receive p, Reply.Response k) ∷ []))
          ⊎ IsTrue (occur_in_order (copied a) (before ++ (Command.Receive p, Reply.Response k) ∷ []))
      more before a (inl sent) = inl (occurs_more (loaned a) before ((Command.Receive p, Reply.Response k) ∷ []) sent)
      more before a (inr sent) = inr (occurs_more (copied a) before ((Command.Receive p, Reply.Response k) ∷ []) sent)

  -- and so does each call
  pub is_answered : (limits : Limits) (command : Command T H K) (reply : Reply T H) (old new : Seated T H K) → MakesCall command reply old new
      → KeepsAnswerRule limits (history_of new) → IsAnswered command reply (history_of new)
  is_answered limits (Command.Receive p) (Reply.Response k) old new made rule = was_sent_for limits p k old new made rule
  is_answered limits command reply old new made rule = tt

  -- a response that a seat received was received in each longer history
  within : (k : ℕ) (one other : Seated T H K) → IsPrefix one.1 other.1 → HasReceived k one → list_any (is_response k) (entries_of one.0 other.1) ≡ true
  within k one other begins has =
      subst (λ xs. list_any (is_response k) (entries_of one.0 xs) ≡ true) begins.1
      (ap (list_any (is_response k)) (entries-append one.0 one.1 begins.0)
      ∙ any_more (is_response k) (calls_of one) (entries_of one.0 begins.0) has)

  -- of two seats that meet, one received it
  pub received_once : (k : ℕ) (one other : Seated T H K) → IsPrefix one.1 other.1 ⊎ IsPrefix other.1 one.1 → ReceivesOnce (history_of one)
      → ReceivesOnce (history_of other) → HasReceived k one → HasReceived k other → one.0 ≡ other.0
  received_once k one other (inl begins) once rule has also =
      only_one (is_response k) one.0 other.0 other.1 (rule k) (within k one other begins has) also
  received_once k one other (inr begins) rule once has also =
      only_one (is_response k) one.0 other.0 one.1 (rule k) has (within k other one begins also)

module _ {T H K : Type 0} (family : Family) (limits : Limits) where
  -- a whole pool is one in a longer history
  has_more : (xs ys : List (Event T H K)) (n len : ℕ) → HasWholePool family limits xs n len → HasWholePool family limits (xs ++ ys) n len
  has_more xs ys n len (inl client) = inl (any_more _ xs ys client)
  has_more xs ys n len (inr server) = inr (server.0, server.1, any_more _ xs ys server.2, any_more _ xs ys server.3)

  -- a loan from it is not refused for want of memory
  pub finds_room : (command : Command T H K) (reply : Reply T H) (old new : Seated T H K) → MakesCall command reply old new
      → NeverRunsDry family limits (history_of new) → FindsRoom family limits command reply (history_of old)
  finds_room command reply old new made dry = step (asked_in command) refl
    where
      step : (asked : Option (ℕ × ℕ)) → asked_in command ≡ asked
          → IfSome asked (λ one. HasWholePool family limits (history_of old) one.0 one.1 → is_out_of_memory reply ≡ false)
      step None is = tt
      step (Some (n, len)) is = λ has.
          dry (history_of old ++ without_callers made.0) [] command reply n len (before_call command reply old new made) is
          (has_more (history_of old) (without_callers made.0) n len has)
