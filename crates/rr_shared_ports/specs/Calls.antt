-- The effect of a function's call on a handle and on a hub.
use Rattle.std.specs.Prelude.{◌≡◌, ◌⊎◌, ℕ, List, Option, Some, None, Result, Ok, Err, IfErr, IfOk, IfSome, [], ◌∷◌}
use Rattle.std.specs.Fn.{Once}
use denote.Ref.{MutBor}
use Rattle.rr_protocol.specs.declared.kind.Kind.{Kind}
use Rattle.rr_ports.specs.declared.try_send.Refused.{Refused}
use Rattle.rr_shared_ports.specs.declared.error.CallError.{CallError}
use Rattle.rr_shared_ports.specs.declared.error.CallError.TheVariants.{Port, NumbersExhausted}

module _ {F A S U : Type 0} (g : Once F (A × (MutBor S × Unit {0})) (U × (MutBor S × Unit {0}))) (number : A → ℕ)
    (f : F) where
  -- a function that takes the handle may be called on the one under a number and on a hub in a state
  abbrev pub CanTake : ℕ → S → Type 0
  CanTake n state = (handle : A) (hub : MutBor S) → number handle ≡ n → hub.now ≡ state → g.pre f (handle, (hub, tt))

  -- of these it returns this, and leaves that state
  abbrev pub Takes : ℕ → S → U → S → Type 0
  Takes n old returned new =
      (handle : A) × (hub : MutBor S) × (left : MutBor S) × g.post f (handle, (hub, tt)) (returned, (left, tt))
      × (number handle ≡ n) × (hub.now ≡ old) × (left.now ≡ new)

module _ {B E : Type 0} (number : B → ℕ) where
  -- the handle that was made is known by its number; or none was made
  abbrev pub IsMade : Result B E → Result ℕ E → Type 0
  IsMade (Ok made) (Ok n) = n ≡ number made
  IsMade (Err error) (Err same) = same ≡ error
  IsMade (Ok made) (Err error) = ⊥
  IsMade (Err error) (Ok n) = ⊥

  -- the received handle is known by its number; or none was received
  abbrev pub IsReceived : Result (Option B) E → Result (Option ℕ) E → Type 0
  IsReceived (Ok (Some made)) (Ok (Some n)) = n ≡ number made
  IsReceived (Ok None) (Ok None) = Unit
  IsReceived (Err error) (Err same) = same ≡ error
  IsReceived made received = ⊥

  module _ {S : Type 0} (kind : Kind) where
    -- a call is a step, and the handle that it makes, if any, is known by a free number
    abbrev pub MakesFree : (List ℕ → S → S → Type 0) → (S → ℕ → Type 0) → (S → ℕ → Kind → Type 0) → S → Result B E → S
        → Type 0
    MakesFree steps is_free names old made new =
        steps [] old new × IfOk made (λ it. is_free old (number it)) × IfOk made (λ it. names new (number it) kind)

    -- the same for a received handle
    abbrev pub ReceivesFree : (List ℕ → S → S → Type 0) → (S → ℕ → Type 0) → (S → ℕ → Kind → Type 0) → S
        → Result (Option B) E → S → Type 0
    ReceivesFree steps is_free names old received new =
        steps [] old new × IfOk received (λ made. IfSome made (λ it. is_free old (number it)))
        × IfOk received (λ made. IfSome made (λ it. names new (number it) kind))

    -- a call is a step that takes one number, and the handle that it makes of it, if any, is known by that number
    abbrev pub TurnsFree : (List ℕ → S → S → Type 0) → (S → ℕ → Kind → Type 0) → ℕ → S → Result B E → S → Type 0
    TurnsFree steps names n old made new =
        steps (n ∷ []) old new × IfOk made (λ it. number it ≡ n) × IfOk made (λ it. names new (number it) kind)

module _ {A B E : Type 0} (held : A → ℕ) (number : B → ℕ) where
  -- the handle that was made is known by its number; or the returned handle is, with its error
  abbrev pub IsTried : Result B (Refused A E) → Result ℕ (Refused ℕ E) → Type 0
  IsTried (Ok made) (Ok n) = n ≡ number made
  IsTried (Err refused) (Err kept) = (kept.message ≡ held refused.message) × (kept.error ≡ refused.error)
  IsTried (Ok made) (Err kept) = ⊥
  IsTried (Err refused) (Ok n) = ⊥

  -- a call is a step that takes one number, and the handle that it makes of it, or returns, is known by that number
  abbrev pub TriesFree : {S : Type 0} → Kind → Kind → (List ℕ → S → S → Type 0) → (S → ℕ → Kind → Type 0) → ℕ → S
      → Result B (Refused A E) → S → Type 0
  TriesFree before after steps names n old made new =
      steps (n ∷ []) old new × IfOk made (λ it. (number it ≡ n) × names new n after)
      × IfErr made (λ refused. (held refused.message ≡ n) × names new n before)

module _ {A U E : Type 0} (held : A → ℕ) where
  -- the call's result is returned; or the returned handle is known by its number, with its error
  abbrev pub IsSpent : Result U (Refused A E) → Result U (Refused ℕ E) → Type 0
  IsSpent (Ok answer) (Ok returned) = returned ≡ answer
  IsSpent (Err refused) (Err kept) = (kept.message ≡ held refused.message) × (kept.error ≡ refused.error)
  IsSpent (Ok answer) (Err kept) = ⊥
  IsSpent (Err refused) (Ok returned) = ⊥

  -- a call is a step that takes one number, and the handle that it returns, if any, is known by that number
  abbrev pub SpendsFree : {S : Type 0} → Kind → (List ℕ → S → S → Type 0) → (S → ℕ → Kind → Type 0) → ℕ → S
      → Result U (Refused A E) → S → Type 0
  SpendsFree kind steps names n old spent new =
      steps (n ∷ []) old new × IfErr spent (λ refused. (held refused.message ≡ n) × names new n kind)

module _ {U E : Type 0} where
  -- the result is that of the port's call
  abbrev pub IsAnswer : Result U E → Result U (CallError E) → Type 0
  IsAnswer (Ok answer) (Ok returned) = returned ≡ answer
  IsAnswer (Err error) (Err (Port returned)) = returned ≡ error
  IsAnswer answer returned = ⊥

  -- the result is that of the port's call; or no number was left, and nothing changed
  abbrev pub Tells : {S : Type 0} → (S → ℕ) → (Result U E → S → S → Type 0) → Result U (CallError E) → S → S → Type 0
  Tells numbers Call returned old new =
      ((answer : Result U E) × IsAnswer answer returned × Call answer old new)
      ⊎ ((returned ≡ Err NumbersExhausted) × (numbers old ≡ 0) × (new ≡ old))
