-- The places that a runner knows: that of each handle, unless one was lost for want of memory.
use Rattle.std.specs.Prelude.{◌≡◌, ◌≢◌, ◌⊎◌, ◌==◌, ◌%◌, ℕ, true, if◌then◌else◌, get_or, Option, None, Some}
use Rattle.std.specs.HashMap.{get}
use Rattle.rr_table.specs.declared.place.Place.{Place}
use Rattle.rr_protocol.specs.State.{State, handle_at}
use Rattle.rr_protocol.specs.declared.command.Command.{Command}
use Rattle.rr_protocol.specs.declared.reply.Reply.{Reply}
use Rattle.rr_run.specs.declared.places.Spot.{Spot}
use Rattle.rr_run.specs.declared.places.Places.{Places}

-- the place of a number, given its spot and its place beside the spots
abbrev pub place_at : Option Spot → ℕ → Option Place → Option Place
place_at (Some spot) n other = if spot.number == n then Some spot.place else other
place_at None n other = other

-- the place of a number beside the spots
abbrev pub place_aside : Places → ℕ → Option Place
place_aside p n = get (λ a b. a == b) p.others n

-- the place that is known for a number
abbrev pub place_of : Places → ℕ → Option Place
place_of p n = place_at (get_or p.spots (n % 16) None) n (place_aside p n)

-- a place of this number was added beside the spots, and none was removed; or one was lost now or before
abbrev pub SetsAside : Places → ℕ → Places → Type 0
SetsAside old n new =
    new.is_complete ≡ true → (old.is_complete ≡ true)
    × ((k : ℕ) → place_aside new k ≡ None → (place_aside old k ≡ None) × (n ≢ k))

-- this place was added, if there was one, and none was removed; or one was lost now or before
abbrev pub Remembers : Places → Option ℕ → Places → Type 0
Remembers old None new = new ≡ old
Remembers old (Some n) new =
    new.is_complete ≡ true → (old.is_complete ≡ true)
    × ((k : ℕ) → place_of new k ≡ None → (place_of old k ≡ None) × (n ≢ k))

-- this place was removed, and no other
abbrev pub Forgets : Places → ℕ → Places → Type 0
Forgets old n new =
    (new.is_complete ≡ old.is_complete) × (place_of new n ≡ None)
    × ((k : ℕ) → k ≢ n → place_of new k ≡ place_of old k)

module _ {T H K : Type 0} where
  -- every handle has a place, unless one was lost
  abbrev pub KnowsHandles : Places → State T H T H K → Type 0
  KnowsHandles p s = p.is_complete ≡ true → (n : ℕ) → place_of p n ≡ None → handle_at s n ≡ None

  -- places stay, or that of a released handle is removed
  abbrev pub ForgetsGone : Places → ℕ → State T H T H K → Places → Type 0
  ForgetsGone old n s new = (new ≡ old) ⊎ (Forgets old n new × (handle_at s n ≡ None))

  -- the number of the handle that a command makes, by its reply
  abbrev pub given : Command T H K → Reply T H → Option ℕ
  given (Command.Loan n len) (Reply.Loaned k) = Some k
  given (Command.LoanDefault n len) (Reply.Loaned k) = Some k
  given (Command.SendCopy n v) (Reply.Pending k connections) = Some k
  given (Command.Receive n) (Reply.Active a r) = Some a
  given (Command.Receive n) (Reply.Response k) = Some k
  given command reply = None

  -- the places after a command: with that of the handle that it makes, without that of the handle that it consumes
  abbrev pub Notes : Places → Command T H K → Reply T H → State T H T H K → Places → Type 0
  Notes old (Command.Send n) reply s new = ForgetsGone old n s new
  Notes old (Command.Release n) reply s new = ForgetsGone old n s new
  Notes old command reply s new = Remembers old (given command reply) new
