-- The contents of a book.
use Rattle.std.specs.Prelude.{◌≡◌, ◌≢◌, ⊤, ℕ, ◌+◌, ◌^◌, ◌<◌, ◌≤◌, List, [], ◌∷◌, length, slice_get, Some, None, Result, Ok, Err}
use Rattle.rr_protocol.specs.declared.limits.Limits.{Limits}
use Rattle.rr_protocol.specs.declared.error.HubCreateError.{HubCreateError}
use Rattle.rr_protocol.specs.Limits.{hub_refusal}
use Rattle.rr_locked.specs.Sums.{worth}
use Rattle.rr_locked.specs.declared.receipt.Receipt.{Receipt}
use Rattle.rr_locked.specs.Machine.{HubState, Entry, LeadsTo}
use Rattle.rr_locked.specs.Receipts.{opening_number, history_numbers}

-- a hub that threads share, as contracts see it
pub record Start : Type 0 where
  pub limits : Limits
  pub node_id : ℕ

abbrev pub start : Limits → ℕ → Start
start limits node_id = record { limits = limits; node_id = node_id }

-- a book as contracts see it: its limits and node id, its history, and the number of seats that it made
pub record Log : Type 0 where
  pub limits : Limits
  pub node_id : ℕ
  pub history : List Entry
  pub made : ℕ

abbrev pub log : Limits → ℕ → List Entry → ℕ → Log
log limits node_id history made = record { limits = limits; node_id = node_id; history = history; made = made }

-- a book with an empty history and no seats is made, unless the limits are refused: it takes no memory
abbrev pub OpensBook : {A : Type 0} → Limits → ℕ → (A → Log) → Result A HubCreateError → Type 0
OpensBook limits node_id book (Ok made) = (hub_refusal limits ≡ None) × (book made ≡ log limits node_id [] 0)
OpensBook limits node_id book (Err error) = hub_refusal limits ≡ Some error

abbrev pub CreatesBook : Limits → ℕ → Result Log HubCreateError → Type 0
CreatesBook limits node_id result = OpensBook limits node_id (λ book. book) result

-- a hub with these limits and this node id is made, unless the limits are refused: it takes no memory
abbrev pub CreatesLocked : Limits → ℕ → Result Start HubCreateError → Type 0
CreatesLocked limits node_id (Ok hub) = (hub_refusal limits ≡ None) × (hub ≡ start limits node_id)
CreatesLocked limits node_id (Err error) = hub_refusal limits ≡ Some error

-- the history leads from the empty hub to some state
abbrev pub IsLegal : Limits → ℕ → List Entry → Type 0
IsLegal limits node_id history = (now : HubState) × LeadsTo limits node_id history now

-- there are 2 ^ 20 + 2 parts: one for each seat, one for the opening, and one that the book keeps
pub record IsKept (now : HubState) (limits : Limits) (node_id : ℕ) (history : List Entry)
    (made total parts amount cut : ℕ) : Type 0 where
  pub makes_hub : hub_refusal limits ≡ None
  pub legal : LeadsTo limits node_id history now
  pub counted : total ≡ worth 84 (opening_number limits node_id ∷ history_numbers 0 history)
  pub left : parts + made + 1 ≡ 1048578
  pub seats : made ≤ 1048576
  pub nothing_else : amount ≡ 0
  pub whole : cut ≡ 1048578
  pub few : length history < 2 ^ 64

-- each receipt is in the history at its place
abbrev pub AllStand : List Entry → List Receipt → Type 0
AllStand history [] = ⊤
AllStand history (r ∷ rs) = (slice_get history r.place ≡ Some (r.command, r.reply)) × AllStand history rs

-- none has this place
abbrev pub NoneAt : ℕ → List Receipt → Type 0
NoneAt place [] = ⊤
NoneAt place (r ∷ rs) = (r.place ≢ place) × NoneAt place rs

-- no two receipts have the same place
abbrev pub AreApart : List Receipt → Type 0
AreApart [] = ⊤
AreApart (r ∷ rs) = NoneAt r.place rs × AreApart rs

-- the receipts are the entries of the history: each is in it at its place, no two have the same place, and their
-- number is the history's length
pub record IsWhole (hub : Start) (receipts : List Receipt) (book : Log) : Type 0 where
  pub stand : AllStand book.history receipts
  pub apart : AreApart receipts
  pub as_many : length receipts ≡ length book.history
  pub same_limits : book.limits ≡ hub.limits
  pub same_node : book.node_id ≡ hub.node_id
