-- Writes of all elements of a message.
use Rattle.std.specs.Prelude.{◌≡◌, ◌==◌, ℕ, if◌then◌else◌, List, length, replicate, Option, Some, None, Result, Ok, Err, IsSomeAnd}
use Rattle.std.specs.Option.{option_map_or}
use Rattle.rr_protocol.specs.declared.kind.Kind.{Kind}
use Rattle.rr_protocol.specs.State.{State, handle_at}
use Rattle.rr_protocol.specs.Refusals.{content_in}
use Rattle.rr_protocol.specs.Step.{with_complete}
use Rattle.rr_checked.specs.declared.refusal.Refusal.{Refusal}
use Rattle.rr_checked.specs.declared.refusal.Refusal.TheVariants as call
use Rattle.rr_bytes.specs.Refused.{refusal_by_kind}
use Rattle.rr_bytes.specs.declared.slices.writes.WriteRefusal.{WriteRefusal}
use Rattle.rr_bytes.specs.declared.slices.writes.WriteRefusal.TheVariants as refusal

-- the code of a refused write, which is that of the same refusal of another call
abbrev pub write_code : WriteRefusal → ℕ
write_code refusal.Unknown = 1
write_code refusal.WrongKind = 2
write_code refusal.WrongLength = 5

-- why a message of a kind isn't filled, if it isn't
abbrev pub fill_refusal_of_kind : Kind → Option Refusal
fill_refusal_of_kind Kind.RequestMutUninit = None
fill_refusal_of_kind Kind.ResponseMutUninit = None
fill_refusal_of_kind kind = Some call.WrongKind

module _ {T H K : Type 0} where
  -- why the message of a number isn't filled, if it isn't
  abbrev pub fill_refusal : State T H T H K → ℕ → Option Refusal
  fill_refusal s n = refusal_by_kind fill_refusal_of_kind call.Unknown s n

  -- each element that a message asks for is this one, and it can be sent
  abbrev pub Fills : State T H T H K → ℕ → T → State T H T H K → Type 0
  Fills old n element new =
      IsSomeAnd (handle_at old n) (λ handle. new
      ≡ with_complete old n (replicate (content_in handle).asked_len element))

  -- the message is filled; or that is refused, and nothing changes
  abbrev pub FillsAll : State T H T H K → ℕ → T → Result (Unit {0}) Refusal → State T H T H K → Type 0
  FillsAll old n element (Ok done) new = (fill_refusal old n ≡ None) × Fills old n element new
  FillsAll old n element (Err refused) new = (fill_refusal old n ≡ Some refused) × (new ≡ old)

  -- the message under a number asks for another length, if it is being written
  abbrev pub length_refusal : State T H T H K → ℕ → ℕ → Option WriteRefusal
  length_refusal s n len =
      option_map_or (λ handle. if (content_in handle).asked_len == len then None else Some refusal.WrongLength)
      (handle_at s n) (Some refusal.Unknown)

  -- the first refusal of a write of this many elements, if one applies
  abbrev pub write_refusal_of_kind : State T H T H K → ℕ → ℕ → Kind → Option WriteRefusal
  write_refusal_of_kind s n len Kind.RequestMutUninit = length_refusal s n len
  write_refusal_of_kind s n len Kind.ResponseMutUninit = length_refusal s n len
  write_refusal_of_kind s n len kind = Some refusal.WrongKind

  abbrev pub write_refusal : State T H T H K → ℕ → ℕ → Option WriteRefusal
  write_refusal s n len = refusal_by_kind (write_refusal_of_kind s n len) refusal.Unknown s n

  -- the message has these elements, and can be sent; or the write is refused, and nothing changes
  abbrev pub WritesAll : State T H T H K → ℕ → List T → Result (Unit {0}) WriteRefusal → State T H T H K → Type 0
  WritesAll old n elements (Ok done) new =
      (write_refusal old n (length elements) ≡ None) × (new ≡ with_complete old n elements)
  WritesAll old n elements (Err refused) new = (write_refusal old n (length elements) ≡ Some refused) × (new ≡ old)
