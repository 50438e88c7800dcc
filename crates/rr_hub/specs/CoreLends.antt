-- The final value of a core, once a `&mut` into one of its messages has ended. The arguments before the core name the
-- members of the bounds.
use Rattle.std.specs.Prelude.{ℕ, List, length, Option}
use Rattle.std.specs.List.{refill}
use Rattle.std.specs.Borrow.{Fml, RattleType, MutBor, Array, Lends}
use Rattle.std.specs.contracts.option.Option.{the_row as option_row}
use Rattle.std.specs.declared.default.Default.{Ghosts as Defaulting}
use Rattle.rr_slots.specs.Elements.{option_elements}
use Rattle.rr_slots.specs.declared.body.Body.{Ghosts}
use Rattle.rr_protocol.specs.declared.backpressure.BackpressureFn.{Ghosts as Pressure}
use Rattle.rr_protocol.specs.Messages.{Content, Handle}
use Rattle.rr_protocol.specs.State.{State, with_changed}
use Rattle.rr_protocol.specs.Writing.{with_element_at, with_elements, with_request_content, with_response_content, with_user_header}
use Rattle.rr_hub.specs.contracts.state.Core.{the_row}

-- other elements, of which there are as many as before
abbrev pub refilled : {T H : Type 0} → List T → Content T H → Content T H
refilled items c = with_elements (refill (length c.elements) c.elements items) c

module _ (QB QH PB PH K Q P : RattleType) (request : Ghosts QB.Denot Q.Denot) (default_request : Defaulting QH.Denot)
    (response : Ghosts PB.Denot P.Denot) (default_response : Defaulting PH.Denot) (pressure : Pressure K.Denot)
    (core : MutBor (State Q.Denot QH.Denot P.Denot PH.Denot K.Denot)) (n : ℕ) where
  -- a change of the handle under a number by the last value written through a `&mut`
  abbrev lends_change : (T : RattleType) → MutBor T.Denot
      → (T.Denot → Handle Q.Denot QH.Denot P.Denot PH.Denot → Handle Q.Denot QH.Denot P.Denot PH.Denot) → Fml
  lends_change T r change =
      Lends (the_row QB QH PB PH K Q P request default_request response default_response pressure) T core r
      (λ value. with_changed core.now n (change value))

  -- the element of a request at an index is the last one written through r
  abbrev pub lends_request_element : ℕ → MutBor Q.Denot → Fml
  lends_request_element index r = lends_change Q r (λ element. with_request_content (with_element_at index element))

  -- and so is the element of a response
  abbrev pub lends_response_element : ℕ → MutBor P.Denot → Fml
  lends_response_element index r = lends_change P r (λ element. with_response_content (with_element_at index element))

  -- the user header of a request is the last one written through r
  abbrev pub lends_request_user_header : MutBor QH.Denot → Fml
  lends_request_user_header r = lends_change QH r (λ header. with_request_content (with_user_header header))

  -- and so is the user header of a response
  abbrev pub lends_response_user_header : MutBor PH.Denot → Fml
  lends_response_user_header r = lends_change PH r (λ header. with_response_content (with_user_header header))

  -- the elements of a request are the last ones written through r
  abbrev pub lends_request_slice : MutBor (List Q.Denot) → Fml
  lends_request_slice r = lends_change (Array Q 0) r (λ items. with_request_content (refilled items))

  -- and so are the elements of a response
  abbrev pub lends_response_slice : MutBor (List P.Denot) → Fml
  lends_response_slice r = lends_change (Array P 0) r (λ items. with_response_content (refilled items))

module _ (T QH PB PH K P : RattleType) (default_request : Defaulting QH.Denot) (response : Ghosts PB.Denot P.Denot)
    (default_response : Defaulting PH.Denot) (pressure : Pressure K.Denot)
    (core : MutBor (State T.Denot QH.Denot P.Denot PH.Denot K.Denot)) (n : ℕ) where
  -- the content of a request of one element is the value last written through r
  abbrev pub lends_request_option : Ghosts (Option T.Denot) T.Denot → MutBor (Option T.Denot) → Fml
  lends_request_option request r =
      lends_change (option_row T) QH PB PH K T P request default_request response default_response pressure core n
      (option_row T) r
      (λ item. with_request_content (with_elements (option_elements item)))

module _ (QB QH T PH K Q : RattleType) (request : Ghosts QB.Denot Q.Denot) (default_request : Defaulting QH.Denot)
    (default_response : Defaulting PH.Denot) (pressure : Pressure K.Denot)
    (core : MutBor (State Q.Denot QH.Denot T.Denot PH.Denot K.Denot)) (n : ℕ) where
  -- the content of a response of one element is the value last written through r
  abbrev pub lends_response_option : Ghosts (Option T.Denot) T.Denot → MutBor (Option T.Denot) → Fml
  lends_response_option response r =
      lends_change QB QH (option_row T) PH K Q T request default_request response default_response pressure core n
      (option_row T) r
      (λ item. with_response_content (with_elements (option_elements item)))
