-- Room for one more port among those that left, and how many senders there are after a creation.
use Rattle.std.proofs.Common.{◌≡◌, ◌≤◌, ◌+◌, ◌++◌, ◌∷◌, [], ℕ, List, Option, None, Some, Result, Ok, Err, length, sym, ap, ◌∙◌, subst, arith}
use Rattle.std.specs.Prelude.{OnErr, OnOk, if◌then◌else◌, is_some, slice_set}
use Rattle.std.proofs.lemmas.List.{length-append, length-set}
use Rattle.rr_protocol.specs.State.{State}
use Rattle.rr_store.specs.declared.port.LeftPort.{LeftPort}
use Rattle.rr_store.specs.Creating.{idle_left, senders_after}
use Rattle.rr_store.specs.Parts.{Parts, Sender}
use Rattle.rr_store.specs.Reaching.{IsCore}
use Rattle.rr_store.specs.Views.{state_of}
use Rattle.rr_creating.proofs.laws.Roomier.{roomier_core}

-- what is true in any case is true where there was an error
pub in_any_case : {X E : Type 0} (A : Type 0) (result : Result X E) → A → OnErr result A
in_any_case A (Ok x) a = tt
in_any_case A (Err error) a = a

-- what follows from what is true where there was none is true there
pub then_ok : {X E A B : Type 0} (result : Result X E) → (A → B) → OnOk result A → OnOk result B
then_ok (Ok x) follows a = follows a
then_ok (Err error) follows a = tt

-- how many senders there are, where none could be taken, and where one was
module _ {T N H : Type 0} (senders : List (Sender T N H)) (left : List LeftPort) where
  abbrev many : Option ℕ → ℕ
  many idle = if is_some idle then length senders else length senders + 1

  pub one_more : (new : Sender T N H) → None ≡ idle_left senders left → length (senders ++ new ∷ []) ≡ senders_after senders left
  one_more new none = length-append senders (new ∷ []) ∙ ap many none

  pub as_many : (index sender : ℕ) (new : Sender T N H) → Some index ≡ idle_left senders left
      → length (slice_set senders sender new) ≡ senders_after senders left
  as_many index sender new found = length-set senders sender new ∙ ap many found

module _ {Q QH P PH K : Type 0} (p : Parts Q QH P PH K) (core : IsCore p) (q : Parts Q QH P PH K) where
  module _ (same : state_of q ≡ state_of p) (t : Parts Q QH P PH K) where
    -- what a call does of which nothing was seen before it
    pub ok_after : {X E : Type 0} (change : State Q QH P PH K → State Q QH P PH K) (result : Result X E)
        → OnOk result (state_of t ≡ change (state_of q)) → OnOk result (state_of t ≡ change (state_of p))
    ok_after change (Ok x) is = is ∙ ap change same
    ok_after change (Err error) is = tt

    pub err_after : {X E : Type 0} (result : Result X E) → OnErr result (t ≡ q) → OnErr result (state_of t ≡ state_of p)
    err_after (Ok x) is = tt
    err_after (Err error) is = ap state_of is ∙ same

  module _ (rest : q ≡ record p { client_room = q.client_room }) where
    -- contracts see the same
    pub client_room_view : state_of q ≡ state_of p
    client_room_view = ap state_of rest

    -- it is a core
    pub client_room_core : p.client_room ≤ q.client_room → IsCore q
    client_room_core more = subst IsCore (sym rest) (roomier_core p q.client_room p.server_room more (omega arith) core)

  module _ (rest : q ≡ record p { server_room = q.server_room }) where
    -- contracts see the same
    pub server_room_view : state_of q ≡ state_of p
    server_room_view = ap state_of rest

    -- it is a core
    pub server_room_core : p.server_room ≤ q.server_room → IsCore q
    server_room_core more = subst IsCore (sym rest) (roomier_core p p.client_room q.server_room (omega arith) more core)
