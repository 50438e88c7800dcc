-- The effect of a release, part by part.
use Rattle.std.specs.Prelude.{◌≡◌, ℕ, Some, ◌-◌, Bool, true, false, slice_index, slice_set}
use Rattle.std.specs.FinMap as fin_map
use Rattle.rr_sender.specs.Senders.{Messages, borrowed_at, given_back, with_held, with_borrowed}
use Rattle.rr_protocol.specs.Messages.{Handle, RequestMutUninit, RequestMut, ActiveRequest, ResponseMutUninit, ResponseMut, Response, port_of}
use Rattle.rr_protocol.specs.Releases.{after_handle_gone}
use Rattle.rr_protocol.specs.State.{State, handle_at}
use Rattle.rr_store.specs.declared.handle_entry.Stage.{Stage}
use Rattle.rr_store.specs.declared.handle_entry.Stage.TheVariants as stage
use Rattle.rr_store.specs.Parts.{Sender}
use Rattle.rr_store.specs.Views.{no_server}

-- a request on loan
abbrev pub is_loaned_request : {Q QH P PH : Type 0} → Handle Q QH P PH → Bool
is_loaned_request (RequestMutUninit m) = true
is_loaned_request (RequestMut m) = true
is_loaned_request _ = false

-- a response that was received
abbrev pub is_received_response : {Q QH P PH : Type 0} → Handle Q QH P PH → Bool
is_received_response (Response m) = true
is_received_response _ = false

-- a response on loan
abbrev pub is_loaned_response : {Q QH P PH : Type 0} → Handle Q QH P PH → Bool
is_loaned_response (ResponseMutUninit m) = true
is_loaned_response (ResponseMut m) = true
is_loaned_response _ = false

-- a request that a server received
abbrev pub is_active_request : {Q QH P PH : Type 0} → Handle Q QH P PH → Bool
is_active_request (ActiveRequest a) = true
is_active_request _ = false

-- the server that received an active request
abbrev pub server_of_stage : Stage → ℕ
server_of_stage (stage.ActiveRequest server loans) = server
server_of_stage _ = 0

-- after a slot lost one holder
abbrev pub held_once_less : {T N H : Type 0} → Messages T N H → ℕ → Messages T N H
held_once_less m slot = with_held m slot (slice_index m.held slot - 1)

-- and the receiver has one borrow less from a channel
abbrev pub borrow_ended : {T N H : Type 0} → Messages T N H → ℕ → ℕ → ℕ → Messages T N H
borrow_ended m receiver channel slot =
    held_once_less (with_borrowed m receiver channel (borrowed_at m receiver channel - 1)) slot

-- and the slot is emptied if that was its last use
abbrev pub borrow_given_back : {T N H : Type 0} → Messages T N H → ℕ → ℕ → ℕ → Messages T N H
borrow_given_back m receiver channel slot =
    given_back (with_borrowed m receiver channel (borrowed_at m receiver channel - 1)) slot

-- a sender after the mark at an index was cleared
abbrev pub without_mark : {T N H : Type 0} → ℕ → Sender T N H → Sender T N H
without_mark index l = record l { may_answer = slice_set l.may_answer index no_server }

-- a sender with one message less on loan
abbrev pub without_loan : {T N H : Type 0} → Sender T N H → Sender T N H
without_loan l = record l { loans = l.loans - 1 }

-- a handle was released with everything that depends on it, and it remains to decide whether its port leaves
pub record IsHandleGone {Q QH P PH K : Type 0} (s : State Q QH P PH K) (n port : ℕ) (t : State Q QH P PH K) : Type 0
  where
    pub handle : Handle Q QH P PH
    pub there : handle_at s n ≡ Some handle
    pub its_port : port_of handle ≡ port
    pub gone : t ≡ after_handle_gone (record s { handles = fin_map.remove s.handles n }) handle
