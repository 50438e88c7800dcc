-- The effect of writes on a stored sender and on the stage of a handle, and when a message can be sent.
use Rattle.std.specs.Prelude.{◌==◌, Bool, false, length}
use Rattle.rr_slots.specs.Pools.{Written}
use Rattle.rr_sender.specs.Senders.{Messages}
use Rattle.rr_protocol.specs.Messages.{Handle, RequestMutUninit, ResponseMutUninit}
use Rattle.rr_protocol.specs.Writing.{is_complete}
use Rattle.rr_store.specs.declared.handle_entry.Stage.{Stage}
use Rattle.rr_store.specs.declared.handle_entry.Stage.TheVariants as stage
use Rattle.rr_store.specs.declared.port.OwnedSender.{OwnedSender}

-- whether as many elements were written as were loaned
abbrev pub is_written : {T : Type 0} → Written T → Bool
is_written w = length w.elements == w.asked_len

-- a sender of the same port, with other messages
abbrev pub with_messages : {B T N H : Type 0} → OwnedSender B N H T → Messages T N H → OwnedSender B N H T
with_messages sender messages = record sender { messages = messages }

-- the stage once a message that was being written can be sent; other stages stay
abbrev pub initialised : Stage → Stage
initialised stage.RequestMutUninit = stage.RequestMut
initialised stage.ResponseMutUninit = stage.ResponseMut
initialised g = g

-- whether a handle's message is being written, and complete
abbrev pub is_ready : {Q QH P PH : Type 0} → Handle Q QH P PH → Bool
is_ready (RequestMutUninit m) = is_complete m.content
is_ready (ResponseMutUninit m) = is_complete m.content
is_ready _ = false
