-- The parts of a core.
use Rattle.std.specs.Prelude.{ℕ, Bool, List}
use Rattle.rr_table.specs.TableView.{TableView}
use Rattle.rr_sender.specs.Senders.{Messages}
use Rattle.rr_protocol.specs.declared.limits.Limits.{Limits}
use Rattle.rr_protocol.specs.Ports.{Port}
use Rattle.rr_store.specs.declared.handle_entry.HandleEntry.{HandleEntry}
use Rattle.rr_store.specs.declared.details.RequestDetails.{RequestDetails}
use Rattle.rr_store.specs.declared.details.ResponseDetails.{ResponseDetails}
use Rattle.rr_store.specs.declared.port.LeftPort.{LeftPort}

-- a connected port: the index of its sender, and its index among the receivers of the other side
pub record Connected (K : Type 0) : Type 0 where
  pub port : Port K
  pub sender : ℕ
  pub receiver : ℕ

-- a connected client, with the number of loans that it made
pub record ClientPart (K : Type 0) : Type 0 where
  pub connected : Connected K
  pub open connected use *
  pub loans_made : ℕ

-- a connected server, with the responses that it may have on loan for each request, and in all
pub record ServerPart (K : Type 0) : Type 0 where
  pub connected : Connected K
  pub open connected use *
  pub max_loaned_responses_per_request : ℕ
  pub max_loaned_responses : ℕ

-- a sender with its owner: the port's number and its index among the receivers of the other side, the row that has
-- the handles of its messages, whether the port's value lives, how many messages are on loan and how many responses
-- are pending, and, by slot and receiver, the server that may still answer a request
pub record Sender (T N H : Type 0) : Type 0 where
  pub owner : ℕ
  pub row : ℕ
  pub receiver : ℕ
  pub has_value : Bool
  pub loans : ℕ
  pub pendings : ℕ
  pub may_answer : List ℕ
  pub messages : Messages T N H

-- the whole, with the ports that left in the order in which they did, and the room for them
pub record Parts (Q QH P PH K : Type 0) : Type 0 where
  pub limits : Limits
  pub node_id : ℕ
  pub next : ℕ
  pub clients : List (ClientPart K)
  pub servers : List (ServerPart K)
  pub client_senders : List (Sender Q RequestDetails QH)
  pub server_senders : List (Sender P ResponseDetails PH)
  pub left_clients : List LeftPort
  pub left_servers : List LeftPort
  pub client_room : ℕ
  pub server_room : ℕ
  pub table : TableView HandleEntry
  pub spare_request_header : QH
  pub spare_response_header : PH
