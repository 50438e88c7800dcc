-- Ports and senders as parts.
use Rattle.rr_store.specs.declared.port.Port.{Port as PortField}
use Rattle.rr_store.specs.declared.port.ClientPort.{ClientPort}
use Rattle.rr_store.specs.declared.port.ServerPort.{ServerPort}
use Rattle.rr_store.specs.declared.port.OwnedSender.{OwnedSender}
use Rattle.rr_store.specs.Parts.{Connected, ClientPart, ServerPart, Sender}

module _ {K : Type 0} where
  -- a connected port
  abbrev pub connected_of : PortField K → Connected K
  connected_of p =
      record {
        port = record {
          id = p.id;
          strategy = p.strategy;
          handler = p.handler;
          allocation_strategy = p.allocation_strategy;
          initial_max_slice_len = p.initial_max_slice_len;
          pool_size = p.pool_size;
          has_value = p.has_value;
        };
        sender = p.sender;
        receiver = p.receiver;
      }

  -- a connected client
  abbrev pub client_part : ClientPort K → ClientPart K
  client_part c = record { connected = connected_of c.port; loans_made = c.loans_made }

  -- a connected server
  abbrev pub server_part : ServerPort K → ServerPart K
  server_part s =
      record {
        connected = connected_of s.port;
        max_loaned_responses_per_request = s.max_loaned_responses_per_request;
        max_loaned_responses = s.max_loaned_responses;
      }

-- a sender
abbrev pub sender_part : {B N H T : Type 0} → OwnedSender B N H T → Sender T N H
sender_part l =
    record {
      owner = l.owner;
      row = l.row;
      receiver = l.receiver;
      has_value = l.has_value;
      loans = l.loans;
      pendings = l.pendings;
      may_answer = l.may_answer.items;
      messages = l.messages;
    }
