-- What contracts see of a core does not depend on what it counts.
use Rattle.std.proofs.Common.{◌≡◌, ℕ, zero, suc, Bool, List, [], ◌∷◌, map, find, option_map, refl, sym, ap, ◌∙◌}
use Rattle.std.specs.Prelude.{◌==◌, Option, None, Some}
use Rattle.std.specs.Option.{option_map_or}
use Rattle.std.specs.FinMap as fin_map
use Rattle.rr_table.specs.TableView.{TableEntry}
use Rattle.rr_table.proofs.MapLaws.{map_values-same}
use Rattle.rr_sender.specs.Senders.{queue_at}
use Rattle.rr_protocol.specs.Keys.{RequestKey, ResponseKey}
use Rattle.rr_protocol.specs.Messages.{RequestMessage, ResponseMessage}
use Rattle.rr_store.specs.declared.handle_entry.HandleEntry.{HandleEntry}
use Rattle.rr_store.specs.declared.details.RequestDetails.{RequestDetails}
use Rattle.rr_store.specs.declared.details.ResponseDetails.{ResponseDetails}
use Rattle.rr_store.specs.Parts.{Parts, ClientPart, ServerPart, Sender}
use Rattle.rr_store.specs.Views.{sender_of, state_of, request_in_slot, response_in_slot, marked, handle_of, requests_at, responses_at}
use Rattle.rr_store.specs.Frames.{moved}
use Rattle.rr_store.proofs.base.views.Agreeing.{same_handle, same_requests, same_responses, same_state, same_expired}
use Rattle.rr_store.proofs.base.lists.Replaced.{find_mapped}

-- a sender without its counts of handles
abbrev pub bare_sender : {T N H : Type 0} → Sender T N H → Sender T N H
bare_sender l = record l { loans = 0; pendings = 0; messages = record l.messages { held = []; borrowed = [] } }

-- the sender at an index without its counts
bare_at : {T N H : Type 0} (senders : List (Sender T N H)) (l : ℕ) → sender_of l (map bare_sender senders) ≡ bare_sender
    (sender_of l senders)
bare_at [] l = refl
bare_at (x ∷ senders) zero = refl
bare_at (x ∷ senders) (suc l) = bare_at senders l

-- what is read of a sender
read_same : {T N H Y : Type 0} (f : Sender T N H → Y) (before after : List (Sender T N H)) → map bare_sender after ≡ map bare_sender before
    → (l : ℕ) → f (bare_sender (sender_of l after)) ≡ f (bare_sender (sender_of l before))
read_same f before after alike l = ap f (sym (bare_at after l) ∙ ap (sender_of l) alike ∙ bare_at before l)

-- what is read of the first that passes
found_same : {X Y : Type 0} (bare : X → X) (test : X → Bool) (f : X → Y) (default : Y) (before after : List X)
    → map bare after ≡ map bare before
    → option_map_or (λ x. f (bare x)) (find (λ x. test (bare x)) after) default ≡ option_map_or (λ x. f (bare x))
    (find (λ x. test (bare x)) before) default
found_same {X} bare test f default before after alike = sym (by after) ∙ ap (λ (xs : List X). option_map_or f (find test xs) default) alike
    ∙ by before
  where
    of_mapped : (o : Option X) → option_map_or f (option_map bare o) default ≡ option_map_or (λ x. f (bare x)) o default
    of_mapped None = refl
    of_mapped (Some x) = refl

    by : (xs : List X) → option_map_or f (find test (map bare xs)) default ≡ option_map_or (λ x. f (bare x))
        (find (λ x. test (bare x)) xs) default
    by xs = ap (λ o. option_map_or f o default) (find_mapped bare test xs) ∙ of_mapped (find (λ x. test (bare x)) xs)

module _ {Q QH P PH K : Type 0} (p : Parts Q QH P PH K) (client_senders : List (Sender Q RequestDetails QH))
    (server_senders : List (Sender P ResponseDetails PH))
    (cl : map bare_sender client_senders ≡ map bare_sender p.client_senders)
    (sl : map bare_sender server_senders ≡ map bare_sender p.server_senders) where
  -- the core with those counts
  abbrev pub recounted : Parts Q QH P PH K
  recounted = moved p p.clients client_senders server_senders p.table.entries p.next

  handles : (k : ℕ) (s : TableEntry HandleEntry) → fin_map.get p.table.entries k ≡ Some s → handle_of recounted s ≡ handle_of p s
  handles k s e =
      same_handle recounted p s.value.stage s.value.sender s.value.slot
      (λ is. (
        read_same (λ x. request_in_slot p.spare_request_header x.messages s.value.slot) p.client_senders client_senders cl s.value.sender,
        read_same (λ x. marked p.limits.max_servers p.servers x.may_answer s.value.slot) p.client_senders client_senders cl s.value.sender,
      ))
      (λ is. read_same (λ x. response_in_slot p.spare_response_header x.messages s.value.slot) p.server_senders server_senders sl
      s.value.sender)

  requests : (key : RequestKey) → requests_at recounted key ≡ requests_at p key
  requests key =
      go (find (λ s. s.port.id == key.server) p.servers)
    where
      waits : ℕ → Sender Q RequestDetails QH → List (RequestMessage Q QH)
      waits receiver sender = map (request_in_slot p.spare_request_header sender.messages) (queue_at sender.messages receiver 0)

      go : (server : Option (ServerPart K)) →
          option_map_or (λ s. option_map_or (waits s.receiver)
          (find (λ (sender : Sender Q RequestDetails QH). sender.owner == key.client) client_senders)
          []) server []
          ≡ option_map_or (λ s. option_map_or (waits s.receiver)
          (find (λ (sender : Sender Q RequestDetails QH). sender.owner == key.client) p.client_senders) []) server []
      go None = refl
      go (Some s) = found_same bare_sender (λ sender. sender.owner == key.client) (waits s.receiver) [] p.client_senders client_senders cl

  responses : (key : ResponseKey) → responses_at recounted key ≡ responses_at p key
  responses key =
      go (find (λ c. c.port.id == key.client) p.clients)
    where
      waits : ℕ → Sender P ResponseDetails PH → List (ResponseMessage P PH)
      waits receiver sender = map (response_in_slot p.spare_response_header sender.messages) (queue_at sender.messages receiver key.channel)

      go : (client : Option (ClientPart K)) →
          option_map_or (λ c. option_map_or (waits c.receiver) (find (λ (sender : Sender P ResponseDetails PH). sender.owner == key.server)
          server_senders) []) client []
          ≡ option_map_or (λ c. option_map_or (waits c.receiver)
          (find (λ (sender : Sender P ResponseDetails PH). sender.owner == key.server) p.server_senders) []) client []
      go None = refl
      go (Some c) = found_same bare_sender (λ sender. sender.owner == key.server) (waits c.receiver) [] p.server_senders server_senders sl

  -- contracts see the same
  pub uncounted : state_of recounted ≡ state_of p
  uncounted =
      same_state (state_of recounted) (state_of p) refl refl refl refl
      (map_values-same (handle_of recounted) (handle_of p) p.table.entries handles)
      (same_requests recounted p requests) (same_responses recounted p responses)
      (same_expired _ _ (same_requests recounted p requests) (same_responses recounted p responses)) refl
