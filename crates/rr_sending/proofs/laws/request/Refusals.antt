-- Which sends of requests are refused, and to how many queues a request comes.
use Rattle.std.proofs.Common.{◌≡◌, ℕ, Bool, cond, List, Option, None, Some, option_map, length, nat_le, sym, ap, ◌∙◌, subst}
use Rattle.std.specs.Prelude.{◌==◌, ◌&&◌, not, IsSomeAnd, slice_get, count_by, option_and_then}
use Rattle.std.specs.List.{list_any}
use Rattle.std.specs.FinMap as fin_map
use Rattle.std.proofs.lemmas.Bool.{eq-eqb, eqb-true}
use Rattle.std.proofs.lemmas.List.{length-map}
use Rattle.rr_table.specs.TableView.{TableEntry}
use Rattle.rr_table.proofs.Counting.{count-map}
use Rattle.rr_table.proofs.ListFacts.{any-map}
use Rattle.rr_sender.specs.Senders.{Messages, queue_at}
use Rattle.rr_protocol.specs.declared.error.RequestSendError.{RequestSendError}
use Rattle.rr_protocol.specs.declared.error.SendError.{SendError}
use Rattle.rr_protocol.specs.declared.settings.BackpressureAction.{BackpressureAction}
use Rattle.rr_protocol.specs.Backpressure.{discards}
use Rattle.rr_protocol.specs.Counts.{pending_responses}
use Rattle.rr_protocol.specs.Keys.{RequestKey, request_key}
use Rattle.rr_protocol.specs.Messages.{Handle, RequestMut, RequestMessage, as_request_mut}
use Rattle.rr_protocol.specs.Ports.{Client}
use Rattle.rr_protocol.specs.Sends.{is_blocked, is_request_deliverable, is_request_list_blocked, is_request_refused, request_send_refusal, connections_of}
use Rattle.rr_protocol.specs.State.{State, IsRequestMutAnd, client_at, handle_at}
use Rattle.rr_store.specs.Changes.{is_closed_to, is_open_to, request_send_limit}
use Rattle.rr_store.specs.declared.handle_entry.HandleEntry.{HandleEntry}
use Rattle.rr_store.specs.declared.details.RequestDetails.{RequestDetails}
use Rattle.rr_store.specs.Parts.{Parts, ClientPart, ServerPart as Server}
use Rattle.rr_store.specs.Views.{sender_of, state_of, client_of, handle_in, request_at}
use Rattle.rr_store.specs.Sound.{IsSoundStore, empty_hand}
use Rattle.rr_store.specs.Sending.{request_held}
use Rattle.rr_store.proofs.base.senders.Entries.{found_alone}
use Rattle.rr_store.proofs.base.views.Counts.{listed, pendings_counted}
use Rattle.rr_store.proofs.base.lists.Replaced.{map_same, find_mapped}
use Rattle.rr_releasing.proofs.laws.View.{table_entry_shown}
use Rattle.rr_sending.proofs.laws.request.View as view
use Rattle.rr_store.proofs.base.senders.Numbered.{numbered_once}

module _ {X : Type 0} (t u : X → Bool) (xs : List X) (same : (i : ℕ) (x : X) → slice_get xs i ≡ Some x → t x ≡ u x) where
  -- tests that agree on each element are passed by one alike, and by as many
  any_same : list_any t xs ≡ list_any u xs
  any_same = sym (any-map t (λ b. b) xs) ∙ ap (list_any (λ b. b)) (map_same u t xs same) ∙ any-map u (λ b. b) xs

  count_same : count_by t xs ≡ count_by u xs
  count_same = sym (count-map t (λ b. b) xs) ∙ ap (count_by (λ b. b)) (map_same u t xs same) ∙ count-map u (λ b. b) xs

module _ {Q QH P PH K : Type 0} (p : Parts Q QH P PH K) (sound : IsSoundStore p empty_hand) (k sender slot : ℕ) (s : TableEntry HandleEntry)
    (at_s : fin_map.get p.table.entries k ≡ Some s) (is : s.value ≡ request_held sender slot)
    (index : ℕ) (c : ClientPart K) (there : slice_get p.clients index ≡ Some c) (sends : c.sender ≡ sender) where
  abbrev m : Messages Q RequestDetails QH
  m = (sender_of sender p.client_senders).messages

  abbrev message : RequestMessage Q QH
  message = request_at p sender slot

  abbrev overflow : Bool
  overflow = p.limits.enable_safe_overflow_for_requests

  -- its client is the one that sends in the sender
  its_client : message.client ≡ c.port.id
  its_client =
      let own = sound.client_ports.own index c.connected (listed (λ (c : ClientPart K). c.connected) p.clients index c there) in
      view.its_owner p sound k sender slot 0 s at_s is ∙ ap (λ l. (sender_of l p.client_senders).owner) (sym sends)
      ∙ own.1

  client_shown : client_at (state_of p) message.client ≡ Some (client_of c)
  client_shown =
      find_mapped client_of (λ d. d.id == message.client) p.clients
      ∙ ap (option_map client_of)
      (found_alone (λ (d : ClientPart K). d.port.id == message.client) p.clients index c there
      (eq-eqb c.port.id message.client (sym its_client))
      (λ j d at same. numbered_once sound.client_ports j index d.connected c.connected
      (listed (λ (c : ClientPart K). c.connected) p.clients j d at) (listed (λ (c : ClientPart K). c.connected) p.clients index c there)
      (eqb-true d.port.id message.client same ∙ its_client)))

  request_shown : handle_at (state_of p) k ≡ Some (RequestMut message)
  request_shown = table_entry_shown p k s at_s ∙ ap (λ (h : HandleEntry). Some (handle_in p h.stage h.sender h.slot)) is

  -- what is true of the request and its client
  pub told : (R : State Q QH P PH K → ℕ → Client K → RequestMessage Q QH → Type 0) (t : State Q QH P PH K) (n : ℕ) → state_of p ≡ t → k ≡ n
      → R (state_of p) k (client_of c) message → IsRequestMutAnd t n (R t n)
  told R t n seen same r =
      let S : State Q QH P PH K → Type 0 = λ t. IsRequestMutAnd t n (R t n) in
      let N : ℕ → Type 0 = λ n. IsRequestMutAnd (state_of p) n (R (state_of p) n) in
      let H : Option (Handle Q QH P PH) → Type 0 = λ o. IsSomeAnd (option_and_then as_request_mut o)
      (λ message. IsSomeAnd (client_at (state_of p) message.client) (λ client. R (state_of p) k client message)) in
      let C : Option (Client K) → Type 0 = λ o. IsSomeAnd o (λ client. R (state_of p) k client message) in
      subst S seen (subst N same (subst H (sym request_shown) (subst C (sym client_shown) r)))

  -- whether a list is blocked
  blocked_stored : (i : ℕ) (d : Server K) → slice_get p.servers i ≡ Some d
      → is_request_list_blocked (state_of p) (request_key message.client d.port.id) ≡ is_blocked overflow m.capacity
      (queue_at m d.receiver 0)
  blocked_stored i d at =
      let queue = queue_at m d.receiver 0 in
      ap (is_blocked overflow p.limits.max_active_requests_per_client)
      (view.waits_for p sound k sender slot 0 s at_s is i d at)
      ∙ ap (λ n. not overflow && nat_le p.limits.max_active_requests_per_client n)
      (length-map queue (view.says p sound k sender slot 0 s at_s is))
      ∙ ap (λ n. not overflow && nat_le n (length queue)) (sym (view.shaped p sound k sender slot 0 s at_s is).capacity_is)

  -- whether a queue refuses the request, and how many take it
  refused_parts : (action : K → ℕ → ℕ → BackpressureAction) → is_request_refused action (state_of p) (client_of c) message
      ≡ list_any (λ d. is_closed_to p sender d && not (discards action c.port d.port.id)) p.servers
  refused_parts action =
      let test : RequestKey → Bool = λ key. is_request_list_blocked (state_of p) key && not (discards action c.port key.server) in
      let stored : Server K → Bool = λ d. is_closed_to p sender d && not (discards action c.port d.port.id) in
      ap (list_any test) (view.reach_is p sound k sender slot 0 s at_s is)
      ∙ any-map (λ (d : Server K). request_key message.client d.port.id) test p.servers
      ∙ any_same (λ d. test (request_key message.client d.port.id)) stored p.servers
      (λ i d at. ap (λ b. b && not (discards action c.port d.port.id)) (blocked_stored i d at))

  -- whether no queue does
  pub deliverable_parts : is_request_deliverable (state_of p) message ≡ not (list_any (is_closed_to p sender) p.servers)
  deliverable_parts =
      ap not (ap (list_any (is_request_list_blocked (state_of p))) (view.reach_is p sound k sender slot 0 s at_s is)
      ∙ any-map (λ (d : Server K). request_key message.client d.port.id) (is_request_list_blocked (state_of p)) p.servers
      ∙ any_same (λ d. is_request_list_blocked (state_of p) (request_key message.client d.port.id)) (is_closed_to p sender) p.servers
      blocked_stored)

  pub connections_parts : connections_of (state_of p) message ≡ count_by (is_open_to p sender) p.servers
  connections_parts =
      let test : RequestKey → Bool = λ key. not (is_request_list_blocked (state_of p) key) in
      ap (count_by test) (view.reach_is p sound k sender slot 0 s at_s is)
      ∙ count-map (λ (d : Server K). request_key message.client d.port.id) test p.servers
      ∙ count_same (λ d. test (request_key message.client d.port.id)) (is_open_to p sender) p.servers
      (λ i d at. ap not (blocked_stored i d at))

  its_pendings : pending_responses (state_of p) c.port.id ≡ (sender_of sender p.client_senders).pendings
  its_pendings = pendings_counted p sound index c there ∙ ap (λ l. (sender_of l p.client_senders).pendings) sends

  -- the reasons against sending it
  pub refusal_parts : (action : K → ℕ → ℕ → BackpressureAction)
      → request_send_refusal action (state_of p) (client_of c) message ≡ request_send_limit p action c sender
  refusal_parts action =
      ap {B = Option RequestSendError} (λ n. cond (nat_le p.limits.max_active_requests_per_client n)
      (Some RequestSendError.ExceedsMaxActiveRequests)
      (cond (is_request_refused action (state_of p) (client_of c) message)
      (Some (RequestSendError.SendError SendError.UnableToDeliver)) None)) its_pendings
      ∙ ap {B = Option RequestSendError} (λ b. cond (nat_le p.limits.max_active_requests_per_client
      (sender_of sender p.client_senders).pendings)
      (Some RequestSendError.ExceedsMaxActiveRequests)
      (cond b (Some (RequestSendError.SendError SendError.UnableToDeliver)) None)) (refused_parts action)
