-- What contracts see of a core after a pending response was released.
use Rattle.std.proofs.Common.{◌≡◌, ◌-◌, ℕ, Bool, true, false, cond, List, [], Option, None, Some, option_map, map, refl, sym, ap, ◌∙◌, ⊎_elim}
use Rattle.std.specs.Prelude.{◌==◌, ◌&&◌, not, slice_get, find}
use Rattle.std.specs.Option.{option_map_or}
use Rattle.std.specs.FinMap as fin_map
use Rattle.std.proofs.lemmas.Bool.{cases_eq, eq-eqb, eqb-true, ne_eqb}
use Rattle.std.proofs.lemmas.Option.{get_or_from_slice_get, slice_get_within}
use Rattle.rr_table.specs.TableView.{TableEntry}
use Rattle.rr_table.proofs.MapLaws.{map_values-same}
use Rattle.rr_sender.specs.Senders.{queue_at}
use Rattle.rr_protocol.specs.Keys.{ResponseKey, response_key_cmp}
use Rattle.rr_protocol.specs.Limits.{worst_case_requests}
use Rattle.rr_protocol.specs.Lists.{Lists}
use Rattle.rr_protocol.specs.Messages.{ResponseMessage, port_of}
use Rattle.rr_protocol.specs.Releases.{after_handle_gone, with_empty_channel}
use Rattle.rr_protocol.specs.State.{State}
use Rattle.rr_protocol.proofs.KeyLaws.{response_keys_total, response_keys_exact}
use Rattle.rr_protocol.proofs.ListsLaws.{at-retain_keys, same_lists}
use Rattle.rr_store.specs.declared.handle_entry.HandleEntry.{HandleEntry}
use Rattle.rr_store.specs.declared.handle_entry.Stage.{Stage}
use Rattle.rr_store.specs.declared.handle_entry.Stage.TheVariants as stage
use Rattle.rr_store.specs.declared.details.ResponseDetails.{ResponseDetails}
use Rattle.rr_store.specs.Clearing.{with_empty_queue}
use Rattle.rr_store.specs.Parts.{Parts, ClientPart, Sender}
use Rattle.rr_store.specs.Sound.{IsSoundStore, empty_hand, is_of_request, request_details}
use Rattle.rr_store.specs.Releasing.{IsHandleGone}
use Rattle.rr_store.specs.Views.{sender_of, no_sender, state_of, response_in_slot, handle_in, handle_of, responses_at, request_lists, response_lists}
use Rattle.rr_store.proofs.base.views.Agreeing.{same_handle, same_state, same_expired}
use Rattle.rr_store.proofs.releasing.pending.Cleared.{cleared_at, queue_here, queue_there}
use Rattle.rr_store.proofs.base.lists.Found.{found_passes, found_somewhere}
use Rattle.rr_releasing.proofs.laws.GivenBack.{bare_less}
use Rattle.rr_store.proofs.base.views.Counts.{listed}
use Rattle.rr_store.proofs.base.views.Keyed.{at_responses}
use Rattle.rr_releasing.proofs.laws.pending.Sound.{taken, own, senders, server_senders, after_pending, placed, inside}
use Rattle.rr_store.proofs.base.lists.Replaced.{find_mapped}
use Rattle.rr_releasing.proofs.laws.View.{removed_view, table_entry_shown}
use Rattle.rr_store.proofs.base.hands.Stages.{handle_uses_request}
use Rattle.rr_releasing.proofs.laws.Uncounted.{uncounted}
use Rattle.rr_store.proofs.base.senders.Numbered.{numbered_once}
use Rattle.rr_store.proofs.base.views.Expired.{channel_gone}
use Rattle.rr_store.proofs.base.views.Left.{no_requests_to}

module _ {Q QH P PH K : Type 0} (p : Parts Q QH P PH K) (sound : IsSoundStore p empty_hand) (k : ℕ) (s : TableEntry HandleEntry)
    (at : fin_map.get p.table.entries k ≡ Some s) (hint : Bool) (connections : ℕ)
    (pending : s.value.stage ≡ stage.PendingResponse hint connections) (index : ℕ) (c : ClientPart K)
    (there : slice_get p.clients index ≡ Some c) (sends : c.sender ≡ s.value.sender) where
  abbrev channel : ℕ
  channel = s.value.slot

  abbrev gone : Parts Q QH P PH K
  gone = taken p sound k s at hint connections pending index c there sends

  -- the handle is gone, and the queues are empty
  abbrev emptied : Parts Q QH P PH K
  emptied = record gone { server_senders = server_senders p sound k s at hint connections pending index c there sends }

  is : (l : ℕ) → sender_of l emptied.server_senders ≡ with_empty_queue c.receiver channel (sender_of l p.server_senders)
  is l = cleared_at c.receiver channel p.server_senders l

  handles : (n : ℕ) (t : TableEntry HandleEntry) → fin_map.get gone.table.entries n ≡ Some t → handle_of emptied t ≡ handle_of gone t
  handles n t e =
      same_handle emptied gone t.value.stage t.value.sender t.value.slot (λ _. (refl, refl))
      (λ _. ap (λ (x : Sender P ResponseDetails PH). response_in_slot p.spare_response_header x.messages t.value.slot) (is t.value.sender))

  -- whether the list is one that stays
  abbrev stays : ResponseKey → Bool
  stays key = not (key.client == c.port.id && key.channel == channel)

  abbrev reads : ResponseKey → ClientPart K → Sender P ResponseDetails PH → List (ResponseMessage P PH)
  reads key d sender = map (response_in_slot p.spare_response_header sender.messages) (queue_at sender.messages d.receiver key.channel)

  abbrev none : List (ResponseMessage P PH)
  none = []

  -- a client with the number is the client
  the_client : (n : ℕ) (d : ClientPart K) → find (λ (d : ClientPart K). d.port.id == n) p.clients ≡ Some d → n ≡ c.port.id → d ≡ c
  the_client n d e id =
      let j = found_somewhere (λ (d : ClientPart K). d.port.id == n) p.clients d e in
      let same : d.port.id ≡ c.port.id = eqb-true d.port.id n (found_passes (λ (d : ClientPart K). d.port.id == n) p.clients d e) ∙ id in
      let one = numbered_once sound.client_ports j.0 index d.connected c.connected
      (listed (λ (c : ClientPart K). c.connected) p.clients j.0 d j.1)
      (listed (λ (c : ClientPart K). c.connected) p.clients index c there) same in
      let f : Some d ≡ Some c = sym j.1 ∙ ap (slice_get p.clients) one ∙ there in cc

  -- and so is one that is its receiver
  its_place : (n : ℕ) (d : ClientPart K) → find (λ (d : ClientPart K). d.port.id == n) p.clients ≡ Some d → d.receiver ≡ c.receiver
      → n ≡ c.port.id
  its_place n d e same =
      let j = found_somewhere (λ (d : ClientPart K). d.port.id == n) p.clients d e in
      let one = sound.client_ports.receivers_once j.0 index d.connected c.connected
      (listed (λ (c : ClientPart K). c.connected) p.clients j.0 d j.1)
      (listed (λ (c : ClientPart K). c.connected) p.clients index c there) same in
      let f : Some d ≡ Some c = sym j.1 ∙ ap (slice_get p.clients) one ∙ there in
      let it : d ≡ c = cc in
      sym (eqb-true d.port.id n (found_passes (λ (d : ClientPart K). d.port.id == n) p.clients d e))
      ∙ ap (λ (d : ClientPart K). d.port.id) it

  -- what is read from a sender that is there
  from_sender : (key : ResponseKey) (d : ClientPart K) → find (λ (d : ClientPart K). d.port.id == key.client) p.clients ≡ Some d
      → (l : ℕ) (x : Sender P ResponseDetails PH) → slice_get p.server_senders l ≡ Some x
      → reads key d (with_empty_queue c.receiver channel x) ≡ cond (stays key) (reads key d x) none
  from_sender key d e l x found =
      ⊎_elim
      (λ id. ⊎_elim
      (λ ch. empty id ch)
      (λ n. as_before (λ _ f. n f) (ap (λ b. not (key.client == c.port.id && b)) (ne_eqb key.channel channel n)
      ∙ never (key.client == c.port.id)))
      (cases_eq key.channel channel))
      (λ n. as_before (λ r _. n (its_place key.client d e r)) (ap (λ b. not (b && key.channel == channel)) (ne_eqb key.client c.port.id n)))
      (cases_eq key.client c.port.id)
    where
      never : (b : Bool) → not (b && false) ≡ true
      never true = refl
      never false = refl

      x_is : sender_of l p.server_senders ≡ x
      x_is = get_or_from_slice_get p.server_senders l x no_sender found

      now : sender_of l emptied.server_senders ≡ with_empty_queue c.receiver channel x
      now = is l ∙ ap (with_empty_queue c.receiver channel) x_is

      empty : key.client ≡ c.port.id → key.channel ≡ channel
          → reads key d (with_empty_queue c.receiver channel x) ≡ cond (stays key) (reads key d x) none
      empty id ch =
          let receiver : d.receiver ≡ c.receiver = ap (λ (d : ClientPart K). d.receiver) (the_client key.client d e id) in
          let queue : queue_at (with_empty_queue c.receiver channel x).messages d.receiver key.channel ≡ [] =
          ap (λ r. queue_at (with_empty_queue c.receiver channel x).messages r key.channel) receiver
          ∙ ap (λ h. queue_at (with_empty_queue c.receiver channel x).messages c.receiver h) ch
          ∙ ap (λ (x : Sender P ResponseDetails PH). queue_at x.messages c.receiver channel) (sym now)
          ∙ queue_here p.server_senders p.limits.max_clients (worst_case_requests p.limits) p.limits.max_response_buffer_size c.receiver
          channel
          sound.sized.server_senders
          (placed p sound k s at hint connections pending index c there sends)
          (inside p sound k s at hint connections pending index c there sends) l (slice_get_within p.server_senders l x found) in
          ap (map (response_in_slot p.spare_response_header x.messages)) queue
          ∙ sym (ap (λ b. cond (not b) (reads key d x) none) (λ i. eq-eqb key.client c.port.id id i && eq-eqb key.channel channel ch i))

      as_before : (d.receiver ≡ c.receiver → key.channel ≡ channel → ⊥) → stays key ≡ true
          → reads key d (with_empty_queue c.receiver channel x) ≡ cond (stays key) (reads key d x) none
      as_before other stay =
          ap (map (response_in_slot p.spare_response_header x.messages))
          (ap (λ (x : Sender P ResponseDetails PH). queue_at x.messages d.receiver key.channel) (sym now)
          ∙ queue_there p.server_senders p.limits.max_clients (worst_case_requests p.limits) p.limits.max_response_buffer_size c.receiver
          channel
          sound.sized.server_senders
          (placed p sound k s at hint connections pending index c there sends)
          (inside p sound k s at hint connections pending index c there sends) l d.receiver key.channel other
          ∙ ap (λ (x : Sender P ResponseDetails PH). queue_at x.messages d.receiver key.channel) x_is)
          ∙ sym (ap (λ b. cond b (reads key d x) none) stay)

  waits : (key : ResponseKey) → responses_at emptied key ≡ cond (stays key) (responses_at p key) none
  waits key = go (find (λ (d : ClientPart K). d.port.id == key.client) p.clients) refl
    where
      alike : (b : Bool) → none ≡ cond b none none
      alike true = refl
      alike false = refl

      in_sender : (d : ClientPart K) → find (λ (d : ClientPart K). d.port.id == key.client) p.clients ≡ Some d
          → (o : Option (Sender P ResponseDetails PH)) → find (λ sender. sender.owner == key.server) p.server_senders ≡ o
          → option_map_or (reads key d) (option_map (with_empty_queue c.receiver channel) o) none ≡ cond (stays key)
          (option_map_or (reads key d) o none) none
      in_sender d e None f = alike (stays key)
      in_sender d e (Some x) f =
          let l = found_somewhere (λ (sender : Sender P ResponseDetails PH). sender.owner == key.server) p.server_senders x f in
          from_sender key d e l.0 x l.1

      with_client : (d : ClientPart K) → find (λ (d : ClientPart K). d.port.id == key.client) p.clients ≡ Some d
          → option_map_or (reads key d) (find (λ sender. sender.owner == key.server) emptied.server_senders) none ≡ cond (stays key)
          (option_map_or (reads key d) (find (λ sender. sender.owner == key.server) p.server_senders) none) none
      with_client d e =
          ap (λ o. option_map_or (reads key d) o none) (find_mapped (with_empty_queue c.receiver channel)
          (λ (sender : Sender P ResponseDetails PH). sender.owner == key.server) p.server_senders)
          ∙ in_sender d e (find (λ sender. sender.owner == key.server) p.server_senders) refl

      go : (o : Option (ClientPart K)) → find (λ (d : ClientPart K). d.port.id == key.client) p.clients ≡ o
          → option_map_or (λ d. option_map_or (reads key d) (find (λ sender. sender.owner == key.server) emptied.server_senders) none) o
          none
          ≡ cond (stays key) (option_map_or
          (λ d. option_map_or (reads key d) (find (λ sender. sender.owner == key.server) p.server_senders) none)
          o none) none
      go None e = alike (stays key)
      go (Some d) e = with_client d e

  abbrev kept : Lists response_key_cmp (ResponseMessage P PH)
  kept = fin_map.retain_keys (state_of p).responses stays

  responses : (state_of emptied).responses ≡ kept
  responses =
      same_lists response_keys_total response_keys_exact (state_of emptied).responses kept
      (λ key. at_responses emptied key ∙ waits key ∙ ap (λ (xs : List (ResponseMessage P PH)). cond (stays key) xs none)
      (sym (at_responses p key))
      ∙ sym (at-retain_keys response_keys_total response_keys_exact (state_of p).responses stays key))

  -- the channel is empty
  emptied_view : state_of emptied ≡ with_empty_channel (state_of gone) c.port.id channel
  emptied_view =
      same_state (state_of emptied) (with_empty_channel (state_of gone) c.port.id channel) refl refl refl refl
      (map_values-same (handle_of emptied) (handle_of gone) gone.table.entries handles)
      refl responses
      (same_expired _ _ refl responses
      ∙ channel_gone _ _ (request_lists p) (response_lists p) c.port.id channel (no_requests_to p empty_hand sound index c there)) refl

  abbrev without : State Q QH P PH K
  without = record (state_of p) { handles = fin_map.remove (state_of p).handles k }

  its_port : (request_details p s.value.sender channel).client ≡ c.port.id
  its_port =
      let o = sound.client_ports.own index c.connected (listed (λ c. c.connected) p.clients index c there) in
      sound.addressed.requests s.value.sender channel (handle_uses_request p empty_hand sound.counted k s at (ap is_of_request pending))
      ∙ sym (ap (λ l. (sender_of l p.client_senders).owner) sends) ∙ o.1

  handle_is : handle_of p s ≡ handle_in p (stage.PendingResponse hint connections) s.value.sender channel
  handle_is = ap (λ (g : Stage). handle_in p g s.value.sender channel) pending

  goes : after_handle_gone without (handle_of p s) ≡ with_empty_channel without c.port.id channel
  goes = ap (after_handle_gone without) handle_is ∙ ap (λ n. with_empty_channel without n channel) its_port

  pub pending_view : IsHandleGone (state_of p) k c.port.id
      (state_of (after_pending p sound k s at hint connections pending index c there sends))
  pending_view =
      let its = own p sound k s at hint connections pending index c there sends in
      record {
        handle = handle_of p s;
        there = table_entry_shown p k s at;
        its_port = ap port_of handle_is ∙ its_port;
        gone = uncounted emptied (senders p sound k s at hint connections pending index c there sends) emptied.server_senders
            (bare_less p.client_senders s.value.sender channel its.messages.borrowed its.loans (its.pendings - 1)) refl
            ∙ emptied_view ∙ ap (λ t. with_empty_channel t c.port.id channel) (removed_view p k) ∙ sym goes;
      }
