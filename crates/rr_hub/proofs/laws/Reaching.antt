-- Which queue a response reaches before it has a handle, and that its active request keeps its server in use.
use Rattle.std.proofs.Common.{◌≡◌, ◌≢◌, ◌<◌, ℕ, Bool, true, false, cond, List, Option, None, Some, length, nat_lt, refl, sym, ap, ◌∙◌, ⊎_elim, arith}
use Rattle.std.specs.Prelude.{◌==◌, ◌&&◌, ◌||◌, option_and_then, slice_get}
use Rattle.std.specs.FinMap as fin_map
use Rattle.std.specs.List.{list_any}
use Rattle.std.proofs.lemmas.Bool.{cases_eq, eq-eqb, lt-ltb}
use Rattle.std.proofs.lemmas.Option.{get_or_from_slice_get}
use Rattle.rr_table.proofs.MapLaws.{tally-at}
use Rattle.rr_table.specs.TableView.{TableEntry, TableView, kept_in, table_entry, value_in}
use Rattle.rr_table.specs.declared.place.Place.{Place}
use Rattle.rr_protocol.specs.Counts.{is_in_use}
use Rattle.rr_protocol.specs.Messages.{port_of}
use Rattle.rr_protocol.specs.Releases.{without_unused_port}
use Rattle.rr_protocol.specs.State.{all_handles, is_client_value, is_server_value}
use Rattle.rr_store.specs.Answering.{response_loan_details_of}
use Rattle.rr_store.specs.declared.details.RequestDetails.{RequestDetails}
use Rattle.rr_store.specs.declared.details.ResponseDetails.{ResponseDetails}
use Rattle.rr_store.specs.declared.handle_entry.HandleEntry.{HandleEntry}
use Rattle.rr_store.specs.declared.handle_entry.Stage.TheVariants as stage
use Rattle.rr_store.specs.Delivering.{HasQueue, reached, reached_if}
use Rattle.rr_store.specs.Parts.{ClientPart, Parts, Sender}
use Rattle.rr_store.specs.Reaching.{IsCore}
use Rattle.rr_store.specs.Sound.{empty_hand, is_of_request, is_pending, request_details}
use Rattle.rr_store.specs.Views.{handle_in, handle_of, no_sender, sender_of, state_of}
use Rattle.rr_store.proofs.base.hands.Stages.{handle_uses_request, pending_is_request}
use Rattle.rr_store.proofs.base.lookups.Placed.{kept_there, value_there}
use Rattle.rr_store.proofs.base.lookups.Shown.{request_spot}
use Rattle.rr_store.proofs.base.views.Counts.{handles_counted, listed}
use Rattle.rr_releasing.proofs.laws.leaving.Borrowing.{any_counted}

-- where the own handle of a request stands, in a sender
abbrev spot : {T N H : Type 0} → ℕ → Sender T N H → Place
spot channel l = record { row = l.row; index = channel }

-- the queue that a sender is reached by, by what stands under its request's number
abbrev found : {T N H : Type 0} → ℕ → Sender T N H → Option (TableEntry HandleEntry) → Option ℕ
found channel l o = reached_if l.receiver (option_and_then (kept_in (spot channel l)) o)

-- nothing is reached by what isn't a pending response
unreached : (receiver : ℕ) (place : Place) (s : TableEntry HandleEntry) → is_pending s.value.stage ≡ false
    → reached_if receiver (kept_in place s) ≡ None
unreached receiver place s not = go (s.place.row == place.row && s.place.index == place.index)
  where
    go : (b : Bool) → reached_if receiver (cond b (Some s.value) None) ≡ None
    go true = ap (λ b. cond b (Some receiver) None) not
    go false = refl

-- what is reached depends on pending responses alone
module _ (old new : TableView HandleEntry) (n k : ℕ) (a b c : TableEntry HandleEntry) (old_n : fin_map.get old.entries n ≡ Some a)
    (old_k : fin_map.get old.entries k ≡ None) (new_n : fin_map.get new.entries n ≡ Some b) (new_k : fin_map.get new.entries k ≡ Some c)
    (others : (q : ℕ) → q ≢ n → q ≢ k → fin_map.get new.entries q ≡ fin_map.get old.entries q) (not_a : is_pending a.value.stage ≡ false)
    (not_b : is_pending b.value.stage ≡ false) (not_c : is_pending c.value.stage ≡ false) where
  pub reached_still : {T N H : Type 0} (senders : List (Sender T N H)) (details : ResponseDetails)
      → reached senders new details ≡ reached senders old details
  reached_still {T} {N} {H} senders details = go (slice_get senders details.client_sender)
    where
      same : (l : Sender T N H) → found details.channel l (fin_map.get new.entries details.request) ≡ found details.channel l (fin_map.get old.entries details.request)
      same l = ⊎_elim
          (λ e. ap (found details.channel l) (ap (fin_map.get new.entries) e ∙ new_n) ∙ unreached l.receiver (spot details.channel l) b not_b
          ∙ sym (ap (found details.channel l) (ap (fin_map.get old.entries) e ∙ old_n) ∙ unreached l.receiver (spot details.channel l) a not_a))
          (λ other. ⊎_elim
          (λ e. ap (found details.channel l) (ap (fin_map.get new.entries) e ∙ new_k) ∙ unreached l.receiver (spot details.channel l) c not_c
          ∙ sym (ap (found details.channel l) (ap (fin_map.get old.entries) e ∙ old_k)))
          (λ none. ap (found details.channel l) (others details.request other none))
          (cases_eq details.request k))
          (cases_eq details.request n)

      go : (o : Option (Sender T N H))
          → option_and_then (λ l. found details.channel l (fin_map.get new.entries details.request)) o ≡ option_and_then (λ l. found details.channel
          l (fin_map.get old.entries details.request)) o
      go None = refl
      go (Some l) = same l

module _ {Q QH P PH K : Type 0} (p : Parts Q QH P PH K) (n : ℕ) (place : Place) (entry : HandleEntry)
    (at : fin_map.get p.table.entries n ≡ Some (table_entry place entry)) where
  -- a response to a request that has a handle reaches a queue that every server has
  module _ (core : IsCore p) (of_request : is_of_request entry.stage ≡ true) (server sender : ℕ) (there : sender < length p.server_senders) where
    abbrev details : ResponseDetails
    details = response_loan_details_of server n entry.sender (request_details p entry.sender entry.slot) entry.slot p.next

    abbrev IsThere : Option ℕ → Type 0
    IsThere o = HasQueue (sender_of sender p.server_senders).messages entry.slot o

    its_queue : (l : Sender Q RequestDetails QH) → slice_get p.client_senders entry.sender ≡ Some l → (h : HandleEntry)
        → value_in p.table details.request (spot entry.slot l) ≡ Some h → is_pending h.stage ≡ true → IsThere (Some l.receiver)
    its_queue l at_l h in_place pending =
        let kept = kept_there p.table details.request (spot entry.slot l) h in_place in
        let port = (core.sound.have_ports.handles details.request (table_entry (spot entry.slot l) h) kept).pending pending in
        let same = core.sound.numbered.requests_apart h.sender h.slot entry.sender entry.slot
        (handle_uses_request p empty_hand core.sound.counted details.request (table_entry (spot entry.slot l) h) kept (pending_is_request h.stage pending))
        (handle_uses_request p empty_hand core.sound.counted n (table_entry place entry) at of_request)
        (sym (core.sound.numbered.pendings details.request (table_entry (spot entry.slot l) h) kept pending)) in
        let known = listed (λ (c : ClientPart K). c.connected) p.clients port.0 port.1 port.2 in
        let receives : l.receiver ≡ port.1.receiver =
        ap (λ (x : Sender Q RequestDetails QH). x.receiver) (sym (get_or_from_slice_get p.client_senders entry.sender l no_sender at_l))
        ∙ ap (λ i. (sender_of i p.client_senders).receiver) (sym same.0 ∙ sym port.3)
        ∙ core.sound.client_ports.received port.0 port.1.connected known in
        let placed = core.sound.client_ports.placed port.0 port.1.connected known in
        let shaped = core.sound.sized.server_senders sender there in
        let inside : l.receiver < p.limits.max_clients = omega (arith, receives, placed) in
        let its = request_spot p empty_hand core.sound.counted n entry (value_there p.table n place entry at) of_request in (
          omega (arith, inside, shaped.queues),
          omega (arith, its.1, core.sound.sized.channels entry.sender its.0, shaped.queue_channels l.receiver inside),
        )

    pub queue_there : IsThere (reached p.client_senders p.table details)
    queue_there = go (slice_get p.client_senders entry.sender) refl
      where
        by_stage : (l : Sender Q RequestDetails QH) → slice_get p.client_senders entry.sender ≡ Some l → (h : HandleEntry)
            → value_in p.table details.request (spot entry.slot l) ≡ Some h → (b : Bool) → is_pending h.stage ≡ b
            → IsThere (cond b (Some l.receiver) None)
        by_stage l at_l h in_place true e = its_queue l at_l h in_place e
        by_stage l at_l h in_place false e = tt

        by_value : (l : Sender Q RequestDetails QH) → slice_get p.client_senders entry.sender ≡ Some l → (o : Option HandleEntry)
            → value_in p.table details.request (spot entry.slot l) ≡ o → IsThere (reached_if l.receiver o)
        by_value l at_l None e = tt
        by_value l at_l (Some h) e = by_stage l at_l h e (is_pending h.stage) refl

        go : (o : Option (Sender Q RequestDetails QH)) → slice_get p.client_senders entry.sender ≡ o
            → IsThere (option_and_then (λ l. reached_if l.receiver (value_in p.table details.request (spot entry.slot l))) o)
        go None e = tt
        go (Some l) e = by_value l e (value_in p.table details.request (spot entry.slot l)) refl

  -- a server with an active request is in use
  module _ (server loans : ℕ) (is : entry.stage ≡ stage.ActiveRequest server loans) where
    counted : list_any (λ handle. port_of handle == server) (all_handles (state_of p)) ≡ true
    counted =
        any_counted (λ handle. port_of handle == server) (all_handles (state_of p))
        ∙ ap (nat_lt 0) (handles_counted p (λ handle. port_of handle == server))
        ∙ lt-ltb 0 _ (tally-at (λ s. port_of (handle_of p s) == server) p.table.entries n (table_entry place entry) at
        (ap (λ g. port_of (handle_in p g entry.sender entry.slot) == server) is ∙ eq-eqb server server refl))

    last_of : (a : Bool) → (a || true) ≡ true
    last_of true = refl
    last_of false = refl

    in_use : is_in_use (state_of p) server ≡ true
    in_use = ap (λ x. (is_client_value (state_of p) server || is_server_value (state_of p) server) || x) counted
        ∙ last_of (is_client_value (state_of p) server || is_server_value (state_of p) server)

    pub server_stays : without_unused_port (state_of p) server ≡ state_of p
    server_stays = rw in_use refl
