-- A request of one element that was loaned and written is sent, all at once: the parts then, and what the whole call did.
use Rattle.std.proofs.Common.{◌≡◌, ◌≤◌, ◌<◌, ◌+◌, ◌*◌, ◌^◌, ℕ, cond, false, List, [], ◌∷◌}
use Rattle.std.proofs.Common.{Option, None, Some, Ok, length, map, refl, sym, ap, ◌∙◌, subst, ⊎_elim}
use Rattle.std.specs.Prelude.{◌==◌, ◌&&◌, not, count_by, slice_get, slice_index, slice_index_or, slice_set}
use Rattle.std.specs.Option.{is_some}
use Rattle.std.specs.List.{list_any, position}
use Rattle.std.specs.FinMap.{FinMap, get, insert, same_map, nat_cmp-IsAntisymmetric}
use Rattle.std.specs.Cmp.{nat_cmp_total}
use Rattle.std.specs.Ordering.{nat_cmp}
use Rattle.std.proofs.lemmas.Bool.{cases_eq, eqb-true, false≢true}
use Rattle.rr_table.proofs.MapLaws.{get-insert_other, get-insert_same}
use Rattle.rr_table.specs.TableView.{table_entry}
use Rattle.rr_sender.specs.Senders.{uses}
use Rattle.rr_protocol.specs.Backpressure.{discards}
use Rattle.rr_protocol.specs.declared.error.RequestSendError.{RequestSendError}
use Rattle.rr_protocol.specs.declared.error.RequestSendError.TheVariants as limit
use Rattle.rr_protocol.specs.declared.error.SendError.TheVariants as send
use Rattle.rr_protocol.specs.declared.kind.Kind.{Kind}
use Rattle.rr_protocol.specs.declared.settings.BackpressureAction.{BackpressureAction}
use Rattle.rr_protocol.specs.Queries.{kind_at}
use Rattle.rr_protocol.specs.Sends.{SendsRequest}
use Rattle.rr_store.specs.declared.details.RequestDetails.{RequestDetails}
use Rattle.rr_store.specs.declared.handle_entry.HandleEntry.{HandleEntry}
use Rattle.rr_store.specs.declared.handle_entry.Stage.TheVariants as stage
use Rattle.rr_store.specs.declared.port.ClientPort.{ClientPort}
use Rattle.rr_store.specs.Changes.{is_closed_to, is_open_to, with_client_sender_at, with_handle, with_new_handle, with_request_queued}
use Rattle.rr_store.specs.Loaning.{with_loan_made, with_one_loan}
use Rattle.rr_store.specs.Order.{IsRising}
use Rattle.rr_store.specs.Parts.{ClientPart, Parts, Sender, ServerPart}
use Rattle.rr_store.specs.Ports.{client_part, connected_of}
use Rattle.rr_store.specs.Reaching.{IsCore}
use Rattle.rr_store.specs.Sending.{is_blocked_at, pending_held, request_held, with_one_sent}
use Rattle.rr_store.specs.Sound.{empty_hand}
use Rattle.rr_store.specs.Views.{sender_of, state_of}
use Rattle.rr_store.proofs.base.lists.Adding.{mapped}
use Rattle.rr_store.proofs.base.lists.Mapped.{position-map}
use Rattle.rr_store.proofs.base.lists.Replaced.{map-set_one, set_cases, standing}
use Rattle.rr_store.proofs.base.lists.Rising.{rising_once}
use Rattle.rr_store.proofs.base.lists.Seen.{kept_rising}
use Rattle.rr_loaning.proofs.steps.Request as loaning
use Rattle.rr_sending.proofs.steps.Request as sending
use Rattle.rr_hub.specs.Copies.{SendsRequestAtOnce}
use Rattle.rr_hub.proofs.laws.NextNumber.{next_names_nothing}
use Rattle.rr_hub.proofs.laws.RequestSteps.{Begun, Lent, clients_then, counted_parts, filled, handle, loan_parts, loans, owner_is}
use Rattle.rr_hub.proofs.laws.RequestSteps.{ready_at, ready_core, ready_holds, ready_kind, ready_parts, ready_sender, ready_view, stands}

-- what comes under a number twice is there as if it had come once
insert_twice : {X : Type 0} (m : FinMap nat_cmp X) (k : ℕ) (v w : X) → insert (insert m k v) k w ≡ insert m k w
insert_twice m k v w = same_map nat_cmp_total nat_cmp-IsAntisymmetric _ _ (λ q. ⊎_elim
    (λ e. get-insert_same (insert m k v) k w q e ∙ sym (get-insert_same m k w q e))
    (λ n. get-insert_other (insert m k v) k w q n ∙ get-insert_other m k v q n ∙ sym (get-insert_other m k w q n))
    (cases_eq q k))

-- where the port at an index has a number, the one that is found by it has the same port, also after a loan was counted there
same_port : {K : Type 0} (ports : List (ClientPort K)) → IsRising (λ (c : ClientPort K). c.port.id) ports
    → (index : ℕ) (x y : ClientPort K) → slice_get ports index ≡ Some x → y.port ≡ x.port → (n : ℕ) → x.port.id ≡ n
    → (i : ℕ) (c : ClientPort K) → position (λ (c : ClientPort K). c.port.id == n) (slice_set ports index y) ≡ Some i
    → slice_get (slice_set ports index y) i ≡ Some c → c.port ≡ x.port
same_port {K} ports rising index x y at same n named i c found here =
    let stands = standing (λ (c : ClientPort K). c.port.id == n) (slice_set ports index y) i found in
    let both : Some stands.it ≡ Some c = sym stands.at ∙ here in
    let is : stands.it ≡ c = cc in
    let its : c.port.id ≡ n = ap (λ (c : ClientPort K). c.port.id) (sym is) ∙ eqb-true stands.it.port.id n stands.passes in
    set_cases ports index y i c here
    (λ e now. ap (λ (c : ClientPort K). c.port) (sym now) ∙ same)
    (λ other before. absurd (other (rising_once (λ (c : ClientPort K). c.port.id) ports rising i index c x before at (its ∙ sym named))))

-- where nothing is there, there is none
pub nothing : {X : Type 0} (o : Option X) → is_some o ≡ false → o ≡ None
nothing None e = refl
nothing (Some x) e = absurd (false≢true (sym e))

module _ {Q QH P PH K : Type 0} (p : Parts Q QH P PH K) (n : ℕ) (b : Begun p n) (e : Lent p n b) (element : Q)
    (IsDefault : QH → Type 0) (default : IsDefault e.header) where
  -- the parts as if its handle stood there, ready to be sent
  abbrev ready : Parts Q QH P PH K
  ready = ready_parts p n b e element

  abbrev held : HandleEntry
  held = request_held b.sender e.place.index

  core : IsCore ready
  core = ready_core p n b e element IsDefault default

  at : get ready.table.entries p.next ≡ Some (table_entry e.place held)
  at = ready_at p n b e element IsDefault default

  kind : kind_at (state_of ready) p.next ≡ Some Kind.RequestMut
  kind = ready_kind p n b e element IsDefault default

  -- its sender, before the loan and then
  abbrev old : Sender Q RequestDetails QH
  old = sender_of b.sender p.client_senders

  abbrev ready_one : Sender Q RequestDetails QH
  ready_one = with_one_loan (filled p n b e element)

  sender_is : sender_of b.sender ready.client_senders ≡ ready_one
  sender_is = ready_sender p n b e element

  -- what was asked before the loan of how many queues take the request, and of a reason against it
  module _ (action : K → ℕ → ℕ → BackpressureAction) (connections : ℕ)
      (count : connections ≡ count_by (is_open_to p b.sender) p.servers) where
    count_then : connections ≡ count_by (is_open_to ready b.sender) ready.servers
    count_then = count ∙ ap (λ (l : Sender Q RequestDetails QH).
        count_by (λ s. not (is_blocked_at p.limits.enable_safe_overflow_for_requests l.messages s.receiver)) p.servers) (sym sender_is)

    -- the handle that is put there
    abbrev pending : HandleEntry
    pending = pending_held b.sender e.place.index connections

    module _ (r : Parts Q QH P PH K) (counted : r ≡ counted_parts p n b e element) (o : Parts Q QH P PH K)
        (added : o ≡ with_new_handle r e.place pending) where
      added_is : o ≡ with_handle ready p.next e.place pending
      added_is = added ∙ ap (λ r. with_new_handle r e.place pending) counted
          ∙ ap (λ es. record ready { table = record p.table { entries = es } }) (sym
          (insert_twice (insert p.table.entries p.next (table_entry e.place (handle p n b e element stage.RequestMutUninit))) p.next
          (table_entry e.place held) (table_entry e.place pending)
          ∙ insert_twice p.table.entries p.next (table_entry e.place (handle p n b e element stage.RequestMutUninit)) (table_entry e.place pending)))

      -- what the calls that put it into queues ask for
      pub sender_added : b.sender < length o.client_senders
      sender_added = sending.sender_kept ready core p.next e.place held at kind
          action connections count_then o added_is

      pub queues_added : (i : ℕ) (s : ServerPart K) → slice_get o.servers i ≡ Some s
          → (s.receiver < length (sender_of b.sender o.client_senders).messages.queues)
          × (0 < length (slice_index_or (sender_of b.sender o.client_senders).messages.queues s.receiver []))
      queues_added = sending.queues_kept ready core p.next e.place held at kind
          action connections count_then o added_is

      pub takes_added : (0 < (sender_of b.sender o.client_senders).messages.capacity)
          × (0 < slice_index (sender_of b.sender o.client_senders).messages.held e.place.index)
          × (uses (sender_of b.sender o.client_senders).messages e.place.index + length o.servers < 2 ^ 64)
      takes_added = sending.takes_kept ready core p.next e.place held at kind
          action connections count_then o added_is

      pub marks_added : (i : ℕ) (s : ServerPart K) → slice_get o.servers i ≡ Some s
          → e.place.index * o.limits.max_servers + s.receiver < length (sender_of b.sender o.client_senders).may_answer
      marks_added = sending.marks_kept ready core p.next e.place held at kind
          action connections count_then o added_is

      module _ (v : Parts Q QH P PH K) (queued : v ≡ with_request_queued o b.sender e.place.index) where
        pub sender_queued : b.sender < length v.client_senders
        sender_queued = sending.sender_still ready core p.next e.place held at kind
            action connections count_then o added_is v queued

        pub loan_queued : 0 < (sender_of b.sender v.client_senders).loans
        loan_queued = sending.loan_counted ready core p.next e.place held at kind
            action connections count_then o added_is v queued

        pub pendings_queued : (sender_of b.sender v.client_senders).pendings + 1 < 2 ^ 64
        pendings_queued = sending.pendings_fit ready core p.next e.place held at kind
            action connections count_then o added_is v queued

        -- what was told of a reason against the request before the loan, by the ports that were kept
        module _ (ports : List (ClientPort K)) (same : map client_part ports ≡ p.clients) (reason : Option RequestSendError)
            (many : p.limits.max_active_requests_per_client ≤ old.pendings → reason ≡ Some limit.ExceedsMaxActiveRequests)
            (few : (i : ℕ) (c : ClientPort K) → position (λ (c : ClientPort K). c.port.id == old.owner) ports ≡ Some i
            → slice_get ports i ≡ Some c → old.pendings < p.limits.max_active_requests_per_client
            → reason ≡ cond (list_any (λ s. is_closed_to p b.sender s && not (discards action (client_part c).port s.port.id)) p.servers)
            (Some (limit.SendError send.UnableToDeliver)) None) (nothing : reason ≡ None)
            (t : Parts Q QH P PH K) (sent : t ≡ with_client_sender_at v b.sender with_one_sent) where
          abbrev Few : List (ClientPort K) → Sender Q RequestDetails QH → Type 0
          Few ports l = (i : ℕ) (c : ClientPort K) → position (λ (c : ClientPort K). c.port.id == l.owner) ports ≡ Some i
              → slice_get ports i ≡ Some c → l.pendings < p.limits.max_active_requests_per_client
              → reason ≡ cond (list_any (λ s. is_blocked_at p.limits.enable_safe_overflow_for_requests l.messages s.receiver
              && not (discards action (client_part c).port s.port.id)) p.servers)
              (Some (limit.SendError send.UnableToDeliver)) None

          many_then : p.limits.max_active_requests_per_client ≤ (sender_of b.sender ready.client_senders).pendings
              → reason ≡ Some limit.ExceedsMaxActiveRequests
          many_then = subst (λ (l : Sender Q RequestDetails QH). p.limits.max_active_requests_per_client ≤ l.pendings
              → reason ≡ Some limit.ExceedsMaxActiveRequests) (sym sender_is) many

          -- its client as it is kept
          kept : (x : ClientPort K) × (slice_get ports b.index ≡ Some x) × (client_part x ≡ (stands p n b).it)
          kept = mapped client_part ports b.index (stands p n b).it (ap (λ (xs : List (ClientPart K)). slice_get xs b.index) same ∙ (stands p n b).at)

          abbrev ports_then : List (ClientPort K)
          ports_then = slice_set ports b.index (record kept.0 { loans_made = kept.0.loans_made + 1 })

          same_then : map client_part ports_then ≡ clients_then p n b e element
          same_then = map-set_one client_part ports b.index (record kept.0 { loans_made = kept.0.loans_made + 1 })
              ∙ ap (λ xs. slice_set xs b.index (with_loan_made (client_part kept.0))) same
              ∙ ap (λ c. slice_set p.clients b.index (with_loan_made c)) kept.2

          found : position (λ (c : ClientPort K). c.port.id == old.owner) ports ≡ Some b.index
          found = sym (position-map client_part (λ (c : ClientPart K). c.port.id == old.owner) ports)
              ∙ ap (position (λ (c : ClientPart K). c.port.id == old.owner)) same
              ∙ subst (λ k. position (λ (c : ClientPart K). c.port.id == k) p.clients ≡ Some b.index) (sym (owner_is p n b)) b.told

          port_id : kept.0.port.id ≡ old.owner
          port_id = ap (λ (c : ClientPart K). c.port.id) kept.2 ∙ eqb-true (stands p n b).it.port.id n (stands p n b).passes ∙ sym (owner_is p n b)

          rising : IsRising (λ (c : ClientPort K). c.port.id) ports
          rising = kept_rising client_part ports (λ (c : ClientPart K). c.port.id)
              (subst (IsRising (λ (c : ClientPart K). c.port.id)) (sym same) (loaning.order_asked p b.core n b.kind))

          few_filled : Few ports_then ready_one
          few_filled i c at here below =
              few b.index kept.0 found kept.1 below
              ∙ ap (λ port. cond (list_any (λ s. is_closed_to p b.sender s && not (discards action (connected_of port).port s.port.id)) p.servers)
              (Some (limit.SendError send.UnableToDeliver)) None)
              (sym (same_port ports rising b.index kept.0 (record kept.0 { loans_made = kept.0.loans_made + 1 }) kept.1 refl old.owner port_id
              i c at here))

          few_then : Few ports_then (sender_of b.sender ready.client_senders)
          few_then = subst (Few ports_then) (sym sender_is) few_filled

          sends_ready : SendsRequest action (state_of ready) p.next (Ok connections) (state_of t)
          sends_ready = sending.sends ready core p.next e.place held at kind
              action connections count_then o added_is v queued ports_then same_then reason many_then few_then nothing t sent

          -- the core after it, and what the whole call did
          pub core_then : IsCore t
          core_then = sending.core_then ready core p.next e.place held at kind
              action connections count_then o added_is v queued ports_then same_then reason many_then few_then nothing t sent

          pub sends_at_once : (k : ℕ) → k ≡ p.next
              → SendsRequestAtOnce IsDefault action (state_of p) n 1 (element ∷ []) (Ok k) (state_of t)
          sends_at_once k is =
              subst (λ k. SendsRequestAtOnce IsDefault action (state_of p) n 1 (element ∷ []) (Ok k) (state_of t)) (sym is) (
                state_of (loan_parts p n b e element),
                loans p n b e element IsDefault default,
                next_names_nothing p empty_hand b.core.sound,
                ready_holds p n b e element IsDefault default,
                (
                  connections,
                  subst (λ s. SendsRequest action s p.next (Ok connections) (state_of t)) (ready_view p n b e element IsDefault default)
                      sends_ready,
                ),
              )
