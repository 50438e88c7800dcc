-- What contracts see of a core after an active request was released.
use Rattle.std.proofs.Common.{◌≡◌, ◌≢◌, ◌<◌, ◌+◌, ◌*◌, ℕ, Bool, true, false, List, [], Option, None, Some, map, option_map, refl, sym, ap, ◌∙◌, ⊎_elim, arith}
use Rattle.std.specs.Prelude.{◌==◌, ◌&&◌, not, filter, find, slice_get}
use Rattle.std.specs.Option.{option_map_or}
use Rattle.std.specs.FinMap as fin_map
use Rattle.std.proofs.lemmas.Bool.{cases_eq, eq-eqb, ne_eqb}
use Rattle.rr_table.specs.TableView.{TableEntry, removed}
use Rattle.rr_table.proofs.MapLaws.{get-map_values, get-remove_cases, map_values-same, map_values-but}
use Rattle.rr_protocol.specs.Messages.{Handle, RequestMessage, RequestMutUninit, RequestMut, PendingResponse, ActiveRequest}
use Rattle.rr_protocol.specs.Releases.{without_server}
use Rattle.rr_protocol.specs.State.{State, with_changed}
use Rattle.rr_store.specs.declared.handle_entry.HandleEntry.{HandleEntry}
use Rattle.rr_store.specs.declared.handle_entry.Stage.{Stage}
use Rattle.rr_store.specs.declared.handle_entry.Stage.TheVariants as stage
use Rattle.rr_store.specs.declared.details.RequestDetails.{RequestDetails}
use Rattle.rr_store.specs.Parts.{Parts, ServerPart, Sender}
use Rattle.rr_store.specs.Views.{state_of, handle_in, handle_of, is_awaited, waiting_at, request_at, no_server, no_sender, sender_of, request_in_slot, requests_at}
use Rattle.rr_store.specs.Sound.{IsSoundStore, empty_hand, is_of_request, is_pending, request_details, request_uses, server_place}
use Rattle.rr_releasing.proofs.laws.active.Sound.{senders, after_active, inside}
use Rattle.rr_store.proofs.base.senders.Connected.{server_is}
use Rattle.rr_releasing.proofs.laws.active.Sound as active
use Rattle.rr_store.proofs.base.lookups.Stands.{request_there}
use Rattle.rr_releasing.proofs.laws.Marks.{marked_then}
use Rattle.rr_protocol.specs.Keys.{RequestKey}
use Rattle.rr_sender.specs.Senders.{queue_at}
use Rattle.rr_store.specs.Releasing.{IsHandleGone, without_mark}
use Rattle.rr_store.proofs.base.lists.Replaced.{find_read, set_alike}
use Rattle.rr_store.proofs.base.views.Agreeing.{same_state, same_requests, same_expired}
use Rattle.rr_releasing.proofs.laws.GivenBack.{bare_less}
use Rattle.rr_releasing.proofs.laws.BorrowEnded.{one_less}
use Rattle.rr_store.proofs.base.views.Counts.{listed}
use Rattle.rr_store.proofs.releasing.active.MayAnswer.{mark_of, filter_same, filter_twice}
use Rattle.rr_releasing.proofs.laws.View.{removed_view, table_entry_shown}
use Rattle.rr_store.proofs.base.hands.Stages.{pending_is_request, handle_uses_request}
use Rattle.rr_releasing.proofs.laws.Uncounted.{uncounted}

-- what is beside what is true
true_beside : (b : Bool) → (b && not false) ≡ b
true_beside true = refl
true_beside false = refl

module _ {Q QH P PH K : Type 0} (p : Parts Q QH P PH K) (sound : IsSoundStore p empty_hand) (k : ℕ) (s : TableEntry HandleEntry)
    (at : fin_map.get p.table.entries k ≡ Some s) (server loans : ℕ) (is : s.value.stage ≡ stage.ActiveRequest server loans) where
  abbrev entry : HandleEntry
  entry = s.value

  abbrev taken : Parts Q QH P PH K
  taken = record p { table = removed p.table k }

  abbrev receiver : ℕ
  receiver = server_place p server

  within : receiver < p.limits.max_servers
  within = inside p sound k s at server loans is

  -- the core with the mark cleared
  abbrev unmarked : Parts Q QH P PH K
  unmarked = active.unmarked p sound k s at server loans is

  awaited_is : (l i r n : ℕ) → n < no_server → is_awaited unmarked l i r n ≡ (is_awaited p l i r n
      && not (entry.sender == l && (entry.slot * p.limits.max_servers + receiver) == (i * p.limits.max_servers + r)))
  awaited_is l i r n fits = marked_then p.client_senders entry.sender (entry.slot * p.limits.max_servers + receiver)
      (request_there p sound k s at (ap is_of_request is)).0 p.limits.max_servers l i r n fits

  -- a server has a number that stands for one
  numbered : (j : ℕ) (d : ServerPart K) → slice_get p.servers j ≡ Some d → d.port.id < no_server
  numbered j d e =
      let own = sound.server_ports.own j d.connected (listed (λ c. c.connected) p.servers j d e) in
      omega (arith, sound.server_ports.numbered d.sender own.0, own.1, sound.sized.next_fits)

  placed : (j : ℕ) (d : ServerPart K) → slice_get p.servers j ≡ Some d → d.receiver < p.limits.max_servers
  placed j d e = sound.server_ports.placed j d.connected (listed (λ c. c.connected) p.servers j d e)

  -- of another request as many servers are waited for
  awaits_there : (l i : ℕ) → (entry.sender ≡ l → entry.slot ≡ i → ⊥) → waiting_at unmarked l i ≡ waiting_at taken l i
  awaits_there l i n = ap (map (λ (d : ServerPart K). d.port.id))
      (filter_same (λ d. is_awaited unmarked l i d.receiver d.port.id) (λ d. is_awaited taken l i d.receiver d.port.id) p.servers (λ j d e.
      awaited_is l i d.receiver d.port.id (numbered j d e)
      ∙ ap (λ b. is_awaited p l i d.receiver d.port.id && not b) (other d.receiver (placed j d e))
      ∙ true_beside (is_awaited p l i d.receiver d.port.id)))
    where
      other : (r : ℕ) → r < p.limits.max_servers → (entry.sender == l
          && (entry.slot * p.limits.max_servers + receiver) == (i * p.limits.max_servers + r)) ≡ false
      other r h =
          ⊎_elim
          (λ e. ap (λ b. b && (entry.slot * p.limits.max_servers + receiver) == (i * p.limits.max_servers + r)) (eq-eqb entry.sender l e)
          ∙ ne_eqb (entry.slot * p.limits.max_servers + receiver) (i * p.limits.max_servers + r)
          (λ f. n e (mark_of p.limits.max_servers entry.slot receiver i r within h f).0))
          (λ m. ap (λ b. b && (entry.slot * p.limits.max_servers + receiver) == (i * p.limits.max_servers + r)) (ne_eqb entry.sender l m))
          (cases_eq entry.sender l)

  -- of this one the server is waited for no more
  awaits_here : waiting_at unmarked entry.sender entry.slot ≡ filter (λ n. not (n == server)) (waiting_at taken entry.sender entry.slot)
  awaits_here =
      ap (map (λ (d : ServerPart K). d.port.id)) (filter_same (λ d. is_awaited unmarked entry.sender entry.slot d.receiver d.port.id)
      (λ d. is_awaited taken entry.sender entry.slot d.receiver d.port.id && not (d.port.id == server)) p.servers (λ j d e.
      awaited_is entry.sender entry.slot d.receiver d.port.id (numbered j d e)
      ∙ ap (λ b. is_awaited p entry.sender entry.slot d.receiver d.port.id && not
      (b && (entry.slot * p.limits.max_servers + receiver) == (entry.slot * p.limits.max_servers + d.receiver)))
      (eq-eqb entry.sender entry.sender refl)
      ∙ ap (λ b. is_awaited p entry.sender entry.slot d.receiver d.port.id && not b)
      (same_mark d.receiver (placed j d e) ∙ server_is p sound server within j d e)))
      ∙ filter_twice (λ d. is_awaited taken entry.sender entry.slot d.receiver d.port.id) (λ d. d.port.id) (λ n. not (n == server)) p.servers
    where
      same_mark : (r : ℕ) → r < p.limits.max_servers → ((entry.slot * p.limits.max_servers + receiver) ==
          (entry.slot * p.limits.max_servers + r)) ≡ (receiver == r)
      same_mark r h =
          ⊎_elim
          (λ e. eq-eqb (entry.slot * p.limits.max_servers + receiver) (entry.slot * p.limits.max_servers + r)
          (ap (λ n. entry.slot * p.limits.max_servers + n) e) ∙ sym (eq-eqb receiver r e))
          (λ n. ne_eqb (entry.slot * p.limits.max_servers + receiver) (entry.slot * p.limits.max_servers + r)
          (λ f. n (mark_of p.limits.max_servers entry.slot receiver entry.slot r within h f).1) ∙ sym (ne_eqb receiver r n))
          (cases_eq receiver r)

  -- the number of the request
  abbrev number : ℕ
  number = (request_details p entry.sender entry.slot).number

  used : 0 < request_uses p entry.sender entry.slot
  used = handle_uses_request p empty_hand sound.counted k s at (ap is_of_request is)

  -- a pending response under the request's number is of the request
  pending_here : (j : ℕ) (t : TableEntry HandleEntry) → fin_map.get p.table.entries j ≡ Some t → is_pending t.value.stage ≡ true
      → j ≡ number
      → (entry.sender ≡ t.value.sender) × (entry.slot ≡ t.value.slot)
  pending_here j t e pends its =
      sound.numbered.requests_apart entry.sender entry.slot t.value.sender t.value.slot used
      (handle_uses_request p empty_hand sound.counted j t e (pending_is_request t.value.stage pends))
      (sym its ∙ sound.numbered.pendings j t e pends)

  -- and one under another number is of another
  pending_there : (j : ℕ) (t : TableEntry HandleEntry) → fin_map.get p.table.entries j ≡ Some t → is_pending t.value.stage ≡ true
      → j ≢ number
      → entry.sender ≡ t.value.sender → entry.slot ≡ t.value.slot → ⊥
  pending_there j t e pends n l i = n (sound.numbered.pendings j t e pends ∙ sym (λ x. (request_details p (l x) (i x)).number))

  still : (j : ℕ) (t : TableEntry HandleEntry) → fin_map.get taken.table.entries j ≡ Some t → fin_map.get p.table.entries j ≡ Some t
  still j t e = (get-remove_cases p.table.entries k j t e).1

  abbrev clean : Sender Q RequestDetails QH
  clean = without_mark (entry.slot * p.limits.max_servers + receiver) (sender_of entry.sender p.client_senders)

  -- a request says what it did
  says : (l i : ℕ) → request_at unmarked l i ≡ request_at p l i
  says l i = set_alike p.client_senders entry.sender clean no_sender
      (λ (x : Sender Q RequestDetails QH). request_in_slot p.spare_request_header x.messages i) refl l

  -- a pending response with these servers
  abbrev handle_with : RequestMessage Q QH → Bool → ℕ → List ℕ → Handle Q QH P PH
  handle_with message hint connections servers = PendingResponse
      (record { message = message; hint = hint; connections = connections; servers = servers })

  -- every other handle shows what it did
  shown_there : (g : Stage) (l i : ℕ) → (is_pending g ≡ true → entry.sender ≡ l → entry.slot ≡ i → ⊥)
      → handle_in taken g l i ≡ handle_in unmarked g l i
  shown_there stage.RequestMutUninit l i n = ap RequestMutUninit (sym (says l i))
  shown_there stage.RequestMut l i n = ap RequestMut (sym (says l i))
  shown_there (stage.PendingResponse hint connections) l i n =
      ap (λ servers. handle_with (request_at p l i) hint connections servers) (sym (awaits_there l i (n refl)))
      ∙ ap (λ message. handle_with message hint connections (waiting_at unmarked l i)) (sym (says l i))
  shown_there (stage.ActiveRequest server loans) l i n = ap (λ message. ActiveRequest (record { message = message; server = server }))
      (sym (says l i))
  shown_there stage.ResponseMutUninit l i n = refl
  shown_there stage.ResponseMut l i n = refl
  shown_there stage.Response l i n = refl

  -- and the pending response of the request doesn't wait for the server
  shown_here : (g : Stage) (l i : ℕ) → (is_pending g ≡ true → (entry.sender ≡ l) × (entry.slot ≡ i))
      → handle_in unmarked g l i ≡ without_server server (handle_in taken g l i)
  shown_here stage.RequestMutUninit l i h = ap RequestMutUninit (says l i)
  shown_here stage.RequestMut l i h = ap RequestMut (says l i)
  shown_here (stage.PendingResponse hint connections) l i h =
      let e = h refl in
      ap (λ message. handle_with message hint connections (waiting_at unmarked l i)) (says l i)
      ∙ ap (λ servers. handle_with (request_at p l i) hint connections servers)
      (sym (λ x. waiting_at unmarked (e.0 x) (e.1 x)) ∙ awaits_here
      ∙ (λ x. filter (λ n. not (n == server)) (waiting_at taken (e.0 x) (e.1 x))))
  shown_here (stage.ActiveRequest server loans) l i h = ap (λ message. ActiveRequest (record { message = message; server = server })) (says l i)
  shown_here stage.ResponseMutUninit l i h = refl
  shown_here stage.ResponseMut l i h = refl
  shown_here stage.Response l i h = refl

  -- one handle is changed, if it is there
  changed : (state_of unmarked).handles ≡ (with_changed (state_of taken) number (without_server server)).handles
  changed = go (fin_map.get taken.table.entries number) refl
    where
      seen : (o : Option (TableEntry HandleEntry)) → fin_map.get taken.table.entries number ≡ o
          → fin_map.get (state_of taken).handles number ≡ option_map (handle_of taken) o
      seen o e = get-map_values (handle_of taken) taken.table.entries number ∙ ap (option_map (handle_of taken)) e

      others : (j : ℕ) (t : TableEntry HandleEntry) → fin_map.get taken.table.entries j ≡ Some t → j ≢ number
          → handle_of taken t ≡ handle_of unmarked t
      others j t e n = shown_there t.value.stage t.value.sender t.value.slot (λ pends. pending_there j t (still j t e) pends n)

      go : (o : Option (TableEntry HandleEntry)) → fin_map.get taken.table.entries number ≡ o
          → (state_of unmarked).handles ≡ (with_changed (state_of taken) number (without_server server)).handles
      go None e =
          map_values-same (handle_of unmarked) (handle_of taken) taken.table.entries
          (λ j t f. sym (others j t f (λ same. absurd (let g : None ≡ Some t = sym e ∙ ap (fin_map.get taken.table.entries) (sym same)
          ∙ f in cc))))
          ∙ sym (ap (λ o. option_map_or (λ handle. fin_map.insert (state_of taken).handles number (without_server server handle)) o
          (state_of taken).handles) (seen None e))
      go (Some t) e =
          map_values-but (handle_of taken) (handle_of unmarked) taken.table.entries number t e others
          ∙ ap (fin_map.insert (state_of taken).handles number)
          (shown_here t.value.stage t.value.sender t.value.slot (λ pends. pending_here number t (still number t e) pends refl))
          ∙ sym (ap (λ o. option_map_or (λ handle. fin_map.insert (state_of taken).handles number (without_server server handle)) o
          (state_of taken).handles) (seen (Some t) e))

  -- the queues show the same
  requests : (key : RequestKey) → requests_at unmarked key ≡ requests_at taken key
  requests key i =
      option_map_or
      (λ server. find_read (λ l. l.owner == key.client)
      (λ l. map (request_in_slot p.spare_request_header l.messages) (queue_at l.messages server.receiver 0))
      [] p.client_senders entry.sender clean no_sender refl refl i)
      (find (λ server. server.port.id == key.server) p.servers)
      []

  unmarked_view : state_of unmarked ≡ with_changed (state_of taken) number (without_server server)
  unmarked_view = same_state (state_of unmarked) (with_changed (state_of taken) number (without_server server)) refl refl refl refl changed
      (same_requests unmarked taken requests) refl (same_expired _ _ (same_requests unmarked taken requests) refl) refl

  abbrev without : State Q QH P PH K
  without = record (state_of p) { handles = fin_map.remove (state_of p).handles k }

  seen_active : handle_of p s ≡ handle_in p (stage.ActiveRequest server loans) entry.sender entry.slot
  seen_active = ap (λ (g : Stage). handle_in p g entry.sender entry.slot) is

  abbrev own : Sender Q RequestDetails QH
  own = sender_of entry.sender unmarked.client_senders

  -- contracts see the handle go, and that the request's pending response doesn't wait for the server any more
  pub active_view : IsHandleGone (state_of p) k server (state_of (after_active p sound k s at server loans is))
  active_view = record {
    handle = handle_in p (stage.ActiveRequest server loans) entry.sender entry.slot;
    there = table_entry_shown p k s at ∙ ap Some seen_active;
    its_port = refl;
    gone = uncounted unmarked (senders p sound k s at server loans is) p.server_senders
        (bare_less unmarked.client_senders entry.sender entry.slot (one_less own.messages.borrowed receiver 0) own.loans own.pendings) refl
        ∙ unmarked_view ∙ ap (λ t. with_changed t number (without_server server)) (removed_view p k);
  }
