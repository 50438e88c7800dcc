-- A request of one element that is loaned, written and sent at once: the parts between, and what follows of them.
use Rattle.std.proofs.Common.{◌≡◌, ◌<◌, ◌+◌, ◌^◌, ℕ, true, List, [], ◌∷◌, Option, None, Some, Ok, length, refl, sym, ap, ◌∙◌, subst, arith}
use Rattle.std.specs.Prelude.{◌==◌, ◌↔◌, IsErrOf, IsSome, IsSomeAnd, slice_get, slice_index_or, slice_set}
use Rattle.std.specs.List.{position}
use Rattle.std.specs.FinMap.{get}
use Rattle.std.proofs.lemmas.Bool.{eqb-true}
use Rattle.std.proofs.lemmas.List.{get_or-set_same, length-set}
use Rattle.std.proofs.lemmas.Option.{slice_get_within}
use Rattle.rr_table.proofs.MapLaws.{get-insert_same}
use Rattle.rr_slots.specs.declared.pool.AcquireError.{AcquireError}
use Rattle.rr_slots.specs.Pools as slot
use Rattle.rr_table.specs.TableView.{inserted, table_entry}
use Rattle.rr_table.specs.declared.place.Place.{Place}
use Rattle.rr_sender.specs.Senders.{Messages, all_entries, content_at, loaned, times, used_count, with_changed_at}
use Rattle.rr_protocol.specs.declared.error.LoanError.{LoanError}
use Rattle.rr_protocol.specs.declared.kind.Kind.{Kind}
use Rattle.rr_protocol.specs.Loans.{LoansRequest}
use Rattle.rr_protocol.specs.Queries.{kind_at}
use Rattle.rr_protocol.specs.State.{numbers_left}
use Rattle.rr_protocol.specs.Writing.{is_complete, with_elements}
use Rattle.rr_store.specs.declared.details.RequestDetails.{RequestDetails}
use Rattle.rr_store.specs.declared.handle_entry.HandleEntry.{HandleEntry}
use Rattle.rr_store.specs.declared.handle_entry.Stage.{Stage}
use Rattle.rr_store.specs.declared.handle_entry.Stage.TheVariants as stage
use Rattle.rr_store.specs.declared.port.ClientPort.{ClientPort}
use Rattle.rr_store.specs.declared.store.Store.{Store}
use Rattle.rr_store.specs.Asked.{CanInsert}
use Rattle.rr_store.specs.Changes.{request_loan_limit, with_client_at, with_client_sender_at, with_new_handle, with_requests}
use Rattle.rr_store.specs.Loaning.{loan_details, with_loan_made, with_messages, with_one_loan}
use Rattle.rr_store.specs.Opened.{opened}
use Rattle.rr_store.specs.Parts.{ClientPart, Parts, Sender, ServerPart}
use Rattle.rr_store.specs.Ports.{client_part}
use Rattle.rr_store.specs.Reaching.{IsCore}
use Rattle.rr_store.specs.Sound.{empty_hand}
use Rattle.rr_store.specs.Views.{content_of, no_sender, request_at, sender_of, state_of}
use Rattle.rr_store.proofs.base.lists.Replaced.{Standing, standing}
use Rattle.rr_store.proofs.base.lists.Seen.{seen_at, seen_found}
use Rattle.rr_store.proofs.base.senders.Connected.{servers_placed}
use Rattle.rr_store.proofs.base.senders.Stored.{stored_twice}
use Rattle.rr_store.proofs.base.views.Counts.{listed}
use Rattle.rr_loaning.proofs.steps.Request as loaning
use Rattle.rr_writing.proofs.steps.Whole.{whole_request_core, whole_request_view}
use Rattle.rr_hub.specs.Copies.{IsOfCore, with_complete_request}
use Rattle.rr_hub.proofs.laws.OfCore.{of_core}
use Rattle.rr_hub.proofs.queries.Naming.{handle_then}

module _ {Q QH P PH K : Type 0} where
  -- what is known of a client that may loan a request of one element, before it does
  pub record Begun (p : Parts Q QH P PH K) (n : ℕ) : Type 0 where
    pub core : IsCore p
    pub kind : kind_at (state_of p) n ≡ Some Kind.Client
    pub left : 0 < numbers_left (state_of p)
    pub index : ℕ
    pub told : position (λ (c : ClientPart K). c.port.id == n) p.clients ≡ Some index
    pub limit : Option LoanError
    pub limited : IsSomeAnd (slice_get p.clients index) (λ c. limit ≡ request_loan_limit p c 1)
    pub none : limit ≡ None
    pub sender : ℕ
    pub sends : IsSomeAnd (slice_get p.clients index) (λ c. sender ≡ c.sender)

  -- and of the slot that it gets
  pub record Lent (p : Parts Q QH P PH K) (n : ℕ) (b : Begun p n) : Type 0 where
    pub details : RequestDetails
    pub are : IsSomeAnd (slice_get p.clients b.index) (λ c. details ≡ loan_details p c)
    pub header : QH
    pub place : Place
    pub row : place.row ≡ (sender_of b.sender p.client_senders).row
    pub free : slice_get (sender_of b.sender p.client_senders).messages.held place.index ≡ Some 0
    pub unused : times place.index (all_entries (sender_of b.sender p.client_senders).messages.queues) ≡ 0
    pub full : IsErrOf (Ok place) AcquireError.Full
        ↔ (used_count (sender_of b.sender p.client_senders).messages ≡ length (sender_of b.sender p.client_senders).messages.held)

-- the same, from what is told of the ports that are kept
module _ {QB QH PB PH K Q P : Type 0} (s : Store QB QH PB PH K Q P) (n : ℕ) where
  abbrev pub begun_by : IsCore (opened s) → kind_at (state_of (opened s)) n ≡ Some Kind.Client → 0 < numbers_left (state_of (opened s)) → (index : ℕ)
      → position (λ (c : ClientPort K). c.port.id == n) s.clients.ports ≡ Some index → (limit : Option LoanError)
      → IsSomeAnd (slice_get (opened s).clients index) (λ c. limit ≡ request_loan_limit (opened s) c 1) → limit ≡ None → (sender : ℕ)
      → IsSomeAnd (slice_get s.clients.ports index) (λ c. sender ≡ c.port.sender) → Begun (opened s) n
  begun_by core kind left index told limit limited none sender sends = record {
    core = core;
    kind = kind;
    left = left;
    index = index;
    told = seen_found client_part s.clients.ports (λ (c : ClientPart K). c.port.id == n) index told;
    limit = limit;
    limited = limited;
    none = none;
    sender = sender;
    sends = seen_at client_part s.clients.ports index (λ (c : ClientPart K). sender ≡ c.sender) sends;
  }

module _ {Q QH P PH K : Type 0} (p : Parts Q QH P PH K) (n : ℕ) (b : Begun p n) where
  -- its sender
  abbrev pub old : Sender Q RequestDetails QH
  old = sender_of b.sender p.client_senders

  pub stands : Standing (λ (c : ClientPart K). c.port.id == n) p.clients b.index
  stands = standing (λ (c : ClientPart K). c.port.id == n) p.clients b.index b.told

  pub there : b.sender < length p.client_senders
  there = loaning.sender_asked p b.core n b.kind b.index b.told 1 b.limit b.limited b.none b.sender b.sends

  -- which has its number
  pub owner_is : old.owner ≡ n
  owner_is =
      ap (λ l. (sender_of l p.client_senders).owner)
      (subst (λ o. IsSomeAnd o (λ (c : ClientPart K). b.sender ≡ c.sender)) stands.at b.sends)
      ∙ (b.core.sound.client_ports.own b.index stands.it.connected
      (listed (λ (c : ClientPart K). c.connected) p.clients b.index stands.it stands.at)).1
      ∙ eqb-true stands.it.port.id n stands.passes

  pub owner_there : IsSome (position (λ (c : ClientPart K). c.port.id == old.owner) p.clients)
  owner_there = subst (λ k. IsSome (position (λ (c : ClientPart K). c.port.id == k) p.clients)) (sym owner_is)
      (loaning.client_asked p b.core n b.kind)

  -- each server has a queue
  pub queues_there : (i : ℕ) (s : ServerPart K) → slice_get p.servers i ≡ Some s
      → (s.receiver < length old.messages.queues) × (0 < length (slice_index_or old.messages.queues s.receiver []))
  queues_there i s here =
      let placed = servers_placed p empty_hand b.core.sound i s here in
      let shape = b.core.sound.sized.client_senders b.sender there in
      (omega (arith, placed, shape.queues), omega (arith, shape.queue_channels s.receiver placed))

  module _ (e : Lent p n b) (element : Q) where
    abbrev slot_is : ℕ
    slot_is = e.place.index

    -- the messages after the loan, and after the element was written
    abbrev lent_messages : Messages Q RequestDetails QH
    lent_messages = loaned old.messages slot_is 1 e.details e.header

    abbrev written_messages : Messages Q RequestDetails QH
    written_messages = with_changed_at lent_messages slot_is (slot.with_elements (element ∷ []))

    -- the sender after each step
    abbrev lent : Sender Q RequestDetails QH
    lent = with_messages old lent_messages

    abbrev pub filled : Sender Q RequestDetails QH
    filled = with_messages old written_messages

    -- the parts after the loan, and after the element was written
    abbrev pub lent_parts : Parts Q QH P PH K
    lent_parts = with_requests p b.sender (λ m. loaned m slot_is 1 e.details e.header)

    abbrev written_parts : Parts Q QH P PH K
    written_parts = record p { client_senders = slice_set p.client_senders b.sender filled }

    -- and after the loan was counted
    abbrev pub clients_then : List (ClientPart K)
    clients_then = slice_set p.clients b.index (with_loan_made stands.it)

    abbrev pub counted_parts : Parts Q QH P PH K
    counted_parts = record p { clients = clients_then; client_senders = slice_set p.client_senders b.sender (with_one_loan filled) }

    lent_sender : sender_of b.sender lent_parts.client_senders ≡ lent
    lent_sender = get_or-set_same p.client_senders b.sender lent no_sender there

    slot_there : slot_is < length old.messages.held
    slot_there = slice_get_within old.messages.held slot_is 0 e.free

    -- one element is asked for
    lent_asks : (content_at lent_messages slot_is).asked_len ≡ 1
    lent_asks = ap (λ (w : slot.Written Q). w.asked_len)
        (get_or-set_same old.messages.contents slot_is (slot.nothing_written 1) (slot.nothing_written 0)
        (omega (arith, slot_there, (b.core.sound.sized.client_senders b.sender there).contents)))

    module _ (q : Parts Q QH P PH K) (lends : q ≡ lent_parts) where
      -- its sender and slot are there
      pub sender_lent : b.sender < length q.client_senders
      sender_lent = subst (λ (q : Parts Q QH P PH K). b.sender < length q.client_senders) (sym lends)
          (omega (arith, there, length-set p.client_senders b.sender lent))

      pub slot_lent : slot_is < length (sender_of b.sender q.client_senders).messages.held
      slot_lent = subst (λ (q : Parts Q QH P PH K). slot_is < length (sender_of b.sender q.client_senders).messages.held) (sym lends)
          (subst (λ (l : Sender Q RequestDetails QH). slot_is < length l.messages.held) (sym lent_sender)
          (omega (arith, slot_there, length-set old.messages.held slot_is 1)))

      pub asks_some : 0 < (content_at (sender_of b.sender q.client_senders).messages slot_is).asked_len
      asks_some = subst (λ (q : Parts Q QH P PH K). 0 < (content_at (sender_of b.sender q.client_senders).messages slot_is).asked_len) (sym lends)
          (subst (λ (l : Sender Q RequestDetails QH). 0 < (content_at l.messages slot_is).asked_len) (sym lent_sender)
          (omega (arith, lent_asks)))

      module _ (w : Parts Q QH P PH K)
          (writes : w ≡ with_requests q b.sender (λ m. with_changed_at m slot_is (slot.with_elements (element ∷ [])))) where
        written_is : w ≡ written_parts
        written_is = writes
            ∙ ap (λ q. with_requests q b.sender (λ m. with_changed_at m slot_is (slot.with_elements (element ∷ [])))) lends
            ∙ ap (λ ls. record p { client_senders = ls })
            (stored_twice p.client_senders b.sender lent
            (λ l. with_messages l (with_changed_at l.messages slot_is (slot.with_elements (element ∷ [])))) there)

        pub client_counts : IsSomeAnd (slice_get w.clients b.index) (λ c. c.loans_made + 1 < 2 ^ 64)
        client_counts = subst (λ (x : Parts Q QH P PH K). IsSomeAnd (slice_get x.clients b.index) (λ c. c.loans_made + 1 < 2 ^ 64))
            (sym written_is)
            (loaning.client_counts p b.core n b.kind b.index b.told 1 b.limit b.limited b.none b.sender b.sends e.details e.are e.header
            e.place lent_parts e.row e.free e.unused refl)

        pub sender_written : b.sender < length w.client_senders
        sender_written = subst (λ (x : Parts Q QH P PH K). b.sender < length x.client_senders) (sym written_is)
            (omega (arith, there, length-set p.client_senders b.sender filled))

        pub loans_fit : (sender_of b.sender w.client_senders).loans + 1 < 2 ^ 64
        loans_fit = subst (λ (x : Parts Q QH P PH K). (sender_of b.sender x.client_senders).loans + 1 < 2 ^ 64) (sym written_is)
            (subst (λ (l : Sender Q RequestDetails QH). l.loans + 1 < 2 ^ 64)
            (sym (get_or-set_same p.client_senders b.sender filled no_sender there))
            (subst (λ (l : Sender Q RequestDetails QH). l.loans + 1 < 2 ^ 64) lent_sender
            (loaning.loans_still_fit p b.core n b.kind b.index b.told 1 b.limit b.limited b.none b.sender b.sends e.details e.are e.header
            e.place lent_parts e.row e.free e.unused refl)))

        module _ (r : Parts Q QH P PH K) (counted : IsSomeAnd (slice_get w.clients b.index)
            (λ c. r ≡ with_client_sender_at (with_client_at w b.index (with_loan_made c)) b.sender with_one_loan)) where
          pub counted_is : r ≡ counted_parts
          counted_is =
              subst (λ o. IsSomeAnd o (λ c. r ≡ with_client_sender_at (with_client_at written_parts b.index (with_loan_made c)) b.sender with_one_loan))
              stands.at
              (subst (λ w. IsSomeAnd (slice_get w.clients b.index)
              (λ c. r ≡ with_client_sender_at (with_client_at w b.index (with_loan_made c)) b.sender with_one_loan)) written_is counted)
              ∙ ap (λ ls. record p { clients = clients_then; client_senders = ls })
              (stored_twice p.client_senders b.sender filled with_one_loan there)

    -- the parts where the loan was counted before the element was written
    abbrev first_counted : Parts Q QH P PH K
    first_counted = with_client_sender_at (with_client_at lent_parts b.index (with_loan_made stands.it)) b.sender with_one_loan

    first : IsSomeAnd (slice_get lent_parts.clients b.index)
        (λ c. first_counted ≡ with_client_sender_at (with_client_at lent_parts b.index (with_loan_made c)) b.sender with_one_loan)
    first = subst (λ o. IsSomeAnd o
        (λ c. first_counted ≡ with_client_sender_at (with_client_at lent_parts b.index (with_loan_made c)) b.sender with_one_loan))
        (sym stands.at) refl

    pub addable : CanInsert p.table p.next e.place × (p.next + 1 < 2 ^ 64)
    addable = loaning.add_asked p b.core n b.kind b.index b.told 1 b.limit b.limited b.none b.sender b.sends e.details e.are e.header
        e.place lent_parts e.row e.free e.unused refl first_counted first

    -- the parts as if the handle was put there at each step: on loan, and ready to be sent
    abbrev pub handle : Stage → HandleEntry
    handle s = record { stage = s; sender = b.sender; slot = slot_is }

    abbrev pub loan_parts : Parts Q QH P PH K
    loan_parts = record p {
      next = p.next + 1;
      clients = clients_then;
      client_senders = slice_set p.client_senders b.sender (with_one_loan lent);
      table = inserted p.table p.next e.place (handle stage.RequestMutUninit);
    }

    abbrev pub ready_parts : Parts Q QH P PH K
    ready_parts = record p {
      next = p.next + 1;
      clients = clients_then;
      client_senders = slice_set p.client_senders b.sender (with_one_loan filled);
      table = inserted (inserted p.table p.next e.place (handle stage.RequestMutUninit)) p.next e.place (handle stage.RequestMut);
    }

    loan_is : loan_parts ≡ with_new_handle first_counted e.place (handle stage.RequestMutUninit)
    loan_is = ap (λ ls. record p {
      next = p.next + 1;
      clients = clients_then;
      client_senders = ls;
      table = inserted p.table p.next e.place (handle stage.RequestMutUninit);
    }) (sym (stored_twice p.client_senders b.sender lent with_one_loan there))

    -- the sender is in both what it says
    loan_sender : sender_of b.sender loan_parts.client_senders ≡ with_one_loan lent
    loan_sender = get_or-set_same p.client_senders b.sender (with_one_loan lent) no_sender there

    pub ready_sender : sender_of b.sender ready_parts.client_senders ≡ with_one_loan filled
    ready_sender = get_or-set_same p.client_senders b.sender (with_one_loan filled) no_sender there

    module _ (IsDefault : QH → Type 0) (default : IsDefault e.header) where
      loan_core : IsCore loan_parts
      loan_core = loaning.core_then p b.core n b.kind b.index b.told 1 b.limit b.limited b.none b.sender b.sends e.details e.are e.header
          e.place lent_parts e.row e.free e.unused refl first_counted first e.full b.left p.next refl loan_parts loan_is IsDefault default

      pub loans : LoansRequest IsDefault (state_of p) n 1 (Ok p.next) (state_of loan_parts)
      loans = loaning.loans p b.core n b.kind b.index b.told 1 b.limit b.limited b.none b.sender b.sends e.details e.are e.header
          e.place lent_parts e.row e.free e.unused refl first_counted first e.full b.left p.next refl loan_parts loan_is IsDefault default

      loan_at : get loan_parts.table.entries p.next ≡ Some (table_entry e.place (handle stage.RequestMutUninit))
      loan_at = get-insert_same p.table.entries p.next (table_entry e.place (handle stage.RequestMutUninit)) p.next refl

      loan_kind : kind_at (state_of loan_parts) p.next ≡ Some Kind.RequestMutUninit
      loan_kind = sym (handle_then loan_parts loan_core p.next e.place (handle stage.RequestMutUninit) loan_at Kind.RequestMutUninit refl)

      completes : is_complete (with_elements (element ∷ []) (request_at loan_parts b.sender slot_is).content) ≡ true
      completes = ap (λ (l : Sender Q RequestDetails QH). is_complete (with_elements (element ∷ []) (content_of p.spare_request_header l.messages slot_is))) loan_sender
          ∙ ap (λ k. 1 == k) lent_asks

      abbrev between : Parts Q QH P PH K
      between = record loan_parts { client_senders = slice_set p.client_senders b.sender (with_one_loan filled) }

      between_is : between ≡ with_requests loan_parts b.sender (λ m. with_changed_at m slot_is (slot.with_elements (element ∷ [])))
      between_is = ap (λ ls. record loan_parts { client_senders = ls }) (sym
          (stored_twice p.client_senders b.sender (with_one_loan lent)
          (λ l. with_messages l (with_changed_at l.messages slot_is (slot.with_elements (element ∷ [])))) there))

      pub ready_core : IsCore ready_parts
      ready_core = whole_request_core loan_parts loan_core p.next e.place (handle stage.RequestMutUninit) loan_at loan_kind
          (slot.with_elements (element ∷ [])) (with_elements (element ∷ [])) (λ header w. refl) completes between ready_parts between_is refl

      pub ready_view : state_of ready_parts ≡ with_complete_request (state_of loan_parts) p.next (element ∷ [])
      ready_view = whole_request_view loan_parts loan_core p.next e.place (handle stage.RequestMutUninit) loan_at loan_kind
          (slot.with_elements (element ∷ [])) (with_elements (element ∷ [])) (λ header w. refl) completes between ready_parts between_is refl

      pub ready_at : get ready_parts.table.entries p.next ≡ Some (table_entry e.place (handle stage.RequestMut))
      ready_at = get-insert_same (inserted p.table p.next e.place (handle stage.RequestMutUninit)).entries p.next
          (table_entry e.place (handle stage.RequestMut)) p.next refl

      pub ready_kind : kind_at (state_of ready_parts) p.next ≡ Some Kind.RequestMut
      ready_kind = sym (handle_then ready_parts ready_core p.next e.place (handle stage.RequestMut) ready_at Kind.RequestMut refl)

      pub ready_holds : IsOfCore (with_complete_request (state_of loan_parts) p.next (element ∷ []))
      ready_holds = subst IsOfCore ready_view (of_core ready_parts ready_core)
