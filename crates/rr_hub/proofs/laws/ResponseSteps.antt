-- A response that is loaned, written and put into its queue without a handle: what is asked on the way.
use Rattle.std.proofs.Common.{◌≡◌, ◌<◌, ◌-◌, ℕ, [], ◌∷◌, Option, None, Some, Ok, length, refl, sym, ap, ◌∙◌, subst, arith}
use Rattle.std.specs.Prelude.{◌==◌, ◌↔◌, IsErrOf, IsSome, IsSomeAnd, slice_get, slice_index, slice_set}
use Rattle.std.specs.FinMap as fin_map
use Rattle.std.specs.List.{position}
use Rattle.std.proofs.lemmas.Bool.{eqb-true}
use Rattle.std.proofs.lemmas.List.{get_or-set_same, length-set}
use Rattle.std.proofs.lemmas.Option.{slice_get_within}
use Rattle.rr_slots.specs.Pools as slot
use Rattle.rr_slots.specs.declared.pool.AcquireError.{AcquireError}
use Rattle.rr_table.specs.TableView.{table_entry}
use Rattle.rr_table.specs.declared.place.Place.{Place}
use Rattle.rr_sender.specs.Senders.{all_entries, content_at, loaned, times, used_count, with_changed_at}
use Rattle.rr_protocol.specs.declared.error.LoanError.{LoanError}
use Rattle.rr_protocol.specs.declared.kind.Kind.{Kind}
use Rattle.rr_protocol.specs.Queries.{kind_at}
use Rattle.rr_protocol.specs.State.{numbers_left}
use Rattle.rr_protocol.specs.Writing as content
use Rattle.rr_store.specs.Answering.{active_in, response_loan_details_of}
use Rattle.rr_store.specs.Changes.{response_loan_limit, with_responses}
use Rattle.rr_store.specs.declared.details.ResponseDetails.{ResponseDetails}
use Rattle.rr_store.specs.declared.handle_entry.HandleEntry.{HandleEntry}
use Rattle.rr_store.specs.declared.handle_entry.Stage.TheVariants as stage
use Rattle.rr_store.specs.Delivering.{HasQueue, reached}
use Rattle.rr_store.specs.Loaning.{with_messages}
use Rattle.rr_store.specs.Parts.{Parts, Sender, ServerPart}
use Rattle.rr_store.specs.Reaching.{IsCore}
use Rattle.rr_store.specs.Sound.{is_of_request, request_details}
use Rattle.rr_store.specs.Views.{no_sender, sender_of, state_of}
use Rattle.rr_store.proofs.base.lists.Adding.{some_responses}
use Rattle.rr_store.proofs.base.lists.Replaced.{standing}
use Rattle.rr_store.proofs.base.senders.Stored.{stored_twice}
use Rattle.rr_store.proofs.base.views.Counts.{listed}
use Rattle.rr_store.proofs.querying.Connected.{active_stage, of_kind}
use Rattle.rr_store.proofs.base.lookups.Placed.{value_there}
use Rattle.rr_loaning.proofs.steps.Response as loaning
use Rattle.rr_sending.proofs.steps.Response as sending
use Rattle.rr_hub.proofs.laws.Reaching.{queue_there}
use Rattle.rr_hub.proofs.laws.Returning.{there}

module _ {Q QH P PH K : Type 0} (p : Parts Q QH P PH K) (core : IsCore p) (n : ℕ) (place : Place) (entry : HandleEntry)
    (at : fin_map.get p.table.entries n ≡ Some (table_entry place entry)) (kind : kind_at (state_of p) n ≡ Some Kind.ActiveRequest)
    (server loans : ℕ) (found : active_in entry.stage ≡ Some (server, loans)) (index : ℕ)
    (told : position (λ (s : ServerPart K). s.port.id == server) p.servers ≡ Some index) (sender : ℕ)
    (sends : IsSomeAnd (slice_get p.servers index) (λ s. sender ≡ s.sender)) (inside : sender < length p.server_senders) where
  stage_is : entry.stage ≡ stage.ActiveRequest server loans
  stage_is =
      let its = active_stage entry.stage
      (of_kind p (state_of p) n n refl refl Kind.ActiveRequest (λ e. cc) (λ e. cc) kind entry (value_there p.table n place entry at)) in
      let same : Some (its.0, its.1) ≡ Some (server, loans) = sym (ap active_in its.2) ∙ found in
      let pair : (its.0, its.1) ≡ (server, loans) = cc in
      its.2 ∙ ap (λ (x : ℕ × ℕ). stage.ActiveRequest x.0 x.1) pair

  -- its sender is the server's
  owner_is : (sender_of sender p.server_senders).owner ≡ server
  owner_is =
      let stands = standing (λ (s : ServerPart K). s.port.id == server) p.servers index told in
      let its : sender ≡ stands.it.sender = subst (λ o. IsSomeAnd o (λ (s : ServerPart K). sender ≡ s.sender)) stands.at sends in
      ap (λ l. (sender_of l p.server_senders).owner) its
      ∙ (core.sound.server_ports.own index stands.it.connected
      (listed (λ (s : ServerPart K). s.connected) p.servers index stands.it stands.at)).1
      ∙ eqb-true stands.it.port.id server stands.passes

  pub owner_asked : IsSome (position (λ (s : ServerPart K). s.port.id == (sender_of sender p.server_senders).owner) p.servers)
  owner_asked = subst (λ (o : ℕ). IsSome (position (λ (s : ServerPart K). s.port.id == o) p.servers)) (sym owner_is) (subst IsSome (sym told) refl)

  module _ (details : ResponseDetails)
      (are : details ≡ response_loan_details_of server n entry.sender (request_details p entry.sender entry.slot) entry.slot p.next)
      (reach : Option ℕ) (reaches : reach ≡ reached p.client_senders p.table details) where
    -- the queue that it reaches is there
    pub queue_asked : HasQueue (sender_of sender p.server_senders).messages details.channel reach
    queue_asked =
        subst (λ o. HasQueue (sender_of sender p.server_senders).messages details.channel o) (sym reaches)
        (subst (λ (d : ResponseDetails). HasQueue (sender_of sender p.server_senders).messages d.channel (reached p.client_senders p.table d)) (sym are)
        (queue_there p n place entry at core (ap is_of_request stage_is) server sender inside))

module _ {Q QH P PH K : Type 0} where
  -- what is known of an active request that may loan a response of one element, before it does
  pub record Begun (p : Parts Q QH P PH K) (n : ℕ) : Type 0 where
    pub core : IsCore p
    pub place : Place
    pub entry : HandleEntry
    pub at : fin_map.get p.table.entries n ≡ Some (table_entry place entry)
    pub kind : kind_at (state_of p) n ≡ Some Kind.ActiveRequest
    pub server : ℕ
    pub loans : ℕ
    pub found : active_in entry.stage ≡ Some (server, loans)
    pub index : ℕ
    pub told : position (λ (s : ServerPart K). s.port.id == server) p.servers ≡ Some index
    pub limit : Option LoanError
    pub limited : IsSomeAnd (slice_get p.servers index) (λ s. limit ≡ response_loan_limit p s 1 loans)
    pub none : limit ≡ None
    pub sender : ℕ
    pub sends : IsSomeAnd (slice_get p.servers index) (λ s. sender ≡ s.sender)

  -- of the response, and where it is sent to
  pub record Noted (p : Parts Q QH P PH K) (n : ℕ) (b : Begun p n) : Type 0 where
    pub details : ResponseDetails
    pub are : details ≡ response_loan_details_of b.server n b.entry.sender (request_details p b.entry.sender b.entry.slot) b.entry.slot p.next
    pub reach : Option ℕ
    pub reaches : reach ≡ reached p.client_senders p.table details

  -- and of the slot that it gets
  pub record Lent (p : Parts Q QH P PH K) (n : ℕ) (b : Begun p n) : Type 1 where
    pub IsDefault : PH → Type 0
    pub header : PH
    pub default : IsDefault header
    pub own : Place
    pub row : own.row ≡ (sender_of b.sender p.server_senders).row
    pub free : slice_get (sender_of b.sender p.server_senders).messages.held own.index ≡ Some 0
    pub unused : times own.index (all_entries (sender_of b.sender p.server_senders).messages.queues) ≡ 0
    pub full : IsErrOf (Ok own) AcquireError.Full
        ↔ (used_count (sender_of b.sender p.server_senders).messages ≡ length (sender_of b.sender p.server_senders).messages.held)
    pub left : 0 < numbers_left (state_of p)

module _ {Q QH P PH K : Type 0} (p : Parts Q QH P PH K) (n : ℕ) (b : Begun p n) where
  open b use {core, place, entry, at, kind, server, loans, found, index, told, limit, limited, none, sender, sends}

  pub inside : sender < length p.server_senders
  inside = loaning.own_asked p core n place entry at kind server loans found index told 1 limit limited none sender sends

  pub active : entry.stage ≡ stage.ActiveRequest server loans
  active = stage_is p core n place entry at kind server loans found index told sender sends inside

  pub owned : (sender_of sender p.server_senders).owner ≡ server
  owned = owner_is p core n place entry at kind server loans found index told sender sends inside

  module _ (noted : Noted p n b) where
    open noted use {details, are, reach, reaches}

    queue_there_is : HasQueue (sender_of sender p.server_senders).messages details.channel reach
    queue_there_is = queue_asked p core n place entry at kind server loans found index told sender sends inside details are reach reaches

    module _ (slot_lent : Lent p n b) where
      open slot_lent use {IsDefault, header, default, own, row, free, unused, full, left}

      -- after the slot was loaned
      abbrev pub lent : Parts Q QH P PH K
      lent = with_responses p sender (λ m. loaned m own.index 1 details header)

      abbrev pub l : Sender P ResponseDetails PH
      l = sender_of sender p.server_senders

      abbrev pub slot_loaned : Sender P ResponseDetails PH
      slot_loaned = with_messages l (loaned l.messages own.index 1 details header)

      lent_sender : sender_of sender lent.server_senders ≡ slot_loaned
      lent_sender = get_or-set_same p.server_senders sender slot_loaned no_sender inside

      slot_inside : own.index < length l.messages.held
      slot_inside = slice_get_within l.messages.held own.index 0 free

      pub lent_inside : sender < length lent.server_senders
      lent_inside = omega (arith, inside, length-set p.server_senders sender slot_loaned)

      pub lent_slot : own.index < length (sender_of sender lent.server_senders).messages.held
      lent_slot = subst (λ (x : Sender P ResponseDetails PH). own.index < length x.messages.held) (sym lent_sender)
          (omega (arith, slot_inside, length-set l.messages.held own.index 1))

      -- which asks for one element
      pub lent_asks : (content_at (sender_of sender lent.server_senders).messages own.index).asked_len ≡ 1
      lent_asks =
          let shaped = core.sound.sized.server_senders sender inside in
          ap (λ (x : Sender P ResponseDetails PH). (content_at x.messages own.index).asked_len) lent_sender
          ∙ ap (λ (w : slot.Written P). w.asked_len) (get_or-set_same l.messages.contents own.index (slot.nothing_written 1) (slot.nothing_written 0)
          (omega (arith, slot_inside, shaped.contents)))

      module _ (element : P) where
        abbrev pub writes : Sender P ResponseDetails PH → Sender P ResponseDetails PH
        writes x = with_messages x (with_changed_at x.messages own.index (slot.with_elements (element ∷ [])))

        -- after it was written
        abbrev pub written : Parts Q QH P PH K
        written = with_responses lent sender (λ m. with_changed_at m own.index (slot.with_elements (element ∷ [])))

        pub written_senders : written.server_senders ≡ slice_set p.server_senders sender (writes slot_loaned)
        written_senders = stored_twice p.server_senders sender slot_loaned writes inside

        written_sender : sender_of sender written.server_senders ≡ writes slot_loaned
        written_sender = ap (sender_of sender) written_senders ∙ get_or-set_same p.server_senders sender (writes slot_loaned) no_sender inside

        pub written_inside : sender < length written.server_senders
        written_inside = omega (arith, lent_inside, length-set lent.server_senders sender (writes (sender_of sender lent.server_senders)))

        pub written_queue : HasQueue (sender_of sender written.server_senders).messages details.channel reach
        written_queue = subst (λ (x : Sender P ResponseDetails PH). HasQueue x.messages details.channel reach) (sym written_sender) queue_there_is

        pub written_takes : (0 < (sender_of sender written.server_senders).messages.capacity)
            × (0 < slice_index (sender_of sender written.server_senders).messages.held own.index)
        written_takes =
            let shaped = core.sound.sized.server_senders sender inside in
            subst (λ (x : Sender P ResponseDetails PH). (0 < x.messages.capacity) × (0 < slice_index x.messages.held own.index)) (sym written_sender) (
              omega (arith, some_responses p.limits core.sound.sized.limits_fit, shaped.capacity_is),
              omega (arith, get_or-set_same l.messages.held own.index 1 0 slot_inside),
            )
