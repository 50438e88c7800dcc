-- A response that is loaned, written and put into its queue without a handle: what three calls would have left is what is there.
use Rattle.std.proofs.Common.{◌≡◌, ◌≢◌, ◌<◌, ◌+◌, ◌-◌, ℕ, Bool, false, List, [], ◌∷◌, Option}
use Rattle.std.proofs.Common.{None, Some, Ok, length, map, refl, sym, ap, ◌∙◌, subst, ⊎_elim, arith}
use Rattle.std.specs.Prelude.{◌==◌, ◌&&◌, not, IfSome, slice_get, slice_index_or, slice_set}
use Rattle.std.specs.FinMap as fin_map
use Rattle.std.specs.List.{position}
use Rattle.std.proofs.lemmas.Bool.{cases_lt}
use Rattle.std.proofs.lemmas.List.{get_or-set_same}
use Rattle.std.proofs.lemmas.Option.{slice_get_within}
use Rattle.rr_table.proofs.MapLaws.{get-insert_other, get-insert_same}
use Rattle.rr_slots.specs.Pools as slot
use Rattle.rr_table.specs.TableView.{inserted, table_entry}
use Rattle.rr_table.specs.declared.place.Place.{Place}
use Rattle.rr_sender.specs.Senders.{content_at, loaned, with_changed_at}
use Rattle.rr_protocol.specs.Backpressure.{discards}
use Rattle.rr_protocol.specs.declared.kind.Kind.{Kind}
use Rattle.rr_protocol.specs.declared.settings.BackpressureAction.{BackpressureAction}
use Rattle.rr_protocol.specs.Loans.{LoansResponse}
use Rattle.rr_protocol.specs.Queries.{kind_at}
use Rattle.rr_protocol.specs.Releases.{without_unused_port}
use Rattle.rr_protocol.specs.Sends.{SendsResponse}
use Rattle.rr_protocol.specs.Writing as content
use Rattle.rr_store.specs.Answering.{active_entry}
use Rattle.rr_store.specs.Changes.{with_handle, with_new_handle, with_responses, with_server_sender_at, without_handle}
use Rattle.rr_store.specs.declared.details.ResponseDetails.{ResponseDetails}
use Rattle.rr_store.specs.declared.handle_entry.HandleEntry.{HandleEntry}
use Rattle.rr_store.specs.declared.handle_entry.Stage.{Stage}
use Rattle.rr_store.specs.declared.handle_entry.Stage.TheVariants as stage
use Rattle.rr_store.specs.declared.port.ServerPort.{ServerPort}
use Rattle.rr_store.specs.Delivering.{handed_on, is_blocked_in, reached}
use Rattle.rr_store.specs.Ending.{IsAskedPlace, IsLoanEnded, found_under}
use Rattle.rr_store.specs.Loaning.{with_messages, with_one_loan, with_sender_at}
use Rattle.rr_store.specs.Parts.{Parts, Sender}
use Rattle.rr_store.specs.Ports.{server_part}
use Rattle.rr_store.specs.Reaching.{IsCore}
use Rattle.rr_store.specs.Releasing.{without_loan}
use Rattle.rr_store.specs.Sound.{empty_hand, is_pending, response_details}
use Rattle.rr_store.specs.Views.{no_response, no_sender, sender_of, state_of}
use Rattle.rr_store.proofs.base.senders.Stored.{stored_twice}
use Rattle.rr_store.proofs.base.lookups.Placed.{value_there}
use Rattle.rr_loaning.proofs.steps.Response as loaning
use Rattle.rr_writing.proofs.steps.Whole.{whole_response_core, whole_response_view}
use Rattle.rr_sending.proofs.steps.Response as sending
use Rattle.rr_hub.specs.Copies.{IsOfCore, SendsResponseAtOnce, with_complete_response}
use Rattle.rr_hub.proofs.laws.AtOnce.{response_at_once}
use Rattle.rr_hub.proofs.laws.NextNumber.{next_names_nothing}
use Rattle.rr_hub.proofs.laws.OfCore.{of_core}
use Rattle.rr_hub.proofs.laws.Reaching.{reached_still, server_stays}
use Rattle.rr_hub.proofs.laws.Returning.{back, there}
use Rattle.rr_hub.proofs.queries.Naming.{handle_then}
use Rattle.rr_hub.proofs.laws.ResponseSteps.{Begun, Lent, Noted}
use Rattle.rr_hub.proofs.laws.ResponseSteps as steps

module _ {Q QH P PH K : Type 0} (p : Parts Q QH P PH K) (n : ℕ) (b : Begun p n) (noted : Noted p n b) (slot_lent : Lent p n b) where
  open b use {core, place, entry, at, kind, server, loans, found, index, told, limit, limited, none, sender, sends}
  open noted use {details, are, reach, reaches}
  open slot_lent use {IsDefault, header, default, own, row, free, unused, full, left}

  abbrev inside : sender < length p.server_senders
  inside = steps.inside p n b

  abbrev active : entry.stage ≡ stage.ActiveRequest server loans
  active = steps.active p n b

  abbrev l : Sender P ResponseDetails PH
  l = sender_of sender p.server_senders

  abbrev lent : Parts Q QH P PH K
  lent = steps.lent p n b noted slot_lent

  abbrev slot_loaned : Sender P ResponseDetails PH
  slot_loaned = steps.slot_loaned p n b noted slot_lent

  module _ (element : P) (action : K → ℕ → ℕ → BackpressureAction) (ports : List (ServerPort K)) (same : map server_part ports ≡ p.servers)
      (refused : Bool)
      (refusal : (i : ℕ) (s : ServerPort K) → position (λ (s : ServerPort K). s.port.id == (sender_of sender p.server_senders).owner) ports ≡ Some i
      → slice_get ports i ≡ Some s
      → refused ≡ (is_blocked_in (sender_of sender p.server_senders).messages p.limits.enable_safe_overflow_for_responses details.channel reach
      && not (discards action (server_part s).port details.client)))
      (passes : refused ≡ false) where
    abbrev counted : Parts Q QH P PH K
    counted = with_server_sender_at lent sender with_one_loan

    abbrev more : HandleEntry
    more = active_entry server entry.sender entry.slot (loans + 1)

    abbrev answering : Parts Q QH P PH K
    answering = with_handle counted n place more

    abbrev held : Stage → HandleEntry
    held g = record { stage = g; sender = sender; slot = own.index }

    -- after the loan
    abbrev loan : Parts Q QH P PH K
    loan = with_new_handle answering own (held stage.ResponseMutUninit)

    loan_core : IsCore loan
    loan_core = loaning.core_then p core n place entry at kind server loans found index told 1 limit limited none sender sends details are header own
        lent row free unused refl counted refl answering refl full left p.next refl loan refl IsDefault default

    loans_told : LoansResponse IsDefault (state_of p) n 1 (Ok p.next) (state_of loan)
    loans_told = loaning.loans_told p core n place entry at kind server loans found index told 1 limit limited none sender sends details are header own
        lent row free unused refl counted refl answering refl full left p.next refl loan refl IsDefault default

    loan_at : fin_map.get loan.table.entries p.next ≡ Some (table_entry own (held stage.ResponseMutUninit))
    loan_at = get-insert_same answering.table.entries p.next (table_entry own (held stage.ResponseMutUninit)) p.next refl

    loan_kind : kind_at (state_of loan) p.next ≡ Some Kind.ResponseMutUninit
    loan_kind = sym (handle_then loan loan_core p.next own (held stage.ResponseMutUninit) loan_at Kind.ResponseMutUninit refl)

    -- the sender of the loan
    loan_senders : loan.server_senders ≡ slice_set p.server_senders sender (with_one_loan slot_loaned)
    loan_senders = stored_twice p.server_senders sender slot_loaned with_one_loan inside

    loan_asks : (content_at (sender_of sender loan.server_senders).messages own.index).asked_len ≡ 1
    loan_asks =
        ap (λ (x : Sender P ResponseDetails PH). (content_at x.messages own.index).asked_len)
        (ap (sender_of sender) loan_senders ∙ get_or-set_same p.server_senders sender (with_one_loan slot_loaned) no_sender inside)
        ∙ sym (ap (λ (x : Sender P ResponseDetails PH). (content_at x.messages own.index).asked_len)
        (get_or-set_same p.server_senders sender slot_loaned no_sender inside))
        ∙ steps.lent_asks p n b noted slot_lent

    abbrev filled : Parts Q QH P PH K
    filled = with_responses loan sender (λ m. with_changed_at m own.index (slot.with_elements (element ∷ [])))

    -- after it was steps.written p n b noted slot_lent
    abbrev ready : Parts Q QH P PH K
    ready = with_handle filled p.next own (held stage.ResponseMut)

    ready_core : IsCore ready
    ready_core = whole_response_core loan loan_core p.next own (held stage.ResponseMutUninit) loan_at loan_kind
        (slot.with_elements (element ∷ [])) (content.with_elements (element ∷ [])) (λ header w. refl) (ap (λ k. 1 == k) loan_asks)
        filled ready refl refl

    ready_view : state_of ready ≡ with_complete_response (state_of loan) p.next (element ∷ [])
    ready_view = whole_response_view loan loan_core p.next own (held stage.ResponseMutUninit) loan_at loan_kind
        (slot.with_elements (element ∷ [])) (content.with_elements (element ∷ [])) (λ header w. refl) (ap (λ k. 1 == k) loan_asks)
        filled ready refl refl

    ready_at : fin_map.get ready.table.entries p.next ≡ Some (table_entry own (held stage.ResponseMut))
    ready_at = get-insert_same filled.table.entries p.next (table_entry own (held stage.ResponseMut)) p.next refl

    ready_kind : kind_at (state_of ready) p.next ≡ Some Kind.ResponseMut
    ready_kind = sym (handle_then ready ready_core p.next own (held stage.ResponseMut) ready_at Kind.ResponseMut refl)

    ready_senders : ready.server_senders ≡ slice_set p.server_senders sender ((steps.writes p n b noted slot_lent element) (with_one_loan slot_loaned))
    ready_senders = ap (λ ls. with_sender_at ls sender (steps.writes p n b noted slot_lent element)) loan_senders
        ∙ stored_twice p.server_senders sender (with_one_loan slot_loaned) (steps.writes p n b noted slot_lent element) inside

    ready_sender : sender_of sender ready.server_senders ≡ (steps.writes p n b noted slot_lent element) (with_one_loan slot_loaned)
    ready_sender = ap (sender_of sender) ready_senders
        ∙ get_or-set_same p.server_senders sender ((steps.writes p n b noted slot_lent element) (with_one_loan slot_loaned)) no_sender inside

    ready_details : details ≡ response_details ready sender own.index
    ready_details =
        let shaped = core.sound.sized.server_senders sender inside in
        sym (ap (λ (x : Sender P ResponseDetails PH). slice_index_or x.messages.details own.index no_response) ready_sender
        ∙ get_or-set_same l.messages.details own.index details no_response
        (omega (arith, slice_get_within l.messages.held own.index 0 free, shaped.details)))

    given : n < p.next
    given = ⊎_elim (λ h. h)
        (λ h. absurd (let f : None ≡ Some (table_entry place entry) = sym (core.sound.numbered.fresh n h) ∙ at in cc)) (cases_lt n p.next)

    fresh : fin_map.get p.table.entries p.next ≡ None
    fresh = core.sound.numbered.fresh p.next (omega arith)

    others : (q : ℕ) → q ≢ n → q ≢ p.next → fin_map.get ready.table.entries q ≡ fin_map.get p.table.entries q
    others q a b =
        get-insert_other loan.table.entries p.next (table_entry own (held stage.ResponseMut)) q b
        ∙ get-insert_other answering.table.entries p.next (table_entry own (held stage.ResponseMutUninit)) q b
        ∙ get-insert_other p.table.entries n (table_entry place more) q a

    active_at : fin_map.get ready.table.entries n ≡ Some (table_entry place more)
    active_at =
        get-insert_other loan.table.entries p.next (table_entry own (held stage.ResponseMut)) n (λ e. omega (arith, e, given))
        ∙ get-insert_other answering.table.entries p.next (table_entry own (held stage.ResponseMutUninit)) n (λ e. omega (arith, e, given))
        ∙ get-insert_same p.table.entries n (table_entry place more) n refl

    ready_reach : reach ≡ reached ready.client_senders ready.table details
    ready_reach = reaches ∙ sym (reached_still p.table ready.table n p.next (table_entry place entry) (table_entry place more)
        (table_entry own (held stage.ResponseMut)) at fresh active_at ready_at others (ap is_pending active) refl refl
        p.client_senders details)

    -- what a refusal is asked of is as it was
    abbrev IsRefusal : Sender P ResponseDetails PH → Type 0
    IsRefusal x = (i : ℕ) (s : ServerPort K) → position (λ (s : ServerPort K). s.port.id == x.owner) ports ≡ Some i → slice_get ports i ≡ Some s
        → refused ≡ (is_blocked_in x.messages p.limits.enable_safe_overflow_for_responses details.channel reach
        && not (discards action (server_part s).port details.client))

    blocked_still : (o : Option ℕ) → is_blocked_in l.messages p.limits.enable_safe_overflow_for_responses details.channel o
        ≡ is_blocked_in ((steps.writes p n b noted slot_lent element) (with_one_loan slot_loaned)).messages p.limits.enable_safe_overflow_for_responses details.channel o
    blocked_still None = refl
    blocked_still (Some receiver) = refl

    ready_refusal : IsRefusal (sender_of sender ready.server_senders)
    ready_refusal = subst IsRefusal (sym ready_sender) (λ i s it there. refusal i s it there
        ∙ ap (λ b. b && not (discards action (server_part s).port details.client)) (blocked_still reach))

    abbrev gone : Parts Q QH P PH K
    gone = without_handle ready p.next

    abbrev hands : Sender P ResponseDetails PH → Sender P ResponseDetails PH
    hands x = with_messages x (handed_on x.messages p.limits.enable_safe_overflow_for_responses details.channel own.index reach)

    abbrev handed : Parts Q QH P PH K
    handed = with_responses gone sender (λ m. handed_on m gone.limits.enable_safe_overflow_for_responses details.channel own.index reach)

    abbrev ended : Parts Q QH P PH K
    ended = with_server_sender_at handed sender without_loan

    -- after it was sent
    abbrev sent : Parts Q QH P PH K
    sent = record ended { table = p.table }

    -- the active request counts it no more
    counts_back : active_entry server entry.sender entry.slot (loans + 1 - 1) ≡ entry
    counts_back = ap (active_entry server entry.sender entry.slot) (let e : loans + 1 - 1 ≡ loans = omega arith in e)
        ∙ ap (λ g. record { stage = g; sender = entry.sender; slot = entry.slot }) (sym active)

    table_back : p.table ≡ inserted ended.table n place (active_entry server entry.sender entry.slot (loans + 1 - 1))
    table_back =
        ap (λ m. record p.table { entries = m }) (back p.table.entries n p.next (table_entry place more)
        (table_entry own (held stage.ResponseMutUninit)) (table_entry own (held stage.ResponseMut)) (table_entry place entry)
        at fresh (λ e. omega (arith, e, given)))
        ∙ ap (inserted ended.table n place) (sym counts_back)

    still_there : fin_map.get ended.table.entries n ≡ Some (table_entry place more)
    still_there = there p.table.entries n p.next (table_entry place more)
        (table_entry own (held stage.ResponseMutUninit)) (table_entry own (held stage.ResponseMut)) (table_entry place entry)
        at fresh (λ e. omega (arith, e, given))

    loan_ended : IsLoanEnded n (found_under ended.table n None) ended.table sent.table
    loan_ended = subst (λ o. IsLoanEnded n o ended.table sent.table) (sym (value_there ended.table n place more still_there))
        (subst (λ o. IfSome o (λ s. sent.table ≡ inserted ended.table n s.place (active_entry server entry.sender entry.slot (loans + 1 - 1))))
        (sym still_there) table_back)

    abbrev of_handle : (at : Option Place) × IfSome at (IsAskedPlace ended.client_senders details (sender_of sender handed.server_senders).receiver)
        × IsLoanEnded details.active_request (found_under ended.table details.active_request at) ended.table sent.table
    of_handle = (
      None,
      tt,
      subst (λ i. IsLoanEnded i (found_under ended.table i None) ended.table sent.table)
          (sym (ap (λ (d : ResponseDetails). d.active_request) are)) loan_ended,
    )

    sent_senders : sent.server_senders ≡ slice_set p.server_senders sender (without_loan (hands ((steps.writes p n b noted slot_lent element) (with_one_loan slot_loaned))))
    sent_senders =
        ap (λ ls. with_sender_at (with_sender_at ls sender hands) sender without_loan) ready_senders
        ∙ ap (λ ls. with_sender_at ls sender without_loan) (stored_twice p.server_senders sender ((steps.writes p n b noted slot_lent element)
        (with_one_loan slot_loaned)) hands inside)
        ∙ stored_twice p.server_senders sender (hands ((steps.writes p n b noted slot_lent element) (with_one_loan slot_loaned))) without_loan inside

    sent_owner : (sender_of sender sent.server_senders).owner ≡ server
    sent_owner =
        ap (λ ls. (sender_of sender ls).owner) sent_senders
        ∙ ap (λ (x : Sender P ResponseDetails PH). x.owner) (get_or-set_same p.server_senders sender
        (without_loan (hands ((steps.writes p n b noted slot_lent element) (with_one_loan slot_loaned)))) no_sender inside)
        ∙ steps.owned p n b

    stays : state_of sent ≡ without_unused_port (state_of sent) (sender_of sender sent.server_senders).owner
    stays = sym (ap (without_unused_port (state_of sent)) sent_owner ∙ server_stays sent n place entry at server loans active)

    sends_it : {U : Type 0} (unit : U) → SendsResponse action (state_of ready) p.next (Ok unit) (state_of sent)
    sends_it unit = sending.sends ready ready_core p.next own (held stage.ResponseMut) ready_at ready_kind action details ready_details reach ready_reach
        gone refl handed refl (sender_of sender handed.server_senders).receiver ended refl refl sent refl of_handle
        ports same refused ready_refusal sent stays passes

    sent_core : IsCore sent
    sent_core = sending.core_then ready ready_core p.next own (held stage.ResponseMut) ready_at ready_kind action details ready_details reach ready_reach
        gone refl handed refl (sender_of sender handed.server_senders).receiver ended refl refl sent refl of_handle
        ports same refused ready_refusal sent stays (sending.sound_then ready ready_core p.next own (held stage.ResponseMut) ready_at ready_kind
        action details ready_details reach ready_reach gone refl handed refl (sender_of sender handed.server_senders).receiver ended refl refl
        sent refl of_handle) passes

    -- the same without a handle and without counting
    abbrev made : Parts Q QH P PH K
    made = record (with_responses (steps.written p n b noted slot_lent element) sender (λ m. handed_on m p.limits.enable_safe_overflow_for_responses
        details.channel own.index reach)) {
          next = p.next + 1;
        }

    made_is : sent ≡ made
    made_is = ap (λ ls. record p { next = p.next + 1; server_senders = ls })
        (sent_senders
        ∙ ap (λ many. slice_set p.server_senders sender (record (hands (steps.writes p n b noted slot_lent element slot_loaned)) { loans = many }))
        (let e : l.loans + 1 - 1 ≡ l.loans = omega arith in e)
        ∙ sym (ap (λ ls. with_sender_at ls sender hands) (steps.written_senders p n b noted slot_lent element)
        ∙ stored_twice p.server_senders sender (steps.writes p n b noted slot_lent element slot_loaned) hands inside))

    pub made_core : IsCore made
    made_core = subst IsCore made_is sent_core

    pub made_told : {U : Type 0} (unit : U) → SendsResponseAtOnce IsDefault action (state_of p) n 1 (element ∷ []) (Ok unit) (state_of made)
    made_told unit =
        subst (λ (x : Parts Q QH P PH K). SendsResponseAtOnce IsDefault action (state_of p) n 1 (element ∷ []) (Ok unit) (state_of x)) made_is
        (response_at_once action (state_of p) (state_of loan) (state_of sent) n 1 p.next (next_names_nothing p empty_hand core.sound) IsDefault
        (element ∷ []) loans_told (subst IsOfCore ready_view (of_core ready ready_core)) (Ok unit)
        (subst (λ x. SendsResponse action x p.next (Ok unit) (state_of sent)) ready_view (sends_it unit)))
