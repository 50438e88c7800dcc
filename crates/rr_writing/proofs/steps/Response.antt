-- What stands in the slot of a response that was not sent is written, or nothing is.
use Rattle.std.proofs.Common.{◌≡◌, ◌<◌, ℕ, Bool, true, cond, not, Some, length, refl, sym, ap, ◌∙◌, subst, ⊎_elim}
use Rattle.std.specs.Prelude.{◌⊎◌, IsSomeAnd, option_and_then, nat_lt, slice_get}
use Rattle.std.specs.FinMap as fin_map
use Rattle.std.proofs.lemmas.Option.{get_or_from_slice_get}
use Rattle.rr_slots.specs.Pools.{Written, appended}
use Rattle.rr_slots.specs.Pools as slot
use Rattle.rr_table.specs.TableView.{table_entry, value_at}
use Rattle.rr_table.specs.declared.place.Place.{Place}
use Rattle.rr_sender.specs.Senders.{Messages, content_at, with_changed_at}
use Rattle.rr_sender.specs.Senders as sender
use Rattle.rr_protocol.specs.declared.kind.Kind.{Kind}
use Rattle.rr_protocol.specs.Messages.{Content, Handle, ResponseMessage, ResponseMutUninit, response_in}
use Rattle.rr_protocol.specs.Queries.{kind_at}
use Rattle.rr_protocol.specs.State.{handle_at, with_changed}
use Rattle.rr_protocol.specs.Writing.{is_complete, with_element, with_element_at, with_response_content, with_user_header}
use Rattle.rr_laws.specs.Complete.{HasComplete, MessagesComplete}
use Rattle.rr_laws.proofs.CompleteCalls.{push_response_complete}
use Rattle.rr_laws.proofs.CompleteMessages.{KeepsComplete, changed_complete, element_keeps, header_keeps, pushed_complete, response_content_complete}
use Rattle.rr_laws.proofs.Changing.{push_reached, response_content_role}
use Rattle.rr_store.specs.declared.handle_entry.HandleEntry.{HandleEntry}
use Rattle.rr_store.specs.Changes.{with_responses}
use Rattle.rr_store.specs.Parts.{Parts}
use Rattle.rr_store.specs.Reaching.{IsCore}
use Rattle.rr_store.specs.Sound.{IsSoundStore, empty_hand, is_response_loan}
use Rattle.rr_store.specs.Views.{handle_in, response_at, sender_of, state_of}
use Rattle.rr_store.specs.Writing.{is_written}
use Rattle.rr_store.proofs.base.hands.Stages.{response_loan_is_response}
use Rattle.rr_store.proofs.base.lookups.Looking.{shown}
use Rattle.rr_store.proofs.base.lookups.Placed.{value_there}
use Rattle.rr_store.proofs.base.lookups.Shown.{of_response}
use Rattle.rr_writing.proofs.laws.Written.{whole_or}
use Rattle.rr_store.proofs.base.views.Unseen.{with_slot}
use Rattle.rr_store.proofs.querying.Connected.{of_kind}
use Rattle.rr_writing.proofs.laws.Push.{response_mut_stage, response_ready_loan, response_there, says, changed_response_sound, changed_response_view, response_header_sound, response_header_view}
use Rattle.rr_writing.proofs.steps.Lent.{both}

module _ {Q QH P PH K : Type 0} (p : Parts Q QH P PH K) (n : ℕ) (place : Place) (entry : HandleEntry)
    (at : fin_map.get p.table.entries n ≡ Some (table_entry place entry)) where
  -- the handle is under its number
  here : value_at p.table n ≡ Some entry
  here = value_there p.table n place entry at

  -- a response that is being written is on loan, and so is one that can be sent
  pub loan_uninit : kind_at (state_of p) n ≡ Some Kind.ResponseMutUninit → is_response_loan entry.stage ≡ true
  loan_uninit kind = ap is_response_loan (response_mut_stage entry.stage
      (of_kind p (state_of p) n n refl refl Kind.ResponseMutUninit (λ e. cc) (λ e. cc) kind entry here))

  pub loan_either : (kind_at (state_of p) n ≡ Some Kind.ResponseMutUninit) ⊎ (kind_at (state_of p) n ≡ Some Kind.ResponseMut)
      → is_response_loan entry.stage ≡ true
  loan_either kind =
      ⊎_elim loan_uninit
      (λ k. response_ready_loan entry.stage (of_kind p (state_of p) n n refl refl Kind.ResponseMut (λ e. cc) (λ e. cc) k entry here))
      kind

  -- a response that is being written is shown as one
  uninit_shown : kind_at (state_of p) n ≡ Some Kind.ResponseMutUninit → (h : Handle Q QH P PH) → handle_at (state_of p) n ≡ Some h
      → ResponseMutUninit (response_at p entry.sender entry.slot) ≡ h
  uninit_shown kind h e =
      let g = response_mut_stage entry.stage (of_kind p (state_of p) n n refl refl Kind.ResponseMutUninit (λ e. cc) (λ e. cc) kind entry here) in
      let f : Some (handle_in p entry.stage entry.sender entry.slot) ≡ Some h = sym (shown p n entry here) ∙ e in
      let s : handle_in p entry.stage entry.sender entry.slot ≡ ResponseMutUninit (response_at p entry.sender entry.slot) = ap (λ x. handle_in p x entry.sender entry.slot) g in
      cc

  module _ (core : IsCore p) (loan : is_response_loan entry.stage ≡ true) where
    -- its sender and its slot are there
    pub sender_asked : entry.sender < length p.server_senders
    sender_asked = (response_there p core.sound n entry here loan).0

    pub slot_asked : entry.slot < length (sender_of entry.sender p.server_senders).messages.held
    slot_asked = (response_there p core.sound n entry here loan).1

    module _ (told : Bool) (change : Written P → Written P) (seen : Content P PH → Content P PH)
        (alike : (header : PH) (w : Written P) → says header (change w) ≡ seen (says header w)) (q : Parts Q QH P PH K)
        (written : q ≡ cond told (with_responses p entry.sender (λ m. with_changed_at m entry.slot change)) p) where
      -- the senders after it
      after : q ≡ record p
          { server_senders = cond told (with_slot p.server_senders entry.sender entry.slot change) p.server_senders }
      after = written
          ∙ sym (whole_or (λ ls. record p { server_senders = ls }) told (with_slot p.server_senders entry.sender entry.slot change)
          p.server_senders)

      -- what contracts see then
      state_then : state_of q ≡ cond told (with_changed (state_of p) n (with_response_content seen)) (state_of p)
      state_then = ap state_of after ∙ changed_response_view p core.sound n entry here loan change seen alike told

      -- with what is told of the response
      told_then : (R : ResponseMessage P PH → Type 0) → R (response_at p entry.sender entry.slot)
          → IsSomeAnd (option_and_then response_in (handle_at (state_of p) n)) (λ m. R m
          × (state_of q ≡ cond told (with_changed (state_of p) n (with_response_content seen)) (state_of p)))
      told_then R is =
          of_response p (state_of p) n n refl refl entry here
          (λ (m : ResponseMessage P PH). R m
          × (state_of q ≡ cond told (with_changed (state_of p) n (with_response_content seen)) (state_of p)))
          (response_loan_is_response entry.stage loan) (is, state_then)

      -- what is true then
      core_after : MessagesComplete (state_of q) → IsCore q
      core_after complete = record {
        sound = subst (λ q. IsSoundStore q empty_hand) (sym after) (changed_response_sound p core.sound n entry here loan change told);
        reached = push_reached (state_of p) n (with_response_content seen) (response_content_role seen) told (Some true) (λ b. b ≡ true) _
            core.reached (refl, state_then);
        complete = complete;
      }

    -- an element is appended, or the response is complete
    module _ (item : P) (told : Bool)
        (is : told ≡ not (is_written (content_at (sender_of entry.sender p.server_senders).messages entry.slot)))
        (q : Parts Q QH P PH K)
        (pushed : q ≡ cond told (with_responses p entry.sender (λ m. with_changed_at m entry.slot (appended item))) p) where
      pub pushed_view : IsSomeAnd (option_and_then response_in (handle_at (state_of p) n)) (λ m. (told ≡ not (is_complete m.content))
          × (state_of q ≡ cond told (with_changed (state_of p) n (with_response_content (with_element item))) (state_of p)))
      pushed_view = told_then told (appended item) (with_element item) (λ header w. refl) q pushed
          (λ (m : ResponseMessage P PH). told ≡ not (is_complete m.content)) is

      pub pushed_core : IsCore q
      pushed_core = core_after told (appended item) (with_element item) (λ header w. refl) q pushed
          (push_response_complete (state_of p) core.complete n item told (state_of q) pushed_view)

    -- the element at an index becomes another, or none stands there
    module _ (index : ℕ) (element : P) (told : Bool)
        (is : told ≡ nat_lt index (length (content_at (sender_of entry.sender p.server_senders).messages entry.slot).elements))
        (q : Parts Q QH P PH K)
        (written : q ≡ cond told (with_responses p entry.sender (λ m. with_changed_at m entry.slot (slot.with_element_at index element))) p)
      where
        pub element_view : IsSomeAnd (option_and_then response_in (handle_at (state_of p) n))
            (λ m. (told ≡ nat_lt index (length m.content.elements))
            × (state_of q ≡ cond told (with_changed (state_of p) n (with_response_content (with_element_at index element))) (state_of p)))
        element_view = told_then told (slot.with_element_at index element) (with_element_at index element) (λ header w. refl) q written
            (λ (m : ResponseMessage P PH). told ≡ nat_lt index (length m.content.elements)) is

        pub element_core : IsCore q
        element_core = core_after told (slot.with_element_at index element) (with_element_at index element) (λ header w. refl) q written
            (pushed_complete (state_of p) n (with_response_content (with_element_at index element)) told (state_of q)
            (state_then told (slot.with_element_at index element) (with_element_at index element) (λ header w. refl) q written)
            (λ h e c yes. response_content_complete (with_element_at index element) (element_keeps index element) h c) core.complete)

    -- the user header becomes another
    module _ (header : PH) (q : Parts Q QH P PH K)
        (written : q ≡ with_responses p entry.sender (λ m. sender.with_user_header m entry.slot header)) where
      pub header_view : state_of q ≡ with_changed (state_of p) n (with_response_content (with_user_header header))
      header_view = ap state_of written ∙ response_header_view p core.sound n entry here loan header

      pub header_core : IsCore q
      header_core = record {
        sound = subst (λ q. IsSoundStore q empty_hand) (sym written) (response_header_sound p core.sound n entry here loan header);
        reached = push_reached (state_of p) n (with_response_content (with_user_header header))
            (response_content_role (with_user_header header)) true (Some true) (λ b. b ≡ true) _ core.reached (refl, header_view);
        complete = subst (λ s. MessagesComplete s) (sym header_view)
            (changed_complete (state_of p) n (with_response_content (with_user_header header))
            (λ h e c. response_content_complete (with_user_header header) (header_keeps header) h c) core.complete);
      }

    -- what stands in the slot is what the response says
    pub content_told : (R : Written P → Type 0) → R (content_at (sender_of entry.sender p.server_senders).messages entry.slot)
        → IsSomeAnd (option_and_then response_in (handle_at (state_of p) n))
        (λ m. R (record { asked_len = m.content.asked_len; elements = m.content.elements }))
    content_told R told = of_response p (state_of p) n n refl refl entry here
        (λ (m : ResponseMessage P PH). R (record { asked_len = m.content.asked_len; elements = m.content.elements }))
        (response_loan_is_response entry.stage loan) told

    -- and the other way round
    pub content_seen : (R : Written P → Type 0) → IsSomeAnd (option_and_then response_in (handle_at (state_of p) n))
        (λ m. R (record { asked_len = m.content.asked_len; elements = m.content.elements }))
        → R (content_at (sender_of entry.sender p.server_senders).messages entry.slot)
    content_seen R told =
        both (option_and_then response_in (handle_at (state_of p) n)) (response_at p entry.sender entry.slot)
        (λ (m : ResponseMessage P PH). R (record { asked_len = m.content.asked_len; elements = m.content.elements }))
        (of_response p (state_of p) n n refl refl entry here (λ (m : ResponseMessage P PH). m ≡ response_at p entry.sender entry.slot)
        (response_loan_is_response entry.stage loan) refl) told

    -- its user header too
    pub header_told : (header : PH) → slice_get (sender_of entry.sender p.server_senders).messages.user_headers entry.slot ≡ Some header
        → IsSomeAnd (option_and_then response_in (handle_at (state_of p) n)) (λ m. m.content.user_header ≡ header)
    header_told header at = of_response p (state_of p) n n refl refl entry here (λ (m : ResponseMessage P PH). m.content.user_header ≡ header)
        (response_loan_is_response entry.stage loan)
        (get_or_from_slice_get (sender_of entry.sender p.server_senders).messages.user_headers entry.slot header p.spare_response_header at)

    -- what stands in the slot has been written through a `&mut`
    module _ (change : Written P → Written P) (seen : Content P PH → Content P PH)
        (alike : (header : PH) (w : Written P) → says header (change w) ≡ seen (says header w)) where
      -- contracts see it changed
      pub lent_view : state_of (with_responses p entry.sender (λ m. with_changed_at m entry.slot change))
          ≡ with_changed (state_of p) n (with_response_content seen)
      lent_view = state_then true change seen alike _ refl

      lent_core_if : ((h : Handle Q QH P PH) → handle_at (state_of p) n ≡ Some h → HasComplete h → HasComplete (with_response_content seen h))
          → IsCore (with_responses p entry.sender (λ m. with_changed_at m entry.slot change))
      lent_core_if keeps = core_after true change seen alike _ refl
          (pushed_complete (state_of p) n (with_response_content seen) true _ lent_view (λ h e c yes. keeps h e c) core.complete)

      -- what is true stays true, where it stays complete
      pub lent_core : KeepsComplete seen → IsCore (with_responses p entry.sender (λ m. with_changed_at m entry.slot change))
      lent_core keeps = lent_core_if (λ h e c. response_content_complete seen keeps h c)

      -- and where it need not be complete
      pub lent_core_uninit : kind_at (state_of p) n ≡ Some Kind.ResponseMutUninit
          → IsCore (with_responses p entry.sender (λ m. with_changed_at m entry.slot change))
      lent_core_uninit kind = lent_core_if (λ h e c. subst (λ (x : Handle Q QH P PH). HasComplete (with_response_content seen x)) (uninit_shown kind h e) tt)
