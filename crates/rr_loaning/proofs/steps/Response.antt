-- An active request's server lends a slot, both count the loan, and it gets a handle.
use Rattle.std.proofs.Common.{◌≡◌, ◌<◌, ◌+◌, ◌^◌, ℕ, Bool, true, false, cond, Option, None, Some, Ok, Err, length, refl, sym, ap, ◌∙◌, subst, ⊎_elim, arith}
use Rattle.std.specs.Prelude.{◌==◌, ◌||◌, ◌↔◌, IsErrOf, IsSome, IsSomeAnd, nat_le, slice_get, slice_index, slice_index_or, slice_set}
use Rattle.std.specs.List.{position}
use Rattle.std.specs.FinMap as fin_map
use Rattle.std.proofs.lemmas.Bool.{cases_lt, eq-eqb, eqb-true}
use Rattle.std.proofs.lemmas.List.{length-set}
use Rattle.std.proofs.lemmas.Option.{slice_get_within, get_or_from_slice_get}
use Rattle.rr_slots.specs.declared.pool.AcquireError.{AcquireError}
use Rattle.rr_table.specs.TableView.{TableEntry, IsInside, IsVacant, table_entry}
use Rattle.rr_table.specs.declared.place.Place.{Place}
use Rattle.rr_table.proofs.MapLaws.{get-insert_cases, get-insert_other}
use Rattle.rr_sender.specs.Senders.{all_entries, loaned, times, used_count}
use Rattle.rr_protocol.specs.declared.error.LoanError.{LoanError}
use Rattle.rr_protocol.specs.declared.kind.Kind.{Kind}
use Rattle.rr_protocol.specs.Limits.{max_loaned_responses}
use Rattle.rr_protocol.specs.Loans.{LoansResponse, is_too_long}
use Rattle.rr_protocol.specs.Queries.{kind_at}
use Rattle.rr_protocol.specs.State.{numbers_left}
use Rattle.rr_laws.proofs.CompleteCalls.{loans_response_complete}
use Rattle.rr_laws.proofs.Loaning.{loans_response_reached}
use Rattle.rr_store.specs.Answering.{active_entry, active_in, response_loan_details, response_loan_details_of, response_loan_place, with_response_loan}
use Rattle.rr_store.specs.declared.details.ResponseDetails.{ResponseDetails}
use Rattle.rr_store.specs.declared.handle_entry.HandleEntry.{HandleEntry}
use Rattle.rr_store.specs.declared.handle_entry.Stage.TheVariants as stage
use Rattle.rr_store.specs.Asked.{CanInsert}
use Rattle.rr_store.specs.Changes.{response_loan_limit, with_handle, with_new_handle, with_responses, with_server_sender_at}
use Rattle.rr_store.specs.Loaning.{with_messages, with_one_loan}
use Rattle.rr_store.specs.Order.{IsRising}
use Rattle.rr_store.specs.Parts.{ServerPart, Parts, Sender}
use Rattle.rr_store.specs.Reaching.{IsCore}
use Rattle.rr_store.specs.Sound.{IsSoundStore, empty_hand, is_active_of, is_of_request, request_details, server_place}
use Rattle.rr_store.specs.Views.{no_sender, sender_of, state_of}
use Rattle.rr_store.proofs.base.hands.Vacant.{response_vacant}
use Rattle.rr_store.proofs.base.lists.Replaced.{Standing, set_alike, standing}
use Rattle.rr_store.proofs.base.lookups.Asking.{due_refusal, no_error, not_full}
use Rattle.rr_store.proofs.base.lookups.Placed.{value_there}
use Rattle.rr_store.proofs.base.lookups.Shown.{request_spot}
use Rattle.rr_store.proofs.base.senders.Entries.{used_le}
use Rattle.rr_store.proofs.base.senders.Owners.{First, first_by, servers_rise}
use Rattle.rr_store.proofs.base.senders.Stored.{stored_twice}
use Rattle.rr_store.proofs.base.views.Counts.{listed}
use Rattle.rr_loaning.proofs.laws.response.Active.{answers_fit, loans_from_fit}
use Rattle.rr_loaning.proofs.laws.response.Inserted.{response_loan_sound}
use Rattle.rr_loaning.proofs.laws.response.Refusals.{first_due, second_due, none_due, pool_refusal, refuses, lends, stored_refusal}
use Rattle.rr_store.proofs.querying.Connected.{active_stage, of_kind}
use Rattle.rr_store.proofs.base.senders.Connected.{server_placed}

-- what is there is not nothing
some_is_some : {X : Type 0} {x : X} (o : Option X) → o ≡ Some x → o ≡ None → ⊥
some_is_some {X} {x} o is none = absurd (let f : Some x ≡ None = sym is ∙ none in cc)

-- the first of two reasons, or none
reasons : (a b : Bool) (r : Option LoanError)
    → r ≡ cond a (Some LoanError.ExceedsMaxLoanSize) (cond b (Some LoanError.ExceedsMaxLoans) None)
    → r ≡ None → (a ≡ false) × (b ≡ false)
reasons true b r is none = absurd (let f : Some LoanError.ExceedsMaxLoanSize ≡ None = sym is ∙ none in cc)
reasons false true r is none = absurd (let f : Some LoanError.ExceedsMaxLoans ≡ None = sym is ∙ none in cc)
reasons false false r is none = (refl, refl)

module _ {Q QH P PH K : Type 0} (p : Parts Q QH P PH K) (core : IsCore p) (n : ℕ) (place : Place) (entry : HandleEntry)
    (at : fin_map.get p.table.entries n ≡ Some (table_entry place entry))
    (kind : kind_at (state_of p) n ≡ Some Kind.ActiveRequest) where
  its_stage : (server : ℕ) × (loans : ℕ) × (entry.stage ≡ stage.ActiveRequest server loans)
  its_stage = active_stage entry.stage
      (of_kind p (state_of p) n n refl refl Kind.ActiveRequest (λ e. cc) (λ e. cc) kind entry (value_there p.table n place entry at))

  -- its stage says which server has it
  pub is_active : active_in entry.stage ≡ None → ⊥
  is_active none = some_is_some (active_in entry.stage) (ap active_in its_stage.2) none

  given : n < p.next
  given = ⊎_elim (λ h. h)
      (λ h. absurd (let f : None ≡ Some (table_entry place entry) = sym (core.sound.numbered.fresh n h) ∙ at in cc)) (cases_lt n p.next)

  module _ (server loans : ℕ) (found : active_in entry.stage ≡ Some (server, loans)) where
    stage_is : entry.stage ≡ stage.ActiveRequest server loans
    stage_is =
        let same : Some (its_stage.0, its_stage.1) ≡ Some (server, loans) = sym (ap active_in its_stage.2) ∙ found in
        let pair : (its_stage.0, its_stage.1) ≡ (server, loans) = cc in
        its_stage.2 ∙ ap (λ (x : ℕ × ℕ). stage.ActiveRequest x.0 x.1) pair

    placed : server_place p server < p.limits.max_servers
    placed = core.sound.inserted.active_servers n server (table_entry place entry) at
        (ap (is_active_of server) stage_is ∙ eq-eqb server server refl)

    -- it is connected
    pub server_asked : IsSome (position (λ (s : ServerPart K). s.port.id == server) p.servers)
    server_asked =
        let it = server_placed p core.sound server placed in
        let first : First (λ (s : ServerPart K). s.port.id) (λ (s : ServerPart K). s.port.id == server) p.servers server =
        first_by (λ (s : ServerPart K). s.port.id) p.servers server it.0 it.1 it.2 it.3 in
        subst IsSome (sym first.found) refl

    -- and servers stand in the order of their numbers
    pub order_asked : IsRising (λ (s : ServerPart K). s.port.id) p.servers
    order_asked = servers_rise p empty_hand core.sound

    -- one more response on loan from it can be counted
    pub loans_fit : loans + 1 < 2 ^ 64
    loans_fit = loans_from_fit p core.sound n server loans (table_entry place entry) at stage_is

    -- its request is there
    spot : (entry.sender < length p.client_senders) × (entry.slot < length (sender_of entry.sender p.client_senders).messages.held)
    spot = request_spot p empty_hand core.sound.counted n entry (value_there p.table n place entry at)
        (subst (λ g. is_of_request g ≡ true) (sym stage_is) refl)

    pub sender_asked : entry.sender < length p.client_senders
    sender_asked = spot.0

    pub slot_asked : entry.slot < length (sender_of entry.sender p.client_senders).messages.held
    slot_asked = spot.1

    module _ (index : ℕ) (told : position (λ (s : ServerPart K). s.port.id == server) p.servers ≡ Some index) where
      stands : Standing (λ (s : ServerPart K). s.port.id == server) p.servers index
      stands = standing (λ (s : ServerPart K). s.port.id == server) p.servers index told

      pub index_asked : index < length p.servers
      index_asked = slice_get_within p.servers index stands.it stands.at

      named : stands.it.port.id ≡ server
      named = eqb-true stands.it.port.id server stands.passes

      is : entry ≡ active_entry stands.it.port.id entry.sender entry.slot loans
      is = ap (λ g. record { stage = g; sender = entry.sender; slot = entry.slot }) stage_is
          ∙ ap (λ s. active_entry s entry.sender entry.slot loans) (sym named)

      -- what is told of the server at the index is true of this one
      of_index : (R : ServerPart K → Type 0) → IsSomeAnd (slice_get p.servers index) R → R stands.it
      of_index R h = subst (λ o. IsSomeAnd o R) stands.at h

      to_index : (R : ServerPart K → Type 0) → R stands.it → IsSomeAnd (slice_get p.servers index) R
      to_index R h = subst (λ o. IsSomeAnd o R) (sym stands.at) h

      own : (stands.it.sender < length p.server_senders) × ((sender_of stands.it.sender p.server_senders).owner ≡ stands.it.port.id)
          × (length (sender_of stands.it.sender p.server_senders).messages.held ≡ stands.it.port.pool_size)
          × ((sender_of stands.it.sender p.server_senders).messages.room ≡ stands.it.port.initial_max_slice_len)
      own = core.sound.server_ports.own index stands.it.connected
          (listed (λ (s : ServerPart K). s.connected) p.servers index stands.it stands.at)

      pub limit_asked : IsSomeAnd (slice_get p.servers index) (λ s. s.sender < length p.server_senders)
      limit_asked = to_index (λ s. s.sender < length p.server_senders) own.0

      -- how many responses it has on loan
      abbrev on_loan : ℕ
      on_loan = (sender_of stands.it.sender p.server_senders).loans

      module _ (len : ℕ) (limit : Option LoanError)
          (limited : IsSomeAnd (slice_get p.servers index) (λ s. limit ≡ response_loan_limit p s len loans)) where
        abbrev is_reached : Bool
        is_reached = nat_le stands.it.max_loaned_responses_per_request loans
            || nat_le (max_loaned_responses p.limits stands.it.max_loaned_responses_per_request) on_loan

        limit_is : limit ≡ cond (is_too_long stands.it.port len) (Some LoanError.ExceedsMaxLoanSize)
            (cond is_reached (Some LoanError.ExceedsMaxLoans) None)
        limit_is =
            of_index (λ s. limit ≡ response_loan_limit p s len loans) limited
            ∙ ap (λ most. cond (is_too_long stands.it.port len) (Some LoanError.ExceedsMaxLoanSize)
            (cond (nat_le stands.it.max_loaned_responses_per_request loans || nat_le most on_loan) (Some LoanError.ExceedsMaxLoans) None))
            (core.sound.sized.most_loans index stands.it stands.at)

        -- the reason that was found is the first that is due
        limit_due : (a b : Bool) (e : LoanError) → is_too_long stands.it.port len ≡ a → is_reached ≡ b
            → Some e ≡ cond a (Some LoanError.ExceedsMaxLoanSize) (cond b (Some LoanError.ExceedsMaxLoans) None)
            → stored_refusal p core.sound index stands.it stands.at n entry.sender entry.slot loans
            (table_entry place entry) at is len ≡ Some e
        limit_due true b e long many given =
            first_due p core.sound index stands.it stands.at n entry.sender entry.slot loans (table_entry place entry) at is len long
            ∙ sym given
        limit_due false true e long many given =
            second_due p core.sound index stands.it stands.at n entry.sender entry.slot loans (table_entry place entry) at is len long many
            ∙ sym given
        limit_due false false e long many given = absurd (let f : Some e ≡ None = given in cc)

        pub refused : (IsDefault : PH → Type 0) (e : LoanError) → limit ≡ Some e
            → LoansResponse IsDefault (state_of p) n len (Err e) (state_of p)
        refused IsDefault e some =
            refuses p core.sound index stands.it stands.at n entry.sender entry.slot loans (table_entry place entry) at is len e
            (due_refusal _ stands.it.port len e (limit_due _ _ e refl refl (sym some ∙ limit_is)))
            (state_of p) (state_of p) n refl refl refl

        -- and it is no want of memory
        pub not_memory : (e : LoanError) → limit ≡ Some e → e ≡ LoanError.OutOfMemory → ⊥
        not_memory e some = go (is_too_long stands.it.port len) is_reached (sym some ∙ limit_is)
          where
            go : (a b : Bool) → Some e ≡ cond a (Some LoanError.ExceedsMaxLoanSize) (cond b (Some LoanError.ExceedsMaxLoans) None)
                → e ≡ LoanError.OutOfMemory → ⊥
            go true b f m =
                let g : e ≡ LoanError.ExceedsMaxLoanSize = cc in
                let h : LoanError.ExceedsMaxLoanSize ≡ LoanError.OutOfMemory = sym g ∙ m in cc
            go false true f m =
                let g : e ≡ LoanError.ExceedsMaxLoans = cc in
                let h : LoanError.ExceedsMaxLoans ≡ LoanError.OutOfMemory = sym g ∙ m in cc
            go false false f m = let g : Some e ≡ None = f in cc

        module _ (none : limit ≡ None) where
          passes : (is_too_long stands.it.port len ≡ false) × (is_reached ≡ false)
          passes = reasons _ _ limit limit_is none

          module _ (sender : ℕ) (sends : IsSomeAnd (slice_get p.servers index) (λ s. sender ≡ s.sender)) where
            sender_is : sender ≡ stands.it.sender
            sender_is = of_index (λ s. sender ≡ s.sender) sends

            pub own_asked : sender < length p.server_senders
            own_asked = subst (λ l. l < length p.server_senders) (sym sender_is) own.0

            -- a slot that isn't lent is want of memory
            pub out_of_memory : (IsDefault : PH → Type 0) (error : AcquireError) (q : Parts Q QH P PH K)
                → (IsErrOf {T = Place} (Err error) AcquireError.Full
                ↔ (used_count (sender_of sender p.server_senders).messages ≡ length (sender_of sender p.server_senders).messages.held))
                → (IsErrOf {T = Place} (Err error) AcquireError.NoRoom → (sender_of sender p.server_senders).messages.room < len) → q ≡ p
                → LoansResponse IsDefault (state_of p) n len (Err LoanError.OutOfMemory) (state_of q)
            out_of_memory IsDefault error q full room same =
                refuses p core.sound index stands.it stands.at n entry.sender entry.slot loans (table_entry place entry) at is len
                LoanError.OutOfMemory
                (pool_refusal p core.sound index stands.it stands.at n entry.sender entry.slot loans
                (table_entry place entry) at is len error
                passes.0 passes.1
                (subst (λ l. IsErrOf {T = Place} (Err error) AcquireError.Full
                ↔ (used_count (sender_of l p.server_senders).messages ≡ length
                (sender_of l p.server_senders).messages.held)) sender_is full)
                (subst (λ l. IsErrOf {T = Place} (Err error) AcquireError.NoRoom
                → (sender_of l p.server_senders).messages.room < len) sender_is
                room))
                (state_of p) (state_of q) n refl refl (ap state_of same)

            module _ (details : ResponseDetails)
                (are : details ≡ response_loan_details_of server n entry.sender (request_details p entry.sender entry.slot) entry.slot p.next)
                (header : PH) (own_place : Place) (q : Parts Q QH P PH K)
                (row : own_place.row ≡ (sender_of sender p.server_senders).row)
                (free : slice_get (sender_of sender p.server_senders).messages.held own_place.index ≡ Some 0)
                (unused : times own_place.index (all_entries (sender_of sender p.server_senders).messages.queues) ≡ 0)
                (lent : q ≡ with_responses p sender (λ m. loaned m own_place.index len details header)) where
              its_free : slice_get (sender_of stands.it.sender p.server_senders).messages.held own_place.index ≡ Some 0
              its_free = subst (λ l. slice_get (sender_of l p.server_senders).messages.held own_place.index ≡ Some 0) sender_is free

              its_unused : times own_place.index (all_entries (sender_of stands.it.sender p.server_senders).messages.queues) ≡ 0
              its_unused = subst (λ l. times own_place.index (all_entries
                  (sender_of l p.server_senders).messages.queues) ≡ 0) sender_is unused

              its_row : own_place.row ≡ (sender_of stands.it.sender p.server_senders).row
              its_row = row ∙ ap (λ l. (sender_of l p.server_senders).row) sender_is

              abbrev its_details : ResponseDetails
              its_details = response_loan_details p stands.it n entry.sender entry.slot

              details_are : details ≡ its_details
              details_are = are
                  ∙ ap (λ s. response_loan_details_of s n entry.sender (request_details p entry.sender entry.slot) entry.slot p.next) (sym named)

              abbrev loan_made : Parts Q QH P PH K
              loan_made = with_responses p stands.it.sender (λ m. loaned m own_place.index len its_details header)

              q_is : q ≡ loan_made
              q_is = lent ∙ ap (λ l. with_responses p l (λ m. loaned m own_place.index len details header)) sender_is
                  ∙ ap (λ d. with_responses p stands.it.sender (λ m. loaned m own_place.index len d header)) details_are

              -- its sender with the loan
              abbrev fresh : Sender P ResponseDetails PH
              fresh = with_messages (sender_of stands.it.sender p.server_senders)
                  (loaned (sender_of stands.it.sender p.server_senders).messages own_place.index len its_details header)

              pub sender_still : sender < length q.server_senders
              sender_still =
                  subst (λ (q : Parts Q QH P PH K). sender < length q.server_senders) (sym q_is)
                  (omega (arith, own_asked, length-set p.server_senders stands.it.sender fresh))

              pub loans_still_fit : (sender_of sender q.server_senders).loans + 1 < 2 ^ 64
              loans_still_fit =
                  subst (λ (q : Parts Q QH P PH K). (sender_of sender q.server_senders).loans + 1 < 2 ^ 64) (sym q_is) (omega (
                    arith,
                    answers_fit p core.sound sender own_asked,
                    set_alike p.server_senders stands.it.sender fresh no_sender (λ l. l.loans) refl sender,
                  ))

              module _ (r : Parts Q QH P PH K) (counted : r ≡ with_server_sender_at q sender with_one_loan) where
                abbrev counts : Parts Q QH P PH K
                counts = record p { server_senders = slice_set p.server_senders stands.it.sender (with_one_loan fresh) }

                r_is : r ≡ counts
                r_is = counted ∙ ap (λ q. with_server_sender_at q sender with_one_loan) q_is
                    ∙ ap (λ l. with_server_sender_at loan_made l with_one_loan) sender_is
                    ∙ ap (λ ls. record p { server_senders = ls })
                    (stored_twice p.server_senders stands.it.sender fresh with_one_loan own.0)

                pub still_there : (v : HandleEntry) × (fin_map.get r.table.entries n ≡ Some (table_entry place v))
                still_there = subst
                    (λ (r : Parts Q QH P PH K). (v : HandleEntry) × (fin_map.get r.table.entries n ≡ Some (table_entry place v)))
                    (sym r_is) (entry, at)

                module _ (s : Parts Q QH P PH K)
                    (replaced : s ≡ with_handle r n place (active_entry server entry.sender entry.slot (loans + 1))) where
                  abbrev more : HandleEntry
                  more = active_entry stands.it.port.id entry.sender entry.slot (loans + 1)

                  s_is : s ≡ with_handle counts n place more
                  s_is = replaced ∙ ap (λ r. with_handle r n place (active_entry server entry.sender entry.slot (loans + 1))) r_is
                      ∙ ap (λ x. with_handle counts n place (active_entry x entry.sender entry.slot (loans + 1))) (sym named)

                  place_asked : IsInside s.table own_place
                  place_asked =
                      let rows = core.sound.inserted.server_rows stands.it.sender own.0 in
                      subst (λ (s : Parts Q QH P PH K). IsInside s.table own_place) (sym s_is) (
                        omega (arith, rows.0, its_row),
                        omega (
                          arith,
                          slice_get_within _ own_place.index 0 its_free,
                          rows.1,
                          ap (λ r. slice_index_or p.table.rows r 0) its_row,
                        ),
                      )

                  none_held : slice_index (sender_of stands.it.sender p.server_senders).messages.held own_place.index ≡ 0
                  none_held = get_or_from_slice_get _ own_place.index 0 0 its_free

                  vacant_asked : IsVacant s.table own_place
                  vacant_asked =
                      subst (λ (s : Parts Q QH P PH K). IsVacant s.table own_place) (sym s_is) (λ k e here same.
                      let place_is : e.place ≡ response_loan_place p stands.it own_place.index = same
                      ∙ ap (λ r. record { row = r; index = own_place.index }) its_row in
                      ⊎_elim
                      (λ now. response_vacant p core.sound stands.it.sender own_place.index own.0 none_held n (table_entry place entry) at
                      (ap (λ (t : TableEntry HandleEntry). t.place) now.1 ∙ place_is))
                      (λ before. response_vacant p core.sound stands.it.sender own_place.index own.0 none_held k e before.1 place_is)
                      (get-insert_cases p.table.entries n (table_entry place more) k e here))

                  fresh_asked : fin_map.get s.table.entries s.next ≡ None
                  fresh_asked = subst (λ (s : Parts Q QH P PH K). fin_map.get s.table.entries s.next ≡ None) (sym s_is)
                      (get-insert_other p.table.entries n (table_entry place more) p.next (λ e. omega (arith, e, given))
                      ∙ core.sound.numbered.fresh p.next (omega arith))

                  number_fits : s.next + 1 < 2 ^ 64
                  number_fits = subst (λ (s : Parts Q QH P PH K). s.next + 1 < 2 ^ 64) (sym s_is)
                      (omega (arith, core.sound.sized.next_fits))

                  pub add_asked : CanInsert s.table s.next own_place × (s.next + 1 < 2 ^ 64)
                  add_asked = (record { inside = place_asked; vacant = vacant_asked; fresh = fresh_asked }, number_fits)

                  module _ (full : IsErrOf (Ok own_place) AcquireError.Full
                      ↔ (used_count (sender_of sender p.server_senders).messages ≡ length
                      (sender_of sender p.server_senders).messages.held))
                      (left : 0 < numbers_left (state_of p)) (k : ℕ) (number : k ≡ s.next) (t : Parts Q QH P PH K)
                      (added : t ≡ with_new_handle s own_place
                      (record { stage = stage.ResponseMutUninit; sender = sender; slot = own_place.index })) where
                    after : t ≡ with_response_loan p stands.it n place more its_details own_place.index len header
                    after =
                        added
                        ∙ ap (λ l. with_new_handle s own_place (record {
                          stage = stage.ResponseMutUninit;
                          sender = l;
                          slot = own_place.index;
                        })) sender_is
                        ∙ ap (λ s. with_new_handle s own_place (record {
                          stage = stage.ResponseMutUninit;
                          sender = stands.it.sender;
                          slot = own_place.index;
                        })) s_is
                        ∙ ap (λ r. with_new_handle (with_handle counts n place more) (record { row = r; index = own_place.index }) (record {
                          stage = stage.ResponseMutUninit;
                          sender = stands.it.sender;
                          slot = own_place.index;
                        })) its_row

                    used : used_count (sender_of stands.it.sender p.server_senders).messages < stands.it.port.pool_size
                    used = not_full own.2 (used_le (sender_of stands.it.sender p.server_senders).messages _) (λ all.
                        no_error (full.1 (subst (λ l. used_count (sender_of l p.server_senders).messages
                        ≡ length (sender_of l p.server_senders).messages.held) (sym sender_is) all)))

                    pub loans_told : (IsDefault : PH → Type 0) → IsDefault header
                        → LoansResponse IsDefault (state_of p) n len (Ok k) (state_of t)
                    loans_told IsDefault default =
                        lends p core.sound index stands.it stands.at n entry.sender entry.slot loans
                        (table_entry place entry) at is IsDefault
                        len own_place.index k header
                        (none_due p core.sound index stands.it stands.at n entry.sender entry.slot loans (table_entry place entry) at is len
                        passes.0 passes.1 used) default its_free its_unused (state_of p) (state_of t) n refl refl
                        (number ∙ ap (λ (s : Parts Q QH P PH K). s.next) s_is) (ap state_of after)

                    pub core_then : (IsDefault : PH → Type 0) → IsDefault header → IsCore t
                    core_then IsDefault default = record {
                      sound = subst (λ q. IsSoundStore q empty_hand) (sym after)
                          (response_loan_sound p core.sound index stands.it stands.at n entry.sender entry.slot loans
                          (table_entry place entry)
                          at is given own_place.index len header its_free its_unused (omega (arith, left)));
                      reached = loans_response_reached (state_of p) core.reached IsDefault n len (Ok k) (state_of t)
                          (loans_told IsDefault default);
                      complete = loans_response_complete (state_of p) core.complete IsDefault n len (Ok k) (state_of t)
                          (loans_told IsDefault default);
                    }
