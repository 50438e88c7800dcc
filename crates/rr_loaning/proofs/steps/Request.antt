-- A client is found by its number, lends a slot, counts the loan and gets a handle of it.
use Rattle.std.proofs.Common.{◌≡◌, ◌<◌, ◌+◌, ◌^◌, ℕ, Bool, true, false, cond, Option, None, Some, Ok, Err, length, refl, sym, ap, ◌∙◌, subst, arith, option_map}
use Rattle.std.specs.Prelude.{◌==◌, ◌↔◌, IsErrOf, IsSome, IsSomeAnd, nat_le, slice_get, slice_index_or, slice_set}
use Rattle.std.specs.List.{position}
use Rattle.std.specs.FinMap as fin_map
use Rattle.std.proofs.lemmas.Bool.{eqb-true, leb-true, leb-false}
use Rattle.std.proofs.lemmas.List.{length-set}
use Rattle.std.proofs.lemmas.Option.{slice_get_within, get_or_from_slice_get}
use Rattle.rr_slots.specs.declared.pool.AcquireError.{AcquireError}
use Rattle.rr_table.specs.TableView.{IsInside, IsVacant}
use Rattle.rr_table.specs.declared.place.Place.{Place}
use Rattle.rr_sender.specs.Senders.{all_entries, loaned, times, used_count}
use Rattle.rr_protocol.specs.declared.error.LoanError.{LoanError}
use Rattle.rr_protocol.specs.declared.kind.Kind.TheVariants as kind
use Rattle.rr_protocol.specs.Loans.{LoansRequest, is_too_long}
use Rattle.rr_protocol.specs.Queries.{kind_at}
use Rattle.rr_protocol.specs.State.{client_at, numbers_left}
use Rattle.rr_laws.proofs.CompleteCalls.{loans_request_complete}
use Rattle.rr_laws.proofs.Loaning.{loans_request_reached}
use Rattle.rr_store.specs.declared.details.RequestDetails.{RequestDetails}
use Rattle.rr_store.specs.declared.handle_entry.Stage.TheVariants as stage
use Rattle.rr_store.specs.Asked.{CanInsert}
use Rattle.rr_store.specs.Changes.{request_loan_limit, with_client_at, with_client_sender_at, with_new_handle, with_requests}
use Rattle.rr_store.specs.Loaning.{loan_details, with_loan_made, with_messages, with_one_loan, with_request_loan}
use Rattle.rr_store.specs.Order.{IsRising}
use Rattle.rr_store.specs.Parts.{ClientPart, Parts, Sender}
use Rattle.rr_store.specs.Reaching.{IsCore}
use Rattle.rr_store.specs.Sound.{IsSoundStore, empty_hand}
use Rattle.rr_store.specs.Views.{client_of, no_sender, sender_of, state_of}
use Rattle.rr_store.proofs.base.hands.Vacant.{own_vacant}
use Rattle.rr_store.proofs.base.lists.Replaced.{Standing, find_mapped, set_alike, standing, standing_nowhere}
use Rattle.rr_store.proofs.base.lookups.Asking.{due_refusal, in_row, loans_fit, no_error, not_full}
use Rattle.rr_store.proofs.base.lookups.Numbers.{client_there}
use Rattle.rr_store.proofs.base.senders.Entries.{used_le}
use Rattle.rr_store.proofs.base.senders.Owners.{clients_rise}
use Rattle.rr_store.proofs.base.senders.Stored.{stored_twice}
use Rattle.rr_store.proofs.base.views.Counts.{listed}
use Rattle.rr_loaning.proofs.laws.request.Refusals.{first_due, second_due, none_due, pool_refusal, refusal_stored, refuses, lends, stored_refusal}
use Rattle.rr_loaning.proofs.laws.request.Sound.{loan_sound}

-- the first of two reasons, or none
reasons : (a b : Bool) (r : Option LoanError)
    → r ≡ cond a (Some LoanError.ExceedsMaxLoanSize) (cond b (Some LoanError.ExceedsMaxLoans) None)
    → r ≡ None → (a ≡ false) × (b ≡ false)
reasons true b r is none = absurd (let f : Some LoanError.ExceedsMaxLoanSize ≡ None = sym is ∙ none in cc)
reasons false true r is none = absurd (let f : Some LoanError.ExceedsMaxLoans ≡ None = sym is ∙ none in cc)
reasons false false r is none = (refl, refl)

module _ {Q QH P PH K : Type 0} (p : Parts Q QH P PH K) (core : IsCore p) (n : ℕ) (kind : kind_at (state_of p) n ≡ Some kind.Client) where
  -- there is a client with the number
  pub client_asked : IsSome (position (λ (c : ClientPart K). c.port.id == n) p.clients)
  client_asked = go (position (λ (c : ClientPart K). c.port.id == n) p.clients) refl
    where
      go : (o : Option ℕ) → position (λ (c : ClientPart K). c.port.id == n) p.clients ≡ o → IsSome o
      go (Some i) e = refl
      go None e = absurd (client_there (state_of p) n kind (find_mapped client_of (λ c. c.id == n) p.clients
          ∙ ap (option_map client_of) (standing_nowhere (λ (c : ClientPart K). c.port.id == n) p.clients e)))

  -- and clients stand in the order of their numbers
  pub order_asked : IsRising (λ (c : ClientPart K). c.port.id) p.clients
  order_asked = clients_rise p empty_hand core.sound

  module _ (index : ℕ) (told : position (λ (c : ClientPart K). c.port.id == n) p.clients ≡ Some index) where
    stands : Standing (λ (c : ClientPart K). c.port.id == n) p.clients index
    stands = standing (λ (c : ClientPart K). c.port.id == n) p.clients index told

    named : stands.it.port.id ≡ n
    named = eqb-true stands.it.port.id n stands.passes

    seen : client_at (state_of p) n ≡ Some (client_of stands.it)
    seen = find_mapped client_of (λ c. c.id == n) p.clients ∙ ap (option_map client_of) stands.found

    -- what is told of the client at the index is true of this one
    of_index : (R : ClientPart K → Type 0) → IsSomeAnd (slice_get p.clients index) R → R stands.it
    of_index R h = subst (λ o. IsSomeAnd o R) stands.at h

    to_index : (R : ClientPart K → Type 0) → R stands.it → IsSomeAnd (slice_get p.clients index) R
    to_index R h = subst (λ o. IsSomeAnd o R) (sym stands.at) h

    own : (stands.it.sender < length p.client_senders) × ((sender_of stands.it.sender p.client_senders).owner ≡ stands.it.port.id)
        × (length (sender_of stands.it.sender p.client_senders).messages.held ≡ stands.it.port.pool_size)
        × ((sender_of stands.it.sender p.client_senders).messages.room ≡ stands.it.port.initial_max_slice_len)
    own = core.sound.client_ports.own index stands.it.connected (listed
        (λ (c : ClientPart K). c.connected) p.clients index stands.it stands.at)

    pub limit_asked : IsSomeAnd (slice_get p.clients index) (λ c. c.sender < length p.client_senders)
    limit_asked = to_index (λ c. c.sender < length p.client_senders) own.0

    -- how many requests it has on loan
    abbrev on_loan : ℕ
    on_loan = (sender_of stands.it.sender p.client_senders).loans

    module _ (len : ℕ) (limit : Option LoanError)
        (limited : IsSomeAnd (slice_get p.clients index) (λ c. limit ≡ request_loan_limit p c len)) where
      -- the reason that was found is the first that is due
      limit_due : (a b : Bool) (e : LoanError) → is_too_long stands.it.port len ≡ a → nat_le p.limits.max_loaned_requests on_loan ≡ b
          → Some e ≡ cond a (Some LoanError.ExceedsMaxLoanSize) (cond b (Some LoanError.ExceedsMaxLoans) None)
          → stored_refusal p core.sound index stands.it stands.at len ≡ Some e
      limit_due true b e long many is = first_due p core.sound index stands.it stands.at len long ∙ sym is
      limit_due false true e long many is =
          second_due p core.sound index stands.it stands.at len long (leb-true p.limits.max_loaned_requests on_loan many) ∙ sym is
      limit_due false false e long many is = absurd (let f : Some e ≡ None = is in cc)

      pub refused : (IsDefault : QH → Type 0) (e : LoanError) → limit ≡ Some e
          → LoansRequest IsDefault (state_of p) n len (Err e) (state_of p)
      refused IsDefault e is =
          refuses p core.sound index stands.it stands.at n len e seen
          (due_refusal _ stands.it.port len e (limit_due _ _ e refl refl
          (sym is ∙ of_index (λ c. limit ≡ request_loan_limit p c len) limited)))
          (state_of p) (state_of p) refl refl

      -- and it is no want of memory
      pub not_memory : (e : LoanError) → limit ≡ Some e → e ≡ LoanError.OutOfMemory → ⊥
      not_memory e is = go (is_too_long stands.it.port len) (nat_le p.limits.max_loaned_requests on_loan)
          (sym is ∙ of_index (λ c. limit ≡ request_loan_limit p c len) limited)
        where
          go : (a b : Bool) → Some e ≡ cond a (Some LoanError.ExceedsMaxLoanSize) (cond b (Some LoanError.ExceedsMaxLoans) None)
              → e ≡ LoanError.OutOfMemory → ⊥
          go true b f m =
              let g : e ≡ LoanError.ExceedsMaxLoanSize = cc in
              let h : LoanError.ExceedsMaxLoanSize ≡ LoanError.OutOfMemory = sym g ∙ m in cc
          go false true f m =
              let g : e ≡ LoanError.ExceedsMaxLoans = cc in
              let h : LoanError.ExceedsMaxLoans ≡ LoanError.OutOfMemory = sym g ∙ m in cc
          go false false f m = let g : Some e ≡ None = f in cc

      module _ (none : limit ≡ None) where
        passes : (is_too_long stands.it.port len ≡ false) × (nat_le p.limits.max_loaned_requests on_loan ≡ false)
        passes = reasons _ _ limit (of_index (λ c. limit ≡ request_loan_limit p c len) limited) none

        few : on_loan < p.limits.max_loaned_requests
        few = leb-false p.limits.max_loaned_requests on_loan passes.1

        module _ (sender : ℕ) (sends : IsSomeAnd (slice_get p.clients index) (λ c. sender ≡ c.sender)) where
          sender_is : sender ≡ stands.it.sender
          sender_is = of_index (λ c. sender ≡ c.sender) sends

          pub sender_asked : sender < length p.client_senders
          sender_asked = subst (λ l. l < length p.client_senders) (sym sender_is) own.0

          -- a slot that isn't lent is want of memory
          pub out_of_memory : (IsDefault : QH → Type 0) (error : AcquireError) (q : Parts Q QH P PH K)
              → (IsErrOf {T = Place} (Err error) AcquireError.Full
              ↔ (used_count (sender_of sender p.client_senders).messages ≡ length (sender_of sender p.client_senders).messages.held))
              → (IsErrOf {T = Place} (Err error) AcquireError.NoRoom → (sender_of sender p.client_senders).messages.room < len) → q ≡ p
              → LoansRequest IsDefault (state_of p) n len (Err LoanError.OutOfMemory) (state_of q)
          out_of_memory IsDefault error q full room same =
              refuses p core.sound index stands.it stands.at n len LoanError.OutOfMemory seen
              (pool_refusal p core.sound index stands.it stands.at len error passes.0 few
              (subst (λ l. IsErrOf {T = Place} (Err error) AcquireError.Full
              ↔ (used_count (sender_of l p.client_senders).messages ≡ length (sender_of l p.client_senders).messages.held)) sender_is full)
              (subst (λ l. IsErrOf {T = Place} (Err error) AcquireError.NoRoom
              → (sender_of l p.client_senders).messages.room < len) sender_is
              room))
              (state_of p) (state_of q) refl (ap state_of same)

          module _ (details : RequestDetails) (are : IsSomeAnd (slice_get p.clients index) (λ c. details ≡ loan_details p c)) (header : QH)
              (place : Place) (q : Parts Q QH P PH K)
              (row : place.row ≡ (sender_of sender p.client_senders).row)
              (free : slice_get (sender_of sender p.client_senders).messages.held place.index ≡ Some 0)
              (unused : times place.index (all_entries (sender_of sender p.client_senders).messages.queues) ≡ 0)
              (lent : q ≡ with_requests p sender (λ m. loaned m place.index len details header)) where
            its_free : slice_get (sender_of stands.it.sender p.client_senders).messages.held place.index ≡ Some 0
            its_free = subst (λ l. slice_get (sender_of l p.client_senders).messages.held place.index ≡ Some 0) sender_is free

            its_unused : times place.index (all_entries (sender_of stands.it.sender p.client_senders).messages.queues) ≡ 0
            its_unused = subst (λ l. times place.index (all_entries (sender_of l p.client_senders).messages.queues) ≡ 0) sender_is unused

            its_row : place.row ≡ (sender_of stands.it.sender p.client_senders).row
            its_row = row ∙ ap (λ l. (sender_of l p.client_senders).row) sender_is

            abbrev loan_made : Parts Q QH P PH K
            loan_made = with_requests p stands.it.sender (λ m. loaned m place.index len (loan_details p stands.it) header)

            q_is : q ≡ loan_made
            q_is = lent ∙ ap (λ l. with_requests p l (λ m. loaned m place.index len details header)) sender_is
                ∙ ap (λ d. with_requests p stands.it.sender (λ m. loaned m place.index len d header))
                (of_index (λ c. details ≡ loan_details p c) are)

            -- its sender with the loan
            abbrev fresh : Sender Q RequestDetails QH
            fresh = with_messages (sender_of stands.it.sender p.client_senders)
                (loaned (sender_of stands.it.sender p.client_senders).messages place.index len (loan_details p stands.it) header)

            pub client_counts : IsSomeAnd (slice_get q.clients index) (λ c. c.loans_made + 1 < 2 ^ 64)
            client_counts =
                subst (λ (q : Parts Q QH P PH K). IsSomeAnd (slice_get q.clients index) (λ c. c.loans_made + 1 < 2 ^ 64)) (sym q_is)
                (to_index (λ c. c.loans_made + 1 < 2 ^ 64)
                (omega (arith, core.sound.sized.loans_made index stands.it stands.at, core.sound.sized.next_fits)))

            pub sender_still : sender < length q.client_senders
            sender_still =
                subst (λ (q : Parts Q QH P PH K). sender < length q.client_senders) (sym q_is)
                (omega (arith, sender_asked, length-set p.client_senders stands.it.sender fresh))

            pub loans_still_fit : (sender_of sender q.client_senders).loans + 1 < 2 ^ 64
            loans_still_fit =
                subst (λ (q : Parts Q QH P PH K). (sender_of sender q.client_senders).loans + 1 < 2 ^ 64) (sym q_is) (omega (
                  arith,
                  loans_fit p.limits core.sound.sized.limits_fit on_loan few,
                  ap (λ l. (sender_of l p.client_senders).loans) sender_is,
                  set_alike p.client_senders stands.it.sender fresh no_sender (λ l. l.loans) refl sender,
                ))

            module _ (r : Parts Q QH P PH K) (counted : IsSomeAnd (slice_get q.clients index)
                (λ c. r ≡ with_client_sender_at (with_client_at q index (with_loan_made c)) sender with_one_loan)) where
              abbrev client_counted : Parts Q QH P PH K
              client_counted = with_client_at p index (with_loan_made stands.it)

              abbrev counts : Parts Q QH P PH K
              counts = record client_counted { client_senders = slice_set p.client_senders stands.it.sender (with_one_loan fresh) }

              r_is : r ≡ counts
              r_is =
                  of_index (λ c. r ≡ with_client_sender_at (with_client_at loan_made index (with_loan_made c)) sender with_one_loan)
                  (subst (λ q. IsSomeAnd (slice_get q.clients index)
                  (λ c. r ≡ with_client_sender_at (with_client_at q index (with_loan_made c)) sender with_one_loan)) q_is counted)
                  ∙ ap (λ l. with_client_sender_at (with_client_at loan_made index (with_loan_made stands.it)) l with_one_loan) sender_is
                  ∙ ap (λ ls. record client_counted { client_senders = ls })
                  (stored_twice p.client_senders stands.it.sender fresh with_one_loan own.0)

              place_asked : IsInside r.table place
              place_asked =
                  let rows = core.sound.inserted.client_rows stands.it.sender own.0 in
                  subst (λ (r : Parts Q QH P PH K). IsInside r.table place) (sym r_is) (
                    omega (arith, rows.0, its_row),
                    in_row _ _ _ _ (slice_get_within _ place.index 0 its_free) (ap (λ r. slice_index_or p.table.rows r 0) its_row ∙ rows.1),
                  )

              vacant_asked : IsVacant r.table place
              vacant_asked =
                  subst (λ (r : Parts Q QH P PH K). IsVacant r.table place) (sym r_is) (λ k s e at.
                  own_vacant p core.sound stands.it.sender place.index own.0 (slice_get_within _ place.index 0 its_free)
                  (get_or_from_slice_get _ place.index 0 0 its_free) k s e
                  (at ∙ ap (λ r. record { row = r; index = place.index }) its_row))

              fresh_asked : fin_map.get r.table.entries r.next ≡ None
              fresh_asked = subst (λ (r : Parts Q QH P PH K). fin_map.get r.table.entries r.next ≡ None) (sym r_is)
                  (core.sound.numbered.fresh p.next (omega arith))

              number_fits : r.next + 1 < 2 ^ 64
              number_fits = subst (λ (r : Parts Q QH P PH K). r.next + 1 < 2 ^ 64) (sym r_is) (omega (arith, core.sound.sized.next_fits))

              pub add_asked : CanInsert r.table r.next place × (r.next + 1 < 2 ^ 64)
              add_asked = (record { inside = place_asked; vacant = vacant_asked; fresh = fresh_asked }, number_fits)

              module _ (full : IsErrOf (Ok place) AcquireError.Full
                  ↔ (used_count (sender_of sender p.client_senders).messages ≡ length (sender_of sender p.client_senders).messages.held))
                  (left : 0 < numbers_left (state_of p)) (k : ℕ) (number : k ≡ r.next) (t : Parts Q QH P PH K)
                  (added : t ≡ with_new_handle r place
                  (record { stage = stage.RequestMutUninit; sender = sender; slot = place.index })) where
                after : t ≡ with_request_loan p index stands.it place.index len header
                after =
                    added
                    ∙ ap (λ l. with_new_handle r place
                    (record { stage = stage.RequestMutUninit; sender = l; slot = place.index })) sender_is
                    ∙ ap (λ r. with_new_handle r place (record {
                      stage = stage.RequestMutUninit;
                      sender = stands.it.sender;
                      slot = place.index;
                    })) r_is
                    ∙ ap (λ r. with_new_handle counts (record { row = r; index = place.index }) (record {
                      stage = stage.RequestMutUninit;
                      sender = stands.it.sender;
                      slot = place.index;
                    })) its_row

                used : used_count (sender_of stands.it.sender p.client_senders).messages < stands.it.port.pool_size
                used = not_full own.2 (used_le (sender_of stands.it.sender p.client_senders).messages _) (λ all.
                    no_error (full.1 (subst (λ l. used_count (sender_of l p.client_senders).messages
                    ≡ length (sender_of l p.client_senders).messages.held) (sym sender_is) all)))

                pub loans : (IsDefault : QH → Type 0) → IsDefault header → LoansRequest IsDefault (state_of p) n len (Ok k) (state_of t)
                loans IsDefault default =
                    lends p core.sound index stands.it stands.at IsDefault n len place.index k header seen
                    (refusal_stored p core.sound index stands.it stands.at len
                    ∙ none_due p core.sound index stands.it stands.at len passes.0 few used) default its_free its_unused (state_of p)
                    (state_of t) refl (number ∙ ap (λ (r : Parts Q QH P PH K). r.next) r_is) (ap state_of after)

                pub core_then : (IsDefault : QH → Type 0) → IsDefault header → IsCore t
                core_then IsDefault default = record {
                  sound = subst (λ q. IsSoundStore q empty_hand) (sym after)
                      (loan_sound p core.sound index stands.it stands.at place.index len header its_free its_unused (omega (arith, left)));
                  reached = loans_request_reached (state_of p) core.reached IsDefault n len (Ok k) (state_of t) (loans IsDefault default);
                  complete = loans_request_complete (state_of p) core.complete IsDefault n len (Ok k) (state_of t)
                      (loans IsDefault default);
                }
