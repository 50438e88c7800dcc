-- Which loans of responses are refused, and what a loan gives.
use Rattle.std.proofs.Common.{◌≡◌, ◌<◌, ◌≤◌, ◌+◌, ℕ, Bool, true, false, cond, Option, None, Some, Result, Err, option_map, length, nat_le, refl, sym, ap, ◌∙◌, subst, arith}
use Rattle.std.specs.Prelude.{◌==◌, ◌||◌, if◌then◌else◌, IsSomeAnd, IsErrOf, ◌↔◌, option_and_then, slice_get}
use Rattle.std.specs.FinMap as fin_map
use Rattle.std.proofs.lemmas.Bool.{le-leb, lt-leb, eqb-true, eq-eqb}
use Rattle.rr_table.specs.TableView.{TableEntry}
use Rattle.rr_table.proofs.MapLaws.{get-map_values}
use Rattle.rr_slots.specs.declared.pool.AcquireError.{AcquireError}
use Rattle.rr_sender.specs.Senders.{times, all_entries, used_count}
use Rattle.rr_table.specs.declared.place.Place.{Place}
use Rattle.rr_protocol.specs.declared.error.LoanError.{LoanError}
use Rattle.rr_protocol.specs.Counts.{live_responses, loaned_responses}
use Rattle.rr_protocol.specs.Limits.{max_loaned_responses}
use Rattle.rr_protocol.specs.Loans.{is_too_long, response_loan_refusal, IsLoanRefusal, with_loaned_response}
use Rattle.rr_protocol.specs.Messages.{Active, as_active}
use Rattle.rr_protocol.specs.Ports.{Server}
use Rattle.rr_protocol.specs.State.{State, IsActiveAnd, active_at, server_at}
use Rattle.rr_store.specs.declared.handle_entry.HandleEntry.{HandleEntry}
use Rattle.rr_store.specs.Parts.{Parts, ServerPart}
use Rattle.rr_store.specs.Views.{sender_of, state_of, server_of, handle_of, handle_in, request_at}
use Rattle.rr_store.specs.Sound.{IsSoundStore, empty_hand}
use Rattle.rr_store.specs.Answering.{active_entry, response_loan_details, with_response_loan}
use Rattle.rr_store.proofs.base.lookups.Asking.{due_refusal, no_memory, not_full}
use Rattle.rr_store.proofs.base.senders.Entries.{found_alone, used_le}
use Rattle.rr_store.proofs.base.views.Counts.{listed, loans_from_counted, responses_counted}
use Rattle.rr_loaning.proofs.laws.response.Live.{live_responses_used}
use Rattle.rr_loaning.proofs.laws.response.View.{response_loan_view}
use Rattle.rr_store.proofs.base.lists.Replaced.{find_mapped}
use Rattle.rr_store.proofs.base.senders.Numbered.{numbered_once}

-- one of two limits was reached, or neither
one_reached : (a b : Bool) (x y : Option LoanError) → (a || b) ≡ true → cond a x (cond b x y) ≡ x
one_reached true b x y h = refl
one_reached false true x y h = refl
one_reached false false x y h = absurd (let f : false ≡ true = h in cc)

none_reached : (a b : Bool) (x y : Option LoanError) → (a || b) ≡ false → cond a x (cond b x y) ≡ y
none_reached true b x y h = absurd (let f : true ≡ false = h in cc)
none_reached false true x y h = absurd (let f : true ≡ false = h in cc)
none_reached false false x y h = refl

module _ {Q QH P PH K : Type 0} (p : Parts Q QH P PH K) (sound : IsSoundStore p empty_hand) (index : ℕ) (c : ServerPart K)
    (at : slice_get p.servers index ≡ Some c) (n rl rs loans : ℕ)
    (s : TableEntry HandleEntry) (here : fin_map.get p.table.entries n ≡ Some s) (is : s.value ≡ active_entry c.port.id rl rs loans) where
  -- how many responses the server has on loan
  abbrev pub on_loan : ℕ
  on_loan = (sender_of c.sender p.server_senders).loans

  -- whether a limit of loans was reached
  abbrev pub is_reached : Bool
  is_reached = nat_le c.max_loaned_responses_per_request loans
      || nat_le (max_loaned_responses p.limits c.max_loaned_responses_per_request) on_loan

  -- the reasons by what is stored
  abbrev pub stored_refusal : ℕ → Option LoanError
  stored_refusal len =
      if is_too_long c.port len then Some LoanError.ExceedsMaxLoanSize
      else if nat_le c.max_loaned_responses_per_request loans then Some LoanError.ExceedsMaxLoans
      else if nat_le (max_loaned_responses p.limits c.max_loaned_responses_per_request) on_loan then Some LoanError.ExceedsMaxLoans
      else if nat_le c.port.pool_size (used_count (sender_of c.sender p.server_senders).messages) then Some LoanError.OutOfMemory
      else None

  -- the reasons by three counts
  abbrev refusal_of : ℕ → ℕ → ℕ → ℕ → Option LoanError
  refusal_of len from all live =
      cond (is_too_long c.port len) (Some LoanError.ExceedsMaxLoanSize)
      (cond (nat_le c.max_loaned_responses_per_request from) (Some LoanError.ExceedsMaxLoans)
      (cond (nat_le (max_loaned_responses p.limits c.max_loaned_responses_per_request) all) (Some LoanError.ExceedsMaxLoans)
      (cond (nat_le c.port.pool_size live) (Some LoanError.OutOfMemory) None)))

  -- they are the reasons by what is seen
  pub refusal_stored : (len : ℕ) → response_loan_refusal (state_of p) (server_of c) n len ≡ stored_refusal len
  refusal_stored len =
      ap (λ k. refusal_of len k (loaned_responses (state_of p) c.port.id) (live_responses (state_of p) c.port.id))
      (loans_from_counted p sound n c.port.id loans s here (ap (λ (h : HandleEntry). h.stage) is))
      ∙ ap (λ k. refusal_of len loans k (live_responses (state_of p) c.port.id)) (responses_counted p sound index c at)
      ∙ ap (λ k. refusal_of len loans on_loan k) (live_responses_used p sound index c at)

  -- the active request as it is seen, and its server
  abbrev active : Active Q QH
  active = record { message = request_at p rl rs; server = c.port.id }

  active_seen : active_at (state_of p) n ≡ Some active
  active_seen = ap (option_and_then as_active) (get-map_values (handle_of p) p.table.entries n ∙ ap (option_map (handle_of p)) here
      ∙ ap (λ (h : HandleEntry). Some (handle_in p h.stage h.sender h.slot)) is)

  server_seen : server_at (state_of p) c.port.id ≡ Some (server_of c)
  server_seen =
      find_mapped server_of (λ d. d.id == c.port.id) p.servers
      ∙ ap (option_map server_of) (found_alone (λ (d : ServerPart K). d.port.id == c.port.id) p.servers index c at
      (eq-eqb c.port.id c.port.id refl)
      (λ k t e same. numbered_once sound.server_ports k index t.connected c.connected (listed (λ d. d.connected) p.servers k t e)
      (listed (λ d. d.connected) p.servers index c at) (eqb-true t.port.id c.port.id same)))

  -- what holds of both holds of what is seen
  of_active : (R : State Q QH P PH K → ℕ → Server K → Active Q QH → Type 0) → R (state_of p) n (server_of c) active
      → (t : State Q QH P PH K) (j : ℕ) → state_of p ≡ t → n ≡ j → IsActiveAnd t j (R t j)
  of_active R r t j view same =
      subst (λ t. IsActiveAnd t j (R t j)) view
      (subst (λ j. IsActiveAnd (state_of p) j (R (state_of p) j)) same
      (subst (λ o. IsSomeAnd o (λ a. IsSomeAnd (server_at (state_of p) a.server) (λ server. R (state_of p) n server a))) (sym active_seen)
      (subst (λ o. IsSomeAnd o (λ server. R (state_of p) n server active)) (sym server_seen) r)))

  -- a refusal by what is stored
  pub refuses : (len : ℕ) (error : LoanError) → IsLoanRefusal (stored_refusal len) c.port len error → (t new : State Q QH P PH K) (j : ℕ)
      → state_of p ≡ t → n ≡ j → new ≡ t
      → IsActiveAnd t j (λ server active. IsLoanRefusal (response_loan_refusal t server j len) server.port len error × (new ≡ t))
  refuses len error due t new j view same stays =
      of_active (λ t j server active. IsLoanRefusal (response_loan_refusal t server j len) server.port len error × (new ≡ t))
      (subst (λ o. IsLoanRefusal o c.port len error) (sym (refusal_stored len)) due, stays ∙ sym view) t j view same

  -- a loan, after which contracts see the response
  pub lends : (IsDefault : PH → Type 0) (len slot k : ℕ) (header : PH) → stored_refusal len ≡ None → IsDefault header
      → slice_get (sender_of c.sender p.server_senders).messages.held slot ≡ Some 0
      → times slot (all_entries (sender_of c.sender p.server_senders).messages.queues) ≡ 0
      → (t new : State Q QH P PH K) (j : ℕ) → state_of p ≡ t → n ≡ j → k ≡ p.next
      → new ≡ state_of (with_response_loan p c n s.place (active_entry c.port.id rl rs (loans + 1))
      (response_loan_details p c n rl rs) slot len header)
      → IsActiveAnd t j (λ server active. (response_loan_refusal t server j len ≡ None) × (k ≡ t.next)
      × ((h : PH) × IsDefault h × (new ≡ with_loaned_response t j active len h)))
  lends IsDefault len slot k header due default free unused t new j view same number now =
      of_active (λ t j server active. (response_loan_refusal t server j len ≡ None) × (k ≡ t.next)
      × ((h : PH) × IsDefault h × (new ≡ with_loaned_response t j active len h))) (
        refusal_stored len ∙ due,
        number,
        (
          header,
          default,
          now
              ∙ response_loan_view p sound index c at n rl rs loans s here is slot len header free unused,
        ),
      ) t j view same

  -- a slice that is too long comes first
  pub first_due : (len : ℕ) → is_too_long c.port len ≡ true → stored_refusal len ≡ Some LoanError.ExceedsMaxLoanSize
  first_due len h = rw h refl

  -- then a limit of loans
  pub second_due : (len : ℕ) → is_too_long c.port len ≡ false → is_reached ≡ true → stored_refusal len ≡ Some LoanError.ExceedsMaxLoans
  second_due len h g = rw h (one_reached (nat_le c.max_loaned_responses_per_request loans)
      (nat_le (max_loaned_responses p.limits c.max_loaned_responses_per_request) on_loan) (Some LoanError.ExceedsMaxLoans) _ g)

  -- where no limit of loans was reached, the pool decides
  past_limits : (len : ℕ) → is_too_long c.port len ≡ false → is_reached ≡ false
      → stored_refusal len ≡ cond (nat_le c.port.pool_size (used_count (sender_of c.sender p.server_senders).messages))
      (Some LoanError.OutOfMemory) None
  past_limits len h g = rw h (none_reached (nat_le c.max_loaned_responses_per_request loans)
      (nat_le (max_loaned_responses p.limits c.max_loaned_responses_per_request) on_loan) (Some LoanError.ExceedsMaxLoans) _ g)

  -- then a full pool
  pub third_due : (len : ℕ) → is_too_long c.port len ≡ false → is_reached ≡ false
      → c.port.pool_size ≤ used_count (sender_of c.sender p.server_senders).messages → stored_refusal len ≡ Some LoanError.OutOfMemory
  third_due len h g l = past_limits len h g ∙ ap {B = Option LoanError} (λ b. cond b (Some LoanError.OutOfMemory) None)
      (le-leb c.port.pool_size (used_count (sender_of c.sender p.server_senders).messages) l)

  -- or no reason is due
  pub none_due : (len : ℕ) → is_too_long c.port len ≡ false → is_reached ≡ false
      → used_count (sender_of c.sender p.server_senders).messages < c.port.pool_size → stored_refusal len ≡ None
  none_due len h g l = past_limits len h g ∙ ap {B = Option LoanError} (λ b. cond b (Some LoanError.OutOfMemory) None)
      (lt-leb c.port.pool_size (used_count (sender_of c.sender p.server_senders).messages) l)

  -- what a sender that lends nothing tells is want of memory
  pub pool_refusal : (len : ℕ) (error : AcquireError) → is_too_long c.port len ≡ false → is_reached ≡ false
      → (IsErrOf {T = Place} (Err error) AcquireError.Full ↔ (used_count (sender_of c.sender p.server_senders).messages ≡ length
      (sender_of c.sender p.server_senders).messages.held))
      → (IsErrOf {T = Place} (Err error) AcquireError.NoRoom → (sender_of c.sender p.server_senders).messages.room < len)
      → IsLoanRefusal (stored_refusal len) c.port len LoanError.OutOfMemory
  pool_refusal len AcquireError.Full long few full room =
      let own = sound.server_ports.own index c.connected (listed (λ c. c.connected) p.servers index c at) in
      due_refusal (stored_refusal len) c.port len LoanError.OutOfMemory (third_due len long few (omega (arith, full.0 refl, own.2)))
  pool_refusal len AcquireError.NoRoom long few full room =
      let own = sound.server_ports.own index c.connected (listed (λ c. c.connected) p.servers index c at) in
      let other : used_count (sender_of c.sender p.server_senders).messages ≡ length (sender_of c.sender p.server_senders).messages.held
      → ⊥ =
      λ e. let f : ◌≡◌ {A = Result Place AcquireError} (Err AcquireError.NoRoom) (Err AcquireError.Full) = full.1 e in cc in
      no_memory (stored_refusal len) c.port len
      (none_due len long few (not_full own.2 (used_le (sender_of c.sender p.server_senders).messages _) other))
      (omega (arith, room refl, own.3))
