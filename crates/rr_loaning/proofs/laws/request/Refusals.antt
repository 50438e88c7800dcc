-- Which loans of requests are refused, and which channel a loan takes.
use Rattle.std.proofs.Common.{◌≡◌, ◌<◌, ◌≤◌, ℕ, true, false, cond, Option, None, Some, Result, Err, option_map, length, nat_le, refl, sym, ap, ◌∙◌, subst, arith}
use Rattle.std.specs.Prelude.{◌==◌, if◌then◌else◌, IsSomeAnd, IsErrOf, ◌↔◌, slice_get}
use Rattle.std.specs.Cmp.{nat_cmp_total}
use Rattle.std.specs.FinMap as fin_map
use Rattle.std.proofs.lemmas.Bool.{le-leb, lt-leb, and_parts, eqb-true, eq-eqb, false_from_ne_true, false≢true}
use Rattle.std.proofs.lemmas.Option.{slice_get_within, get_or_from_slice_get}
use Rattle.rr_table.specs.TableView.{TableEntry}
use Rattle.rr_table.proofs.ListFacts.{any-map}
use Rattle.rr_table.proofs.MapLaws.{get-map_values, tally-at}
use Rattle.rr_table.proofs.Members.{entry_gives}
use Rattle.rr_slots.specs.declared.pool.AcquireError.{AcquireError}
use Rattle.rr_sender.specs.Senders.{times, all_entries, used_count}
use Rattle.rr_table.specs.declared.place.Place.{Place}
use Rattle.rr_protocol.specs.declared.error.LoanError.{LoanError}
use Rattle.rr_protocol.specs.Messages.{Handle}
use Rattle.rr_protocol.specs.Ports.{Client}
use Rattle.rr_protocol.specs.State.{State, client_at}
use Rattle.rr_protocol.specs.Counts.{holds_channel, live_requests}
use Rattle.rr_protocol.specs.Loans.{is_too_long, request_loan_refusal, IsFreeChannel, IsLoanRefusal, with_loaned_request}
use Rattle.rr_store.specs.declared.handle_entry.HandleEntry.{HandleEntry}
use Rattle.rr_store.specs.declared.handle_entry.Stage.{Stage}
use Rattle.rr_store.specs.declared.handle_entry.Stage.TheVariants as stage
use Rattle.rr_store.specs.Parts.{Parts, ClientPart}
use Rattle.rr_store.specs.Views.{sender_of, state_of, client_of, handle_of, handle_in}
use Rattle.rr_store.specs.Sound.{IsSoundStore, empty_hand, is_of_request, has_request_at, request_details}
use Rattle.rr_store.specs.Loaning.{with_request_loan}
use Rattle.rr_store.proofs.base.views.Agreeing.{request_sender}
use Rattle.rr_store.proofs.base.lookups.Asking.{due_refusal, no_memory, not_full}
use Rattle.rr_store.proofs.base.senders.Entries.{used_le}
use Rattle.rr_store.proofs.base.views.Counts.{listed, loans_counted}
use Rattle.rr_loaning.proofs.laws.request.View.{loan_view}
use Rattle.rr_loaning.proofs.laws.request.Live.{live_requests_used}
use Rattle.rr_store.proofs.base.hands.Stages.{handle_uses_request}

module _ {Q QH P PH K : Type 0} (p : Parts Q QH P PH K) (sound : IsSoundStore p empty_hand) (index : ℕ) (c : ClientPart K)
    (at : slice_get p.clients index ≡ Some c) where
  -- how many requests the client has on loan
  abbrev pub on_loan : ℕ
  on_loan = (sender_of c.sender p.client_senders).loans

  -- the reasons by what is stored
  abbrev pub stored_refusal : ℕ → Option LoanError
  stored_refusal len =
      if is_too_long c.port len then Some LoanError.ExceedsMaxLoanSize
      else if nat_le p.limits.max_loaned_requests on_loan then Some LoanError.ExceedsMaxLoans
      else if nat_le c.port.pool_size (used_count (sender_of c.sender p.client_senders).messages) then Some LoanError.OutOfMemory
      else None

  pub refusal_stored : (len : ℕ) → request_loan_refusal (state_of p) (client_of c) len ≡ stored_refusal len
  refusal_stored len =
      ap {B = Option LoanError} (λ n. cond (is_too_long c.port len) (Some LoanError.ExceedsMaxLoanSize)
      (cond (nat_le p.limits.max_loaned_requests n) (Some LoanError.ExceedsMaxLoans)
      (cond (nat_le c.port.pool_size (live_requests (state_of p) c.port.id)) (Some LoanError.OutOfMemory) None)))
      (loans_counted p sound index c at)
      ∙ ap {B = Option LoanError} (λ n. cond (is_too_long c.port len) (Some LoanError.ExceedsMaxLoanSize)
      (cond (nat_le p.limits.max_loaned_requests on_loan) (Some LoanError.ExceedsMaxLoans)
      (cond (nat_le c.port.pool_size n) (Some LoanError.OutOfMemory) None))) (live_requests_used p sound index c at)

  -- only a handle of a request holds a channel: its slot
  holds : (channel : ℕ) (g : Stage) (sender slot : ℕ) → holds_channel c.port.id channel (handle_in p g sender slot) ≡ true
      → (is_of_request g ≡ true) × ((request_details p sender slot).client ≡ c.port.id) × (slot ≡ channel)
  holds channel stage.RequestMutUninit sender slot h = let b = and_parts ((request_details p sender slot).client == c.port.id)
      (slot == channel) h in (refl, eqb-true _ _ b.0, eqb-true _ _ b.1)
  holds channel stage.RequestMut sender slot h = let b = and_parts ((request_details p sender slot).client == c.port.id) (slot == channel) h
      in
      (refl, eqb-true _ _ b.0, eqb-true _ _ b.1)
  holds channel (stage.PendingResponse hint connections) sender slot h = let b = and_parts
      ((request_details p sender slot).client == c.port.id)
      (slot == channel) h in (refl, eqb-true _ _ b.0, eqb-true _ _ b.1)
  holds channel (stage.ActiveRequest server loans) sender slot h = absurd (false≢true h)
  holds channel stage.ResponseMutUninit sender slot h = absurd (false≢true h)
  holds channel stage.ResponseMut sender slot h = absurd (false≢true h)
  holds channel stage.Response sender slot h = absurd (false≢true h)

  -- the channel of a free slot is free
  pub free_channel : (slot : ℕ) → slice_get (sender_of c.sender p.client_senders).messages.held slot ≡ Some 0
      → IsFreeChannel (state_of p) (client_of c) slot
  free_channel slot free =
      let own = sound.client_ports.own index c.connected (listed (λ c. c.connected) p.clients index c at) in (
        omega (arith, own.2, slice_get_within (sender_of c.sender p.client_senders).messages.held slot 0 free),
        any-map (λ e. e.1) (holds_channel c.port.id slot) (fin_map.entries (state_of p).handles)
            ∙ false_from_ne_true _ (λ h. let e = entry_gives nat_cmp_total (holds_channel c.port.id slot) (state_of p).handles h in
            go own.0 own.1 e.0 e.1 (fin_map.get p.table.entries e.0) refl (sym (get-map_values (handle_of p) p.table.entries e.0) ∙ e.2)
            e.3),
      )
    where
      go : c.sender < length p.client_senders → (sender_of c.sender p.client_senders).owner ≡ c.port.id
          → (k : ℕ) (handle : Handle Q QH P PH) (o : Option (TableEntry HandleEntry)) → fin_map.get p.table.entries k ≡ o
          → option_map (handle_of p) o ≡ Some handle → holds_channel c.port.id slot handle ≡ true → ⊥
      go there owner k handle None e f t = let no : None ≡ Some handle = f in cc
      go there owner k handle (Some s) e f t =
          let is : Some (handle_of p s) ≡ Some handle = f in
          let same : handle_of p s ≡ handle = cc in
          let h = holds slot s.value.stage s.value.sender s.value.slot (ap (holds_channel c.port.id slot) same ∙ t) in
          let sender : s.value.sender ≡ c.sender =
          sound.client_ports.owned_once s.value.sender c.sender (request_sender p empty_hand sound.counted k s e h.0) there
          (sym (sound.addressed.requests s.value.sender s.value.slot (handle_uses_request p empty_hand sound.counted k s e h.0)) ∙ h.1
          ∙ sym owner) in
          let here : has_request_at c.sender slot s ≡ true = rw h.0
          (rw (eq-eqb s.value.sender c.sender sender) (eq-eqb s.value.slot slot h.2)) in
          omega (
            arith,
            tally-at (has_request_at c.sender slot) p.table.entries k s e here,
            sound.counted.requests c.sender slot,
            get_or_from_slice_get (sender_of c.sender p.client_senders).messages.held slot 0 0 free,
          )

  -- a refusal by what is stored
  pub refuses : (n len : ℕ) (error : LoanError) → client_at (state_of p) n ≡ Some (client_of c)
      → IsLoanRefusal (stored_refusal len) c.port len error → (s new : State Q QH P PH K) → state_of p ≡ s → new ≡ s
      → IsSomeAnd (client_at s n) (λ client. IsLoanRefusal (request_loan_refusal s client len) client.port len error × (new ≡ s))
  refuses n len error seen due s new is stays =
      let R : State Q QH P PH K → Type 0 = λ s. (new ≡ s) → IsSomeAnd (client_at s n)
      (λ client. IsLoanRefusal (request_loan_refusal s client len) client.port len error × (new ≡ s)) in
      let T : Option (Client K) → Type 0 = λ o. IsSomeAnd o (λ client. IsLoanRefusal
      (request_loan_refusal (state_of p) client len) client.port len error × (new ≡ state_of p)) in
      subst R is (λ e. subst T (sym seen) (subst (λ o. IsLoanRefusal o c.port len error) (sym (refusal_stored len)) due, e)) stays

  -- a loan, after which contracts see the request
  pub lends : (IsDefault : QH → Type 0) (n len slot k : ℕ) (header : QH) → client_at (state_of p) n ≡ Some (client_of c)
      → request_loan_refusal (state_of p) (client_of c) len ≡ None → IsDefault header
      → slice_get (sender_of c.sender p.client_senders).messages.held slot ≡ Some 0
      → times slot (all_entries (sender_of c.sender p.client_senders).messages.queues) ≡ 0
      → (s new : State Q QH P PH K) → state_of p ≡ s → k ≡ p.next → new ≡ state_of (with_request_loan p index c slot len header)
      → IsSomeAnd (client_at s n) (λ client. (request_loan_refusal s client len ≡ None) × (k ≡ s.next)
      × ((channel : ℕ) × (h : QH) × IsFreeChannel s client channel × IsDefault h × (new ≡ with_loaned_request s client len channel h)))
  lends IsDefault n len slot k header seen due default free unused s new is number now =
      let R : State Q QH P PH K → Type 0 = λ s. IsSomeAnd (client_at s n)
      (λ client. (request_loan_refusal s client len ≡ None) × (k ≡ s.next)
      × ((channel : ℕ) × (h : QH) × IsFreeChannel s client channel × IsDefault h × (new ≡ with_loaned_request s client len channel h))) in
      let T : Option (Client K) → Type 0 = λ o. IsSomeAnd o (λ client. (request_loan_refusal (state_of p) client len ≡ None) × (k ≡ p.next)
      × ((channel : ℕ) × (h : QH) × IsFreeChannel (state_of p) client channel × IsDefault h
      × (new ≡ with_loaned_request (state_of p) client len channel h))) in
      subst R is (subst T (sym seen) (
        due,
        number,
        (
          slot,
          header,
          free_channel slot free,
          default,
          now
              ∙ loan_view p sound index c at slot len header free unused,
        ),
      ))

  -- which reason comes first, or that none is due
  pub first_due : (len : ℕ) → is_too_long c.port len ≡ true → stored_refusal len ≡ Some LoanError.ExceedsMaxLoanSize
  first_due len h = rw h refl

  pub second_due : (len : ℕ) → is_too_long c.port len ≡ false → p.limits.max_loaned_requests ≤ on_loan
      → stored_refusal len ≡ Some LoanError.ExceedsMaxLoans
  second_due len h g = rw h (rw (le-leb p.limits.max_loaned_requests on_loan g) refl)

  pub third_due : (len : ℕ) → is_too_long c.port len ≡ false → on_loan < p.limits.max_loaned_requests
      → c.port.pool_size ≤ used_count (sender_of c.sender p.client_senders).messages → stored_refusal len ≡ Some LoanError.OutOfMemory
  third_due len h g l = rw h (rw (lt-leb p.limits.max_loaned_requests on_loan g)
      (rw (le-leb c.port.pool_size (used_count (sender_of c.sender p.client_senders).messages) l) refl))

  pub none_due : (len : ℕ) → is_too_long c.port len ≡ false → on_loan < p.limits.max_loaned_requests
      → used_count (sender_of c.sender p.client_senders).messages < c.port.pool_size → stored_refusal len ≡ None
  none_due len h g l = rw h (rw (lt-leb p.limits.max_loaned_requests on_loan g)
      (rw (lt-leb c.port.pool_size (used_count (sender_of c.sender p.client_senders).messages) l) refl))

  -- what a sender that lends nothing tells is want of memory
  pub pool_refusal : (len : ℕ) (error : AcquireError) → is_too_long c.port len ≡ false → on_loan < p.limits.max_loaned_requests
      → (IsErrOf {T = Place} (Err error) AcquireError.Full ↔ (used_count (sender_of c.sender p.client_senders).messages ≡ length
      (sender_of c.sender p.client_senders).messages.held))
      → (IsErrOf {T = Place} (Err error) AcquireError.NoRoom → (sender_of c.sender p.client_senders).messages.room < len)
      → IsLoanRefusal (stored_refusal len) c.port len LoanError.OutOfMemory
  pool_refusal len AcquireError.Full long few full room =
      let own = sound.client_ports.own index c.connected (listed (λ c. c.connected) p.clients index c at) in
      due_refusal (stored_refusal len) c.port len LoanError.OutOfMemory (third_due len long few (omega (arith, full.0 refl, own.2)))
  pool_refusal len AcquireError.NoRoom long few full room =
      let own = sound.client_ports.own index c.connected (listed (λ c. c.connected) p.clients index c at) in
      let other : used_count (sender_of c.sender p.client_senders).messages ≡ length (sender_of c.sender p.client_senders).messages.held
      → ⊥ =
      λ e. let f : ◌≡◌ {A = Result Place AcquireError} (Err AcquireError.NoRoom) (Err AcquireError.Full) = full.1 e in cc in
      no_memory (stored_refusal len) c.port len
      (none_due len long few (not_full own.2 (used_le (sender_of c.sender p.client_senders).messages _) other))
      (omega (arith, room refl, own.3))
