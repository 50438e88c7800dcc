-- A client with fewer live requests than its pool has slots has a channel that none of them holds.
use Rattle.std.proofs.Common.{◌≡◌, ℕ, ◌+◌, ◌*◌, ◌<◌, ◌≤◌, Bool, true, false, cond, eqb, ◌&&◌, List, [], ◌∷◌, ◌++◌, map, length, Some, None, refl, sym, ap, ◌∙◌, subst, inl, inr, arith}
use Rattle.std.specs.Prelude.{◌⊎◌, ◌||◌, filter, filter_map, nat_le, if◌then◌else◌}
use Rattle.std.specs.List.{list_any}
use Rattle.std.specs.Option.{option_map_or}
use Rattle.std.specs.Cmp.{nat_cmp_total}
use Rattle.std.specs.FinMap.{entries, get}
use Rattle.std.proofs.lemmas.Bool.{eq-eqb, eqb-true}
use Rattle.std.proofs.lemmas.List.Sums.{length-filter}
use Rattle.std.proofs.lemmas.Map.Views.{any-filter_same}
use Rattle.rr_table.specs.Maps.{tally}
use Rattle.rr_table.proofs.MapLaws.{entries-map_values}
use Rattle.rr_protocol.specs.declared.error.LoanError.{LoanError}
use Rattle.rr_protocol.specs.Lists.{all_elements}
use Rattle.rr_protocol.specs.Messages.{RequestMessage, Handle, RequestMutUninit, RequestMut, PendingResponse, ActiveRequest, ResponseMutUninit, ResponseMut, Response, request_in}
use Rattle.rr_protocol.specs.State.{State, all_handles}
use Rattle.rr_protocol.specs.Counts.{distinct_count, live_requests, loaned_requests, holds_channel}
use Rattle.rr_protocol.specs.Loans.{is_too_long}
use Rattle.rr_laws.specs.Roles.{Role, LoanedRequest, SentRequest, ReceivedRequest, LoanedResponse, ReceivedResponse, role_of, roles_of, subject_of, number_of}
use Rattle.rr_laws.specs.Reached.{IsReached}
use Rattle.rr_laws.specs.Unreduced.{FindsChannel}
use Rattle.rr_table.proofs.MapFacts.{all_entries, one_entry, any_value}
use Rattle.rr_table.proofs.Counting.{count-bins}
use Rattle.rr_laws.proofs.RoleLaws.{handle_of}
use Rattle.rr_laws.proofs.Counts.{and_first, and_second}
use Rattle.rr_laws.proofs.Tests.{not_due, below_of_test}
use Rattle.rr_laws.proofs.LiveRequests.{both_true}
use Rattle.rr_laws.proofs.Bins.{all_of}
use Rattle.rr_table.proofs.ListFacts.{or_true, any-append, any-filter, any-map, any-filter_map}
use Rattle.rr_laws.proofs.Below.{all_below, one_below, count-all, search_below}

-- the different numbers of a list, each once
unfoldable pub each_once : List ℕ → List ℕ
each_once [] = []
each_once (n ∷ ns) = cond (list_any (λ m. eqb m n) ns) (each_once ns) (n ∷ each_once ns)

pub length-each_once : (ns : List ℕ) → length (each_once ns) ≡ distinct_count ns
unfolding each_once
length-each_once [] = refl
length-each_once (n ∷ ns) = go (length-each_once ns) (list_any (λ m. eqb m n) ns)
  where
    go : length (each_once ns) ≡ distinct_count ns → (b : Bool)
        → length (cond b (each_once ns) (n ∷ each_once ns)) ≡ cond b 0 1 + distinct_count ns
    go rest true = omega (arith, rest)
    go rest false = omega (arith, rest)

pub any_each_once : (k : ℕ) (ns : List ℕ) → list_any (λ m. eqb m k) ns ≡ true → list_any (λ m. eqb m k) (each_once ns) ≡ true
unfolding each_once
any_each_once k [] e = e
any_each_once k (n ∷ ns) e = go (any_each_once k ns) (list_any (λ m. eqb m n) ns) refl (eqb n k) refl e
  where
    go : (list_any (λ m. eqb m k) ns ≡ true → list_any (λ m. eqb m k) (each_once ns) ≡ true) → (b : Bool) → list_any (λ m. eqb m n) ns ≡ b
        → (c : Bool) → eqb n k ≡ c →
        (c || list_any (λ m. eqb m k) ns) ≡ true → list_any (λ m. eqb m k) (cond b (each_once ns) (n ∷ each_once ns)) ≡ true
    go rest true there true same e = rest (subst (λ j. list_any (λ m. eqb m j) ns ≡ true) (eqb-true n k same) there)
    go rest true there false same e = rest e
    go rest false there true same e = ap (λ b. b || list_any (λ m. eqb m k) (each_once ns)) same
    go rest false there false same e = or_true (eqb n k) _ (rest e)

-- a request that this client still has
still_has : ℕ → Role → Bool
still_has client (LoanedRequest q) = eqb q.client client
still_has client (SentRequest q) = eqb q.client client
still_has client _ = false

-- one of them on this channel
has_channel : ℕ → ℕ → Role → Bool
has_channel client channel (LoanedRequest q) = eqb q.client client && eqb q.channel channel
has_channel client channel (SentRequest q) = eqb q.client client && eqb q.channel channel
has_channel client channel _ = false

module _ {Q QH P PH K : Type 0} (s : State Q QH P PH K) (fits : IsReached s) (client : ℕ) where
  live_numbers : List ℕ
  live_numbers = map (λ m. m.number) (filter (λ m. eqb m.client client) (filter_map request_in (all_handles s) ++ all_elements s.requests))

  -- the number of a request that its client still has is one of a live request
  is_live : (n : ℕ) (role : Role) → get (roles_of s.handles) n ≡ Some role → still_has client role ≡ true
      → list_any (λ m. eqb m n) live_numbers ≡ true
  unfolding live_numbers still_has
  is_live n role e has =
      let h = handle_of s.handles n role e in
      any-map (λ (m : RequestMessage Q QH). m.number) (λ m. eqb m n)
      (filter (λ m. eqb m.client client) (filter_map request_in (all_handles s) ++ all_elements s.requests))
      ∙ any-filter (λ m. eqb m.number n) (λ m. eqb m.client client) (filter_map request_in (all_handles s) ++ all_elements s.requests)
      (any-append (λ m. eqb m.client client && eqb m.number n) (filter_map request_in (all_handles s)) (all_elements s.requests)
      (any-filter_map request_in (λ m. eqb m.client client && eqb m.number n) (all_handles s)
      ∙ any-map (λ (x : ℕ × Handle Q QH P PH). x.1) (λ x. option_map_or (λ m. eqb m.client client && eqb m.number n) (request_in x) false)
      (entries s.handles)
      ∙ any_value (λ x. option_map_or (λ m. eqb m.client client && eqb m.number n) (request_in x) false) s.handles n h.0 h.1
      (this h.0 (subst (λ r. number_of n r ≡ n) (sym h.2) ((fits.handles n role e).own_number))
      (subst (λ r. still_has client r ≡ true) (sym h.2) has))))
    where
      this : (h : Handle Q QH P PH) → number_of n (role_of h) ≡ n → still_has client (role_of h) ≡ true
          → option_map_or (λ m. eqb m.client client && eqb m.number n) (request_in h) false ≡ true
      this (RequestMutUninit m) own has = both_true _ _ has (eq-eqb m.number n own)
      this (RequestMut m) own has = both_true _ _ has (eq-eqb m.number n own)
      this (PendingResponse p) own has = both_true _ _ has (eq-eqb p.message.number n own)
      this (ActiveRequest a) own has = absurd (cc)
      this (ResponseMutUninit m) own has = absurd (cc)
      this (ResponseMut m) own has = absurd (cc)
      this (Response m) own has = absurd (cc)

  one_more_times : (count most live : ℕ) → count ≤ most * 1 → most ≡ live → count ≤ live
  one_more_times count most live e f = omega (arith, e, f)

  -- no more requests that the client still has than live ones
  still_had_le : tally (still_has client) (roles_of s.handles) ≤ live_requests s client
  unfolding live_numbers
  still_had_le =
      one_more_times _ (length (each_once live_numbers)) (live_requests s client)
      (count-bins (λ (number : ℕ) (e : ℕ × Role). eqb number e.0) 1 (λ e. still_has client e.1) (each_once live_numbers)
      (entries (roles_of s.handles))
      (all_entries nat_cmp_total _ (roles_of s.handles) (λ n role e has. any_each_once n live_numbers (is_live n role e has)))
      (all_of _ (λ number. one_entry nat_cmp_total (λ n. eqb number n) number (λ n h. sym (eqb-true number n h)) (roles_of s.handles))
      (each_once live_numbers)))
      (length-each_once live_numbers)

  -- where a channel is held, a request that the client still has holds it
  held_by : (channel : ℕ) → list_any (holds_channel client channel) (all_handles s) ≡ list_any
      (λ (e : ℕ × Role). has_channel client channel e.1) (entries (roles_of s.handles))
  unfolding has_channel
  held_by channel =
      any-map (λ (x : ℕ × Handle Q QH P PH). x.1) (holds_channel client channel) (entries s.handles)
      ∙ ap (λ (t : Handle Q QH P PH → Bool). list_any (λ (x : ℕ × Handle Q QH P PH). t x.1) (entries s.handles)) (λ i h. same h i)
      ∙ sym (any-map (λ (x : ℕ × Handle Q QH P PH). (x.0, role_of x.1)) (λ e. has_channel client channel e.1) (entries s.handles))
      ∙ ap (list_any (λ (e : ℕ × Role). has_channel client channel e.1)) (sym (entries-map_values role_of s.handles))
    where
      same : (h : Handle Q QH P PH) → holds_channel client channel h ≡ has_channel client channel (role_of h)
      same (RequestMutUninit m) = refl
      same (RequestMut m) = refl
      same (PendingResponse p) = refl
      same (ActiveRequest a) = refl
      same (ResponseMutUninit m) = refl
      same (ResponseMut m) = refl
      same (Response m) = refl

  -- fewer live requests than channels leave one free
  pub free_channel : (channels : ℕ) → live_requests s client < channels → (channel : ℕ) × (channel < channels)
      × (list_any (holds_channel client channel) (all_handles s) ≡ false)
  unfolding still_has has_channel
  free_channel channels few = go (search_below (λ channel. list_any (holds_channel client channel) (all_handles s)) channels)
    where
      holder : (channel : ℕ) (role : Role) → has_channel client channel role ≡ true → still_has client role ≡ true
      holder channel (LoanedRequest q) e = and_first (eqb q.client client) (eqb q.channel channel) e
      holder channel (SentRequest q) e = and_first (eqb q.client client) (eqb q.channel channel) e
      holder channel (ReceivedRequest v q) e = e
      holder channel (LoanedResponse a) e = e
      holder channel (ReceivedResponse a) e = e

      only : (role : Role) (channel : ℕ) → has_channel client channel role ≡ true → channel ≡ (subject_of role).channel
      only (LoanedRequest q) channel e = sym (eqb-true q.channel channel (and_second (eqb q.client client) (eqb q.channel channel) e))
      only (SentRequest q) channel e = sym (eqb-true q.channel channel (and_second (eqb q.client client) (eqb q.channel channel) e))
      only (ReceivedRequest v q) channel e = absurd (cc)
      only (LoanedResponse a) channel e = absurd (cc)
      only (ReceivedResponse a) channel e = absurd (cc)

      bins : List (ℕ × Role)
      bins = filter (λ e. still_has client e.1) (entries (roles_of s.handles))

      all_held : ((channel : ℕ) → channel < channels → list_any (holds_channel client channel) (all_handles s) ≡ true)
          → channels ≤ length bins * 1
      all_held held =
          subst (λ n. n ≤ length bins * 1) (count-all (λ channel. list_any (holds_channel client channel) (all_handles s)) channels held)
          (count-bins (λ (e : ℕ × Role) channel. has_channel client channel e.1) 1
          (λ channel. list_any (holds_channel client channel) (all_handles s)) bins (all_below channels)
          (all_of _ (λ channel h. any-filter_same (λ (e : ℕ × Role). has_channel client channel e.1) (λ e. still_has client e.1) true
          (λ e. holder channel e.1) (entries (roles_of s.handles)) ∙ sym (held_by channel) ∙ h) (all_below channels))
          (all_of _ (λ e. one_below (λ channel. has_channel client channel e.1) (subject_of e.1).channel (only e.1) channels) bins))

      go : ((channel : ℕ) → channel < channels → list_any (holds_channel client channel) (all_handles s) ≡ true)
          ⊎ ((channel : ℕ) × (channel < channels) × (list_any (holds_channel client channel) (all_handles s) ≡ false)) →
          (channel : ℕ) × (channel < channels) × (list_any (holds_channel client channel) (all_handles s) ≡ false)
      go (inl held) = absurd (omega (
        arith,
        all_held held,
        length-filter (λ (e : ℕ × Role). still_has client e.1)
            (entries (roles_of s.handles)),
        still_had_le,
        few,
      ))
      go (inr free) = free

-- where a loan is not refused, some channel is free
pub finds_channel : {Q QH P PH K : Type 0} (s : State Q QH P PH K) → IsReached s → FindsChannel s
finds_channel s fits n len client is due =
    let room : (if nat_le client.pool_size (live_requests s client.id) then Some LoanError.OutOfMemory else None) ≡ None =
    (not_due (nat_le s.limits.max_loaned_requests (loaned_requests s client.id)) _ _ ((not_due (is_too_long client.port len) _ _ due).1)).1
    in
    let free = free_channel s fits client.id client.pool_size
    (below_of_test client.pool_size (live_requests s client.id) (not_due _ _ None room).0) in
    (free.0, (free.1, free.2))
