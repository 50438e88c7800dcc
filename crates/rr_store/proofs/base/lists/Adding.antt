-- Small facts on which adding a port rests.
use Rattle.std.proofs.Common.{◌≡◌, ◌<◌, ◌≤◌, ◌+◌, ◌*◌, ◌^◌, ℕ, Bool, true, false, cond, List, Option, None, Some, length, map, refl, sym, ap, ◌∙◌, ⊎_elim, option_map, arith}
use Rattle.std.specs.Prelude.{slice_get, ◌==◌, ◌||◌, nat_le}
use Rattle.std.proofs.lemmas.Bool.{false≢true, eq-eqb, le-leb, cases_lt}
use Rattle.std.proofs.lemmas.Option.{slice_get-map}
use Rattle.std.proofs.lemmas.List.{length-map}
use Rattle.rr_table.specs.TableView.{TableView}
use Rattle.rr_store.specs.declared.handle_entry.HandleEntry.{HandleEntry}
use Rattle.rr_store.specs.declared.details.ResponseDetails.{ResponseDetails}
use Rattle.rr_store.specs.Parts.{Parts, Connected, Sender}
use Rattle.rr_store.specs.Sound.{HasSenders}
use Rattle.rr_store.specs.Views.{state_of, client_of, server_of}
use Rattle.rr_protocol.specs.State.{State, numbers_left}
use Rattle.rr_protocol.specs.Creation.{client_refusal, server_refusal, loans_of, pool_size_of}
use Rattle.rr_protocol.specs.Limits.{has_zero_limit, is_too_large, worst_case_requests, worst_case_responses, hub_refusal}
use Rattle.rr_protocol.specs.declared.error.HubCreateError.{HubCreateError}
use Rattle.rr_protocol.specs.declared.limits.Limits.{Limits}
use Rattle.rr_protocol.specs.declared.settings.ServerSettings.{ServerSettings}
use Rattle.rr_protocol.specs.declared.error.ClientCreateError.{ClientCreateError}

-- the first of two refusals, or none
both_pass : (a b : Bool) (e f : ClientCreateError) → cond a (Some e) (cond b (Some f) None) ≡ None → (a ≡ false) × (b ≡ false)
both_pass true b e f h = absurd (let g : Some e ≡ None = h in cc)
both_pass false true e f h = absurd (let g : Some f ≡ None = h in cc)
both_pass false false e f h = (refl, refl)

-- a client that isn't refused has a number and room among the clients
pub not_refused : {Q QH P PH K : Type 0} (s : State Q QH P PH K) → client_refusal s ≡ None → (s.next < 2 ^ 62)
    × (length s.clients < s.limits.max_clients)
not_refused s h =
    let both = both_pass (numbers_left s == 0) (nat_le s.limits.max_clients (length s.clients)) _ _ h in (
      ⊎_elim (λ l. l) (λ l. let none : numbers_left s ≡ 0 = omega (arith, l) in
          absurd (let t : true ≡ false = sym (eq-eqb (numbers_left s) 0 none) ∙ both.0 in cc)) (cases_lt s.next (2 ^ 62)),
      ⊎_elim (λ l. l) (λ l. absurd (let t : true ≡ false = sym (le-leb s.limits.max_clients (length s.clients) l) ∙ both.1 in cc))
          (cases_lt (length s.clients) s.limits.max_clients),
    )

-- the first of three refusals, or none
three_pass : {E : Type 0} (a b c : Bool) (e f g : E) → cond a (Some e) (cond b (Some f) (cond c (Some g) None)) ≡ None → (a ≡ false)
    × (b ≡ false) × (c ≡ false)
three_pass true b c e f g h = absurd (let n : Some e ≡ None = h in cc)
three_pass false true c e f g h = absurd (let n : Some f ≡ None = h in cc)
three_pass false false true e f g h = absurd (let n : Some g ≡ None = h in cc)
three_pass false false false e f g h = (refl, refl, refl)

-- a server that isn't refused has a number, room among the servers, and a pool that can be counted
pub server_not_refused : {Q QH P PH K : Type 0} (s : State Q QH P PH K) (settings : ServerSettings K) → server_refusal s settings ≡ None
    → (s.next < 2 ^ 62) × (length s.servers < s.limits.max_servers)
    × (is_too_large (worst_case_responses s.limits (loans_of settings)) ≡ false)
server_not_refused s settings h =
    let all = three_pass (numbers_left s == 0) (nat_le s.limits.max_servers (length s.servers))
    (is_too_large (worst_case_responses s.limits (loans_of settings))) _ _ _ h in (
      ⊎_elim (λ l. l) (λ l. let none : numbers_left s ≡ 0 = omega (arith, l) in
          absurd (let t : true ≡ false = sym (eq-eqb (numbers_left s) 0 none) ∙ all.0 in cc)) (cases_lt s.next (2 ^ 62)),
      ⊎_elim (λ l. l) (λ l. absurd (let t : true ≡ false = sym (le-leb s.limits.max_servers (length s.servers) l) ∙ all.1 in cc))
          (cases_lt (length s.servers) s.limits.max_servers),
      all.2,
    )

pub fewer_servers : {Q QH P PH K : Type 0} (p : Parts Q QH P PH K) (settings : ServerSettings K)
    → server_refusal (state_of p) settings ≡ None → length p.servers < p.limits.max_servers
fewer_servers p settings h = omega (arith, (server_not_refused (state_of p) settings h).1, length-map p.servers server_of)

pub fewer : {Q QH P PH K : Type 0} (p : Parts Q QH P PH K) → client_refusal (state_of p) ≡ None → length p.clients < p.limits.max_clients
fewer p h = omega (arith, (not_refused (state_of p) h).1, length-map p.clients client_of)

-- an element after a function of each
pub mapped : {X Y : Type 0} (f : X → Y) (xs : List X) (i : ℕ) (y : Y) → slice_get (map f xs) i ≡ Some y → (x : X)
    × (slice_get xs i ≡ Some x) × (f x ≡ y)
mapped {X} {Y} f xs i y e = go (slice_get xs i) refl (sym (slice_get-map f xs i) ∙ e)
  where
    go : (o : Option X) → slice_get xs i ≡ o → option_map f o ≡ Some y → (x : X) × (slice_get xs i ≡ Some x) × (f x ≡ y)
    go None h g = absurd (let no : None ≡ Some y = g in cc)
    go (Some x) h g = let is : Some (f x) ≡ Some y = g in let same : f x ≡ y = cc in (x, h, same)

module _ {Q QH P PH K : Type 0} where
  -- a core with other senders of servers and handles
  abbrev pub with_responders : Parts Q QH P PH K → List (Sender P ResponseDetails PH) → TableView HandleEntry → ℕ → Parts Q QH P PH K
  with_responders p senders table next = record p { server_senders = senders; table = table; next = next }

  -- with the same ones it is as it was
  pub same_responders : (p q : Parts Q QH P PH K) (senders : List (Sender P ResponseDetails PH)) (table : TableView HandleEntry) (next : ℕ)
      → senders ≡ q.server_senders → table ≡ q.table → next ≡ q.next → q ≡ with_responders p q.server_senders q.table q.next
      → with_responders p senders table next ≡ q
  same_responders p q senders table next a b d is =
      ap (λ x. with_responders p x table next) a ∙ ap (λ x. with_responders p q.server_senders x next) b
      ∙ ap (λ x. with_responders p q.server_senders q.table x) d ∙ sym is

-- a connected port's number was given before
pub given_before : {T N H K : Type 0} (next ports : ℕ) (connected : List (Connected K)) (senders : List (Sender T N H))
    → HasSenders next ports connected senders → (i : ℕ) (c : Connected K) → slice_get connected i ≡ Some c → c.port.id < next
given_before next ports connected senders has i c at = let o = has.own i c at in omega (arith, o.1, has.numbered c.sender o.0)

-- where limits make a hub, none of them is zero
pub none_zero : (l : Limits) → hub_refusal l ≡ None → has_zero_limit l ≡ false
none_zero l h = go (has_zero_limit l) refl h
  where
    go : (z : Bool) → has_zero_limit l ≡ z → cond z (Some HubCreateError.ZeroLimit)
        (cond (is_too_large (worst_case_requests l) || is_too_large (worst_case_responses l 1)) (Some HubCreateError.LimitsTooLarge) None)
        ≡ None → has_zero_limit l ≡ false
    go true e f = absurd (let n : Some HubCreateError.ZeroLimit ≡ None = f in cc)
    go false e f = e

-- one of the limits is not zero, where none is
pub not_zero : (n : ℕ) → (n == 0) ≡ false → 0 < n
not_zero n h = ⊎_elim (λ l. l) (λ l. absurd (false≢true (sym h ∙ eq-eqb n 0 (omega (arith, l))))) (cases_lt 0 n)

-- of two tests that both fail, the one and the other
pub left_off : (a b : Bool) → (a || b) ≡ false → a ≡ false
left_off false b e = refl
left_off true b e = absurd (false≢true (sym e))

pub right_off : (a b : Bool) → (a || b) ≡ false → b ≡ false
right_off false b e = e
right_off true b e = absurd (false≢true (sym e))

module _ (l : Limits) (h : hub_refusal l ≡ None) where
  pub some_clients : 0 < l.max_clients
  some_clients = not_zero l.max_clients (left_off _ _ (left_off _ _ (left_off _ _ (left_off _ _ (left_off _ _ (none_zero l h))))))

  pub some_loans : 0 < l.max_loaned_requests
  some_loans = not_zero l.max_loaned_requests (right_off _ _ (left_off _ _ (left_off _ _ (left_off _ _ (none_zero l h)))))

  pub some_responses : 0 < l.max_response_buffer_size
  some_responses = not_zero l.max_response_buffer_size (right_off _ _ (left_off _ _ (none_zero l h)))

  pub makes_requests : 0 < l.max_active_requests_per_client
  makes_requests = not_zero l.max_active_requests_per_client (right_off _ _ (left_off _ _ (left_off _ _ (none_zero l h))))

  -- a client of such a hub may have some request
  pub makes_channels : 0 < worst_case_requests l
  makes_channels = positive l.max_loaned_requests l.max_active_requests_per_client
      (l.max_servers * 2 * l.max_active_requests_per_client) some_loans
    where
      positive : (a b c : ℕ) → 0 < a → 0 < a + b + c
      positive a b c h = omega (arith, h)

-- no pool is larger than the worst case
pub pool_fits : (worst : ℕ) (pool : Option ℕ) → 0 < worst → pool_size_of worst pool ≤ worst
pool_fits worst None h = omega (arith, h)
pool_fits worst (Some size) h = omega (arith, h)
