-- Roles of handles: how each change of the handles shows in them, and what is counted of them.
use Rattle.std.proofs.Common.{◌≡◌, ℕ, ◌+◌, ◌≤◌, Bool, List, Option, Some, None, option_map, refl, sym, ap, ◌∙◌, ⊎_elim, arith}
use Rattle.std.specs.Prelude.{count_by}
use Rattle.std.specs.Option.{option_map_or}
use Rattle.std.specs.Ordering.{nat_cmp}
use Rattle.std.specs.Cmp.{nat_cmp_total}
use Rattle.std.specs.FinMap as fin_map
use Rattle.std.specs.FinMap.{FinMap, get, insert, remove, entries, same_map, nat_cmp-IsAntisymmetric}
use Rattle.std.proofs.lemmas.Bool.{cases_eq}
use Rattle.rr_table.specs.Maps.{mark, tally}
use Rattle.rr_table.proofs.MapLaws.{get-map_values, map_values-insert, map_values-remove, insert_itself, tally-map_values, tally-insert, tally-remove, tally-replace, get-remove_other, get-remove_same}
use Rattle.rr_protocol.specs.Keys.{RequestKey, ResponseKey}
use Rattle.rr_protocol.specs.Messages.{RequestMessage, ResponseMessage, Pending, Active, Handle, RequestMutUninit, RequestMut, PendingResponse, ActiveRequest, ResponseMutUninit, ResponseMut, Response}
use Rattle.rr_protocol.specs.State.{State, all_handles}
use Rattle.rr_protocol.specs.Counts.{is_request_loan, is_response_loan, is_pending_of, is_borrowed_request, is_borrowed_response, loaned_requests, loaned_responses, pending_responses}
use Rattle.rr_protocol.specs.Releases.{map_handles}
use Rattle.rr_protocol.proofs.HandleLaws.{get-map_handles}
use Rattle.rr_laws.specs.Roles.{Role, Roles, role_of, roles_of, loans_request, waits, holds_request, loans_response, holds_response}
use Rattle.rr_table.proofs.Counting.{count-map}

module _ {Q QH P PH : Type 0} where
  -- the role under a number
  pub get-roles : (handles : FinMap nat_cmp (Handle Q QH P PH)) (n : ℕ) → get (roles_of handles) n ≡ option_map role_of (get handles n)
  get-roles handles n = get-map_values role_of handles n

  -- the role of a handle that is there
  pub role_at : (handles : FinMap nat_cmp (Handle Q QH P PH)) (n : ℕ) (h : Handle Q QH P PH) → get handles n ≡ Some h
      → get (roles_of handles) n ≡ Some (role_of h)
  role_at handles n h e = get-roles handles n ∙ ap (option_map role_of) e

  -- the handle of a role that is there
  pub handle_of : (handles : FinMap nat_cmp (Handle Q QH P PH)) (n : ℕ) (role : Role) → get (roles_of handles) n ≡ Some role
      → (h : Handle Q QH P PH) × (get handles n ≡ Some h) × (role_of h ≡ role)
  handle_of handles n role e = go (get handles n) refl (sym (get-roles handles n) ∙ e)
    where
      go : (o : Option (Handle Q QH P PH)) → get handles n ≡ o → option_map role_of o ≡ Some role → (h : Handle Q QH P PH)
          × (get handles n ≡ Some h) × (role_of h ≡ role)
      go None is e = absurd (cc)
      go (Some h) is e = (h, is, (cc))

  -- one more handle
  pub roles-insert : (handles : FinMap nat_cmp (Handle Q QH P PH)) (n : ℕ) (h : Handle Q QH P PH)
      → roles_of (insert handles n h) ≡ insert (roles_of handles) n (role_of h)
  roles-insert handles n h = map_values-insert role_of handles n h

  -- one handle less
  pub roles-remove : (handles : FinMap nat_cmp (Handle Q QH P PH)) (n : ℕ) → roles_of (remove handles n) ≡ remove (roles_of handles) n
  roles-remove handles n = map_values-remove role_of handles n

  same_roles_at : (f : Handle Q QH P PH → Handle Q QH P PH) → ((h : Handle Q QH P PH) → role_of (f h) ≡ role_of h)
      → (o : Option (Handle Q QH P PH)) → option_map role_of (option_map f o) ≡ option_map role_of o
  same_roles_at f same None = refl
  same_roles_at f same (Some h) = ap Some (same h)

  -- a change that keeps each role
  pub roles-map_handles : (f : Handle Q QH P PH → Handle Q QH P PH) → ((h : Handle Q QH P PH) → role_of (f h) ≡ role_of h)
      → (handles : FinMap nat_cmp (Handle Q QH P PH)) → roles_of (map_handles f handles) ≡ roles_of handles
  roles-map_handles f same handles = same_map nat_cmp_total nat_cmp-IsAntisymmetric _ _ (λ n.
      get-roles (map_handles f handles) n ∙ ap (option_map role_of) (get-map_handles f handles n) ∙ same_roles_at f same (get handles n)
      ∙ sym (get-roles handles n))

  -- a change of one handle that keeps its role
  pub roles-changed : (f : Handle Q QH P PH → Handle Q QH P PH) → ((h : Handle Q QH P PH) → role_of (f h) ≡ role_of h)
      → (handles : FinMap nat_cmp (Handle Q QH P PH)) (n : ℕ) →
      roles_of (option_map_or (λ h. insert handles n (f h)) (get handles n) handles) ≡ roles_of handles
  roles-changed f same handles n = go (get handles n) refl
    where
      go : (o : Option (Handle Q QH P PH)) → get handles n ≡ o
          → roles_of (option_map_or (λ h. insert handles n (f h)) o handles) ≡ roles_of handles
      go None is = refl
      go (Some h) is = roles-insert handles n (f h) ∙ ap (insert (roles_of handles) n) (same h)
          ∙ insert_itself (roles_of handles) n (role_of h) (role_at handles n h is)

  -- a count of handles is one of roles, where the test sees the role alone
  pub count-roles : (p : Handle Q QH P PH → Bool) (q : Role → Bool) → ((h : Handle Q QH P PH) → p h ≡ q (role_of h))
      → (handles : FinMap nat_cmp (Handle Q QH P PH)) →
      count_by p (fin_map.values handles) ≡ tally q (roles_of handles)
  count-roles p q same handles =
      count-map (λ (e : ℕ × Handle Q QH P PH). e.1) p (entries handles) ∙ same_count (entries handles)
      ∙ sym (tally-map_values role_of q handles)
    where
      same_count : (es : List (ℕ × Handle Q QH P PH)) → count_by (λ e. p e.1) es ≡ count_by (λ e. q (role_of e.1)) es
      same_count es = ap (λ (t : Handle Q QH P PH → Bool). count_by (λ (e : ℕ × Handle Q QH P PH). t e.1) es) (λ i h. same h i)

  -- a test of a handle says what a test of its role says
  abbrev Alike : (Handle Q QH P PH → Bool) → (Role → Bool) → Handle Q QH P PH → Type 0
  Alike p q h = p h ≡ q (role_of h)

  -- a count of handles is one of roles, where the tests are alike for each kind of handle
  count-by_kind : (p : Handle Q QH P PH → Bool) (q : Role → Bool) → ((m : RequestMessage Q QH) → Alike p q (RequestMutUninit m))
      → ((m : RequestMessage Q QH) → Alike p q (RequestMut m)) → ((m : Pending Q QH) → Alike p q (PendingResponse m))
      → ((m : Active Q QH) → Alike p q (ActiveRequest m)) → ((m : ResponseMessage P PH) → Alike p q (ResponseMutUninit m))
      → ((m : ResponseMessage P PH) → Alike p q (ResponseMut m)) → ((m : ResponseMessage P PH) → Alike p q (Response m))
      → (handles : FinMap nat_cmp (Handle Q QH P PH)) → count_by p (fin_map.values handles) ≡ tally q (roles_of handles)
  count-by_kind p q request_uninit request_mut pending active response_uninit response_mut response = count-roles p q same
    where
      same : (h : Handle Q QH P PH) → p h ≡ q (role_of h)
      same (RequestMutUninit m) = request_uninit m
      same (RequestMut m) = request_mut m
      same (PendingResponse m) = pending m
      same (ActiveRequest m) = active m
      same (ResponseMutUninit m) = response_uninit m
      same (ResponseMut m) = response_mut m
      same (Response m) = response m

module _ {Q QH P PH K : Type 0} (s : State Q QH P PH K) where
  -- requests on loan, counted by roles
  pub loaned_requests-roles : (client : ℕ) → loaned_requests s client ≡ tally (loans_request client) (roles_of s.handles)
  loaned_requests-roles client = count-by_kind (is_request_loan client) (loans_request client) (λ m. refl) (λ m. refl) (λ m. refl)
      (λ m. refl) (λ m. refl) (λ m. refl) (λ m. refl) s.handles

  -- pending responses, counted by roles
  pub pending_responses-roles : (client : ℕ) → pending_responses s client ≡ tally (waits client) (roles_of s.handles)
  pending_responses-roles client = count-by_kind (is_pending_of client) (waits client) (λ m. refl) (λ m. refl) (λ m. refl)
      (λ m. refl) (λ m. refl) (λ m. refl) (λ m. refl) s.handles

  -- responses on loan, counted by roles
  pub loaned_responses-roles : (server : ℕ) → loaned_responses s server ≡ tally (loans_response server) (roles_of s.handles)
  loaned_responses-roles server = count-by_kind (is_response_loan server) (loans_response server) (λ m. refl) (λ m. refl) (λ m. refl)
      (λ m. refl) (λ m. refl) (λ m. refl) (λ m. refl) s.handles

  -- requests that a server holds from a list, counted by roles
  pub borrowed_requests-roles : (key : RequestKey) → count_by (is_borrowed_request key) (all_handles s) ≡ tally (holds_request key)
      (roles_of s.handles)
  borrowed_requests-roles key = count-by_kind (is_borrowed_request key) (holds_request key) (λ m. refl) (λ m. refl) (λ m. refl)
      (λ m. refl) (λ m. refl) (λ m. refl) (λ m. refl) s.handles

  -- responses that a client holds from a list, counted by roles
  pub borrowed_responses-roles : (key : ResponseKey) → count_by (is_borrowed_response key) (all_handles s) ≡ tally (holds_response key)
      (roles_of s.handles)
  borrowed_responses-roles key = count-by_kind (is_borrowed_response key) (holds_response key) (λ m. refl) (λ m. refl) (λ m. refl)
      (λ m. refl) (λ m. refl) (λ m. refl) (λ m. refl) s.handles

module _ (p : Role → Bool) (roles : Roles) (n : ℕ) where
  -- one more role, also in place of another
  pub tally-more : (role : Role) → tally p (insert roles n role) ≤ tally p roles + mark (p role)
  tally-more role = go (get roles n) refl
    where
      go : (o : Option Role) → get roles n ≡ o → tally p (insert roles n role) ≤ tally p roles + mark (p role)
      go None e = omega (arith, tally-insert p roles n role e)
      go (Some old) e = omega (arith, tally-replace p roles n old role e)

  -- one role less
  pub tally-less : tally p (remove roles n) ≤ tally p roles
  tally-less = go (get roles n) refl
    where
      go : (o : Option Role) → get roles n ≡ o → tally p (remove roles n) ≤ tally p roles
      go None e =
          let nothing : remove roles n ≡ roles = same_map nat_cmp_total nat_cmp-IsAntisymmetric _ _ (λ q. ⊎_elim
          (λ is. get-remove_same roles n q is ∙ sym (ap (get roles) is ∙ e))
          (λ not. get-remove_other roles n q not)
          (cases_eq q n)) in
          omega (arith, ap (tally p) nothing)
      go (Some old) e = omega (arith, tally-remove p roles n old e)
