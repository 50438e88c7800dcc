-- How states settle by sends of responses: what a server that waits for room sends stands at the end of its list.
use Rattle.std.proofs.Common.{◌≡◌, ℕ, Bool, true, false, cond, not, ◌&&◌, List, [], ◌∷◌, ◌++◌, map, drop, Some, None, Ok, Err, refl, sym, ap, ◌∙◌, subst, ⊎_elim, inl, inr, arith}
use Rattle.std.specs.Prelude.{◌⊎◌, ◌||◌, fold, is_some, option_and_then}
use Rattle.std.specs.List.{list_any}
use Rattle.std.specs.Option.{option_map_or}
use Rattle.std.specs.FinMap.{get}
use Rattle.std.proofs.lemmas.List.{map-append}
use Rattle.std.proofs.lemmas.Bool.{cases_eq}
use Rattle.rr_protocol.specs.declared.settings.BackpressureAction.{BackpressureAction}
use Rattle.rr_protocol.specs.declared.settings.BackpressureStrategy.{BackpressureStrategy}
use Rattle.rr_protocol.specs.declared.error.SendError.{SendError}
use Rattle.rr_protocol.specs.Lists.{at, with_at}
use Rattle.rr_protocol.specs.Messages.{ResponseMessage, Handle, PendingResponse, ResponseMut, RequestMutUninit, RequestMut, ActiveRequest, ResponseMutUninit, Response, as_pending}
use Rattle.rr_protocol.specs.Ports.{Port, Server}
use Rattle.rr_protocol.specs.State.{State, client_at, server_at, handle_at}
use Rattle.rr_protocol.specs.Counts.{is_alive}
use Rattle.rr_protocol.specs.Backpressure.{strategy_discards, action_discards, discards}
use Rattle.rr_protocol.specs.Sends.{is_full, put, response_reach, is_response_list_blocked, is_response_refused, SendsResponse}
use Rattle.rr_protocol.specs.Releases.{after_release}
use Rattle.rr_protocol.proofs.KeyLaws.{response_keys_total}
use Rattle.rr_protocol.proofs.ListsLaws.{at-with_at}
use Rattle.rr_laws.specs.Roles.{Question, SentRequest, LoanedResponse, role_of, roles_of, answer_of, answered, asking}
use Rattle.rr_laws.specs.Reached.{IsReached}
use Rattle.rr_laws.specs.Apart.{IsApart}
use Rattle.rr_laws.specs.Left.{IsLeftFit}
use Rattle.rr_laws.specs.Following.{channel_key, entries_for, queued, Moves}
use Rattle.rr_laws.specs.Settling.{IsServing, IsWaiting, Settles}
use Rattle.rr_laws.proofs.RoleLaws.{role_at, handle_of}
use Rattle.rr_laws.proofs.Opening.{open_response_mut}
use Rattle.rr_table.proofs.MapFacts.{itself}
use Rattle.rr_laws.proofs.Sending.{response_fits, response_put_reached}
use Rattle.rr_laws.proofs.Occurring.{false_is_true}
use Rattle.rr_laws.proofs.Moving.{entries-waiting, then_quietly}
use Rattle.rr_laws.proofs.MovingReleases.{after_release_quietly}
use Rattle.rr_laws.proofs.MovingSends.{with_put, put_entries}
use Rattle.rr_laws.proofs.Settling.{settles_by, same_servers, same_held, then_settles}
use Rattle.rr_laws.proofs.SettlingHandles.{after_release_settles}

-- a port that waits for room passes no full list over
waits_on : {K : Type 0} (action : K → ℕ → ℕ → BackpressureAction) (port : Port K) (receiver : ℕ)
    → port.strategy ≡ BackpressureStrategy.RetryUntilDelivered → port.handler ≡ None → discards action port receiver ≡ false
waits_on action port receiver strategy handler =
    ap (λ h. action_discards port.strategy (option_map_or (λ x. action x port.id receiver) h BackpressureAction.FollowBackpressureStrategy))
    handler
    ∙ ap strategy_discards strategy

module _ {Q QH P PH K : Type 0} where
  -- the server is one that waits for room, where a full list of responses drops nothing
  abbrev pub WaitsForRoom : State Q QH P PH K → ℕ → Type 0
  WaitsForRoom s server = (s.limits.enable_safe_overflow_for_responses ≡ false)
      × ((c : Server K) → server_at s server ≡ Some c → IsWaiting c)

  -- of the entries for requests only those of this server for this request go on, and from a server that waits for room with the
  -- response at the end
  abbrev pub Appends : State Q QH P PH K → ℕ → ℕ → ℕ → ℕ → ℕ → List ℕ → List ℕ → Type 0
  Appends s server p k other q before after =
      ((other ≡ server) × (q ≡ p) × (WaitsForRoom s server → after ≡ before ++ k ∷ []))
      ⊎ (((other ≡ server) × (q ≡ p) → ⊥) × (after ≡ before))

  -- the same, where they may also stay; and they go on only for a request that still waits for the server
  abbrev pub MayAppend : State Q QH P PH K → ℕ → ℕ → ℕ → ℕ → ℕ → List ℕ → List ℕ → Type 0
  MayAppend s server p k other q before after =
      (after ≡ before) ⊎ ((other ≡ server) × (q ≡ p) × IsServing s server p × (WaitsForRoom s server → after ≡ before ++ k ∷ []))

  -- a request that waits is alive
  living : (s : State Q QH P PH K) (p : ℕ) (q : Question) → get (roles_of s.handles) p ≡ Some (SentRequest q) → is_alive s p ≡ true
  living s p q e =
      let h = handle_of s.handles p (SentRequest q) e in
      ap (λ o. is_some (option_and_then as_pending o)) h.1 ∙ by h.0 h.2
    where
      by : (h : Handle Q QH P PH) → role_of h ≡ SentRequest q → is_some (as_pending h) ≡ true
      by (RequestMutUninit m) e = absurd (cc)
      by (RequestMut m) e = absurd (cc)
      by (PendingResponse w) e = refl
      by (ActiveRequest a) e = absurd (cc)
      by (ResponseMutUninit m) e = absurd (cc)
      by (ResponseMut m) e = absurd (cc)
      by (Response m) e = absurd (cc)

  -- a response whose request waits reaches its list
  reaches : (s : State Q QH P PH K) → IsReached s → (n : ℕ) (m : ResponseMessage P PH) → handle_at s n ≡ Some (ResponseMut m)
      → (q : Question) → get (roles_of s.handles) m.request ≡ Some (SentRequest q) →
      response_reach s m ≡ channel_key m.server (answered (answer_of m)) ∷ []
  reaches s fits n m is q waits =
      let known = (fits.handles n (LoanedResponse (answer_of m)) (role_at s.handles n (ResponseMut m) is)).known in
      let same : q ≡ answered (answer_of m) = known.same q (ap (option_and_then asking) waits) in
      let connected : is_some (client_at s m.client) ≡ true = subst (λ (x : Question). is_some (client_at s x.client) ≡ true) same
      (fits.handles m.request (SentRequest q) waits).connected in
      ap (λ b. cond (b && is_alive s m.request) (channel_key m.server (answered (answer_of m)) ∷ []) []) connected
      ∙ ap (λ b. cond b (channel_key m.server (answered (answer_of m)) ∷ []) []) (living s m.request q waits)

  -- then it stands in its list after the others, if the list was not full
  put_last : (s : State Q QH P PH K) → IsReached s → (n : ℕ) (m : ResponseMessage P PH) → handle_at s n ≡ Some (ResponseMut m)
      → (q : Question) → get (roles_of s.handles) m.request ≡ Some (SentRequest q) →
      is_full s.limits.max_response_buffer_size (at s.responses (channel_key m.server (answered (answer_of m)))) ≡ false
      → queued (with_put s m) m.server m.request ≡ queued s m.server m.request ++ n ∷ []
  put_last s fits n m is q waits room =
      let f = fits.handles n (LoanedResponse (answer_of m)) (role_at s.handles n (ResponseMut m) is) in
      let same : q ≡ answered (answer_of m) = f.known.same q (ap (option_and_then asking) waits) in
      let key = channel_key m.server (answered (answer_of m)) in
      let here : get (roles_of s.handles) m.request ≡ Some (SentRequest (answered (answer_of m))) = waits
      ∙ ap (λ x. Some (SentRequest x)) same in
      let overflow = s.limits.enable_safe_overflow_for_responses in
      let capacity = s.limits.max_response_buffer_size in
      let entries = put overflow capacity (at s.responses key) m in
      ap (λ keys. entries_for (roles_of s.handles) (fold (λ lists k. with_at lists k (put overflow capacity (at lists k) m)) s.responses
      keys) m.server m.request) (reaches s fits n m is q waits)
      ∙ entries-waiting (roles_of s.handles) (with_at s.responses key entries) m.server m.request (SentRequest (answered (answer_of m)))
      (answered (answer_of m)) here refl
      ∙ ap (map (λ x. x.number)) (at-with_at response_keys_total s.responses key entries key
      ∙ ap (λ b. cond b entries (at s.responses key)) (itself response_keys_total key)
      ∙ ap (λ b. cond (not b) (at s.responses key ++ m ∷ []) (cond overflow (drop 1 (at s.responses key) ++ m ∷ []) (at s.responses key)))
      room)
      ∙ map-append (λ x. x.number) (at s.responses key) (m ∷ [])
      ∙ ap (λ xs. xs ++ m.number ∷ []) (sym (entries-waiting (roles_of s.handles) s.responses m.server m.request
      (SentRequest (answered (answer_of m))) (answered (answer_of m)) here refl))
      ∙ ap (λ k. queued s m.server m.request ++ k ∷ []) f.own_number

  -- where a server that waits for room is not refused, the list is not full
  has_room : (action : K → ℕ → ℕ → BackpressureAction) (s : State Q QH P PH K) → IsReached s → (n : ℕ) (m : ResponseMessage P PH)
      → handle_at s n ≡ Some (ResponseMut m) → (q : Question) → get (roles_of s.handles) m.request ≡ Some (SentRequest q) →
      (server : Server K) → IsWaiting server → s.limits.enable_safe_overflow_for_responses ≡ false
      → is_response_refused action s server m ≡ false →
      is_full s.limits.max_response_buffer_size (at s.responses (channel_key m.server (answered (answer_of m)))) ≡ false
  has_room action s fits n m is q waits server waiting no_overflow sent =
      let key = channel_key m.server (answered (answer_of m)) in
      let e : ((not s.limits.enable_safe_overflow_for_responses && is_full s.limits.max_response_buffer_size (at s.responses key))
      && not (discards action server.port key.client) || false) ≡ false =
      sym (ap (λ keys. list_any (λ k. is_response_list_blocked s k && not (discards action server.port k.client)) keys)
      (reaches s fits n m is q waits)) ∙ sent in
      by s.limits.enable_safe_overflow_for_responses (is_full s.limits.max_response_buffer_size (at s.responses key))
      (discards action server.port key.client) no_overflow
      (waits_on action server.port key.client waiting.0 waiting.1) e
    where
      by : (overflow full passes : Bool) → overflow ≡ false → passes ≡ false → ((not overflow && full) && not passes || false) ≡ false
          → full ≡ false
      by true full passes a b e = absurd (false_is_true (sym a))
      by false full true a b e = absurd (false_is_true (sym b))
      by false true false a b e = absurd (false_is_true (sym e))
      by false false false a b e = refl

  -- a response comes to its list
  put_settles : {Begins : ℕ → ℕ → Type 0} {Ends : ℕ → Type 0} (action : K → ℕ → ℕ → BackpressureAction) (s : State Q QH P PH K)
      → IsReached s → IsApart s → (n : ℕ) (m : ResponseMessage P PH) → handle_at s n ≡ Some (ResponseMut m) →
      (server : Server K) → server_at s m.server ≡ Some server → is_response_refused action s server m ≡ false
      → Settles Begins Ends (Appends s m.server m.request n) s (with_put s m)
  put_settles {Begins} {Ends} action s fits apart n m is server there sent =
      settles_by s (with_put s m) (omega arith) (same_servers s (with_put s m) refl) (same_held Ends s (with_put s m) refl)
      (λ k role q asks e. e)
      (λ other q was serves. ⊎_elim
      (λ a. ⊎_elim
      (λ b. inl (
        a,
        b,
        λ room.
            subst (λ o. queued (with_put s m) o q ≡ queued s o q ++ n ∷ []) (sym a)
            (subst (λ r. queued (with_put s m) m.server r ≡ queued s m.server r ++ n ∷ []) (sym b)
            (last (subst (λ r. (x : Question) × (get (roles_of s.handles) r ≡ Some (SentRequest x))) b was.0) room)),
      ))
      (λ not. inr ((λ pair. not pair.1), same other q (λ pair. not pair.1)))
      (cases_eq q m.request))
      (λ not. inr ((λ pair. not pair.0), same other q (λ pair. not pair.0)))
      (cases_eq other m.server))
      (λ k key some. (key, some))
    where
      same : (other q : ℕ) → ((other ≡ m.server) × (q ≡ m.request) → ⊥) → queued (with_put s m) other q ≡ queued s other q
      same other q not = ⊎_elim (λ e. e) (λ pair. absurd (not (pair.0, pair.1))) (put_entries s fits apart n m is other q)

      last : (x : Question) × (get (roles_of s.handles) m.request ≡ Some (SentRequest x)) → WaitsForRoom s m.server
          → queued (with_put s m) m.server m.request ≡ queued s m.server m.request ++ n ∷ []
      last waits room = put_last s fits n m is waits.0 waits.1
          (has_room action s fits n m is waits.0 waits.1 server (room.1 server there) room.0 sent)

  -- the list may have been full, if the server does not wait for room
  put_may_append : (action : K → ℕ → ℕ → BackpressureAction) (s : State Q QH P PH K) → IsReached s → IsApart s
      → (n : ℕ) (m : ResponseMessage P PH) → handle_at s n ≡ Some (ResponseMut m) →
      (server : Server K) → server_at s m.server ≡ Some server → is_response_refused action s server m ≡ false
      → Moves (λ k role. ⊥) (MayAppend s m.server m.request n) s (with_put s m)
  put_may_append action s fits apart n m is server there sent = record {
    next = omega arith;
    roles = λ k role servers e. inl e;
    entries = λ other q. inr (⊎_elim
        (λ e. inl e)
        (λ pair. by other q pair.0 pair.1 (is_alive s m.request) refl)
        (put_entries s fits apart n m is other q));
  }
    where
      by : (other q : ℕ) → other ≡ m.server → q ≡ m.request → (b : Bool) → is_alive s m.request ≡ b
          → MayAppend s m.server m.request n other q (queued s other q) (queued (with_put s m) other q)
      by other q a b true alive =
          let answers = (response_fits s fits n m is alive).answers in
          inr (
            a,
            b,
            ((answered (answer_of m), answers), (server, there)),
            λ room.
                subst (λ o. queued (with_put s m) o q ≡ queued s o q ++ n ∷ []) (sym a)
                (subst (λ r. queued (with_put s m) m.server r ≡ queued s m.server r ++ n ∷ []) (sym b)
                (put_last s fits n m is (answered (answer_of m)) answers
                (has_room action s fits n m is (answered (answer_of m)) answers server (room.1 server there) room.0 sent))),
          )
      by other q a b false alive = inl (dead (is_some (client_at s m.client)) refl)
        where
          nowhere : (c : Bool) → cond (c && false) (channel_key m.server (answered (answer_of m)) ∷ []) [] ≡ []
          nowhere true = refl
          nowhere false = refl

          dead : (connected : Bool) → is_some (client_at s m.client) ≡ connected → queued (with_put s m) other q ≡ queued s other q
          dead c e = ap (λ keys. entries_for (roles_of s.handles)
              (fold (λ lists k. with_at lists k (put s.limits.enable_safe_overflow_for_responses s.limits.max_response_buffer_size
              (at lists k) m)) s.responses keys) other q)
              (ap (λ x. cond (is_some (client_at s m.client) && x) (channel_key m.server (answered (answer_of m)) ∷ []) []) alive
              ∙ nowhere (is_some (client_at s m.client)))

  -- a send of a response
  pub sent_response_settles : {U : Type 0} {Begins : ℕ → ℕ → Type 0} {Ends : ℕ → Type 0} (action : K → ℕ → ℕ → BackpressureAction)
      (s : State Q QH P PH K) → IsReached s → IsApart s → IsLeftFit s → (n : ℕ) (u : U) (new : State Q QH P PH K) →
      SendsResponse action s n (Ok u) new → (m : ResponseMessage P PH) → handle_at s n ≡ Some (ResponseMut m)
      → Settles Begins Ends (Appends s m.server m.request n) s new × Moves (λ k role. ⊥) (MayAppend s m.server m.request n) s new
  sent_response_settles {U} {Begins} {Ends} action s fits apart left n u new sends m is =
      let o = open_response_mut s n _ sends in
      let same : o.1 ≡ m = (let f : Some (ResponseMut o.1) ≡ Some (ResponseMut m) = sym o.2 ∙ is in cc) in
      subst (λ (x : ResponseMessage P PH). Settles Begins Ends (Appends s x.server x.request n) s new
      × Moves (λ k role. ⊥) (MayAppend s x.server x.request n) s new) same
      (subst (λ (y : State Q QH P PH K). Settles Begins Ends (Appends s o.1.server o.1.request n) s y
      × Moves (λ k role. ⊥) (MayAppend s o.1.server o.1.request n) s y) (sym o.4.1)
      (let mid = with_put s o.1 in let mid_fits = response_put_reached s fits n o.1 o.2 in (
        then_settles s mid (after_release mid n) (put_settles action s fits apart n o.1 o.2 o.0 o.3 o.4.0)
            (after_release_settles mid n mid_fits apart.channels left
            (λ none. absurd (let f : None ≡ Some (ResponseMut o.1) = sym none ∙ o.2 in cc))),
        then_quietly s mid (after_release mid n) (put_may_append action s fits apart n o.1 o.2 o.0 o.3 o.4.0)
            (after_release_quietly mid n mid_fits),
      )))

  -- a send of a response that is refused
  pub unsent_response_settles : (U : Type 0) {Begins : ℕ → ℕ → Type 0} {Ends : ℕ → Type 0} (action : K → ℕ → ℕ → BackpressureAction)
      (s : State Q QH P PH K) → IsReached s → IsApart s → IsLeftFit s → (n : ℕ) (error : SendError) (new : State Q QH P PH K) →
      SendsResponse {U = U} action s n (Err error) new → Settles Begins Ends (λ server p before after. after ≡ before) s new
  unsent_response_settles U {Begins} {Ends} action s fits apart left n error new sends =
      let o = open_response_mut s n _ sends in
      subst (λ (x : State Q QH P PH K). Settles Begins Ends (λ server p before after. after ≡ before) s x) (sym o.4.2)
      (after_release_settles s n fits apart.channels left (λ none. absurd (let f : None ≡ Some (ResponseMut o.1) = sym none ∙ o.2 in cc)))
