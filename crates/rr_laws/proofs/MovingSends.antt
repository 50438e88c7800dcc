-- What moves by loans, and by sends.
use Rattle.std.proofs.Common.{◌≡◌, ℕ, ◌<◌, Bool, true, false, cond, not, ◌&&◌, List, [], ◌∷◌, ◌++◌, map, drop, Option, Some, None, Result, Ok, Err, refl, sym, ap, ◌∙◌, subst, ⊎_elim, inl, inr, arith}
use Rattle.std.specs.Prelude.{◌⊎◌, ◌≢◌, fold, is_some, nat_le, option_and_then}
use Rattle.std.specs.declared.cmp.Ordering.{Ordering}
use Rattle.std.specs.declared.cmp.Ordering.TheVariants.{Less, Equal, Greater}
use Rattle.std.specs.Ordering.{is_eq}
use Rattle.std.specs.List.{AllByRecursion}
use Rattle.std.specs.FinMap.{get, insert}
use Rattle.std.proofs.lemmas.List.{map-append, drop-map, length-map}
use Rattle.rr_table.proofs.MapLaws.{get-insert_same, get-remove_same}
use Rattle.rr_protocol.specs.declared.settings.BackpressureAction.{BackpressureAction}
use Rattle.rr_protocol.specs.declared.error.RequestSendError.{RequestSendError}
use Rattle.rr_protocol.specs.declared.error.SendError.{SendError}
use Rattle.rr_protocol.specs.Lists.{Lists, at, with_at}
use Rattle.rr_protocol.specs.Keys.{ResponseKey, response_key_cmp}
use Rattle.rr_protocol.specs.Messages.{ResponseMessage, RequestMut, ResponseMut}
use Rattle.rr_protocol.specs.Ports.{Client}
use Rattle.rr_protocol.specs.State.{State, client_at, handle_at}
use Rattle.rr_protocol.specs.Counts.{is_alive}
use Rattle.rr_protocol.specs.Loans.{LoansRequest}
use Rattle.rr_protocol.specs.Sends.{is_full, put, with_response_put, SendsRequest, SendsResponse}
use Rattle.rr_protocol.specs.Releases.{after_release}
use Rattle.rr_protocol.proofs.KeyLaws.{response_keys_total, response_keys_exact}
use Rattle.rr_protocol.proofs.ListsLaws.{at-with_at}
use Rattle.rr_laws.specs.Roles.{Question, Role, LoanedRequest, SentRequest, ReceivedRequest, LoanedResponse, ReceivedResponse, Roles, roles_of, question_of, answer_of, answered, asking}
use Rattle.rr_laws.specs.Reached.{ResponseFits, IsReached}
use Rattle.rr_laws.specs.Apart.{ChannelsApart, IsApart}
use Rattle.rr_laws.specs.Following.{waiting_question, is_servers, channel_key, entries_for, queued, Moves, MovesQuietly}
use Rattle.rr_laws.proofs.RoleLaws.{role_at, roles-insert, roles-remove}
use Rattle.rr_laws.proofs.Opening.{some_and, open_request_mut, open_response_mut}
use Rattle.rr_laws.proofs.Connected.{has_below}
use Rattle.rr_laws.proofs.Sending.{response_fits, response_put_reached}
use Rattle.rr_laws.proofs.Occurring.{false_is_true}
use Rattle.rr_laws.proofs.Following.{Enters}
use Rattle.rr_laws.proofs.Moving.{entries-waiting, entries-none, none_for, then_quietly, moves_with_role}
use Rattle.rr_laws.proofs.MovingReleases.{released_quietly, after_release_quietly}

-- a role that waits for answers is that of a sent request
pub waiting_is : (role : Role) (q : Question) → waiting_question role ≡ Some q → role ≡ SentRequest q
waiting_is (LoanedRequest p) q e = absurd (cc)
waiting_is (SentRequest p) q e = (cc)
waiting_is (ReceivedRequest server p) q e = absurd (cc)
waiting_is (LoanedResponse a) q e = absurd (cc)
waiting_is (ReceivedResponse a) q e = absurd (cc)

-- a message comes to a list in the same way as its number to the list of the numbers
pub map-put : {X : Type 0} (f : X → ℕ) (overflow : Bool) (capacity : ℕ) (xs : List X) (x : X)
    → map f (put overflow capacity xs x) ≡ put overflow capacity (map f xs) (f x)
map-put f overflow capacity xs x =
    go (is_full capacity xs) overflow
    ∙ ap (λ l. cond (not (nat_le capacity l)) (map f xs ++ f x ∷ []) (cond overflow (drop 1 (map f xs) ++ f x ∷ []) (map f xs)))
    (sym (length-map xs f))
  where
    go : (full over : Bool) → map f (cond (not full) (xs ++ x ∷ []) (cond over (drop 1 xs ++ x ∷ []) xs)) ≡ cond (not full)
        (map f xs ++ f x ∷ []) (cond over (drop 1 (map f xs) ++ f x ∷ []) (map f xs))
    go false over = map-append f xs (x ∷ [])
    go true true = map-append f (drop 1 xs) (x ∷ []) ∙ ap (λ ys. ys ++ f x ∷ []) (sym (drop-map f 1 xs))
    go true false = refl

module _ {T H : Type 0} (roles : Roles) (apart : ChannelsApart roles) (lists : Lists response_key_cmp (ResponseMessage T H))
    (overflow : Bool) (capacity : ℕ) (m : ResponseMessage T H) where
  -- the lists after the response came to that from its server to its channel
  abbrev lists_after : Lists response_key_cmp (ResponseMessage T H)
  lists_after = with_at lists (channel_key m.server (answered (answer_of m)))
      (put overflow capacity (at lists (channel_key m.server (answered (answer_of m)))) m)

  -- of all entries for requests that wait only those from its server to its request changed, by the response
  pub put_for : get roles m.request ≡ Some (SentRequest (answered (answer_of m))) → (server p : ℕ) →
      (entries_for roles lists_after server p ≡ entries_for roles lists server p)
      ⊎ ((server ≡ m.server) × (p ≡ m.request) × (entries_for roles lists_after server p ≡ put overflow capacity
      (entries_for roles lists server p) m.number))
  put_for answers server p = go (get roles p) refl
    where
      waits : (q : Question) (role : Role) → get roles p ≡ Some role → waiting_question role ≡ Some q → (r : Ordering)
          → response_key_cmp (channel_key server q) (channel_key m.server (answered (answer_of m))) ≡ r →
          (entries_for roles lists_after server p ≡ entries_for roles lists server p)
          ⊎ ((server ≡ m.server) × (p ≡ m.request) × (entries_for roles lists_after server p ≡ put overflow capacity
          (entries_for roles lists server p) m.number))
      waits q role is some r cmp = by r cmp
        where
          changed : at lists_after (channel_key server q)
              ≡ cond (is_eq (response_key_cmp (channel_key server q) (channel_key m.server (answered (answer_of m)))))
              (put overflow capacity (at lists (channel_key m.server (answered (answer_of m)))) m) (at lists (channel_key server q))
          changed = at-with_at response_keys_total lists (channel_key m.server (answered (answer_of m)))
              (put overflow capacity (at lists (channel_key m.server (answered (answer_of m)))) m) (channel_key server q)

          same : at lists_after (channel_key server q) ≡ at lists (channel_key server q)
              → entries_for roles lists_after server p ≡ entries_for roles lists server p
          same e = entries-waiting roles lists_after server p role q is some ∙ ap (map (λ x. x.number)) e
              ∙ sym (entries-waiting roles lists server p role q is some)

          by : (r : Ordering) → response_key_cmp (channel_key server q) (channel_key m.server (answered (answer_of m))) ≡ r →
              (entries_for roles lists_after server p ≡ entries_for roles lists server p)
              ⊎ ((server ≡ m.server) × (p ≡ m.request) × (entries_for roles lists_after server p ≡ put overflow capacity
              (entries_for roles lists server p) m.number))
          by Less e = inl (same (changed ∙ ap (λ r. cond (is_eq r)
              (put overflow capacity (at lists (channel_key m.server (answered (answer_of m)))) m) (at lists (channel_key server q))) e))
          by Greater e = inl (same (changed ∙ ap (λ r. cond (is_eq r)
              (put overflow capacity (at lists (channel_key m.server (answered (answer_of m)))) m) (at lists (channel_key server q))) e))
          by Equal e =
              let key_is : channel_key server q ≡ channel_key m.server (answered (answer_of m)) = response_keys_exact (channel_key server q)
              (channel_key m.server (answered (answer_of m))) e in
              inr (
                ap (λ (k : ResponseKey). k.server) key_is,
                apart p m.request q (answered (answer_of m)) (ap (option_and_then asking) (is ∙ ap Some (waiting_is role q some)))
                    (ap (option_and_then asking) answers)
                    (ap (λ (k : ResponseKey). k.client) key_is) (ap (λ (k : ResponseKey). k.channel) key_is),
                entries-waiting roles lists_after server p role q is some
                    ∙ ap (map (λ x. x.number)) (changed ∙ ap
                    (λ r. cond (is_eq r) (put overflow capacity (at lists (channel_key m.server (answered (answer_of m)))) m)
                    (at lists (channel_key server q))) e)
                    ∙ map-put (λ x. x.number) overflow capacity (at lists (channel_key m.server (answered (answer_of m)))) m
                    ∙ ap (λ xs. put overflow capacity xs m.number)
                    (ap (λ k. map (λ x. x.number) (at lists k)) (sym key_is)
                    ∙ sym (entries-waiting roles lists server p role q is some)),
              )

      go : (o : Option Role) → get roles p ≡ o →
          (entries_for roles lists_after server p ≡ entries_for roles lists server p)
          ⊎ ((server ≡ m.server) × (p ≡ m.request) × (entries_for roles lists_after server p ≡ put overflow capacity
          (entries_for roles lists server p) m.number))
      go None is = inl (entries-none roles lists_after server p (ap (option_and_then waiting_question) is)
          ∙ sym (entries-none roles lists server p (ap (option_and_then waiting_question) is)))
      go (Some role) is = asked (waiting_question role) refl
        where
          asked : (o : Option Question) → waiting_question role ≡ o →
              (entries_for roles lists_after server p ≡ entries_for roles lists server p)
              ⊎ ((server ≡ m.server) × (p ≡ m.request) × (entries_for roles lists_after server p ≡ put overflow capacity
              (entries_for roles lists server p) m.number))
          asked None none = inl (entries-none roles lists_after server p (ap (option_and_then waiting_question) is ∙ none)
              ∙ sym (entries-none roles lists server p (ap (option_and_then waiting_question) is ∙ none)))
          asked (Some q) some = waits q role is some (response_key_cmp (channel_key server q)
              (channel_key m.server (answered (answer_of m)))) refl

module _ {Q QH P PH K : Type 0} where
  -- a loan of a request
  pub loaned_request_moves : {Gains : ℕ → Role → Type 0} (IsDefault : QH → Type 0) (s : State Q QH P PH K) → IsReached s
      → (n len number : ℕ) (new : State Q QH P PH K) → LoansRequest IsDefault s n len (Ok number) new →
      Moves Gains (λ server p before after. after ≡ before) s new × (number ≡ s.next) × (s.next < new.next) × (n < s.next)
  loaned_request_moves {Gains} IsDefault s fits n len number new loans =
      let o = some_and (client_at s n) _ loans in (
        subst (λ (x : State Q QH P PH K). Moves Gains (λ server p before after. after ≡ before) s x) (sym o.2.2.4)
            (moves_with_role s _ s.next (LoanedRequest _) (omega arith) (roles-insert s.handles s.next _) refl
            (λ e. absurd (false_is_true e)) (none_for (roles_of s.handles) s.responses s.next (LoanedRequest _) refl)),
        o.2.1,
        subst (λ (x : State Q QH P PH K). s.next < x.next) (sym o.2.2.4) (omega arith),
        has_below (λ (c : Client K). c.id) s.clients n s.next fits.ports.client_numbers (ap is_some o.1),
      )

  -- the lists towards a request that was not sent are empty
  unsent_empty : (s : State Q QH P PH K) → IsReached s → IsApart s → (n : ℕ) (q : Question)
      → get (roles_of s.handles) n ≡ Some (LoanedRequest q) → (server : ℕ) → at s.responses (channel_key server q) ≡ []
  unsent_empty s fits apart n q here server = go (at s.responses (channel_key server q)) (fits.response_lists.each (channel_key server q))
    where
      go : (entries : List (ResponseMessage P PH)) → AllByRecursion
          (ResponseFits s.clients s.servers (roles_of s.handles) s.next (channel_key server q)) entries → entries ≡ []
      go [] all = refl
      go (m ∷ entries) all =
          let f = all.0 in
          let same : m.request ≡ n = apart.channels m.request n (answered (answer_of m)) q (ap (option_and_then asking) f.answers)
          (ap (option_and_then asking) here) f.client f.channel in
          absurd (let g : Some (SentRequest (answered (answer_of m))) ≡ Some (LoanedRequest q) = sym f.answers
          ∙ ap (get (roles_of s.handles)) same ∙ here in cc)

  -- a send of a request
  pub sent_request_quietly : (action : K → ℕ → ℕ → BackpressureAction) (s : State Q QH P PH K) → IsReached s → IsApart s
      → (n : ℕ) (result : Result ℕ RequestSendError) (new : State Q QH P PH K) →
      SendsRequest action s n result new → MovesQuietly s new
  sent_request_quietly action s fits apart n (Ok connections) new sends =
      let o = open_request_mut s n _ sends in
      let q = question_of o.1 in
      let here : get (roles_of s.handles) n ≡ Some (LoanedRequest q) = role_at s.handles n (RequestMut o.1) o.2 in
      subst (λ (x : State Q QH P PH K). MovesQuietly s x) (sym o.4.2)
      (moves_with_role s _ n (SentRequest q) (omega arith) (roles-insert s.handles n _) refl (λ e. absurd (false_is_true e))
      (λ server. entries-waiting (insert (roles_of s.handles) n (SentRequest q)) s.responses server n (SentRequest q) q
      (get-insert_same (roles_of s.handles) n (SentRequest q) n refl) refl
      ∙ ap (map (λ m. m.number)) (unsent_empty s fits apart n q here server)))
  sent_request_quietly action s fits apart n (Err error) new sends = subst (λ (x : State Q QH P PH K). MovesQuietly s x)
      (sym (open_request_mut s n _ sends).4.1) (after_release_quietly s n fits)

  -- after a response came to the list that it reaches, if there is one
  abbrev pub with_put : State Q QH P PH K → ResponseMessage P PH → State Q QH P PH K
  with_put s m = record s { responses = with_response_put s m }

  -- only the list from its server to its request may have it more
  pub put_entries : (s : State Q QH P PH K) → IsReached s → IsApart s → (n : ℕ) (m : ResponseMessage P PH)
      → handle_at s n ≡ Some (ResponseMut m) → (server p : ℕ) →
      (queued (with_put s m) server p ≡ queued s server p)
      ⊎ ((server ≡ m.server) × (p ≡ m.request) × (queued (with_put s m) server p
      ≡ put s.limits.enable_safe_overflow_for_responses s.limits.max_response_buffer_size (queued s server p) m.number))
  put_entries s fits apart n m is server p = go (is_some (client_at s m.client)) (is_alive s m.request) refl
    where
      go : (connected alive : Bool) → is_alive s m.request ≡ alive →
          let lists = fold (λ lists k. with_at lists k (put s.limits.enable_safe_overflow_for_responses s.limits.max_response_buffer_size
          (at lists k) m)) s.responses
          (cond (connected && alive) (record { server = m.server; client = m.client; channel = m.channel } ∷ []) []) in
          (entries_for (roles_of s.handles) lists server p ≡ queued s server p)
          ⊎ ((server ≡ m.server) × (p ≡ m.request) × (entries_for (roles_of s.handles) lists server p
          ≡ put s.limits.enable_safe_overflow_for_responses s.limits.max_response_buffer_size (queued s server p) m.number))
      go true true e = put_for (roles_of s.handles) apart.channels s.responses s.limits.enable_safe_overflow_for_responses
          s.limits.max_response_buffer_size m (response_fits s fits n m is e).answers server p
      go true false e = inl refl
      go false alive e = inl refl

  -- a response on loan stands under its own number
  own_number : (s : State Q QH P PH K) → IsReached s → (n : ℕ) (m : ResponseMessage P PH) → handle_at s n ≡ Some (ResponseMut m)
      → m.number ≡ n
  own_number s fits n m is = (fits.handles n (LoanedResponse (answer_of m)) (role_at s.handles n (ResponseMut m) is)).own_number

  -- a response that comes to the list that it reaches
  put_moves : (s : State Q QH P PH K) → IsReached s → IsApart s → (n : ℕ) (m : ResponseMessage P PH) → handle_at s n ≡ Some (ResponseMut m)
      → Moves (λ k role. ⊥) (Enters m.server m.request n) s (with_put s m)
  put_moves s fits apart n m is = record {
    next = omega arith;
    roles = λ k role servers e. inl e;
    entries = λ server p. inr (⊎_elim
        (λ same. inl same)
        (λ came. ⊎_elim
        (λ same. inl (came.2 ∙ same))
        (λ entered. inr (
          came.0,
          came.1,
          ⊎_elim (λ e. inl (came.2 ∙ e ∙ ap (λ k. queued s server p ++ k ∷ []) (own_number s fits n m is)))
              (λ e. inr (came.2 ∙ e ∙ ap (λ k. drop 1 (queued s server p) ++ k ∷ []) (own_number s fits n m is))) entered,
        ))
        (ways s.limits.enable_safe_overflow_for_responses s.limits.max_response_buffer_size (queued s server p) m.number))
        (put_entries s fits apart n m is server p));
  }
    where
      ways : (overflow : Bool) (capacity : ℕ) (xs : List ℕ) (k : ℕ) → (put overflow capacity xs k ≡ xs)
          ⊎ ((put overflow capacity xs k ≡ xs ++ k ∷ []) ⊎ (put overflow capacity xs k ≡ drop 1 xs ++ k ∷ []))
      ways overflow capacity xs k = go (is_full capacity xs) overflow
        where
          go : (full over : Bool) → let ys = cond (not full) (xs ++ k ∷ []) (cond over (drop 1 xs ++ k ∷ []) xs) in (ys ≡ xs)
              ⊎ ((ys ≡ xs ++ k ∷ []) ⊎ (ys ≡ drop 1 xs ++ k ∷ []))
          go false over = inr (inl refl)
          go true true = inr (inr refl)
          go true false = inl refl

  -- a handle that is released stands for nothing of a server
  released_gone : (s : State Q QH P PH K) → IsReached s → (n : ℕ) (m : ResponseMessage P PH) → handle_at s n ≡ Some (ResponseMut m)
      → (role : Role) → is_servers role ≡ true → get (roles_of (after_release s n).handles) n ≢ Some role
  released_gone s fits n m is role servers e = ⊎_elim
      (λ was. absurd (let f : None ≡ Some role = sym (get-remove_same (roles_of s.handles) n n refl)
      ∙ sym (ap (λ r. get r n) (roles-remove s.handles n)) ∙ was in cc))
      (λ gained. absurd gained)
      ((released_quietly s n (ResponseMut m) fits is).roles n role servers e)

  -- a send of a response: it enters its list, and its handle is gone
  pub sent_response_moves : {U : Type 0} (action : K → ℕ → ℕ → BackpressureAction) (s : State Q QH P PH K) → IsReached s → IsApart s
      → (n : ℕ) (u : U) (new : State Q QH P PH K) → SendsResponse action s n (Ok u) new →
      (m : ResponseMessage P PH) × (handle_at s n ≡ Some (ResponseMut m)) × Moves (λ k role. ⊥) (Enters m.server m.request n) s new
      × ((role : Role) → is_servers role ≡ true → get (roles_of new.handles) n ≢ Some role)
  sent_response_moves action s fits apart n u new sends =
      let o = open_response_mut s n _ sends in
      let mid = with_put s o.1 in
      let mid_fits = response_put_reached s fits n o.1 o.2 in (
        o.1,
        o.2,
        subst (λ (x : State Q QH P PH K). Moves (λ k role. ⊥) (Enters o.1.server o.1.request n) s x) (sym o.4.1)
            (then_quietly s mid (after_release mid n) (put_moves s fits apart n o.1 o.2) (after_release_quietly mid n mid_fits)),
        subst (λ (x : State Q QH P PH K). (role : Role) → is_servers role ≡ true → get (roles_of x.handles) n ≢ Some role) (sym o.4.1)
            (released_gone mid mid_fits n o.1 o.2),
      )

  -- a send of a response that is refused
  pub unsent_response_moves : (U : Type 0) (action : K → ℕ → ℕ → BackpressureAction) (s : State Q QH P PH K) → IsReached s
      → (n : ℕ) (error : SendError) (new : State Q QH P PH K) → SendsResponse {U = U} action s n (Err error) new →
      MovesQuietly s new × ((role : Role) → is_servers role ≡ true → get (roles_of new.handles) n ≢ Some role)
  unsent_response_moves U action s fits n error new sends =
      let o = open_response_mut s n _ sends in (
        subst (λ (x : State Q QH P PH K). MovesQuietly s x) (sym o.4.2) (after_release_quietly s n fits),
        subst (λ (x : State Q QH P PH K). (role : Role) → is_servers role ≡ true → get (roles_of x.handles) n ≢ Some role) (sym o.4.2)
            (released_gone s fits n o.1 o.2),
      )
