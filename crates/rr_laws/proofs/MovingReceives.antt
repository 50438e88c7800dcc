-- What moves by a loan of a response, and by receives.
use Rattle.std.proofs.Common.{◌≡◌, ℕ, ◌<◌, Bool, true, false, cond, eqb, List, [], ◌∷◌, map, Option, Some, None, Ok, Err, refl, sym, ap, ◌∙◌, subst, ⊎_elim, inl, inr, arith, suc, zero}
use Rattle.std.specs.Prelude.{◌⊎◌, ◌≢◌, count_by, option_and_then, IsSomeAnd}
use Rattle.std.specs.declared.cmp.Ordering.{Ordering}
use Rattle.std.specs.declared.cmp.Ordering.TheVariants.{Less, Equal, Greater}
use Rattle.std.specs.Ordering.{is_eq}
use Rattle.std.specs.List.{AllByRecursion}
use Rattle.std.specs.Option.{option_map_or}
use Rattle.std.specs.FinMap.{get, insert}
use Rattle.std.proofs.lemmas.Bool.{cases_eq, eq-eqb, ne_eqb}
use Rattle.rr_table.specs.Maps.{mark}
use Rattle.rr_table.proofs.MapLaws.{get-insert_same, get-insert_other, get-insert_cases}
use Rattle.rr_table.proofs.Counting.{count-cons}
use Rattle.rr_table.proofs.MapFacts.{itself}
use Rattle.rr_protocol.specs.declared.error.ReceiveError.{ReceiveError}
use Rattle.rr_protocol.specs.Lists.{at, with_at}
use Rattle.rr_protocol.specs.Keys.{ResponseKey, response_key_cmp}
use Rattle.rr_protocol.specs.Messages.{RequestMessage, ResponseMessage, Pending, Active, PendingResponse, ActiveRequest, Response, response_key, as_active}
use Rattle.rr_protocol.specs.State.{State, handle_at, pending_at, active_at}
use Rattle.rr_protocol.specs.Loans.{LoansResponse}
use Rattle.rr_protocol.specs.Receives.{Skims, with_active_request, ReceivesRequest, ReceivesResponse}
use Rattle.rr_protocol.proofs.KeyLaws.{response_keys_total, response_keys_exact}
use Rattle.rr_protocol.proofs.ListsLaws.{at-with_at}
use Rattle.rr_protocol.specs.AnswerRule.{Event}
use Rattle.rr_laws.specs.Roles.{Question, Role, SentRequest, ReceivedRequest, LoanedResponse, ReceivedResponse, Answer, roles_of, question_of, answer_of, asking}
use Rattle.rr_laws.specs.Reached.{ResponseFits, IsReached}
use Rattle.rr_laws.specs.Apart.{standing, IsApart}
use Rattle.rr_laws.specs.Following.{waiting_question, is_servers, channel_key, entries_for, queued, Moves, MovesQuietly, WasReceived}
use Rattle.rr_laws.specs.Settling.{Settles}
use Rattle.rr_laws.proofs.RoleLaws.{role_at, roles-insert}
use Rattle.rr_laws.proofs.Opening.{some_and, open_active, from_pending}
use Rattle.rr_laws.proofs.Occurring.{false_is_true}
use Rattle.rr_laws.proofs.Following.{GainsRequest, GainsLoan}
use Rattle.rr_laws.proofs.Moving.{entries-waiting, entries-none, entries-same_role, none_for, moves_same, moves_with_role}
use Rattle.rr_laws.proofs.MovingSends.{waiting_is}
use Rattle.rr_laws.proofs.Settling.{settles_by, same_servers, same_held, same_requests}

module _ {T H Q QH P PH K : Type 0} where
  -- a loan of a response from an active request that was received
  pub loaned_response_moves : (IsDefault : PH → Type 0) (s : State Q QH P PH K) → IsReached s → (history : List (Event T H K)) →
      ((k server : ℕ) (q : Question) → get (roles_of s.handles) k ≡ Some (ReceivedRequest server q) → WasReceived history server k q.number)
      → (n len number : ℕ) (new : State Q QH P PH K) →
      LoansResponse IsDefault s n len (Ok number) new →
      Moves (GainsLoan history n number) (λ server p before after. after ≡ before) s new × (number ≡ s.next) × (s.next < new.next)
      × (n < s.next)
  loaned_response_moves IsDefault s fits history held n len number new loans =
      let o = open_active s n _ loans in
      let here : get (roles_of s.handles) n ≡ Some (ReceivedRequest o.1.server (question_of o.1.message)) = role_at s.handles n
      (ActiveRequest o.1) o.2 in (
        subst (λ (x : State Q QH P PH K). Moves (GainsLoan history n number) (λ server p before after. after ≡ before) s x) (sym o.4.2.2)
            (moves_with_role s _ s.next (LoanedResponse _) (omega arith) (roles-insert s.handles s.next _) refl
            (λ e. (sym o.4.1, (_, refl, refl, held n o.1.server (question_of o.1.message) here)))
            (none_for (roles_of s.handles) s.responses s.next (LoanedResponse _) refl)),
        o.4.1,
        subst (λ (x : State Q QH P PH K). s.next < x.next) (sym o.4.2.2) (omega arith),
        (fits.handles n _ here).below,
      )

module _ {Q QH P PH K : Type 0} where
  -- it leaves all entries as they are
  pub loaned_response_same : (IsDefault : PH → Type 0) (s : State Q QH P PH K) → IsReached s → (n len number : ℕ) (new : State Q QH P PH K)
      → LoansResponse IsDefault s n len (Ok number) new → (server p : ℕ) → queued new server p ≡ queued s server p
  loaned_response_same IsDefault s fits n len number new loans server p =
      let o = open_active s n _ loans in
      subst (λ (x : State Q QH P PH K). queued x server p ≡ queued s server p) (sym o.4.2.2)
      (ap (λ r. entries_for r s.responses server p) (roles-insert s.handles s.next _) ∙ ⊎_elim
      (λ is. entries-none (insert (roles_of s.handles) s.next (LoanedResponse _)) s.responses server p
      (ap (option_and_then waiting_question) (get-insert_same (roles_of s.handles) s.next (LoanedResponse _) p is))
      ∙ sym (entries-none (roles_of s.handles) s.responses server p
      (ap (option_and_then waiting_question) (ap (get (roles_of s.handles)) is ∙ unnamed (get (roles_of s.handles) s.next) refl))))
      (λ other. entries-same_role (roles_of s.handles) (insert (roles_of s.handles) s.next (LoanedResponse _)) s.responses server p
      (get-insert_other (roles_of s.handles) s.next (LoanedResponse _) p other))
      (cases_eq p s.next))
    where
      unnamed : (o : Option Role) → get (roles_of s.handles) s.next ≡ o → get (roles_of s.handles) s.next ≡ None
      unnamed None e = e
      unnamed (Some role) e = absurd (omega (arith, (fits.handles s.next role e).below))

  -- skimming changes no handle and no response
  pub skims_same : (clients : List ℕ) (s : State Q QH P PH K) (server : ℕ) (new : State Q QH P PH K) → Skims s server clients new
      → (new.handles ≡ s.handles) × (new.responses ≡ s.responses) × (new.next ≡ s.next)
  skims_same [] s server new skims = subst (λ (x : State Q QH P PH K). (x.handles ≡ s.handles) × (x.responses ≡ s.responses)
      × (x.next ≡ s.next)) (sym skims) (refl, refl, refl)
  skims_same (client ∷ clients) s server new skims =
      let rest = skims_same clients skims.1 server new skims.4 in
      let one : ((skims.1).handles ≡ s.handles) × ((skims.1).responses ≡ s.responses) × ((skims.1).next ≡ s.next) =
      subst (λ (x : State Q QH P PH K). (x.handles ≡ s.handles) × (x.responses ≡ s.responses) × (x.next ≡ s.next))
      (sym (skims.3).1.2) (refl, refl, refl) in
      (rest.0 ∙ one.0, rest.1 ∙ one.1, rest.2 ∙ one.2)

  -- a request that is handed to a server
  active_moves : (s mid : State Q QH P PH K) → mid.handles ≡ s.handles → mid.responses ≡ s.responses → mid.next ≡ s.next
      → (server a r : ℕ) (m : RequestMessage Q QH) → a ≡ s.next →
      IsSomeAnd (active_at (with_active_request mid server m) a) (λ active. r ≡ active.message.number) →
      Moves (GainsRequest server a r) (λ other p before after. after ≡ before) s (with_active_request mid server m)
      × (s.next < (with_active_request mid server m).next)
  active_moves s mid handles responses next server a r m is told = (
    moves_with_role s (with_active_request mid server m) s.next (ReceivedRequest server (question_of m)) (omega (arith, next))
        (roles-insert mid.handles mid.next _ ∙ ap (λ h. insert (roles_of h) mid.next (ReceivedRequest server (question_of m))) handles
        ∙ ap (λ k. insert (roles_of s.handles) k (ReceivedRequest server (question_of m))) next)
        responses (λ e. (sym is, (question_of m, refl, sym number_is)))
        (none_for (roles_of s.handles) s.responses s.next (ReceivedRequest server (question_of m)) refl),
    omega (arith, next),
  )
    where
      active : Active Q QH
      active = record { message = m; server = server }

      number_is : r ≡ m.number
      number_is =
          let o = some_and (active_at (with_active_request mid server m) a) _ told in
          let there : Some o.0 ≡ Some (record { message = m; server = server }) = sym o.1
          ∙ ap (option_and_then as_active) (get-insert_same mid.handles mid.next
          (ActiveRequest (record { message = m; server = server })) a (is ∙ sym next)) in
          o.2 ∙ ap (λ (x : Active Q QH). x.message.number) (let f : o.0 ≡ record { message = m; server = server } = cc in f)

  -- a receive of a request
  pub received_request_moves : (s : State Q QH P PH K) (n a r : ℕ) (new : State Q QH P PH K) → ReceivesRequest s n (Ok (Some a)) new
      → IsSomeAnd (active_at new a) (λ active. r ≡ active.message.number) →
      Moves (GainsRequest n a r) (λ other p before after. after ≡ before) s new × (a ≡ s.next) × (s.next < new.next)
  received_request_moves s n a r new receives told =
      let o = receives.1 in
      let skimmed = skims_same o.0 s n o.1 o.2 in
      let u = o.3 in
      let got = u.1 in
      let taken : ((got.2).handles ≡ (o.1).handles) × ((got.2).responses ≡ (o.1).responses) × ((got.2).next ≡ (o.1).next) =
      subst (λ (x : State Q QH P PH K). (x.handles ≡ (o.1).handles) × (x.responses ≡ (o.1).responses)
      × (x.next ≡ (o.1).next)) (sym (got.3).1.2) (refl, refl, refl) in
      let is : a ≡ s.next = u.0 ∙ skimmed.2 in
      let moved = active_moves s got.2 (taken.0 ∙ skimmed.0) (taken.1 ∙ skimmed.1) (taken.2 ∙ skimmed.2) n a r got.1 is
      (subst (λ (x : State Q QH P PH K). IsSomeAnd (active_at x a) (λ active. r ≡ active.message.number)) got.5 told) in (
        subst (λ (x : State Q QH P PH K). Moves (GainsRequest n a r) (λ other p before after. after ≡ before) s x) (sym got.5) moved.0,
        is,
        subst (λ (x : State Q QH P PH K). s.next < x.next) (sym got.5) moved.1,
      )

  -- skimming moves nothing
  skimmed_quietly : (s mid : State Q QH P PH K) (clients : List ℕ) (n : ℕ) → Skims s n clients mid → MovesQuietly s mid
  skimmed_quietly s mid clients n skims = let o = skims_same clients s n mid skims in
      moves_same s mid (omega (arith, o.2)) (ap roles_of o.0) o.1

  -- a server that gets nothing
  pub no_request_quietly : (s : State Q QH P PH K) (n : ℕ) (new : State Q QH P PH K) → ReceivesRequest s n (Ok None) new
      → MovesQuietly s new
  no_request_quietly s n new receives = let o = receives.1 in
      subst (λ (x : State Q QH P PH K). MovesQuietly s x) (sym (o.3).1) (skimmed_quietly s o.1 o.0 n o.2)

  -- a server that may not
  pub refused_request_quietly : (s : State Q QH P PH K) (n : ℕ) (error : ReceiveError) (new : State Q QH P PH K)
      → ReceivesRequest s n (Err error) new → MovesQuietly s new
  refused_request_quietly s n ReceiveError.ExceedsMaxBorrows new receives = let o = receives.1 in
      subst (λ (x : State Q QH P PH K). MovesQuietly s x) (sym (o.3).2) (skimmed_quietly s o.1 o.0 n o.2)
  refused_request_quietly s n (ReceiveError.ConnectionFailure failure) new receives = absurd (receives.1.3)

  -- a pending response that gets nothing
  pub no_response_quietly : (s : State Q QH P PH K) (n : ℕ) (new : State Q QH P PH K) → ReceivesResponse s n (Ok None) new
      → MovesQuietly s new
  no_response_quietly s n new receives = subst (λ (x : State Q QH P PH K). MovesQuietly s x)
      (sym (some_and (pending_at s n) _ receives).2.1) (moves_same s s (omega arith) refl refl)

  -- a pending response that may not
  pub refused_response_quietly : (s : State Q QH P PH K) (n : ℕ) (error : ReceiveError) (new : State Q QH P PH K)
      → ReceivesResponse s n (Err error) new → MovesQuietly s new
  refused_response_quietly s n ReceiveError.ExceedsMaxBorrows new receives = subst (λ (x : State Q QH P PH K). MovesQuietly s x)
      (sym (some_and (pending_at s n) _ receives).2.2) (moves_same s s (omega arith) refl refl)
  refused_response_quietly s n (ReceiveError.ConnectionFailure failure) new receives = absurd receives

-- a number that no entry has differs from each
pub none_standing : {T H : Type 0} (k : ℕ) (entries : List (ResponseMessage T H)) → count_by (λ m. eqb m.number k) entries ≡ 0
    → AllByRecursion (λ j. eqb k j ≡ false) (map (λ m. m.number) entries)
none_standing {T} {H} k [] none = tt
none_standing {T} {H} k (m ∷ entries) none = go (none_standing k entries) (eqb m.number k) refl
  where
    go : (count_by (λ m. eqb m.number k) entries ≡ 0 → AllByRecursion (λ j. eqb k j ≡ false) (map (λ m. m.number) entries)) → (b : Bool)
        → eqb m.number k ≡ b →
        (eqb k m.number ≡ false) × AllByRecursion (λ j. eqb k j ≡ false) (map (λ m. m.number) entries)
    go rest true e = absurd (omega (arith, count-cons (λ (m : ResponseMessage T H). eqb m.number k) m entries, ap mark e, none))
    go rest false e = (
      ne_eqb k m.number (λ same. false_is_true (sym e ∙ eq-eqb m.number k (sym same))),
      rest (omega (arith, count-cons (λ (m : ResponseMessage T H). eqb m.number k) m entries, ap mark e, none)),
    )

module _ {Q QH P PH K : Type 0} (s new : State Q QH P PH K) (fits : IsReached s) (apart : IsApart s) (after_apart : IsApart new) (n : ℕ)
    (p : Pending Q QH) (is : pending_at s n ≡ Some p) (server : ℕ) (m : ResponseMessage P PH)
    (rest : List (ResponseMessage P PH)) (first : at s.responses (response_key p server) ≡ m ∷ rest) (next : new.next ≡ s.next)
    (roles_are : roles_of new.handles ≡ insert (roles_of s.handles) m.number (ReceivedResponse (answer_of m)))
    (lists_are : new.responses ≡ with_at s.responses (response_key p server) rest) where
  -- the request waits for answers
  waiting : get (roles_of s.handles) n ≡ Some (SentRequest (question_of p.message))
  waiting = role_at s.handles n (PendingResponse p) (from_pending (handle_at s n) p is)

  -- the first entry fits its list
  first_fits : ResponseFits s.clients s.servers (roles_of s.handles) s.next (response_key p server) m
  first_fits = (subst (AllByRecursion (ResponseFits s.clients s.servers (roles_of s.handles) s.next (response_key p server))) first
      (fits.response_lists.each (response_key p server))).0

  -- the response is now held by the client
  now_at : get (roles_of new.handles) m.number ≡ Some (ReceivedResponse (answer_of m))
  now_at = ap (λ r. get r m.number) roles_are ∙ get-insert_same (roles_of s.handles) m.number (ReceivedResponse (answer_of m)) m.number refl

  -- the request has another number than the response
  other_number : n ≢ m.number
  other_number same = absurd (
      let f : None ≡ Some (question_of p.message) = sym (first_fits.no_request)
      ∙ ap (λ k. option_and_then asking (get (roles_of s.handles) k)) (sym same) ∙ ap (option_and_then asking) waiting in cc)

  -- the lists after the response left its own
  list_at : (key : ResponseKey) → at new.responses key ≡ cond (is_eq (response_key_cmp key (response_key p server))) rest
      (at s.responses key)
  list_at key = ap (λ l. at l key) lists_are ∙ at-with_at response_keys_total s.responses (response_key p server) rest key

  -- every other handle stays
  role_same : (r : ℕ) → r ≢ m.number → get (roles_of new.handles) r ≡ get (roles_of s.handles) r
  role_same r other = ap (λ x. get x r) roles_are ∙ get-insert_other (roles_of s.handles) m.number (ReceivedResponse (answer_of m)) r other

  -- the response was the first entry for the request
  pub taken_first : queued s server n ≡ m.number ∷ queued new server n
  taken_first =
      let q = question_of p.message in
      entries-waiting (roles_of s.handles) s.responses server n (SentRequest q) q waiting refl
      ∙ ap (map (λ x. x.number)) first
      ∙ ap (λ xs. m.number ∷ map (λ x. x.number) xs) (sym (list_at (response_key p server)
      ∙ ap (λ b. cond b rest (at s.responses (response_key p server))) (itself response_keys_total (response_key p server))))
      ∙ ap (λ xs. m.number ∷ xs) (sym (entries-waiting (roles_of new.handles) new.responses server n (SentRequest q) q
      (role_same n other_number ∙ waiting) refl))

  -- and is no entry any more
  pub taken_absent : (other r : ℕ) → AllByRecursion (λ j. eqb m.number j ≡ false) (queued new other r)
  taken_absent other r = go (option_and_then waiting_question (get (roles_of new.handles) r))
    where
      gone : (key : ResponseKey) → (b : ℕ) → standing new.responses m.number key ≡ b → standing new.responses m.number key ≡ 0
      gone key zero e = e
      gone key (suc b) e = absurd (
          let f : None ≡ Some (ReceivedResponse (answer_of m)) = sym (after_apart.responses.no_handle m.number key (omega (arith, e)))
          ∙ now_at in cc)

      go : (o : Option Question) → AllByRecursion (λ j. eqb m.number j ≡ false)
          (option_map_or (λ q. map (λ x. x.number) (at new.responses (channel_key other q))) o [])
      go None = tt
      go (Some q) = none_standing m.number (at new.responses (channel_key other q))
          (gone (channel_key other q) (standing new.responses m.number (channel_key other q)) refl)

  -- it is not on loan
  pub taken_unloaned : (a : Answer) → get (roles_of new.handles) m.number ≢ Some (LoanedResponse a)
  taken_unloaned a e = absurd (let f : Some (ReceivedResponse (answer_of m)) ≡ Some (LoanedResponse a) = sym now_at ∙ e in cc)

  -- a list under another key stays
  taken_listed : (other r : ℕ) → get (roles_of new.handles) r ≡ get (roles_of s.handles) r → (role : Role) (q : Question)
      → get (roles_of s.handles) r ≡ Some role → waiting_question role ≡ Some q →
      (c : Ordering) → response_key_cmp (channel_key other q) (response_key p server) ≡ c → (queued new other r ≡ queued s other r)
      ⊎ ((other ≡ server) × (r ≡ n))
  taken_listed other r stays role q at_r some c cmp = by c cmp
    where
      same : at new.responses (channel_key other q) ≡ at s.responses (channel_key other q) → queued new other r ≡ queued s other r
      same e =
          entries-waiting (roles_of new.handles) new.responses other r role q (stays ∙ at_r) some ∙ ap (map (λ x. x.number)) e
          ∙ sym (entries-waiting (roles_of s.handles) s.responses other r role q at_r some)

      by : (c : Ordering) → response_key_cmp (channel_key other q) (response_key p server) ≡ c → (queued new other r ≡ queued s other r)
          ⊎ ((other ≡ server) × (r ≡ n))
      by Less e = inl (same (list_at (channel_key other q) ∙ ap (λ c. cond (is_eq c) rest (at s.responses (channel_key other q))) e))
      by Greater e = inl (same (list_at (channel_key other q) ∙ ap (λ c. cond (is_eq c) rest (at s.responses (channel_key other q))) e))
      by Equal e =
          let key_is : channel_key other q ≡ response_key p server = response_keys_exact (channel_key other q) (response_key p server) e in
          inr (
            ap (λ (k : ResponseKey). k.server) key_is,
            apart.channels r n q (question_of p.message) (ap (option_and_then asking) (at_r ∙ ap Some (waiting_is role q some)))
                (ap (option_and_then asking) waiting)
                (ap (λ (k : ResponseKey). k.client) key_is) (ap (λ (k : ResponseKey). k.channel) key_is),
          )

  -- other entries for requests that keep their roles stay
  pub taken_goes : (other r : ℕ) → get (roles_of new.handles) r ≡ get (roles_of s.handles) r → (o : Option Role)
      → get (roles_of s.handles) r ≡ o → (queued new other r ≡ queued s other r) ⊎ ((other ≡ server) × (r ≡ n))
  taken_goes other r stays None at_r = inl (entries-none (roles_of new.handles) new.responses other r
      (ap (option_and_then waiting_question) (stays ∙ at_r))
      ∙ sym (entries-none (roles_of s.handles) s.responses other r (ap (option_and_then waiting_question) at_r)))
  taken_goes other r stays (Some role) at_r = asked (waiting_question role) refl
    where
      asked : (o : Option Question) → waiting_question role ≡ o → (queued new other r ≡ queued s other r) ⊎ ((other ≡ server) × (r ≡ n))
      asked None none = inl (entries-none (roles_of new.handles) new.responses other r
          (ap (option_and_then waiting_question) (stays ∙ at_r) ∙ none)
          ∙ sym (entries-none (roles_of s.handles) s.responses other r (ap (option_and_then waiting_question) at_r ∙ none)))
      asked (Some q) some = taken_listed other r stays role q at_r some
          (response_key_cmp (channel_key other q) (response_key p server)) refl

  -- nothing else moves
  pub taken_moves : Moves (λ k role. ⊥) (λ other r before after. (after ≡ before) ⊎ ((other ≡ server) × (r ≡ n))) s new
  taken_moves = record {
    next = omega (arith, next);
    roles = λ k role servers e. ⊎_elim
        (λ this. absurd (false_is_true (ap is_servers this.1 ∙ servers)))
        (λ was. inl was.1)
        (get-insert_cases (roles_of s.handles) m.number (ReceivedResponse (answer_of m)) k role (sym (ap (λ r. get r k) roles_are) ∙ e));
    entries = λ other r. ⊎_elim
        (λ here. inl (entries-none (roles_of new.handles) new.responses other r
        (ap (λ k. option_and_then waiting_question (get (roles_of new.handles) k)) here
        ∙ ap (option_and_then waiting_question) now_at)))
        (λ away. inr (taken_goes other r (role_same r away) (get (roles_of s.handles) r) refl))
        (cases_eq r m.number);
  }

  -- nothing is new
  pub taken_settles : (Begins : ℕ → ℕ → Type 0) (Ends : ℕ → Type 0) → new.servers ≡ s.servers → new.requests ≡ s.requests
      → Settles Begins Ends (λ other r before after. (after ≡ before) ⊎ ((other ≡ server) × (r ≡ n))) s new
  taken_settles Begins Ends servers requests =
      settles_by s new (omega (arith, next)) (same_servers s new servers) (same_held Ends s new servers)
      (λ k role q asks e. (before k role (λ is. let f : None ≡ Some q = ap asking is ∙ asks in cc) e).1)
      (λ other r was serves. taken_goes other r (role_same r
      (before r (SentRequest serves.0.0) (λ is. let f : None ≡ Some serves.0.0 = ap asking is in cc) serves.0.1).0)
      (get (roles_of s.handles) r) refl)
      (same_requests s new requests)
    where
      before : (k : ℕ) (role : Role) → ReceivedResponse (answer_of m) ≢ role → get (roles_of new.handles) k ≡ Some role → (k ≢ m.number)
          × (get (roles_of s.handles) k ≡ Some role)
      before k role other e = ⊎_elim
          (λ this. absurd (other this.1))
          (λ was. was)
          (get-insert_cases (roles_of s.handles) m.number (ReceivedResponse (answer_of m)) k role (sym (ap (λ r. get r k) roles_are) ∙ e))

module _ {Q QH P PH K : Type 0} where
  -- a receive of a response: it was the first entry for the request, and is none any more
  pub record Takes (s new : State Q QH P PH K) (server p k : ℕ) : Type 0 where
    pub moves : Moves (λ n role. ⊥) (λ other r before after. (after ≡ before) ⊎ ((other ≡ server) × (r ≡ p))) s new
    pub first : queued s server p ≡ k ∷ queued new server p
    pub absent : (other r : ℕ) → AllByRecursion (λ j. eqb k j ≡ false) (queued new other r)
    pub unloaned : (a : Answer) → get (roles_of new.handles) k ≢ Some (LoanedResponse a)
    pub settles : Settles (λ other r. ⊥) (λ n. ⊥) (λ other r before after. (after ≡ before) ⊎ ((other ≡ server) × (r ≡ p))) s new

  -- the same, with its server
  pub received_response_moves : (s : State Q QH P PH K) → IsReached s → IsApart s → (n k : ℕ) (new : State Q QH P PH K) → IsApart new
      → ReceivesResponse s n (Ok (Some k)) new → (server : ℕ) × Takes s new server n k
  received_response_moves s fits apart n k new after_apart receives =
      let o = some_and (pending_at s n) _ receives in
      let r = o.2 in
      let server : ℕ = r.0 in
      let m : ResponseMessage P PH = r.1 in
      let mid : State Q QH P PH K = r.2 in
      let takes = r.3 in
      let rest = takes.1.0 in
      let mid_handles : mid.handles ≡ s.handles = ap (λ (x : State Q QH P PH K). x.handles) takes.1.2 in
      let mid_lists : mid.responses ≡ with_at s.responses (response_key o.0 server) rest = ap
      (λ (x : State Q QH P PH K). x.responses) takes.1.2 in
      let mid_next : mid.next ≡ s.next = ap (λ (x : State Q QH P PH K). x.next) takes.1.2 in
      let number_is : k ≡ m.number = r.4 in
      let roles_are : roles_of new.handles ≡ insert (roles_of s.handles) m.number (ReceivedResponse (answer_of m)) =
      ap (λ (x : State Q QH P PH K). roles_of x.handles) r.5 ∙ roles-insert mid.handles k (Response m)
      ∙ ap (λ h. insert (roles_of h) k (ReceivedResponse (answer_of m))) mid_handles
      ∙ ap (λ j. insert (roles_of s.handles) j (ReceivedResponse (answer_of m))) number_is in
      let lists_are : new.responses ≡ with_at s.responses (response_key o.0 server) rest = ap (λ (x : State Q QH P PH K). x.responses) r.5
      ∙ mid_lists in
      let next_is : new.next ≡ s.next = ap (λ (x : State Q QH P PH K). x.next) r.5 ∙ mid_next in
      let servers_are : new.servers ≡ s.servers = ap (λ (x : State Q QH P PH K). x.servers) r.5
      ∙ ap (λ (x : State Q QH P PH K). x.servers) takes.1.2 in
      let requests_are : new.requests ≡ s.requests = ap (λ (x : State Q QH P PH K). x.requests) r.5
      ∙ ap (λ (x : State Q QH P PH K). x.requests) takes.1.2 in (
        server,
        subst (Takes s new server n) (sym number_is) (record {
          moves = taken_moves s new fits apart after_apart n o.0 o.1 server m rest takes.1.1 next_is roles_are lists_are;
          first = taken_first s new fits apart after_apart n o.0 o.1 server m rest takes.1.1 next_is roles_are lists_are;
          absent = taken_absent s new fits apart after_apart n o.0 o.1 server m rest takes.1.1 next_is roles_are lists_are;
          unloaned = taken_unloaned s new fits apart after_apart n o.0 o.1 server m rest takes.1.1 next_is roles_are lists_are;
          settles = taken_settles s new fits apart after_apart n o.0 o.1 server m rest takes.1.1 next_is roles_are lists_are (λ other r. ⊥)
              (λ j. ⊥) servers_are requests_are;
        }),
      )
