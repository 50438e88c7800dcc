-- How states settle by loans, by sends of requests, and by receives of requests.
use Rattle.std.proofs.Common.{◌≡◌, ℕ, ◌<◌, ◌≤◌, Bool, true, false, cond, eqb, List, [], ◌∷◌, Option, Some, None, Result, Ok, Err, refl, sym, ap, ◌∙◌, subst, ⊎_elim, inl, inr, arith}
use Rattle.std.specs.Prelude.{◌⊎◌, ◌≢◌, fold, count_by, is_some, option_and_then}
use Rattle.std.specs.declared.cmp.Ordering.{Ordering}
use Rattle.std.specs.declared.cmp.Ordering.TheVariants.{Less, Equal, Greater}
use Rattle.std.specs.Ordering.{is_eq}
use Rattle.std.specs.List.{AllByRecursion}
use Rattle.std.specs.FinMap.{get, insert}
use Rattle.std.proofs.lemmas.Bool.{eqb-true}
use Rattle.rr_table.specs.Maps.{mark}
use Rattle.rr_table.proofs.MapLaws.{get-insert_other, get-insert_cases}
use Rattle.rr_protocol.specs.declared.settings.BackpressureAction.{BackpressureAction}
use Rattle.rr_protocol.specs.declared.error.RequestSendError.{RequestSendError}
use Rattle.rr_protocol.specs.declared.error.ReceiveError.{ReceiveError}
use Rattle.rr_protocol.specs.Lists.{Lists, at, with_at}
use Rattle.rr_protocol.specs.Keys.{RequestKey, request_key, request_key_cmp}
use Rattle.rr_protocol.specs.Messages.{RequestMessage, RequestMut}
use Rattle.rr_protocol.specs.Ports.{Server}
use Rattle.rr_protocol.specs.State.{State, client_at, handle_at}
use Rattle.rr_protocol.specs.Loans.{LoansRequest, LoansResponse}
use Rattle.rr_protocol.specs.Sends.{put, request_reach, with_sent_request, SendsRequest}
use Rattle.rr_protocol.specs.Receives.{TakesRequest, Skims, ReceivesRequest}
use Rattle.rr_protocol.proofs.KeyLaws.{request_keys_total, request_keys_exact}
use Rattle.rr_protocol.proofs.ListsLaws.{at-with_at}
use Rattle.rr_laws.specs.Roles.{Question, Role, LoanedRequest, SentRequest, ReceivedRequest, LoanedResponse, roles_of, question_of, asking, asking_at}
use Rattle.rr_laws.specs.Reached.{RequestFits, IsReached}
use Rattle.rr_laws.specs.Apart.{IsApart}
use Rattle.rr_laws.specs.Left.{IsLeftFit}
use Rattle.rr_laws.specs.Following.{entries_for}
use Rattle.rr_laws.specs.Settling.{listed, Settles}
use Rattle.rr_laws.proofs.RoleLaws.{role_at, roles-insert}
use Rattle.rr_laws.proofs.Opening.{some_and, open_request_mut, open_active}
use Rattle.rr_laws.proofs.Connected.{has_below}
use Rattle.rr_table.proofs.Counting.{count-cons}
use Rattle.rr_laws.proofs.Putting.{shrinks_taken}
use Rattle.rr_laws.proofs.Apart.{count-drop}
use Rattle.rr_laws.proofs.ApartResponses.{count-put}
use Rattle.rr_laws.proofs.Moving.{entries-same_role}
use Rattle.rr_laws.proofs.MovingReceives.{skims_same}
use Rattle.rr_laws.proofs.Settling.{settles_by, same_servers, same_held, settles_with_role, then_settles}
use Rattle.rr_laws.proofs.SettlingHandles.{after_release_settles}

-- a request that stands in a list has a number that was given
pub listed_below : {Q QH P PH K : Type 0} (s : State Q QH P PH K) → IsReached s → (n : ℕ) (key : RequestKey) → 0 < listed s.requests n key
    → n < s.next
listed_below {Q} {QH} {P} {PH} {K} s fits n key some = go (at s.requests key) (fits.request_lists.each key) some
  where
    go : (entries : List (RequestMessage Q QH)) → AllByRecursion (RequestFits s.limits s.servers (roles_of s.handles) s.next key) entries
        → 0 < count_by (λ m. eqb m.number n) entries → n < s.next
    go [] all some = absurd (omega (arith, some))
    go (m ∷ entries) all some = first (go entries all.1) (eqb m.number n) refl
      where
        first : (0 < count_by (λ x. eqb x.number n) entries → n < s.next) → (b : Bool) → eqb m.number n ≡ b → n < s.next
        first rest true is = omega (arith, eqb-true m.number n is, all.0.known.below)
        first rest false is = rest (omega (arith, some, count-cons (λ (x : RequestMessage Q QH). eqb x.number n) m entries, ap mark is))

module _ {T H : Type 0} where
  -- a list that lost its first entry has no more of any number
  pub taken_fewer : (lists : Lists request_key_cmp (RequestMessage T H)) (key : RequestKey) (m : RequestMessage T H)
      (rest : List (RequestMessage T H)) → at lists key ≡ m ∷ rest → (n : ℕ) (k : RequestKey) →
      0 < listed (with_at lists key rest) n k → 0 < listed lists n k
  taken_fewer lists key m rest first n k some =
      let shrinks = shrinks_taken request_keys_total request_keys_exact lists key m rest first k in
      omega (
        arith,
        some,
        ap (count_by (λ (x : RequestMessage T H). eqb x.number n)) shrinks.1,
        count-drop (λ (x : RequestMessage T H). eqb x.number n) shrinks.0 (at lists k),
      )

  -- after a request came to some lists, a number that stands in one stood in it, or is the request's
  pub put_listed : (overflow : Bool) (capacity : ℕ) (message : RequestMessage T H) (keys : List RequestKey)
      (lists : Lists request_key_cmp (RequestMessage T H)) (n : ℕ) (key : RequestKey) →
      0 < listed (fold (λ ls k. with_at ls k (put overflow capacity (at ls k) message)) lists keys) n key → (0 < listed lists n key)
      ⊎ (message.number ≡ n)
  put_listed overflow capacity message [] lists n key some = inl some
  put_listed overflow capacity message (k ∷ keys) lists n key some = ⊎_elim
      (λ there. go (request_key_cmp key k) refl there)
      (λ is. inr is)
      (put_listed overflow capacity message keys (with_at lists k (put overflow capacity (at lists k) message)) n key some)
    where
      count : List (RequestMessage T H) → ℕ
      count xs = count_by (λ m. eqb m.number n) xs

      changed : at (with_at lists k (put overflow capacity (at lists k) message)) key ≡ cond (is_eq (request_key_cmp key k))
          (put overflow capacity (at lists k) message) (at lists key)
      changed = at-with_at request_keys_total lists k (put overflow capacity (at lists k) message) key

      more : (b : Bool) → eqb message.number n ≡ b → key ≡ k
          → 0 < count_by (λ m. eqb m.number n) (put overflow capacity (at lists k) message)
          → (0 < count_by (λ m. eqb m.number n) (at lists key)) ⊎ (message.number ≡ n)
      more true is same h = inr (eqb-true message.number n is)
      more false is same h = inl (omega (
        arith,
        h,
        count-put (λ (m : RequestMessage T H). eqb m.number n) overflow capacity
            (at lists k) message,
        ap mark is,
        ap (λ j. count_by (λ (m : RequestMessage T H). eqb m.number n) (at lists j)) same,
      ))

      go : (r : Ordering) → request_key_cmp key k ≡ r → 0 < count_by (λ m. eqb m.number n)
          (at (with_at lists k (put overflow capacity (at lists k) message)) key) → (0 < count_by (λ m. eqb m.number n) (at lists key))
          ⊎ (message.number ≡ n)
      go Less e h = inl (omega (
        arith,
        h,
        ap (count_by (λ (m : RequestMessage T H). eqb m.number n))
            (changed ∙ ap (λ r. cond (is_eq r) (put overflow capacity (at lists k) message) (at lists key)) e),
      ))
      go Greater e h = inl (omega (
        arith,
        h,
        ap (count_by (λ (m : RequestMessage T H). eqb m.number n))
            (changed ∙ ap (λ r. cond (is_eq r) (put overflow capacity (at lists k) message) (at lists key)) e),
      ))
      go Equal e h = more (eqb message.number n) refl (request_keys_exact key k e)
          (omega (
            arith,
            h,
            ap (count_by (λ (m : RequestMessage T H). eqb m.number n))
                (changed ∙ ap (λ r. cond (is_eq r) (put overflow capacity (at lists k) message) (at lists key)) e),
          ))

module _ {Q QH P PH K : Type 0} where
  -- one more request on loan
  new_request_settles : {Begins : ℕ → ℕ → Type 0} {Ends : ℕ → Type 0} (s new : State Q QH P PH K) → IsReached s → (q : Question)
      → s.next ≤ new.next → roles_of new.handles ≡ insert (roles_of s.handles) s.next (LoanedRequest q) →
      new.responses ≡ s.responses → new.servers ≡ s.servers → new.requests ≡ s.requests
      → Settles Begins Ends (λ server p before after. after ≡ before) s new
  new_request_settles {Begins} {Ends} s new fits q more roles responses servers requests = record {
    next = more;
    serving = λ server p serves. ⊎_elim
        (λ this. absurd (let f : LoanedRequest q ≡ SentRequest serves.0.0 = this.1 in cc))
        (λ was. inl (
          (
            (serves.0.0, was.1),
            (
              (same_servers s new servers server serves.1.0 serves.1.1).0,
              (same_servers s new servers server serves.1.0 serves.1.1).1,
            ),
          ),
          ap (λ r. entries_for r new.responses server p) roles
              ∙ ap (λ l. entries_for (insert (roles_of s.handles) s.next (LoanedRequest q)) l server p) responses
              ∙ entries-same_role (roles_of s.handles) (insert (roles_of s.handles) s.next (LoanedRequest q)) s.responses server p
              (get-insert_other (roles_of s.handles) s.next (LoanedRequest q) p was.0),
        ))
        (at_role p (SentRequest serves.0.0) serves.0.1);
    servers = λ n c e. inl (same_servers s new servers n c e);
    held = same_held Ends s new servers;
    loaned = λ n p e. ⊎_elim (λ this. inr (omega (arith, this.0))) (λ was. inl was.1) (at_role n (LoanedRequest p) e);
    clash = λ n clashes. ⊎_elim
        (λ unsent. ⊎_elim
        (λ this. absurd (omega (arith, this.0, listed_below s fits n unsent.1 (subst (λ l. 0 < listed l n unsent.1) requests unsent.3))))
        (λ was. inl (unsent.0, unsent.1, was.1, subst (λ l. 0 < listed l n unsent.1) requests unsent.3))
        (at_role n (LoanedRequest unsent.0) unsent.2))
        (λ both.
        let there = (same_servers s new servers n both.0 both.1) in
        inr (
          there.0,
          there.1,
          ⊎_elim
              (λ asked. ⊎_elim
              (λ this. absurd (omega (
                arith,
                this,
                has_below (λ (c : Server K). c.id) s.servers n s.next fits.ports.server_numbers
                    (ap is_some there.1),
              )))
              (λ was. inl (asked.0, was))
              (asked_at n asked.0 asked.1))
              (λ stands. inr (stands.0, subst (λ l. 0 < listed l n stands.0) requests stands.1))
              both.2,
        ))
        clashes;
  }
    where
      at_role : (n : ℕ) (role : Role) → get (roles_of new.handles) n ≡ Some role → ((n ≡ s.next) × (LoanedRequest q ≡ role))
          ⊎ ((n ≢ s.next) × (get (roles_of s.handles) n ≡ Some role))
      at_role n role e = get-insert_cases (roles_of s.handles) s.next (LoanedRequest q) n role (sym (ap (λ r. get r n) roles) ∙ e)

      asked_at : (n : ℕ) (p : Question) → asking_at (roles_of new.handles) n ≡ Some p → (n ≡ s.next)
          ⊎ (asking_at (roles_of s.handles) n ≡ Some p)
      asked_at n p e = go (get (roles_of new.handles) n) refl e
        where
          go : (o : Option Role) → get (roles_of new.handles) n ≡ o → option_and_then asking o ≡ Some p → (n ≡ s.next)
              ⊎ (asking_at (roles_of s.handles) n ≡ Some p)
          go None is e = absurd (let f : None ≡ Some p = e in cc)
          go (Some role) is e = ⊎_elim (λ this. inl this.0) (λ was. inr (ap (option_and_then asking) was.1 ∙ e)) (at_role n role is)

  -- a loan of a request
  pub loaned_request_settles : {Begins : ℕ → ℕ → Type 0} {Ends : ℕ → Type 0} (IsDefault : QH → Type 0) (s : State Q QH P PH K) → IsReached s
      → (n len number : ℕ) (new : State Q QH P PH K) → LoansRequest IsDefault s n len (Ok number) new →
      Settles Begins Ends (λ server p before after. after ≡ before) s new
  loaned_request_settles {Begins} {Ends} IsDefault s fits n len number new loans =
      let o = some_and (client_at s n) _ loans in
      subst (λ (x : State Q QH P PH K). Settles Begins Ends (λ server p before after. after ≡ before) s x) (sym o.2.2.4)
      (new_request_settles s _ fits _ (omega arith) (roles-insert s.handles s.next _) refl refl refl)

  -- a loan of a response
  pub loaned_response_settles : {Begins : ℕ → ℕ → Type 0} {Ends : ℕ → Type 0} (IsDefault : PH → Type 0) (s : State Q QH P PH K)
      (n len number : ℕ) (new : State Q QH P PH K) → LoansResponse IsDefault s n len (Ok number) new →
      Settles Begins Ends (λ server p before after. after ≡ before) s new
  loaned_response_settles {Begins} {Ends} IsDefault s n len number new loans =
      let o = open_active s n _ loans in
      subst (λ (x : State Q QH P PH K). Settles Begins Ends (λ server p before after. after ≡ before) s x) (sym o.4.2.2)
      (settles_with_role s _ s.next (LoanedResponse _) refl (omega arith) (roles-insert s.handles s.next _) refl refl
      (λ k key some. (key, some)))

  -- a request waits for answers, and stands in the lists that take it
  request_sent_settles : {Begins : ℕ → ℕ → Type 0} {Ends : ℕ → Type 0} (s : State Q QH P PH K) → IsReached s
      → (n : ℕ) (m : RequestMessage Q QH) → handle_at s n ≡ Some (RequestMut m) → ((server : ℕ) → Begins server n) →
      Settles Begins Ends (λ server p before after. after ≡ before) s (with_sent_request s n m)
  request_sent_settles {Begins} {Ends} s fits n m is begins = record {
    next = omega arith;
    serving = λ server p serves. ⊎_elim
        (λ this. inr (subst (Begins server) (sym this.0) (begins server)))
        (λ was. inl (
          ((serves.0.0, was.1), serves.1),
          ap (λ r. entries_for r s.responses server p) roles
              ∙ entries-same_role (roles_of s.handles) (insert (roles_of s.handles) n (SentRequest q)) s.responses server p
              (get-insert_other (roles_of s.handles) n (SentRequest q) p was.0),
        ))
        (at_role p (SentRequest serves.0.0) serves.0.1);
    servers = λ k c e. inl (c, e, refl, refl);
    held = λ k e. inl e;
    loaned = λ k p e. ⊎_elim (λ this. absurd (let f : SentRequest q ≡ LoanedRequest p = this.1 in cc)) (λ was. inl was.1)
        (at_role k (LoanedRequest p) e);
    clash = λ k clashes. ⊎_elim
        (λ unsent. ⊎_elim
        (λ this. absurd (let f : SentRequest q ≡ LoanedRequest unsent.0 = this.1 in cc))
        (λ was. ⊎_elim
        (λ before. inl (unsent.0, unsent.1, was.1, before))
        (λ own. absurd (was.0 (sym own ∙ number_is)))
        (stood k unsent.1 unsent.3))
        (at_role k (LoanedRequest unsent.0) unsent.2))
        (λ both. inr (
          both.0,
          both.1,
          ⊎_elim
              (λ asked. asked_at k asked.0 asked.1)
              (λ stands. ⊎_elim
              (λ before. inr (stands.0, before))
              (λ own. inl (q, ap (λ j. asking_at (roles_of s.handles) j) (sym own ∙ number_is) ∙ ap (option_and_then asking) here))
              (stood k stands.0 stands.1))
              both.2,
        ))
        clashes;
  }
    where
      q : Question
      q = question_of m

      here : get (roles_of s.handles) n ≡ Some (LoanedRequest (question_of m))
      here = role_at s.handles n (RequestMut m) is

      number_is : m.number ≡ n
      number_is = (fits.handles n (LoanedRequest (question_of m)) (role_at s.handles n (RequestMut m) is)).own_number

      roles : roles_of (with_sent_request s n m).handles ≡ insert (roles_of s.handles) n (SentRequest (question_of m))
      roles = roles-insert s.handles n _

      at_role : (k : ℕ) (role : Role) → get (roles_of (with_sent_request s n m).handles) k ≡ Some role
          → ((k ≡ n) × (SentRequest (question_of m) ≡ role)) ⊎ ((k ≢ n) × (get (roles_of s.handles) k ≡ Some role))
      at_role k role e = get-insert_cases (roles_of s.handles) n (SentRequest (question_of m)) k role
          (sym (ap (λ r. get r k) (roles-insert s.handles n _)) ∙ e)

      stood : (k : ℕ) (key : RequestKey) → 0 < listed (with_sent_request s n m).requests k key → (0 < listed s.requests k key)
          ⊎ (m.number ≡ k)
      stood k key some = put_listed s.limits.enable_safe_overflow_for_requests s.limits.max_active_requests_per_client m
          (request_reach s m) s.requests k key some

      asked_at : (k : ℕ) (p : Question) → asking_at (roles_of (with_sent_request s n m).handles) k ≡ Some p
          → ((r : Question) × (asking_at (roles_of s.handles) k ≡ Some r)) ⊎ ((key : RequestKey) × (0 < listed s.requests k key))
      asked_at k p e = go (get (roles_of (with_sent_request s n m).handles) k) refl e
        where
          go : (o : Option Role) → get (roles_of (with_sent_request s n m).handles) k ≡ o → option_and_then asking o ≡ Some p
              → ((r : Question) × (asking_at (roles_of s.handles) k ≡ Some r)) ⊎ ((key : RequestKey) × (0 < listed s.requests k key))
          go None is e = absurd (let f : None ≡ Some p = e in cc)
          go (Some role) at e = ⊎_elim
              (λ this. inl (
                question_of m,
                ap (λ j. asking_at (roles_of s.handles) j) this.0
                    ∙ ap (option_and_then asking) (role_at s.handles n (RequestMut m) is),
              ))
              (λ was. inl (p, ap (option_and_then asking) was.1 ∙ e))
              (at_role k role at)

  -- a send of a request, by which answers to it begin
  pub sent_request_settles : {Begins : ℕ → ℕ → Type 0} {Ends : ℕ → Type 0} (action : K → ℕ → ℕ → BackpressureAction) (s : State Q QH P PH K)
      → IsReached s → IsApart s → IsLeftFit s → (n : ℕ) (result : Result ℕ RequestSendError) (new : State Q QH P PH K) →
      SendsRequest action s n result new → ((server : ℕ) (q : Question) → get (roles_of s.handles) n ≡ Some (LoanedRequest q)
      → Begins server n) → Settles Begins Ends (λ server p before after. after ≡ before) s new
  sent_request_settles {Begins} {Ends} action s fits apart left n (Ok connections) new sends begins =
      let o = open_request_mut s n _ sends in
      subst (λ (x : State Q QH P PH K). Settles Begins Ends (λ server p before after. after ≡ before) s x) (sym o.4.2)
      (request_sent_settles s fits n o.1 o.2 (λ server. begins server (question_of o.1) (role_at s.handles n (RequestMut o.1) o.2)))
  sent_request_settles {Begins} {Ends} action s fits apart left n (Err error) new sends begins =
      let o = open_request_mut s n _ sends in
      subst (λ (x : State Q QH P PH K). Settles Begins Ends (λ server p before after. after ≡ before) s x) (sym o.4.1)
      (after_release_settles s n fits apart.channels left (λ none. absurd (let f : None ≡ Some (RequestMut o.1) = sym none ∙ o.2 in cc)))

  -- a request is taken from a list
  takes_same : (s : State Q QH P PH K) (key : RequestKey) (m : RequestMessage Q QH) (new : State Q QH P PH K) → TakesRequest s key m new
      → (new.servers ≡ s.servers) × ((n : ℕ) (k : RequestKey) → 0 < listed new.requests n k → 0 < listed s.requests n k)
  takes_same s key m new takes =
      subst (λ (x : State Q QH P PH K). (x.servers ≡ s.servers)
      × ((n : ℕ) (k : RequestKey) → 0 < listed x.requests n k → 0 < listed s.requests n k)) (sym takes.1.2)
      (refl, (λ n k some. taken_fewer s.requests key m takes.1.0 takes.1.1 n k some))

  -- skimming takes requests alone
  pub skims_fewer : (clients : List ℕ) (s : State Q QH P PH K) (server : ℕ) (new : State Q QH P PH K) → Skims s server clients new
      → (new.servers ≡ s.servers) × ((n : ℕ) (k : RequestKey) → 0 < listed new.requests n k → 0 < listed s.requests n k)
  skims_fewer [] s server new skims = subst (λ (x : State Q QH P PH K). (x.servers ≡ s.servers)
      × ((n : ℕ) (k : RequestKey) → 0 < listed x.requests n k → 0 < listed s.requests n k)) (sym skims) (refl, (λ n k some. some))
  skims_fewer (client ∷ clients) s server new skims =
      let one = takes_same s (request_key client server) skims.0 skims.1 skims.3 in
      let rest = skims_fewer clients skims.1 server new skims.4 in
      (rest.0 ∙ one.0, (λ n k some. one.1 n k (rest.1 n k some)))

  -- dead requests leave the fronts of lists
  skims_settle : {Begins : ℕ → ℕ → Type 0} {Ends : ℕ → Type 0} (clients : List ℕ) (s : State Q QH P PH K) (server : ℕ)
      (new : State Q QH P PH K) → Skims s server clients new → Settles Begins Ends (λ server p before after. after ≡ before) s new
  skims_settle {Begins} {Ends} clients s server new skims =
      let same = skims_same clients s server new skims in
      let fewer = skims_fewer clients s server new skims in
      settles_by s new (omega (arith, same.2)) (same_servers s new fewer.0) (same_held Ends s new fewer.0)
      (λ n role q asks e. sym (ap (λ h. get (roles_of h) n) same.0) ∙ e)
      (λ other p was serves. ap (λ h. entries_for (roles_of h) new.responses other p) same.0
      ∙ ap (λ l. entries_for (roles_of s.handles) l other p) same.1)
      (λ n key some. (key, fewer.1 n key some))

  -- a receive of a request, or of none
  pub received_request_settles : {Begins : ℕ → ℕ → Type 0} {Ends : ℕ → Type 0} (s : State Q QH P PH K) (n : ℕ)
      (result : Result (Option ℕ) ReceiveError) (new : State Q QH P PH K) → ReceivesRequest s n result new →
      Settles Begins Ends (λ server p before after. after ≡ before) s new
  received_request_settles {Begins} {Ends} s n (Ok (Some a)) new receives =
      let o = receives.1 in
      let got = (o.3).1 in
      let mid : State Q QH P PH K = got.2 in
      let taken = takes_same o.1 (request_key got.0 n) got.1 mid got.3 in
      let handles : mid.handles ≡ (o.1).handles = ap (λ (x : State Q QH P PH K). x.handles) (got.3).1.2 in
      let responses : mid.responses ≡ (o.1).responses = ap (λ (x : State Q QH P PH K). x.responses) (got.3).1.2 in
      let next : mid.next ≡ (o.1).next = ap (λ (x : State Q QH P PH K). x.next) (got.3).1.2 in
      then_settles s o.1 new (skims_settle o.0 s n o.1 o.2)
      (subst (λ (x : State Q QH P PH K). Settles Begins Ends (λ server p before after. after ≡ before) o.1 x) (sym got.5)
      (settles_with_role o.1 _ mid.next (ReceivedRequest n (question_of got.1)) refl (omega (arith, next))
      (roles-insert mid.handles mid.next _ ∙ ap (λ h. insert (roles_of h) mid.next (ReceivedRequest n (question_of got.1))) handles)
      responses taken.0 (λ k key some. (key, taken.1 k key some))))
  received_request_settles {Begins} {Ends} s n (Ok None) new receives =
      let o = receives.1 in
      subst (λ (x : State Q QH P PH K). Settles Begins Ends (λ server p before after. after ≡ before) s x)
      (sym (o.3).1) (skims_settle o.0 s n o.1 o.2)
  received_request_settles {Begins} {Ends} s n (Err ReceiveError.ExceedsMaxBorrows) new receives =
      let o = receives.1 in
      subst (λ (x : State Q QH P PH K). Settles Begins Ends (λ server p before after. after ≡ before) s x)
      (sym (o.3).2) (skims_settle o.0 s n o.1 o.2)
  received_request_settles s n (Err (ReceiveError.ConnectionFailure failure)) new receives = absurd (receives.1.3)
