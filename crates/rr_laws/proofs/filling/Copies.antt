-- One request more lives after the client loaned, wrote and sent one; it came to the list to the server that is served.
use Rattle.std.proofs.Common.{◌≡◌, ℕ, ◌+◌, ◌<◌, Bool, true, false, eqb, List, [], ◌∷◌, ◌++◌, map, length, Some, Ok, refl, sym, ap, ◌∙◌, subst, inl, arith}
use Rattle.std.specs.Prelude.{◌≢◌, IsSomeAnd, find, fold, not, if◌then◌else◌}
use Rattle.std.specs.FinMap.{get, insert}
use Rattle.std.specs.List.{AllByRecursion, list_any}
use Rattle.std.proofs.lemmas.Bool.{eq-eqb, eqb-false, lt-leb}
use Rattle.std.proofs.lemmas.List.{map-append}
use Rattle.rr_table.proofs.ListFacts.{all_map}
use Rattle.rr_table.proofs.MapLaws.{get-insert_same, get-insert_other}
use Rattle.rr_protocol.specs.declared.limits.Limits.{Limits}
use Rattle.rr_protocol.specs.declared.settings.BackpressureAction.{BackpressureAction}
use Rattle.rr_protocol.specs.Keys.{RequestKey, request_key}
use Rattle.rr_protocol.specs.Lists.{at, with_at}
use Rattle.rr_protocol.specs.Messages.{RequestMessage, RequestMut}
use Rattle.rr_protocol.specs.Ports.{Client, Server}
use Rattle.rr_protocol.specs.State.{State}
use Rattle.rr_protocol.specs.Loans.{with_loaned_request, LoansRequest}
use Rattle.rr_protocol.specs.Sends.{put, with_request_put, with_sent_request, SendsRequest}
use Rattle.rr_protocol.proofs.KeyLaws.{request_keys_total, request_keys_exact}
use Rattle.rr_protocol.specs.Step.{with_complete}
use Rattle.rr_laws.specs.Roles.{Question, LoanedRequest, SentRequest, Roles, roles_of, question_of}
use Rattle.rr_laws.specs.Reached.{IsReached}
use Rattle.rr_laws.specs.Filling.{only_client, is_request, IsHolding, IsServed}
use Rattle.rr_laws.proofs.FollowingSteps.{complete_roles}
use Rattle.rr_laws.proofs.LiveRequests.{both_true}
use Rattle.rr_laws.proofs.Opening.{open_request_mut}
use Rattle.rr_laws.proofs.RoleLaws.{role_at, roles-insert}
use Rattle.rr_laws.proofs.filling.Holding.{holds_more, lives_kept}
use Rattle.rr_laws.proofs.filling.Puts.{puts, any_puts, puts_elsewhere, puts_last}
use Rattle.rr_laws.proofs.filling.Sends.{client_stays, room_for_loan}

module _ {Q QH P PH K : Type 0} (s : State Q QH P PH K) (keeps_old : s.limits.enable_safe_overflow_for_requests ≡ false)
    (m : RequestMessage Q QH) (owner : m.client ≡ only_client) where
  abbrev keys : List RequestKey
  keys = map (λ (c : Server K). request_key m.client c.id) s.servers

  abbrev capacity : ℕ
  capacity = s.limits.max_active_requests_per_client

  -- the lists after a request came to all that it reaches
  put_is : with_request_put s m ≡ puts request_keys_total request_keys_exact capacity m s.requests keys
  put_is = ap (λ b. fold (λ ls key. with_at ls key (put b capacity (at ls key) m)) s.requests keys) keeps_old

  -- none of them is another client's
  pub put_others : (key : RequestKey) → key.client ≢ only_client → at (with_request_put s m) key ≡ at s.requests key
  put_others key other =
      ap (λ ls. at ls key) put_is
      ∙ puts_elsewhere request_keys_total request_keys_exact capacity m key keys
      (all_map (λ (c : Server K). request_key m.client c.id) (λ (c : Server K). c ≡ c) (λ k. key ≢ k)
      (λ c is same. other (ap (λ (k : RequestKey). k.client) same ∙ owner)) s.servers (each s.servers)) s.requests
    where
      each : (cs : List (Server K)) → AllByRecursion (λ c. c ≡ c) cs
      each [] = tt
      each (c ∷ cs) = (refl, each cs)

  -- none of them loses what it has
  pub put_keeps : (t : RequestMessage Q QH → Bool) (key : RequestKey) → list_any t (at s.requests key) ≡ true
      → list_any t (at (with_request_put s m) key) ≡ true
  put_keeps t key there = ap (λ ls. list_any t (at ls key)) put_is
      ∙ any_puts request_keys_total request_keys_exact capacity m t key keys s.requests there

  -- the list to the newest server has it at the end
  pub put_served : (server : ℕ) (entries : List (RequestMessage Q QH)) → IsServed s server entries → length entries < capacity
      → at (with_request_put s m) (request_key only_client server) ≡ entries ++ m ∷ []
  put_served server entries served room =
      ap (λ ls. at ls (request_key only_client server)) put_is
      ∙ ap (λ ks. at (puts request_keys_total request_keys_exact capacity m s.requests ks) (request_key only_client server)) keys_are
      ∙ puts_last request_keys_total request_keys_exact capacity m (request_key only_client server)
      (map (λ (c : Server K). request_key m.client c.id) served.older) apart s.requests
      ∙ ap (λ xs. put false capacity xs m) served.entries_are
      ∙ ap (λ b. if not b then entries ++ m ∷ [] else entries) (lt-leb capacity (length entries) room)
    where
      keys_are : keys ≡ map (λ (c : Server K). request_key m.client c.id) served.older ++ request_key only_client server ∷ []
      keys_are =
          ap (map (λ (c : Server K). request_key m.client c.id)) served.servers_are
          ∙ map-append (λ (c : Server K). request_key m.client c.id) served.older (served.newest ∷ [])
          ∙ ap (λ c. map (λ (c : Server K). request_key m.client c.id) served.older ++ request_key c served.newest.id ∷ []) owner
          ∙ ap (λ v. map (λ (c : Server K). request_key m.client c.id) served.older ++ request_key only_client v ∷ []) served.newest_is

      apart : AllByRecursion (λ k. request_key only_client server ≢ k) (map (λ (c : Server K). request_key m.client c.id) served.older)
      apart = all_map (λ (c : Server K). request_key m.client c.id) (λ (c : Server K). eqb c.id server ≡ false)
          (λ k. request_key only_client server ≢ k)
          (λ c other same. eqb-false c.id server other (sym (ap (λ (k : RequestKey). k.server) same))) served.older served.older_others

module _ {T H K : Type 0} (old : State T H T H K) (IsDefault : H → Type 0) (action : K → ℕ → ℕ → BackpressureAction)
    (limits : Limits) (pool count k connections : ℕ) (v : T) (mid new : State T H T H K) (holding : IsHolding old limits pool count)
    (loans : LoansRequest IsDefault old only_client 1 (Ok k) mid)
    (sends : SendsRequest action (with_complete mid k (v ∷ [])) k (Ok connections) new) where
  -- what was loaned
  pub loan : (count < pool) × ((client : Client K) × (channel : ℕ) × (header : H) × (client.id ≡ only_client) × (k ≡ old.next)
      × (mid ≡ with_loaned_request old client 1 channel header))
  loan = room_for_loan old IsDefault limits pool count 1 k mid holding loans

  abbrev loaned : Question
  loaned = record { number = old.next; client = loan.1.0.id; request_id = loan.1.0.loans_made; channel = loan.1.1 }

  abbrev complete : State T H T H K
  complete = with_complete mid k (v ∷ [])

  -- what was sent
  pub sent : (client : Client K) × (message : RequestMessage T H) × (get complete.handles k ≡ Some (RequestMut message)) × (new ≡ with_sent_request complete k message)
  sent = let f = open_request_mut complete k _ sends in (f.0, f.1, f.2, f.4.2)

  abbrev pub message : RequestMessage T H
  message = sent.1

  roles_mid : roles_of complete.handles ≡ insert (roles_of old.handles) k (LoanedRequest loaned)
  roles_mid =
      complete_roles mid k (v ∷ []) ∙ ap (λ (s : State T H T H K). roles_of s.handles) loan.1.5
      ∙ roles-insert old.handles old.next _ ∙ ap (λ n. insert (roles_of old.handles) n (LoanedRequest loaned)) (sym loan.1.4)

  -- what is sent is what was loaned
  asks : question_of message ≡ loaned
  asks =
      let e : Some (LoanedRequest (question_of message)) ≡ Some (LoanedRequest loaned) = sym (role_at complete.handles k (RequestMut message) sent.2)
      ∙ ap (λ (rs : Roles). get rs k) roles_mid ∙ get-insert_same (roles_of old.handles) k (LoanedRequest loaned) k refl in
      cc

  pub sent_owner : message.client ≡ only_client
  sent_owner = ap (λ (q : Question). q.client) asks ∙ loan.1.3

  pub sent_request : is_request k (question_of message) ≡ true
  sent_request = both_true _ _ (eq-eqb message.client only_client sent_owner)
      (eq-eqb message.number k (ap (λ (q : Question). q.number) asks ∙ sym loan.1.4))

  roles_new : roles_of new.handles ≡ insert (insert (roles_of old.handles) k (LoanedRequest loaned)) k (SentRequest (question_of message))
  roles_new =
      ap (λ (s : State T H T H K). roles_of s.handles) sent.3 ∙ roles-insert complete.handles k _
      ∙ ap (λ (rs : Roles). insert rs k (SentRequest (question_of message))) roles_mid

  pub sent_waits : get (roles_of new.handles) k ≡ Some (SentRequest (question_of message))
  sent_waits = ap (λ (rs : Roles). get rs k) roles_new
      ∙ get-insert_same (insert (roles_of old.handles) k (LoanedRequest loaned)) k (SentRequest (question_of message)) k refl

  sent_others : (j : ℕ) → j ≢ k → get (roles_of new.handles) j ≡ get (roles_of old.handles) j
  sent_others j other =
      ap (λ (rs : Roles). get rs j) roles_new
      ∙ get-insert_other (insert (roles_of old.handles) k (LoanedRequest loaned)) k (SentRequest (question_of message)) j other
      ∙ get-insert_other (roles_of old.handles) k (LoanedRequest loaned) j other

  pub sent_requests : new.requests ≡ with_request_put old message
  sent_requests = ap (λ (s : State T H T H K). s.requests) sent.3
      ∙ ap (λ (s : State T H T H K). with_request_put (with_complete s k (v ∷ [])) message) loan.1.5

  pub sent_servers : new.servers ≡ old.servers
  sent_servers = ap (λ (s : State T H T H K). s.servers) sent.3 ∙ ap (λ (s : State T H T H K). s.servers) loan.1.5

  sent_limits : new.limits ≡ old.limits
  sent_limits = ap (λ (s : State T H T H K). s.limits) sent.3 ∙ ap (λ (s : State T H T H K). s.limits) loan.1.5

  sent_clients : new.clients ≡ (with_loaned_request old loan.1.0 1 loan.1.1 loan.1.2).clients
  sent_clients = ap (λ (s : State T H T H K). s.clients) sent.3 ∙ ap (λ (s : State T H T H K). s.clients) loan.1.5

  module _ (keeps_old : limits.enable_safe_overflow_for_requests ≡ false) where
    none_drops : old.limits.enable_safe_overflow_for_requests ≡ false
    none_drops = ap (λ (l : Limits). l.enable_safe_overflow_for_requests) holding.limits_are ∙ keeps_old

    -- one more is held
    pub sent_holds : IsReached new → IsHolding new limits pool (count + 1)
    sent_holds reached =
        holds_more old new limits pool count holding reached sent_limits
        (subst (λ cs. IsSomeAnd (find (λ c. eqb c.id only_client) cs) (λ (c : Client K). (c.pool_size ≡ pool) × (c.has_value ≡ true)))
        (sym sent_clients) (client_stays old pool loan.1.0.id holding.client))
        (λ key other. ap (λ ls. at ls key) sent_requests ∙ put_others old none_drops message sent_owner key other ∙ holding.others key other)
        (lives_kept old new
        (λ j role e. sent_others j
        (λ same. absurd (let below = (holding.reached.handles j role e).below in omega (arith, same, below, loan.1.4))) ∙ e)
        (λ t key there. ap (λ ls. list_any t (at ls key)) sent_requests ∙ put_keeps old none_drops message sent_owner t key there))
        (inl (
          k,
          SentRequest (question_of message),
          refl,
          sent_waits,
          subst (λ n. is_request n (question_of message) ≡ true) loan.1.4 sent_request,
        ))
        loan.0

    -- and it is the last one in the list to the server that is served
    pub sent_served : (server : ℕ) (entries : List (RequestMessage T H)) → IsServed old server entries
        → length entries < limits.max_active_requests_per_client → IsServed new server (entries ++ message ∷ [])
    sent_served server entries served room = record {
      older = served.older;
      newest = served.newest;
      servers_are = sent_servers ∙ served.servers_are;
      newest_is = served.newest_is;
      older_others = served.older_others;
      entries_are = ap (λ ls. at ls (request_key only_client server)) sent_requests
          ∙ put_served old none_drops message sent_owner server entries served
          (subst (λ (l : Limits). length entries < l.max_active_requests_per_client) (sym holding.limits_are) room);
    }
