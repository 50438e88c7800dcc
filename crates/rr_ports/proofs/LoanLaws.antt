-- What the call of a port tells of a loan.
use Rattle.std.proofs.Common.{true, false, cond, ◌≡◌, ◌≢◌, ℕ, suc, ◌+◌, ◌≤◌, List, [], ◌∷◌, map, Some, None, refl, sym, ap, ◌∙◌, arith, Result, Ok, Err}
use Rattle.std.specs.Prelude.{◌&&◌, ◌||◌, ◌==◌, IfErr, IfOk, option_and_then}
use Rattle.std.specs.List.{list_any}
use Rattle.std.proofs.lemmas.Bool.{eqb-true}
use Rattle.rr_table.proofs.ListFacts.{passes_found}
use Rattle.std.specs.FinMap as fin_map
use Rattle.rr_protocol.specs.declared.kind.Kind.{Kind}
use Rattle.rr_protocol.specs.declared.error.LoanError.{LoanError}
use Rattle.rr_protocol.specs.Messages.{Handle, RequestMutUninit, ResponseMutUninit, ActiveRequest, port_of}
use Rattle.rr_protocol.specs.Ports.{Client}
use Rattle.rr_protocol.specs.State.{State, client_at, is_client_value, is_server_value}
use Rattle.rr_protocol.specs.Queries.{kind_at}
use Rattle.rr_protocol.specs.Loans.{LoansRequest, LoansResponse, empty_content, with_loan_counted}
use Rattle.rr_laws.specs.Apart.{LoansKeepServers}
use Rattle.rr_laws.specs.Reached.{IsReached}
use Rattle.rr_laws.specs.Roles.{roles_of}
use Rattle.rr_laws.specs.Unreduced.{ClientHasPool, ServerHasPool}
use Rattle.rr_laws.proofs.Opening.{some_and, open_active}
use Rattle.rr_laws.proofs.LastingSteps.{loans_request, loans_response}
use Rattle.rr_ports.specs.Facts.{Asks, Answers, AskedLen, Of, WholePool, Has, Names, Keeps, IsFree, of_in, numbers_left}
use Rattle.rr_ports.specs.Owning.{IsBelow, KeepsOwned, Owns}
use Rattle.rr_ports.specs.Queues.{KeepsAwaited, KeepsHeard}
use Rattle.rr_ports.proofs.Belonging.{belongs}
use Rattle.rr_ports.proofs.OwningLaws.{gains_beside, gains_owns, owned_but, owned_equal}
use Rattle.rr_ports.proofs.OwningRefusals.{loan_few}
use Rattle.rr_ports.proofs.OwningResponses.{response_loan_few}
use Rattle.rr_ports.proofs.Sureties.{loan_fits, loan_sure, response_loan_fits}
use Rattle.rr_ports.proofs.QueueLaws.{QueuesStay, queues_same, queues_stay}
use Rattle.rr_ports.proofs.FactLaws.{handle_shows, if_ok, asks, asks_for, answers, is_free, keeps_same, client_has_pool, server_has_pool}
use Rattle.rr_ports.proofs.NameLaws.{handle_no_port}
use Rattle.rr_ports.proofs.GainLaws.{Gains, gains_names, gains_keeps, gains_shows, gains_stays, one_fewer, none_fewer}

-- a client's value lives as before, once a loan was counted
counted_one : {K : Type 0} (n k : ℕ) (c : Client K) → ((with_loan_counted k c).id == n && (with_loan_counted k c).has_value) ≡ (c.id == n && c.has_value)
counted_one n k c = elim (c.id == k) as (λ b. ((cond b (record c { loans_made = c.loans_made + 1 }) c).id == n && (cond b (record c { loans_made = c.loans_made + 1 }) c).has_value) ≡ (c.id == n && c.has_value)) [
  | true ↦ refl
  | false ↦ refl
]

counted_values : {K : Type 0} (n k : ℕ) (clients : List (Client K))
    → list_any (λ c. c.id == n && c.has_value) (map (with_loan_counted k) clients) ≡ list_any (λ c. c.id == n && c.has_value) clients
counted_values n k [] = refl
counted_values n k (c ∷ clients) =
    ap (λ b. b || list_any (λ d. d.id == n && d.has_value) (map (with_loan_counted k) clients)) (counted_one n k c)
    ∙ ap (λ b. (c.id == n && c.has_value) || b) (counted_values n k clients)

module _ {Q QH P PH K : Type 0} where
  -- loans of requests
  module _ (IsDefault : QH → Type 0) (old new : State Q QH P PH K) (n len : ℕ) where
    pub loan_refused : (e : LoanError) → LoansRequest IsDefault old n len (Err e) new → new ≡ old
    loan_refused e loans = (some_and (client_at old n) _ loans).2.1

    pub loan_gains : (k : ℕ) → LoansRequest IsDefault old n len (Ok k) new → Gains k Kind.RequestMutUninit old new
    loan_gains k loans =
        let l = some_and (client_at old n) _ loans in
        let h : Handle Q QH P PH = RequestMutUninit (record {
          number = old.next;
          client = l.0.id;
          request_id = l.0.loans_made;
          channel = l.2.2.0;
          content = empty_content l.2.2.1 len;
        }) in record {
          handle = h;
          handles = ap (λ t. t.handles) l.2.2.4 ∙ ap (λ i. fin_map.insert old.handles i h) (sym l.2.1);
          is_kind = refl;
          ports = record {
            clients = λ i. ap (λ t. is_client_value t i) l.2.2.4 ∙ counted_values i l.0.id old.clients;
            servers = λ i. ap (λ t. is_server_value t i) l.2.2.4;
          };
        }

    pub loan_names : (result : Result ℕ LoanError) → LoansRequest IsDefault old n len result new → IfOk result (λ k. kind_at old k ≡ None)
        → IfOk result (λ k. Names new k Kind.RequestMutUninit)
    loan_names (Ok k) loans free = gains_names k Kind.RequestMutUninit old new (loan_gains k loans) free
    loan_names (Err e) loans free = tt

    pub loan_keeps : (result : Result ℕ LoanError) → LoansRequest IsDefault old n len result new → IfOk result (λ k. kind_at old k ≡ None)
        → Keeps [] old new
    loan_keeps (Ok k) loans free = gains_keeps k Kind.RequestMutUninit old new (loans_request IsDefault old n len (Ok k) new loans) (loan_gains k loans) free
    loan_keeps (Err e) loans free = keeps_same old new (loan_refused e loans)

    pub loan_numbers : (result : Result ℕ LoanError) → LoansRequest IsDefault old n len result new → numbers_left old ≤ numbers_left new + 1
    loan_numbers (Ok k) loans = one_fewer old new (ap (λ t. t.next) (some_and (client_at old n) _ loans).2.2.4)
    loan_numbers (Err e) loans = none_fewer old new (ap (λ t. t.next) (loan_refused e loans))

    -- it asks for so many elements, and has none
    loan_says : (result : Result ℕ LoanError) → LoansRequest IsDefault old n len result new → IfOk result (λ k. kind_at old k ≡ None)
        → IfOk result (λ k. Has new k (Asks []) × Has new k (AskedLen len))
    unfolding loan_gains
    loan_says (Ok k) loans free =
        let shows = gains_shows k Kind.RequestMutUninit old new (loan_gains k loans) free in
        (asks new k _ shows [] refl, asks_for new k _ shows len refl)
    loan_says (Err e) loans free = tt

    -- it is the client's
    loan_of : (result : Result ℕ LoanError) → LoansRequest IsDefault old n len result new → IfOk result (λ k. kind_at old k ≡ None)
        → IfOk result (λ k. Has new k (Of n k))
    unfolding loan_gains Has
    loan_of (Ok k) loans free =
        let l = some_and (client_at old n) _ loans in
        ap (option_and_then of_in) (gains_shows k Kind.RequestMutUninit old new (loan_gains k loans) free)
        ∙ ap (λ i. Some (i, old.next)) (eqb-true l.0.id n (passes_found (λ (c : Client K). c.id == n) old.clients l.0 l.1))
        ∙ ap (λ i. Some (n, i)) (sym l.2.1)
    loan_of (Err e) loans free = tt

    -- what is queued stays
    loan_queues : (result : Result ℕ LoanError) → LoansRequest IsDefault old n len result new → IfOk result (λ k. kind_at old k ≡ None)
        → QueuesStay [] old new
    loan_queues (Ok k) loans free =
        let e = (some_and (client_at old n) _ loans).2.2.4 in
        queues_stay [] old new (gains_stays k Kind.RequestMutUninit old new (loan_gains k loans) free) (ap (λ t. t.requests) e) (ap (λ t. t.responses) e)
    loan_queues (Err e) loans free = queues_same old new (loan_refused e loans)

    -- a loan from a whole pool finds a slot
    loan_found : (result : Result ℕ LoanError) → (ClientHasPool old.limits old n len → result ≢ Err LoanError.OutOfMemory)
        → Names old n Kind.Client → (room : ℕ) → len ≤ room → Has old n (WholePool room) → result ≢ Err LoanError.OutOfMemory
    loan_found result unreduced is room short has = unreduced (client_has_pool old n room len is short has)

    -- it is one more of the client's handles
    loan_port : (k : ℕ) (loans : LoansRequest IsDefault old n len (Ok k) new) → port_of (loan_gains k loans).handle ≡ n
    unfolding loan_gains
    loan_port k loans =
        let l = some_and (client_at old n) _ loans in eqb-true l.0.id n (passes_found (λ (c : Client K). c.id == n) old.clients l.0 l.1)

    loan_owned : (result : Result ℕ LoanError) → LoansRequest IsDefault old n len result new → KeepsOwned (n ∷ []) old new
    loan_owned (Ok k) loans = gains_beside k Kind.RequestMutUninit old new (loan_gains k loans) n (loan_port k loans)
    loan_owned (Err e) loans = owned_but (n ∷ []) old new (owned_equal old new (loan_refused e loans))

    loan_owns : (result : Result ℕ LoanError) → LoansRequest IsDefault old n len result new → (most : ℕ) → Owns old n most
        → IfOk result (λ k. Owns new n (suc most))
    loan_owns (Ok k) loans most owns = gains_owns k Kind.RequestMutUninit old new (loan_gains k loans) n (loan_port k loans) most owns
    loan_owns (Err e) loans most owns = tt

    loan_owns_err : (result : Result ℕ LoanError) → LoansRequest IsDefault old n len result new → IfErr result (λ e. KeepsOwned [] old new)
    loan_owns_err (Ok k) loans = tt
    loan_owns_err (Err e) loans = owned_equal old new (loan_refused e loans)

    -- what the call of a port tells of the loan
    module _ (result : Result ℕ LoanError) (is : Names old n Kind.Client) (reached : IsReached old) (told : record {
      loans : LoansRequest IsDefault old n len result new;
      unnamed : IfOk result (λ k. kind_at old k ≡ None);
      unreduced : ClientHasPool old.limits old n len → result ≢ Err LoanError.OutOfMemory;
    }) where
      pub request_loaned : record {
        loans : LoansRequest IsDefault old n len result new;
        unreduced : ClientHasPool old.limits old n len → result ≢ Err LoanError.OutOfMemory;
        whole : (room : ℕ) → len ≤ room → Has old n (WholePool room) → result ≢ Err LoanError.OutOfMemory;
        free : IfOk result (λ k. IsFree [] old k);
        kind : IfOk result (λ k. Names new k Kind.RequestMutUninit);
        says : IfOk result (λ k. Has new k (Asks []));
        asked : IfOk result (λ k. Has new k (AskedLen len));
        keeps : Keeps [] old new;
        numbers : numbers_left old ≤ numbers_left new + 1;
        of : IfOk result (λ k. Has new k (Of n k));
        heard : KeepsHeard [] old new;
        awaited : KeepsAwaited [] old new;
        owned : KeepsOwned (n ∷ []) old new;
        owns : (most : ℕ) → Owns old n most → IfOk result (λ k. Owns new n (suc most));
        owns_err : IfErr result (λ e. KeepsOwned [] old new);
        few_loans : (most : ℕ) → Owns old n most → IsBelow most old.limits.max_loaned_requests → result ≢ Err LoanError.ExceedsMaxLoans;
        sure : (room : ℕ) → len ≤ room → Has old n (WholePool room) → Owns old n 0 → (error : LoanError) → result ≢ Err error;
      }
      request_loaned = record {
        loans = told.loans;
        unreduced = told.unreduced;
        whole = loan_found result told.unreduced is;
        free = if_ok result told.unnamed (λ k. is_free [] old k);
        kind = loan_names result told.loans told.unnamed;
        says = if_ok result (loan_says result told.loans told.unnamed) (λ k h. h.0);
        asked = if_ok result (loan_says result told.loans told.unnamed) (λ k h. h.1);
        keeps = loan_keeps result told.loans told.unnamed;
        numbers = loan_numbers result told.loans;
        of = loan_of result told.loans told.unnamed;
        heard = (loan_queues result told.loans told.unnamed).0;
        awaited = (loan_queues result told.loans told.unnamed).1;
        owned = loan_owned result told.loans;
        owns = loan_owns result told.loans;
        owns_err = loan_owns_err result told.loans;
        few_loans = λ most owns below. loan_few old new n reached IsDefault len most owns below result told.loans;
        sure = λ room short has owns. loan_sure result (loan_found result told.unreduced is room short has)
            (loan_few old new n reached IsDefault len 0 owns (omega arith) result told.loans)
            (loan_fits old new n len IsDefault (client_has_pool old n room len is short has) result told.loans);
      }

  -- loans of responses
  module _ (IsDefault : PH → Type 0) (old new : State Q QH P PH K) (n len : ℕ) where
    pub response_loan_refused : (e : LoanError) → LoansResponse IsDefault old n len (Err e) new → new ≡ old
    response_loan_refused e loans = (open_active old n _ loans).4.1

    pub response_loan_gains : (k : ℕ) → LoansResponse IsDefault old n len (Ok k) new → Gains k Kind.ResponseMutUninit old new
    response_loan_gains k loans =
        let o = open_active old n _ loans in
        let h : Handle Q QH P PH = ResponseMutUninit (record {
          number = old.next;
          server = o.1.server;
          active_request = n;
          request = o.1.message.number;
          request_id = o.1.message.request_id;
          client = o.1.message.client;
          channel = o.1.message.channel;
          content = empty_content o.4.2.0 len;
        }) in record {
          handle = h;
          handles = ap (λ t. t.handles) o.4.2.2 ∙ ap (λ i. fin_map.insert old.handles i h) (sym o.4.1);
          is_kind = refl;
          ports = record { clients = λ i. ap (λ t. is_client_value t i) o.4.2.2; servers = λ i. ap (λ t. is_server_value t i) o.4.2.2 };
        }

    pub response_loan_names : (result : Result ℕ LoanError) → LoansResponse IsDefault old n len result new → IfOk result (λ k. kind_at old k ≡ None)
        → IfOk result (λ k. Names new k Kind.ResponseMutUninit)
    response_loan_names (Ok k) loans free = gains_names k Kind.ResponseMutUninit old new (response_loan_gains k loans) free
    response_loan_names (Err e) loans free = tt

    pub response_loan_keeps : (result : Result ℕ LoanError) → LoansResponse IsDefault old n len result new → IfOk result (λ k. kind_at old k ≡ None)
        → Keeps [] old new
    response_loan_keeps (Ok k) loans free = gains_keeps k Kind.ResponseMutUninit old new (loans_response IsDefault old n len (Ok k) new loans) (response_loan_gains k loans) free
    response_loan_keeps (Err e) loans free = keeps_same old new (response_loan_refused e loans)

    pub response_loan_numbers : (result : Result ℕ LoanError) → LoansResponse IsDefault old n len result new → numbers_left old ≤ numbers_left new + 1
    response_loan_numbers (Ok k) loans = one_fewer old new (ap (λ t. t.next) (open_active old n _ loans).4.2.2)
    response_loan_numbers (Err e) loans = none_fewer old new (ap (λ t. t.next) (response_loan_refused e loans))

    -- it asks for so many elements, and has none
    response_loan_says : (result : Result ℕ LoanError) → LoansResponse IsDefault old n len result new → IfOk result (λ k. kind_at old k ≡ None)
        → IfOk result (λ k. Has new k (Answers []) × Has new k (AskedLen len))
    unfolding response_loan_gains
    response_loan_says (Ok k) loans free =
        let shows = gains_shows k Kind.ResponseMutUninit old new (response_loan_gains k loans) free in
        (answers new k _ shows [] refl, asks_for new k _ shows len refl)
    response_loan_says (Err e) loans free = tt

    -- it belongs where the active request does
    response_loan_of : Names old n Kind.ActiveRequest → (result : Result ℕ LoanError) → LoansResponse IsDefault old n len result new
        → IfOk result (λ k. kind_at old k ≡ None) → (port request : ℕ) → Has old n (Of port request) → IfOk result (λ k. Has new k (Of port request))
    unfolding response_loan_gains Has
    response_loan_of is (Ok k) loans free port request has =
        let o = open_active old n _ loans in
        ap (option_and_then of_in) (gains_shows k Kind.ResponseMutUninit old new (response_loan_gains k loans) free)
        ∙ sym (ap (option_and_then of_in) (handle_shows old n (ActiveRequest o.1) (handle_no_port old n Kind.ActiveRequest (λ e. cc) (λ e. cc) is).0 o.2)) ∙ has
    response_loan_of is (Err e) loans free port request has = tt

    response_loan_queues : (result : Result ℕ LoanError) → LoansResponse IsDefault old n len result new → IfOk result (λ k. kind_at old k ≡ None)
        → QueuesStay [] old new
    response_loan_queues (Ok k) loans free =
        let e = (open_active old n _ loans).4.2.2 in
        queues_stay [] old new (gains_stays k Kind.ResponseMutUninit old new (response_loan_gains k loans) free) (ap (λ t. t.requests) e) (ap (λ t. t.responses) e)
    response_loan_queues (Err e) loans free = queues_same old new (response_loan_refused e loans)

    -- a loan from a whole pool finds a slot
    response_loan_found : (result : Result ℕ LoanError) → (ServerHasPool old.limits old n len → result ≢ Err LoanError.OutOfMemory)
        → Names old n Kind.ActiveRequest → (room : ℕ) → len ≤ room → Has old n (WholePool room) → result ≢ Err LoanError.OutOfMemory
    response_loan_found result unreduced is room short has = unreduced (server_has_pool old n room len is short has)

    -- it is one more of the server's handles
    module _ (is : Names old n Kind.ActiveRequest) (port request : ℕ) (of : Has old n (Of port request)) where
      response_loan_port : (k : ℕ) (loans : LoansResponse IsDefault old n len (Ok k) new) → port_of (response_loan_gains k loans).handle ≡ port
      unfolding response_loan_gains Has
      response_loan_port k loans =
          let o = open_active old n _ loans in belongs old n Kind.ActiveRequest (λ e. cc) (λ e. cc) is (ActiveRequest o.1) o.2 port request of

      response_loan_owned : (result : Result ℕ LoanError) → LoansResponse IsDefault old n len result new → KeepsOwned (port ∷ []) old new
      response_loan_owned (Ok k) loans = gains_beside k Kind.ResponseMutUninit old new (response_loan_gains k loans) port (response_loan_port k loans)
      response_loan_owned (Err e) loans = owned_but (port ∷ []) old new (owned_equal old new (response_loan_refused e loans))

      response_loan_owns : (result : Result ℕ LoanError) → LoansResponse IsDefault old n len result new → (most : ℕ) → Owns old port most
          → IfOk result (λ k. Owns new port (suc most))
      response_loan_owns (Ok k) loans most owns = gains_owns k Kind.ResponseMutUninit old new (response_loan_gains k loans) port (response_loan_port k loans) most owns
      response_loan_owns (Err e) loans most owns = tt

    response_loan_owns_err : (result : Result ℕ LoanError) → LoansResponse IsDefault old n len result new → IfErr result (λ e. KeepsOwned [] old new)
    response_loan_owns_err (Ok k) loans = tt
    response_loan_owns_err (Err e) loans = owned_equal old new (response_loan_refused e loans)

    -- what the call of a port tells of the loan
    module _ (result : Result ℕ LoanError) (is : Names old n Kind.ActiveRequest) (reached : IsReached old) (keep : LoansKeepServers (roles_of old.handles)) (told : record {
      loans : LoansResponse IsDefault old n len result new;
      unnamed : IfOk result (λ k. kind_at old k ≡ None);
      unreduced : ServerHasPool old.limits old n len → result ≢ Err LoanError.OutOfMemory;
    }) where
      response_few : (port request : ℕ) → Has old n (Of port request) → Owns old port 1 → result ≢ Err LoanError.ExceedsMaxLoans
      unfolding Has
      response_few port request of owns = response_loan_few old new n reached IsDefault len is keep port request of owns result told.loans

      pub response_loaned : record {
        loans : LoansResponse IsDefault old n len result new;
        unreduced : ServerHasPool old.limits old n len → result ≢ Err LoanError.OutOfMemory;
        whole : (room : ℕ) → len ≤ room → Has old n (WholePool room) → result ≢ Err LoanError.OutOfMemory;
        free : IfOk result (λ k. IsFree [] old k);
        kind : IfOk result (λ k. Names new k Kind.ResponseMutUninit);
        says : IfOk result (λ k. Has new k (Answers []));
        asked : IfOk result (λ k. Has new k (AskedLen len));
        keeps : Keeps [] old new;
        numbers : numbers_left old ≤ numbers_left new + 1;
        of : (port request : ℕ) → Has old n (Of port request) → IfOk result (λ k. Has new k (Of port request));
        heard : KeepsHeard [] old new;
        awaited : KeepsAwaited [] old new;
        owned : (port request : ℕ) → Has old n (Of port request) → KeepsOwned (port ∷ []) old new;
        owns : (port request most : ℕ) → Has old n (Of port request) → Owns old port most → IfOk result (λ k. Owns new port (suc most));
        owns_err : IfErr result (λ e. KeepsOwned [] old new);
        few_loans : (port request : ℕ) → Has old n (Of port request) → Owns old port 1 → result ≢ Err LoanError.ExceedsMaxLoans;
        sure : (port request room : ℕ) → Has old n (Of port request) → len ≤ room → Has old n (WholePool room) → Owns old port 1 → (error : LoanError) → result ≢ Err error;
      }
      response_loaned = record {
        loans = told.loans;
        unreduced = told.unreduced;
        whole = response_loan_found result told.unreduced is;
        free = if_ok result told.unnamed (λ k. is_free [] old k);
        kind = response_loan_names result told.loans told.unnamed;
        says = if_ok result (response_loan_says result told.loans told.unnamed) (λ k h. h.0);
        asked = if_ok result (response_loan_says result told.loans told.unnamed) (λ k h. h.1);
        keeps = response_loan_keeps result told.loans told.unnamed;
        numbers = response_loan_numbers result told.loans;
        of = response_loan_of is result told.loans told.unnamed;
        heard = (response_loan_queues result told.loans told.unnamed).0;
        awaited = (response_loan_queues result told.loans told.unnamed).1;
        owned = λ port request of. response_loan_owned is port request of result told.loans;
        owns = λ port request most of. response_loan_owns is port request of result told.loans most;
        owns_err = response_loan_owns_err result told.loans;
        few_loans = λ port request of owns. response_few port request of owns;
        sure = λ port request room of short has owns. loan_sure result (response_loan_found result told.unreduced is room short has)
            (response_few port request of owns)
            (response_loan_fits old new n len IsDefault (server_has_pool old n room len is short has) result told.loans);
      }
