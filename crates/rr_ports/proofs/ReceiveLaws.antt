-- What the call of a server, and of a pending response, tells of what it receives.
use Rattle.std.proofs.Common.{◌≡◌, ◌≢◌, ℕ, suc, ◌+◌, ◌-◌, ◌^◌, ◌≤◌, List, [], ◌∷◌, Option, Some, None, refl, sym, ap, ◌∙◌, subst, arith, Result, Ok, Err}
use Rattle.std.specs.Prelude.{IfErr, IfOk, IfSome, option_and_then}
use Rattle.std.specs.FinMap as fin_map
use Rattle.rr_protocol.specs.declared.kind.Kind.{Kind}
use Rattle.rr_protocol.specs.declared.error.ReceiveError.{ReceiveError}
use Rattle.rr_protocol.specs.Keys.{request_key}
use Rattle.rr_protocol.specs.Messages.{Handle, ActiveRequest, PendingResponse, Response, port_of, response_key}
use Rattle.rr_protocol.specs.State.{State, pending_at, is_client_value, is_server_value}
use Rattle.rr_protocol.specs.Queries.{kind_at}
use Rattle.rr_protocol.specs.Receives.{ReceivesRequest, ReceivesResponse}
use Rattle.rr_laws.specs.Apart.{ChannelsApart}
use Rattle.std.specs.List.{AllByRecursion}
use Rattle.rr_laws.specs.Reached.{IsReached, ResponseFits}
use Rattle.rr_laws.specs.Roles.{roles_of}
use Rattle.rr_laws.proofs.Opening.{from_pending, some_and}
use Rattle.rr_ports.proofs.Belonging.{belongs}
use Rattle.rr_laws.proofs.LastingSteps.{receives_request, receives_response}
use Rattle.rr_ports.specs.Facts.{Asks, Answers, Of, WholePool, Has, Names, Keeps, IsFree, of_in, shown_at, numbers_left}
use Rattle.rr_ports.specs.Owning.{IsBelow, KeepsOwned, Owns}
use Rattle.rr_ports.specs.Queues.{Awaits, AwaitsNothing, Hears, HearsNothing, KeepsAwaited, KeepsHeard}
use Rattle.rr_ports.proofs.QueueLaws.{Stays, heard_stays, stays_each, awaited_stays}
use Rattle.rr_ports.proofs.HeardReceives.{hears_asks, hears_missed, hears_of, hears_quiet, received_heard, received_responses}
use Rattle.rr_ports.proofs.AwaitedReceives.{awaits_answers, awaits_done, awaits_later, awaits_missed, came_requests, others_await, response_of}
use Rattle.rr_ports.proofs.FactLaws.{if_ok, if_some, is_free, keeps_each, keeps_same, active_pool}
use Rattle.rr_ports.proofs.ReleaseLaws.{SameNames, names_then, names_equal, names_ports, names_each}
use Rattle.rr_ports.proofs.Sureties.{came_sure, receive_sure}
use Rattle.rr_ports.proofs.SkimLaws.{skims_names, takes_names}
use Rattle.rr_ports.proofs.OwningLaws.{gains_beside, gains_owns, owned_but, owned_equal, owned_same}
use Rattle.rr_ports.proofs.OwningRefusals.{came_few, receive_few}
use Rattle.rr_ports.proofs.GainLaws.{Gains, gains_names, gains_keeps, gains_shows, gains_stays, one_fewer, none_fewer}

-- receives
module _ {Q QH P PH K : Type 0} where
  module _ (old new : State Q QH P PH K) (server : ℕ) where
    -- nothing was received
    none_names : ReceivesRequest old server (Ok None) new → SameNames old new
    none_names receives =
        let r = receives.1 in names_then old r.1 new (skims_names r.0 old r.1 server r.2) (names_equal r.1 new r.3.1)

    refused_names : (error : ReceiveError) → ReceivesRequest old server (Err error) new → SameNames old new
    refused_names ReceiveError.ExceedsMaxBorrows receives =
        let r = receives.1 in names_then old r.1 new (skims_names r.0 old r.1 server r.2) (names_equal r.1 new r.3.2)
    refused_names (ReceiveError.ConnectionFailure failure) receives = absurd (receives.1.3)

    module _ (a : ℕ) (receives : ReceivesRequest old server (Ok (Some a)) new) where
      received_gains : Gains a Kind.ActiveRequest old new
      received_gains =
          let r = receives.1 in
          let u = r.3.1 in
          let same = names_then old r.1 u.2 (skims_names r.0 old r.1 server r.2) (takes_names r.1 u.2 (request_key u.0 server) u.1 u.3) in
          let h : Handle Q QH P PH = ActiveRequest (record { message = u.1; server = server }) in
          record {
            handle = h;
            handles = ap (λ t. t.handles) u.5 ∙ ap (λ hs. fin_map.insert hs u.2.next h) same.handles
                ∙ ap (λ i. fin_map.insert old.handles i h) (same.next ∙ sym (r.3.0 ∙ (skims_names r.0 old r.1 server r.2).next));
            is_kind = refl;
            ports = record {
              clients = λ j. ap (λ t. is_client_value t j) u.5 ∙ (names_ports old u.2 same).clients j;
              servers = λ j. ap (λ t. is_server_value t j) u.5 ∙ (names_ports old u.2 same).servers j;
            };
          }

      received_next : new.next ≡ old.next + 1
      received_next =
          let r = receives.1 in
          let u = r.3.1 in
          let same = names_then old r.1 u.2 (skims_names r.0 old r.1 server r.2) (takes_names r.1 u.2 (request_key u.0 server) u.1 u.3) in
          ap (λ t. t.next) u.5 ∙ ap (λ i. i + 1) same.next

    pub received_names : (result : Result (Option ℕ) ReceiveError) → ReceivesRequest old server result new
        → IfOk result (λ o. IfSome o (λ k. kind_at old k ≡ None)) → IfOk result (λ o. IfSome o (λ k. Names new k Kind.ActiveRequest))
    received_names (Ok (Some k)) receives free = gains_names k Kind.ActiveRequest old new (received_gains k receives) free
    received_names (Ok None) receives free = tt
    received_names (Err e) receives free = tt

    pub received_keeps : (result : Result (Option ℕ) ReceiveError) → ReceivesRequest old server result new
        → IfOk result (λ o. IfSome o (λ k. kind_at old k ≡ None)) → Keeps [] old new
    received_keeps (Ok (Some k)) receives free = gains_keeps k Kind.ActiveRequest old new (receives_request old server (Ok (Some k)) new receives) (received_gains k receives) free
    received_keeps (Ok None) receives free = keeps_each old new (receives_request old server (Ok None) new receives) (names_each old new (none_names receives)).shown
    received_keeps (Err e) receives free = keeps_each old new (receives_request old server (Err e) new receives) (names_each old new (refused_names e receives)).shown

    pub received_numbers : (result : Result (Option ℕ) ReceiveError) → ReceivesRequest old server result new
        → numbers_left old ≤ numbers_left new + 1
    received_numbers (Ok (Some k)) receives = one_fewer old new (received_next k receives)
    received_numbers (Ok None) receives = none_fewer old new (none_names receives).next
    received_numbers (Err e) receives = none_fewer old new (refused_names e receives).next

    -- other numbers show what they showed
    received_stays : (result : Result (Option ℕ) ReceiveError) → ReceivesRequest old server result new
        → IfOk result (λ o. IfSome o (λ k. kind_at old k ≡ None)) → Stays [] old new
    received_stays (Ok (Some k)) receives free = gains_stays k Kind.ActiveRequest old new (received_gains k receives) free
    received_stays (Ok None) receives free = stays_each old new (names_each old new (none_names receives)).shown
    received_stays (Err e) receives free = stays_each old new (names_each old new (refused_names e receives)).shown

    -- an active request loans from its server's pool
    received_pool : Names old server Kind.Server → (result : Result (Option ℕ) ReceiveError) → ReceivesRequest old server result new
        → IfOk result (λ o. IfSome o (λ k. kind_at old k ≡ None)) → (room : ℕ) → Has old server (WholePool room)
        → IfOk result (λ o. IfSome o (λ k. Has new k (WholePool room)))
    unfolding received_gains
    received_pool is (Ok (Some k)) receives free room has =
        active_pool old new (receives_request old server (Ok (Some k)) new receives) server k is _
        (gains_shows k Kind.ActiveRequest old new (received_gains k receives) free) refl refl room has
    received_pool is (Ok None) receives free room has = tt
    received_pool is (Err e) receives free room has = tt

    -- it is the server's
    received_port : (result : Result (Option ℕ) ReceiveError) → ReceivesRequest old server result new
        → IfOk result (λ o. IfSome o (λ k. kind_at old k ≡ None)) → IfOk result (λ o. IfSome o (λ k. (request : ℕ) × Has new k (Of server request)))
    unfolding received_gains Has
    received_port (Ok (Some k)) receives free =
        (_, ap (option_and_then of_in) (gains_shows k Kind.ActiveRequest old new (received_gains k receives) free))
    received_port (Ok None) receives free = tt
    received_port (Err e) receives free = tt

    -- it is one more of the server's handles
    received_owned : (result : Result (Option ℕ) ReceiveError) → ReceivesRequest old server result new → KeepsOwned (server ∷ []) old new
    unfolding received_gains
    received_owned (Ok (Some k)) receives = gains_beside k Kind.ActiveRequest old new (received_gains k receives) server refl
    received_owned (Ok None) receives = owned_but (server ∷ []) old new (owned_same old new (ap roles_of (none_names receives).handles))
    received_owned (Err e) receives = owned_but (server ∷ []) old new (owned_same old new (ap roles_of (refused_names e receives).handles))

    received_owns : (result : Result (Option ℕ) ReceiveError) → ReceivesRequest old server result new → (most : ℕ) → Owns old server most
        → IfOk result (λ o. IfSome o (λ k. Owns new server (suc most)))
    unfolding received_gains
    received_owns (Ok (Some k)) receives most owns = gains_owns k Kind.ActiveRequest old new (received_gains k receives) server refl most owns
    received_owns (Ok None) receives most owns = tt
    received_owns (Err e) receives most owns = tt

    received_owns_err : (result : Result (Option ℕ) ReceiveError) → ReceivesRequest old server result new → IfErr result (λ e. KeepsOwned [] old new)
    received_owns_err (Ok o) receives = tt
    received_owns_err (Err e) receives = owned_same old new (ap roles_of (refused_names e receives).handles)

    -- what the call of a server tells of it
    pub request_received : (result : Result (Option ℕ) ReceiveError) → Names old server Kind.Server → IsReached old → record {
      receives : ReceivesRequest old server result new;
      unnamed : IfOk result (λ o. IfSome o (λ k. kind_at old k ≡ None));
    }
        → record {
          receives : ReceivesRequest old server result new;
          free : IfOk result (λ o. IfSome o (λ k. IsFree [] old k));
          kind : IfOk result (λ o. IfSome o (λ k. Names new k Kind.ActiveRequest));
          pool : (room : ℕ) → Has old server (WholePool room) → IfOk result (λ o. IfSome o (λ k. Has new k (WholePool room)));
          keeps : Keeps [] old new;
          numbers : numbers_left old ≤ numbers_left new + 1;
          of : (p : ℕ) → Hears old server p → IfOk result (λ o. IfSome o (λ k. Has new k (Of server p)));
          asks : (p : ℕ) (xs : List Q) → Hears old server p → Has old p (Asks xs) → IfOk result (λ o. IfSome o (λ k. Has new k (Asks xs)));
          missed : (p : ℕ) → Hears old server p → result ≢ Ok None;
          port : IfOk result (λ o. IfSome o (λ k. (request : ℕ) × Has new k (Of server request)));
          quiet : (p : ℕ) → Hears old server p → IfOk result (λ o. HearsNothing new server);
          heard : KeepsHeard (server ∷ []) old new;
          awaited : KeepsAwaited [] old new;
          owned : KeepsOwned (server ∷ []) old new;
          owns : (most : ℕ) → Owns old server most → IfOk result (λ o. IfSome o (λ k. Owns new server (suc most)));
          owns_none : result ≡ Ok None → KeepsOwned [] old new;
          owns_err : IfErr result (λ e. KeepsOwned [] old new);
          few_borrows : (most : ℕ) → Owns old server most → IsBelow most old.limits.max_active_requests_per_client → result ≢ Err ReceiveError.ExceedsMaxBorrows;
          sure : Owns old server 0 → (error : ReceiveError) → result ≢ Err error;
        }
    request_received result is reached told = record {
      receives = told.receives;
      free = if_ok result told.unnamed (λ o h. if_some o h (λ k. is_free [] old k));
      kind = received_names result told.receives told.unnamed;
      pool = received_pool is result told.receives told.unnamed;
      keeps = received_keeps result told.receives told.unnamed;
      numbers = received_numbers result told.receives;
      of = λ p hears. hears_of old new server p hears result told.receives (received_names result told.receives told.unnamed);
      asks = λ p xs hears has. hears_asks old new server p hears xs has result told.receives (received_names result told.receives told.unnamed);
      missed = λ p hears. hears_missed old new server p hears result told.receives;
      port = received_port result told.receives told.unnamed;
      quiet = λ p hears. hears_quiet old new server p hears result told.receives;
      heard = received_heard old new server result told.receives (received_stays result told.receives told.unnamed);
      awaited = awaited_stays [] old new (received_stays result told.receives told.unnamed) (received_responses old new server result told.receives);
      owned = received_owned result told.receives;
      owns = received_owns result told.receives;
      owns_none = λ none. owned_same old new (ap roles_of (none_names (subst (λ r. ReceivesRequest old server r new) none told.receives)).handles);
      owns_err = received_owns_err result told.receives;
      few_borrows = λ most owns below. receive_few old new server reached most owns below result told.receives;
      sure = λ owns. receive_sure old new server result (receive_few old new server reached 0 owns (omega arith) result told.receives) told.receives;
    }

  -- receives of responses
  module _ (old new : State Q QH P PH K) (n : ℕ) where
    no_response : ReceivesResponse old n (Ok None) new → new ≡ old
    no_response receives = (some_and (pending_at old n) _ receives).2.1

    response_refused : (error : ReceiveError) → ReceivesResponse old n (Err error) new → new ≡ old
    response_refused ReceiveError.ExceedsMaxBorrows receives = (some_and (pending_at old n) _ receives).2.2
    response_refused (ReceiveError.ConnectionFailure failure) receives = absurd receives

    module _ (k : ℕ) (receives : ReceivesResponse old n (Ok (Some k)) new) where
      came_gains : Gains k Kind.Response old new
      came_gains =
          let p = some_and (pending_at old n) _ receives in
          let e = p.2.5 in
          let t = p.2.3.1.2 in
          record {
            handle = Response p.2.1;
            handles = ap (λ x. x.handles) e ∙ ap (λ hs. fin_map.insert hs k (Response p.2.1)) (ap (λ x. x.handles) t);
            is_kind = refl;
            ports = record {
              clients = λ j. ap (λ x. is_client_value x j) e ∙ ap (λ x. is_client_value x j) t;
              servers = λ j. ap (λ x. is_server_value x j) e ∙ ap (λ x. is_server_value x j) t;
            };
          }

      came_next : new.next ≡ old.next
      came_next = let p = some_and (pending_at old n) _ receives in ap (λ x. x.next) p.2.5 ∙ ap (λ x. x.next) p.2.3.1.2

    pub came_names : (result : Result (Option ℕ) ReceiveError) → ReceivesResponse old n result new
        → IfOk result (λ o. IfSome o (λ k. kind_at old k ≡ None)) → IfOk result (λ o. IfSome o (λ k. Names new k Kind.Response))
    came_names (Ok (Some k)) receives free = gains_names k Kind.Response old new (came_gains k receives) free
    came_names (Ok None) receives free = tt
    came_names (Err e) receives free = tt

    pub came_keeps : (result : Result (Option ℕ) ReceiveError) → ReceivesResponse old n result new
        → IfOk result (λ o. IfSome o (λ k. kind_at old k ≡ None)) → Keeps [] old new
    came_keeps (Ok (Some k)) receives free = gains_keeps k Kind.Response old new (receives_response old n (Ok (Some k)) new receives) (came_gains k receives) free
    came_keeps (Ok None) receives free = keeps_same old new (no_response receives)
    came_keeps (Err e) receives free = keeps_same old new (response_refused e receives)

    pub came_numbers : (result : Result (Option ℕ) ReceiveError) → ReceivesResponse old n result new → numbers_left new ≡ numbers_left old
    unfolding numbers_left
    came_numbers (Ok (Some k)) receives = ap (λ i. 2 ^ 62 - i) (came_next k receives)
    came_numbers (Ok None) receives = ap numbers_left (no_response receives)
    came_numbers (Err e) receives = ap numbers_left (response_refused e receives)

    named_kind : Names old n Kind.PendingResponse → kind_at old n ≡ Some Kind.PendingResponse
    unfolding Has
    named_kind is = is

    came_stays : (result : Result (Option ℕ) ReceiveError) → ReceivesResponse old n result new
        → IfOk result (λ o. IfSome o (λ k. kind_at old k ≡ None)) → Stays [] old new
    came_stays (Ok (Some k)) receives free = gains_stays k Kind.Response old new (came_gains k receives) free
    came_stays (Ok None) receives free = stays_each old new (λ i. ap (λ t. shown_at t i) (no_response receives))
    came_stays (Err e) receives free = stays_each old new (λ i. ap (λ t. shown_at t i) (response_refused e receives))

    -- it belongs to the client that asked
    module _ (is : Names old n Kind.PendingResponse) (reached : IsReached old) (port request : ℕ) (of : Has old n (Of port request)) where
      came_port : (k : ℕ) (receives : ReceivesResponse old n (Ok (Some k)) new) → port_of (came_gains k receives).handle ≡ port
      unfolding came_gains
      came_port k receives =
          let p = some_and (pending_at old n) _ receives in
          let key = response_key p.0 p.2.0 in
          (subst (AllByRecursion (ResponseFits old.clients old.servers (roles_of old.handles) old.next key)) p.2.3.1.1 (reached.response_lists.each key)).0.client
          ∙ belongs old n Kind.PendingResponse (λ e. cc) (λ e. cc) (named_kind is) (PendingResponse p.0) (from_pending _ p.0 p.1) port request of

      came_owned : (result : Result (Option ℕ) ReceiveError) → ReceivesResponse old n result new → KeepsOwned (port ∷ []) old new
      came_owned (Ok (Some k)) receives = gains_beside k Kind.Response old new (came_gains k receives) port (came_port k receives)
      came_owned (Ok None) receives = owned_but (port ∷ []) old new (owned_equal old new (no_response receives))
      came_owned (Err e) receives = owned_but (port ∷ []) old new (owned_equal old new (response_refused e receives))

      came_owns : (result : Result (Option ℕ) ReceiveError) → ReceivesResponse old n result new → (most : ℕ) → Owns old port most
          → IfOk result (λ o. IfSome o (λ k. Owns new port (suc most)))
      came_owns (Ok (Some k)) receives most owns = gains_owns k Kind.Response old new (came_gains k receives) port (came_port k receives) most owns
      came_owns (Ok None) receives most owns = tt
      came_owns (Err e) receives most owns = tt

    came_owns_err : (result : Result (Option ℕ) ReceiveError) → ReceivesResponse old n result new → IfErr result (λ e. KeepsOwned [] old new)
    came_owns_err (Ok o) receives = tt
    came_owns_err (Err e) receives = owned_equal old new (response_refused e receives)

    -- what the call of a pending response tells of it
    pub response_received : (result : Result (Option ℕ) ReceiveError) → Names old n Kind.PendingResponse → IsReached old
        → ChannelsApart (roles_of old.handles) → record {
          receives : ReceivesResponse old n result new;
          unnamed : IfOk result (λ o. IfSome o (λ k. kind_at old k ≡ None));
        }
        → record {
          receives : ReceivesResponse old n result new;
          free : IfOk result (λ o. IfSome o (λ k. IsFree [] old k));
          kind : IfOk result (λ o. IfSome o (λ k. Names new k Kind.Response));
          keeps : Keeps [] old new;
          numbers : numbers_left new ≡ numbers_left old;
          answers : (server : ℕ) (xs : List P) (later : List (List P)) → Awaits old n server (xs ∷ later) → IfOk result (λ o. IfSome o (λ k. Has new k (Answers xs)));
          missed : (server : ℕ) (xs : List P) (later : List (List P)) → Awaits old n server (xs ∷ later) → result ≢ Ok None;
          later : (server : ℕ) (xs : List P) (later : List (List P)) → Awaits old n server (xs ∷ later) → IfOk result (λ o. Awaits new n server later);
          done : (server : ℕ) (xs : List P) → Awaits old n server (xs ∷ []) → IfOk result (λ o. AwaitsNothing new n);
          of : (port request : ℕ) → Has old n (Of port request) → IfOk result (λ o. IfSome o (λ k. Has new k (Of port request)));
          heard : KeepsHeard [] old new;
          awaited : KeepsAwaited (n ∷ []) old new;
          owned : (port request : ℕ) → Has old n (Of port request) → KeepsOwned (port ∷ []) old new;
          owns : (port request most : ℕ) → Has old n (Of port request) → Owns old port most → IfOk result (λ o. IfSome o (λ k. Owns new port (suc most)));
          owns_none : result ≡ Ok None → KeepsOwned [] old new;
          owns_err : IfErr result (λ e. KeepsOwned [] old new);
          few_borrows : (port request most : ℕ) → Has old n (Of port request) → Owns old port (suc most) → IsBelow most old.limits.max_borrowed_responses_per_pending_response → result ≢ Err ReceiveError.ExceedsMaxBorrows;
          sure : (port request : ℕ) → Has old n (Of port request) → Owns old port 1 → (error : ReceiveError) → result ≢ Err error;
        }
    response_received result is reached channels told = record {
      receives = told.receives;
      free = if_ok result told.unnamed (λ o h. if_some o h (λ k. is_free [] old k));
      kind = came_names result told.receives told.unnamed;
      keeps = came_keeps result told.receives told.unnamed;
      numbers = came_numbers result told.receives;
      answers = λ server xs later awaits. awaits_answers old new n server xs later awaits result told.receives (came_names result told.receives told.unnamed);
      missed = λ server xs later awaits. awaits_missed old new n server xs later awaits result told.receives;
      later = λ server xs later awaits. awaits_later old new n server xs later awaits (came_stays result told.receives told.unnamed) result told.receives;
      done = λ server xs awaits. awaits_done old new n server xs [] awaits refl (came_stays result told.receives told.unnamed) result told.receives;
      of = response_of old new n (named_kind is) reached channels result told.receives (came_names result told.receives told.unnamed);
      heard = heard_stays [] old new (came_stays result told.receives told.unnamed) (came_requests old new n (named_kind is) result told.receives);
      awaited = others_await old new n (named_kind is) channels result told.receives (came_stays result told.receives told.unnamed);
      owned = λ port request of. came_owned is reached port request of result told.receives;
      owns = λ port request most of. came_owns is reached port request of result told.receives most;
      owns_none = λ none. owned_equal old new (no_response (subst (λ r. ReceivesResponse old n r new) none told.receives));
      owns_err = came_owns_err result told.receives;
      few_borrows = λ port request most of owns below. came_few old new n reached (named_kind is) port request most of owns below result told.receives;
      sure = λ port request of owns. came_sure old new n result
          (came_few old new n reached (named_kind is) port request 0 of owns (omega arith) result told.receives) told.receives;
    }
