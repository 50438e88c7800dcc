-- Calls that commands and ports share keep that a state follows from its history.
use Rattle.std.proofs.Common.{◌≡◌, ℕ, true, eqb, ◌&&◌, List, [], ◌∷◌, ◌++◌, Some, Result, Ok, Err, refl, sym, ap, ◌∙◌, subst, ⊎_elim, inl, arith, ◌<◌}
use Rattle.std.specs.Prelude.{◌⊎◌, IsSomeAnd}
use Rattle.std.proofs.lemmas.Bool.{eq-eqb}
use Rattle.rr_protocol.specs.declared.settings.BackpressureAction.{BackpressureAction}
use Rattle.rr_protocol.specs.declared.settings.ClientSettings.{ClientSettings}
use Rattle.rr_protocol.specs.declared.settings.ServerSettings.{ServerSettings}
use Rattle.rr_protocol.specs.declared.error.ClientCreateError.{ClientCreateError}
use Rattle.rr_protocol.specs.declared.error.ServerCreateError.{ServerCreateError}
use Rattle.rr_protocol.specs.Messages.{ResponseMessage, Handle, ResponseMut}
use Rattle.rr_protocol.specs.State.{State, handle_at, with_changed, active_at}
use Rattle.rr_protocol.specs.Creation.{CreatesClient, CreatesServer}
use Rattle.rr_protocol.specs.Loans.{LoansRequest, LoansResponse}
use Rattle.rr_protocol.specs.Sends.{SendsResponse}
use Rattle.rr_protocol.specs.Receives.{ReceivesResponse, ReceivesRequest}
use Rattle.rr_protocol.specs.declared.command.Command.{Command}
use Rattle.rr_protocol.specs.declared.reply.Reply.{Reply}
use Rattle.rr_protocol.specs.AnswerRule.{Event, is_active, is_loan, is_sent}
use Rattle.rr_laws.specs.Roles.{role_of, answer_of}
use Rattle.rr_laws.specs.Reached.{IsReached}
use Rattle.rr_laws.specs.Apart.{IsApart}
use Rattle.rr_laws.specs.Following.{Moves, MovesQuietly, WasSent, Follows}
use Rattle.rr_laws.proofs.RoleLaws.{role_at, roles-changed}
use Rattle.rr_laws.proofs.Occurring.{occurs_then}
use Rattle.rr_laws.proofs.Growing.{EventFits, loaned_later}
use Rattle.rr_laws.proofs.Coming.{IsLoan, IsSend, sent_comes}
use Rattle.rr_laws.proofs.Following.{Enters, GainsLoan, follows_loaned}
use Rattle.rr_laws.proofs.FollowingSends.{follows_sent, follows_received, follows_responded}
use Rattle.rr_laws.proofs.Moving.{moves_same, then_quietly}
use Rattle.rr_laws.proofs.MovingSends.{loaned_request_moves, sent_response_moves}
use Rattle.rr_laws.proofs.MovingReceives.{loaned_response_moves, received_request_moves, received_response_moves}

-- equal numbers are found equal
pub both : (n k : ℕ) → (eqb n n && eqb k k) ≡ true
both n k = ap (λ b. b && eqb k k) (eq-eqb n n refl) ∙ eq-eqb k k refl

module _ {Q QH P PH K : Type 0} where
  -- nothing moves where nothing changed
  pub unmoved : (old new : State Q QH P PH K) → new ≡ old → MovesQuietly old new
  unmoved old new same = subst (λ (x : State Q QH P PH K). MovesQuietly old x) (sym same) (moves_same old old (omega arith) refl refl)

  -- a change of a handle that keeps its role
  pub changed_quietly : (s new : State Q QH P PH K) (n : ℕ) (change : Handle Q QH P PH → Handle Q QH P PH)
      → ((h : Handle Q QH P PH) → role_of (change h) ≡ role_of h) → new ≡ with_changed s n change → MovesQuietly s new
  changed_quietly s new n change same is = subst (λ (x : State Q QH P PH K). MovesQuietly s x) (sym is)
      (moves_same s (with_changed s n change) (omega arith) (roles-changed change same s.handles n) refl)

  -- a client is created, or not
  pub creates_client_quietly : (s : State Q QH P PH K) (settings : ClientSettings K) (result : Result ℕ ClientCreateError)
      (new : State Q QH P PH K) → CreatesClient s settings result new → MovesQuietly s new
  creates_client_quietly s settings (Ok number) new made = subst (λ (x : State Q QH P PH K). MovesQuietly s x) (sym made.2)
      (moves_same s _ (omega arith) refl refl)
  creates_client_quietly s settings (Err error) new made = unmoved s new made.1

  -- a server is created, or not
  pub creates_server_quietly : (s : State Q QH P PH K) (settings : ServerSettings K) (result : Result ℕ ServerCreateError)
      (new : State Q QH P PH K) → CreatesServer s settings result new → MovesQuietly s new
  creates_server_quietly s settings (Ok number) new made = subst (λ (x : State Q QH P PH K). MovesQuietly s x) (sym made.2)
      (moves_same s _ (omega arith) refl refl)
  creates_server_quietly s settings (Err error) new made = unmoved s new made.1

module _ {T H K : Type 0} where
  -- what a loan tells
  pub loan_tells : (n len k : ℕ) → IsLoan {T = T} {H = H} {K = K} (Command.Loan n len, Reply.Loaned k) n k
  loan_tells n len k = record {
    sends = refl;
    receives = λ p. refl;
    responds = λ j. refl;
    activates = λ server a p. refl;
    lends = λ j. refl;
    loans = both n k;
  }

module _ {T H Q QH P PH K : Type 0} (history : List (Event T H K)) (old : State Q QH P PH K) where
  -- a send of a response: the event fits, the response was sent, and it enters its list
  pub record SendsNow (event : Event T H K) (new : State Q QH P PH K) (server p k : ℕ) : Type 0 where
    pub send : IsSend event k
    pub comes : EventFits history old.next new.next event
    pub sent : WasSent (history ++ event ∷ []) server p k
    pub moves : Moves (λ n role. ⊥) (Enters server p k) old new

module _ {T H Q QH P PH K : Type 0} (history : List (Event T H K)) (old : State Q QH P PH K) (fits : IsReached old)
    (follows : Follows history old) where
  -- what moves by a loan of a request or of a response
  pub loan_moves : (IsDefaultRequestHeader : QH → Type 0) (IsDefaultResponseHeader : PH → Type 0) (n len k : ℕ) (new : State Q QH P PH K)
      → LoansRequest IsDefaultRequestHeader old n len (Ok k) new ⊎ LoansResponse IsDefaultResponseHeader old n len (Ok k) new →
      Moves (GainsLoan history n k) (λ server p before after. after ≡ before) old new × (k ≡ old.next) × (old.next < new.next)
      × (n < old.next)
  loan_moves IsDefaultRequestHeader IsDefaultResponseHeader n len k new loans = ⊎_elim
      (loaned_request_moves {Gains = GainsLoan history n k} IsDefaultRequestHeader old fits n len k new)
      (loaned_response_moves IsDefaultResponseHeader old fits history follows.held n len k new) loans

  -- after a loan of a request or of a response, and what moves nothing more
  pub loan_follows : (IsDefaultRequestHeader : QH → Type 0) (IsDefaultResponseHeader : PH → Type 0) (event : Event T H K) (n len k : ℕ)
      (mid : State Q QH P PH K) → IsLoan event n k
      → LoansRequest IsDefaultRequestHeader old n len (Ok k) mid ⊎ LoansResponse IsDefaultResponseHeader old n len (Ok k) mid →
      (new : State Q QH P PH K) → MovesQuietly mid new → Follows (history ++ event ∷ []) new
  loan_follows IsDefaultRequestHeader IsDefaultResponseHeader event n len k mid is loans new then =
      let moved = loan_moves IsDefaultRequestHeader IsDefaultResponseHeader n len k mid loans in
      follows_loaned history event old new follows n k is moved.1 (omega (arith, moved.2, then.next)) moved.3
      (then_quietly old mid new moved.0 then)

  -- after a send of a response
  pub follows_send : (event : Event T H K) (new : State Q QH P PH K) (server p k : ℕ) → SendsNow history old event new server p k
      → Follows (history ++ event ∷ []) new
  follows_send event new server p k now = follows_sent history event old new follows server p k now.send now.comes now.sent now.moves

  -- after a receive of a request
  pub request_follows : (n a r : ℕ) (new : State Q QH P PH K) → ReceivesRequest old n (Ok (Some a)) new
      → IsSomeAnd (active_at new a) (λ active. r ≡ active.message.number) →
      Follows (history ++ (Command.Receive n, Reply.Active a r) ∷ []) new
  request_follows n a r new receives told =
      let moved = received_request_moves old n a r new receives told in
      follows_received history old new follows n a r moved.1 moved.2 moved.0

module _ {T H Q QH P PH K : Type 0} (action : K → ℕ → ℕ → BackpressureAction) (history : List (Event T H K)) (old : State Q QH P PH K)
    (fits : IsReached old) (apart : IsApart old) (follows : Follows history old) where
  -- a response that was on loan
  pub sent_now : (n : ℕ) {U : Type 0} (u : U) (new : State Q QH P PH K) → SendsResponse action old n (Ok u) new →
      (m : ResponseMessage P PH) × (handle_at old n ≡ Some (ResponseMut m))
      × SendsNow history old (Command.Send n, Reply.Sent n) new m.server m.request n
  sent_now n u new sends =
      let s = sent_response_moves action old fits apart n u new sends in
      let m = s.0 in
      let here = role_at old.handles n (ResponseMut m) s.1 in
      let was = follows.loaned n (answer_of m) here in (
        m,
        s.1,
        record {
          send = record { sends = refl; receives = λ p. refl; responds = λ j. refl };
          comes = sent_comes history old.next new.next n (fits.handles n _ here).below s.2.next;
          sent = record {
            lender = m.active_request;
            loaned = loaned_later history (Command.Send n, Reply.Sent n) m.server m.request m.active_request n was.0 refl refl;
            occurs = inl (occurs_then (is_active m.active_request m.request ∷ is_loan m.active_request n ∷ []) (is_sent n) history
                (Command.Send n, Reply.Sent n) was.1 (eq-eqb n n refl));
          };
          moves = s.2;
        },
      )

  -- after its send
  pub sent_follows : (n k : ℕ) (new : State Q QH P PH K) → k ≡ n → SendsResponse action old n (Ok k) new
      → Follows (history ++ (Command.Send n, Reply.Sent k) ∷ []) new
  sent_follows n k new is sends =
      let now = sent_now n k new sends in
      subst (λ j. Follows (history ++ (Command.Send n, Reply.Sent j) ∷ []) new) (sym is)
      (follows_send history old fits follows _ new now.0.server now.0.request n now.2)

  -- after a receive of a response
  pub response_follows : (n k : ℕ) (new : State Q QH P PH K) → IsApart new → ReceivesResponse old n (Ok (Some k)) new
      → Follows (history ++ (Command.Receive n, Reply.Response k) ∷ []) new
  response_follows n k new after receives =
      let taken = received_response_moves old fits apart n k new after receives in
      follows_responded history old new follows taken.0 n k taken.1.moves taken.1.first taken.1.absent taken.1.unloaned
