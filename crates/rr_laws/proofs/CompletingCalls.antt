-- Calls that commands and ports share keep that a request has received all that does not stand in a list.
use Rattle.std.proofs.Common.{◌≡◌, ℕ, ◌<◌, false, eqb, List, [], ◌∷◌, ◌++◌, Some, Ok, Err, refl, sym, ◌∙◌, subst, ⊎_elim, inl, inr, arith, None}
use Rattle.std.specs.Prelude.{IsSomeAnd, ◌⊎◌}
use Rattle.std.proofs.lemmas.Bool.{eq-eqb, eqb-true}
use Rattle.rr_slots.specs.declared.family.Family.{Family}
use Rattle.rr_protocol.specs.declared.settings.BackpressureAction.{BackpressureAction}
use Rattle.rr_protocol.specs.declared.settings.ServerSettings.{ServerSettings}
use Rattle.rr_protocol.specs.declared.error.ReceiveError.{ReceiveError}
use Rattle.rr_protocol.specs.Ports.{Server}
use Rattle.rr_protocol.specs.State.{State, active_at, pending_at}
use Rattle.rr_protocol.specs.Creation.{CreatesServer}
use Rattle.rr_protocol.specs.Loans.{LoansRequest, LoansResponse}
use Rattle.rr_protocol.specs.Sends.{SendsResponse}
use Rattle.rr_protocol.specs.Receives.{ReceivesRequest, ReceivesResponse}
use Rattle.rr_protocol.specs.Releases.{after_release}
use Rattle.rr_protocol.specs.declared.command.Command.{Command}
use Rattle.rr_protocol.specs.declared.reply.Reply.{Reply}
use Rattle.rr_protocol.specs.Step.{server_settings}
use Rattle.rr_protocol.specs.AnswerRule.{Event, creates_waiting}
use Rattle.rr_laws.specs.Apart.{IsApart}
use Rattle.rr_laws.specs.Following.{queued, MovesQuietly, Follows}
use Rattle.rr_laws.specs.Settling.{IsNew, Settles}
use Rattle.rr_laws.specs.Completing.{IsUnderWay, Completes}
use Rattle.rr_laws.specs.Standing.{Stands}
use Rattle.rr_laws.proofs.Opening.{some_and}
use Rattle.rr_laws.proofs.Connected.{has_below}
use Rattle.rr_laws.proofs.Occurring.{false_is_true}
use Rattle.rr_laws.proofs.Telling.{IsSilent, silent, three_true}
use Rattle.rr_laws.proofs.Growing.{loaned_below}
use Rattle.rr_laws.proofs.Coming.{IsLoan, silent_comes, loan_comes, received_comes, responded_comes}
use Rattle.rr_laws.proofs.FollowingCalls.{unmoved, creates_server_quietly, sent_now, loan_moves}
use Rattle.rr_laws.proofs.Following.{first_was_sent}
use Rattle.rr_laws.proofs.Moving.{then_quietly}
use Rattle.rr_laws.proofs.MovingReleases.{after_release_quietly}
use Rattle.rr_laws.proofs.MovingReceives.{received_request_moves, received_response_moves, refused_request_quietly, no_request_quietly}
use Rattle.rr_laws.proofs.Settling.{then_settles}
use Rattle.rr_laws.proofs.SettlingHandles.{after_release_settles}
use Rattle.rr_laws.proofs.SettlingSends.{listed_below, loaned_request_settles, loaned_response_settles, received_request_settles}
use Rattle.rr_laws.proofs.SettlingResponses.{sent_response_settles}
use Rattle.rr_laws.proofs.SettlingServers.{new_server_settles, received_listed, created_waits}
use Rattle.rr_laws.proofs.CompletingEvents.{completes_quietly, completes_sent, completes_responded}
use Rattle.rr_laws.proofs.SettlingWrites.{SettlesQuietly, unsettled}

-- what is known of a step's new state: that it follows, and has the same limits
abbrev pub Steps : {T H Q QH P PH K : Type 0} → List (Event T H K) → State Q QH P PH K → Command T H K → Reply T H
    → State Q QH P PH K → Type 0
Steps history old command reply new = Follows (history ++ (command, reply) ∷ []) new × (new.limits ≡ old.limits)

-- a receive of a response that is refused changes nothing
refused_same : {Q QH P PH K : Type 0} (old : State Q QH P PH K) (n : ℕ) (error : ReceiveError) (new : State Q QH P PH K)
    → ReceivesResponse old n (Err error) new → new ≡ old
refused_same old n ReceiveError.ExceedsMaxBorrows new receives = (some_and (pending_at old n) _ receives).2.2
refused_same old n (ReceiveError.ConnectionFailure failure) new receives = absurd receives

module _ {T H Q QH P PH K : Type 0} (history : List (Event T H K)) (old : State Q QH P PH K) (stands : Stands history old) where
  -- after an event that tells nothing, and creates and releases no server
  pub quiet_completes : (command : Command T H K) (reply : Reply T H) (new : State Q QH P PH K) → IsSilent (command, reply)
      → ((n : ℕ) → creates_waiting n (command, reply) ≡ false) → Steps history old command reply new → MovesQuietly old new
      → SettlesQuietly old new → Completes (history ++ (command, reply) ∷ []) new
  quiet_completes command reply new quiet plain steps moves settles =
      completes_quietly history (command, reply) old new stands.fits stands.completes steps.1 stands.follows steps.0
      (silent_comes history (command, reply) old.next new.next quiet moves.next) settles moves quiet.sends quiet.receives
      (λ a server p is. absurd (false_is_true (sym (quiet.activates server a p) ∙ is)))
      (λ n is. absurd (false_is_true (sym (plain n) ∙ is))) (λ n e. absurd e)

  -- after such an event that changes nothing
  pub unchanged_completes : (command : Command T H K) (reply : Reply T H) (new : State Q QH P PH K) → IsSilent (command, reply)
      → ((n : ℕ) → creates_waiting n (command, reply) ≡ false) → Steps history old command reply new → new ≡ old
      → Completes (history ++ (command, reply) ∷ []) new
  unchanged_completes command reply new quiet plain steps same = quiet_completes command reply new quiet plain steps
      (unmoved old new same) (unsettled old new same)

  -- after a server is created, of which a family reads the settings
  pub server_completes : (family : Family) (settings : ServerSettings K) (n : ℕ) (new : State Q QH P PH K)
      → Steps history old (Command.CreateServer settings) (Reply.Created n) new
      → CreatesServer old (server_settings family settings) (Ok n) new
      → Completes (history ++ (Command.CreateServer settings, Reply.Created n) ∷ []) new
  server_completes family settings n new steps made =
      let quiet : IsSilent {T = T} {H = H} {K = K} (Command.CreateServer settings, Reply.Created n) = silent _ _ refl in
      let moves = creates_server_quietly old (server_settings family settings) (Ok n) new made in
      completes_quietly history (Command.CreateServer settings, Reply.Created n) old new stands.fits stands.completes steps.1 stands.follows
      steps.0 (silent_comes history (Command.CreateServer settings, Reply.Created n) old.next new.next quiet moves.next)
      {Ends = λ k. ⊥}
      (subst (λ (x : State Q QH P PH K). SettlesQuietly old x) (sym made.2)
      (new_server_settles old _ _ stands.fits (omega arith) refl refl refl refl refl))
      moves refl (λ p. refl) (λ a server p is. absurd (false_is_true is))
      (λ k is. created_waits T H family old stands.fits settings n new made k is) (λ k e. absurd e)

  -- after a release
  pub release_completes : (n : ℕ) (new : State Q QH P PH K) → Steps history old (Command.Release n) Reply.Done new
      → new ≡ after_release old n
      → Completes (history ++ (Command.Release n, Reply.Done) ∷ []) new
  release_completes n new steps is =
      let quiet : IsSilent {T = T} {H = H} {K = K} (Command.Release n, Reply.Done) = silent _ _ refl in
      let moves = subst (λ (x : State Q QH P PH K). MovesQuietly old x) (sym is) (after_release_quietly old n stands.fits) in
      completes_quietly history (Command.Release n, Reply.Done) old new stands.fits stands.completes steps.1 stands.follows steps.0
      (silent_comes history (Command.Release n, Reply.Done) old.next new.next quiet moves.next)
      {Ends = λ k. k ≡ n}
      (subst (λ (x : State Q QH P PH K). Settles (IsNew old) (λ k. k ≡ n) (λ server p before after. after ≡ before) old x) (sym is)
      (after_release_settles old n stands.fits stands.apart.channels stands.left (λ none. refl)))
      moves refl (λ p. refl) (λ a server p is. absurd (false_is_true is)) (λ k is. absurd (false_is_true is)) (λ k e. eq-eqb n k (sym e))

  -- after a loan of a request or of a response, and what moves nothing more
  pub loan_completes : (IsDefaultRequestHeader : QH → Type 0) (IsDefaultResponseHeader : PH → Type 0)
      (command : Command T H K) (reply : Reply T H) (n len k : ℕ) (mid : State Q QH P PH K) → IsLoan (command, reply) n k
      → ((n : ℕ) → creates_waiting n (command, reply) ≡ false)
      → LoansRequest IsDefaultRequestHeader old n len (Ok k) mid ⊎ LoansResponse IsDefaultResponseHeader old n len (Ok k) mid →
      (new : State Q QH P PH K) → MovesQuietly mid new → Settles (IsNew old) (λ n. ⊥) (λ server p before after. after ≡ before) mid new
      → Steps history old command reply new → Completes (history ++ (command, reply) ∷ []) new
  loan_completes IsDefaultRequestHeader IsDefaultResponseHeader command reply n len k mid is plain loans new moves settles steps =
      let moved = loan_moves history old stands.fits stands.follows IsDefaultRequestHeader IsDefaultResponseHeader n len k mid loans in
      let settled : SettlesQuietly old mid = ⊎_elim (loaned_request_settles IsDefaultRequestHeader old stands.fits n len k mid)
      (loaned_response_settles IsDefaultResponseHeader old n len k mid) loans in
      completes_quietly history (command, reply) old new stands.fits stands.completes steps.1 stands.follows steps.0
      (loan_comes history (command, reply) old.next new.next n k is moved.1 (omega (arith, moved.2, moves.next)) moved.3)
      (then_settles old mid new settled settles) (then_quietly old mid new moved.0 moves) is.sends is.receives
      (λ a server p e. absurd (false_is_true (sym (is.activates server a p) ∙ e))) (λ n e. absurd (false_is_true (sym (plain n) ∙ e)))
      (λ n e. absurd e)

  -- after a send of a response that was on loan
  pub sent_completes : (action : K → ℕ → ℕ → BackpressureAction) (n k : ℕ) (new : State Q QH P PH K) → k ≡ n
      → Steps history old (Command.Send n) (Reply.Sent k) new → SendsResponse {U = ℕ} action old n (Ok k) new
      → Completes (history ++ (Command.Send n, Reply.Sent k) ∷ []) new
  sent_completes action n k new is = subst (λ j. Steps history old (Command.Send n) (Reply.Sent j) new
      → SendsResponse {U = ℕ} action old n (Ok j) new → Completes (history ++ (Command.Send n, Reply.Sent j) ∷ []) new) (sym is) own
    where
      own : Steps history old (Command.Send n) (Reply.Sent n) new → SendsResponse {U = ℕ} action old n (Ok n) new
          → Completes (history ++ (Command.Send n, Reply.Sent n) ∷ []) new
      own steps sends =
          let now = sent_now action history old stands.fits stands.apart stands.follows n n new sends in
          let m = now.0 in
          let settled = sent_response_settles action old stands.fits stands.apart stands.left n n new sends m now.1 in
          completes_sent history (Command.Send n, Reply.Sent n) old new stands.fits stands.completes steps.1 stands.follows steps.0
          now.2.comes old m.server m.request n now.2.send now.2.sent (λ k. refl) (λ s a q. refl) settled.0 settled.1 (λ serves. serves)
          (λ made no_overflow. (no_overflow, stands.completes.waits m.server made))

  -- after a server received a request
  pub request_completes : (n a r : ℕ) (new : State Q QH P PH K) → Steps history old (Command.Receive n) (Reply.Active a r) new
      → ReceivesRequest old n (Ok (Some a)) new → IsSomeAnd (active_at new a) (λ active. r ≡ active.message.number) →
      Completes (history ++ (Command.Receive n, Reply.Active a r) ∷ []) new
  request_completes n a r new steps receives told =
      let moved = received_request_moves old n a r new receives told in
      let settles : SettlesQuietly old new = received_request_settles old n (Ok (Some a)) new receives in
      let stood = received_listed old n a r new receives told in
      let request_below = listed_below old stands.fits r stood.0 stood.1 in
      let server_below : n < old.next = has_below (λ (d : Server K). d.id) old.servers n old.next stands.fits.ports.server_numbers
      receives.0 in
      let way : IsUnderWay new n r = record {
        server_given = omega (arith, server_below, settles.next);
        request_given = omega (arith, request_below, settles.next);
        sent = λ q e. ⊎_elim (λ was. stands.completes.clear r (inl (q, stood.0, was, stood.1)))
            (λ high. absurd (omega (arith, high, request_below))) (settles.loaned r q e);
        no_server = λ c e. ⊎_elim (λ was. stands.completes.clear r (inr (was.0, was.1, inr (stood.0, stood.1))))
            (λ high. absurd (omega (arith, high, request_below))) (settles.servers r c e);
      } in
      completes_quietly history (Command.Receive n, Reply.Active a r) old new stands.fits stands.completes steps.1 stands.follows steps.0
      (received_comes history old.next new.next n a r moved.1 moved.2) settles moved.0 refl (λ p. refl)
      (λ b server p is.
      let t = three_true (eqb n server) (eqb a b) (eqb r p) is in
      subst (λ s. IsUnderWay new s p) (eqb-true n server t.0) (subst (IsUnderWay new n) (eqb-true r p t.2) way))
      (λ k is. absurd (false_is_true is)) (λ k e. absurd e)

  -- after a request received a response
  pub response_completes : (n k : ℕ) (new : State Q QH P PH K) → IsApart new → Steps history old (Command.Receive n) (Reply.Response k) new
      → ReceivesResponse old n (Ok (Some k)) new → Completes (history ++ (Command.Receive n, Reply.Response k) ∷ []) new
  response_completes n k new after steps receives =
      let taken = received_response_moves old stands.fits stands.apart n k new after receives in
      let was = first_was_sent history old stands.follows taken.0 n k (queued new taken.0 n) taken.1.first in
      completes_responded history old new stands.fits stands.completes steps.1 stands.follows taken.0 n k
      (responded_comes history old.next new.next n k
      (loaned_below history old.next taken.0 n was.lender k stands.follows.numbers was.loaned) taken.1.moves.next was.loaned.unreceived)
      was taken.1.first taken.1.settles taken.1.moves

  -- after a receive that finds nothing
  pub nothing_completes : (n : ℕ) (new : State Q QH P PH K) → Steps history old (Command.Receive n) Reply.Nothing new
      → ReceivesRequest old n (Ok None) new ⊎ ReceivesResponse old n (Ok None) new →
      Completes (history ++ (Command.Receive n, Reply.Nothing) ∷ []) new
  nothing_completes n new steps receives = ⊎_elim
      (λ request. quiet_completes _ _ new (silent _ _ refl) (λ k. refl) steps (no_request_quietly old n new request)
      (received_request_settles old n (Ok None) new request))
      (λ (response : ReceivesResponse old n (Ok None) new). unchanged_completes _ _ new (silent _ _ refl) (λ k. refl) steps
      (some_and (pending_at old n) _ response).2.1)
      receives

  -- after a receive that is refused
  pub refused_completes : (n : ℕ) (e : ReceiveError) (new : State Q QH P PH K)
      → Steps history old (Command.Receive n) (Reply.ReceiveError e) new
      → ReceivesRequest old n (Err e) new ⊎ ReceivesResponse old n (Err e) new →
      Completes (history ++ (Command.Receive n, Reply.ReceiveError e) ∷ []) new
  refused_completes n e new steps receives = ⊎_elim
      (λ request. quiet_completes _ _ new (silent _ _ refl) (λ k. refl) steps (refused_request_quietly old n e new request)
      (received_request_settles old n (Err e) new request))
      (λ response. unchanged_completes _ _ new (silent _ _ refl) (λ k. refl) steps (refused_same old n e new response))
      receives
