-- How a pool grows, command by command.
use Rattle.std.proofs.Common.{◌≡◌, ℕ, ◌+◌, ◌<◌, ◌≤◌, ◌||◌, false, List, [], ◌∷◌, ◌++◌, length, Some, refl, sym, ap, ◌∙◌, subst, inr, arith}
use Rattle.std.specs.Prelude.{◌^◌, Result, Ok, Err, OnOk}
use Rattle.std.specs.List.{AllByRecursion, list_any}
use Rattle.std.proofs.lemmas.List.{length-append}
use Rattle.std.proofs.lemmas.List.Folds.{list_any-append}
use Rattle.rr_table.proofs.ListFacts.{or_true}
use Rattle.rr_protocol.specs.declared.error.LoanError.{LoanError}
use Rattle.rr_protocol.specs.declared.error.RequestSendError.{RequestSendError}
use Rattle.rr_protocol.specs.declared.error.SendError.{SendError}
use Rattle.rr_protocol.specs.declared.limits.Limits.{Limits}
use Rattle.rr_protocol.specs.declared.no_handler.NoHandler.{NoHandler}
use Rattle.rr_protocol.specs.declared.settings.ServerSettings.{ServerSettings}
use Rattle.rr_protocol.specs.Creation.{pool_size_of}
use Rattle.rr_protocol.specs.Keys.{request_key}
use Rattle.rr_protocol.specs.Limits.{worst_case_requests}
use Rattle.rr_protocol.specs.Messages.{RequestMessage}
use Rattle.rr_protocol.specs.State.{empty_hub}
use Rattle.rr_protocol.specs.declared.command.Command.{Command}
use Rattle.rr_protocol.specs.declared.reply.Reply.{Reply}
use Rattle.rr_protocol.specs.Run.{Run}
use Rattle.rr_protocol.specs.Step.{Step}
use Rattle.rr_slots.specs.declared.family.Family.TheVariants.{Typed}
use Rattle.rr_laws.specs.Filling.{only_client, is_request, IsHolding, IsServed, IsSent}
use Rattle.rr_laws.specs.Roles.{question_of}
use Rattle.rr_laws.specs.Unreduced.{asked_in}
use Rattle.rr_laws.proofs.Tests.{positive}
use Rattle.rr_laws.proofs.filling.Creations.{client_created, server_holds, server_served}
use Rattle.rr_laws.proofs.filling.Steps.{copy_sent, pending_released, request_loaned, request_received}
use Rattle.rr_run.specs.declared.least.filling.Filling.{Filling}
use Rattle.rr_run.specs.declared.least.outcome.Outcome.{Outcome}
use Rattle.rr_run.specs.Filled.{outcome_of, Does, HasAsked, HasGrown, HasQueued, IsFilled, IsNoted, IsSameHub, IsSpare, IsUnused}
use Rattle.rr_run.specs.Numbers.{IsZero, follow_strategy}
use Rattle.rr_run.specs.Least.{reduced_client}

-- the replies that outcomes stand for
created_means : (n : ℕ) (reply : Reply ℕ ℕ) → Outcome.Created n ≡ outcome_of reply → reply ≡ Reply.Created n
created_means n (Reply.Created m) e = (cc)
created_means n (Reply.LoanError LoanError.OutOfMemory) e = absurd (cc)
created_means n (Reply.RequestError (RequestSendError.SendError (SendError.LoanError LoanError.OutOfMemory))) e = absurd (cc)
created_means n reply e = absurd (cc)

pending_means : (n : ℕ) (reply : Reply ℕ ℕ) → Outcome.Pending n ≡ outcome_of reply → (connections : ℕ) × (reply ≡ Reply.Pending n connections)
pending_means n (Reply.Pending m connections) e = (connections, (cc))
pending_means n (Reply.LoanError LoanError.OutOfMemory) e = absurd (cc)
pending_means n (Reply.RequestError (RequestSendError.SendError (SendError.LoanError LoanError.OutOfMemory))) e = absurd (cc)
pending_means n reply e = absurd (cc)

active_means : (reply : Reply ℕ ℕ) → Outcome.Active ≡ outcome_of reply → (a request : ℕ) × (reply ≡ Reply.Active a request)
active_means (Reply.Active a request) e = (a, request, refl)
active_means (Reply.LoanError LoanError.OutOfMemory) e = absurd (cc)
active_means (Reply.RequestError (RequestSendError.SendError (SendError.LoanError LoanError.OutOfMemory))) e = absurd (cc)
active_means reply e = absurd (cc)

loaned_means : (reply : Reply ℕ ℕ) → Outcome.Loaned ≡ outcome_of reply → (n : ℕ) × (reply ≡ Reply.Loaned n)
loaned_means (Reply.Loaned n) e = (n, refl)
loaned_means (Reply.LoanError LoanError.OutOfMemory) e = absurd (cc)
loaned_means (Reply.RequestError (RequestSendError.SendError (SendError.LoanError LoanError.OutOfMemory))) e = absurd (cc)
loaned_means reply e = absurd (cc)

done_means : (reply : Reply ℕ ℕ) → Outcome.Done ≡ outcome_of reply → reply ≡ Reply.Done
done_means Reply.Done e = refl
done_means (Reply.LoanError LoanError.OutOfMemory) e = absurd (cc)
done_means (Reply.RequestError (RequestSendError.SendError (SendError.LoanError LoanError.OutOfMemory))) e = absurd (cc)
done_means reply e = absurd (cc)

-- the size of the client's pool
abbrev size : Limits → ℕ → ℕ
size limits pool = pool_size_of (worst_case_requests limits) (Some pool)

module _ (old mid : Filling) (filled : IsFilled old) (same : IsSameHub old mid) (noted : IsNoted mid) where
  -- as many more as are held
  grown : (more live : ℕ) → IsHolding mid.runner old.limits (size old.limits old.pool) (old.live + more) → live ≡ old.live + more
      → HasGrown more old (record mid { live = live })
  grown more live holding is = record {
    filled = record {
      noted = record { run = noted.run; one_client = noted.one_client; short = noted.short };
      holding = subst (λ l. IsHolding mid.runner l (size l mid.pool) live) (sym same.limits)
          (subst (λ p. IsHolding mid.runner old.limits (size old.limits p) live) (sym same.pool)
          (subst (IsHolding mid.runner old.limits (size old.limits old.pool)) (sym is) holding));
      keeps_old = ap (λ (l : Limits). l.enable_safe_overflow_for_requests) same.limits ∙ filled.keeps_old;
      pool_fits = subst (λ p. p < 2 ^ 64) (sym same.pool) filled.pool_fits;
    };
    live = is;
  }

  -- as much as before
  still : mid.live ≡ old.live → IsHolding mid.runner old.limits (size old.limits old.pool) old.live → HasGrown 0 old mid
  still live holding = let none : old.live + 0 ≡ old.live = omega arith in
      grown 0 mid.live (subst (IsHolding mid.runner old.limits (size old.limits old.pool)) (sym none) holding) (live ∙ sym none)

  pub sent_grows : mid.live ≡ old.live → (request : ℕ) → Does old mid (Command.SendCopy only_client 0) (Outcome.Pending request)
      → HasGrown 1 old (record mid { live = mid.live + 1 }) × IsSent old.runner mid.runner old.limits request
  sent_grows live request does =
      let reply = pending_means request does.reply does.told in
      let sent = copy_sent follow_strategy IsZero IsZero old.limits (size old.limits old.pool) old.live old.runner filled.holding mid.runner
      filled.keeps_old 0 request reply.0 (subst (λ r. Step follow_strategy IsZero IsZero Typed old.runner (Command.SendCopy only_client 0) r mid.runner)
      reply.1 does.step) in
      (grown 1 (mid.live + 1) sent.0 (ap (λ n. n + 1) live), sent.1)

  pub loaned_grows : mid.live ≡ old.live → Does old mid (Command.Loan only_client 1) Outcome.Loaned
      → HasGrown 1 old (record mid { live = mid.live + 1 })
  loaned_grows live does =
      let reply = loaned_means does.reply does.told in
      grown 1 (mid.live + 1) (request_loaned follow_strategy IsZero IsZero old.limits (size old.limits old.pool) old.live old.runner filled.holding
      mid.runner 1 reply.0 (subst (λ r. Step follow_strategy IsZero IsZero Typed old.runner (Command.Loan only_client 1) r mid.runner) reply.1 does.step))
      (ap (λ n. n + 1) live)

  pub received_stays : mid.live ≡ old.live → (server request : ℕ) → HasAsked old server request
      → Does old mid (Command.Receive server) Outcome.Active → HasGrown 0 old mid × HasQueued mid server 0 × IsSpare mid request
  received_stays live server request asked does =
      let reply = active_means does.reply does.told in
      let r = request_received follow_strategy IsZero IsZero old.limits (size old.limits old.pool) old.live old.runner filled.holding mid.runner
      server request reply.0 reply.1 asked.0 asked.1 asked.2
      (subst (λ r. Step follow_strategy IsZero IsZero Typed old.runner (Command.Receive server) r mid.runner) reply.2 does.step) in
      (still live r.0, ([], refl, r.1), (asked.0, r.2, r.3))

  pub released_stays : mid.live ≡ old.live → (request : ℕ) → IsSpare old request → Does old mid (Command.Release request) Outcome.Done
      → HasGrown 0 old mid × ((server n : ℕ) → HasQueued old server n → HasQueued mid server n)
  released_stays live request spare does =
      let r = pending_released follow_strategy IsZero IsZero old.limits (size old.limits old.pool) old.live old.runner filled.holding mid.runner
      request spare.0 spare.1 spare.2
      (subst (λ r. Step follow_strategy IsZero IsZero Typed old.runner (Command.Release request) r mid.runner) (done_means does.reply does.told)
      does.step) in
      (still live r.0, λ server n queued. (queued.0, queued.1, r.1 server queued.0 queued.2))

  pub created_stays : mid.live ≡ old.live → (settings : ServerSettings NoHandler) (server : ℕ)
      → Does old mid (Command.CreateServer settings) (Outcome.Created server) → HasGrown 0 old mid × HasQueued mid server 0
  created_stays live settings server does =
      let step = subst (λ r. Step follow_strategy IsZero IsZero Typed old.runner (Command.CreateServer settings) r mid.runner)
      (created_means server does.reply does.told) does.step in (
        still live (server_holds follow_strategy IsZero IsZero old.limits (size old.limits old.pool) old.live old.runner filled.holding settings server
            mid.runner step),
        (
          [],
          refl,
          server_served follow_strategy IsZero IsZero old.limits (size old.limits old.pool) old.live old.runner filled.holding settings
              server mid.runner step,
        ),
      )

module _ (old new : Filling) (filled : IsFilled old) (request : ℕ) (sent : IsSent old.runner new.runner old.limits request) where
  -- the one request in the list to a server
  pub sent_asked : (server : ℕ) → HasQueued old server 0 → HasAsked new server request
  sent_asked server queued =
      let none : queued.0 ≡ [] = no_entries queued.0 queued.1 in
      let room = subst (λ (l : Limits). 0 < l.max_active_requests_per_client) filled.holding.limits_are
      (positive old.runner.limits filled.holding.reached.makes_hub).active in
      (sent.message, sent.served server [] (subst (IsServed old.runner server) none queued.2) room, sent.waits)
    where
      no_entries : (xs : List (RequestMessage ℕ ℕ)) → length xs ≡ 0 → xs ≡ []
      no_entries [] e = refl
      no_entries (x ∷ xs) e = absurd (omega (arith, e))

  -- one more in the list to a server, where it lives also without its pending response
  pub sent_queued : (server n : ℕ) → n < old.limits.max_active_requests_per_client → HasQueued old server n → HasQueued new server (n + 1)
  sent_queued server n room queued = (
    queued.0 ++ sent.message ∷ [],
    omega (arith, queued.1, length-append queued.0 (sent.message ∷ [])),
    sent.served server queued.0 queued.2 (omega (arith, room, queued.1)),
  )

  pub sent_spare : (server n : ℕ) → n < old.limits.max_active_requests_per_client → HasQueued old server n → IsSpare new request
  sent_spare server n room queued =
      let served = sent.served server queued.0 queued.2 (omega (arith, room, queued.1)) in (
        sent.message,
        sent.waits,
        inr (
          request_key only_client server,
          ap (list_any (λ m. is_request request (question_of m))) served.entries_are
              ∙ list_any-append (λ m. is_request request (question_of m)) queued.0 (sent.message ∷ [])
              ∙ or_true (list_any (λ m. is_request request (question_of m)) queued.0) _ (ap (λ b. b || false) (sent.waits.asks)),
        ),
      )

-- what lives in a pool is no more than a `usize` counts
pub live_fits : {more : ℕ} {old : Filling} (new : Filling) → HasGrown more old new → new.live < 2 ^ 64
live_fits new grown = below (worst_case_requests new.limits) new.pool new.live grown.filled.pool_fits grown.filled.holding.fits
  where
    below : (n pool live : ℕ) → pool < 2 ^ 64 → live ≤ pool_size_of n (Some pool) → live < 2 ^ 64
    below n pool live fits most = omega (arith, fits, most)

-- one growth after another
pub grows_on : (old mid new : Filling) (m n : ℕ) → HasGrown m old mid → HasGrown n mid new → HasGrown (m + n) old new
grows_on old mid new m n first then = record { filled = then.filled; live = omega (arith, first.live, then.live) }

-- the same hub still
pub same_on : (old mid new : Filling) → IsSameHub old mid → IsSameHub mid new → IsSameHub old new
same_on old mid new first then = record { limits = then.limits ∙ first.limits; pool = then.pool ∙ first.pool }

module _ {U E : Type 0} (result : Result U E) where
  -- one more is held by a server, once its pending response was released
  pub held_on : (old mid late new : Filling) (server : ℕ) → HasGrown 1 old mid → HasGrown 0 mid late → HasQueued late server 0
      → OnOk result (HasGrown 0 late new) → OnOk result ((v n : ℕ) → HasQueued late v n → HasQueued new v n)
      → OnOk result (HasGrown 1 old new × HasQueued new server 0)
  held_on old mid late new server sent received queued released served = go result released served
    where
      go : (r : Result U E) → OnOk r (HasGrown 0 late new) → OnOk r ((v n : ℕ) → HasQueued late v n → HasQueued new v n)
          → OnOk r (HasGrown 1 old new × HasQueued new server 0)
      go (Ok u) released served = (grows_on old late new 1 0 (grows_on old mid late 1 0 sent received) released, served server 0 queued)
      go (Err e) released served = tt

  -- one more stands in the list to a server, once its pending response was released
  pub queued_on : (old mid new : Filling) → IsFilled old → (request : ℕ) → IsSent old.runner mid.runner old.limits request → (server : ℕ)
      → OnOk result ((v n : ℕ) → HasQueued mid v n → HasQueued new v n)
      → OnOk result ((n : ℕ) → n < old.limits.max_active_requests_per_client → HasQueued old server n → HasQueued new server (n + 1))
  queued_on old mid new filled request sent server served = go result served
    where
      go : (r : Result U E) → OnOk r ((v n : ℕ) → HasQueued mid v n → HasQueued new v n)
          → OnOk r ((n : ℕ) → n < old.limits.max_active_requests_per_client → HasQueued old server n → HasQueued new server (n + 1))
      go (Ok u) served = λ n room queued. served server (n + 1) (sent_queued old mid filled request sent server n room queued)
      go (Err e) served = tt

-- the client is there, and nothing of it lives
pub client_begins : (old new : Filling) → IsUnused old → IsSameHub old new → new.live ≡ old.live → (k : ℕ)
    → Does old new (Command.CreateClient (reduced_client old.pool)) (Outcome.Created k) → HasGrown 0 old new
client_begins old new unused same live k does = record {
  filled = record {
    noted = record {
      run = subst (λ l. Run follow_strategy IsZero IsZero Typed (empty_hub l 0) new.commands.items new.replies.items new.runner) (sym same.limits)
          (subst (λ cs. Run follow_strategy IsZero IsZero Typed (empty_hub old.limits 0) cs new.replies.items new.runner) (sym commands)
          (subst (λ rs. Run follow_strategy IsZero IsZero Typed (empty_hub old.limits 0) (command ∷ []) rs new.runner) (sym replies)
          (new.runner, step, refl)));
      one_client = record {
        others = [];
        other_replies = [];
        commands_are = commands ∙ ap (λ p. Command.CreateClient (reduced_client p) ∷ []) (sym same.pool);
        replies_are = replies ∙ ap (λ n. Reply.Created n ∷ []) created.1;
        only_one = tt;
      };
      short = subst (AllByRecursion (λ c. (n len : ℕ) → asked_in c ≡ Some (n, len) → len ≡ 1)) (sym commands) ((λ n len asks. absurd (cc)), tt);
    };
    holding = subst (λ l. IsHolding new.runner l (size l new.pool) new.live) (sym same.limits)
        (subst (λ p. IsHolding new.runner old.limits (size old.limits p) new.live) (sym same.pool)
        (subst (IsHolding new.runner old.limits (size old.limits old.pool)) (sym (live ∙ unused.none_live)) created.0));
    keeps_old = ap (λ (l : Limits). l.enable_safe_overflow_for_requests) same.limits ∙ unused.keeps_old;
    pool_fits = subst (λ p. p < 2 ^ 64) (sym same.pool) unused.pool_fits;
  };
  live = omega (arith, live);
}
  where
    command : Command ℕ ℕ NoHandler
    command = Command.CreateClient (reduced_client old.pool)

    reply : does.reply ≡ Reply.Created k
    reply = created_means k does.reply does.told

    commands : new.commands.items ≡ command ∷ []
    commands = does.commands ∙ ap (λ cs. cs ++ command ∷ []) unused.commands

    replies : new.replies.items ≡ Reply.Created k ∷ []
    replies = does.replies ∙ ap (λ rs. rs ++ does.reply ∷ []) unused.replies ∙ ap (λ r. r ∷ []) reply

    step : Step follow_strategy IsZero IsZero Typed (empty_hub old.limits 0) command (Reply.Created k) new.runner
    step = subst (λ s. Step follow_strategy IsZero IsZero Typed s command (Reply.Created k) new.runner) unused.runner
        (subst (λ r. Step follow_strategy IsZero IsZero Typed old.runner command r new.runner) reply does.step)

    created : IsHolding new.runner old.limits (size old.limits old.pool) 0 × (k ≡ only_client)
    created = client_created follow_strategy IsZero IsZero old.limits 0 unused.makes_hub (reduced_client old.pool) k new.runner step
