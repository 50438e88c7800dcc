-- What each command of a list that fills the pool does, by what it is answered.
use Rattle.std.proofs.Common.{◌≡◌, ℕ, ◌+◌, true, false, ◌||◌, List, [], ◌∷◌, Option, Some, None, refl, sym, ap, ◌∙◌, inl, ⊎_elim}
use Rattle.std.specs.Prelude.{MatchOption, is_some}
use Rattle.rr_slots.specs.declared.family.Family.TheVariants.{Typed}
use Rattle.rr_protocol.specs.declared.limits.Limits.{Limits}
use Rattle.rr_protocol.specs.declared.settings.BackpressureAction.{BackpressureAction}
use Rattle.rr_protocol.specs.Messages.{RequestMessage}
use Rattle.rr_protocol.specs.Ports.{Client}
use Rattle.rr_protocol.specs.State.{State, client_at}
use Rattle.rr_protocol.specs.declared.command.Command.{Command}
use Rattle.rr_protocol.specs.declared.reply.Reply.{Reply}
use Rattle.rr_protocol.specs.Refusals.{refusal}
use Rattle.rr_protocol.specs.Step.{Acts, Step}
use Rattle.rr_laws.specs.Roles.{ReceivedRequest, question_of}
use Rattle.rr_laws.specs.Reached.{IsReached, has_server}
use Rattle.rr_laws.specs.Filling.{only_client, LivesElsewhere, IsHolding, IsServed, Waits, IsSent}
use Rattle.rr_laws.proofs.Opening.{some_and, open_active}
use Rattle.rr_laws.proofs.RoleLaws.{role_at}
use Rattle.rr_laws.proofs.Stepping.{step_reached}
use Rattle.rr_laws.proofs.Telling.{is_refusing, refusal_refuses}
use Rattle.rr_laws.proofs.filling.Copies.{sent, sent_holds, sent_request, sent_served, sent_waits}
use Rattle.rr_laws.proofs.filling.Receives.{received_active, received_apart, received_holds, received_served, received_waits}
use Rattle.rr_laws.proofs.filling.Releases.{released_holds, released_served}
use Rattle.rr_laws.proofs.filling.Sends.{loan_holds}

module _ {T H K : Type 0} (action : K → ℕ → ℕ → BackpressureAction) (IsDefaultElement : T → Type 0) (IsDefaultHeader : H → Type 0)
    (limits : Limits) (pool count : ℕ) (old : State T H T H K) (holding : IsHolding old limits pool count) (new : State T H T H K) where
  -- what is answered by none of the refusals was done
  acted : (command : Command T H K) (reply : Reply T H) → Step action IsDefaultElement IsDefaultHeader Typed old command reply new
      → is_refusing reply ≡ false → Acts action IsDefaultElement IsDefaultHeader Typed old command reply new
  acted command reply step done = go (refusal Typed old command) refl step
    where
      go : (o : Option (Reply T H)) → refusal Typed old command ≡ o
          → MatchOption o (Acts action IsDefaultElement IsDefaultHeader Typed old command reply new) (λ refused. (reply ≡ refused) × (new ≡ old))
          → Acts action IsDefaultElement IsDefaultHeader Typed old command reply new
      go None due step = step
      go (Some refused) due step =
          absurd (let e : false ≡ true = sym done ∙ ap is_refusing step.0 ∙ refusal_refuses Typed old command refused due in cc)

  reached : (command : Command T H K) (reply : Reply T H) → Step action IsDefaultElement IsDefaultHeader Typed old command reply new
      → IsReached new
  reached command reply step = step_reached action IsDefaultElement IsDefaultHeader Typed old holding.reached command reply new step

  -- a request that was sent
  pub copy_sent : limits.enable_safe_overflow_for_requests ≡ false → (v : T) (k connections : ℕ)
      → Step action IsDefaultElement IsDefaultHeader Typed old (Command.SendCopy only_client v) (Reply.Pending k connections) new
      → IsHolding new limits pool (count + 1) × IsSent old new limits k
  copy_sent keeps_old v k connections step =
      let acts = acted (Command.SendCopy only_client v) (Reply.Pending k connections) step refl in (
        sent_holds old IsDefaultHeader action limits pool count k connections v acts.0 new holding acts.1 acts.2 keeps_old
            (reached (Command.SendCopy only_client v) (Reply.Pending k connections) step),
        record {
          message = (sent old IsDefaultHeader action limits pool count k connections v acts.0 new holding acts.1 acts.2).1;
          waits = record {
            asks = sent_request old IsDefaultHeader action limits pool count k connections v acts.0 new holding acts.1 acts.2;
            there = sent_waits old IsDefaultHeader action limits pool count k connections v acts.0 new holding acts.1 acts.2;
          };
          served = sent_served old IsDefaultHeader action limits pool count k connections v acts.0 new holding acts.1 acts.2 keeps_old;
        },
      )

  -- one that was received by the server that is served
  pub request_received : (server k a request : ℕ) (m : RequestMessage T H) → IsServed old server (m ∷ []) → Waits old k m
      → Step action IsDefaultElement IsDefaultHeader Typed old (Command.Receive server) (Reply.Active a request) new
      → IsHolding new limits pool count × IsServed new server [] × Waits new k m × LivesElsewhere new k
  request_received server k a request m served waits step =
      let acts = acted (Command.Receive server) (Reply.Active a request) step refl in (
        received_holds old limits pool count holding server k m served waits.asks waits.there a new acts.0
            (reached (Command.Receive server) (Reply.Active a request) step),
        received_served old limits pool count holding server k m served waits.asks waits.there a new acts.0,
        record {
          asks = waits.asks;
          there = received_waits old limits pool count holding server k m served waits.asks waits.there a new acts.0;
        },
        inl (
          a,
          ReceivedRequest server (question_of m),
          received_apart old limits pool count holding server k m served waits.asks waits.there a new acts.0,
          received_active old limits pool count holding server k m served waits.asks waits.there a new acts.0,
          waits.asks,
        ),
      )

  -- a pending response that was released
  pub pending_released : (k : ℕ) (m : RequestMessage T H) → Waits old k m → LivesElsewhere old k
      → Step action IsDefaultElement IsDefaultHeader Typed old (Command.Release k) Reply.Done new
      → IsHolding new limits pool count
      × ((server : ℕ) (entries : List (RequestMessage T H)) → IsServed old server entries → IsServed new server entries)
  pending_released k m waits elsewhere step =
      let acts = acted (Command.Release k) Reply.Done step refl in (
        released_holds old limits pool count holding k (question_of m) waits.asks waits.there elsewhere new acts
            (reached (Command.Release k) Reply.Done step),
        released_served old limits pool count holding k (question_of m) waits.asks waits.there elsewhere new acts,
      )

  -- one that was loaned
  pub request_loaned : (len k : ℕ) → Step action IsDefaultElement IsDefaultHeader Typed old (Command.Loan only_client len) (Reply.Loaned k) new
      → IsHolding new limits pool (count + 1)
  request_loaned len k step =
      ⊎_elim
      (λ loans. loan_holds old IsDefaultHeader limits pool count len k new holding loans (reached (Command.Loan only_client len) (Reply.Loaned k) step))
      (λ loans. let active = open_active old only_client _ loans in
      let fits = holding.reached.handles only_client _ (role_at old.handles only_client _ active.2) in
      let c = some_and (client_at old only_client) _ holding.client in
      absurd (let e : false ≡ true = sym fits.no_port ∙ ap (λ (o : Option (Client K)). is_some o || has_server old.servers only_client) c.1 in cc))
      (acted (Command.Loan only_client len) (Reply.Loaned k) step refl)
