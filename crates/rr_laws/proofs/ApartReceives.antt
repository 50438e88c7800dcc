-- Requests and responses stay apart through receives, and as messages change in what they say.
use Rattle.std.proofs.Common.{◌≡◌, ℕ, List, [], ◌∷◌, Option, Some, None, Result, Ok, Err, refl, sym, subst}
use Rattle.std.specs.FinMap.{insert}
use Rattle.rr_protocol.specs.declared.error.ReceiveError.{ReceiveError}
use Rattle.rr_protocol.specs.Lists.{with_at}
use Rattle.rr_protocol.specs.Keys.{RequestKey, ResponseKey, request_key}
use Rattle.rr_protocol.specs.Messages.{RequestMessage, ResponseMessage, Handle, ActiveRequest, Response, response_key}
use Rattle.rr_protocol.specs.State.{State, pending_at, with_changed}
use Rattle.rr_protocol.specs.Receives.{TakesRequest, Skims, ReceivesUnskimmed, ReceivesRequest, TakesResponse, ReceivesResponse}
use Rattle.rr_laws.specs.Roles.{ReceivedResponse, role_of, roles_of, answer_of}
use Rattle.rr_laws.specs.Reached.{IsReached}
use Rattle.rr_laws.specs.Apart.{AreApart, IsApart}
use Rattle.rr_laws.proofs.RoleLaws.{roles-insert, roles-changed}
use Rattle.rr_laws.proofs.Opening.{some_and}
use Rattle.rr_laws.proofs.Receiving.{takes_request_reached, skims_reached}
use Rattle.rr_laws.proofs.Apart.{channels_stay_apart, asks_nothing_new_with}
use Rattle.rr_laws.proofs.ApartResponses.{taken_apart}
use Rattle.rr_laws.proofs.ApartSends.{next_apart}

module _ {Q QH P PH K : Type 0} where
  -- a handle changed, but not its role
  pub changed_apart : (s : State Q QH P PH K) (n : ℕ) (change : Handle Q QH P PH → Handle Q QH P PH)
      → ((h : Handle Q QH P PH) → role_of (change h) ≡ role_of h) → IsApart s → IsApart (with_changed s n change)
  changed_apart s n change same apart = subst (λ r. AreApart r s.responses) (sym (roles-changed change same s.handles n)) apart

  takes_request_apart : (s : State Q QH P PH K) → IsApart s → (key : RequestKey) (m : RequestMessage Q QH) (new : State Q QH P PH K)
      → TakesRequest s key m new → IsApart new
  takes_request_apart s apart key m new takes = subst (λ (x : State Q QH P PH K). IsApart x) (sym takes.1.2) apart

  skims_apart : (clients : List ℕ) (s : State Q QH P PH K) → IsApart s → (server : ℕ) (new : State Q QH P PH K) → Skims s server clients new
      → IsApart new
  skims_apart [] s apart server new skims = subst (λ (x : State Q QH P PH K). IsApart x) (sym skims) apart
  skims_apart (client ∷ clients) s apart server new skims =
      skims_apart clients skims.1 (takes_request_apart s apart (request_key client server) skims.0 skims.1 skims.3) server new skims.4

  unskimmed_apart : (s : State Q QH P PH K) → IsReached s → IsApart s
      → (server : ℕ) (result : Result (Option ℕ) ReceiveError) (new : State Q QH P PH K) → ReceivesUnskimmed s server result new
      → IsApart new
  unskimmed_apart s fits apart server (Ok (Some number)) new receives =
      let r = receives.1 in
      let key = request_key r.0 server in
      subst (λ (x : State Q QH P PH K). IsApart x) (sym r.5)
      (next_apart r.2 (ActiveRequest (record { message = r.1; server = server })) refl (takes_request_reached s fits key r.1 r.2 r.3)
      (takes_request_apart s apart key r.1 r.2 r.3))
  unskimmed_apart s fits apart server (Ok None) new receives = subst (λ (x : State Q QH P PH K). IsApart x) (sym receives.1) apart
  unskimmed_apart s fits apart server (Err ReceiveError.ExceedsMaxBorrows) new receives = subst (λ (x : State Q QH P PH K). IsApart x)
      (sym receives.2) apart
  unskimmed_apart s fits apart server (Err (ReceiveError.ConnectionFailure failure)) new receives = absurd receives

  -- after a server received, or could not
  pub receives_request_apart : (s : State Q QH P PH K) → IsReached s → IsApart s
      → (n : ℕ) (result : Result (Option ℕ) ReceiveError) (new : State Q QH P PH K) → ReceivesRequest s n result new → IsApart new
  receives_request_apart s fits apart n result new receives =
      let r = receives.1 in
      unskimmed_apart r.1 (skims_reached r.0 s fits n r.1 r.2) (skims_apart r.0 s apart n r.1 r.2) n result new r.3

  taken_response_apart : (s : State Q QH P PH K) → IsApart s → (key : ResponseKey) (m : ResponseMessage P PH) (mid : State Q QH P PH K)
      → TakesResponse s key m mid →
      IsApart (record mid { handles = insert mid.handles m.number (Response m) })
  taken_response_apart s apart key m mid takes =
      let rest = takes.1.0 in
      let roles = roles_of s.handles in
      let role = ReceivedResponse (answer_of m) in
      subst (λ (x : State Q QH P PH K). IsApart (record x { handles = insert x.handles m.number (Response m) })) (sym takes.1.2)
      (subst (λ r. AreApart r (with_at s.responses key rest)) (sym (roles-insert s.handles m.number _)) (record {
        channels = channels_stay_apart roles (insert roles m.number role)
            (asks_nothing_new_with roles m.number role (λ p e. absurd (let f : None ≡ Some p = e in cc))) apart.channels;
        responses = taken_apart s.responses key m rest takes.1.1 roles role apart.responses;
      }))

  -- after a pending response received, or could not
  pub receives_response_apart : (s : State Q QH P PH K) → IsApart s
      → (n : ℕ) (result : Result (Option ℕ) ReceiveError) (new : State Q QH P PH K) → ReceivesResponse s n result new → IsApart new
  receives_response_apart s apart n (Ok (Some number)) new receives =
      let o = some_and (pending_at s n) _ receives in
      let r = o.2 in
      let same : number ≡ r.1.number = r.4 in
      subst (λ (x : State Q QH P PH K). IsApart x) (sym r.5)
      (subst (λ k. IsApart (record r.2 { handles = insert r.2.handles k (Response r.1) })) (sym same)
      (taken_response_apart s apart (response_key o.0 r.0) r.1 r.2 r.3))
  receives_response_apart s apart n (Ok None) new receives = subst (λ (x : State Q QH P PH K). IsApart x)
      (sym (some_and (pending_at s n) _ receives).2.1) apart
  receives_response_apart s apart n (Err ReceiveError.ExceedsMaxBorrows) new receives = subst (λ (x : State Q QH P PH K). IsApart x)
      (sym (some_and (pending_at s n) _ receives).2.2) apart
  receives_response_apart s apart n (Err (ReceiveError.ConnectionFailure failure)) new receives = absurd receives
