-- What a pending response would receive answers its own request.
use Rattle.std.proofs.Common.{◌≡◌, ℕ, List, ◌∷◌, Some, ap, subst, option_and_then}
use Rattle.std.specs.List.{AllByRecursion}
use Rattle.std.specs.FinMap.{get}
use Rattle.rr_protocol.specs.Lists.{at}
use Rattle.rr_protocol.specs.Messages.{ResponseMessage, Pending, PendingResponse, response_key}
use Rattle.rr_protocol.specs.State.{State, handle_at, pending_at}
use Rattle.rr_laws.specs.Roles.{SentRequest, roles_of, question_of, answered, answer_of, asking}
use Rattle.rr_laws.specs.Reached.{ResponseFits, IsReached}
use Rattle.rr_laws.specs.Apart.{IsApart}
use Rattle.rr_laws.proofs.Opening.{from_pending}
use Rattle.rr_laws.proofs.RoleLaws.{role_at}

module _ {Q QH P PH K : Type 0} (s : State Q QH P PH K) (fits : IsReached s) (apart : IsApart s) where
  -- the first response of a list towards a pending response is of the list's server, and answers that very request
  pub answers_its_request : (n : ℕ) (p : Pending Q QH) → pending_at s n ≡ Some p
      → (server : ℕ) (m : ResponseMessage P PH) (rest : List (ResponseMessage P PH)) →
      at s.responses (response_key p server) ≡ m ∷ rest → (m.request ≡ n) × (m.server ≡ server)
  answers_its_request n p is server m rest e =
      let key = response_key p server in
      let roles = roles_of s.handles in
      let f = (subst (AllByRecursion (ResponseFits s.clients s.servers roles s.next key)) e (fits.response_lists.each key)).0 in
      let waits : get roles n ≡ Some (SentRequest (question_of p.message)) = role_at s.handles n (PendingResponse p)
      (from_pending (handle_at s n) p is) in (
        apart.channels m.request n (answered (answer_of m)) (question_of p.message) (ap (option_and_then asking) f.answers)
            (ap (option_and_then asking) waits) f.client f.channel,
        f.server,
      )
