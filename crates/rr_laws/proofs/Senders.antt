-- Who sent a response that stands in a list was given a number, in a state that stands on a history.
use Rattle.std.proofs.Common.{◌≡◌, ℕ, map, refl, eqb, List, subst, sym, ◌<◌, ◌∷◌, ◌∙◌, [], ap}
use Rattle.std.specs.List.{AllByRecursion}
use Rattle.std.proofs.lemmas.Bool.{eqb-true}
use Rattle.std.specs.Prelude.{◌≢◌, ◌&&◌}
use Rattle.rr_protocol.specs.Keys.{ResponseKey}
use Rattle.rr_protocol.specs.State.{State}
use Rattle.rr_protocol.specs.Messages.{ResponseMessage}
use Rattle.rr_protocol.specs.Lists.{at}
use Rattle.rr_protocol.proofs.KeyLaws.{response_keys_exact, response_keys_total}
use Rattle.rr_protocol.specs.AnswerRule.{Event}
use Rattle.rr_laws.specs.Roles.{roles_of, answer_of, SentRequest, answered}
use Rattle.rr_laws.specs.Following.{channel_key, queued}
use Rattle.rr_laws.specs.Standing.{Stands}
use Rattle.rr_laws.specs.Reached.{ResponseFits}
use Rattle.rr_laws.proofs.Following.{first_was_sent}
use Rattle.rr_laws.proofs.Counts.{and_first}
use Rattle.rr_laws.proofs.Filled.{filled_gives}
use Rattle.rr_laws.proofs.LeftSteps.{IsGivenSender}
use Rattle.rr_laws.proofs.Moving.{entries-waiting}

module _ {T H Q QH P PH K : Type 0} (history : List (Event T H K)) (s : State Q QH P PH K) (stands : Stands history s) where
  -- the sender of the first response of a list
  sender_below : (n : ℕ) (key : ResponseKey) (entries : List (ResponseMessage P PH)) → at s.responses key ≡ entries → entries ≢ []
      → key.server ≡ n → n < s.next
  sender_below n key [] is some named = absurd (some refl)
  sender_below n key (m ∷ rest) is some named =
      let first = (subst (AllByRecursion (ResponseFits s.clients s.servers (roles_of s.handles) s.next key)) is
      (stands.fits.response_lists.each key)).0 in
      let q = answered (answer_of m) in
      let list : at s.responses (channel_key n q) ≡ m ∷ rest =
      ap (λ (x : ℕ). at s.responses (record { server = x; client = m.client; channel = m.channel })) (sym named)
      ∙ ap (λ (x : ℕ). at s.responses (record { server = key.server; client = x; channel = m.channel })) first.client
      ∙ ap (λ (x : ℕ). at s.responses (record { server = key.server; client = key.client; channel = x })) first.channel ∙ is in
      let entries : queued s n m.request ≡ m.number ∷ map (λ x. x.number) rest =
      entries-waiting (roles_of s.handles) s.responses n m.request (SentRequest q) q first.answers refl ∙ ap (map (λ x. x.number)) list in
      let sent = first_was_sent history s stands.follows n m.request m.number (map (λ x. x.number) rest) entries in
      (stands.completes.under_way sent.lender n m.request sent.loaned.active).server_given

  -- so what a client has responses from has a number that was given
  pub senders_given : (n : ℕ) → IsGivenSender s n
  senders_given n client there =
      let filled = filled_gives response_keys_total response_keys_exact (λ key. eqb key.server n && eqb key.client client) s.responses
      there in
      sender_below n filled.0 (at s.responses filled.0) refl filled.1
      (eqb-true (filled.0).server n (and_first (eqb (filled.0).server n) (eqb (filled.0).client client) filled.2))
