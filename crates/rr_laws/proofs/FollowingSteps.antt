-- Each step of the machine keeps that its state follows from the history.
use Rattle.std.proofs.Common.{◌≡◌, ℕ, Bool, true, false, cond, List, [], ◌∷◌, ◌++◌, Option, Some, None, MatchOption, Result, Ok, Err, refl, sym, ap, ◌∙◌, subst, ⊎_elim, inl, inr, arith}
use Rattle.std.specs.Prelude.{◌⊎◌, ◌≢◌}
use Rattle.std.specs.FinMap.{get}
use Rattle.std.proofs.lemmas.Bool.{eq-eqb}
use Rattle.rr_slots.specs.declared.family.Family.{Family}
use Rattle.rr_protocol.specs.declared.settings.BackpressureAction.{BackpressureAction}
use Rattle.rr_protocol.specs.declared.error.LoanError.{LoanError}
use Rattle.rr_protocol.specs.declared.error.RequestSendError.{RequestSendError}
use Rattle.rr_protocol.specs.declared.error.SendError.{SendError}
use Rattle.rr_protocol.specs.Messages.{Content, ResponseMessage, ResponseMut, with_hint}
use Rattle.rr_protocol.specs.Writing.{with_element, with_element_at, with_user_header, with_elements, with_request_content, with_response_content, after_init}
use Rattle.rr_protocol.specs.State.{State, client_at, handle_at}
use Rattle.rr_protocol.specs.Loans.{LoansRequest, LoansResponse}
use Rattle.rr_protocol.specs.Sends.{SendsRequest, SendsResponse}
use Rattle.rr_protocol.specs.declared.command.Command.{Command}
use Rattle.rr_protocol.specs.declared.reply.Reply.{Reply}
use Rattle.rr_protocol.specs.Refusals.{refusal}
use Rattle.rr_protocol.specs.Step.{client_settings, server_settings, with_content, with_complete, Loans, Acts, Step}
use Rattle.rr_protocol.specs.AnswerRule.{Event, is_sent_copy}
use Rattle.rr_laws.specs.Roles.{Role, LoanedResponse, Answer, roles_of, answer_of}
use Rattle.rr_laws.specs.Reached.{IsReached}
use Rattle.rr_laws.specs.Apart.{IsApart}
use Rattle.rr_laws.specs.Following.{is_servers, entries_for, queued, Moves, MovesQuietly, WasReceived, Follows}
use Rattle.rr_laws.proofs.RoleLaws.{role_at, roles-changed}
use Rattle.rr_laws.proofs.Opening.{some_and, open_active}
use Rattle.rr_laws.proofs.Loaning.{loans_request_reached, loans_response_reached}
use Rattle.rr_laws.proofs.Changing.{init_role, hint_role, content_role, complete_reached}
use Rattle.rr_laws.proofs.ApartSends.{loans_request_apart, loans_response_apart}
use Rattle.rr_laws.proofs.ApartSteps.{complete_apart}
use Rattle.rr_laws.proofs.Telling.{is_refusing, IsSilent, silent, refusing_silent, refusal_refuses}
use Rattle.rr_laws.proofs.Coming.{copied_comes}
use Rattle.rr_laws.proofs.Following.{GainsLoan, now_loaned, occurs_after_active, follows_silently}
use Rattle.rr_laws.proofs.Moving.{moves_same, then_quietly}
use Rattle.rr_laws.proofs.MovingReleases.{after_release_quietly}
use Rattle.rr_laws.proofs.MovingSends.{loaned_request_moves, sent_request_quietly, sent_response_moves, unsent_response_moves}
use Rattle.rr_laws.proofs.MovingReceives.{loaned_response_moves, loaned_response_same, no_request_quietly, refused_request_quietly, no_response_quietly, refused_response_quietly}
use Rattle.rr_laws.proofs.FollowingCalls.{SendsNow, creates_client_quietly, changed_quietly, unmoved, creates_server_quietly, both, loan_tells, follows_send, sent_follows, request_follows, response_follows, loan_follows}

module _ {T H K : Type 0} where
  -- a message says something else
  pub content_quietly : (s : State T H T H K) (n : ℕ) (change : Content T H → Content T H) → MovesQuietly s (with_content s n change)
  content_quietly s n change = changed_quietly s _ n (λ h. with_request_content change (with_response_content change h))
      (content_role change)
      refl

  -- all elements of a message are written, and each role stays
  pub complete_roles : (s : State T H T H K) (n : ℕ) (elements : List T)
      → roles_of (with_complete s n elements).handles ≡ roles_of s.handles
  complete_roles s n elements =
      roles-changed after_init init_role (with_content s n (with_elements elements)).handles n
      ∙ roles-changed (λ h. with_request_content (with_elements elements) (with_response_content (with_elements elements) h))
      (content_role (with_elements elements)) s.handles n

  -- all elements of a message are written
  pub complete_quietly : (s : State T H T H K) (n : ℕ) (elements : List T) → MovesQuietly s (with_complete s n elements)
  complete_quietly s n elements = moves_same s (with_complete s n elements) (omega arith) (complete_roles s n elements) refl

  -- an element is written, or not
  pub written : (old new : State T H T H K) (n : ℕ) (b : Bool) (change : Content T H → Content T H)
      → new ≡ cond b (with_content old n change) old → MovesQuietly old new
  written old new n true change same = subst (λ (x : State T H T H K). MovesQuietly old x) (sym same) (content_quietly old n change)
  written old new n false change same = unmoved old new same

  -- a response that is loaned and goes at once
  pub copy_moves : {GoesOn : ℕ → ℕ → List ℕ → List ℕ → Type 0} (history : List (Event T H K)) (IsDefault : H → Type 0)
      (old : State T H T H K) → IsReached old → Follows history old → (n k : ℕ) (mid new : State T H T H K) (elements : List T) →
      LoansResponse IsDefault old n 1 (Ok k) mid → Moves (λ j role. ⊥) GoesOn (with_complete mid k elements) new
      → ((role : Role) → is_servers role ≡ true → get (roles_of new.handles) k ≢ Some role) → Moves (λ j role. ⊥) GoesOn old new
  copy_moves {GoesOn} history IsDefault old fits follows n k mid new elements loans moves gone =
      let loaned = loaned_response_moves IsDefault old fits history follows.held n 1 k mid loans in
      record {
        next = omega (arith, loaned.0.next, moves.next);
        roles = λ j role servers e. ⊎_elim
            (λ was. ⊎_elim
            (λ before. inl before)
            (λ gained. absurd (gone role servers (ap (get (roles_of new.handles)) (sym gained.0) ∙ e)))
            (loaned.0.roles j role servers (sym (ap (λ r. get r j) (complete_roles mid k elements)) ∙ was)))
            (λ gained. absurd gained)
            (moves.roles j role servers e);
        entries = λ server p. subst (λ xs. (queued new server p ≡ []) ⊎ GoesOn server p xs (queued new server p))
            (ap (λ r. entries_for r mid.responses server p) (complete_roles mid k elements)
            ∙ loaned_response_same IsDefault old fits n 1 k mid loans server p) (moves.entries server p);
      }

module _ {T H K : Type 0} (action : K → ℕ → ℕ → BackpressureAction) (IsDefaultElement : T → Type 0) (IsDefaultHeader : H → Type 0)
    (family : Family) (history : List (Event T H K)) (old : State T H T H K)
    (fits : IsReached old) (apart : IsApart old) (follows : Follows history old) where
  -- after an event that tells nothing
  quietly : (command : Command T H K) (reply : Reply T H) (new : State T H T H K) → IsSilent (command, reply) → MovesQuietly old new
      → Follows (history ++ (command, reply) ∷ []) new
  quietly command reply new quiet moves = follows_silently history (command, reply) old new follows quiet moves

  -- a loan that is refused
  pub refused_loan : (n len : ℕ) (error : LoanError) (new : State T H T H K)
      → Loans action IsDefaultElement IsDefaultHeader family old n len (Err error) new → MovesQuietly old new
  refused_loan n len error new loans = ⊎_elim
      (λ (request : LoansRequest IsDefaultHeader old n len (Err error) new). unmoved old new (some_and (client_at old n) _ request).2.1)
      (λ (response : LoansResponse IsDefaultHeader old n len (Err error) new). unmoved old new (open_active old n _ response).4.1)
      loans

  -- a state after a loan for a send at once, with the one element
  pub loaned_response_complete : (n k : ℕ) (mid : State T H T H K) (v : T) → LoansResponse IsDefaultHeader old n 1 (Ok k) mid
      → IsReached (with_complete mid k (v ∷ [])) × IsApart (with_complete mid k (v ∷ []))
  loaned_response_complete n k mid v loans = (
    complete_reached mid k (v ∷ []) (loans_response_reached old fits IsDefaultHeader n 1 (Ok k) mid loans),
    complete_apart mid k (v ∷ []) (loans_response_apart IsDefaultHeader old fits apart n 1 (Ok k) mid loans),
  )

  -- a response that is loaned and sent at once
  pub copied_now : (n k : ℕ) (v : T) (mid new : State T H T H K) → LoansResponse IsDefaultHeader old n 1 (Ok k) mid
      → SendsResponse action (with_complete mid k (v ∷ [])) k (Ok k) new →
      (m : ResponseMessage T H) × (handle_at (with_complete mid k (v ∷ [])) k ≡ Some (ResponseMut m))
      × SendsNow history old (Command.SendCopy n v, Reply.Sent k) new m.server m.request k
  copied_now n k v mid new loans sends =
      let complete = with_complete mid k (v ∷ []) in
      let holds = loaned_response_complete n k mid v loans in
      let s = sent_response_moves action complete holds.0 holds.1 k k new sends in
      let m = s.0 in
      let loaned = loaned_response_moves IsDefaultHeader old fits history follows.held n 1 k mid loans in
      let is : k ≡ old.next = loaned.1 in
      let here : get (roles_of mid.handles) k ≡ Some (LoanedResponse (answer_of m)) = sym
      (ap (λ r. get r k) (complete_roles mid k (v ∷ []))) ∙ role_at complete.handles k (ResponseMut m) s.1 in
      let gained = gained_only (answer_of m) is (loaned.0.roles k (LoanedResponse (answer_of m)) refl here) in (
        m,
        s.1,
        record {
          send = record { sends = refl; receives = λ p. refl; responds = λ j. refl };
          comes = copied_comes history old.next new.next n k v is (omega (arith, loaned.2, s.2.next)) loaned.3;
          sent = record {
            lender = n;
            loaned = now_loaned history (Command.SendCopy n v, Reply.Sent k) m.server m.request n k
                (follows.numbers.unused k (omega (arith, is))) gained (ap (λ b. cond b (Some n) None) (eq-eqb k k refl)) refl;
            occurs = inr (occurs_after_active history (Command.SendCopy n v, Reply.Sent k) m.server n m.request (is_sent_copy n k) gained
                (both n k));
          };
          moves = copy_moves history IsDefaultHeader old fits follows n k mid new (v ∷ []) loans s.2 s.3;
        },
      )
    where
      gained_only : (a : Answer) → k ≡ old.next → (get (roles_of old.handles) k ≡ Some (LoanedResponse a))
          ⊎ GainsLoan history n k k (LoanedResponse a) → WasReceived history a.server n a.request
      gained_only a is either = ⊎_elim
          (λ was. absurd (omega (arith, is, (fits.handles k (LoanedResponse a) was).below)))
          (λ gained. subst (λ (x : Answer). WasReceived history x.server n x.request)
          (let f : LoanedResponse a ≡ LoanedResponse gained.1.0 = gained.1.1 in let g : gained.1.0 ≡ a = cc in g) gained.1.3)
          either

  -- a send at once that is refused
  pub not_copied : (n k : ℕ) (v : T) (e : SendError) (mid new : State T H T H K) → LoansResponse IsDefaultHeader old n 1 (Ok k) mid
      → SendsResponse {U = ℕ} action (with_complete mid k (v ∷ [])) k (Err e) new → MovesQuietly old new
  not_copied n k v e mid new loans sends =
      let holds = loaned_response_complete n k mid v loans in
      let s = unsent_response_moves ℕ action (with_complete mid k (v ∷ [])) holds.0 k e new sends in
      copy_moves history IsDefaultHeader old fits follows n k mid new (v ∷ []) loans s.0 s.1

  -- a send of a request at once, also one that is refused
  pub copied_request : (n k : ℕ) (v : T) (mid new : State T H T H K) (result : Result ℕ RequestSendError)
      → LoansRequest IsDefaultHeader old n 1 (Ok k) mid → SendsRequest action (with_complete mid k (v ∷ [])) k result new
      → MovesQuietly old new
  copied_request n k v mid new result loans sends =
      let complete = with_complete mid k (v ∷ []) in
      let moved = loaned_request_moves {Gains = λ j role. ⊥} IsDefaultHeader old fits n 1 k mid loans in
      then_quietly old mid new moved.0 (then_quietly mid complete new (complete_quietly mid k (v ∷ []))
      (sent_request_quietly action complete
      (complete_reached mid k (v ∷ []) (loans_request_reached old fits IsDefaultHeader n 1 (Ok k) mid loans))
      (complete_apart mid k (v ∷ []) (loans_request_apart IsDefaultHeader old fits apart n 1 (Ok k) mid loans)) k result new sends))

  -- after any command that acts
  pub acts_follow : (command : Command T H K) (reply : Reply T H) (new : State T H T H K) → IsApart new
      → Acts action IsDefaultElement IsDefaultHeader family old command reply new → Follows (history ++ (command, reply) ∷ []) new
  acts_follow (Command.CreateClient settings) (Reply.Created n) new after acts = quietly _ _ new (silent _ _ refl)
      (creates_client_quietly old (client_settings family settings) (Ok n) new acts)
  acts_follow (Command.CreateClient settings) (Reply.ClientError e) new after acts = quietly _ _ new (silent _ _ refl)
      (creates_client_quietly old (client_settings family settings) (Err e) new acts)
  acts_follow (Command.CreateClient settings) Reply.NoMemory new after acts = quietly _ _ new (silent _ _ refl) (unmoved old new acts)
  acts_follow (Command.CreateServer settings) (Reply.Created n) new after acts = quietly _ _ new (silent _ _ refl)
      (creates_server_quietly old (server_settings family settings) (Ok n) new acts)
  acts_follow (Command.CreateServer settings) (Reply.ServerError e) new after acts = quietly _ _ new (silent _ _ refl)
      (creates_server_quietly old (server_settings family settings) (Err e) new acts)
  acts_follow (Command.CreateServer settings) Reply.NoMemory new after acts = quietly _ _ new (silent _ _ refl) (unmoved old new acts)
  acts_follow (Command.Loan n len) (Reply.Loaned k) new after acts =
      loan_follows history old fits follows IsDefaultHeader IsDefaultHeader _ n len k new (loan_tells n len k) acts new
      (unmoved new new refl)
  acts_follow (Command.Loan n len) (Reply.LoanError e) new after acts = quietly _ _ new (silent _ _ refl) (refused_loan n len e new acts)
  acts_follow (Command.Loan n len) Reply.NoMemory new after acts = quietly _ _ new (silent _ _ refl) (unmoved old new acts)
  acts_follow (Command.LoanDefault n len) (Reply.Loaned k) new after acts =
      loan_follows history old fits follows IsDefaultHeader IsDefaultHeader _ n len k acts.0 (record {
        sends = refl;
        receives = λ p. refl;
        responds = λ j. refl;
        activates = λ server a p. refl;
        lends = λ j. refl;
        loans = both n k;
      }) acts.2 new
      (subst (λ (x : State T H T H K). MovesQuietly acts.0 x) (sym acts.5) (complete_quietly acts.0 k acts.1))
  acts_follow (Command.LoanDefault n len) (Reply.LoanError e) new after acts = quietly _ _ new (silent _ _ refl)
      (refused_loan n len e new acts)
  acts_follow (Command.LoanDefault n len) Reply.NoMemory new after acts = quietly _ _ new (silent _ _ refl) (unmoved old new acts)
  acts_follow (Command.SendCopy n v) (Reply.Pending k connections) new after acts = quietly _ _ new (silent _ _ refl)
      (copied_request n k v acts.0 new (Ok connections) acts.1 acts.2)
  acts_follow (Command.SendCopy n v) (Reply.RequestError e) new after acts = quietly _ _ new (silent _ _ refl) (⊎_elim
      (λ loaned. refused_loan n 1 loaned.0 new (inl loaned.1))
      (λ send. copied_request n send.1 v send.0 new (Err e) send.2 send.3)
      acts)
  acts_follow (Command.SendCopy n v) (Reply.Sent k) new after acts = let now = copied_now n k v acts.0 new acts.1 acts.2 in
      follows_send history old fits follows _ new now.0.server now.0.request k now.2
  acts_follow (Command.SendCopy n v) (Reply.SendError e) new after acts = quietly _ _ new (silent _ _ refl) (⊎_elim
      (λ loaned. refused_loan n 1 loaned.0 new (inr loaned.1))
      (λ send. not_copied n send.1 v e send.0 new send.2 send.3)
      acts)
  acts_follow (Command.SendCopy n v) Reply.NoMemory new after acts = quietly _ _ new (silent _ _ refl) (unmoved old new acts)
  acts_follow (Command.Push n v) (Reply.Flag b) new after acts = quietly _ _ new (silent _ _ refl)
      (written old new n b (with_element v) ((some_and (handle_at old n) _ acts).2.1))
  acts_follow (Command.Set n i v) (Reply.Flag b) new after acts = quietly _ _ new (silent _ _ refl)
      (written old new n b (with_element_at i v) ((some_and (handle_at old n) _ acts).2.1))
  acts_follow (Command.SetUserHeader n h) Reply.Done new after acts = quietly _ _ new (silent _ _ refl)
      (written old new n true (with_user_header h) acts)
  acts_follow (Command.AssumeInit n) Reply.Done new after acts = quietly _ _ new (silent _ _ refl)
      (changed_quietly old new n after_init init_role acts)
  acts_follow (Command.IsDeliverable n) (Reply.Flag b) new after acts = quietly _ _ new (silent _ _ refl) (unmoved old new acts.1)
  acts_follow (Command.Send n) (Reply.Pending k connections) new after acts = quietly _ _ new (silent _ _ refl)
      (sent_request_quietly action old fits apart n (Ok connections) new acts.1)
  acts_follow (Command.Send n) (Reply.RequestError e) new after acts = quietly _ _ new (silent _ _ refl)
      (sent_request_quietly action old fits apart n (Err e) new acts)
  acts_follow (Command.Send n) (Reply.Sent k) new after acts = sent_follows action history old fits apart follows n k new acts.0 acts.1
  acts_follow (Command.Send n) (Reply.SendError e) new after acts = quietly _ _ new (silent _ _ refl)
      (unsent_response_moves ℕ action old fits n e new acts).0
  acts_follow (Command.Receive n) (Reply.Active a r) new after acts = request_follows history old fits follows n a r new acts.0 acts.1
  acts_follow (Command.Receive n) (Reply.Response k) new after acts =
      response_follows action history old fits apart follows n k new after acts
  acts_follow (Command.Receive n) Reply.Nothing new after acts = quietly _ _ new (silent _ _ refl)
      (⊎_elim (no_request_quietly old n new) (no_response_quietly old n new) acts)
  acts_follow (Command.Receive n) (Reply.ReceiveError e) new after acts = quietly _ _ new (silent _ _ refl)
      (⊎_elim (refused_request_quietly old n e new) (refused_response_quietly old n e new) acts)
  acts_follow (Command.Receive n) Reply.NoMemory new after acts = quietly _ _ new (silent _ _ refl) (unmoved old new acts)
  acts_follow (Command.HasEntries n) (Reply.Flag b) new after acts = quietly _ _ new (silent _ _ refl) (unmoved old new acts.1)
  acts_follow (Command.IsConnected n) (Reply.Flag b) new after acts = quietly _ _ new (silent _ _ refl) (unmoved old new acts.1)
  acts_follow (Command.SetHint n) Reply.Done new after acts = quietly _ _ new (silent _ _ refl)
      (changed_quietly old new n with_hint hint_role acts)
  acts_follow (Command.HasHint n) (Reply.Flag b) new after acts = quietly _ _ new (silent _ _ refl) (unmoved old new acts.1)
  acts_follow (Command.Servers n) (Reply.Count c) new after acts = quietly _ _ new (silent _ _ refl) (unmoved old new acts.1)
  acts_follow (Command.Header n) (Reply.RequestHeader h) new after acts = quietly _ _ new (silent _ _ refl) (unmoved old new acts.1)
  acts_follow (Command.Header n) (Reply.ResponseHeader h) new after acts = quietly _ _ new (silent _ _ refl) (unmoved old new acts.1)
  acts_follow (Command.UserHeader n) (Reply.UserHeader h) new after acts = quietly _ _ new (silent _ _ refl) (unmoved old new acts.1)
  acts_follow (Command.Payload n) (Reply.Payload elements) new after acts = quietly _ _ new (silent _ _ refl) (unmoved old new acts.1)
  acts_follow (Command.Payload n) Reply.NoMemory new after acts = quietly _ _ new (silent _ _ refl) (unmoved old new acts)
  acts_follow (Command.Origin n) (Reply.Id m) new after acts = quietly _ _ new (silent _ _ refl) (unmoved old new acts.1)
  acts_follow (Command.Strategy n) (Reply.Strategy s) new after acts = quietly _ _ new (silent _ _ refl) (unmoved old new acts.1)
  acts_follow (Command.MaxSliceLen n) (Reply.Count c) new after acts = quietly _ _ new (silent _ _ refl) (unmoved old new acts.1)
  acts_follow (Command.UpdateConnections n) Reply.Done new after acts = quietly _ _ new (silent _ _ refl) (unmoved old new acts)
  acts_follow (Command.Release n) Reply.Done new after acts = quietly _ _ new (silent _ _ refl)
      (subst (λ (x : State T H T H K). MovesQuietly old x) (sym acts) (after_release_quietly old n fits))
  acts_follow command reply new after acts = absurd acts

  -- after any step
  pub step_follows : (command : Command T H K) (reply : Reply T H) (new : State T H T H K) → IsApart new
      → Step action IsDefaultElement IsDefaultHeader family old command reply new → Follows (history ++ (command, reply) ∷ []) new
  step_follows command reply new after step = go (refusal family old command) refl step
    where
      go : (o : Option (Reply T H)) → refusal family old command ≡ o
          → MatchOption o (Acts action IsDefaultElement IsDefaultHeader family old command reply new)
          (λ refused. (reply ≡ refused) × (new ≡ old)) → Follows (history ++ (command, reply) ∷ []) new
      go None due step = acts_follow command reply new after step
      go (Some refused) due step = quietly command reply new
          (refusing_silent command reply (ap is_refusing step.0 ∙ refusal_refuses family old command refused due)) (unmoved old new step.1)
