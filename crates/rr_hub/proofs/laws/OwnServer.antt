-- A response on loan is of the server that has its active request.
use Rattle.std.proofs.Common.{◌≡◌, ℕ, true, Option, Some, None, option_map, refl, sym, ap, ◌∙◌}
use Rattle.std.specs.FinMap as fin_map
use Rattle.rr_table.proofs.MapLaws.{get-map_values}
use Rattle.rr_table.specs.TableView.{TableEntry}
use Rattle.rr_laws.specs.Apart.{LoansKeepServers}
use Rattle.rr_laws.specs.Roles.{Answer, LoanedRequest, LoanedResponse, Question, ReceivedRequest, ReceivedResponse, Role, SentRequest, answer_of, question_of, role_of, roles_of}
use Rattle.rr_laws.proofs.RoleLaws.{get-roles}
use Rattle.rr_store.specs.declared.handle_entry.HandleEntry.{HandleEntry}
use Rattle.rr_store.specs.declared.handle_entry.Stage.{Stage}
use Rattle.rr_store.specs.declared.handle_entry.Stage.TheVariants as stage
use Rattle.rr_store.specs.Parts.{Parts}
use Rattle.rr_store.specs.Sound.{IsSoundStore, empty_hand, is_of_response}
use Rattle.rr_store.specs.Views.{handle_in, handle_of, request_at, response_at, state_of}
use Rattle.rr_store.proofs.base.hands.Stages.{handle_uses_response}

module _ {Q QH P PH K : Type 0} (p : Parts Q QH P PH K) (sound : IsSoundStore p empty_hand) where
  -- what stands in the table under a number, by its role
  under : (n : ℕ) (role : Role) → fin_map.get (roles_of (state_of p).handles) n ≡ Some role
      → (s : TableEntry HandleEntry) × (fin_map.get p.table.entries n ≡ Some s) × (role_of (handle_of p s) ≡ role)
  under n role at =
      go (fin_map.get p.table.entries n) refl
      (sym (get-roles (state_of p).handles n ∙ ap (option_map role_of) (get-map_values (handle_of p) p.table.entries n)) ∙ at)
    where
      go : (o : Option (TableEntry HandleEntry)) → fin_map.get p.table.entries n ≡ o → option_map role_of (option_map (handle_of p) o) ≡ Some role
          → (s : TableEntry HandleEntry) × (fin_map.get p.table.entries n ≡ Some s) × (role_of (handle_of p s) ≡ role)
      go None is e = absurd (let f : None ≡ Some role = e in cc)
      go (Some s) is e = (s, is, (let f : Some (role_of (handle_of p s)) ≡ Some role = e in cc))

  -- a response on loan is one, and an active request is one
  of_loan : (g : Stage) (sender slot : ℕ) (a : Answer) → role_of (handle_in p g sender slot) ≡ LoanedResponse a
      → (is_of_response g ≡ true) × (answer_of (response_at p sender slot) ≡ a)
  of_loan stage.RequestMutUninit sender slot a e = absurd (let f : LoanedRequest (question_of (request_at p sender slot)) ≡ LoanedResponse a = e in cc)
  of_loan stage.RequestMut sender slot a e = absurd (let f : LoanedRequest (question_of (request_at p sender slot)) ≡ LoanedResponse a = e in cc)
  of_loan (stage.PendingResponse hint connections) sender slot a e =
      absurd (let f : SentRequest (question_of (request_at p sender slot)) ≡ LoanedResponse a = e in cc)
  of_loan (stage.ActiveRequest server loans) sender slot a e =
      absurd (let f : ReceivedRequest server (question_of (request_at p sender slot)) ≡ LoanedResponse a = e in cc)
  of_loan stage.ResponseMutUninit sender slot a e = (refl, (let f : LoanedResponse (answer_of (response_at p sender slot)) ≡ LoanedResponse a = e in cc))
  of_loan stage.ResponseMut sender slot a e = (refl, (let f : LoanedResponse (answer_of (response_at p sender slot)) ≡ LoanedResponse a = e in cc))
  of_loan stage.Response sender slot a e = absurd (let f : ReceivedResponse (answer_of (response_at p sender slot)) ≡ LoanedResponse a = e in cc)

  of_active : (g : Stage) (sender slot server : ℕ) (q : Question) → role_of (handle_in p g sender slot) ≡ ReceivedRequest server q
      → (loans : ℕ) × (g ≡ stage.ActiveRequest server loans)
  of_active stage.RequestMutUninit sender slot server q e = absurd (let f : LoanedRequest (question_of (request_at p sender slot)) ≡ ReceivedRequest server q = e in cc)
  of_active stage.RequestMut sender slot server q e = absurd (let f : LoanedRequest (question_of (request_at p sender slot)) ≡ ReceivedRequest server q = e in cc)
  of_active (stage.PendingResponse hint connections) sender slot server q e =
      absurd (let f : SentRequest (question_of (request_at p sender slot)) ≡ ReceivedRequest server q = e in cc)
  of_active (stage.ActiveRequest there loans) sender slot server q e =
      (loans, ap (λ i. stage.ActiveRequest i loans) (let f : ReceivedRequest there (question_of (request_at p sender slot)) ≡ ReceivedRequest server q = e in cc))
  of_active stage.ResponseMutUninit sender slot server q e = absurd (let f : LoanedResponse (answer_of (response_at p sender slot)) ≡ ReceivedRequest server q = e in cc)
  of_active stage.ResponseMut sender slot server q e = absurd (let f : LoanedResponse (answer_of (response_at p sender slot)) ≡ ReceivedRequest server q = e in cc)
  of_active stage.Response sender slot server q e = absurd (let f : ReceivedResponse (answer_of (response_at p sender slot)) ≡ ReceivedRequest server q = e in cc)

  pub loans_keep_servers : LoansKeepServers (roles_of (state_of p).handles)
  loans_keep_servers n m server q a active loan its =
      let s = under n (ReceivedRequest server q) active in
      let t = under m (LoanedResponse a) loan in
      let g = of_active s.0.value.stage s.0.value.sender s.0.value.slot server q s.2 in
      let r = of_loan t.0.value.stage t.0.value.sender t.0.value.slot a t.2 in
      ap (λ (x : Answer). x.server) (sym r.1)
      ∙ (sound.numbered.answering t.0.value.sender t.0.value.slot n server g.0 s.0 (handle_uses_response p empty_hand sound.counted m t.0 t.1 r.0) s.1 g.1
      (ap (λ (x : Answer). x.active_request) r.1 ∙ its)).1
