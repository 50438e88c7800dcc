-- The hint of a pending response is set: the stage of its handle alone changes.
use Rattle.std.proofs.Common.{◌≡◌, ℕ, true, Some, refl, sym, ap, ◌∙◌}
use Rattle.std.specs.Prelude.{IfSome}
use Rattle.std.specs.FinMap as fin_map
use Rattle.rr_table.specs.TableView.{TableView, inserted, value_at}
use Rattle.rr_protocol.specs.declared.kind.Kind.{Kind}
use Rattle.rr_protocol.specs.Messages.{with_hint}
use Rattle.rr_protocol.specs.State.{with_changed}
use Rattle.rr_store.specs.declared.handle_entry.HandleEntry.{HandleEntry}
use Rattle.rr_store.specs.declared.handle_entry.Stage.{Stage}
use Rattle.rr_store.specs.declared.handle_entry.Stage.TheVariants as stage
use Rattle.rr_store.specs.Hints.{hinted}
use Rattle.rr_store.specs.Kinds.{stage_kind}
use Rattle.rr_store.specs.Parts.{Parts}
use Rattle.rr_store.specs.Views.{handle_in, state_of}
use Rattle.rr_store.specs.Sound.{IsSoundStore, Hand, is_of_request, is_of_response, is_request_loan, is_response_loan, is_pending, is_received, is_active_of, place_at}
use Rattle.rr_store.proofs.querying.Connected.{pending_stage}
use Rattle.rr_writing.proofs.laws.Restaged.{IsRestaging, each_stage, restaged, restaged_sound, restaged_view}

-- no count tells
blind : IsRestaging hinted
blind = record {
  request = each_stage (λ g. is_of_request (hinted g) ≡ is_of_request g) refl refl (λ a b. refl) (λ a b. refl) refl refl refl;
  response = each_stage (λ g. is_of_response (hinted g) ≡ is_of_response g) refl refl (λ a b. refl) (λ a b. refl) refl refl refl;
  request_loan = each_stage (λ g. is_request_loan (hinted g) ≡ is_request_loan g) refl refl (λ a b. refl) (λ a b. refl) refl refl refl;
  response_loan = each_stage (λ g. is_response_loan (hinted g) ≡ is_response_loan g) refl refl (λ a b. refl) (λ a b. refl) refl refl refl;
  pending = each_stage (λ g. is_pending (hinted g) ≡ is_pending g) refl refl (λ a b. refl) (λ a b. refl) refl refl refl;
  received = each_stage (λ g. is_received (hinted g) ≡ is_received g) refl refl (λ a b. refl) (λ a b. refl) refl refl refl;
  active = λ server. each_stage (λ g. is_active_of server (hinted g) ≡ is_active_of server g) refl refl (λ a b. refl)
      (λ a b. refl) refl refl refl;
}

module _ {Q QH P PH K : Type 0} (p : Parts Q QH P PH K) where
  -- its place stays
  blind_place : (g : Stage) (sender slot : ℕ) → place_at p (hinted g) sender slot ≡ place_at p g sender slot
  blind_place g sender slot = each_stage (λ g. place_at p (hinted g) sender slot ≡ place_at p g sender slot) refl refl (λ a b. refl)
      (λ a b. refl) refl refl refl g

  -- and it shows the hint
  hint_shown : (g : Stage) (sender slot : ℕ) → handle_in p (hinted g) sender slot ≡ with_hint (handle_in p g sender slot)
  hint_shown g sender slot = each_stage (λ g. handle_in p (hinted g) sender slot ≡ with_hint (handle_in p g sender slot)) refl refl
      (λ a b. refl) (λ a b. refl) refl refl refl g

module _ {Q QH P PH K : Type 0} (p : Parts Q QH P PH K) (n : ℕ) (entry : HandleEntry) (h : value_at p.table n ≡ Some entry)
    (new : TableView HandleEntry)
    (v : HandleEntry) (becomes : v ≡ restaged hinted entry)
    (told : IfSome (fin_map.get p.table.entries n) (λ s. new ≡ inserted p.table n s.place v)) where
  -- contracts see the hint
  pub hinted_view : state_of (record p { table = new }) ≡ with_changed (state_of p) n with_hint
  hinted_view = restaged_view p hinted blind n entry h new v becomes told with_hint (hint_shown p)

  -- a pending response is no active request
  inactive : stage_kind entry.stage ≡ Kind.PendingResponse → (server loans : ℕ) → hinted entry.stage ≡ stage.ActiveRequest server loans → ⊥
  inactive is server loans e =
      let s = pending_stage entry.stage is in
      let f : hinted (stage.PendingResponse s.0 s.1) ≡ stage.ActiveRequest server loans = sym (ap hinted s.2) ∙ e in
      let g : stage.PendingResponse true s.1 ≡ stage.ActiveRequest server loans = f in cc

  -- the core stays sound
  pub hinted_sound : (hand : Hand) → IsSoundStore p hand → stage_kind entry.stage ≡ Kind.PendingResponse
      → IsSoundStore (record p { table = new }) hand
  hinted_sound hand sound is =
      restaged_sound p hinted blind n entry h new v becomes told hand sound (blind_place p) (inactive is)
