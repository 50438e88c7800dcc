-- A message that was being written can be sent: the stage of its handle alone changes.
use Rattle.std.proofs.Common.{◌≡◌, ℕ, Some, refl, sym, ap, ◌∙◌, ⊎_elim}
use Rattle.std.specs.Prelude.{◌⊎◌, IfSome}
use Rattle.std.specs.FinMap as fin_map
use Rattle.rr_table.specs.TableView.{TableView, inserted, value_at}
use Rattle.rr_protocol.specs.State.{with_changed}
use Rattle.rr_protocol.specs.Writing.{after_init}
use Rattle.rr_store.specs.declared.handle_entry.HandleEntry.{HandleEntry}
use Rattle.rr_store.specs.declared.handle_entry.Stage.{Stage}
use Rattle.rr_store.specs.declared.handle_entry.Stage.TheVariants as stage
use Rattle.rr_store.specs.Parts.{Parts}
use Rattle.rr_store.specs.Views.{handle_in, state_of}
use Rattle.rr_store.specs.Sound.{IsSoundStore, Hand, is_of_request, is_of_response, is_request_loan, is_response_loan, is_pending, is_received, is_active_of, place_at}
use Rattle.rr_store.specs.Writing.{initialised}
use Rattle.rr_writing.proofs.laws.Restaged.{IsRestaging, each_stage, restaged, restaged_sound, restaged_view}

-- no count tells
blind : IsRestaging initialised
blind = record {
  request = each_stage (λ g. is_of_request (initialised g) ≡ is_of_request g) refl refl (λ a b. refl) (λ a b. refl) refl refl refl;
  response = each_stage (λ g. is_of_response (initialised g) ≡ is_of_response g) refl refl (λ a b. refl) (λ a b. refl) refl refl refl;
  request_loan = each_stage (λ g. is_request_loan (initialised g) ≡ is_request_loan g) refl refl (λ a b. refl) (λ a b. refl) refl refl refl;
  response_loan = each_stage (λ g. is_response_loan (initialised g) ≡ is_response_loan g) refl refl (λ a b. refl) (λ a b. refl) refl refl
      refl;
  pending = each_stage (λ g. is_pending (initialised g) ≡ is_pending g) refl refl (λ a b. refl) (λ a b. refl) refl refl refl;
  received = each_stage (λ g. is_received (initialised g) ≡ is_received g) refl refl (λ a b. refl) (λ a b. refl) refl refl refl;
  active = λ server. each_stage (λ g. is_active_of server (initialised g) ≡ is_active_of server g) refl refl (λ a b. refl)
      (λ a b. refl) refl refl refl;
}

module _ {Q QH P PH K : Type 0} (p : Parts Q QH P PH K) where
  -- its place stays
  blind_place : (g : Stage) (sender slot : ℕ) → place_at p (initialised g) sender slot ≡ place_at p g sender slot
  blind_place g sender slot = each_stage (λ g. place_at p (initialised g) sender slot ≡ place_at p g sender slot) refl refl (λ a b. refl)
      (λ a b. refl) refl refl refl g

  -- and what it shows is the same message
  ready_shown : (g : Stage) (sender slot : ℕ) → handle_in p (initialised g) sender slot ≡ after_init (handle_in p g sender slot)
  ready_shown g sender slot = each_stage (λ g. handle_in p (initialised g) sender slot ≡ after_init (handle_in p g sender slot)) refl refl
      (λ a b. refl) (λ a b. refl) refl refl refl g

module _ {Q QH P PH K : Type 0} (p : Parts Q QH P PH K) (n : ℕ) (entry : HandleEntry) (h : value_at p.table n ≡ Some entry)
    (new : TableView HandleEntry)
    (v : HandleEntry) (ready : v ≡ restaged initialised entry)
    (told : IfSome (fin_map.get p.table.entries n) (λ s. new ≡ inserted p.table n s.place v)) where
  -- contracts see a message that can be sent
  pub initialised_view : state_of (record p { table = new }) ≡ with_changed (state_of p) n after_init
  initialised_view = restaged_view p initialised blind n entry h new v ready told after_init (ready_shown p)

  -- what was being written is no active request
  inactive : (entry.stage ≡ stage.RequestMutUninit) ⊎ (entry.stage ≡ stage.ResponseMutUninit)
      → (server loans : ℕ) → initialised entry.stage ≡ stage.ActiveRequest server loans → ⊥
  inactive uninit server loans e =
      ⊎_elim
      (λ u. let f : stage.RequestMut ≡ stage.ActiveRequest server loans = sym (ap initialised u) ∙ e in cc)
      (λ u. let f : stage.ResponseMut ≡ stage.ActiveRequest server loans = sym (ap initialised u) ∙ e in cc)
      uninit

  -- the core stays sound
  pub initialised_sound : (hand : Hand) → IsSoundStore p hand
      → (entry.stage ≡ stage.RequestMutUninit) ⊎ (entry.stage ≡ stage.ResponseMutUninit) → IsSoundStore (record p { table = new }) hand
  initialised_sound hand sound uninit =
      restaged_sound p initialised blind n entry h new v ready told hand sound (blind_place p) (inactive uninit)
