-- What the release of a response on loan is for contracts: its handle goes.
use Rattle.std.proofs.Common.{◌≡◌, ℕ, true, Some, refl, sym, ap, ◌∙◌}
use Rattle.std.specs.Prelude.{slice_get}
use Rattle.std.specs.FinMap as fin_map
use Rattle.std.proofs.lemmas.Bool.{false≢true}
use Rattle.rr_table.specs.TableView.{TableEntry}
use Rattle.rr_protocol.specs.Keys.{response_key_cmp}
use Rattle.rr_protocol.specs.Lists.{Lists}
use Rattle.rr_protocol.specs.Messages.{ResponseMessage, port_of}
use Rattle.rr_protocol.specs.Releases.{after_handle_gone}
use Rattle.rr_protocol.specs.State.{State}
use Rattle.rr_store.specs.declared.handle_entry.HandleEntry.{HandleEntry}
use Rattle.rr_store.specs.declared.handle_entry.Stage.{Stage}
use Rattle.rr_store.specs.declared.handle_entry.Stage.TheVariants as stage
use Rattle.rr_store.specs.Parts.{Parts, ServerPart}
use Rattle.rr_store.specs.Releasing.{IsHandleGone}
use Rattle.rr_store.specs.Views.{sender_of, state_of, handle_in, handle_of}
use Rattle.rr_store.specs.Sound.{IsSoundStore, empty_hand, is_response_loan, response_details}
use Rattle.rr_store.proofs.base.views.Counts.{listed}
use Rattle.rr_releasing.proofs.laws.View.{table_entry_shown}
use Rattle.rr_store.proofs.base.hands.Stages.{response_loan_is_response, handle_uses_response}

module _ {Q QH P PH K : Type 0} (p : Parts Q QH P PH K) where
  gone_alone : (t : State Q QH P PH K) (g : Stage) (sender slot : ℕ) → is_response_loan g ≡ true
      → after_handle_gone t (handle_in p g sender slot) ≡ t
  gone_alone t stage.ResponseMutUninit sender slot h = refl
  gone_alone t stage.ResponseMut sender slot h = refl
  gone_alone t stage.RequestMutUninit sender slot h = absurd (false≢true h)
  gone_alone t stage.RequestMut sender slot h = absurd (false≢true h)
  gone_alone t (stage.PendingResponse hint connections) sender slot h = absurd (false≢true h)
  gone_alone t (stage.ActiveRequest server loans) sender slot h = absurd (false≢true h)
  gone_alone t stage.Response sender slot h = absurd (false≢true h)

  port_is : (g : Stage) (sender slot : ℕ) → is_response_loan g ≡ true → port_of (handle_in p g sender slot)
      ≡ (response_details p sender slot).server
  port_is stage.ResponseMutUninit sender slot h = refl
  port_is stage.ResponseMut sender slot h = refl
  port_is stage.RequestMutUninit sender slot h = absurd (false≢true h)
  port_is stage.RequestMut sender slot h = absurd (false≢true h)
  port_is (stage.PendingResponse hint connections) sender slot h = absurd (false≢true h)
  port_is (stage.ActiveRequest server loans) sender slot h = absurd (false≢true h)
  port_is stage.Response sender slot h = absurd (false≢true h)

  module _ (sound : IsSoundStore p empty_hand) (k : ℕ) (s : TableEntry HandleEntry) (at : fin_map.get p.table.entries k ≡ Some s)
      (loan : is_response_loan s.value.stage ≡ true)
      (index : ℕ) (c : ServerPart K) (there : slice_get p.servers index ≡ Some c) (sends : c.sender ≡ s.value.sender) where
    -- its server
    pub its_server : (response_details p s.value.sender s.value.slot).server ≡ c.port.id
    its_server =
        let own = sound.server_ports.own index c.connected (listed (λ c. c.connected) p.servers index c there) in
        sound.addressed.responses s.value.sender s.value.slot (handle_uses_response p empty_hand sound.counted k s at
        (response_loan_is_response s.value.stage loan))
        ∙ sym (ap (λ l. (sender_of l p.server_senders).owner) sends) ∙ own.1

    -- whatever waits, nothing else changes
    pub response_loan_gone : (waits : Lists response_key_cmp (ResponseMessage P PH))
        → IsHandleGone (record (state_of p) { responses = waits }) k c.port.id
        (record (state_of p) { handles = fin_map.remove (state_of p).handles k; responses = waits })
    response_loan_gone waits =
        let without : State Q QH P PH K = record (state_of p) { handles = fin_map.remove (state_of p).handles k; responses = waits } in
        record {
          handle = handle_of p s;
          there = table_entry_shown p k s at;
          its_port = port_is s.value.stage s.value.sender s.value.slot loan ∙ its_server;
          gone = sym (gone_alone without s.value.stage s.value.sender s.value.slot loan);
        }
