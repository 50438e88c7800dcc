-- Histories go on by a call.
use Rattle.std.proofs.Common.{ℕ, List, [], ◌∷◌, ◌++◌, map, sym, subst}
use Rattle.std.proofs.lemmas.List.{map-append}
use Rattle.rr_slots.specs.declared.family.Family.{Family}
use Rattle.rr_protocol.specs.declared.limits.Limits.{Limits}
use Rattle.rr_protocol.specs.declared.settings.BackpressureAction.{BackpressureAction}
use Rattle.rr_protocol.specs.State.{State, empty_hub}
use Rattle.rr_protocol.specs.declared.command.Command.{Command}
use Rattle.rr_protocol.specs.declared.reply.Reply.{Reply}
use Rattle.rr_protocol.specs.AnswerRule.{Event}
use Rattle.rr_protocol.specs.Step.{Step}
use Rattle.rr_protocol.specs.Run.{Run}
use Rattle.rr_protocol.specs.Continuing.{LeadsTo}
use Rattle.rr_protocol.proofs.RunLaws.{run_then_step}

module _ {T H K : Type 0} (answer : K → ℕ → ℕ → BackpressureAction) (IsDefaultElement : T → Type 0) (IsDefaultHeader : H → Type 0) (family : Family) where
  -- a history goes on by a call
  pub leads_on : (limits : Limits) (node_id : ℕ) (history : List (Event T H K)) (old new : State T H T H K) (command : Command T H K) (reply : Reply T H) →
      LeadsTo answer IsDefaultElement IsDefaultHeader family limits node_id history old →
      Step answer IsDefaultElement IsDefaultHeader family old command reply new →
      LeadsTo answer IsDefaultElement IsDefaultHeader family limits node_id (history ++ (command, reply) ∷ []) new
  leads_on limits node_id history old new command reply led step =
      subst (λ cs. Run answer IsDefaultElement IsDefaultHeader family (empty_hub limits node_id) cs (map (λ e. e.1) (history ++ (command, reply) ∷ [])) new) (sym (map-append (λ e. e.0) history ((command, reply) ∷ [])))
      (subst (λ rs. Run answer IsDefaultElement IsDefaultHeader family (empty_hub limits node_id) (map (λ e. e.0) history ++ command ∷ []) rs new) (sym (map-append (λ e. e.1) history ((command, reply) ∷ [])))
      (run_then_step answer IsDefaultElement IsDefaultHeader family (map (λ e. e.0) history) (map (λ e. e.1) history) (empty_hub limits node_id) old new command reply led step))
