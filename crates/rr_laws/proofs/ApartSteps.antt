-- Each step keeps requests and responses apart.
use Rattle.std.proofs.Common.{◌≡◌, ℕ, List, Some, None, Result, Ok, Err, sym, ap, ◌∙◌, subst, eqb, option_and_then, arith}
use Rattle.std.specs.Prelude.{count_by}
use Rattle.std.specs.Ordering.{nat_cmp}
use Rattle.std.specs.FinMap.{get-empty}
use Rattle.rr_slots.specs.declared.family.Family.{Family}
use Rattle.rr_table.proofs.MapLaws.{map_values-empty}
use Rattle.rr_protocol.specs.declared.limits.Limits.{Limits}
use Rattle.rr_protocol.specs.declared.settings.BackpressureAction.{BackpressureAction}
use Rattle.rr_protocol.specs.declared.settings.ClientSettings.{ClientSettings}
use Rattle.rr_protocol.specs.declared.settings.ServerSettings.{ServerSettings}
use Rattle.rr_protocol.specs.declared.error.ClientCreateError.{ClientCreateError}
use Rattle.rr_protocol.specs.declared.error.ServerCreateError.{ServerCreateError}
use Rattle.rr_protocol.specs.Lists.{no_lists}
use Rattle.rr_protocol.specs.Keys.{ResponseKey, response_key_cmp}
use Rattle.rr_protocol.specs.Messages.{ResponseMessage, Content}
use Rattle.rr_protocol.specs.Limits.{hub_refusal}
use Rattle.rr_protocol.specs.Writing.{with_elements, with_request_content, with_response_content, after_init}
use Rattle.rr_protocol.specs.State.{State, empty_hub}
use Rattle.rr_protocol.specs.Creation.{CreatesClient, CreatesServer}
use Rattle.rr_protocol.proofs.ListsLaws.{at-no_lists}
use Rattle.rr_protocol.specs.declared.command.Command.{Command}
use Rattle.rr_protocol.specs.declared.reply.Reply.{Reply}
use Rattle.rr_protocol.specs.Step.{with_content, with_complete, Step}
use Rattle.rr_protocol.specs.Run.{Run}
use Rattle.rr_laws.specs.Roles.{role_of, asking}
use Rattle.rr_laws.specs.Reached.{IsReached}
use Rattle.rr_laws.specs.Apart.{standing, AreApart, IsApart}
use Rattle.rr_laws.proofs.Creating.{empty_hub_reached}
use Rattle.rr_laws.proofs.Changing.{init_role, content_role}
use Rattle.rr_laws.proofs.Stepping.{run_reached, run_keeps, step_keeps}
use Rattle.rr_laws.proofs.LastingSteps.{run_lasts}
use Rattle.rr_laws.proofs.ApartReleases.{after_release_apart}
use Rattle.rr_laws.proofs.ApartSends.{loans_request_apart, loans_response_apart, sends_request_apart, sends_response_apart}
use Rattle.rr_laws.proofs.ApartReceives.{changed_apart, receives_request_apart, receives_response_apart}
use Rattle.rr_laws.proofs.Calling.{KeptByCalls}

module _ (P PH : Type 0) where
  nothing_stands : (number : ℕ) (key : ResponseKey) → standing {T = P} {H = PH} no_lists number key ≡ 0
  nothing_stands number key = ap (count_by (λ (m : ResponseMessage P PH). eqb m.number number)) (at-no_lists response_key_cmp key)

-- in the empty hub nothing stands together
pub empty_hub_apart : (Q QH P PH K : Type 0) (limits : Limits) (node_id : ℕ)
    → IsApart (empty_hub {Q = Q} {QH = QH} {P = P} {PH = PH} {K = K} limits node_id)
empty_hub_apart Q QH P PH K limits node_id =
    subst (λ r. AreApart {T = P} {H = PH} r no_lists) (sym (map_values-empty (role_of {Q = Q} {QH = QH} {P = P} {PH = PH}))) (record {
      channels = λ n k q p e f client channel. absurd (let none : Some q ≡ None = sym e
          ∙ ap (option_and_then asking) (get-empty nat_cmp n) in cc);
      responses = record {
        once = λ number key. omega (arith, nothing_stands P PH number key);
        one_list = λ number key other some more. absurd (omega (arith, some, nothing_stands P PH number key));
        no_handle = λ number key some. absurd (omega (arith, some, nothing_stands P PH number key));
      };
    })

module _ {Q QH P PH K : Type 0} where
  -- a state that is another one, whose requests and responses are apart
  same_apart : (old new : State Q QH P PH K) → new ≡ old → IsApart old → IsApart new
  same_apart old new same apart = subst (λ (x : State Q QH P PH K). IsApart x) (sym same) apart

  -- a client is created, or not
  creates_client_apart : (s : State Q QH P PH K) → IsApart s → (settings : ClientSettings K) (result : Result ℕ ClientCreateError)
      (new : State Q QH P PH K) → CreatesClient s settings result new → IsApart new
  creates_client_apart s apart settings (Ok number) new made = same_apart _ new made.2 apart
  creates_client_apart s apart settings (Err error) new made = same_apart s new made.1 apart

  -- a server is created, or not
  creates_server_apart : (s : State Q QH P PH K) → IsApart s → (settings : ServerSettings K) (result : Result ℕ ServerCreateError)
      (new : State Q QH P PH K) → CreatesServer s settings result new → IsApart new
  creates_server_apart s apart settings (Ok number) new made = same_apart _ new made.2 apart
  creates_server_apart s apart settings (Err error) new made = same_apart s new made.1 apart

module _ {T H K : Type 0} where
  content_apart : (s : State T H T H K) (n : ℕ) (change : Content T H → Content T H) → IsApart s → IsApart (with_content s n change)
  content_apart s n change apart = changed_apart s n (λ h. with_request_content change (with_response_content change h))
      (content_role change) apart

  -- all elements of a message are written
  pub complete_apart : (s : State T H T H K) (n : ℕ) (elements : List T) → IsApart s → IsApart (with_complete s n elements)
  complete_apart s n elements apart = changed_apart (with_content s n (with_elements elements)) n after_init init_role
      (content_apart s n (with_elements elements) apart)

module _ {Q QH P PH K : Type 0} (action : K → ℕ → ℕ → BackpressureAction) (IsDefaultRequestHeader : QH → Type 0)
    (IsDefaultResponseHeader : PH → Type 0) where
  -- requests and responses stay apart
  pub apart_kept : KeptByCalls action IsDefaultRequestHeader IsDefaultResponseHeader (λ (s : State Q QH P PH K). IsApart s)
      (λ s n. Unit {0})
  apart_kept = record {
    client = λ s fits apart. creates_client_apart s apart;
    server = λ s fits apart. creates_server_apart s apart;
    loan_request = λ s fits apart. loans_request_apart IsDefaultRequestHeader s fits apart;
    loan_response = λ s fits apart. loans_response_apart IsDefaultResponseHeader s fits apart;
    change = λ s fits apart n change same. changed_apart s n change same apart;
    send_request = λ s fits apart. sends_request_apart action s fits apart;
    send_response = λ s fits apart. sends_response_apart action s fits apart;
    receive_request = λ s fits apart. receives_request_apart s fits apart;
    receive_response = λ s fits apart. receives_response_apart s apart;
    release = λ s fits apart n may. after_release_apart s n fits apart;
  }

module _ {T H K : Type 0} (action : K → ℕ → ℕ → BackpressureAction) (IsDefaultElement : T → Type 0) (IsDefaultHeader : H → Type 0)
    (family : Family) where
  -- after any step
  pub step_apart : (old : State T H T H K) → IsReached old → IsApart old
      → (command : Command T H K) (reply : Reply T H) (new : State T H T H K) →
      Step action IsDefaultElement IsDefaultHeader family old command reply new → IsApart new
  step_apart old fits apart command reply new step = step_keeps action IsDefaultElement IsDefaultHeader family
      (apart_kept action IsDefaultHeader IsDefaultHeader) old fits apart (λ n due. tt) command reply new step

  -- whatever is run, requests and responses stay apart
  pub run_apart : (old : State T H T H K) → IsReached old → IsApart old
      → (commands : List (Command T H K)) (replies : List (Reply T H)) (new : State T H T H K) →
      Run action IsDefaultElement IsDefaultHeader family old commands replies new → IsApart new
  run_apart old fits apart commands replies new run = run_keeps action IsDefaultElement IsDefaultHeader family
      (apart_kept action IsDefaultHeader IsDefaultHeader) (λ s fits n due. tt) old fits apart commands replies new run

  -- what holds of every state that a run reaches from the empty hub
  pub run_from_empty : (limits : Limits) (node_id : ℕ) → hub_refusal limits ≡ None
      → (commands : List (Command T H K)) (replies : List (Reply T H)) (s : State T H T H K) →
      Run action IsDefaultElement IsDefaultHeader family (empty_hub limits node_id) commands replies s → IsReached s × IsApart s
      × (s.limits ≡ limits)
  run_from_empty limits node_id makes_hub commands replies s run =
      let start = empty_hub_reached limits node_id makes_hub in (
        run_reached action IsDefaultElement IsDefaultHeader family (empty_hub limits node_id) start commands replies s run,
        run_apart (empty_hub limits node_id) start (empty_hub_apart T H T H K limits node_id) commands replies s run,
        (run_lasts action IsDefaultElement IsDefaultHeader family (empty_hub limits node_id) commands replies s run).limits,
      )
