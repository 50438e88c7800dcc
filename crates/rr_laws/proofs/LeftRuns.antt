-- Each step keeps who is listed as left gone.
use Rattle.std.proofs.Common.{◌≡◌, ℕ, ◌<◌, Bool, true, false, List, [], Option, Some, None, Result, Ok, Err, refl, sym, subst, option_map}
use Rattle.std.specs.Prelude.{if◌then◌else◌}
use Rattle.std.specs.Option.{option_map_or}
use Rattle.rr_slots.specs.declared.family.Family.{Family}
use Rattle.rr_protocol.specs.declared.kind.Kind.{Kind}
use Rattle.rr_protocol.specs.declared.limits.Limits.{Limits}
use Rattle.rr_protocol.specs.declared.settings.BackpressureAction.{BackpressureAction}
use Rattle.rr_protocol.specs.declared.settings.ClientSettings.{ClientSettings}
use Rattle.rr_protocol.specs.declared.settings.ServerSettings.{ServerSettings}
use Rattle.rr_protocol.specs.declared.error.ClientCreateError.{ClientCreateError}
use Rattle.rr_protocol.specs.declared.error.ServerCreateError.{ServerCreateError}
use Rattle.rr_protocol.specs.Limits.{hub_refusal}
use Rattle.rr_protocol.specs.Lists.{no_lists}
use Rattle.rr_protocol.specs.Messages.{Handle}
use Rattle.rr_protocol.specs.Ports.{Client, Server}
use Rattle.rr_protocol.specs.State.{State, empty_hub, handle_at, is_client_value, is_server_value}
use Rattle.rr_protocol.specs.Queries.{kind_of}
use Rattle.rr_protocol.specs.Creation.{CreatesClient, CreatesServer}
use Rattle.rr_protocol.proofs.ListsLaws.{at-no_lists}
use Rattle.rr_protocol.specs.declared.command.Command.{Command}
use Rattle.rr_protocol.specs.declared.reply.Reply.{Reply}
use Rattle.rr_protocol.specs.Refusals.{refusal_of_kind, refusal}
use Rattle.rr_protocol.specs.Step.{Step}
use Rattle.rr_protocol.specs.Run.{Run}
use Rattle.rr_laws.specs.Roles.{role_of}
use Rattle.rr_laws.specs.Reached.{IsReached}
use Rattle.rr_laws.specs.Left.{LeftFit, IsLeftFit}
use Rattle.rr_laws.proofs.RoleLaws.{role_at}
use Rattle.rr_laws.proofs.Connected.{has_below}
use Rattle.rr_laws.proofs.Naming.{client_value_connected, server_value_connected}
use Rattle.rr_laws.proofs.Creating.{empty_hub_reached}
use Rattle.rr_laws.proofs.LeftPorts.{left_with_client, left_with_server}
use Rattle.rr_laws.proofs.LeftSteps.{after_release_left, loans_request_left, loans_response_left, sends_request_left, sends_response_left, receives_request_left, receives_response_left, IsGivenSender}
use Rattle.rr_laws.proofs.Calling.{KeptByCalls}
use Rattle.rr_laws.proofs.Stepping.{run_keeps, step_keeps}

-- in the empty hub
pub empty_left : {K : Type 0} → LeftFit {K = K} [] [] no_lists 0
empty_left = record { one_kind = λ n h. absurd (let f : false ≡ true = h in cc); gone = λ n. rw at-no_lists tt }

module _ {Q QH P PH K : Type 0} where
  -- a state that is another one, where who is listed as left is gone
  same_left : (old new : State Q QH P PH K) → new ≡ old → IsLeftFit old → IsLeftFit new
  same_left old new same left = subst (λ (x : State Q QH P PH K). IsLeftFit x) (sym same) left

  -- a client is created, or not
  creates_client_left : (s : State Q QH P PH K) → IsReached s → IsLeftFit s
      → (settings : ClientSettings K) (result : Result ℕ ClientCreateError) (new : State Q QH P PH K) → CreatesClient s settings result new
      → IsLeftFit new
  creates_client_left s fits left settings (Ok number) new made = same_left _ new made.2
      (left_with_client s.clients s.servers s.expired s.next left s.limits fits.ports _ refl)
  creates_client_left s fits left settings (Err error) new made = same_left s new made.1 left

  -- a server is created, or not
  creates_server_left : (s : State Q QH P PH K) → IsReached s → IsLeftFit s
      → (settings : ServerSettings K) (result : Result ℕ ServerCreateError) (new : State Q QH P PH K) → CreatesServer s settings result new
      → IsLeftFit new
  creates_server_left s fits left settings (Ok number) new made = same_left _ new made.2
      (left_with_server s.clients s.servers s.expired s.next left s.limits fits.ports _ refl)
  creates_server_left s fits left settings (Err error) new made = same_left s new made.1 left

module _ {T H K : Type 0} where
  -- what a number names that is not unknown was given
  named_below : (family : Family) (s : State T H T H K) → IsReached s → (n : ℕ) → refusal family s (Command.Release n) ≡ None → n < s.next
  named_below family s fits n e = go (is_client_value s n) (is_server_value s n) (handle_at s n) refl refl refl e
    where
      client : is_client_value s n ≡ true → n < s.next
      client held = has_below (λ (c : Client K). c.id) s.clients n s.next fits.ports.client_numbers (client_value_connected s n held)

      server : is_server_value s n ≡ true → n < s.next
      server held = has_below (λ (c : Server K). c.id) s.servers n s.next fits.ports.server_numbers (server_value_connected s n held)

      go : (is_client is_server : Bool) (h : Option (Handle T H T H)) → is_client_value s n ≡ is_client → is_server_value s n ≡ is_server
          → handle_at s n ≡ h →
          option_map_or (refusal_of_kind family s (Command.Release n))
          (if is_client then Some Kind.Client else if is_server then Some Kind.Server else option_map kind_of h)
          (Some Reply.Unknown) ≡ None → n < s.next
      go true is_server h a b c e = client a
      go false true h a b c e = server b
      go false false (Some h) a b c e = (fits.handles n (role_of h) (role_at s.handles n h c)).below
      go false false None a b c e = absurd (cc)

module _ {Q QH P PH K : Type 0} (action : K → ℕ → ℕ → BackpressureAction) (IsDefaultRequestHeader : QH → Type 0)
    (IsDefaultResponseHeader : PH → Type 0) where
  -- who is listed as left stays gone, if what is released was given, or nobody has responses from it
  pub left_kept : KeptByCalls action IsDefaultRequestHeader IsDefaultResponseHeader (λ (s : State Q QH P PH K). IsLeftFit s) IsGivenSender
  left_kept = record {
    client = λ s fits left. creates_client_left s fits left;
    server = λ s fits left. creates_server_left s fits left;
    loan_request = λ s fits left. loans_request_left IsDefaultRequestHeader s left;
    loan_response = λ s fits left. loans_response_left IsDefaultResponseHeader s left;
    change = λ s fits left n change same. left;
    send_request = λ s fits left. sends_request_left action s fits left;
    send_response = λ s fits left. sends_response_left action s fits left;
    receive_request = λ s fits left. receives_request_left s left;
    receive_response = λ s fits left. receives_response_left s left;
    release = λ s fits left n given. after_release_left s n fits left given;
  }

module _ {T H K : Type 0} (action : K → ℕ → ℕ → BackpressureAction) (IsDefaultElement : T → Type 0) (IsDefaultHeader : H → Type 0)
    (family : Family) where
  -- after any step
  pub step_left : (old : State T H T H K) → IsReached old → IsLeftFit old
      → (command : Command T H K) (reply : Reply T H) (new : State T H T H K) →
      Step action IsDefaultElement IsDefaultHeader family old command reply new → IsLeftFit new
  step_left old fits left command reply new step = step_keeps action IsDefaultElement IsDefaultHeader family
      (left_kept action IsDefaultHeader IsDefaultHeader) old fits left (λ n due client sent. named_below family old fits n due) command
      reply new step

  -- whatever is run, who is listed as left is gone
  pub run_left : (old : State T H T H K) → IsReached old → IsLeftFit old
      → (commands : List (Command T H K)) (replies : List (Reply T H)) (new : State T H T H K) →
      Run action IsDefaultElement IsDefaultHeader family old commands replies new → IsLeftFit new
  run_left old fits left commands replies new run = run_keeps action IsDefaultElement IsDefaultHeader family
      (left_kept action IsDefaultHeader IsDefaultHeader) (λ s fits n due client sent. named_below family s fits n due) old fits left
      commands replies new run

  -- in every state that a run reaches from the empty hub
  pub left_from_empty : (limits : Limits) (node_id : ℕ) → hub_refusal limits ≡ None
      → (commands : List (Command T H K)) (replies : List (Reply T H)) (s : State T H T H K) →
      Run action IsDefaultElement IsDefaultHeader family (empty_hub limits node_id) commands replies s → IsLeftFit s
  left_from_empty limits node_id makes_hub commands replies s run =
      run_left (empty_hub limits node_id) (empty_hub_reached limits node_id makes_hub)
      empty_left commands replies s run
