-- A core after a skim, from which a server takes the next request.
use Rattle.std.proofs.Common.{◌≡◌, ◌<◌, ℕ, true, false, List, [], Option, Some, option_map, refl, sym, ap, ◌∙◌, subst, arith}
use Rattle.std.specs.Prelude.{◌==◌, IfSome, IsSome, Result, slice_get, find}
use Rattle.std.specs.Option.{option_map_or}
use Rattle.std.proofs.lemmas.Bool.{false≢true, eq-eqb, eqb-true}
use Rattle.rr_protocol.specs.declared.error.ReceiveError.{ReceiveError}
use Rattle.rr_protocol.specs.declared.limits.Limits.{Limits}
use Rattle.rr_protocol.specs.Ports.{Server}
use Rattle.rr_protocol.specs.Receives.{Skims, ReceivesUnskimmed, ReceivesRequest}
use Rattle.rr_protocol.specs.State.{State, server_at}
use Rattle.rr_store.specs.Parts.{Parts, ServerPart, Sender}
use Rattle.rr_store.specs.Receiving.{queue_from, borrowed_from, Reaches}
use Rattle.rr_store.specs.Skimming.{is_waited, IsFrontAlive, IsSkimmed}
use Rattle.rr_store.specs.Sound.{IsSoundStore, empty_hand, server_place}
use Rattle.rr_store.specs.Views.{sender_of, server_of, state_of}
use Rattle.rr_store.proofs.base.senders.Entries.{found_alone}
use Rattle.rr_store.proofs.base.views.Counts.{listed}
use Rattle.rr_store.proofs.base.lists.Replaced.{find_mapped}
use Rattle.rr_receiving.proofs.laws.request.Refusals.{skims_all, with_client_senders}
use Rattle.rr_store.proofs.base.senders.Numbered.{numbered_once}

-- dead requests have left the fronts of the queues to a server, of these senders all that may go, and nothing else changed
pub record IsReady {Q QH P PH K : Type 0} (p q : Parts Q QH P PH K) (c : ServerPart K) (Chosen : ℕ → Type 0) : Type 0 where
  pub same : q ≡ with_client_senders p q.client_senders
  pub sound : IsSoundStore q empty_hand
  pub clients : List ℕ
  pub skims : Skims (state_of p) c.port.id clients (state_of q)
  pub fronts : p.limits.enable_fire_and_forget_requests ≡ false → (sender : ℕ) → Chosen sender
      → borrowed_from q.client_senders c.receiver 0 sender < p.limits.max_active_requests_per_client
      → IsFrontAlive p.table c.receiver (sender_of sender q.client_senders)

module _ {Q QH P PH K : Type 0} (p : Parts Q QH P PH K) (sound : IsSoundStore p empty_hand) (index : ℕ) (c : ServerPart K)
    (at : slice_get p.servers index ≡ Some c) (Chosen : ℕ → Type 0) where
  -- after a skim
  pub ready_skimmed : p.limits.enable_fire_and_forget_requests ≡ false → (receiver : ℕ) → receiver ≡ c.receiver
      → (senders : List (Sender Q _ QH)) → IsSkimmed p.table receiver p.limits.max_active_requests_per_client p.client_senders senders
      → ((sender : ℕ) → Chosen sender → IsFrontAlive p.table receiver (sender_of sender senders))
      → IsReady p (with_client_senders p senders) c Chosen
  ready_skimmed forgets receiver its senders skimmed front =
      let so = subst (λ r. IsSkimmed p.table r p.limits.max_active_requests_per_client p.client_senders senders) its skimmed in
      let s = skims_all p sound index c at forgets so.senders senders so.steps in
      record {
        same = refl;
        sound = s.0;
        clients = s.1.0;
        skims = s.1.1;
        fronts = λ _ sender chosen _. subst (λ r. IsFrontAlive p.table r (sender_of sender senders)) its (front sender chosen);
      }

  -- where nothing is skimmed
  pub ready_as_is : p.limits.enable_fire_and_forget_requests ≡ true → IsReady p p c Chosen
  ready_as_is keeps = record {
    same = refl;
    sound = sound;
    clients = [];
    skims = refl;
    fronts = λ forgets. absurd (false≢true (sym forgets ∙ keeps));
  }

module _ {Q QH P PH K : Type 0} (p : Parts Q QH P PH K) (sound : IsSoundStore p empty_hand) (index : ℕ) (c : ServerPart K)
    (at : slice_get p.servers index ≡ Some c) where
  -- the server is found by its number, and is that receiver
  pub its_self : find (λ s. s.port.id == c.port.id) p.servers ≡ Some c
  its_self =
      found_alone (λ (d : ServerPart K). d.port.id == c.port.id) p.servers index c at (eq-eqb c.port.id c.port.id refl)
      (λ k d e same. numbered_once sound.server_ports k index d.connected c.connected
      (listed (λ (c : ServerPart K). c.connected) p.servers k d e) (listed (λ (c : ServerPart K). c.connected) p.servers index c at)
      (eqb-true d.port.id c.port.id same))

  pub its_place : server_place p c.port.id ≡ c.receiver
  its_place = ap (λ o. option_map_or (λ s. s.receiver) o p.limits.max_servers) its_self

  pub own_place : c.receiver < p.limits.max_servers
  own_place = sound.server_ports.placed index c.connected (listed (λ (c : ServerPart K). c.connected) p.servers index c at)

  -- each client's sender has a queue for it
  pub server_reaches : Reaches p.client_senders c.receiver 0
  server_reaches sender there =
      let shaped = sound.sized.client_senders sender there in
      (omega (arith, own_place, shaped.queues), omega (arith, shaped.queue_channels c.receiver own_place))

module _ {Q QH P PH K : Type 0} (p q : Parts Q QH P PH K) (index : ℕ) (c : ServerPart K) (at : slice_get p.servers index ≡ Some c)
    (found : find (λ s. s.port.id == c.port.id) p.servers ≡ Some c) (Chosen : ℕ → Type 0) (ready : IsReady p q c Chosen) where
  pub its_limits : q.limits ≡ p.limits
  its_limits = ap (λ (x : Parts Q QH P PH K). x.limits) ready.same

  pub its_next : q.next ≡ p.next
  its_next = ap (λ (x : Parts Q QH P PH K). x.next) ready.same

  pub its_server : slice_get q.servers index ≡ Some c
  its_server = ap (λ (x : Parts Q QH P PH K). slice_get x.servers index) ready.same ∙ at

  -- the first request of such a queue with room is waited for
  pub waited : (sender slot : ℕ) → Chosen sender
      → borrowed_from q.client_senders c.receiver 0 sender < p.limits.max_active_requests_per_client
      → slice_get (queue_from q.client_senders c.receiver 0 sender) 0 ≡ Some slot
      → q.limits.enable_fire_and_forget_requests ≡ false → is_waited q.table (sender_of sender q.client_senders) slot ≡ true
  waited sender slot chosen few first forgets =
      let alive = ready.fronts (sym (ap (λ (l : Limits). l.enable_fire_and_forget_requests) its_limits) ∙ forgets) sender chosen few in
      let here : is_waited p.table (sender_of sender q.client_senders) slot ≡ true = subst
      (λ o. IfSome o (λ slot. is_waited p.table (sender_of sender q.client_senders) slot ≡ true)) first alive in
      ap (λ (x : Parts Q QH P PH K). is_waited x.table (sender_of sender q.client_senders) slot) ready.same ∙ here

  -- what the server receives then is what it receives
  pub answered : (s : State Q QH P PH K) → state_of p ≡ s → (n : ℕ) → c.port.id ≡ n
      → (result : Result (Option ℕ) ReceiveError) (new : State Q QH P PH K) → ReceivesUnskimmed (state_of q) c.port.id result new
      → ReceivesRequest s n result new
  answered s is n its result new so =
      let seen : server_at (state_of p) c.port.id ≡ Some (server_of c) = find_mapped server_of
      (λ (d : Server K). d.id == c.port.id) p.servers ∙ ap (option_map server_of) found in
      subst (λ t. ReceivesRequest t n result new) is
      (subst (λ m. ReceivesRequest (state_of p) m result new) its
      (subst IsSome (sym seen) refl, (ready.clients, state_of q, ready.skims, so)))
