-- What is counted over all handles of a state is what the core stores.
use Rattle.std.proofs.Common.{◌≡◌, ◌≢◌, ◌<◌, ℕ, Bool, true, List, Some, option_map, length, map, refl, sym, ap, ◌∙◌, ⊎_elim}
use Rattle.std.specs.Prelude.{◌==◌, ◌&&◌, slice_get, count_by}
use Rattle.std.specs.FinMap as fin_map
use Rattle.std.proofs.lemmas.Bool.{cases_eq, eq-eqb, ne_eqb}
use Rattle.std.proofs.lemmas.Option.{slice_get-map}
use Rattle.rr_table.specs.Maps.{tally}
use Rattle.rr_table.specs.TableView.{TableEntry}
use Rattle.rr_table.proofs.Counting.{count-map}
use Rattle.rr_table.proofs.MapLaws.{tally-map_values}
use Rattle.rr_protocol.specs.Messages.{Handle}
use Rattle.rr_protocol.specs.State.{all_handles}
use Rattle.rr_protocol.specs.Counts.{is_request_loan, is_response_loan, is_response_loan_from, is_pending_of, loaned_requests, loaned_responses, loaned_responses_from, pending_responses}
use Rattle.rr_store.specs.declared.handle_entry.HandleEntry.{HandleEntry}
use Rattle.rr_store.specs.declared.handle_entry.Stage.{Stage}
use Rattle.rr_store.specs.declared.handle_entry.Stage.TheVariants as stage
use Rattle.rr_store.specs.Parts.{Parts, Connected, ClientPart, ServerPart, Sender}
use Rattle.rr_store.specs.Views.{sender_of, state_of, handle_in, handle_of}
use Rattle.rr_store.specs.Sound as sound_of
use Rattle.rr_store.specs.Sound.{IsSoundStore, HasSenders, empty_hand, is_of_request, is_of_response, handles, is_in_sender, is_loan_from}
use Rattle.rr_store.proofs.base.views.Agreeing.{request_sender, response_sender}
use Rattle.rr_store.proofs.base.hands.Stages.{handle_uses_request, handle_uses_response}
use Rattle.rr_store.proofs.base.lists.Tallies.{and_none, tally-same}
use Rattle.rr_store.proofs.base.senders.Numbered.{numbered_once}

-- a sender has a port's number exactly if it is the port's
pub its_sender : {T N H K : Type 0} (next ports : ℕ) (connected : List (Connected K)) (senders : List (Sender T N H))
    → HasSenders next ports connected senders →
    (i : ℕ) (c : Connected K) → slice_get connected i ≡ Some c → (sender : ℕ) → sender < length senders
    → ((sender_of sender senders).owner == c.port.id) ≡ (sender == c.sender)
its_sender next ports connected senders has i c at sender within =
    let own = has.own i c at in
    ⊎_elim
    (λ e. eq-eqb (sender_of sender senders).owner c.port.id (ap (λ l. (sender_of l senders).owner) e ∙ own.1)
    ∙ sym (eq-eqb sender c.sender e))
    (λ n. ne_eqb (sender_of sender senders).owner c.port.id (λ e. n (has.owned_once sender c.sender within own.0 (e ∙ sym own.1)))
    ∙ sym (ne_eqb sender c.sender n))
    (cases_eq sender c.sender)

-- a part of a list of parts
pub listed : {C D : Type 0} (f : C → D) (cs : List C) (i : ℕ) (c : C) → slice_get cs i ≡ Some c → slice_get (map f cs) i ≡ Some (f c)
listed f cs i c at = slice_get-map f cs i ∙ ap (option_map f) at

-- two ports have two numbers
pub ids_apart : {T N H K C : Type 0} (f : C → Connected K) (next ports : ℕ) (cs : List C) (senders : List (Sender T N H))
    → HasSenders next ports (map f cs) senders →
    (i j : ℕ) (c d : C) → slice_get cs i ≡ Some c → slice_get cs j ≡ Some d → i ≢ j → (f c).port.id ≢ (f d).port.id
ids_apart f next ports cs senders has i j c d at there n same = n
    (numbered_once has i j (f c) (f d) (listed f cs i c at) (listed f cs j d there) same)

module _ {Q QH P PH K : Type 0} (p : Parts Q QH P PH K) where
  -- a count over the handles is one over the entries
  pub handles_counted : (test : Handle Q QH P PH → Bool) → count_by test (all_handles (state_of p)) ≡ tally
      (λ s. test (handle_of p s)) p.table.entries
  handles_counted test = count-map (λ e. e.1) test (fin_map.entries (state_of p).handles)
      ∙ tally-map_values (handle_of p) test p.table.entries

  module _ (sound : IsSoundStore p empty_hand) where
    -- a stored number counts the handles that pass a test, if each passes it by its stage and its sender
    counted_by : (is_of : Handle Q QH P PH → Bool) (test : Stage → Bool) (sender : ℕ) {stored : ℕ}
        → stored ≡ handles p (is_in_sender test sender) empty_hand
        → ((k : ℕ) (s : TableEntry HandleEntry) → fin_map.get p.table.entries k ≡ Some s → (g : Stage) → s.value.stage ≡ g
        → is_of (handle_in p g s.value.sender s.value.slot) ≡ (test g && s.value.sender == sender))
        → count_by is_of (all_handles (state_of p)) ≡ stored
    counted_by is_of test sender its go =
        handles_counted is_of
        ∙ tally-same p.table.entries _ (λ s. is_in_sender test sender s.value) (λ k s e. go k s e s.value.stage refl)
        ∙ and_none _ ∙ sym its

    module _ (i : ℕ) (c : ClientPart K) (at : slice_get p.clients i ≡ Some c) where
      -- a request is the client's if it stands in the client's sender
      pub owned : (k : ℕ) (s : TableEntry HandleEntry) → fin_map.get p.table.entries k ≡ Some s → is_of_request s.value.stage ≡ true
          → ((sound_of.request_details p s.value.sender s.value.slot).client == c.port.id) ≡ (s.value.sender == c.sender)
      owned k s e is =
          ap (λ n. n == c.port.id) (sound.addressed.requests s.value.sender s.value.slot
          (handle_uses_request p empty_hand sound.counted k s e is))
          ∙ its_sender p.next p.limits.max_clients _ p.client_senders sound.client_ports i c.connected
          (listed (λ c. c.connected) p.clients i c at) s.value.sender (request_sender p empty_hand sound.counted k s e is)

      there : c.sender < length p.client_senders
      there = (sound.client_ports.own i c.connected (listed (λ c. c.connected) p.clients i c at)).0

      pub loans_counted : loaned_requests (state_of p) c.port.id ≡ (sender_of c.sender p.client_senders).loans
      loans_counted = counted_by (is_request_loan c.port.id) sound_of.is_request_loan c.sender
          (sound.stored.request_loans c.sender there) go
        where
          go : (k : ℕ) (s : TableEntry HandleEntry) → fin_map.get p.table.entries k ≡ Some s → (g : Stage) → s.value.stage ≡ g
              → is_request_loan c.port.id (handle_in p g s.value.sender s.value.slot)
              ≡ (sound_of.is_request_loan g && s.value.sender == c.sender)
          go k s e stage.RequestMutUninit is = owned k s e (ap is_of_request is)
          go k s e stage.RequestMut is = owned k s e (ap is_of_request is)
          go k s e other is = refl

      pub pendings_counted : pending_responses (state_of p) c.port.id ≡ (sender_of c.sender p.client_senders).pendings
      pendings_counted = counted_by (is_pending_of c.port.id) sound_of.is_pending c.sender (sound.stored.pendings c.sender there) go
        where
          go : (k : ℕ) (s : TableEntry HandleEntry) → fin_map.get p.table.entries k ≡ Some s → (g : Stage) → s.value.stage ≡ g
              → is_pending_of c.port.id (handle_in p g s.value.sender s.value.slot) ≡ (sound_of.is_pending g && s.value.sender == c.sender)
          go k s e (stage.PendingResponse hint connections) is = owned k s e (ap is_of_request is)
          go k s e other is = refl

    module _ (i : ℕ) (c : ServerPart K) (at : slice_get p.servers i ≡ Some c) where
      -- a response is the server's if it stands in the server's sender
      pub answered_by : (k : ℕ) (s : TableEntry HandleEntry) → fin_map.get p.table.entries k ≡ Some s → is_of_response s.value.stage ≡ true
          → ((sound_of.response_details p s.value.sender s.value.slot).server == c.port.id) ≡ (s.value.sender == c.sender)
      answered_by k s e is =
          ap (λ n. n == c.port.id) (sound.addressed.responses s.value.sender s.value.slot
          (handle_uses_response p empty_hand sound.counted k s e is))
          ∙ its_sender p.next p.limits.max_servers _ p.server_senders sound.server_ports i c.connected
          (listed (λ c. c.connected) p.servers i c at) s.value.sender (response_sender p empty_hand sound.counted k s e is)

      pub responses_counted : loaned_responses (state_of p) c.port.id ≡ (sender_of c.sender p.server_senders).loans
      responses_counted = counted_by (is_response_loan c.port.id) sound_of.is_response_loan c.sender
          (sound.stored.response_loans c.sender (sound.server_ports.own i c.connected (listed (λ c. c.connected) p.servers i c at)).0) go
        where
          go : (k : ℕ) (s : TableEntry HandleEntry) → fin_map.get p.table.entries k ≡ Some s → (g : Stage) → s.value.stage ≡ g
              → is_response_loan c.port.id (handle_in p g s.value.sender s.value.slot) ≡
              (sound_of.is_response_loan g && s.value.sender == c.sender)
          go k s e stage.ResponseMutUninit is = answered_by k s e (ap is_of_response is)
          go k s e stage.ResponseMut is = answered_by k s e (ap is_of_response is)
          go k s e other is = refl

    pub loans_from_counted : (k server loans : ℕ) (s : TableEntry HandleEntry) → fin_map.get p.table.entries k ≡ Some s
        → s.value.stage ≡ stage.ActiveRequest server loans → loaned_responses_from (state_of p) k ≡ loans
    loans_from_counted k server loans s at is =
        handles_counted (is_response_loan_from k)
        ∙ tally-same p.table.entries _ (λ s. is_loan_from p k s.value) (λ _ s _. go s s.value.stage)
        ∙ and_none _ ∙ sym (sound.stored.active_loans k server loans s at is)
      where
        go : (s : TableEntry HandleEntry) (g : Stage) → is_response_loan_from k (handle_in p g s.value.sender s.value.slot) ≡
            (sound_of.is_response_loan g && (sound_of.response_details p s.value.sender s.value.slot).active_request == k)
        go s stage.RequestMut = refl
        go s other = refl
