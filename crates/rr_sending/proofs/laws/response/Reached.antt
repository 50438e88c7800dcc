-- The list that a response reaches is the queue that is found for it.
use Rattle.std.proofs.Common.{◌≡◌, ◌<◌, ℕ, Bool, true, false, cond, List, [], ◌∷◌, Option, None, Some, option_map, length, refl, sym, ap, ◌∙◌, subst, ⊎_elim, arith}
use Rattle.std.specs.Prelude.{◌==◌, ◌&&◌, is_some, option_and_then, slice_get, slice_index, find}
use Rattle.std.specs.FinMap as fin_map
use Rattle.std.proofs.lemmas.Bool.{false≢true, eq-eqb}
use Rattle.std.proofs.lemmas.Option.{get_or_from_slice_get, slice_get-get_or}
use Rattle.rr_table.specs.TableView.{TableEntry, kept_in, value_in}
use Rattle.rr_table.specs.declared.place.Place.{Place}
use Rattle.rr_table.proofs.Kept.{kept_in_own, kept_in_place}
use Rattle.rr_table.proofs.MapLaws.{tally-at}
use Rattle.rr_table.proofs.Standing.{none_or_some}
use Rattle.rr_protocol.specs.Counts.{is_alive}
use Rattle.rr_protocol.specs.Keys.{ResponseKey}
use Rattle.rr_protocol.specs.Limits.{worst_case_requests}
use Rattle.rr_protocol.specs.Messages.{as_pending}
use Rattle.rr_protocol.specs.Sends.{response_reach}
use Rattle.rr_protocol.specs.State.{client_at}
use Rattle.rr_store.specs.declared.handle_entry.HandleEntry.{HandleEntry}
use Rattle.rr_store.specs.declared.handle_entry.Stage.{Stage}
use Rattle.rr_store.specs.declared.handle_entry.Stage.TheVariants as stage
use Rattle.rr_store.specs.declared.details.RequestDetails.{RequestDetails}
use Rattle.rr_store.specs.declared.details.ResponseDetails.{ResponseDetails}
use Rattle.rr_store.specs.Delivering.{reached_if, reached}
use Rattle.rr_store.specs.Parts.{Parts, ClientPart, Sender}
use Rattle.rr_store.specs.Views.{no_sender, sender_of, state_of, client_of, handle_of, response_at}
use Rattle.rr_store.specs.Sound.{IsSoundStore, Hand, is_of_request, is_pending, has_request_at, request_uses, response_uses, response_details, own_place, place_at}
use Rattle.rr_store.proofs.base.views.Agreeing.{request_sender}
use Rattle.rr_store.proofs.querying.Alive.{alive_here}
use Rattle.rr_releasing.proofs.laws.response_loan.Place.{client_of_sender}
use Rattle.rr_store.proofs.base.views.Counts.{listed}
use Rattle.rr_store.proofs.base.lookups.Looking.{handle_at-state_of}
use Rattle.rr_store.proofs.base.lists.Replaced.{find_mapped}
use Rattle.rr_store.proofs.base.lookups.Shown.{held_within}
use Rattle.rr_store.proofs.base.hands.Stages.{handle_uses_request, pending_is_request}

module _ {Q QH P PH K : Type 0} (p : Parts Q QH P PH K) where
  -- a request is alive where a pending response has its number
  alive_table_entry : (n : ℕ) (s : TableEntry HandleEntry) → fin_map.get p.table.entries n ≡ Some s → is_alive (state_of p) n ≡ is_pending
      s.value.stage
  alive_table_entry n s at = alive_here p n s.place s.value (ap (option_and_then (kept_in s.place)) at ∙ kept_in_own s.place s.value)

  not_alive : (n : ℕ) → fin_map.get p.table.entries n ≡ None → is_alive (state_of p) n ≡ false
  not_alive n none = ap (λ o. is_some (option_and_then as_pending o)) (handle_at-state_of p n ∙ ap (option_map (handle_of p)) none)

  pending_place : (g : Stage) (sender slot : ℕ) → is_pending g ≡ true → place_at p g sender slot ≡ own_place p sender slot
  pending_place (stage.PendingResponse hint connections) sender slot h = refl
  pending_place stage.RequestMutUninit sender slot h = absurd (false≢true h)
  pending_place stage.RequestMut sender slot h = absurd (false≢true h)
  pending_place (stage.ActiveRequest server loans) sender slot h = absurd (false≢true h)
  pending_place stage.ResponseMutUninit sender slot h = absurd (false≢true h)
  pending_place stage.ResponseMut sender slot h = absurd (false≢true h)
  pending_place stage.Response sender slot h = absurd (false≢true h)

  -- the client that a response is for, where it is sent to, and the list
  pub record Reach (sender slot receiver : ℕ) : Type 0 where
    pub index : ℕ
    pub client : ClientPart K
    pub there : slice_get p.clients index ≡ Some client
    pub named : (response_details p sender slot).client ≡ client.port.id
    pub placed : client.receiver ≡ receiver
    pub inside : (response_details p sender slot).channel < worst_case_requests p.limits
    pub reach : response_reach (state_of p) (response_at p sender slot)
        ≡ record {
          server = (response_details p sender slot).server;
          client = (response_details p sender slot).client;
          channel = (response_details p sender slot).channel;
        } ∷ []

  module _ (hand : Hand) (sound : IsSoundStore p hand) (sender slot : ℕ) (used : 0 < response_uses p sender slot) where
    abbrev details : ResponseDetails
    details = response_details p sender slot

    abbrev key : ResponseKey
    key = record { server = details.server; client = details.client; channel = details.channel }

    -- where the own handle of the request stands, in a sender
    abbrev spot : Sender Q RequestDetails QH → Place
    spot l = record { row = l.row; index = details.channel }

    seen_client : client_at (state_of p) details.client ≡ option_map client_of (find (λ c. c.port.id == details.client) p.clients)
    seen_client = find_mapped client_of (λ c. c.id == details.client) p.clients

    reach_is : (a b : Bool) → is_some (client_at (state_of p) details.client) ≡ a → is_alive (state_of p) details.request ≡ b
        → response_reach (state_of p) (response_at p sender slot) ≡ cond (a && b) (key ∷ []) []
    reach_is a b ea eb = ap {B = List ResponseKey} (λ x. cond (x && is_alive (state_of p) details.request) (key ∷ []) []) ea
        ∙ ap (λ x. cond (a && x) (key ∷ []) []) eb

    request_held : (s : TableEntry HandleEntry) → fin_map.get p.table.entries details.request ≡ Some s → is_of_request s.value.stage ≡ true
        → 0 < slice_index (sender_of s.value.sender p.client_senders).messages.held s.value.slot
    request_held s at is =
        let here : has_request_at s.value.sender s.value.slot s ≡ true = rw is
        (rw (eq-eqb s.value.sender s.value.sender refl) (rw (eq-eqb s.value.slot s.value.slot refl) refl)) in
        omega (
          arith,
          sound.counted.requests s.value.sender s.value.slot,
          tally-at (has_request_at s.value.sender s.value.slot) p.table.entries details.request s at here,
        )

    -- the client that waits, and where its pending response stands
    record Waits (s : TableEntry HandleEntry) : Type 0 where
      index : ℕ
      client : ClientPart K
      there : slice_get p.clients index ≡ Some client
      alone : find (λ c. c.port.id == details.client) p.clients ≡ Some client
      named : details.client ≡ client.port.id
      in_sender : details.client_sender < length p.client_senders
      receives : client.receiver ≡ (sender_of details.client_sender p.client_senders).receiver
      stands : s.place ≡ spot (sender_of details.client_sender p.client_senders)
      inside : details.channel < worst_case_requests p.limits

    waits : (s : TableEntry HandleEntry) → fin_map.get p.table.entries details.request ≡ Some s → is_pending s.value.stage ≡ true → Waits s
    waits s at is =
        let of_request = pending_is_request s.value.stage is in
        let uses : 0 < request_uses p s.value.sender s.value.slot = handle_uses_request p hand sound.counted details.request s at of_request
        in
        let a = sound.addressed.answers sender slot s.value.sender s.value.slot used uses
        (sym (sound.numbered.pendings details.request s at is)) in
        let within = request_sender p hand sound.counted details.request s at of_request in
        let x = client_of_sender p hand sound s.value.sender ((sound.have_ports.handles details.request s at).pending is) in
        let slots : s.value.slot < length (sender_of s.value.sender p.client_senders).messages.held = held_within
        (sender_of s.value.sender p.client_senders).messages.held s.value.slot (request_held s at of_request) in
        record {
          index = x.0;
          client = x.1;
          there = x.2;
          alone = ap (λ n. find (λ (c : ClientPart K). c.port.id == n) p.clients) (a.1 ∙ sym x.4) ∙ x.6;
          named = a.1 ∙ sym x.4;
          in_sender = omega (arith, within, a.2);
          receives = sym (sound.client_ports.received x.0 x.1.connected
              (listed (λ (c : ClientPart K). c.connected) p.clients x.0 x.1 x.2))
              ∙ ap (λ l. (sender_of l p.client_senders).receiver) (x.3 ∙ a.2);
          stands = sound.inserted.placed details.request s at ∙ pending_place s.value.stage s.value.sender s.value.slot is
              ∙ ap (λ l. record { row = (sender_of l p.client_senders).row; index = s.value.slot }) a.2
              ∙ ap (λ j. record { row = (sender_of details.client_sender p.client_senders).row; index = j }) (sym a.0);
          inside = omega (arith, a.0, slots, sound.sized.channels s.value.sender within);
        }

    -- what is there tells where the response goes
    abbrev pub Told : Option ℕ → Type 0
    Told None = response_reach (state_of p) (response_at p sender slot) ≡ []
    Told (Some receiver) = Reach sender slot receiver

    -- nothing is reached where the request is not alive
    dead : is_alive (state_of p) details.request ≡ false → response_reach (state_of p) (response_at p sender slot) ≡ []
    dead e = reach_is (is_some (client_at (state_of p) details.client)) false refl e ∙ off (is_some (client_at (state_of p) details.client))
      where
        off : (a : Bool) → cond {A = List ResponseKey} (a && false) (key ∷ []) [] ≡ []
        off true = refl
        off false = refl

    -- and where no pending response is found
    none_waits : ((s : TableEntry HandleEntry) → fin_map.get p.table.entries details.request ≡ Some s → is_pending s.value.stage ≡ true → ⊥)
        → response_reach (state_of p) (response_at p sender slot) ≡ []
    none_waits none =
        dead (⊎_elim
        (λ n. not_alive details.request n)
        (λ f. alive_table_entry details.request f.0 f.1 ∙ not_it f.0 f.1 (is_pending f.0.value.stage) refl)
        (none_or_some (fin_map.get p.table.entries details.request)))
      where
        not_it : (s : TableEntry HandleEntry) → fin_map.get p.table.entries details.request ≡ Some s → (b : Bool)
            → is_pending s.value.stage ≡ b
            → is_pending s.value.stage ≡ false
        not_it s at false e = e
        not_it s at true e = absurd (none s at e)

    by_held : (l : Sender Q RequestDetails QH) → l ≡ sender_of details.client_sender p.client_senders → (o : Option HandleEntry)
        → value_in p.table details.request (spot l) ≡ o → Told (reached_if l.receiver o)
    by_held l same None told =
        none_waits (λ s at is.
        let kept : value_in p.table details.request (spot l) ≡ Some s.value =
        ap (option_and_then (kept_in (spot l))) at ∙ ap (λ r. kept_in r s) (ap spot same ∙ sym (waits s at is).stands)
        ∙ kept_in_own s.place s.value in
        let no : None ≡ Some s.value = sym told ∙ kept in cc)
    by_held l same (Some entry) told = go (is_pending entry.stage) refl
      where
        alive : is_alive (state_of p) details.request ≡ is_pending entry.stage
        alive = alive_here p details.request (spot l) entry told

        go : (b : Bool) → is_pending entry.stage ≡ b → Told (cond (is_pending entry.stage) (Some l.receiver) None)
        go false e = subst (λ b. Told (cond b (Some l.receiver) None)) (sym e) (dead (alive ∙ e))
        go true e = subst (λ b. Told (cond b (Some l.receiver) None)) (sym e)
            (⊎_elim
            (λ n. absurd (let no : None ≡ Some entry = sym (ap (option_and_then (kept_in (spot l))) n) ∙ told in cc))
            (λ f.
            let kept = kept_in_place (spot l) f.0 entry (sym (ap (option_and_then (kept_in (spot l))) f.1) ∙ told) in
            let w = waits f.0 f.1 (ap (λ (h : HandleEntry). is_pending h.stage) kept.1 ∙ e) in
            record {
              index = w.index;
              client = w.client;
              there = w.there;
              named = w.named;
              placed = w.receives ∙ ap (λ (l : Sender Q RequestDetails QH). l.receiver) (sym same);
              inside = w.inside;
              reach = reach_is true true (ap is_some seen_client ∙ ap (λ o. is_some (option_map client_of o)) w.alone) (alive ∙ e);
            })
            (none_or_some (fin_map.get p.table.entries details.request)))

    -- the list that is reached, if one is
    pub told : Told (reached p.client_senders p.table details)
    told = go (slice_get p.client_senders details.client_sender) refl
      where
        go : (o : Option (Sender Q RequestDetails QH)) → slice_get p.client_senders details.client_sender ≡ o
            → Told (option_and_then (λ l. reached_if l.receiver (value_in p.table details.request (spot l))) o)
        go None e =
            none_waits (λ s at is.
            let no : None ≡ Some (sender_of details.client_sender p.client_senders) = sym e
            ∙ slice_get-get_or p.client_senders details.client_sender no_sender (waits s at is).in_sender in cc)
        go (Some l) e = by_held l (sym (get_or_from_slice_get p.client_senders details.client_sender l no_sender e))
            (value_in p.table details.request (spot l)) refl
