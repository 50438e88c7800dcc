-- Where the active request of a response in hand stands.
use Rattle.std.proofs.Common.{◌≡◌, ◌<◌, ◌+◌, ◌*◌, ◌^◌, ℕ, true, [], ◌∷◌, Option, None, Some, length, refl, sym, ap, ◌∙◌, subst, arith}
use Rattle.std.specs.Prelude.{◌==◌, IfSome, IsSomeAnd, slice_get, find}
use Rattle.std.specs.Option.{option_map_or}
use Rattle.std.specs.FinMap as fin_map
use Rattle.std.proofs.lemmas.Bool.{eq-eqb, eqb-true}
use Rattle.std.proofs.lemmas.Option.{slice_get-get_or}
use Rattle.rr_table.specs.Maps.{mark}
use Rattle.rr_table.specs.TableView.{TableEntry}
use Rattle.rr_table.specs.declared.place.Place.{Place}
use Rattle.rr_store.specs.declared.handle_entry.HandleEntry.{HandleEntry}
use Rattle.rr_store.specs.declared.handle_entry.Stage.TheVariants as stage
use Rattle.rr_store.specs.Ending.{IsAskedPlace}
use Rattle.rr_store.specs.declared.details.RequestDetails.{RequestDetails}
use Rattle.rr_store.specs.Parts.{Parts, ClientPart, ServerPart, Sender}
use Rattle.rr_store.specs.Views.{sender_of, no_sender}
use Rattle.rr_store.specs.Sound.{HasPort, IsSoundStore, Hand, is_of_request, is_response_loan, is_response_at, request_uses, response_uses, response_details, server_place, place_at}
use Rattle.rr_store.proofs.base.views.Agreeing.{request_sender}
use Rattle.rr_store.proofs.base.senders.Entries.{found_alone}
use Rattle.rr_store.proofs.base.views.Counts.{listed}
use Rattle.rr_store.proofs.base.hands.Hands.{count-cons}
use Rattle.rr_store.proofs.base.hands.Stages.{handle_uses_request, response_loan_is_response}
use Rattle.rr_store.proofs.base.lookups.Placed.{value_there}
use Rattle.rr_store.proofs.base.lookups.Shown.{request_spot}
use Rattle.rr_store.proofs.base.senders.Numbered.{numbered_once}
use Rattle.rr_store.proofs.querying.Connected.{mark_within}
use Rattle.rr_store.proofs.base.senders.Connected.{servers_placed}

module _ {Q QH P PH K : Type 0} (p : Parts Q QH P PH K) (hand : Hand) (sound : IsSoundStore p hand) where
  -- the client of a sender, and that it is the one with its number
  pub client_of_sender : (l : ℕ) → HasPort (λ c. c.sender) p.clients l → (i : ℕ) × (c : ClientPart K) × (slice_get p.clients i ≡ Some c)
      × (c.sender ≡ l)
      × (c.port.id ≡ (sender_of l p.client_senders).owner)
      × (c.port.pool_size ≡ length (sender_of l p.client_senders).messages.held) × (find (λ d. d.port.id == c.port.id) p.clients ≡ Some c)
  client_of_sender l has =
      let c = has.1 in
      let here = listed (λ (c : ClientPart K). c.connected) p.clients has.0 c has.2 in
      let own = sound.client_ports.own has.0 c.connected here in
      let at_sender : sender_of c.sender p.client_senders ≡ sender_of l p.client_senders = ap (λ l. sender_of l p.client_senders) has.3 in (
        has.0,
        c,
        has.2,
        has.3,
        sym own.1 ∙ ap (λ x. x.owner) at_sender,
        sym own.2 ∙ ap (λ x. length x.messages.held) at_sender,
        found_alone (λ (d : ClientPart K). d.port.id == c.port.id) p.clients has.0 c has.2 (eq-eqb c.port.id c.port.id refl)
            (λ j d e same. numbered_once sound.client_ports j has.0 d.connected c.connected
            (listed (λ (c : ClientPart K). c.connected) p.clients j d e) here (eqb-true d.port.id c.port.id same)),
      )

  -- a server that stands at an index is the one with its number
  pub server_alone : (i : ℕ) (c : ServerPart K) → slice_get p.servers i ≡ Some c → find (λ d. d.port.id == c.port.id) p.servers ≡ Some c
  server_alone i c at =
      found_alone (λ (d : ServerPart K). d.port.id == c.port.id) p.servers i c at (eq-eqb c.port.id c.port.id refl)
      (λ j d e same. numbered_once sound.server_ports j i d.connected c.connected
      (listed (λ (c : ServerPart K). c.connected) p.servers j d e)
      (listed (λ (c : ServerPart K). c.connected) p.servers i c at) (eqb-true d.port.id c.port.id same))

module _ {Q QH P PH K : Type 0} (q : Parts Q QH P PH K) (entry : HandleEntry)
    (sound : IsSoundStore q (entry ∷ [])) (loan : is_response_loan entry.stage ≡ true)
    (index : ℕ) (c : ServerPart K) (at : slice_get q.servers index ≡ Some c) (sends : c.sender ≡ entry.sender) where
  -- a response in hand is used
  pub in_use : 0 < response_uses q entry.sender entry.slot
  in_use =
      let here : is_response_at entry.sender entry.slot entry ≡ true = rw (response_loan_is_response entry.stage loan)
      (rw (eq-eqb entry.sender entry.sender refl) (rw (eq-eqb entry.slot entry.slot refl) refl)) in
      omega (
        arith,
        sound.counted.responses entry.sender entry.slot,
        count-cons (is_response_at entry.sender entry.slot) entry [],
        ap mark here,
      )

  -- its server
  pub server_is : (response_details q entry.sender entry.slot).server ≡ c.port.id
  server_is =
      let own = sound.server_ports.own index c.connected (listed (λ (c : ServerPart K). c.connected) q.servers index c at) in
      sound.addressed.responses entry.sender entry.slot in_use ∙ sym (ap (λ l. (sender_of l q.server_senders).owner) sends) ∙ own.1

  module _ (server loans : ℕ) (t : TableEntry HandleEntry) (here : fin_map.get q.table.entries
      (response_details q entry.sender entry.slot).active_request ≡ Some t) (is : t.value.stage ≡ stage.ActiveRequest server loans) where
    -- the place that is looked at is the one in which it stands
    pub asked_place_is : (place : Place) → IsAskedPlace q.client_senders (response_details q entry.sender entry.slot) c.receiver place
        → place ≡ t.place
    asked_place_is place told =
        let of_request : is_of_request t.value.stage ≡ true = ap is_of_request is in
        let asked = (response_details q entry.sender entry.slot).active_request in
        let a = sound.numbered.answering entry.sender entry.slot asked server loans t in_use here is refl in
        let uses : 0 < request_uses q t.value.sender t.value.slot = handle_uses_request q (entry ∷ []) sound.counted asked t here of_request
        in
        let r = sound.addressed.answers entry.sender entry.slot t.value.sender t.value.slot in_use uses a.0 in
        let found : slice_get q.client_senders (response_details q entry.sender entry.slot).client_sender
        ≡ Some (sender_of t.value.sender q.client_senders) =
        ap (slice_get q.client_senders) (sym r.2)
        ∙ slice_get-get_or q.client_senders t.value.sender no_sender (request_sender q (entry ∷ []) sound.counted asked t here of_request)
        in
        let its : (c.receiver + 1) * length (sender_of t.value.sender q.client_senders).messages.held
        + (response_details q entry.sender entry.slot).channel < 2 ^ 64
        → place ≡ record {
          row = (sender_of t.value.sender q.client_senders).row;
          index = (c.receiver + 1) * length (sender_of t.value.sender q.client_senders).messages.held +
              (response_details q entry.sender entry.slot).channel;
        } =
        subst (λ o. IsSomeAnd o (λ (l : Sender Q RequestDetails QH).
        (c.receiver + 1) * length l.messages.held + (response_details q entry.sender entry.slot).channel < 2 ^ 64 → ◌≡◌ {A = Place} place
        (record { row = l.row; index = (c.receiver + 1) * length l.messages.held + (response_details q entry.sender entry.slot).channel })))
        found told in
        let spot = request_spot q (entry ∷ []) sound.counted asked t.value (value_there q.table asked t.place t.value here) of_request in
        let within = mark_within (c.receiver + 1) (q.limits.max_servers + 1)
        (length (sender_of t.value.sender q.client_senders).messages.held) t.value.slot
        ((q.limits.max_servers + 1) * length (sender_of t.value.sender q.client_senders).messages.held)
        (omega (arith, servers_placed q (entry ∷ []) sound index c at)) spot.1 refl in
        let serves : server_place q server ≡ c.receiver =
        ap (λ n. server_place q n) (sym a.1 ∙ server_is)
        ∙ ap (λ o. option_map_or (λ (s : ServerPart K). s.receiver) o q.limits.max_servers) (server_alone q (entry ∷ []) sound index c at)
        in
        its (omega (arith, within, r.0, sound.sized.rows_fit t.value.sender spot.0))
        ∙ ap (λ j. record {
          row = (sender_of t.value.sender q.client_senders).row;
          index = (c.receiver + 1) * length (sender_of t.value.sender q.client_senders).messages.held + j;
        }) r.0
        ∙ ap (λ r. record {
          row = (sender_of t.value.sender q.client_senders).row;
          index = (r + 1) * length (sender_of t.value.sender q.client_senders).messages.held + t.value.slot;
        }) (sym serves)
        ∙ sym (sound.inserted.placed asked t here ∙ ap (λ g. place_at q g t.value.sender t.value.slot) is)

    -- whatever place is told
    pub asked_right : (place : Option Place)
        → IfSome place (IsAskedPlace q.client_senders (response_details q entry.sender entry.slot) c.receiver)
        → IfSome place (λ r. r ≡ t.place)
    asked_right None told = tt
    asked_right (Some place) told = asked_place_is place told
