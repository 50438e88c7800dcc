-- What is true of numbers, addresses and places stays true while no message comes that was not used.
use Rattle.std.proofs.Common.{◌≡◌, ◌<◌, ◌+◌, ◌*◌, ℕ, true, List, Some, length, sym, ap, ◌∙◌, arith}
use Rattle.std.specs.Prelude.{slice_index, slice_get}
use Rattle.std.specs.FinMap as fin_map
use Rattle.rr_table.specs.TableView.{TableEntry}
use Rattle.rr_sender.specs.Senders.{times, queue_at}
use Rattle.rr_store.specs.declared.handle_entry.HandleEntry.{HandleEntry}
use Rattle.rr_store.specs.declared.handle_entry.Stage.{Stage}
use Rattle.rr_store.specs.declared.handle_entry.Stage.TheVariants as stage
use Rattle.rr_store.specs.declared.details.RequestDetails.{RequestDetails}
use Rattle.rr_store.specs.declared.details.ResponseDetails.{ResponseDetails}
use Rattle.rr_store.specs.Parts.{Parts, Connected, ClientPart, Sender}
use Rattle.rr_store.specs.Views.{sender_of}
use Rattle.rr_store.specs.Sound.{IsSoundStore, IsNumbered, IsAddressed, IsPlaced, Hand, is_of_request, is_of_response, server_place, place_at, request_uses, response_uses, request_details, response_details}
use Rattle.rr_store.specs.Frames.{moved, SameFrame}
use Rattle.rr_store.specs.Kept.{DetailsKept}
use Rattle.rr_store.proofs.base.frames.Frames.{client_after, client_before}
use Rattle.rr_store.proofs.base.hands.Stages.{loan_is_request, pending_is_request, received_is_response}

module _ {Q QH P PH K : Type 0} (p : Parts Q QH P PH K) (hand : Hand) (sound : IsSoundStore p hand)
    (clients : List (ClientPart K)) (client_senders : List (Sender Q RequestDetails QH))
    (server_senders : List (Sender P ResponseDetails PH))
    (next : ℕ) (frame : SameFrame p clients client_senders server_senders next) where
  abbrev after : Parts Q QH P PH K
  after = moved p clients client_senders server_senders p.table.entries next

  -- the place of each handle is as it was
  pub same_placing : (g : Stage) (sender slot : ℕ) → place_at after g sender slot ≡ place_at p g sender slot
  same_placing stage.RequestMutUninit sender slot = ap (λ r. record { row = r; index = slot }) (frame.client_senders_alike.each sender).row
  same_placing stage.RequestMut sender slot = ap (λ r. record { row = r; index = slot }) (frame.client_senders_alike.each sender).row
  same_placing (stage.PendingResponse hint connections) sender slot = ap (λ r. record { row = r; index = slot })
      (frame.client_senders_alike.each sender).row
  same_placing (stage.ActiveRequest server loans) sender slot =
      ap (λ r. record { row = r; index = (at_place + 1) * length (sender_of sender client_senders).messages.held + slot })
      (frame.client_senders_alike.each sender).row
      ∙ ap (λ n. record { row = (sender_of sender p.client_senders).row; index = (at_place + 1) * n + slot })
      (frame.client_senders_alike.each sender).slots
    where
      at_place : ℕ
      at_place = server_place p server
  same_placing stage.ResponseMutUninit sender slot = ap (λ r. record { row = r; index = slot }) (frame.server_senders_alike.each sender).row
  same_placing stage.ResponseMut sender slot = ap (λ r. record { row = r; index = slot }) (frame.server_senders_alike.each sender).row
  same_placing stage.Response sender slot = ap (λ r. record { row = r; index = slot }) (frame.server_senders_alike.each sender).row

  -- and so are the rows
  pub framed_inserted : IsPlaced after
  framed_inserted =
      let n = sound.inserted in
      let cs = frame.client_senders_alike in
      let ss = frame.server_senders_alike in
      record {
        placed = λ k s at. n.placed k s at ∙ sym (same_placing s.value.stage s.value.sender s.value.slot);
        client_rows = λ l h. let r = n.client_rows l (omega (arith, h, cs.many)) in (
          omega (arith, r.0, (cs.each l).row),
          ap (slice_index p.table.rows) (cs.each l).row ∙ r.1 ∙ sym (ap (λ n. (p.limits.max_servers + 1) * n) (cs.each l).slots),
        );
        server_rows = λ l h. let r = n.server_rows l (omega (arith, h, ss.many)) in (
          omega (arith, r.0, (ss.each l).row),
          ap (slice_index p.table.rows) (ss.each l).row ∙ r.1 ∙ sym (ss.each l).slots,
        );
        client_rows_apart = λ l m h g e. n.client_rows_apart l m (omega (arith, h, cs.many)) (omega (arith, g, cs.many))
            (sym (cs.each l).row ∙ e ∙ (cs.each m).row);
        server_rows_apart = λ l m h g e. n.server_rows_apart l m (omega (arith, h, ss.many)) (omega (arith, g, ss.many))
            (sym (ss.each l).row ∙ e ∙ (ss.each m).row);
        rows_apart = λ l m h g e. n.rows_apart l m (omega (arith, h, cs.many)) (omega (arith, g, ss.many))
            (sym (cs.each l).row ∙ e ∙ (ss.each m).row);
        active_servers = n.active_servers;
      }

  module _ (kept : DetailsKept p after) where
    request_number : (l i : ℕ) → 0 < request_uses after l i → (request_details after l i).number ≡ (request_details p l i).number
    request_number l i used = ap (λ (n : RequestDetails). n.number) (kept.requests_noted l i used)

    response_number : (l i : ℕ) → 0 < response_uses after l i → (response_details after l i).number ≡ (response_details p l i).number
    response_number l i used = ap (λ (n : ResponseDetails). n.number) (kept.responses_noted l i used)

    -- numbers are as they were, if each message with a handle is still used
    pub kept_numbered : ((k : ℕ) (s : TableEntry HandleEntry) → fin_map.get p.table.entries k ≡ Some s → is_of_request s.value.stage ≡ true
        → 0 < request_uses after s.value.sender s.value.slot)
        → ((k : ℕ) (s : TableEntry HandleEntry) → fin_map.get p.table.entries k ≡ Some s → is_of_response s.value.stage ≡ true
        → 0 < response_uses after s.value.sender s.value.slot) → IsNumbered after
    kept_numbered requests responses =
        let n = sound.numbered in
        record {
          fresh = λ k h. n.fresh k (omega (arith, h, frame.numbers));
          requests = λ k s at is. n.requests k s at is ∙ sym
              (request_number s.value.sender s.value.slot (requests k s at (loan_is_request s.value.stage is)));
          pendings = λ k s at is. n.pendings k s at is ∙ sym
              (request_number s.value.sender s.value.slot (requests k s at (pending_is_request s.value.stage is)));
          responses = λ k s at is. n.responses k s at is ∙ sym (response_number s.value.sender s.value.slot (responses k s at is));
          requests_below = λ l i h. omega (arith, n.requests_below l i (kept.requests_used l i h), request_number l i h, frame.numbers);
          responses_below = λ l i h. omega (arith, n.responses_below l i (kept.responses_used l i h), response_number l i h, frame.numbers);
          requests_apart = λ l i m j h g e. n.requests_apart l i m j (kept.requests_used l i h) (kept.requests_used m j g)
              (sym (request_number l i h) ∙ e ∙ request_number m j g);
          responses_apart = λ l i m j h g e. n.responses_apart l i m j (kept.responses_used l i h) (kept.responses_used m j g)
              (sym (response_number l i h) ∙ e ∙ response_number m j g);
          kinds_apart = λ l i m j h g e. n.kinds_apart l i m j (kept.requests_used l i h) (kept.responses_used m j g)
              (sym (request_number l i h) ∙ e ∙ response_number m j g);
          actives_apart = λ k server l i s at is. let a = n.actives_apart k server l i s at is in (
            (λ h e. a.0 (kept.requests_used l i h) (sym (request_number l i h) ∙ e)),
            (λ h e. a.1 (kept.responses_used l i h) (sym (response_number l i h) ∙ e)),
          );
          received = λ k s at is.
              let r = n.received k s at is in
              let c = client_after p hand sound clients client_senders server_senders p.table.entries next frame r.0 r.1 r.2 in
              let details = kept.responses_noted s.value.sender s.value.slot (responses k s at (received_is_response s.value.stage is)) in
              (r.0, c.0, c.1, ap (λ (f : Connected K). f.port.id) c.2 ∙ r.3 ∙ sym (ap (λ (n : ResponseDetails). n.client) details));
          answering = λ l i k server loans s u at is f.
              let details : response_details after l i ≡ response_details p l i = kept.responses_noted l i u in
              let a = n.answering l i k server loans s (kept.responses_used l i u) at is
              (sym (ap (λ (n : ResponseDetails). n.active_request) details) ∙ f) in (
                request_number s.value.sender s.value.slot (requests k s at (ap is_of_request is)) ∙ a.0
                    ∙ sym (ap (λ (n : ResponseDetails). n.request) details),
                ap (λ (n : ResponseDetails). n.server) details ∙ a.1,
              );
        }

    -- and so are addresses, if each response that waits is where it says
    pub kept_addressed : ((sender slot channel i : ℕ) (c : ClientPart K) → slice_get clients i ≡ Some c
        → 0 < times slot (queue_at (sender_of sender server_senders).messages c.receiver channel) →
        ((response_details after sender slot).client ≡ c.port.id) × ((response_details after sender slot).channel ≡ channel))
        → IsAddressed after
    kept_addressed entries =
        let n = sound.addressed in
        let details : (l i : ℕ) → 0 < response_uses after l i → response_details after l i ≡ response_details p l i = kept.responses_noted
        in
        record {
          requests = λ l i h. ap (λ (n : RequestDetails). n.client) (kept.requests_noted l i h) ∙ n.requests l i (kept.requests_used l i h)
              ∙ sym (frame.client_senders_alike.each l).owner;
          responses = λ l i h. ap (λ (n : ResponseDetails). n.server) (details l i h) ∙ n.responses l i (kept.responses_used l i h)
              ∙ sym (frame.server_senders_alike.each l).owner;
          clients_below = λ l i h. omega (
            arith,
            ap (λ (n : ResponseDetails). n.client) (details l i h),
            n.clients_below l i (kept.responses_used l i h),
            frame.numbers,
          );
          actives_below = λ l i h. omega (
            arith,
            ap (λ (n : ResponseDetails). n.active_request) (details l i h),
            n.actives_below l i (kept.responses_used l i h),
            frame.numbers,
          );
          answered_below = λ l i h. omega (
            arith,
            ap (λ (n : ResponseDetails). n.request) (details l i h),
            n.answered_below l i (kept.responses_used l i h),
            frame.numbers,
          );
          answers = λ l i m j h g e.
              let a = n.answers l i m j (kept.responses_used l i h) (kept.requests_used m j g)
              (sym (request_number m j g) ∙ e ∙ ap (λ (n : ResponseDetails). n.request) (details l i h)) in (
                ap (λ (n : ResponseDetails). n.channel) (details l i h) ∙ a.0,
                ap (λ (n : ResponseDetails). n.client) (details l i h) ∙ a.1
                    ∙ sym (frame.client_senders_alike.each m).owner,
                a.2 ∙ sym (ap (λ (n : ResponseDetails). n.client_sender) (details l i h)),
              );
          client_senders = λ l i j c h at named.
              let d = client_before p hand sound clients client_senders server_senders p.table.entries next frame j c at in
              ap (λ (f : Connected K). f.sender) (sym d.2)
              ∙ n.client_senders l i j d.0 (kept.responses_used l i h) d.1
              (ap (λ (f : Connected K). f.port.id) d.2 ∙ named ∙ ap (λ (n : ResponseDetails). n.client) (details l i h))
              ∙ sym (ap (λ (n : ResponseDetails). n.client_sender) (details l i h));
          entries = entries;
        }
