-- A core in which nothing was made is an empty hub.
use Rattle.std.proofs.lemmas.Bool.{ne_eqb}
use Rattle.std.proofs.Common.{◌≡◌, ℕ, [], None, Some, refl, sym, ◌∙◌, arith}
use Rattle.std.specs.Prelude.{slice_get, ◌&&◌}
use Rattle.std.specs.Ordering.{nat_cmp}
use Rattle.std.proofs.lemmas.Option.{slice_get_within}
use Rattle.std.specs.FinMap as fin_map
use Rattle.rr_table.specs.TableView.{TableEntry}
use Rattle.rr_table.proofs.MapLaws.{map_values-empty, tally-empty}
use Rattle.rr_protocol.specs.declared.limits.Limits.{Limits}
use Rattle.rr_protocol.specs.Limits.{hub_refusal}
use Rattle.rr_protocol.specs.State.{empty_hub}
use Rattle.rr_store.specs.declared.handle_entry.HandleEntry.{HandleEntry}
use Rattle.rr_store.specs.Parts.{Parts}
use Rattle.rr_store.specs.Views.{state_of, handle_of, no_server, request_lists, response_lists}
use Rattle.rr_store.specs.Start.{start_parts}
use Rattle.rr_store.specs.Sound.{IsSoundStore, HasSenders, HaveLeft, empty_hand, has_request_at, has_response_at, is_active_of}
use Rattle.rr_store.proofs.base.views.Expired.{none_expired}

-- nothing stands in the map of nothing
nothing_there : {X A : Type 0} (k : ℕ) (x : X) → fin_map.get {R = nat_cmp} fin_map.empty k ≡ Some x → A
nothing_there k x e = absurd (let none : None ≡ Some x = sym (fin_map.get-empty nat_cmp k) ∙ e in cc)

-- no list has an element that isn't there
no_element : {X A : Type 0} (i : ℕ) (x : X) → slice_get [] i ≡ Some x → A
no_element i x e = absurd (omega (arith, slice_get_within [] i x e))

-- no port, and no sender
no_ports : {T N H K : Type 0} {ports : ℕ} → HasSenders {T = T} {N = N} {H = H} {K = K} 0 ports [] []
no_ports = record {
  few = omega arith;
  own = λ i c e. no_element i c e;
  received = λ i c e. no_element i c e;
  valued = λ i c e. no_element i c e;
  owned_once = λ i j h. absurd (omega arith);
  numbered = λ i h. absurd (omega arith);
  placed = λ i c e. no_element i c e;
  receivers_once = λ i j c d e. no_element i c e;
  rising = λ i j c d e. no_element i c e;
}

-- no port left
none_left : {T N H K : Type 0} → HaveLeft {T = T} {N = N} {H = H} {K = K} [] [] []
none_left = record {
  own = λ i l e. no_element i l e;
  apart = λ i j l c e. no_element i l e;
  once = λ i j l m e. no_element i l e;
}

module _ (Q QH P PH K : Type 0) (limits : Limits) (node_id : ℕ) (h : QH) (g : PH) where
  abbrev start : Parts Q QH P PH K
  start = start_parts limits node_id h g

  pub start_view : state_of start ≡ empty_hub limits node_id
  start_view = rw (map_values-empty (handle_of start)) (rw (none_expired (request_lists start) (response_lists start)) refl)

  pub start_sound : hub_refusal limits ≡ None → IsSoundStore start empty_hand
  start_sound fits = record {
    counted = record {
      requests = λ l i. omega (arith, tally-empty (has_request_at l i));
      responses = λ l i. omega (arith, tally-empty (has_response_at l i));
    };
    held_once = record {
      loans = λ k s e. nothing_there k s e;
      servers = λ l i server. omega
          (arith, tally-empty (λ (s : TableEntry HandleEntry). has_request_at l i s && is_active_of server s.value.stage));
      responses = λ l i. omega arith;
    };
    numbered = record {
      fresh = λ k h. fin_map.get-empty nat_cmp k;
      requests = λ k s e. nothing_there k s e;
      pendings = λ k s e. nothing_there k s e;
      responses = λ k s e. nothing_there k s e;
      requests_below = λ l i h. absurd (omega arith);
      responses_below = λ l i h. absurd (omega arith);
      requests_apart = λ l i m j h. absurd (omega arith);
      responses_apart = λ l i m j h. absurd (omega arith);
      kinds_apart = λ l i m j h. absurd (omega arith);
      actives_apart = λ k server l i s e. nothing_there k s e;
      received = λ k s e. nothing_there k s e;
      answering = λ l i k server loans s h. absurd (omega arith);
    };
    addressed = record {
      requests = λ l i h. absurd (omega arith);
      responses = λ l i h. absurd (omega arith);
      clients_below = λ l i h. absurd (omega arith);
      actives_below = λ l i h. absurd (omega arith);
      answered_below = λ l i h. absurd (omega arith);
      answers = λ l i m j h. absurd (omega arith);
      client_senders = λ l i j c h. absurd (omega arith);
      entries = λ l i channel j c e. no_element j c e;
    };
    inserted = record {
      placed = λ k s e. nothing_there k s e;
      client_rows = λ l h. absurd (omega arith);
      server_rows = λ l h. absurd (omega arith);
      client_rows_apart = λ l m h. absurd (omega arith);
      server_rows_apart = λ l m h. absurd (omega arith);
      rows_apart = λ l m h. absurd (omega arith);
      active_servers = λ k server s e. nothing_there k s e;
    };
    stored = record {
      request_loans = λ l h. absurd (omega (arith, h));
      pendings = λ l h. absurd (omega (arith, h));
      response_loans = λ l h. absurd (omega (arith, h));
      active_loans = λ k server loans s e. nothing_there k s e;
      borrowed_requests = λ l server h. absurd (omega arith);
      borrowed_responses = λ l i channel c h. absurd (omega arith);
    };
    sized = record {
      limits_fit = fits;
      client_senders = λ l h. absurd (omega arith);
      server_senders = λ l h. absurd (omega arith);
      marks = λ l h. absurd (omega arith);
      next_fits = omega arith;
      channels = λ l h. absurd (omega (arith, h));
      loans_made = λ i c e. no_element i c e;
      most_loans = λ i s e. no_element i s e;
      rows_fit = λ l h. absurd (omega (arith, h));
    };
    vacated = record {
      of_clients = λ l receiver channel h. (refl, refl);
      of_servers = λ l receiver channel h. (refl, refl);
      awaits_none = λ l i receiver server new fits. ne_eqb no_server server (λ e. absurd (omega (arith, e, fits)));
    };
    have_ports = record {
      handles = λ k s e. nothing_there k s e;
      apart = λ i j c s e. no_element i c e;
      left_clients = none_left;
      left_servers = none_left;
      client_room = omega arith;
      server_room = omega arith;
    };
    client_ports = no_ports;
    server_ports = no_ports;
  }
