-- A handle of an active request in hand counts other loans.
use Rattle.std.proofs.Common.{◌≡◌, ℕ, Bool, ◌∷◌, refl, ap, ◌∙◌, arith}
use Rattle.std.specs.Prelude.{count_by}
use Rattle.rr_table.specs.Maps.{mark}
use Rattle.rr_store.specs.declared.handle_entry.HandleEntry.{HandleEntry}
use Rattle.rr_store.specs.Answering.{active_entry}
use Rattle.rr_store.specs.Parts.{Parts}
use Rattle.rr_store.specs.Sound.{IsSoundStore, Hand, handles, is_active_at, is_response_at}
use Rattle.rr_store.proofs.base.hands.Hands.{count-cons}

module _ {Q QH P PH K : Type 0} (p : Parts Q QH P PH K) (hand : Hand) (server sender slot before after : ℕ) where
  same_counted : (test : HandleEntry → Bool) → test (active_entry server sender slot after) ≡ test (active_entry server sender slot before)
      → count_by test (active_entry server sender slot after ∷ hand) ≡ count_by test (active_entry server sender slot before ∷ hand)
  same_counted test e = omega (
    arith,
    count-cons test (active_entry server sender slot after) hand,
    count-cons test (active_entry server sender slot before) hand,
    ap mark e,
  )

  same_handles : (test : HandleEntry → Bool) → test (active_entry server sender slot after) ≡ test (active_entry server sender slot before)
      → handles p test (active_entry server sender slot before ∷ hand) ≡ handles p test (active_entry server sender slot after ∷ hand)
  same_handles test e = omega (arith, same_counted test e)

  -- nothing else tells how many loans it counts
  pub recounted_sound : IsSoundStore p (active_entry server sender slot before ∷ hand) → IsSoundStore p (active_entry server sender slot after ∷ hand)
  recounted_sound sound = record {
    counted = record {
      requests = λ l i. sound.counted.requests l i ∙ same_handles _ refl;
      responses = λ l i. sound.counted.responses l i
          ∙ same_handles _ refl;
    };
    held_once = record {
      loans = sound.held_once.loans;
      servers = λ l i n. omega (arith, sound.held_once.servers l i n, same_handles (is_active_at l i n) refl);
      responses = λ l i. omega (arith, sound.held_once.responses l i, same_counted (is_response_at l i) refl);
    };
    numbered = sound.numbered;
    addressed = sound.addressed;
    inserted = sound.inserted;
    stored = let n = sound.stored in record {
      request_loans = λ l h. n.request_loans l h ∙ same_handles _ refl;
      pendings = λ l h. n.pendings l h ∙ same_handles _ refl;
      response_loans = λ l h. n.response_loans l h ∙ same_handles _ refl;
      active_loans = λ k a loans s at is. n.active_loans k a loans s at is ∙ same_handles _ refl;
      borrowed_requests = λ l a h. n.borrowed_requests l a h ∙ same_handles _ refl;
      borrowed_responses = λ l i channel c h at. n.borrowed_responses l i channel c h at ∙ same_handles _ refl;
    };
    sized = sound.sized;
    vacated = sound.vacated;
    have_ports = sound.have_ports;
    client_ports = sound.client_ports;
    server_ports = sound.server_ports;
  }
