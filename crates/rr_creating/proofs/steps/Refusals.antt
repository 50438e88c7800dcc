-- Why a server is refused, or that none of the reasons holds.
use Rattle.std.proofs.Common.{◌≡◌, ◌<◌, ◌≤◌, ◌^◌, ℕ, Bool, true, false, cond, None, Some, length, map, refl, sym, ap, ◌∙◌, arith}
use Rattle.std.specs.Prelude.{max, nat_le, ◌==◌}
use Rattle.std.proofs.Math.Nat.{max_comm}
use Rattle.std.proofs.lemmas.Bool.{le-leb, lt-leb, ne_eqb}
use Rattle.std.proofs.lemmas.List.{length-map}
use Rattle.rr_protocol.specs.declared.error.ServerCreateError.{ServerCreateError}
use Rattle.rr_protocol.specs.declared.settings.ServerSettings.{ServerSettings}
use Rattle.rr_protocol.specs.Creation.{loans_of, server_refusal}
use Rattle.rr_protocol.specs.Limits.{is_too_large, worst_case_responses}
use Rattle.rr_protocol.specs.State.{State, numbers_left}
use Rattle.rr_store.specs.declared.store.Store.{Store}
use Rattle.rr_store.specs.Opened.{opened}
use Rattle.rr_store.specs.Ports.{server_part}
use Rattle.rr_store.specs.Views.{server_of, state_of}

-- what the third of three tests says, where the first two fail
third : {E : Type 0} (a b c d : Bool) (e f g : E) → a ≡ false → b ≡ false → c ≡ d
    → cond d (Some g) None ≡ cond a (Some e) (cond b (Some f) (cond c (Some g) None))
third a b c d e f g first second is = rw (first, second, is) refl

module _ {QB QH PB PH K Q P : Type 0} (store : Store QB QH PB PH K Q P) (settings : ServerSettings K) (left : store.next < 2 ^ 62)
    (count : ℕ) (many : count ≡ length store.servers.ports) (room : count < store.limits.max_servers) (loans : ℕ)
    (are : loans ≡ max settings.loans 1) where
  abbrev s : State Q QH P PH K
  s = state_of (opened store)

  -- one more server may be connected
  roomy : length s.servers < s.limits.max_servers
  roomy = omega (
    arith,
    many,
    room,
    length-map store.servers.ports server_part,
    length-map (map server_part store.servers.ports) server_of,
  )

  -- the loans that the settings say
  counted : worst_case_responses s.limits (loans_of settings) ≡ worst_case_responses s.limits loans
  counted = ap (worst_case_responses s.limits) (sym (are ∙ max_comm settings.loans 1))

  -- the refusal, by whether the slots are too many
  refused : (large : Bool) → is_too_large (worst_case_responses s.limits loans) ≡ large
      → cond large (Some ServerCreateError.UnableToCreateDataSegment) None ≡ server_refusal s settings
  refused large is =
      third (numbers_left s == 0) (nat_le s.limits.max_servers (length s.servers))
      (is_too_large (worst_case_responses s.limits (loans_of settings))) large _ _ _
      (ne_eqb (numbers_left s) 0 (λ e. omega (arith, e, left)))
      (lt-leb s.limits.max_servers (length s.servers) roomy) (ap is_too_large counted ∙ is)

  -- a `usize` counts the slots
  pub server_allowed : (slots : ℕ) → slots < 2 ^ 64 → slots ≡ worst_case_responses s.limits loans → None ≡ server_refusal s settings
  server_allowed slots fits is =
      refused false (ap is_too_large (sym is) ∙ lt-leb (2 ^ 64) slots fits)

  -- or it doesn't
  pub server_too_large : 2 ^ 64 ≤ worst_case_responses s.limits loans
      → Some ServerCreateError.UnableToCreateDataSegment ≡ server_refusal s settings
  server_too_large large = refused true (le-leb (2 ^ 64) (worst_case_responses s.limits loans) large)
