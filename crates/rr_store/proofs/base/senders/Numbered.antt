-- Ports by their numbers.
use Rattle.std.proofs.Common.{◌≡◌, ℕ, List, Some}
use Rattle.std.specs.Prelude.{slice_get}
use Rattle.rr_store.specs.Parts.{Connected, Sender}
use Rattle.rr_store.specs.Sound.{HasSenders}
use Rattle.rr_store.proofs.base.lists.Rising.{rising_once}

-- no two ports have one number
pub numbered_once : {T N H K : Type 0} {next ports : ℕ} {connected : List (Connected K)} {senders : List (Sender T N H)}
    → HasSenders next ports connected senders → (i j : ℕ) (c d : Connected K) → slice_get connected i ≡ Some c
    → slice_get connected j ≡ Some d → c.port.id ≡ d.port.id → i ≡ j
numbered_once {K = K} {connected = connected} has = rising_once (λ (c : Connected K). c.port.id) connected has.rising
