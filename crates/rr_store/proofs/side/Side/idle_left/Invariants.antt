use Rattle.std.proofs.Common.{◌≡◌, false, map, take}
use Rattle.std.specs.List.{list_any}
use Rattle.rr_store.specs.Creating.{is_idle}
use Rattle.rr_store.specs.Ports.{sender_part}
use Rattle.rr_store.specs.Views.{sender_of}
use Rattle.rr_store.proofs.side.Side.idle_left.Given as goal

-- the senders of the ports so far are used
abbrev pub invariant-loop-index : goal.invariant-loop-index
invariant-loop-index g l =
    list_any (λ p. is_idle (sender_of p.sender (map sender_part l.self-inside.senders.items))) (take l.index l.port-items) ≡ false
