use Rattle.std.proofs.Common.{◌≡◌, false, take, nat_lt}
use Rattle.std.specs.List.{list_any}
use Rattle.rr_sender.proofs.links.is_any_counted.Given as goal

-- none of the counts so far is above zero
abbrev pub invariant-loop-count : goal.invariant-loop-count
invariant-loop-count l = list_any (λ n. nat_lt 0 n) (take l.count-index l.counts) ≡ false
