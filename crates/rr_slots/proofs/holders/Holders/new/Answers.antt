use Rattle.std.proofs.Common.{◌≡◌, ◌-◌, subst, sym}
use Rattle.rr_slots.specs.Threads.{IsThreaded, all_free}
use Rattle.rr_slots.proofs.HolderLaws.{all_threaded, holders-all_free}
use Rattle.rr_slots.proofs.holders.Holders.new.Goals as goal

pub invariant_of-result : goal.invariant_of-result
invariant_of-result c =
    let slots = c.args.slots in
    let last : slots - 1 ≡ c.saturating_sub.result = sym c.saturating_sub.ensures in
    rw (c.in_ok-new.ensures) (subst (λ first. IsThreaded (all_free slots) first slots) last (all_threaded slots))

pub returns-clause-free : goal.returns-clause-free
returns-clause-free c = rw (c.in_ok-new.ensures) (holders-all_free _)
