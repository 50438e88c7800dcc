use Rattle.std.proofs.Common.{ap, arith, ◌∙◌, map, slice_set, sym}
use Rattle.std.proofs.lemmas.Bool.{eq-eqb, ne_eqb}
use Rattle.std.proofs.lemmas.List.{map-set}
use Rattle.rr_slots.specs.Threads.{holders_of}
use Rattle.rr_slots.proofs.HolderLaws.{holders_at, kept, freed, free_within}
use Rattle.rr_slots.proofs.holders.Holders.give_back.Goals as goal

pub overflow_add-self : goal.overflow_add-self
overflow_add-self c = record {
  fits = omega (
    arith,
    free_within _ _ _ _ _ (freed _ _ _ _ _ c.look-holders.ensures.slot c.if-holders-eq1.true c.self.invariant),
    c.look-holders.ensures.fits,
  );
}

pub invariant_of-self : goal.invariant_of-self
invariant_of-self c = rw c.set.ensures (rw c.look-holders.ensures.looks
    (freed _ _ _ _ _ c.look-holders.ensures.slot c.if-holders-eq1.true c.self.invariant))

pub returns-then-holders-eq1-clause-free : goal.returns-then-holders-eq1-clause-free
returns-then-holders-eq1-clause-free c =
    let at = holders_at c.self.inside.slots.slots c.args.slot 0 _ c.look-holders.ensures.slot in
    rw (← c.self.view_is) (sym (eq-eqb _ 0 (omega (arith, at, c.if-holders-eq1.true))))

pub returns-then-holders-eq1-clause-holders : goal.returns-then-holders-eq1-clause-holders
returns-then-holders-eq1-clause-holders c =
    let at = holders_at c.self.inside.slots.slots c.args.slot 0 _ c.look-holders.ensures.slot in
    rw (← c.self.view_is) (rw c.set.ensures (rw c.look-holders.ensures.looks
    (rw at (map-set _ _ _ _ ∙ ap (λ n. slice_set (map holders_of c.self.inside.slots.slots) c.args.slot n)
    (omega (arith, c.if-holders-eq1.true))))))

pub overflow_sub-holders : goal.overflow_sub-holders
overflow_sub-holders c =
    omega (arith, holders_at c.self.inside.slots.slots c.args.slot 0 _ c.look-holders.ensures.slot, rw (← c.self.view_is) at c.requires)

pub invariant_of-self-2 : goal.invariant_of-self-2
invariant_of-self-2 c =
    let at = holders_at c.self.inside.slots.slots c.args.slot 0 _ c.look-holders.ensures.slot in
    let held = rw (← c.self.view_is) at c.requires in
    rw c.set-2.ensures (rw c.look-holders.ensures.looks
    (kept _ _ _ _ _ _ _ c.look-holders.ensures.slot (omega (arith, at, held)) (omega (arith, at, held, c.if-holders-eq1.false)) c.self.invariant))

pub returns-clause-free : goal.returns-clause-free
returns-clause-free c =
    let at = holders_at c.self.inside.slots.slots c.args.slot 0 _ c.look-holders.ensures.slot in
    let held = rw (← c.self.view_is) at c.requires in
    rw (← c.self.view_is) (sym (ne_eqb _ 0 (λ e. omega (arith, at, held, e, c.if-holders-eq1.false))))

pub returns-clause-holders : goal.returns-clause-holders
returns-clause-holders c =
    rw (← c.self.view_is) (rw c.set-2.ensures (rw c.look-holders.ensures.looks
    (rw (holders_at _ _ 0 _ c.look-holders.ensures.slot) (map-set _ _ _ _))))
