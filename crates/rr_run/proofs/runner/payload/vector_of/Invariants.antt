use Rattle.std.proofs.Common.{◌≡◌, ◌≤◌}
use Rattle.std.specs.Prelude.{take, vec_len, vec_capacity}
use Rattle.rr_run.proofs.runner.payload.vector_of.Given as goal

-- the elements so far were copied, and there is room for the others
abbrev pub invariant-loop-index : goal.invariant-loop-index
invariant-loop-index g l =
    (l.items.items ≡ take l.index (g.B.Body.elements l.body)) × (vec_len l.items ≡ l.index) × (l.index-end ≤ vec_capacity l.items)
