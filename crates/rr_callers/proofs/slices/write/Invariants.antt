use Rattle.std.proofs.Common.{◌≡◌, [], ◌∷◌}
use Rattle.rr_protocol.specs.declared.kind.Kind.{Kind}
use Rattle.rr_ports.specs.Facts.{Keeps, Names, numbers_left}
use Rattle.rr_callers.proofs.slices.write.Given as goal

-- the request is being written, what held of others holds still, and as many numbers are left
abbrev pub invariant-loop-value : goal.invariant-loop-value
invariant-loop-value l =
    Names l.hub l.request Kind.RequestMutUninit × Keeps (l.request ∷ []) l.fn.hub l.hub × (numbers_left l.hub ≡ numbers_left l.fn.hub)
