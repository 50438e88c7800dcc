use Rattle.std.proofs.Common.{sym, ap, ◌∙◌, subst}
use Rattle.std.specs.Prelude.{◌==◌}
use Rattle.std.specs.List.{position}
use Rattle.rr_store.specs.Order.{IsRising}
use Rattle.rr_store.proofs.base.lists.Alone.{any_alone, any_nowhere}
use Rattle.rr_store.proofs.side.Side.is_value.Goals as goal

pub index_by_halving-requires : goal.index_by_halving-requires
index_by_halving-requires g c =
    subst (IsRising g.P.ConnectedPort.id) (sym c.as_slice.ensures.value) (rw (← c.self.view_is) at c.requires)

pub returns-in-Some : goal.returns-in-Some
returns-in-Some g c =
    let ports = c.self.inside.ports.items in
    let found = ap (position (λ p. g.P.ConnectedPort.id p == c.args.number)) (sym c.as_slice.ensures.value)
    ∙ sym c.index_by_halving.ensures ∙ c.in-Some.is in
    rw (← c.self.view_is) (c.details.ensures.has_value
    ∙ sym (any_alone g.P.ConnectedPort.id g.P.ConnectedPort.has_value ports c.args.number (rw (← c.self.view_is) at c.requires)
    c.in-Some.index _ found c.index.ensures))

pub returns-in-None : goal.returns-in-None
returns-in-None g c =
    let ports = c.self.inside.ports.items in
    let none = ap (position (λ p. g.P.ConnectedPort.id p == c.args.number)) (sym c.as_slice.ensures.value)
    ∙ sym c.index_by_halving.ensures ∙ c.in-None.is in
    rw (← c.self.view_is) (sym (any_nowhere g.P.ConnectedPort.id g.P.ConnectedPort.has_value ports c.args.number none))
