use Rattle.std.proofs.Common.{ap, ◌∙◌}
use Rattle.rr_store.specs.Opened.{opened}
use Rattle.rr_writing.proofs.laws.Written.{whole_or}
use Rattle.rr_writing.proofs.steps.Request.{element_core, element_view}
use Rattle.rr_hub.proofs.Looks.{loaned_request, request_loan, under}
use Rattle.rr_hub.proofs.state.Core.write_request_element.Goals as goal

pub write_element-requires : goal.write_element-requires
write_element-requires g c = loaned_request c.self.invariant c.self.view_is c.args.id.now c.look_up-entry.ensures c.requires

pub invariant_of-self : goal.invariant_of-self
invariant_of-self g c =
    element_core _ _ _ _ (under c.self.invariant c.self.view_is c.args.id.now c.look_up-entry.ensures)
    c.self.invariant (request_loan c.self.invariant c.self.view_is c.args.id.now c.look_up-entry.ensures c.requires)
    c.args.index c.args.element _ c.write_element.ensures.told _
    (ap (λ s. opened (record c.self.inside.parts { clients = s })) c.write_element.ensures.written
    ∙ whole_or (λ s. opened (record c.self.inside.parts { clients = s })) c.write_element.result _ _)

pub returns : goal.returns
returns g c =
    rw (← c.self.view_is) (element_view _ _ _ _ (under c.self.invariant c.self.view_is c.args.id.now c.look_up-entry.ensures)
    c.self.invariant (request_loan c.self.invariant c.self.view_is c.args.id.now c.look_up-entry.ensures c.requires)
    c.args.index c.args.element _ c.write_element.ensures.told _
    (ap (λ s. opened (record c.self.inside.parts { clients = s })) c.write_element.ensures.written
    ∙ whole_or (λ s. opened (record c.self.inside.parts { clients = s })) c.write_element.result _ _))
