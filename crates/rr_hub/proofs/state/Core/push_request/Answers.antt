use Rattle.std.proofs.Common.{ap, ◌∙◌, inl}
use Rattle.rr_store.specs.Opened.{opened}
use Rattle.rr_writing.proofs.laws.Written.{whole_or}
use Rattle.rr_writing.proofs.steps.Request.{pushed_core, pushed_view}
use Rattle.rr_hub.proofs.Looks.{loaned_request, request_loan, under}
use Rattle.rr_hub.proofs.state.Core.push_request.Goals as goal

pub push-requires : goal.push-requires
push-requires g c = loaned_request c.self.invariant c.self.view_is c.args.id.now c.look_up-entry.ensures (inl c.requires)

pub invariant_of-self : goal.invariant_of-self
invariant_of-self g c =
    pushed_core _ _ _ _ (under c.self.invariant c.self.view_is c.args.id.now c.look_up-entry.ensures)
    c.self.invariant (request_loan c.self.invariant c.self.view_is c.args.id.now c.look_up-entry.ensures (inl c.requires))
    c.args.item _ c.push.ensures.told _
    (ap (λ s. opened (record c.self.inside.parts { clients = s })) c.push.ensures.pushed
    ∙ whole_or (λ s. opened (record c.self.inside.parts { clients = s })) c.push.result _ _)

pub returns : goal.returns
returns g c =
    rw (← c.self.view_is) (pushed_view _ _ _ _ (under c.self.invariant c.self.view_is c.args.id.now c.look_up-entry.ensures)
    c.self.invariant (request_loan c.self.invariant c.self.view_is c.args.id.now c.look_up-entry.ensures (inl c.requires))
    c.args.item _ c.push.ensures.told _
    (ap (λ s. opened (record c.self.inside.parts { clients = s })) c.push.ensures.pushed
    ∙ whole_or (λ s. opened (record c.self.inside.parts { clients = s })) c.push.result _ _))
