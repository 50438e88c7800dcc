use Rattle.std.proofs.Common.{ap, ◌∙◌, subst}
use Rattle.rr_protocol.specs.declared.limits.Limits.{Limits}
use Rattle.rr_store.specs.Parts.{Parts}
use Rattle.rr_store.specs.Skimming.{IsSkimmedTo}
use Rattle.rr_store.proofs.receiving.request.Skims.{skimmed_then}
use Rattle.rr_receiving.proofs.request.request_sender_beginning.Goals as goal

-- what the first look skimmed, and then the others
pub returns-in-None-clause-skimmed : goal.returns-in-None-clause-skimmed
returns-in-None-clause-skimmed g c forgets =
    let old = c.args.store.now in
    let middle = c.request_sender_at.new.store in
    let new = c.request_sender_around.new.store in
    let result = c.request_sender_around.result in
    let limits = ap (λ (p : Parts _ _ _ _ _). p.limits) c.request_sender_at.ensures.rest in
    let table = ap (λ (p : Parts _ _ _ _ _). p.table) c.request_sender_at.ensures.rest in
    let second = c.request_sender_around.ensures.skimmed (ap (λ (l : Limits). l.enable_fire_and_forget_requests) limits ∙ forgets) in
    skimmed_then old.table c.args.receiver old.limits.max_active_requests_per_client old.clients.senders middle.clients.senders
    new.clients.senders result (c.request_sender_at.ensures.skimmed forgets).skimmed
    (subst (λ (l : Limits). IsSkimmedTo old.table c.args.receiver l.max_active_requests_per_client middle.clients.senders new.clients.senders
    result) limits
    (subst (λ t. IsSkimmedTo t c.args.receiver middle.limits.max_active_requests_per_client middle.clients.senders new.clients.senders result)
    table second))
