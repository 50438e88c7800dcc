use Rattle.std.proofs.Common.{◌≡◌, [], ◌∷◌, ap, ◌∙◌, subst, rules}
use Rattle.rr_protocol.specs.declared.kind.Kind.TheVariants as kind
use Rattle.rr_ports.specs.Facts.{Has, IsA, Of}
use Rattle.rr_ports.specs.Queues.{Awaits}
use Rattle.rr_ports.proofs.Frames.{awaited_kept, callers, kept, nothing_awaited}
use Rattle.rr_callers.specs.Parameters.{answer_of}
use Rattle.rr_callers.proofs.parameters.serve.Goals as goal

pub returns-in-Ok-clause-awaits : goal.returns-in-Ok-clause-awaits
returns-in-Ok-clause-awaits c =
    let active = c.in-Ok-Some.active in
    let pending = c.args.pending.now in
    let server = c.args.server.now in
    let heard = c.receive.new.hub in
    let sent = c.send_slice.new.hub in
    let of : Has heard active (Of server pending) = rw c.in-Ok-Some.field-0-is at (c.in-Ok-Some.ensures.of pending c.requires.hears) in
    let there = kept [] c.args.hub.now heard server (IsA kind.Server) c.in-Ok-Some.ensures.keeps tt c.requires.server in
    let nothing = nothing_awaited [] c.args.hub.now heard pending c.in-Ok-Some.ensures.awaited tt c.requires.awaits in
    let queued = c.in-Ok.ensures.first server pending of there nothing in
    let left = c.release.ensures.awaited server pending (kept [] heard sent active (Of server pending) c.in-Ok.ensures.keeps tt of)
    (kept [] heard sent server (IsA kind.Server) c.in-Ok.ensures.keeps tt there) in
    let same : c.payload-asked.result.now ≡ c.args.asked = search rules in
    let says : c.told.result.now ≡ answer_of c.args.asked c.store.new.values =
    c.told.ensures ∙ ap (λ asked. answer_of asked c.store.new.values) same in
    subst (λ xs. Awaits c.release.new.hub pending server (xs ∷ [])) says
    (awaited_kept (active ∷ []) sent c.release.new.hub pending server (c.told.result.now ∷ []) left (search (callers, rules)) queued)
