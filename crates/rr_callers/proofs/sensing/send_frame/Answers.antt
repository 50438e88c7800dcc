use Rattle.std.proofs.Common.{◌+◌, ◌*◌, ◌%◌, ◌^◌, [], ◌∷◌, ap, ◌∙◌, subst, length, rules}
use Rattle.rr_ports.specs.Queues.{Awaits}
use Rattle.rr_ports.proofs.RespondLaws.{on_ok}
use Rattle.rr_callers.proofs.Making.{made_are}
use Rattle.rr_callers.proofs.sensing.send_frame.Goals as goal

pub returns-clause-frame : goal.returns-clause-frame
returns-clause-frame c channels asks =
    on_ok c.respond_with.result
    (c.respond_with.ensures.first c.args.server.now c.args.pending.now channels c.requires.of c.requires.server asks c.requires.awaits)
    (λ made. subst (λ xs. Awaits c.respond_with.new.hub c.args.pending.now c.args.server.now (xs ∷ []))
    (made_are _ (λ x. (x * 100 % 2 ^ 64 + c.args.time) % 2 ^ 64) channels _ made.0 made.2.0 made.2.1
    (made.1 ∙ ap length (c.payload-len.ensures.reads channels asks))
    (λ i x left one. (search rules, search rules)))
    made.3)
