use Rattle.std.proofs.Common.{[], ◌∷◌, ◌∙◌, sym, subst}
use Rattle.rr_protocol.specs.declared.kind.Kind.TheVariants as kind
use Rattle.rr_ports.specs.Facts.{IsA, Names, Keeps}
use Rattle.rr_ports.proofs.Frames.{kept}
use Rattle.rr_ports.proofs.FactLaws.{keeps_both, keeps_through}
use Rattle.rr_bench.proofs.Frames.{popped}
use Rattle.rr_bench.proofs.crowd.+beside_servers.Goals as goal

-- the last onlooker is the one that was created
pub release-requires-in-Some : goal.release-requires-in-Some
release-requires-in-Some g t c =
    subst (λ n. Names c.beside_servers-done.new.hub n kind.Server)
    (popped c.beside_servers-done.new.onlookers.items c.args.onlookers.now.items c.pop.new.self.items c.in_ok-onlooker.onlooker c.in-Some.onlooker
    (c.beside_servers-done.ensures.onlookers ∙ c.in-Ok.ensures.items) c.in-Some.ensures.items)
    (kept [] c.create.new.hub c.beside_servers-done.new.hub c.in_ok-onlooker.onlooker (IsA kind.Server) c.beside_servers-done.ensures.keeps tt c.in_ok-onlooker.ensures.kind)

pub returns-in-Some-clause-keeps : goal.returns-in-Some-clause-keeps
returns-in-Some-clause-keeps g t c =
    keeps_through c.args.hub.now c.beside_servers-done.new.hub c.release-in-Some.new.hub c.in_ok-onlooker.onlooker c.in_ok-onlooker.ensures.free
    (keeps_both c.args.hub.now c.create.new.hub c.beside_servers-done.new.hub c.in_ok-onlooker.ensures.keeps c.beside_servers-done.ensures.keeps)
    (subst (λ n. Keeps (n ∷ []) c.beside_servers-done.new.hub c.release-in-Some.new.hub)
    (sym (popped c.beside_servers-done.new.onlookers.items c.args.onlookers.now.items c.pop.new.self.items c.in_ok-onlooker.onlooker c.in-Some.onlooker
    (c.beside_servers-done.ensures.onlookers ∙ c.in-Ok.ensures.items) c.in-Some.ensures.items))
    c.release-in-Some.ensures.keeps)
