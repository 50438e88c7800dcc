use Rattle.std.proofs.Common.{◌≡◌, ◌==◌, ◌%◌, Option, None, ap, ◌∙◌, arith, rules}
use Rattle.std.specs.HashMap.{get}
use Rattle.std.proofs.lemmas.List.{get_or-replicate}
use Rattle.rr_run.specs.declared.places.Spot.{Spot}
use Rattle.rr_run.specs.Known.{place_at}
use Rattle.rr_run.proofs.places.Places.new.Goals as goal

pub returns : goal.returns
returns c = λ n.
    let others : get (λ a b. a == b) c.new.result n ≡ None = search rules in
    let vacant : Option Spot = None in
    ap (λ s. place_at s n (get (λ a b. a == b) c.new.result n)) (get_or-replicate 16 (n % 16) vacant vacant (omega arith)) ∙ others
