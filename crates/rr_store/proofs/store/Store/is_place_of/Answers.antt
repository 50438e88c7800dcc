use Rattle.std.proofs.Common.{ap, subst}
use Rattle.std.specs.Prelude.{IsSome, option_map}
use Rattle.std.proofs.lemmas.Bool.{false≢true}
use Rattle.rr_store.specs.Opened.{opened}
use Rattle.rr_store.proofs.base.lookups.Looking.{nothing_shown}
use Rattle.rr_store.proofs.store.Store.is_place_of.Goals as goal

pub is_place_of-requires : goal.is_place_of-requires
is_place_of-requires g c none =
    false≢true (subst IsSome (nothing_shown (opened c.args.self.now) c.args.number (ap (option_map (λ s. s.value)) none)) c.requires)
