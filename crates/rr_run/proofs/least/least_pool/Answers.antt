use Rattle.rr_run.proofs.PoolShows.{fill_shows}
use Rattle.rr_run.proofs.least.least_pool.Goals as goal

pub returns-clause-shows : goal.returns-clause-shows
returns-clause-shows c =
    fill_shows c.args.limits.now c.args.n c.in_ok-filling.filling c.fill_up.new.self c.in_ok-filling.ensures.makes_hub c.in_ok-filling.ensures.filled
    c.fill_up.ensures.hub c.in_ok-fill_up.ensures.filled
