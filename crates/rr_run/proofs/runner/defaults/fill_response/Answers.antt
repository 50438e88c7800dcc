use Rattle.std.proofs.Common.{◌≡◌, ◌∙◌, inr, arith}
use Rattle.rr_run.proofs.Defaults.{all_written, response_begun, response_open, response_goes_on, response_complete}
use Rattle.rr_run.proofs.runner.defaults.fill_response.Goals as goal

pub loop-init : goal.loop-init
loop-init g c = response_begun g.T.Default.is_default c.args.core.now c.args.id.now c.args.len c.requires.kind c.requires.blank

pub push_response-requires : goal.push_response-requires
push_response-requires g c =
    response_open g.T.Default.is_default c.args.core.now c.args.id.now c.args.len c.requires.kind c.requires.blank
    c.loop.counter c.loop.core c.loop.invariant

pub loop-preserved : goal.loop-preserved
loop-preserved g c =
    response_goes_on g.T.Default.is_default c.args.core.now c.args.id.now c.args.len c.requires.kind c.requires.blank
    c.loop.counter c.loop.core c.loop.invariant c.loop-test.true c.default.result c.default.ensures c.push_response.result c.push_response.new.self c.push_response.ensures

pub assume_init-requires-clause-uninit : goal.assume_init-requires-clause-uninit
assume_init-requires-clause-uninit g c =
    inr (response_open g.T.Default.is_default c.args.core.now c.args.id.now c.args.len c.requires.kind c.requires.blank
    c.loop.counter c.loop.core c.loop.invariant)

pub assume_init-requires-clause-complete : goal.assume_init-requires-clause-complete
assume_init-requires-clause-complete g c =
    response_complete g.T.Default.is_default c.args.core.now c.args.id.now c.args.len c.requires.kind c.requires.blank
    c.loop.counter c.loop.core c.loop.invariant (omega arith)

pub returns : goal.returns
returns g c =
    let all : c.loop.counter ≡ c.args.len = omega arith in
    let w = c.loop.invariant in
    all_written g.T.Default.is_default c.args.core.now c.args.id.now c.args.len c.loop.core c.assume_init.new.self
    (w.0, w.1 ∙ all, w.2, w.3) c.assume_init.ensures
