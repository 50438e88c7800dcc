use Rattle.rr_shared_ports.proofs.Words.{rules, Keeps}
use Rattle.rr_shared_ports.proofs.typed.exchange.fn.Claimed+N+ActiveRequest+Option+T.answer_with.ended.Goals as goal

-- the request was answered before it ended
pub returns : goal.returns
unfolding Keeps
returns g c =
    record { call = (c.respond_if_numbered-sent.new.ports, c.respond_if_numbered-sent.ensures.call, c.release.ensures.released); keeps = search rules }
