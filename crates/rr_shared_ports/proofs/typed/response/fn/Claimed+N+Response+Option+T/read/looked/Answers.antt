use Rattle.rr_shared_ports.proofs.Words.{refl}
use Rattle.rr_shared_ports.proofs.typed.response.fn.Claimed+N+Response+Option+T.read.looked.Goals as goal

-- it returns what the function returns of the payload
pub returns : goal.returns
returns g c = (c.payload.result.now, c.payload.ensures.value, (c.payload.result, c.f.ensures, refl))
