use Rattle.std.proofs.Common.{[], ◌∷◌}
use Rattle.rr_ports.proofs.WriteLaws.{responses, written}
use Rattle.rr_ports.proofs.typed.response_mut_uninit.ResponseMutUninit+Option+T.write_payload.Goals as goal

pub returns : goal.returns
returns g c =
    rw (← c.hub.view_is, ← c.self.view_is) (written c.hub.inside.core c.write_response.new.self c.self.inside.id responses
    (rw (← c.hub.view_is, ← c.self.view_is) at c.requires) (c.args.value ∷ []) c.write_response.ensures)
