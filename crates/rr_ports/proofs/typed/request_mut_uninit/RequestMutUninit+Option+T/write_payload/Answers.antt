use Rattle.std.proofs.Common.{[], ◌∷◌}
use Rattle.rr_ports.proofs.WriteLaws.{requests, written}
use Rattle.rr_ports.proofs.typed.request_mut_uninit.RequestMutUninit+Option+T.write_payload.Goals as goal

pub returns : goal.returns
returns g c =
    rw (← c.hub.view_is, ← c.self.view_is) (written c.hub.inside.core c.write_request.new.self c.self.inside.id requests
    (rw (← c.hub.view_is, ← c.self.view_is) at c.requires) (c.args.value ∷ []) c.write_request.ensures)
