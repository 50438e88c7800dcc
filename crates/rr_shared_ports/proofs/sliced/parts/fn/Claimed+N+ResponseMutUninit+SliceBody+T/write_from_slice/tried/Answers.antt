use Rattle.std.proofs.Common.{◌≢◌, ◌∷◌}
use Rattle.rr_shared_ports.proofs.Words.{[], length, refl, rules, facts_stay, asks_no_other}
use Rattle.rr_shared_ports.proofs.sliced.parts.fn.Claimed+N+ResponseMutUninit+SliceBody+T.write_from_slice.tried.Goals as goal

-- these are not as many as are asked for
pub returns-else-asked_len-elements : goal.returns-else-asked_len-elements
returns-else-asked_len-elements g c =
    let differ : c.asked_len.result ≢ length c.captures.elements.now = search rules in
    record {
      call = (refl, refl, asks_no_other c.args.ports.now c.args.handle c.asked_len.result (length c.captures.elements.now) c.asked_len.ensures differ, refl);
      keeps = facts_stay (c.args.handle ∷ []) c.args.ports.now;
      made = tt;
      kept = (refl, c.requires);
    }
