use Rattle.std.proofs.Common.{length, ap, arith}
use Rattle.std.proofs.lemmas.List.{length-map}
use Rattle.rr_sender.proofs.HeadLaws.{length-details}
use Rattle.rr_sender.proofs.sender.Sender.slots.Goals as goal

pub returns : goal.returns
returns g c =
    omega (
      arith,
      c.len.ensures,
      c.self.inside.heads.ok.0,
      length-map c.self.inside.heads.items (λ head. head.details),
      length-details _ _ _ c.self.invariant,
      ap (λ m. length m.held) c.self.view_is,
    )
