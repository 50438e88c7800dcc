-- Any thread may share a claim.
use denote.RattleType.{RattleType}
use denote.Param.Send.{IsSync, sendable}
use denote.Struct.Struct.{Struct}
use denote.Struct.Owning.{shape}
use Rattle.rr_claims.specs.contracts.claim.Claim.{the_row, the_type}

pub sync : (W : RattleType) → IsSync (the_row W)
sync W =
    let fields : IsSync (Struct (shape (the_type W))) = search sendable depth 20 in
    record { shared = λ d b o ν. (fields.shared (tt, tt) b o ν, λ q. tt) }
