-- A `&` to a claim holds shares of its part of the entry. Assumes `Logic`.
use denote.RattleType.{RattleType}
use denote.Param.Laws.{Laws}
use denote.Param.Shared.{copy_shared}
use denote.SharingLaws.{one_shr_laws}
use denote.Struct.Laws.{field_copy}
use denote.Struct.Lending.{of_Lends}
use Rattle.std.specs.contracts.marker.PhantomData as marker
use Rattle.rr_claims.specs.Rosters.{claim_part}
use Rattle.rr_claims.specs.contracts.claim.Claim as C
use Rattle.rr_claims.proofs.Entries.{claim_lends}
use Rattle.rr_claims.proofs.claim.Claim.TheLaw.Statement.{statement}

pub shares : (W : RattleType) (L : Laws W) → statement W L
shares W L =
    of_Lends (C.struct W) (C.the_codes W.Denot W.coded (marker.the_row W).coded) (C.the_heap W) (C.the_lent W)
    (λ d p. one_shr_laws (claim_part W.coded.code d.id d.number d.what))
    (copy_shared (marker.the_field W) (field_copy (marker.the_type W) tt), tt)
    (λ M 𝓤 𝓛 d p. claim_lends 𝓛 W.coded.code d.id d.number d.what (C.the_row W).lives)
