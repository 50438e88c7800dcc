-- A roster is made with all entries.
use Rattle.rr_claims.proofs.Walks.{ℕ, [], ◌∷◌, refl, a_type, Val, inst_fn, SProp, emp, via, ftrue, fsep, flft, Fml, basic, ‵, raw, ◌⊛◌}
use Rattle.rr_claims.proofs.Walks.{some, later, ◌$◌, ◌∵◌, !, qed, by, keep, split, fjoin, pick, use0, await, no_more, and_then, returns}
use Rattle.rr_claims.proofs.Walks.{enter, alloc_all, pass_all, free_all, look_at, get, sets, agg, fact_i, tables, RattleType, owns}
use Rattle.rr_claims.proofs.Walks.{types_at, nothing, param, layouts, Stays, walk_of, proved, token, token_owns, token_made, ends}
use Rattle.rr_claims.specs.Rosters.{roster_owns}
use Rattle.rr_claims.proofs.Entries as entries
use Rattle.rr_claims.specs.contracts.roster.Roster.new.{ended, clauses}
use Rattle.rr_claims.specs.contracts.roster.Roster.new.Key.{name as #self}
use Rattle.rr_claims.proofs.roster.Roster.new.Statement.{statement}
use Rattle.rr_claims.proofs.roster.Roster.new.Code as code

pub new_spec : {M : Type 1} → statement M
new_spec 𝓤 𝓛 𝓜 𝓡 wired W _ =
    let H = 𝓛.H in let 𝓣 = tables 𝓤 H 𝓜 𝓡 𝓡.env in
    let W' : RattleType = param 0 W in let En = ended W in
    let inst = layouts (a_type ∷ []) (W, tt) in let fn = inst_fn inst code.function in
    let c = clauses W 𝓛 𝓜.mem 𝓡.returns in
    let hs : Stays En.signature.params En.kept = tt in
    proved 𝓛 En hs c 𝓜 𝓡 tt (#self inst) fn (code.unfolded 𝓤 H 𝓜 𝓡 wired (W, tt)) (λ κs. tt) (λ κs. tt) (λ κs qs bounds a gh are.
    let y : (walk_of 𝓛 En hs c).Ghost = ((κs, qs, bounds, a, tt), gh) in
    let Post : Val → SProp 𝓤 = (walk_of 𝓛 En hs c).post y in
    let toks : Fml = fsep (flft κs.0 qs.0) ftrue in
    let passed : Fml = owns (types_at En.signature.params κs) a y.0.4 in
    qed 𝓛 ((‵ toks ⊛ ‵ passed) ∷ raw ((c κs a).requires gh) ∷ []) ∵
    keep ! (0 ∷ []) $ split ! $ keep ! (0 ∷ []) $
    enter ! 𝓣.C 𝓣.Λ fn [] Post $ alloc_all ! (λ l. pass_all ! refl tt $
    use0 𝓛 (later (some (λ (id : ℕ). ‵ (roster_owns W'.coded.code id [])))) (via 𝓤 _ (entries.begins 𝓛 W'.coded.code) (basic 𝓛 _)) $
    await ! tt $ pick ! (λ id.
    -- [the entries; the tokens]
    use0 𝓛 (‵ (token_owns W')) (token_made W' 𝓛) $ fjoin ! $
    sets ! (agg ! (no_more !)) refl (tt, tt) $ sets ! (agg ! (and_then ! (get ! refl) (no_more !))) refl (tt, (tt, tt)) $
    nothing ! $ returns ! (look_at ! 0 refl) $ free_all ! refl $ keep ! (2 ∷ 0 ∷ 1 ∷ []) $
    by ! (ends 𝓛 En hs c y token (record { marker = record {}; id = id; puts = [] }) tt tt (fact_i 𝓤 _ (emp 𝓤) refl)))))
