-- What is shown is what the reference shows.
use Rattle.rr_claims.proofs.Walks.{[], ◌∷◌, refl, a_type, named, Val, vptr, inst_fn, SProp, emp, ftrue, fsep, flft, Fml, ‵, raw, ◌⊛◌, ◌$◌}
use Rattle.rr_claims.proofs.Walks.{◌∵◌, !, qed, by, keep, split, fjoin, use0, no_more, and_then, returns, enter, alloc_all, pass_all}
use Rattle.rr_claims.proofs.Walks.{free_all, look_at, get, sets, agg, fact_i, tables, RattleType, owns, types_at, plain, nothing, param}
use Rattle.rr_claims.proofs.Walks.{layouts, Stays, walk_of, stay_dropped, Goes-dropped, proved, yes, RefOf, shr_vals, shr_Tells, token}
use Rattle.rr_claims.proofs.Walks.{token_owns, token_made, ends}
use Rattle.rr_claims.specs.contracts.shown.Shown.of.{ended, clauses}
use Rattle.rr_claims.specs.contracts.shown.Shown.of.Key.{name as #self}
use Rattle.rr_claims.proofs.shown.Shown.of.Statement.{statement}
use Rattle.rr_claims.proofs.shown.Shown.of.Code as code

pub of_spec : {M : Type 1} → statement M
of_spec 𝓤 𝓛 𝓜 𝓡 wired S _ =
    let H = 𝓛.H in let 𝓣 = tables 𝓤 H 𝓜 𝓡 𝓡.env in
    let S' : RattleType = param 0 S in let En = ended S in
    let inst = layouts (a_type ∷ []) (S, tt) in let fn = inst_fn inst code.function in
    let c = clauses S 𝓛 𝓜.mem 𝓡.returns in let of_value = RefOf (0 ∷ []) tt (plain (λ _. S')) (λ _. tt) in
    let hs : Stays En.signature.params En.kept = (stay_dropped of_value yes, tt) in
    proved 𝓛 En hs c 𝓜 𝓡 (Goes-dropped 𝓛 2 of_value yes (λ κs x f. refl), tt)
    (#self inst) fn (code.unfolded 𝓤 H 𝓜 𝓡 wired (S, tt)) (λ κs. (shr_vals, tt))
    (λ κs. (shr_Tells (named 0) κs.0 S', tt)) (λ κs qs bounds a gh are.
    let at : Val = vptr a.0.ref_ptr.0 a.0.ref_ptr.1 in
    let y : (walk_of 𝓛 En hs c).Ghost = ((κs, qs, bounds, a, (at ∷ [], tt)), gh) in
    let Post : Val → SProp 𝓤 = (walk_of 𝓛 En hs c).post y in
    let toks : Fml = fsep (flft κs.0 qs.0) (fsep (flft κs.1.0 qs.1.0) ftrue) in
    let passed : Fml = owns (types_at En.signature.params κs) a y.0.4 in
    qed 𝓛 ((‵ toks ⊛ ‵ passed) ∷ raw ((c κs a).requires gh) ∷ []) ∵
    keep ! (0 ∷ []) $ split ! $ keep ! (0 ∷ []) $
    enter ! 𝓣.C 𝓣.Λ fn (at ∷ []) Post $ alloc_all ! (λ l. pass_all ! refl ((tt, tt), tt) $
    -- [the tokens]
    nothing ! $ use0 𝓛 (‵ (token_owns S')) (token_made S' 𝓛) $ fjoin ! $
    sets ! (agg ! (no_more !)) refl (tt, tt) $ sets ! (agg ! (and_then ! (get ! refl) (no_more !))) refl (tt, (tt, tt)) $
    nothing ! $ nothing ! $ fjoin ! $ returns ! (look_at ! 0 refl) $ free_all ! refl $ keep ! (2 ∷ 0 ∷ 1 ∷ []) $
    by ! (ends 𝓛 En hs c y token (record { marker = record {}; value = a.0.now }) (tt, tt) (tt, tt) (fact_i 𝓤 _ (emp 𝓤) refl))))
