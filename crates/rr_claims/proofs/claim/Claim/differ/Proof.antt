-- Of no entry do two claims have their part.
use Rattle.rr_claims.proofs.Walks.{ℕ, [], ◌∷◌, refl, ◌≡◌, List, sym, a_type, named, Val, vunit, vptr, inst_fn, SProp, emp, ftrue, fsep}
use Rattle.rr_claims.proofs.Walks.{flft, Fml, ‵, raw, ◌⊛◌, ◌$◌, ◌∵◌, !, qed, by, keep, split, fjoin, given, move, drop, fsplit, fsplit3}
use Rattle.rr_claims.proofs.Walks.{fjoin3, learn, use2, rewrite, feq_i, returns, enter, unit_lit, of_opd, alloc_all, pass_all, free_all}
use Rattle.rr_claims.proofs.Walks.{look_at, sets, fact_i, fact, tables, RattleType, owns, types_at, plain, nothing, opens, closes, param}
use Rattle.rr_claims.proofs.Walks.{layouts, Stays, walk_of, stay_ref, Goes-ref, proved, mut_vals, mut_Tells, ends}
use Rattle.rr_claims.specs.Rosters.{claim_owns}
use Rattle.rr_claims.specs.contracts.claim.Claim as Claim
use Rattle.rr_claims.proofs.Entries as entries
use Rattle.rr_claims.specs.contracts.claim.Claim.differ.{ended, clauses}
use Rattle.rr_claims.specs.contracts.claim.Claim.differ.Key.{name as #self}
use Rattle.rr_claims.proofs.claim.Claim.differ.Statement.{statement}
use Rattle.rr_claims.proofs.claim.Claim.differ.Code as code

pub differ_spec : {M : Type 1} → statement M
differ_spec 𝓤 𝓛 𝓜 𝓡 wired W _ =
    let H = 𝓛.H in let 𝓣 = tables 𝓤 H 𝓜 𝓡 𝓡.env in
    let W' : RattleType = param 0 W in let En = ended W in let Cl : RattleType = Claim.the_row W' in
    let inst = layouts (a_type ∷ []) (W, tt) in let fn = inst_fn inst code.function in
    let c = clauses W 𝓛 𝓜.mem 𝓡.returns in let of_one = plain (λ _. Cl) in
    let hs : Stays En.signature.params En.kept = (stay_ref (0 ∷ []) tt of_one, (stay_ref (1 ∷ []) tt of_one, tt)) in
    proved 𝓛 En hs c 𝓜 𝓡 (Goes-ref 𝓛 3 0 tt of_one, (Goes-ref 𝓛 3 1 tt of_one, tt))
    (#self inst) fn (code.unfolded 𝓤 H 𝓜 𝓡 wired (W, tt)) (λ κs. (mut_vals, (mut_vals, tt)))
    (λ κs. (mut_Tells (named 0) κs.0 Cl, (mut_Tells (named 1) κs.1.0 Cl, tt))) (λ κs qs bounds a gh are.
    let b : ℕ = a.0.ref_ptr.0 in let o : ℕ = a.0.ref_ptr.1 in let k : Cl.Denot = a.0.now in
    let d : ℕ = a.1.0.ref_ptr.0 in let p : ℕ = a.1.0.ref_ptr.1 in let h : Cl.Denot = a.1.0.now in
    let mine : ℕ → Fml = λ id. claim_owns W'.coded.code id k.number k.what in
    let y : (walk_of 𝓛 En hs c).Ghost = ((κs, qs, bounds, a, (vptr b o ∷ [], (vptr d p ∷ [], tt))), gh) in
    let Post : Val → SProp 𝓤 = (walk_of 𝓛 En hs c).post y in
    let others : Fml = fsep (flft κs.1.1.0 qs.1.1.0) ftrue in
    let passed : Fml = owns (types_at En.signature.params κs) a y.0.4 in
    qed 𝓛 (((‵ (flft κs.0 qs.0) ⊛ ‵ (flft κs.1.0 qs.1.0) ⊛ ‵ others) ⊛ ‵ passed) ∷ raw (fact 𝓤 _) ∷ given (k.id ≡ h.id) (‵ ftrue) ∷ []) ∵
    keep ! (2 ∷ 0 ∷ []) $ learn ! (λ asked. drop ! $ split ! $ split ! $ move ! (1 ∷ []) $ split ! $ move ! (3 ∷ []) $
    fsplit ! $ fsplit3 ! $ drop ! $ move ! (2 ∷ []) $ fsplit ! $ fsplit3 ! $ keep ! (4 ∷ 5 ∷ 8 ∷ 1 ∷ 2 ∷ 6 ∷ 7 ∷ []) $
    enter ! 𝓣.C 𝓣.Λ fn (vptr b o ∷ vptr d p ∷ []) Post $ alloc_all ! (λ l. pass_all ! refl ((tt, tt), ((tt, tt), tt)) $
    opens ! tt Cl b o (λ us. move ! (5 ∷ 6 ∷ 7 ∷ []) $ opens ! tt Cl d p (λ vs.
    move ! (1 ∷ []) $ fsplit ! $ move ! (7 ∷ []) $ fsplit ! $
    -- [the fields; the part; the other's fields; its part; its cell; three of its open borrow; the cell; three; the other tokens]
    move ! (1 ∷ []) $ rewrite ! 0 (λ (id : ℕ). ‵ (mine id)) asked refl $ move ! (0 ∷ 3 ∷ []) $
    use2 𝓛 (given (k.number ≡ h.number → ⊥) (‵ (mine h.id) ⊛ ‵ (claim_owns W'.coded.code h.id h.number h.what)))
    (entries.apart 𝓛 h.id W'.coded k.number h.number k.what h.what) $ learn ! (λ apart. split ! $
    rewrite ! 0 (λ (id : ℕ). ‵ (mine id)) (sym asked) refl $
    move ! (2 ∷ 0 ∷ []) $ fjoin ! $ move ! (2 ∷ 1 ∷ []) $ fjoin ! $ move ! (2 ∷ 0 ∷ 3 ∷ 4 ∷ 5 ∷ []) $ closes ! tt Cl h vs d p $
    move ! (4 ∷ 3 ∷ 5 ∷ 6 ∷ 7 ∷ []) $ closes ! tt Cl k us b o $
    -- [two parts of the one; its token; two parts of the other; its token; the other tokens]
    feq_i ! (List Val) (vptr b o ∷ []) (vptr b o ∷ []) refl $ fjoin3 ! $ move ! (2 ∷ 3 ∷ []) $
    feq_i ! (List Val) (vptr d p ∷ []) (vptr d p ∷ []) refl $ fjoin3 ! $
    nothing ! $ move ! (1 ∷ 0 ∷ []) $ fjoin ! $ move ! (1 ∷ 0 ∷ []) $ fjoin ! $
    move ! (2 ∷ 3 ∷ []) $ fjoin ! $ move ! (2 ∷ 0 ∷ []) $ fjoin ! $
    sets ! (of_opd ! (unit_lit !)) refl (tt, tt) $ feq_i ! (List Val) (vunit ∷ []) (vunit ∷ []) refl $
    returns ! (look_at ! 0 refl) $ free_all ! refl $ keep ! (1 ∷ 2 ∷ 0 ∷ []) $
    by ! (ends 𝓛 En hs c y vunit tt (k, (h, tt)) (tt, (tt, tt)) (fact_i 𝓤 _ (emp 𝓤) (refl, refl, apart)))))))))
