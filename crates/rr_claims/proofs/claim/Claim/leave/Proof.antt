-- The roster has all of an entry again.
use Rattle.rr_claims.proofs.Walks.{ℕ, [], ◌∷◌, refl, ◌≡◌, List, None, a_type, named, Val, vunit, vptr, inst_fn, SProp, emp, via, ftrue}
use Rattle.rr_claims.proofs.Walks.{fsep, flft, Fml, basic, ‵, raw, ◌⊛◌, later, ◌$◌, ◌∵◌, !, qed, by, keep, split, fjoin, await, given}
use Rattle.rr_claims.proofs.Walks.{move, drop, fsplit, fsplit3, fjoin3, learn, use2, rewrite, feq_i, returns, enter, unit_lit, of_opd}
use Rattle.rr_claims.proofs.Walks.{alloc_all, pass_all, free_all, look_at, sets, fact_i, fact, tables, RattleType, owns, types_at, plain}
use Rattle.rr_claims.proofs.Walks.{nothing, opens, closes, param, layouts, Stays, walk_of, stay_dropped, stay_ref, Goes-dropped, Goes-ref}
use Rattle.rr_claims.proofs.Walks.{proved, no, mut_vals, mut_Tells, token, token_told, ends}
use Rattle.rr_claims.specs.Rosters.{roster_owns, claim_owns}
use Rattle.rr_claims.specs.contracts.claim.Claim as Claim
use Rattle.rr_claims.specs.contracts.roster.Roster as Roster
use Rattle.rr_claims.proofs.Entries as entries
use Rattle.rr_claims.specs.contracts.claim.Claim.leave.{ended, clauses}
use Rattle.rr_claims.specs.contracts.claim.Claim.leave.Key.{name as #self}
use Rattle.rr_claims.proofs.claim.Claim.leave.Statement.{statement}
use Rattle.rr_claims.proofs.claim.Claim.leave.Code as code

pub leave_spec : {M : Type 1} → statement M
leave_spec 𝓤 𝓛 𝓜 𝓡 wired W _ =
    let H = 𝓛.H in let 𝓣 = tables 𝓤 H 𝓜 𝓡 𝓡.env in
    let W' : RattleType = param 0 W in let En = ended W in
    let Ro : RattleType = Roster.the_row W' in let Cl : RattleType = Claim.the_row W' in
    let inst = layouts (a_type ∷ []) (W, tt) in let fn = inst_fn inst code.function in
    let c = clauses W 𝓛 𝓜.mem 𝓡.returns in
    let of_self = plain (λ _. Cl) in let of_roster = plain (λ _. Ro) in
    let hs : Stays En.signature.params En.kept = (stay_dropped of_self no, (stay_ref (0 ∷ []) tt of_roster, tt)) in
    proved 𝓛 En hs c 𝓜 𝓡 (Goes-dropped 𝓛 2 of_self no (λ κs x f. refl), (Goes-ref 𝓛 2 0 tt of_roster, tt))
    (#self inst) fn (code.unfolded 𝓤 H 𝓜 𝓡 wired (W, tt)) (λ κs. ((λ x. token ∷ []), (mut_vals, tt)))
    (λ κs. ((λ x vs is. token_told W' vs is.0), (mut_Tells (named 0) κs.0 Ro, tt))) (λ κs qs bounds a gh are.
    let k : Cl.Denot = a.0 in let b : ℕ = a.1.0.ref_ptr.0 in let o : ℕ = a.1.0.ref_ptr.1 in let h : Ro.Denot = a.1.0.now in
    let h' : Ro.Denot = record { marker = h.marker; id = h.id; puts = (k.number, None) ∷ h.puts } in
    let y : (walk_of 𝓛 En hs c).Ghost = ((κs, qs, bounds, a, (token ∷ [], (vptr b o ∷ [], tt))), gh) in
    let Post : Val → SProp 𝓤 = (walk_of 𝓛 En hs c).post y in
    let others : Fml = fsep (flft κs.1.0 qs.1.0) ftrue in
    let passed : Fml = owns (types_at En.signature.params κs) a y.0.4 in
    qed 𝓛 (((‵ (flft κs.0 qs.0) ⊛ ‵ others) ⊛ ‵ passed) ∷ raw (fact 𝓤 _) ∷ given (k.id ≡ h.id) (‵ ftrue) ∷ []) ∵
    keep ! (2 ∷ 0 ∷ []) $ learn ! (λ asked. drop ! $ split ! $ split ! $ move ! (2 ∷ []) $ fsplit ! $ fsplit ! $
    move ! (2 ∷ []) $ fsplit ! $ fsplit3 ! $ keep ! (1 ∷ 2 ∷ 6 ∷ 5 ∷ 7 ∷ []) $
    enter ! 𝓣.C 𝓣.Λ fn (token ∷ vptr b o ∷ []) Post $ alloc_all ! (λ l. pass_all ! refl ((tt, (tt, tt)), ((tt, tt), tt)) $
    opens ! tt Ro b o (λ us. move ! (1 ∷ []) $ fsplit ! $
    -- [the fields; the entries; the cell; three of the open borrow; the claim's part; the other tokens]
    move ! (6 ∷ []) $ rewrite ! 0 (λ (id : ℕ). ‵ (claim_owns W'.coded.code id k.number k.what)) asked refl $ move ! (2 ∷ 0 ∷ []) $
    use2 𝓛 (later (‵ (roster_owns W'.coded.code h.id h'.puts)))
    (via 𝓤 _ (entries.frees 𝓛 h.id W'.coded h.puts k.number k.what) (basic 𝓛 _)) $ await ! tt $
    move ! (1 ∷ 0 ∷ []) $ fjoin ! $ move ! (1 ∷ 0 ∷ []) $ closes ! tt Ro h' us b o $
    -- [two parts of the roster; its token; the other tokens]
    feq_i ! (List Val) (vptr b o ∷ []) (vptr b o ∷ []) refl $ fjoin3 ! $ nothing ! $ move ! (1 ∷ 0 ∷ []) $ fjoin ! $ nothing ! $ fjoin ! $
    move ! (1 ∷ 2 ∷ []) $ fjoin ! $
    sets ! (of_opd ! (unit_lit !)) refl (tt, tt) $ feq_i ! (List Val) (vunit ∷ []) (vunit ∷ []) refl $
    returns ! (look_at ! 0 refl) $ free_all ! refl $ keep ! (1 ∷ 2 ∷ 0 ∷ []) $
    by ! (ends 𝓛 En hs c y vunit tt (tt, (h', tt)) (tt, (tt, tt)) (fact_i 𝓤 _ (emp 𝓤) (refl, refl)))))))
