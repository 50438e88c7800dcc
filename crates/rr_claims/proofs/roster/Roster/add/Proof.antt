-- The roster gives a part of an entry of which it has all.
use Rattle.rr_claims.proofs.Walks.{ℕ, [], ◌∷◌, refl, ◌≡◌, List, Some, None, a_type, named, dcons, dnil, Val, vptr, inst_fn, SProp, emp}
use Rattle.rr_claims.proofs.Walks.{via, ftrue, fsep, flft, Fml, basic, ‵, raw, ◌⊛◌, later, ◌$◌, ◌∵◌, !, qed, by, keep, split, fjoin, use0}
use Rattle.rr_claims.proofs.Walks.{await, given, move, drop, fsplit, fsplit3, fjoin3, learn, use1, feq_i, no_more, and_then, returns}
use Rattle.rr_claims.proofs.Walks.{enter, alloc_all, pass_all, free_all, look_at, get, sets, agg, fact_i, fact, tables, RattleType, owns}
use Rattle.rr_claims.proofs.Walks.{types_at, plain, nothing, opens, closes, param, bounded, Stays, walk_of, stay_dropped, stay_ref}
use Rattle.rr_claims.proofs.Walks.{Goes-dropped, Goes-ref, proved, yes, RefOf, mut_vals, mut_Tells, shr_vals, shr_Tells, token}
use Rattle.rr_claims.proofs.Walks.{token_owns, token_made, ends}
use Rattle.rr_claims.specs.Rosters.{put_at, roster_owns, claim_owns}
use Rattle.rr_claims.specs.contracts.claim.Claim as Claim
use Rattle.rr_claims.specs.contracts.roster.Roster as Roster
use Rattle.rr_claims.proofs.Entries as entries
use Rattle.rr_claims.specs.contracts.roster.Roster.add.{ended, clauses}
use Rattle.rr_claims.specs.contracts.roster.Roster.add.Key.{name as #self}
use Rattle.rr_claims.proofs.roster.Roster.add.Statement.{statement}
use Rattle.rr_claims.proofs.roster.Roster.add.Code as code

pub add_spec : {M : Type 1} → statement M
add_spec 𝓤 𝓛 𝓜 𝓡 wired W A _ _ g d _ =
    let H = 𝓛.H in let 𝓣 = tables 𝓤 H 𝓜 𝓡 𝓡.env in
    let W' : RattleType = param 0 W in let A' : RattleType = param 1 A in let En = ended W A g d in
    let Ro : RattleType = Roster.the_row W' in let Cl : RattleType = Claim.the_row W' in
    let inst = bounded (a_type ∷ a_type ∷ []) (W, (A, tt)) (dcons d dnil) in let fn = inst_fn inst code.function in
    let c = clauses W A g d 𝓛 𝓜.mem 𝓡.returns in
    let of_self = plain (λ _. Ro) in let of_named = RefOf (1 ∷ []) tt (plain (λ _. A')) (λ _. tt) in
    let hs : Stays En.signature.params En.kept = (stay_ref (0 ∷ []) tt of_self, (stay_dropped of_named yes, tt)) in
    proved 𝓛 En hs c 𝓜 𝓡 (Goes-ref 𝓛 4 0 tt of_self, (Goes-dropped 𝓛 4 of_named yes (λ κs x f. refl), tt))
    (#self inst) fn (code.unfolded 𝓤 H 𝓜 𝓡 wired (W, (A, tt)) d) (λ κs. (mut_vals, (shr_vals, tt)))
    (λ κs. (mut_Tells (named 0) κs.0 Ro, (shr_Tells (named 1) κs.1.0 A', tt))) (λ κs qs bounds a gh are.
    let b : ℕ = a.0.ref_ptr.0 in let o : ℕ = a.0.ref_ptr.1 in let h : Ro.Denot = a.0.now in
    let at : Val = vptr a.1.0.ref_ptr.0 a.1.0.ref_ptr.1 in let n : ℕ = g.number a.1.0.now in let w = g.what in
    let h' : Ro.Denot = record { marker = h.marker; id = h.id; puts = (n, Some w) ∷ h.puts } in
    let claim : Cl.Denot = record { marker = record {}; id = h.id; number = n; what = w } in
    let y : (walk_of 𝓛 En hs c).Ghost = ((κs, qs, bounds, a, (vptr b o ∷ [], (at ∷ [], tt))), gh) in
    let Post : Val → SProp 𝓤 = (walk_of 𝓛 En hs c).post y in
    let others : Fml = fsep (flft κs.1.0 qs.1.0) (fsep (flft κs.1.1.0 qs.1.1.0) (fsep (flft κs.1.1.1.0 qs.1.1.1.0) ftrue)) in
    let passed : Fml = owns (types_at En.signature.params κs) a y.0.4 in
    qed 𝓛 (((‵ (flft κs.0 qs.0) ⊛ ‵ others) ⊛ ‵ passed) ∷ raw (fact 𝓤 _) ∷ raw (fact 𝓤 _) ∷ given (put_at h.puts n ≡ None) (‵ ftrue) ∷ []) ∵
    keep ! (3 ∷ 0 ∷ []) $ learn ! (λ asked. drop ! $ split ! $ split ! $
    move ! (2 ∷ []) $ fsplit ! $ fsplit3 ! $ keep ! (1 ∷ 2 ∷ 4 ∷ 5 ∷ []) $
    enter ! 𝓣.C 𝓣.Λ fn (vptr b o ∷ at ∷ []) Post $ alloc_all ! (λ l. pass_all ! refl ((tt, tt), ((tt, tt), tt)) $
    opens ! tt Ro b o (λ us. move ! (1 ∷ []) $ fsplit ! $ move ! (1 ∷ []) $
    use1 𝓛 (later (‵ (roster_owns W'.coded.code h.id h'.puts) ⊛ ‵ (claim_owns W'.coded.code h.id n w)))
    (via 𝓤 _ (entries.adds 𝓛 h.id W'.coded h.puts n w asked) (basic 𝓛 _)) $ await ! tt $ split ! $
    -- [the entries; the claim's part; the fields; the cell; three of the open borrow; the other tokens]
    move ! (2 ∷ 0 ∷ []) $ fjoin ! $ move ! (2 ∷ 0 ∷ 3 ∷ 4 ∷ 5 ∷ []) $ closes ! tt Ro h' us b o $
    -- [two parts of self; its token; the claim's part; the other tokens]
    feq_i ! (List Val) (vptr b o ∷ []) (vptr b o ∷ []) refl $ fjoin3 ! $ nothing ! $ nothing ! $ fjoin ! $ move ! (1 ∷ 0 ∷ []) $ fjoin ! $
    move ! (1 ∷ 3 ∷ []) $ fjoin ! $ move ! (2 ∷ []) $ use0 𝓛 (‵ (token_owns W')) (token_made W' 𝓛) $ fjoin ! $
    sets ! (agg ! (no_more !)) refl (tt, tt) $ sets ! (agg ! (and_then ! (get ! refl) (no_more !))) refl (tt, (tt, tt)) $
    returns ! (look_at ! 0 refl) $ free_all ! refl $ keep ! (1 ∷ 2 ∷ 0 ∷ []) $
    by ! (ends 𝓛 En hs c y token claim (h', (tt, tt)) (tt, (tt, tt)) (fact_i 𝓤 _ (emp 𝓤) ((refl, refl), (refl, refl, refl))))))))
