-- A share of the claim's part of an entry is held beside the roster's.
use Rattle.rr_claims.proofs.Walks.{ℕ, [], ◌∷◌, refl, ◌≡◌, List, Some, sym, a_type, named, Val, vunit, vptr, inst_fn, SProp, emp, ftrue}
use Rattle.rr_claims.proofs.Walks.{fsep, flft, Share, Fml, fhide, fshr_bor, ‵, raw, ◌⊛◌, ◌$◌, ◌∵◌, !, qed, by, keep, split, fjoin, given}
use Rattle.rr_claims.proofs.Walks.{move, drop, fsplit, fsplit3, fjoin3, learn, use1, use2, rewrite, feq_i, returns, enter, unit_lit}
use Rattle.rr_claims.proofs.Walks.{of_opd, alloc_all, pass_all, free_all, look_at, sets, fact_i, fact, tables, RattleType, owns, types_at}
use Rattle.rr_claims.proofs.Walks.{plain, nothing, opens, closes, param, layouts, Stays, walk_of, stay_dropped, stay_ref, Goes-dropped}
use Rattle.rr_claims.proofs.Walks.{Goes-ref, proved, shr_bor-open, obor_close, yes, RefOf, mut_vals, mut_Tells, shr_vals, shr_Tells}
use Rattle.rr_claims.proofs.Walks.{hidden_shr, unhide, lent_out, Token, ends}
use Rattle.std.specs.contracts.marker.PhantomData as marker
use Rattle.rr_claims.specs.Rosters.{put_at, roster_owns, claim_part}
use Rattle.rr_claims.specs.contracts.claim.Claim as Claim
use Rattle.rr_claims.specs.contracts.roster.Roster as Roster
use Rattle.rr_claims.proofs.Entries as entries
use Rattle.rr_claims.specs.contracts.roster.Roster.read.{ended, clauses}
use Rattle.rr_claims.specs.contracts.roster.Roster.read.Key.{name as #self}
use Rattle.rr_claims.proofs.roster.Roster.read.Statement.{statement}
use Rattle.rr_claims.proofs.roster.Roster.read.Code as code

pub read_spec : {M : Type 1} → statement M
read_spec 𝓤 𝓛 𝓜 𝓡 wired W _ =
    let H = 𝓛.H in let 𝓣 = tables 𝓤 H 𝓜 𝓡 𝓡.env in
    let W' : RattleType = param 0 W in let En = ended W in
    let Ro : RattleType = Roster.the_row W' in let Cl : RattleType = Claim.the_row W' in
    let inst = layouts (a_type ∷ []) (W, tt) in let fn = inst_fn inst code.function in
    let c = clauses W 𝓛 𝓜.mem 𝓡.returns in
    let of_self = plain (λ _. Ro) in let of_claim = RefOf (1 ∷ []) tt (plain (λ _. Cl)) (λ _. tt) in
    let hs : Stays En.signature.params En.kept = (stay_ref (0 ∷ []) tt of_self, (stay_dropped of_claim yes, tt)) in
    proved 𝓛 En hs c 𝓜 𝓡 (Goes-ref 𝓛 3 0 tt of_self, (Goes-dropped 𝓛 3 of_claim yes (λ κs x f. refl), tt))
    (#self inst) fn (code.unfolded 𝓤 H 𝓜 𝓡 wired (W, tt)) (λ κs. (mut_vals, (shr_vals, tt)))
    (λ κs. (mut_Tells (named 0) κs.0 Ro, (shr_Tells (named 1) κs.1.0 Cl, tt))) (λ κs qs bounds a gh are.
    let b : ℕ = a.0.ref_ptr.0 in let o : ℕ = a.0.ref_ptr.1 in let h : Ro.Denot = a.0.now in
    let d : ℕ = a.1.0.ref_ptr.0 in let p : ℕ = a.1.0.ref_ptr.1 in let k : Cl.Denot = a.1.0.now in
    let codes = Claim.the_codes W.Denot W'.coded (marker.the_row W').coded in
    let part : ℕ → Share → Fml = λ id. claim_part W'.coded.code id k.number k.what in
    let y : (walk_of 𝓛 En hs c).Ghost = ((κs, qs, bounds, a, (vptr b o ∷ [], (vptr d p ∷ [], tt))), gh) in
    let Post : Val → SProp 𝓤 = (walk_of 𝓛 En hs c).post y in
    let others : Fml = fsep (flft κs.1.1.0 qs.1.1.0) ftrue in
    let passed : Fml = owns (types_at En.signature.params κs) a y.0.4 in
    qed 𝓛 (((‵ (flft κs.0 qs.0) ⊛ ‵ (flft κs.1.0 qs.1.0) ⊛ ‵ others) ⊛ ‵ passed) ∷ raw (fact 𝓤 _) ∷ given (k.id ≡ h.id) (‵ ftrue) ∷ []) ∵
    keep ! (2 ∷ 0 ∷ []) $ learn ! (λ asked. drop ! $ split ! $ split ! $ move ! (1 ∷ []) $ split ! $ move ! (3 ∷ []) $
    fsplit ! $ fsplit3 ! $ move ! (3 ∷ []) $ fsplit ! $ fsplit ! $ keep ! (1 ∷ 4 ∷ 5 ∷ 8 ∷ 6 ∷ 7 ∷ []) $
    enter ! 𝓣.C 𝓣.Λ fn (vptr b o ∷ vptr d p ∷ []) Post $ alloc_all ! (λ l. pass_all ! refl ((tt, tt), ((tt, tt), tt)) $
    use1 𝓛 (‵ (hidden_shr (Token W') κs.1.0 (record {}, tt) d p) ⊛ ‵ (fhide (fshr_bor κs.1.0 (part k.id))))
    (lent_out 𝓛 (Claim.struct W') codes (Claim.the_heap W') (Claim.the_lent W') κs.1.0 k d p) $
    split ! $ drop ! $ unhide ! $
    move ! (0 ∷ 4 ∷ []) $ shr_bor-open ! tt (entries.halves 𝓛 k.id W'.coded k.number k.what) (λ q.
    -- [the open share; its part of the entry; two parts of self; its token; the other tokens]
    move ! (2 ∷ 3 ∷ 4 ∷ []) $ opens ! tt Ro b o (λ us. move ! (1 ∷ []) $ fsplit ! $
    -- [the fields; the roster's entries; the cell; three of the open borrow; the open share; its part; the other tokens]
    move ! (7 ∷ []) $ rewrite ! 0 (λ (id : ℕ). ‵ (part id q)) asked refl $ move ! (2 ∷ 0 ∷ []) $
    use2 𝓛 (given (put_at h.puts k.number ≡ Some k.what) (‵ (roster_owns W'.coded.code h.id h.puts) ⊛ ‵ (part h.id q)))
    (entries.reads 𝓛 h.id W'.coded h.puts k.number k.what q) $ learn ! (λ has. split ! $
    rewrite ! 1 (λ (id : ℕ). ‵ (part id q)) (sym asked) refl $
    move ! (2 ∷ 0 ∷ []) $ fjoin ! $ move ! (2 ∷ 0 ∷ 3 ∷ 4 ∷ 5 ∷ []) $ closes ! tt Ro h us b o $
    move ! (4 ∷ 3 ∷ []) $ obor_close ! tt $ drop ! $
    -- [the claim's token; two parts of self; its token; the other tokens]
    sets ! (of_opd ! (unit_lit !)) refl (tt, tt) $
    move ! (0 ∷ 4 ∷ []) $ fjoin ! $ move ! (3 ∷ 0 ∷ []) $ fjoin ! $ move ! (1 ∷ 2 ∷ []) $
    feq_i ! (List Val) (vptr b o ∷ []) (vptr b o ∷ []) refl $ fjoin3 ! $ nothing ! $ nothing ! $ fjoin ! $ move ! (1 ∷ 0 ∷ []) $ fjoin ! $
    feq_i ! (List Val) (vunit ∷ []) (vunit ∷ []) refl $
    returns ! (look_at ! 0 refl) $ free_all ! refl $ keep ! (2 ∷ 1 ∷ 0 ∷ []) $
    by ! (ends 𝓛 En hs c y vunit tt (h, (tt, tt)) (tt, (tt, tt)) (fact_i 𝓤 _ (emp 𝓤) (refl, has)))))))))
