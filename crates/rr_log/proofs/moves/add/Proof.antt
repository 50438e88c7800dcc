-- `add` opens both tokens, and adds the entry to what they know.
use Rattle.std.proofs.Common.{List, [], ◌∷◌, ◌++◌, ℕ, refl}
use Rattle.std.specs.Prelude.{⊤}
use mir.Syntax.{a_type, named}
use mir.Val.{Val, vunit, vptr}
use mir.MapTy.{inst_fn}
use base.Logic.{SProp}
use base.Fml.{ftrue, flft}
use contract.Monad.{fact}
use contract.Running.{tables}
use types.Kit.{‵, raw, ◌⊛◌, given, later, ◌$◌, ◌∵◌, !, qed, by, move, keep, drop, split, join, fsplit, fsplit3, fjoin, fjoin3, learn, await, feq_i, use2}
use types.Run.{enter, of_opd, unit_lit, returns}
use types.ByLocal.{alloc_all, pass_all, free_all, look_at, sets}
use denote.Builtin.{RefOf}
use denote.Exit.{yes}
use denote.RattleType.{RattleType, owns}
use denote.Ref.{mut_vals, mut_Tells, shr_vals, shr_Tells}
use denote.Signature.{types_at, plain}
use denote.Steps.{nothing}
use denote.Param.{param, layouts}
use denote.Triple.Walked.{Stays, stay_dropped, stay_ref, Goes-dropped, Goes-ref, walk_of}
use Rattle.std.proofs.raw_atomic.Walks.{proved}
use Rattle.rr_log.specs.contracts.pen.Pen as Pen
use Rattle.rr_log.specs.contracts.seen.Seen as Seen
use Rattle.rr_log.specs.contracts.moves.add.{ended, clauses}
use Rattle.rr_log.specs.contracts.moves.add.Key.{name as #self}
use Rattle.rr_log.proofs.Tokens.{adds}
use Rattle.rr_log.proofs.Lent.{lent, both_move}
use Rattle.rr_log.proofs.Walks.{told, and_told, ends}
use Rattle.rr_log.proofs.moves.add.Statement.{statement}
use Rattle.rr_log.proofs.moves.add.Code as code

pub add_spec : {M : Type 1} → statement M
add_spec 𝓤 𝓛 𝓜 𝓡 wired E _ =
    let H = 𝓛.H in let 𝓣 = tables 𝓤 H 𝓜 𝓡 𝓡.env in let E' : RattleType = param 0 E in let En = ended E in
    let c = clauses E 𝓛 𝓜.mem 𝓡.returns in
    let inst = layouts (a_type ∷ []) (E, tt) in let fn = inst_fn inst code.function in
    let P : RattleType = Pen.the_row E' in let S : RattleType = Seen.the_row E' in
    let X = RefOf (2 ∷ []) tt (plain (λ _. E')) (λ _. tt) in let p = plain (λ _. P) in let q = plain (λ _. S) in
    let hs : Stays En.signature.params En.kept = (stay_ref (0 ∷ []) tt p, (stay_ref (1 ∷ []) tt q, (stay_dropped X yes, tt))) in
    proved 𝓛 En hs c 𝓜 𝓡 (Goes-ref 𝓛 4 0 tt p, (Goes-ref 𝓛 4 1 tt q, (Goes-dropped 𝓛 4 X yes (λ κs x f. refl), tt)))
    (#self inst) fn (code.unfolded 𝓤 H 𝓜 𝓡 wired (E, tt))
    (λ κs. (mut_vals, (mut_vals, (shr_vals, tt))))
    (λ κs. (mut_Tells (named 0) κs.0 P, (mut_Tells (named 1) κs.1.0 S, (shr_Tells (named 2) κs.1.1.0 E', tt))))
    (λ κs qs bounds a gh are.
    let r = a.0 in let s = a.1.0 in let e : E.Denot = a.1.1.0.now in let pen : P.Denot = r.now in let seen : S.Denot = s.now in
    let u : Val = vptr r.ref_ptr.0 r.ref_ptr.1 in let v : Val = vptr s.ref_ptr.0 s.ref_ptr.1 in
    let w : Val = vptr a.1.1.0.ref_ptr.0 a.1.1.0.ref_ptr.1 in
    let y : (walk_of 𝓛 En hs c).Ghost = ((κs, qs, bounds, a, (u ∷ [], (v ∷ [], (w ∷ [], tt)))), gh) in
    let Post : Val → SProp 𝓤 = (walk_of 𝓛 En hs c).post y in
    let all : List (ℕ × E.Denot) = pen.entries ++ (seen.caller, e) ∷ [] in
    let pen' : P.Denot = record { marker = record {}; log_id = pen.log_id; entries = all } in
    let seen' : S.Denot = record { marker = record {}; log_id = pen.log_id; caller = seen.caller; entries = all } in
    qed 𝓛 (((‵ (flft κs.0 qs.0) ⊛ ‵ (flft κs.1.0 qs.1.0) ⊛ ‵ (flft κs.1.1.0 qs.1.1.0) ⊛ ‵ (flft κs.1.1.1.0 qs.1.1.1.0) ⊛ ‵ ftrue)
    ⊛ ‵ (owns (types_at En.signature.params κs) a y.0.4)) ∷ raw (fact 𝓤 _) ∷ given _ (‵ ftrue) ∷ given _ (‵ ftrue) ∷ []) ∵
    move ! (2 ∷ []) $ learn ! (λ same. drop ! $ move ! (2 ∷ []) $ learn ! (λ shown. drop ! $ split ! $ split ! $ move ! (1 ∷ []) $ split ! $
    move ! (3 ∷ []) $ fsplit ! $ fsplit3 ! $ drop ! $ move ! (2 ∷ []) $ fsplit ! $ fsplit3 ! $ drop ! $
    keep ! (3 ∷ 4 ∷ 7 ∷ 0 ∷ 1 ∷ 5 ∷ 6 ∷ []) $ fjoin3 ! $ move ! (1 ∷ 2 ∷ 3 ∷ []) $ fjoin3 ! $ move ! (1 ∷ 0 ∷ []) $
    enter ! 𝓣.C 𝓣.Λ fn (u ∷ v ∷ w ∷ []) Post $ alloc_all ! (λ l. pass_all ! refl ((tt, tt), ((tt, tt), ((tt, tt), tt))) $
    use2 𝓛 (later (given ⊤ (‵ (lent P r κs.0 qs.0 pen') ⊛ ‵ (lent S s κs.1.0 qs.1.0 seen'))))
    (both_move 𝓛 (Pen.the_type E') (Seen.the_type E') r κs.0 qs.0 s κs.1.0 qs.1.0 pen' seen' refl refl ⊤
    (adds 𝓛 E'.coded pen.log_id seen.log_id seen.caller e seen.entries pen.entries same shown)) $
    await ! tt $ learn ! (λ _. split ! $
    sets ! (of_opd ! (unit_lit !)) refl (tt, tt) $ returns ! (look_at ! 0 refl) $ free_all ! refl $
    fsplit3 ! $ feq_i ! (List Val) (u ∷ []) (u ∷ []) refl $ fjoin3 ! $ move ! (2 ∷ []) $ fsplit3 ! $
    feq_i ! (List Val) (v ∷ []) (v ∷ []) refl $ fjoin3 ! $
    nothing ! $ nothing ! $ fjoin ! $ move ! (1 ∷ 0 ∷ []) $ fjoin ! $ move ! (2 ∷ 0 ∷ []) $ fjoin ! $
    feq_i ! (List Val) (vunit ∷ []) (vunit ∷ []) refl $
    move ! (2 ∷ 4 ∷ []) $ join ! $ move ! (3 ∷ 0 ∷ []) $ join ! $ move ! (0 ∷ 2 ∷ 1 ∷ []) $
    by ! (ends 𝓛 En hs c y vunit tt (pen', (seen', (tt, tt))) (tt, (tt, (tt, tt))) (and_told 𝓤 refl (told 𝓤 refl))))))))
