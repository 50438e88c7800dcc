-- `open` makes the ghost state of a log without entries.
use Rattle.std.proofs.Common.{List, [], ◌∷◌, ◌++◌, ℕ, refl}
use mir.Syntax.{a_type}
use mir.Val.{Val, vstruct, vcons, vnil, of_list}
use mir.MapTy.{inst_fn}
use base.Logic.{SProp}
use base.Fml.{ftrue, fsep, feq, flft}
use contract.Running.{tables}
use types.Kit.{‵, raw, ◌⊛◌, some, later, ◌$◌, ◌∵◌, !, qed, by, move, keep, split, fjoin, fjoin3, fpack, feq_i, pick, await, use0}
use types.Run.{enter, no_more, and_then, returns}
use types.ByLocal.{alloc_all, pass_all, free_all, look_at, get, sets}
use types.Part.{agg}
use denote.RattleType.{RattleType, owns, Valss}
use denote.Signature.{types_at}
use denote.Steps.{nothing}
use denote.Param.{param, layouts}
use denote.Triple.Walked.{Stays, walk_of}
use Rattle.std.proofs.raw_atomic.Walks.{proved}
use Rattle.rr_log.specs.Owned.{pen_owns}
use Rattle.rr_log.specs.contracts.name.Name as Name
use Rattle.rr_log.specs.contracts.pen.Pen as Pen
use Rattle.rr_log.specs.contracts.moves.«open».{ended, clauses}
use Rattle.rr_log.specs.contracts.moves.«open».Key.{name as #self}
use Rattle.rr_log.proofs.Tokens.{opens}
use Rattle.rr_log.proofs.Walks.{token, Token, token_made, told, ends}
use Rattle.rr_log.proofs.moves.«open».Statement.{statement}
use Rattle.rr_log.proofs.moves.«open».Code as code

pub open_spec : {M : Type 1} → statement M
open_spec 𝓤 𝓛 𝓜 𝓡 wired E _ =
    let H = 𝓛.H in let 𝓣 = tables 𝓤 H 𝓜 𝓡 𝓡.env in let E' : RattleType = param 0 E in let En = ended E in
    let c = clauses E 𝓛 𝓜.mem 𝓡.returns in
    let inst = layouts (a_type ∷ []) (E, tt) in let fn = inst_fn inst code.function in let hs : Stays En.signature.params En.kept = tt in
    let N : RattleType = Name.the_row E' in let P : RattleType = Pen.the_row E' in
    proved 𝓛 En hs c 𝓜 𝓡 tt (#self inst) fn (code.unfolded 𝓤 H 𝓜 𝓡 wired (E, tt)) (λ κs. tt) (λ κs. tt) (λ κs qs bounds a gh are.
    let y : (walk_of 𝓛 En hs c).Ghost = ((κs, qs, bounds, a, tt), gh) in
    let Post : Val → SProp 𝓤 = (walk_of 𝓛 En hs c).post y in
    let made : (Token E').Denot = (record {}, tt) in
    qed 𝓛 ((‵ (fsep (flft κs.0 qs.0) ftrue)
    ⊛ ‵ (owns (types_at En.signature.params κs) a y.0.4)) ∷ raw ((c κs a).requires gh) ∷ []) ∵ split ! $ keep ! (0 ∷ []) $
    enter ! 𝓣.C 𝓣.Λ fn [] Post $ alloc_all ! (λ l. pass_all ! refl tt $
    use0 𝓛 (later (some (λ (η : ℕ). ‵ (pen_owns E'.coded η [])))) (opens 𝓛 E'.coded) $ await ! tt $ pick ! (λ η.
    sets ! (agg ! (no_more !)) refl (tt, tt) $ sets ! (agg ! (and_then ! (get ! refl) (no_more !))) refl (tt, (tt, tt)) $
    sets ! (agg ! (no_more !)) refl (tt, tt) $ sets ! (agg ! (and_then ! (get ! refl) (no_more !))) refl (tt, (tt, tt)) $
    sets ! (agg ! (and_then ! (get ! refl) (and_then ! (get ! refl) (no_more !)))) refl (tt, ((tt, tt), ((tt, tt), tt))) $
    -- [the pen's ghost state; the locals; the tokens]
    use0 𝓛 (‵ ((Token E').own_val made (token ∷ []))) (token_made E' 𝓛) $ fjoin ! $
    nothing ! $ use0 𝓛 (‵ ((Token E').own_val made (token ∷ []))) (token_made E' 𝓛) $ fjoin ! $
    nothing ! $ move ! (1 ∷ 2 ∷ 0 ∷ []) $ fjoin3 ! $
    let v : Val = vstruct (vcons token (vcons token vnil)) in let Rs : List RattleType = N ∷ P ∷ [] in
    let n : N.Denot = record { marker = record {}; log_id = η } in
    let p : P.Denot = record { marker = record {}; log_id = η; entries = [] } in
    feq_i ! (List Val) (v ∷ []) (v ∷ []) refl $ fjoin ! $
    fpack ! (Valss Rs)
    (λ vss. fsep (feq (List Val) (v ∷ []) (vstruct (of_list (vss.0 ++ (vss.1.0 ++ []))) ∷ [])) (owns Rs (n, (p, tt)) vss)) (token ∷ [], (token ∷ [], tt)) $
    nothing ! $ returns ! (look_at ! 0 refl) $ free_all ! refl $ keep ! (2 ∷ 0 ∷ 1 ∷ []) $
    by ! (ends 𝓛 En hs c y v (n, p) tt tt (told 𝓤 refl)))))
