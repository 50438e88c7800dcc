-- `enter` makes the ghost state of a caller that has seen nothing.
use Rattle.std.proofs.Common.{[], ◌∷◌, ℕ, refl}
use mir.Syntax.{a_type, named}
use mir.Val.{Val, vptr}
use mir.MapTy.{inst_fn}
use base.Logic.{SProp}
use base.Fml.{ftrue, fsep, flft}
use contract.Running.{tables}
use types.Kit.{‵, raw, ◌⊛◌, some, later, ◌$◌, ◌∵◌, !, qed, by, keep, split, fjoin, pick, await, use0}
use types.Run.{enter, no_more, and_then, returns}
use types.ByLocal.{alloc_all, pass_all, free_all, look_at, get, sets}
use types.Part.{agg}
use denote.Builtin.{RefOf}
use denote.Exit.{yes}
use denote.RattleType.{RattleType, owns}
use denote.Ref.{shr_vals, shr_Tells}
use denote.Signature.{types_at, plain}
use denote.Steps.{nothing}
use denote.Param.{param, layouts}
use denote.Triple.Walked.{Stays, stay_dropped, Goes-dropped, walk_of}
use Rattle.std.proofs.raw_atomic.Walks.{proved}
use Rattle.rr_log.specs.Owned.{seen_owns}
use Rattle.rr_log.specs.contracts.name.Name as Name
use Rattle.rr_log.specs.contracts.seen.Seen as Seen
use Rattle.rr_log.specs.contracts.moves.enter.{ended, clauses}
use Rattle.rr_log.specs.contracts.moves.enter.Key.{name as #self}
use Rattle.rr_log.proofs.Tokens.{enters}
use Rattle.rr_log.proofs.Walks.{token, Token, token_made, told, ends}
use Rattle.rr_log.proofs.moves.enter.Statement.{statement}
use Rattle.rr_log.proofs.moves.enter.Code as code

pub enter_spec : {M : Type 1} → statement M
enter_spec 𝓤 𝓛 𝓜 𝓡 wired E _ =
    let H = 𝓛.H in let 𝓣 = tables 𝓤 H 𝓜 𝓡 𝓡.env in let E' : RattleType = param 0 E in let En = ended E in
    let c = clauses E 𝓛 𝓜.mem 𝓡.returns in
    let inst = layouts (a_type ∷ []) (E, tt) in let fn = inst_fn inst code.function in
    let N : RattleType = Name.the_row E' in let S : RattleType = Seen.the_row E' in
    let hs : Stays En.signature.params En.kept = (stay_dropped (RefOf (0 ∷ []) tt (plain (λ _. N)) (λ _. tt)) yes, tt) in
    proved 𝓛 En hs c 𝓜 𝓡 (Goes-dropped 𝓛 2 (RefOf (0 ∷ []) tt (plain (λ _. N)) (λ _. tt)) yes (λ κs x f. refl), tt)
    (#self inst) fn (code.unfolded 𝓤 H 𝓜 𝓡 wired (E, tt))
    (λ κs. (shr_vals, tt)) (λ κs. (shr_Tells (named 0) κs.0 N, tt)) (λ κs qs bounds a gh are.
    let at : Val = vptr a.0.ref_ptr.0 a.0.ref_ptr.1 in let η : ℕ = a.0.now.log_id in
    let y : (walk_of 𝓛 En hs c).Ghost = ((κs, qs, bounds, a, (at ∷ [], tt)), gh) in
    let Post : Val → SProp 𝓤 = (walk_of 𝓛 En hs c).post y in
    qed 𝓛 ((‵ (fsep (flft κs.0 qs.0) (fsep (flft κs.1.0 qs.1.0) ftrue))
    ⊛ ‵ (owns (types_at En.signature.params κs) a y.0.4)) ∷ raw ((c κs a).requires gh) ∷ []) ∵ split ! $ keep ! (0 ∷ []) $
    enter ! 𝓣.C 𝓣.Λ fn (at ∷ []) Post $ alloc_all ! (λ l. pass_all ! refl ((tt, tt), tt) $
    use0 𝓛 (later (some (λ (γ : ℕ). ‵ (seen_owns E'.coded η γ [])))) (enters 𝓛 E'.coded η) $ await ! tt $ pick ! (λ γ.
    sets ! (agg ! (no_more !)) refl (tt, tt) $ sets ! (agg ! (and_then ! (get ! refl) (no_more !))) refl (tt, (tt, tt)) $
    -- [its ghost state; the locals; the tokens]
    use0 𝓛 (‵ ((Token E').own_val (record {}, tt) (token ∷ []))) (token_made E' 𝓛) $ fjoin ! $ nothing ! $ nothing ! $ fjoin ! $
    returns ! (look_at ! 0 refl) $ free_all ! refl $ keep ! (2 ∷ 0 ∷ 1 ∷ []) $
    by ! (ends 𝓛 En hs c y token (record { marker = record {}; log_id = η; caller = γ; entries = [] }) (tt, tt) (tt, tt) (told 𝓤 (refl, refl))))))
