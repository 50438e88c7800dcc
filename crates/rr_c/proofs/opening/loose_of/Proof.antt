-- `loose_of` gives the address its type again.
use Rattle.std.proofs.Common.{◌≡◌, List, [], ◌∷◌, ◌++◌, refl, sym, subst}
use mir.Syntax.{impl, tnil, dnil}
use mir.Val.{Val, vptr}
use base.Logic.{SProp, ent, emp, id⊢}
use base.Fml.{ftrue}
use prog.Wp.{WpFn}
use types.Kit.{‵, raw, ◌⊛◌, ◌$◌, ◌∵◌, !, qed, by, move, keep, split, fsplit, fjoin, suffices, use0}
use types.Run.{stop, fld, of_opd, no_more, and_then, returns, enter}
use types.ByLocal.{alloc_all, pass_all, free_all, look_at, get, get_in, sets}
use types.Part.{agg, sub, whole}
use contract.Monad.{fact, fact_i}
use contract.Running.{tables}
use denote.Exit.{yes}
use denote.RattleType.{RattleType, owns}
use denote.RawPtr.{block_ptr}
use denote.Signature.{types_at, plain}
use denote.Steps.{nothing}
use denote.Triple.Walked.{Stays, stay_dropped, walk_of}
use Rattle.core.proofs.alloc.Calls.{Goes-blank, handle_tells}
use Rattle.std.proofs.raw_atomic.Walks.{proved_at, leaves}
use Rattle.std_heap.specs.contracts.Global as heap
use Rattle.std_heap.proofs.Global.TheLaws as heap_laws
use Rattle.std_heap.specs.contracts.GlobalAllocator.TheImpl.{ghosts}
use Rattle.rr_c.proofs.Apart.{both, both_fits, loose_closed}
use Rattle.rr_c.proofs.Taken.{HeldRow, HubRow, word, opened}
use Rattle.rr_c.specs.contracts.opening.loose_of.{ended, clauses}
use Rattle.rr_c.specs.contracts.opening.loose_of.Key.{name as #self}
use Rattle.rr_c.proofs.opening.loose_of.Statement.{statement}
use Rattle.rr_c.proofs.opening.loose_of.Code as code

pub loose_of_spec : {M : Type 1} → statement M
loose_of_spec 𝓤 𝓛 𝓜 𝓡 wired =
    let H = 𝓛.H in let 𝓣 = tables 𝓤 H 𝓜 𝓡 𝓡.env in let Z : RattleType = heap.the_row in let LZ = heap_laws.the_row_laws in
    let c = clauses 𝓛 𝓜.mem 𝓡.returns in let fn = code.function in
    let stayed : Stays (ended.signature).params ended.kept = (stay_dropped (plain (λ _. HeldRow)) yes, (stay_dropped (plain (λ _. Z)) yes, tt)) in
    proved_at 𝓛 ended stayed c 𝓜 𝓡 (Goes-blank 𝓛 0 (plain (λ _. HeldRow)) yes (λ κs x f. tt), (Goes-blank 𝓛 0 (plain (λ _. Z)) yes (λ κs x f. tt), tt)) #self fn (code.unfolded 𝓤 H 𝓜 𝓡 wired) (λ z are.
    let κs = z.0.0 in let x = z.0.3.0 in let a = z.0.3.1.0 in let Post : Val → SProp 𝓤 = (walk_of 𝓛 ended stayed c).post z in let Run : List Val → SProp 𝓤 = λ ws. WpFn 𝓤 H 𝓣.C 𝓣.Λ fn ws Post in
    qed 𝓛 ((‵ ftrue ⊛ ‵ (owns (types_at (ended.signature).params κs) z.0.3 z.0.4)) ∷ raw ((c κs z.0.3).requires z.1) ∷ []) ∵ split ! $ move ! (1 ∷ []) $ fsplit ! $ opened ! x z.0.4.0 (λ b o at words.
    -- [the hub; the right to free its block; the handle and nothing; the tokens; what was asked]
    move ! (2 ∷ []) $ fsplit ! $ handle_tells (record { row = Z; laws = LZ; g = ghosts; d = impl [] tnil dnil; drops = impl [] tnil dnil }) ! a z.0.4.1.0 (λ h handle fits.
    let made = both_fits HubRow Z LZ ghosts b o h fits in
    suffices ! (Run (word b o ∷ h ∷ [])) (subst (λ (us : List Val). ent 𝓤 (Run (word b o ∷ h ∷ [])) (Run us)) (sym (λ i. words i ++ (handle i ++ []))) (id⊢ 𝓤 (Run (word b o ∷ h ∷ [])))) $
    enter ! 𝓣.C 𝓣.Λ fn (word b o ∷ h ∷ []) Post $ alloc_all ! (λ l. pass_all ! refl ((tt, (tt, tt)), (fits, tt)) $
    sets ! (of_opd ! (get_in ! (fld ! refl (stop !)) (sub ! 0 refl (whole !)))) refl (tt, tt) $ sets ! (of_opd ! (get ! refl)) refl (tt, tt) $
    sets ! (agg ! (and_then ! (get ! refl) (and_then ! (get ! refl) (no_more !)))) refl made $
    -- [the handle; nothing; the hub; the right to free its block; the tokens; what was asked]
    move ! (2 ∷ 3 ∷ []) $ fjoin ! $ loose_closed HubRow Z LZ ghosts ! b o h a x.hub $
    use0 𝓛 (raw (fact 𝓤 (x.hub ≡ x.hub))) (fact_i 𝓤 (x.hub ≡ x.hub) (emp 𝓤) refl) $ nothing ! $ nothing ! $ fjoin ! $ nothing ! $ fjoin ! $
    returns ! (look_at ! 0 refl) $ free_all ! refl $ keep ! (4 ∷ 0 ∷ 2 ∷ 1 ∷ []) $ by ! (leaves 𝓛 ended stayed c z (both (vptr b o) h) (record { at = block_ptr b o; alloc = a; value = x.hub }) (tt, (tt, tt)) (tt, (tt, tt)))))))
