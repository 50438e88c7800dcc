-- `hub_in` lends the hub that an address leads to, and what is held follows it.
use mathlib.Core.Path.{◌≡◌, refl}
use Prim.Native.Nat.{ℕ}
use mathlib.Core.List.{List, [], ◌∷◌}
use seplogic.Ra.Ura.{Ura}
use base.Fraction.{full_share}
use mir.Syntax.{Body, named, seq, assign, return, place, copy, rv_opd}
use mir.Val.{Val, vptr}
use base.Logic.{SProp, ent, sep, emp, via, fst∗}
use base.Fml.{Lft, GName, Share, Fml, ftrue, fsep, flft}
use prog.Memory.{Memory}
use prog.Routine.{Routine}
use prog.Wp.{Env, Calls, Loops, WpFn, Tables}
use types.Logic.{Logic, sem}
use contract.Monad.{Fun}
use contract.Running.{tables, tables_of}
use sound.WpLaws.{WpFn-mono}
use types.Kit.{‵, raw, ◌⊛◌, some, later, at_ret, ◌$◌, ◌∵◌, !, qed, by, move, keep, drop, use1, join, split, group, pick, fsplit, fsplit3, fjoin, fpack, rewrite, suffices, frame, await, done}
use types.Part.{whole, sub, look_in}
use types.Run.{stop, fld, addr, load, of_opd, first, blocks, exec, returns, enter}
use types.ByLocal.{alloc_all, pass_all, free_all, look_at, get, through, sets, sets_last, env}
use denote.RattleType.{owns}
use denote.Exit.{no}
use denote.Memory.{part_at, part_of, mem, cell_at}
use denote.RawPtr.{block_ptr}
use denote.Ref.{MutRef, mut_vals, mut_Tells}
use denote.Signature.{plain, mut_ref_to}
use denote.Steps.{nothing, opens}
use denote.Triple.Entry.{on_entry}
use denote.Triple.Spec.{Meets, triple_of}
use denote.Triple.Table.{entered}
use denote.Triple.Walked.{says, Stays, stay_dropped, walk_of, ends_at, walked, walk_Meets, Goes-spent_ref}
use denote.Follow.{follows, Part, lends_Part}
use Rattle.rr_c.specs.Opening.{with_hub}
use Rattle.rr_c.specs.declared.held.Held.{Held}
use Rattle.rr_c.specs.declared.held.Hub.{Hub}
use Rattle.rr_c.proofs.Taken.{HeldRow, HubRow, word, may_free, opened, closed}
use Rattle.rr_c.specs.contracts.opening.hub_in as called
use Rattle.rr_c.specs.contracts.opening.hub_in.Key.{name as #self}
use Rattle.rr_c.proofs.opening.hub_in.Statement as stated
use Rattle.rr_c.proofs.opening.hub_in.Code as code

-- what runs after the address is taken
abbrev last : Body
last = seq (assign (place 0 []) (rv_opd (copy (place 2 [])))) return

abbrev stayed : Stays (called.ended).signature.params (called.ended).kept
stayed = (stay_dropped (mut_ref_to (0 ∷ []) tt (plain (λ _. HeldRow))) no, tt)

module _ {M : Type 1} {𝓤 : Ura M} (𝓛 : Logic 𝓤) (at_mem : Memory → SProp 𝓤) (run : Routine → Fun 𝓤) (κ : Lft) (q : Share) (rb ro : ℕ) (γ : GName) (x : Held) where
  open 𝓛 use {H, A}

  abbrev bound : (walk_of 𝓛 called.ended stayed (called.clauses 𝓛 at_mem run)).Ghost
  bound = (((κ, tt), (q, tt), tt, (record { ref_ptr = (rb, ro); ghost_name = γ; now = x }, tt), (vptr rb ro ∷ [], tt)), tt)

  abbrev Post : Val → SProp 𝓤
  Post = (walk_of 𝓛 called.ended stayed (called.clauses 𝓛 at_mem run)).post bound

  module _ (b o : ℕ) where
    -- all that is held but the hub
    abbrev Rest : Fml
    Rest = fsep (may_free b o) (cell_at full_share HeldRow.mir (word b o ∷ []) rb ro)

    -- a hub that was written makes it whole again
    back : x.at ≡ block_ptr b o → (w : Hub) → ent 𝓤 (sep 𝓤 (sem 𝓛 ((mem HubRow).own_at w b o)) (sem 𝓛 Rest)) (sem 𝓛 ((mem HeldRow).own_at (with_hub x w) rb ro))
    unfolding part_of
    back at w =
        qed 𝓛 (‵ (part_at HubRow full_share w b o) ∷ ‵ Rest ∷ []) ∵ move ! (1 ∷ []) $ fsplit ! $ move ! (2 ∷ 0 ∷ []) $
        closed ! (with_hub x w) b o w at refl $ move ! (1 ∷ 0 ∷ []) $ fjoin ! $
        fpack ! (List Val) (λ us. fsep (cell_at full_share HeldRow.mir us rb ro) (HeldRow.own_val (with_hub x w) us)) (word b o ∷ []) $ done !

    exits : (γ' : GName)
        → ent 𝓤 (sep 𝓤 (sem 𝓛 ((MutRef (named 0) κ HubRow).own_val (record { ref_ptr = (b, o); ghost_name = γ'; now = x.hub }) (vptr b o ∷ []))) (sep 𝓤 (A.lft κ q) (sem 𝓛 (follows HeldRow HubRow γ γ' (with_hub x))))) (Post (vptr b o))
    exits γ' =
        qed 𝓛 (‵ ((MutRef (named 0) κ HubRow).own_val (record { ref_ptr = (b, o); ghost_name = γ'; now = x.hub }) (vptr b o ∷ [])) ∷ ‵ (flft κ q) ∷ ‵ (follows HeldRow HubRow γ γ' (with_hub x)) ∷ []) ∵
        suffices ! _ (ends_at 𝓛 called.ended stayed (called.clauses 𝓛 at_mem run) bound (vptr b o) (record { ref_ptr = (b, o); ghost_name = γ'; now = x.hub }) (tt, tt) (tt, tt)) $
        nothing ! $ nothing ! $ fjoin ! $ join ! $ nothing ! $ move ! (2 ∷ 0 ∷ []) $ join ! $ join ! $ frame ! $ says ! refl $ done !

  module _ (C : Calls 𝓤 H) (Λ : Loops 𝓤 H) where
    walk : ent 𝓤 (on_entry 𝓛 called.signature (κ, tt) (q, tt) (record { ref_ptr = (rb, ro); ghost_name = γ; now = x }, tt) (vptr rb ro ∷ [], tt)) (WpFn 𝓤 H C Λ code.function (vptr rb ro ∷ []) Post)
    walk =
        qed 𝓛 ((‵ (flft κ q) ⊛ ‵ ftrue) ∷ ‵ (owns (MutRef (named 0) κ HeldRow ∷ []) (record { ref_ptr = (rb, ro); ghost_name = γ; now = x }, tt) (vptr rb ro ∷ [], tt)) ∷ []) ∵
        enter ! C Λ code.function (vptr rb ro ∷ []) _ $
        alloc_all ! (λ l. pass_all ! refl ((tt, tt), tt) $
        let En : Env 𝓤 H = env (code.function).locals l in
        move ! (1 ∷ []) $ fsplit ! $ fsplit3 ! $ drop ! $ move ! (3 ∷ []) $ split ! $ move ! (2 ∷ 3 ∷ 0 ∷ []) $
        opens ! tt HeldRow {h = x} rb ro (λ vs. move ! (1 ∷ []) $ opened ! x vs (λ b o at ws.
        move ! (1 ∷ 2 ∷ []) $ rewrite ! 1 (λ (us : List Val). ‵ (cell_at full_share HeldRow.mir us rb ro)) ws refl $
        first ! $ blocks ! $
        sets ! (of_opd ! (load ! (through ! refl (fld ! refl (stop !))) (look_in ! 1 (sub ! 0 refl (whole !))))) refl (tt, tt) $
        sets ! (of_opd ! (get ! refl)) refl (tt, tt) $
        sets_last ! (addr ! (through ! refl (stop !))) refl (tt, tt) $
        exec ! C Λ En last (at_ret En Post) $
        sets ! (of_opd ! (get ! refl)) refl (tt, tt) $
        fjoin ! $ move ! (2 ∷ 3 ∷ 4 ∷ 1 ∷ 0 ∷ []) $ group ! 5 $
        use1 𝓛 (later (some (λ (γ' : GName). raw (Part 𝓛 HeldRow HubRow (with_hub x) (named 0) κ q rb ro b o γ (sem 𝓛 (Rest b o)) (back b o at) x.hub γ'))))
        (lends_Part 𝓛 HeldRow HubRow (with_hub x) (named 0) κ q rb ro b o γ (sem 𝓛 (Rest b o)) (back b o at) (HeldRow.coded.code x) (HeldRow.coded.code x) x.hub) $ await ! tt $ pick ! (λ γ'.
        returns ! (look_at ! 0 refl) $ free_all ! refl $
        keep ! (0 ∷ []) $ by ! (exits b o γ')))))

meets : {M : Type 1} {𝓤 : Ura M} (𝓛 : Logic 𝓤) (at_mem : Memory → SProp 𝓤) (run : Routine → Fun 𝓤) (𝓣 : Tables 𝓤 𝓛.H)
    → Meets 𝓛 called.signature (WpFn 𝓤 𝓛.H 𝓣.C 𝓣.Λ code.function) (called.spec 𝓛 at_mem run)
meets {𝓤 = 𝓤} 𝓛 at_mem run 𝓣 =
    walk_Meets 𝓛 called.ended stayed (Goes-spent_ref 𝓛 1 (0 ∷ []) tt (plain (λ _. HeldRow)), tt) (called.clauses 𝓛 at_mem run) (WpFn 𝓤 𝓛.H 𝓣.C 𝓣.Λ code.function) (WpFn-mono 𝓤 𝓛.H 𝓛.laws 𝓣 code.function)
    (walked 𝓛 called.ended stayed (called.clauses 𝓛 at_mem run) (WpFn 𝓤 𝓛.H 𝓣.C 𝓣.Λ code.function) (λ κs. (mut_vals, tt)) (λ κs. (mut_Tells (named 0) κs.0 HeldRow, tt))
    (λ κs qs bounds a g are. via 𝓤 _ (fst∗ 𝓤 _ (emp 𝓤)) (walk 𝓛 at_mem run κs.0 qs.0 a.0.ref_ptr.0 a.0.ref_ptr.1 a.0.ghost_name a.0.now 𝓣.C 𝓣.Λ)))

pub hub_in_spec : {M : Type 1} → stated.statement M
unfolding tables_of
hub_in_spec 𝓤 𝓛 𝓜 𝓡 wired =
    entered 𝓤 𝓛.H (triple_of 𝓛 called.signature (called.spec 𝓛 𝓜.mem 𝓡.returns))
    (tables 𝓤 𝓛.H 𝓜 𝓡 𝓡.env).C (tables 𝓤 𝓛.H 𝓜 𝓡 𝓡.env).Λ #self code.function (code.unfolded 𝓤 𝓛.H 𝓜 𝓡 wired)
    (meets 𝓛 𝓜.mem 𝓡.returns (tables_of 𝓤 𝓛.H 𝓜 (tables 𝓤 𝓛.H 𝓜 𝓡 𝓡.env)))
