-- `start_of` tells where a slice begins that is read.
use Rattle.std.proofs.Common.{ℕ, List, [], ◌∷◌, length, refl, ◌≡◌, Bor}
use seplogic.Ra.Ura.{Ura}
use mir.Syntax.{named}
use mir.Val.{Val, vptr}
use base.Logic.{SProp, ent, emp, via, fst∗}
use base.Fml.{Lft, Share, ftrue, flft}
use prog.Memory.{Memory}
use prog.Routine.{Routine}
use prog.Wp.{Calls, Loops, WpFn, Tables}
use types.Logic.{Logic}
use contract.Monad.{Fun, fact, fact_i}
use contract.Running.{tables, tables_of}
use sound.WpLaws.{WpFn-mono}
use types.Kit.{‵, raw, ◌⊛◌, ◌$◌, ◌∵◌, !, qed, move, keep, join, fjoin, feq_i, suffices, use0, done}
use types.Part.{whole, sub}
use types.Run.{stop, fld, hop, from, addr, returns, enter}
use types.ByLocal.{alloc_all, pass_all, free_all, look_at, look_in_at, sets}
use denote.Exit.{yes}
use denote.RattleType.{owns}
use denote.Builtin.{u8}
use denote.Slice.{ShrSlice, slice_val, shr_slice_vals, shr_slice_Tells, Room}
use denote.Signature.{plain, shr_slice_of}
use denote.RawPtr.{block_ptr}
use denote.Steps.{nothing}
use denote.Triple.Entry.{on_entry}
use denote.Triple.Spec.{Meets, triple_of}
use denote.Triple.Table.{entered}
use denote.Triple.Walked.{Stays, stay_dropped, walk_of, Goes-dropped, ends_at, walked, walk_Meets}
use Rattle.rr_c.specs.contracts.opening.start_of as called
use Rattle.rr_c.specs.contracts.opening.start_of.Key.{name as #self}
use Rattle.rr_c.proofs.opening.start_of.Statement as stated
use Rattle.rr_c.proofs.opening.start_of.Code as code

abbrev stayed : Stays (called.ended).signature.params (called.ended).kept
stayed = (stay_dropped (shr_slice_of (0 ∷ []) tt (plain (λ _. u8))) yes, tt)

module _ {M : Type 1} {𝓤 : Ura M} (𝓛 : Logic 𝓤) (at_mem : Memory → SProp 𝓤) (run : Routine → Fun 𝓤) (κ : Lft) (q : Share) (b o : ℕ) (xs : List ℕ) where
  open 𝓛 use {H}

  abbrev slice : Bor (List ℕ)
  slice = record { ref_ptr = (b, o); now = xs }

  abbrev bound : (walk_of 𝓛 called.ended stayed (called.clauses 𝓛 at_mem run)).Ghost
  bound = (((κ, tt), (q, tt), tt, (slice, tt), (slice_val (b, o) (length xs) ∷ [], tt)), tt)

  abbrev Post : Val → SProp 𝓤
  Post = (walk_of 𝓛 called.ended stayed (called.clauses 𝓛 at_mem run)).post bound

  walk : (C : Calls 𝓤 H) (Λ : Loops 𝓤 H) → Room u8 (length xs)
      → ent 𝓤 (on_entry 𝓛 called.signature (κ, tt) (q, tt) (slice, tt) (slice_val (b, o) (length xs) ∷ [], tt)) (WpFn 𝓤 H C Λ code.function (slice_val (b, o) (length xs) ∷ []) Post)
  walk C Λ room =
      qed 𝓛 ((‵ (flft κ q) ⊛ ‵ ftrue) ∷ ‵ (owns (ShrSlice (named 0) κ u8 ∷ []) (slice, tt) (slice_val (b, o) (length xs) ∷ [], tt)) ∷ []) ∵
      enter ! C Λ code.function (slice_val (b, o) (length xs) ∷ []) _ $
      alloc_all ! (λ l. pass_all ! refl ((tt, (tt, (record { fits = room.0 }, tt))), tt) $
      sets ! (addr ! (from ! (fld ! refl (hop ! (look_in_at ! 1 (sub ! 0 refl (whole !))) (stop !))))) refl (tt, tt) $
      returns ! (look_at ! 0 refl) $ free_all ! refl $ keep ! (0 ∷ []) $
      suffices ! _ (ends_at 𝓛 called.ended stayed (called.clauses 𝓛 at_mem run) bound (vptr b o) (block_ptr b o) (tt, tt) (tt, tt)) $
      use0 𝓛 (raw (fact 𝓤 (block_ptr b o ≡ block_ptr b o))) (fact_i 𝓤 (block_ptr b o ≡ block_ptr b o) (emp 𝓤) refl) $
      feq_i ! (List Val) (vptr b o ∷ []) (vptr b o ∷ []) refl $ nothing ! $ nothing ! $ fjoin ! $ join ! $ move ! (2 ∷ 0 ∷ []) $ join ! $ join ! $ done !)

meets : {M : Type 1} {𝓤 : Ura M} (𝓛 : Logic 𝓤) (at_mem : Memory → SProp 𝓤) (run : Routine → Fun 𝓤) (𝓣 : Tables 𝓤 𝓛.H)
    → Meets 𝓛 called.signature (WpFn 𝓤 𝓛.H 𝓣.C 𝓣.Λ code.function) (called.spec 𝓛 at_mem run)
meets {𝓤 = 𝓤} 𝓛 at_mem run 𝓣 =
    walk_Meets 𝓛 called.ended stayed (Goes-dropped 𝓛 1 (shr_slice_of (0 ∷ []) tt (plain (λ _. u8))) yes (λ κs x g. refl), tt) (called.clauses 𝓛 at_mem run) (WpFn 𝓤 𝓛.H 𝓣.C 𝓣.Λ code.function) (WpFn-mono 𝓤 𝓛.H 𝓛.laws 𝓣 code.function)
    (walked 𝓛 called.ended stayed (called.clauses 𝓛 at_mem run) (WpFn 𝓤 𝓛.H 𝓣.C 𝓣.Λ code.function) (λ κs. (shr_slice_vals, tt)) (λ κs. (shr_slice_Tells (named 0) κs.0 u8, tt))
    (λ κs qs bounds a g are. via 𝓤 _ (fst∗ 𝓤 _ (emp 𝓤)) (walk 𝓛 at_mem run κs.0 qs.0 a.0.ref_ptr.0 a.0.ref_ptr.1 a.0.now 𝓣.C 𝓣.Λ are.0.0.1)))

pub start_of_spec : {M : Type 1} → stated.statement M
unfolding tables_of
start_of_spec 𝓤 𝓛 𝓜 𝓡 wired =
    entered 𝓤 𝓛.H (triple_of 𝓛 called.signature (called.spec 𝓛 𝓜.mem 𝓡.returns))
    (tables 𝓤 𝓛.H 𝓜 𝓡 𝓡.env).C (tables 𝓤 𝓛.H 𝓜 𝓡 𝓡.env).Λ #self code.function (code.unfolded 𝓤 𝓛.H 𝓜 𝓡 wired)
    (meets 𝓛 𝓜.mem 𝓡.returns (tables_of 𝓤 𝓛.H 𝓜 (tables 𝓤 𝓛.H 𝓜 𝓡 𝓡.env)))
