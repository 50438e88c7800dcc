-- What a C program holds, taken apart: the hub in memory, and the right to free its block. Assumes `Logic`.
use mathlib.Core.Path.{◌≡◌, refl, sym, ap, subst}
use Prim.Native.Nat.{ℕ}
use mathlib.Core.List.{List, [], ◌∷◌, ◌++◌}
use seplogic.Ra.Ura.{Ura}
use base.Fraction.{full_share}
use mir.Val.{Val, vptr, vstruct, vcons, vnil, of_list}
use mir.Raw.{raw}
use base.Logic.{never, fst∗}
use base.Fml.{Fml}
use types.Logic.{Logic, sem}
use types.Kit.{Goal, Seq, Step, Item, step, ‵, ◌$◌, drop, fsplit, fjoin, fpick, fpack, feq_l, feq_i, rewrite}
use denote.RattleType.{RattleType, Valss}
use denote.Memory.{part_at, lone}
use denote.RawPtr.{Ptr, RawPtr, block_ptr, null_ptr, ptr_val, in_a_block}
use denote.Steps.{nothing}
use denote.Struct.Struct.{within}
use denote.Struct.Owning.{shape}
use Rattle.std_alloc.specs.Box.Ownership.{box_owns}
use Rattle.rr_c.specs.Heap.{frees}
use Rattle.rr_c.specs.declared.held.Held.{Held}
use Rattle.rr_c.specs.declared.held.Hub.{Hub}
use Rattle.rr_c.specs.contracts.held.Held as held
use Rattle.rr_c.specs.contracts.held.Hub as hub

-- the two types
abbrev pub HeldRow : RattleType
HeldRow = held.the_row

abbrev pub HubRow : RattleType
HubRow = hub.the_row

-- the machine value of what is held: an address
abbrev pub word : ℕ → ℕ → Val
word block offset = vstruct (vcons (vptr block offset) vnil)

-- the right to free the block of a hub
abbrev pub may_free : ℕ → ℕ → Fml
may_free block offset = frees (raw (lone HubRow.mir)) (block_ptr block offset)

module _ {M : Type 1} {𝓤 : Ura M} {𝓛 : Logic 𝓤} {K : Type 0} {Γ : List (Item 𝓤)} {G : Goal 𝓤 𝓛.H} where
  -- what is held is an address, the hub there, and the right to free its block
  pub opened : K → (x : Held) (vs : List Val)
      → ((b o : ℕ) → x.at ≡ block_ptr b o → vs ≡ word b o ∷ [] → Seq K 𝓛 (‵ (part_at HubRow full_share x.hub b o) ∷ ‵ (may_free b o) ∷ Γ) G)
      → Seq K 𝓛 (‵ (HeldRow.own_val x vs) ∷ Γ) G
  opened t x vs goes =
      fsplit t $ fpick t (λ vss. fsplit t $ feq_l t (λ whole. fsplit t $ feq_l t (λ field. drop t $
      in_a_block t x.at (λ p. box_owns frees HubRow p x.hub) (fst∗ 𝓤 (never 𝓤) (sem 𝓛 (frees (raw (lone HubRow.mir)) null_ptr))) (λ b o at. fsplit t $ goes b o at
      (subst (λ (p : Ptr). vs ≡ vstruct (of_list (ptr_val p ∷ [])) ∷ []) at (subst (λ (ps : List Val). vs ≡ vstruct (of_list (ps ++ [])) ∷ []) field whole))))))

  -- and put together from these
  pub closed : K → (x : Held) (b o : ℕ) (there : Hub) → x.at ≡ block_ptr b o → x.hub ≡ there
      → Step K 𝓛 (‵ (HeldRow.own_val x (word b o ∷ [])) ∷ Γ) G (‵ (part_at HubRow full_share there b o) ∷ ‵ (may_free b o) ∷ Γ) G
  closed t x b o there at same = step (λ s.
      fjoin t $ rewrite t 0 (λ (y : Hub). ‵ (box_owns frees HubRow (block_ptr b o) y)) (sym same) refl $ rewrite t 0 (λ (p : Ptr). ‵ (box_owns frees HubRow p x.hub)) (sym at) refl $
      nothing t $ feq_i t (List Val) (vptr b o ∷ []) (ptr_val x.at ∷ []) (ap (λ (p : Ptr). ptr_val p ∷ []) (sym at)) $ fjoin t $
      feq_i t (List Val) (word b o ∷ []) (word b o ∷ []) refl $ fjoin t $
      fpack t (Valss (RawPtr ∷ [])) (within (shape held.the_type) (x.at, tt) (word b o ∷ [])) (vptr b o ∷ [], tt) $ fjoin t $ s)
