-- Two lent tokens are opened at once, what they own moves on, and they are closed again. Assumes `Logic`.
use Rattle.std.proofs.Common.{◌≡◌, [], ◌∷◌, refl, MutBor}
use seplogic.Ra.Ura.{Ura}
use base.Logic.{SProp, ent, sep, guard}
use base.Fml.{Lft, Share, Fml, fsep, fobs, fbor, flft}
use types.Logic.{Logic, sem}
use types.SemTy.{Body}
use types.Kit.{‵, ◌⊛◌, given, later, ◌$◌, ◌∵◌, !, qed, move, split, fsplit, fsplit3, fjoin, fjoin3, learn, rewrite, check, updating, await, now, done, use2}
use denote.RattleType.{RattleType, Denots}
use denote.Memory.{mem}
use denote.Steps.{opens, closes}
use denote.Struct.Owning.{Owning, fields, row, shape, to}
use denote.Struct.Struct.{Struct}

-- a `&mut` at a value, and the token of its lifetime
abbrev pub lent : (R : RattleType) → MutBor R.Denot → Lft → Share → R.Denot → Fml
lent R r κ q d = fsep (fobs r.ghost_name (R.coded.code d)) (fsep (fbor κ (Body (mem R) r.ref_ptr.0 r.ref_ptr.1 r.ghost_name)) (flft κ q))

module _ {M : Type 1} {𝓤 : Ura M} (𝓛 : Logic 𝓤) (T U : Owning) where
  abbrev ⟦◌⟧ : Fml → SProp 𝓤
  ⟦ P ⟧ = sem 𝓛 P

  abbrev ◌∗◌ : SProp 𝓤 → SProp 𝓤 → SProp 𝓤
  P ∗ Q = sep 𝓤 P Q

  infixr 35 ◌∗◌
  -- the values change in what only proofs see
  pub both_move : (r : MutBor T.D) (κ : Lft) (p : Share) (s : MutBor U.D) (ν : Lft) (q : Share) (d : T.D) (e : U.D)
      → to T r.now ≡ to T d → to U s.now ≡ to U e → (φ : Type 0)
      → ent 𝓤 (⟦ T.heap r.now ⟧ ∗ ⟦ U.heap s.now ⟧) (𝓛.H.⇛ (guard 𝓤 φ (⟦ T.heap d ⟧ ∗ ⟦ U.heap e ⟧)))
      → ent 𝓤 (⟦ lent (row T) r κ p r.now ⟧ ∗ ⟦ lent (row U) s ν q s.now ⟧)
      (𝓛.H.⇛ (guard 𝓤 φ (⟦ lent (row T) r κ p d ⟧ ∗ ⟦ lent (row U) s ν q e ⟧)))
  both_move r κ p s ν q d e same also φ moves =
      let b = r.ref_ptr.0 in let o = r.ref_ptr.1 in let c = s.ref_ptr.0 in let i = s.ref_ptr.1 in
      qed 𝓛 (‵ (lent (row T) r κ p r.now) ∷ ‵ (lent (row U) s ν q s.now) ∷ []) ∵ updating ! $ fsplit3 ! $
      opens ! tt (row T) b o (λ vs. move ! (5 ∷ []) $ fsplit3 ! $
      opens ! tt (row U) c i (λ us. move ! (1 ∷ []) $ fsplit ! $ move ! (7 ∷ []) $ fsplit ! $
      -- [the fields of the first; what it owns; the fields of the second; what it owns; ..]
      move ! (1 ∷ 3 ∷ []) $ use2 𝓛 (later (given φ (‵ (T.heap d) ⊛ ‵ (U.heap e)))) moves $ await ! tt $ learn ! (λ x. split ! $
      rewrite ! 2 (λ (fs : Denots (fields T)). ‵ ((Struct (shape T)).own_val fs vs)) same refl $
      rewrite ! 3 (λ (fs : Denots (fields U)). ‵ ((Struct (shape U)).own_val fs us)) also refl $
      move ! (2 ∷ 0 ∷ []) $ fjoin ! $ move ! (2 ∷ 1 ∷ []) $ fjoin ! $
      move ! (2 ∷ 0 ∷ 3 ∷ 4 ∷ 5 ∷ []) $ closes ! tt (row U) e us c i $
      move ! (4 ∷ 3 ∷ 5 ∷ 6 ∷ 7 ∷ []) $ closes ! tt (row T) d vs b o $
      fjoin3 ! $ move ! (1 ∷ 2 ∷ 3 ∷ []) $ fjoin3 ! $ move ! (1 ∷ 0 ∷ []) $ now ! $ check ! x $ done !)))
