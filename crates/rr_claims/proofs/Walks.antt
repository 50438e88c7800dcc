-- What the walks share: the names that they cite, the one machine value of a token, and how a walk ends. Assumes `Logic`.
pub use Rattle.std.proofs.Common.{ℕ, [], ◌∷◌, refl, ◌≡◌, List, Some, sym, None}
pub use mir.Syntax.{a_type, named, dcons, dnil}
pub use mir.Val.{Val, vunit, vptr}
pub use mir.MapTy.{inst_fn}
pub use base.Logic.{SProp, emp, via}
pub use base.Fml.{ftrue, fsep, flft, Share, Fml, fhide, fshr_bor}
pub use types.Owned.{basic}
pub use types.Kit.{‵, raw, ◌⊛◌, some, later, ◌$◌, ◌∵◌, !, qed, by, keep, split, fjoin, pick, use0, await, given, move, drop, fsplit}
pub use types.Kit.{fsplit3, fjoin3, learn, use1, use2, rewrite, feq_i}
pub use types.Run.{no_more, and_then, returns, enter, unit_lit, of_opd}
pub use types.ByLocal.{alloc_all, pass_all, free_all, look_at, get, sets}
pub use types.Part.{agg}
pub use contract.Monad.{fact_i, fact}
pub use contract.Running.{tables}
pub use denote.RattleType.{RattleType, owns}
pub use denote.Signature.{types_at, plain}
pub use denote.Steps.{nothing, opens, closes}
pub use denote.Param.{param, layouts, bounded}
pub use denote.Triple.Walked.{Stays, walk_of, stay_dropped, stay_ref, Goes-dropped, Goes-ref}
pub use Rattle.std.proofs.raw_atomic.Walks.{proved}
pub use types.Tokens.{shr_bor-open, obor_close}
pub use denote.Exit.{yes, no}
pub use denote.Builtin.{RefOf}
pub use denote.Ref.{mut_vals, mut_Tells, shr_vals, shr_Tells}
pub use denote.Memory.{hidden_shr}
pub use denote.Opens.{unhide}
pub use denote.Struct.Lending.{lent_out}
use seplogic.Ra.Ura.{Ura}
use mir.Val.{vstruct, vcons, vnil, of_list}
use base.Logic.{ent, sep}
use types.Logic.{Logic, sem}
use denote.Laws.{Is}
use denote.Shadow.{makes_shadow}
use denote.Signature.{type_at}
use denote.Struct.Struct.{Struct}
use denote.Triple.Clauses.{Ended, Clauses, Lasts, at_exit}
use denote.Triple.Entry.{Res, alive}
use denote.Triple.Walked.{Fit, has_of}
use Rattle.std.specs.contracts.marker.PhantomData as marker
use Rattle.std.proofs.raw_atomic.Walks.{leaves}
use Rattle.std.proofs.Common.{◌++◌, ap, ◌∙◌}

-- a struct of a marker
abbrev pub token : Val
token = vstruct (vcons (vstruct vnil) vnil)

module _ (X : RattleType) where
  abbrev pub Token : RattleType
  Token = Struct record { name = []; args = []; types = []; fields = marker.the_row X ∷ [] }

  pub token_told : (vs : List Val) → Is Token (record {}, tt) vs → vs ≡ token ∷ []
  token_told vs is = is.1.0 ∙ ap (λ (ws : List Val). vstruct (of_list (ws ++ [])) ∷ []) is.1.1.0.1.0

  abbrev pub token_owns : Fml
  token_owns = Token.own_val (record {}, tt) (token ∷ [])

  pub token_made : {M : Type 1} {𝓤 : Ura M} (𝓛 : Logic 𝓤) → ent 𝓤 (emp 𝓤) (sem 𝓛 token_owns)
  token_made 𝓛 =
      makes_shadow 𝓛 token_owns (λ vss. (tt, ((λ uss. (tt, tt)), tt))) ((vstruct vnil ∷ [], tt), (refl, ((tt, (refl, tt)), tt)))

module _ {M : Type 1} {𝓤 : Ura M} (𝓛 : Logic 𝓤) (T : Ended) (hs : Stays T.signature.params T.kept) (c : Clauses 𝓤 T) where
  module _ (y : (walk_of 𝓛 T hs c).Ghost) (v : Val) (r : Res T.signature y.0.0) (ws : Lasts T y.0.0 y.0.3) where
    abbrev living : SProp 𝓤
    living = alive 𝓛 T.signature y.0.0 y.0.1

    abbrev has : Fml
    has = has_of y.0.0 T.signature.params T.kept hs y.0.3 ws y.0.4

    abbrev gives : Fml
    gives = (type_at T.signature.result y.0.0).own_val r (v ∷ [])

    abbrev ensured : SProp 𝓤
    ensured = (c y.0.0 y.0.3).ensures y.1 r (at_exit T y.0.0 y.0.3 ws)

    -- the tokens, what is left of the parameters, and the result, where the `ensures` says facts alone
    pub ends : Fit T hs y.0.0 y.0.3 ws → ent 𝓤 (emp 𝓤) ensured
        → ent 𝓤 (sep 𝓤 living (sep 𝓤 (sem 𝓛 has) (sem 𝓛 gives))) ((walk_of 𝓛 T hs c).post y v)
    ends fit told = qed 𝓛 (raw living ∷ ‵ has ∷ ‵ gives ∷ []) ∵
        use0 𝓛 (raw ensured) told $ move ! (1 ∷ 2 ∷ 3 ∷ []) $ by ! (leaves 𝓛 T hs c y v r ws fit)
