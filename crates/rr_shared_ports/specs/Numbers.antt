-- The numbers whose kinds calls of ports keep.
use Rattle.std.proofs.Common.{◌≡◌, ℕ, [], ◌∷◌, ap, ◌∙◌, sym, ⊎_elim}
use Rattle.std.proofs.lemmas.Bool.{cases_eq}
use Rattle.rr_protocol.specs.declared.kind.Kind.{Kind}
use Rattle.rr_protocol.specs.State.{State}
use Rattle.rr_protocol.specs.Queries.{kind_at}
use Rattle.rr_ports.specs.Facts.{Has, IsA, IsFree, IsThere, Keeps, Names}

module _ {Q QH P PH K : Type 0} where
  -- steps that keep all facts about numbers keep their kinds
  pub stay_all : (old new : State Q QH P PH K) → Keeps [] old new → (n : ℕ) (kind : Kind) → Names old n kind
      → Names new n kind
  unfolding Keeps
  stay_all old new keeps n kind names = keeps n (IsA kind) tt names

  -- but for one of them
  pub stay_but : (m : ℕ) (old new : State Q QH P PH K) → Keeps (m ∷ []) old new
      → (n : ℕ) (kind : Kind) → (n ≡ m → ⊥) → Names old n kind → Names new n kind
  unfolding Keeps
  stay_but m old new keeps n kind other names = keeps n (IsA kind) (other, tt) names

  -- a free number names nothing
  pub names_nothing : (state : State Q QH P PH K) (n : ℕ) → IsFree [] state n → (kind : Kind) → Names state n kind → ⊥
  unfolding IsFree IsThere
  names_nothing state n free kind names = free tt (IsA kind, names)

  -- except for one of them, whose kind is unchanged
  pub stay_renewed : (m : ℕ) (kind : Kind) (old new : State Q QH P PH K) → Keeps (m ∷ []) old new → Names old m kind
      → Names new m kind
      → (n : ℕ) (other : Kind) → Names old n other → Names new n other
  unfolding Has
  stay_renewed m kind old new keeps named names n other is =
      ⊎_elim (λ same. ap (kind_at new) same ∙ names ∙ sym named ∙ ap (kind_at old) (sym same) ∙ is)
      (λ differ. stay_but m old new keeps n other differ is) (cases_eq n m)
