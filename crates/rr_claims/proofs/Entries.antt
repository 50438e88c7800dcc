-- The entries of a roster and its claims: made, read, claimed and given back. Assumes `Logic`.
use Rattle.std.proofs.Common.{◌≡◌, ℕ, ◌==◌, Bool, true, false, true≢false, if◌then◌else◌, List, [], ◌∷◌, Option, Some, None}
use Rattle.std.proofs.Common.{refl, sym, ap, ◌∙◌, subst, eqb-true, eq-eqb}
use mathlib.Core.Option.{Option as Maybe, none, some}
use mathlib.Mathlib.Data.Part.{Part, ◌∈◌}
use seplogic.Ra.Pcs.{OpDef}
use seplogic.Ra.Ura.{Ura}
use seplogic.Ra.Constructions.Prod
use seplogic.Ra.Constructions.Opt
use seplogic.Ra.Instances.Ag
use seplogic.Ra.IProd.{mem-op_iff}
use base.Fraction.{full_share}
use base.FractionLaws.{not-OpDef-full_share}
use base.Share
use base.Share.{quarter, three_quarters}
use base.Stored.{Gv, gnil, Coded}
use base.SetCodes.{coded, SetCoded-set}
use base.Algebras.{maybe}
use base.Logic.{SProp, ent, sep, ex, guard, emp, upd, via, guard_i, guard_e, upd_mono}
use base.Fml.{Lft, Share, fbor, fown}
use ghost.Rules.{Halves}
use types.Logic.{Logic, sem, lfts}
use types.Keyed.{keyed}
use types.Kit.{‵, raw, ◌$◌, ◌∵◌, !, qed, updating, now, done}
use types.Owned.{own_new, own_sum, own_join, own_step}
use types.Tokens.{bor_fracture}
use denote.Sharing.{one}
use denote.Struct.Lending.{Lends}
use Rattle.rr_claims.specs.Rosters.{itself, shared_entry, put_at, kept, roster_row, roster_owns, claim_row, claim_part, claim_owns}

abbrev Entry : Type 0
Entry = Share × Gv

abbrev Row : Type 0
Row = ℕ → Maybe Entry

abbrev cell : Maybe Entry → Maybe Entry → Part {0, 0} (Maybe Entry)
cell = (maybe shared_entry).op

-- an entry is cut into two, or made of them
abbrev Cut : Maybe Entry → Maybe Entry → Maybe Entry → Type 0
Cut h f g = ◌∈◌ {α = Maybe Entry} h (cell f g)

-- the one may stand beside whatever the other may stand beside
abbrev Fits : Maybe Entry → Maybe Entry → Type 0
Fits f h = (x : Maybe Entry) → OpDef cell f x → OpDef cell h x

-- two shares of an entry are their sum
summed : (q r s : Share) (v : Gv) → s ∈ Share.op q r → Cut (some (s, v)) (some (q, v)) (some (r, v))
summed q r s v m =
    let values = SetCoded-set (coded itself) in
    let both : ◌∈◌ {α = Entry} (s, v) (shared_entry.op (q, v) (r, v)) =
    Prod.mk-mem-op Share.op (Ag.op values) {a = q} {a' = r} {x = s} {b = v} {b' = v} {y = v} m (Ag.idem values v) in
    (Opt.some-mem-op-some_iff shared_entry.op {a = (q, v)} {b = (r, v)} {c = (s, v)}).1 both

-- an entry, and nothing
alone : (a : Entry) → Cut (some a) (some a) none
alone a = Opt.mem-op-none shared_entry.op (some a)

-- who has all of an entry changes it
changes : (u v : Gv) → Fits (some (full_share, u)) (some (full_share, v))
changes u v none d = tt
changes u v (some c) d = absurd (not-OpDef-full_share c.0 d.0)

-- no entry has two claims
clash : (u v : Gv) (b d : Bool) → b ≡ true → d ≡ true
    → OpDef cell (if b then some (three_quarters, u) else none) (if d then some (three_quarters, v) else none) → ⊥
clash u v true true here there x = Share.three_quarters_once x.0
clash u v true false here there x = true≢false (sym there)
clash u v false d here there x = true≢false (sym here)

halved_at : (b : Bool) (q : Share) (v : Gv)
    → Cut (if b then some (q, v) else none) (if b then some (Share.left q, v) else none) (if b then some (Share.right q, v) else none)
halved_at true q v = summed (Share.left q) (Share.right q) q v (Share.halves q)
halved_at false q v = Opt.mem-none-op shared_entry.op none

-- Of each entry, where b says that it is that of the claim, and o is what was put there
module _ {W : Type 0} (c : Coded W) where
  abbrev all_of : W → Entry
  all_of w = (full_share, c.code w)

  abbrev claimed : Bool → W → Maybe Entry
  claimed b w = if b then some (three_quarters, c.code w) else none

  abbrev joined : Bool → Option W → W → Maybe Entry
  joined b o w = some (if b then all_of w else kept c.code o)

  whole : (w : W) → Cut (some (all_of w)) (some (quarter, c.code w)) (some (three_quarters, c.code w))
  whole w = summed quarter three_quarters full_share (c.code w) Share.quarters

  cut_at : (b : Bool) (o : Option W) (w : W) → Cut (joined b o w) (some (kept c.code (if b then Some w else o))) (claimed b w)
  cut_at true o w = whole w
  cut_at false o w = alone (kept c.code o)

  glued_at : (b : Bool) (o : Option W) (w : W) → (b ≡ true → o ≡ Some w) → Cut (joined b o w) (some (kept c.code o)) (claimed b w)
  glued_at true o w is = subst (λ (p : Option W). Cut (some (all_of w)) (some (kept c.code p)) (claimed true w)) (sym (is refl)) (whole w)
  glued_at false o w is = alone (kept c.code o)

  taken_at : (b : Bool) (o : Option W) (w : W) → (b ≡ true → o ≡ None) → Fits (some (kept c.code o)) (joined b o w)
  taken_at true o w is x d = changes gnil (c.code w) x (subst (λ (p : Option W). OpDef cell (some (kept c.code p)) x) (is refl) d)
  taken_at false o w is x d = d

  freed_at : (b : Bool) (o : Option W) (w : W) → Fits (joined b o w) (some (kept c.code (if b then None else o)))
  freed_at true o w x d = changes (c.code w) gnil x d
  freed_at false o w x d = d

  known_at : (b : Bool) (o : Option W) (w : W) (q : Share) → b ≡ true
      → OpDef cell (some (kept c.code o)) (if b then some (q, c.code w) else none) → o ≡ Some w
  known_at true None w q is d = absurd (not-OpDef-full_share q d.0)
  known_at true (Some v) w q is d = ap Some (c.inj v w d.1)
  known_at false o w q is d = absurd (true≢false (sym is))

module _ {M : Type 1} {𝓤 : Ura M} (𝓛 : Logic 𝓤) (id : ℕ) where
  abbrev ◌⊢◌ : SProp 𝓤 → SProp 𝓤 → Type 1
  P ⊢ Q = ent 𝓤 P Q

  abbrev ◌∗◌ : SProp 𝓤 → SProp 𝓤 → SProp 𝓤
  P ∗ Q = sep 𝓤 P Q

  infix 26 ◌⊢◌
  infixr 35 ◌∗◌
  abbrev own : Row → SProp 𝓤
  own f = sem 𝓛 (fown (keyed shared_entry) id f)

  rows : (f g h : Row) → ((j : ℕ) → Cut (h j) (f j) (g j)) → h ∈ (keyed shared_entry).op f g
  rows f g h = (mem-op_iff {A = λ (_ : ℕ). Maybe Entry} (λ _. cell) {f = f} {g = g} {h = h}).1

  cuts : (f g h : Row) → ((j : ℕ) → Cut (h j) (f j) (g j)) → own h ⊢ own f ∗ own g
  cuts f g h each = 𝓛.algebras.own_cut (keyed shared_entry) id f g h (rows f g h each)

  joins : (f g h : Row) → ((j : ℕ) → Cut (h j) (f j) (g j)) → own f ∗ own g ⊢ own h
  joins f g h each = own_join 𝓛 (keyed shared_entry) id f g h (rows f g h each)

  sets : (f h : Row) → ((j : ℕ) → Fits (f j) (h j)) → own f ⊢ upd 𝓤 (own h)
  sets f h each = own_step 𝓛 (keyed shared_entry) id f h (λ g d j. each j (g j) (d j))

  -- two rows that are held tell a fact
  tell : (f g : Row) (F : Type 0) → (((j : ℕ) → OpDef cell (f j) (g j)) → F) → own f ∗ own g ⊢ guard 𝓤 F (own f ∗ own g)
  tell f g F told = own_sum 𝓛 (keyed shared_entry) id f g (guard 𝓤 F (own f ∗ own g)) (λ e m. guard_i 𝓤 F (own f ∗ own g) (told m.0))

  module _ {W : Type 0} (c : Coded W) where
    abbrev roster : List (ℕ × Option W) → SProp 𝓤
    roster puts = sem 𝓛 (roster_owns c.code id puts)

    abbrev part : ℕ → W → Share → SProp 𝓤
    part n w q = sem 𝓛 (claim_part c.code id n w q)

    abbrev claim : ℕ → W → SProp 𝓤
    claim n w = part n w three_quarters

    -- the rows of the roster and of a claim on n as one
    abbrev held : ℕ → W → List (ℕ × Option W) → Row
    held n w puts j = joined c (j == n) (put_at puts j) w

    at_number : (puts : List (ℕ × Option W)) (n : ℕ) (o : Option W) → put_at puts n ≡ o → (j : ℕ) → (j == n) ≡ true → put_at puts j ≡ o
    at_number puts n o is j e = ap (put_at puts) (eqb-true j n e) ∙ is

    -- what is claimed was put into the roster
    pub reads : (puts : List (ℕ × Option W)) (n : ℕ) (w : W) (q : Share)
        → roster puts ∗ part n w q ⊢ guard 𝓤 (put_at puts n ≡ Some w) (roster puts ∗ part n w q)
    reads puts n w q = tell (roster_row c.code puts) (claim_row n (q, c.code w)) (put_at puts n ≡ Some w)
        (λ d. known_at c (n == n) (put_at puts n) w q (eq-eqb n n refl) (d n))

    -- two claims are on two numbers
    pub apart : (n m : ℕ) (w v : W) → claim n w ∗ claim m v ⊢ guard 𝓤 (n ≡ m → ⊥) (claim n w ∗ claim m v)
    apart n m w v = tell (claim_row n (three_quarters, c.code w)) (claim_row m (three_quarters, c.code v)) (n ≡ m → ⊥)
        (λ d same. clash (c.code w) (c.code v) (n == n) (n == m) (eq-eqb n n refl) (eq-eqb n m same) (d n))

    -- who has all of an entry claims its number
    pub adds : (puts : List (ℕ × Option W)) (n : ℕ) (w : W) → put_at puts n ≡ None
        → roster puts ⊢ upd 𝓤 (roster ((n, Some w) ∷ puts) ∗ claim n w)
    adds puts n w is = via 𝓤 _
        (sets (roster_row c.code puts) (held n w puts) (λ j. taken_at c (j == n) (put_at puts j) w (at_number puts n None is j)))
        (upd_mono 𝓤 (cuts (roster_row c.code ((n, Some w) ∷ puts)) (claim_row n (three_quarters, c.code w)) (held n w puts)
        (λ j. cut_at c (j == n) (put_at puts j) w)))

    gives_back : (puts : List (ℕ × Option W)) (n : ℕ) (w : W) → put_at puts n ≡ Some w
        → roster puts ∗ claim n w ⊢ upd 𝓤 (roster ((n, None) ∷ puts))
    gives_back puts n w is = via 𝓤 _
        (joins (roster_row c.code puts) (claim_row n (three_quarters, c.code w)) (held n w puts)
        (λ j. glued_at c (j == n) (put_at puts j) w (at_number puts n (Some w) is j)))
        (sets (held n w puts) (roster_row c.code ((n, None) ∷ puts)) (λ j. freed_at c (j == n) (put_at puts j) w))

    -- a claim is given back
    pub frees : (puts : List (ℕ × Option W)) (n : ℕ) (w : W) → roster puts ∗ claim n w ⊢ upd 𝓤 (roster ((n, None) ∷ puts))
    frees puts n w = via 𝓤 _ (reads puts n w three_quarters)
        (guard_e 𝓤 (put_at puts n ≡ Some w) (roster puts ∗ claim n w) (gives_back puts n w))

    -- a share of a claim is its two halves
    pub halves : (n : ℕ) (w : W) → Halves 𝓤 𝓛.H 𝓛.A (claim_part c.code id n w)
    halves n w = record {
      cut = λ q. cuts (row (Share.left q)) (row (Share.right q)) (row q) (λ j. halved_at (j == n) q (c.code w));
      join = λ q. joins (row (Share.left q)) (row (Share.right q)) (row q) (λ j. halved_at (j == n) q (c.code w));
    }
      where
        row : Share → Row
        row q = claim_row n (q, c.code w)

module _ {M : Type 1} {𝓤 : Ura M} (𝓛 : Logic 𝓤) {W : Type 0} (code : W → Gv) where
  -- a roster in which nothing is claimed
  pub begins : ent 𝓤 (emp 𝓤) (upd 𝓤 (ex 𝓤 (λ (id : ℕ). sem 𝓛 (roster_owns code id []))))
  begins = own_new 𝓛 (keyed shared_entry) (roster_row code [])

  -- a `&` to a claim has a share of it
  pub claim_lends : (id n : ℕ) (w : W) (l : Lft) → Lends 𝓛 (claim_owns code id n w) (one (claim_part code id n w)) l
  claim_lends id n w l κ ts inc sp =
      qed 𝓛 (‵ (fbor κ (claim_owns code id n w)) ∷ raw (lfts 𝓛 ts) ∷ []) ∵
      updating ! $ bor_fracture ! tt (claim_part code id n w) three_quarters $ now ! $ done !
