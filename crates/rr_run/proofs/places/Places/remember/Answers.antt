use Rattle.std.proofs.Common.{◌≡◌, ◌≢◌, ◌%◌, ◌<◌, ℕ, true, List, length, get_or, set, Option, None, Some, refl, sym, ap, subst, ◌∙◌, rules}
use Rattle.rr_run.specs.declared.places.Spot.{Spot}
use Rattle.rr_run.specs.declared.places.Places.{Places}
use Rattle.rr_run.specs.Known.{place_at, place_aside}
use Rattle.rr_run.proofs.Spots.{taken, aside}
use Rattle.rr_run.proofs.places.Places.remember.Goals.{in-Some+then-spot-number, in-Some+else-spot-number, in_default}
use Rattle.rr_run.proofs.places.Places.remember.Goals as goal

-- what was done before the spot is taken: what stood there and is another number's is found beside the spots
abbrev Cleared : Places → ℕ → Places → Type 0
Cleared p n m = m.is_complete ≡ true → (m.spots ≡ p.spots) × (p.is_complete ≡ true) × ((k : ℕ) → place_aside m k ≡ None → place_aside p k ≡ None)
    × ((k : ℕ) → n ≢ k → place_aside m k ≡ None → place_at (get_or p.spots (n % 16) None) k (place_aside p k) ≡ None)

pub returns : goal.returns
returns c = λ complete.
    let p = c.args.self.now in
    let m = c.match-self-index.self in
    let n = c.number-number.result in
    let index = c.spot_of-index.ensures.value in
    let spot : Option Spot = Some (record { number = n; place = c.place.result }) in
    let within : n % 16 < length p.spots = search rules in
    let here : get_or p.spots (n % 16) None ≡ get_or p.spots c.spot_of-index.result None = ap (λ i. get_or p.spots i None) (sym index) in
    let cleared : Cleared p n m = elim c.match-self-index.branch [
      | in-Some+then-spot-number w ↦ subst (Cleared p n) (sym w.self-is) (λ whole. let o = w.set_aside.ensures.others whole in (
        w.set_aside.ensures.spots,
        o.0,
        λ k none. (o.1 k none).0,
        λ k other none. ap (λ s. place_at s k (place_aside p k)) (here ∙ w.in-Some.is) ∙ aside w.in-Some.spot k (place_aside p k) (o.1 k none).1 ∙ (o.1 k none).0,
      ))
      | in-Some+else-spot-number w ↦ subst (Cleared p n) (sym w.self-is) (λ whole. (
        refl,
        whole,
        λ k none. none,
        λ k other none. ap (λ s. place_at s k (place_aside p k)) (here ∙ w.in-Some.is) ∙ aside w.in-Some.spot k (place_aside p k) (λ is. other (sym w.if-spot-number.false ∙ is)) ∙ none,
      ))
      | in_default w ↦ subst (Cleared p n) (sym w.self-is) (λ whole. (
        refl,
        whole,
        λ k none. none,
        λ k other none. ap (λ s. place_at s k (place_aside p k)) (here ∙ w.in_default.is) ∙ none,
      ))
    ] in
    let f = cleared complete in (
      f.1,
      λ k none.
          let t = taken p.spots n within (place_aside p) (place_aside m) c.place.result f.2 f.3 k
          (ap (λ (spots : List (Option Spot)). place_at (get_or (set spots (n % 16) spot) (k % 16) None) k (place_aside m k)) (sym f.0)
          ∙ ap (λ i. place_at (get_or (set m.spots i spot) (k % 16) None) k (place_aside m k)) (sym index) ∙ none) in
          (t.0, λ is. t.1 (c.number-number.ensures ∙ is)),
    )
