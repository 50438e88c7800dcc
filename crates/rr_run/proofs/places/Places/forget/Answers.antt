use Rattle.std.proofs.Common.{◌≡◌, ◌≢◌, ◌==◌, ◌%◌, ◌<◌, ℕ, length, get_or, set, Option, None, refl, sym, ap, subst, ◌∙◌, rules}
use Rattle.std.specs.HashMap.{get}
use Rattle.std.proofs.lemmas.Bool.{ne_eqb}
use Rattle.rr_table.specs.declared.place.Place.{Place}
use Rattle.rr_run.specs.declared.places.Places.{Places}
use Rattle.rr_run.specs.Known.{place_at, place_aside, Forgets}
use Rattle.rr_run.proofs.Spots.{left, freed, aside}
use Rattle.rr_run.proofs.places.Places.forget.Goals.{in-Some+then-spot-number, in-Some+else-spot-number, in_default}
use Rattle.rr_run.proofs.places.Places.forget.Goals as goal

pub returns : goal.returns
returns c =
    let p = c.args.self.now in
    let n = c.args.number in
    let index = c.spot_of-index.ensures.value in
    let within : n % 16 < length p.spots = search rules in
    let here : get_or p.spots (n % 16) None ≡ get_or p.spots c.spot_of-index.result None = ap (λ i. get_or p.spots i None) (sym index) in
    let new : ℕ → Option Place = λ k. get (λ a b. a == b) c.remove.new.self k in
    let gone : new n ≡ None = c.remove.ensures.updates.1 in
    let kept : (k : ℕ) → k ≢ n → new k ≡ place_aside c.match-self-index.self k = λ k other. c.remove.ensures.updates.2 k (ne_eqb n k (λ is. other (sym is))) in
    let without : Places → Places = λ m. record m { others = c.remove.new.self } in
    let same : (m : Places) → m ≡ p → (k : ℕ) → place_aside m k ≡ place_aside p k = λ m is k. ap (λ m. place_aside m k) is in
    let foreign : ((other : Option Place) → place_at (get_or p.spots (n % 16) None) n other ≡ other) → c.match-self-index.self ≡ p → Forgets p n (without c.match-self-index.self) =
    λ another is. subst (λ m. Forgets p n (without m)) (sym is)
    (let f = left p.spots n within (place_aside p) new gone (λ k other. kept k other ∙ same c.match-self-index.self is k) another in (refl, f.0, f.1)) in
    elim c.match-self-index.branch [
      | in-Some+then-spot-number w ↦
          subst (λ m. Forgets p n (without m)) (sym w.self-is) (subst (λ i. Forgets p n (without (record p { spots = set p.spots i None }))) (sym index)
          (let f = freed p.spots n within (place_aside p) new gone (λ k other. kept k other ∙ ap (λ m. place_aside m k) w.self-is) w.in-Some.spot (here ∙ w.in-Some.is) w.if-spot-number.true in (refl, f.0, f.1)))
      | in-Some+else-spot-number w ↦ foreign (λ other. ap (λ s. place_at s n other) (here ∙ w.in-Some.is) ∙ aside w.in-Some.spot n other w.if-spot-number.false) w.self-is
      | in_default w ↦ foreign (λ other. ap (λ s. place_at s n other) (here ∙ w.in_default.is)) w.self-is
    ]
