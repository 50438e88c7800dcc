-- How the tokens of a log move. Assumes `Logic`.
use Rattle.std.proofs.Common.{◌≡◌, ◌≢◌, ◌⊎◌, ℕ, ◌+◌, ◌≤◌, if◌then◌else◌, List, [], ◌∷◌, ◌++◌, length, refl, sym, ap, ◌∙◌, subst, inl, inr, ⊎_elim, arith, ne_eqb, length-append}
use Rattle.std.specs.Prelude.{⊤}
use Rattle.std.proofs.lemmas.Bool.{cases_eq}
use Rattle.std.proofs.lemmas.List.{map-append}
use mathlib.Core.List.{IsPrefix}
use mathlib.Core.Option.{some}
use seplogic.Ra.Ura.{Ura}
use base.Fraction.{full_share}
use base.FractionLaws.{not-OpDef-full_share}
use base.Stored.{Gv, Coded, coded×, coded_ℕ}
use base.Logic.{SProp, ent, sep, ex, guard, emp, via, guard_i}
use base.Fml.{Fml, ftrue}
use base.Graph.{sum_out}
use base.Growing.{Order, Least, numbers, grows, growing, latest, at_least, prefix_refl}
use types.Logic.{Logic, sem}
use types.Kit.{‵, ◌⊛◌, some as any, given, later, ◌$◌, ◌∵◌, !, qed, move, drop, split, fsplit, fjoin, learn, pick, check, rewrite, show, use0, use1, use2, await, updating, now, done}
use denote.Steps.{nothing}
use types.Owned.{basic, own_glued}
use types.Growing.{latest_new, latest_grows, latest_shows, latest_bounds, at_least_dup, at_least_join}
use Rattle.rr_log.specs.Entries.{entries_of, Follows}
use Rattle.rr_log.specs.Owned.{logs, counted, kept, reached, pen_owns, seen_owns}
use Rattle.rr_log.proofs.Lists.{prefix_either, prefix_map}

module _ {M : Type 1} {𝓤 : Ura M} (𝓛 : Logic 𝓤) where
  open 𝓛 use {H}

  abbrev ⟦◌⟧ : Fml → SProp 𝓤
  ⟦ P ⟧ = sem 𝓛 P

  abbrev ◌∗◌ : SProp 𝓤 → SProp 𝓤 → SProp 𝓤
  P ∗ Q = sep 𝓤 P Q

  abbrev ◌⊢◌ : SProp 𝓤 → SProp 𝓤 → Type 1
  P ⊢ Q = ent 𝓤 P Q

  infix 26 ◌⊢◌
  infixr 35 ◌∗◌
  -- what is owned tells a fact, and stays
  abbrev Tells : SProp 𝓤 → Type 0 → Type 1
  Tells P φ = P ⊢ guard 𝓤 φ P

  -- the whole right of a name is held once
  held_once : {X : Type 0} (O : Order X) (γ : ℕ) (a b : X) (Z : SProp 𝓤) → ⟦ latest O full_share γ a ⟧ ∗ ⟦ latest O full_share γ b ⟧ ⊢ Z
  unfolding latest
  held_once O γ a b Z =
      own_glued 𝓛 (growing O) γ (some full_share, a) (some full_share, b) Z
      (λ c m. absurd (not-OpDef-full_share full_share (sum_out (grows O) (some full_share, a) (some full_share, b) c m).0.0))

  -- a caller has seen so many entries
  abbrev entered : ℕ → ℕ → Fml
  entered = latest numbers full_share

  -- two callers have two numbers
  two_numbers : (γ δ m n : ℕ) → Tells (⟦ entered γ m ⟧ ∗ ⟦ entered δ n ⟧) (γ ≢ δ)
  two_numbers γ δ m n =
      let P : SProp 𝓤 = ⟦ entered γ m ⟧ ∗ ⟦ entered δ n ⟧ in
      ⊎_elim
      (λ (same : γ ≡ δ). subst (λ (k : ℕ). ⟦ entered γ m ⟧ ∗ ⟦ entered k n ⟧ ⊢ guard 𝓤 (γ ≢ δ) P) same (held_once numbers γ m n _))
      (λ (apart : γ ≢ δ). guard_i 𝓤 (γ ≢ δ) P apart)
      (cases_eq γ δ)

  -- who added the entry at a place has seen more than came before it
  seen_past : (γ who n place : ℕ) → who ≡ γ → Tells (⟦ entered γ n ⟧ ∗ ⟦ at_least numbers who (place + 1) ⟧) (place + 1 ≤ n)
  seen_past γ who n place same =
      subst (λ (k : ℕ). Tells (⟦ entered γ n ⟧ ∗ ⟦ at_least numbers k (place + 1) ⟧) (place + 1 ≤ n)) (sym same)
      (latest_bounds numbers 𝓛 full_share γ n (place + 1))

  module _ {E : Type 0} where
    -- a caller has seen all of its entries: from a place on that it has not seen, all entries are others'
    others_later : (γ n place : ℕ) (xs : List (ℕ × E)) → n ≤ place → Tells (⟦ entered γ n ⟧ ∗ ⟦ counted place xs ⟧) (entries_of γ xs ≡ [])
    others_later γ n place [] le = guard_i 𝓤 (entries_of {E = E} γ [] ≡ []) (⟦ entered γ n ⟧ ∗ ⟦ counted {E = E} place [] ⟧) refl
    others_later γ n place (x ∷ xs) le =
        let after : ℕ = place + 1 in
        qed 𝓛 (‵ (entered γ n) ∷ ‵ (counted place (x ∷ xs)) ∷ []) ∵ move ! (1 ∷ []) $ fsplit ! $ move ! (2 ∷ 1 ∷ []) $
        use2 𝓛 (given (entries_of γ xs ≡ []) (‵ (entered γ n) ⊛ ‵ (counted after xs))) (others_later γ n after xs (omega arith)) $
        -- [the number that it has seen; the later entries; the entry at this place]
        learn ! (λ none. split ! $
        ⊎_elim
        (λ (same : x.0 ≡ γ). move ! (0 ∷ 2 ∷ []) $
        use2 𝓛 (given (after ≤ n) (‵ (entered γ n) ⊛ ‵ (at_least numbers x.0 after))) (seen_past γ x.0 n place same) $
        learn ! (λ past. absurd (omega arith)))
        (λ (apart : x.0 ≢ γ).
        check ! (ap (λ b. if b then x.1 ∷ entries_of γ xs else entries_of γ xs) (ne_eqb x.0 γ apart) ∙ none) $
        move ! (2 ∷ 1 ∷ []) $ fjoin ! $ move ! (1 ∷ 0 ∷ []) $ done !)
        (cases_eq x.0 γ))

    -- the same of the entries after those that it has seen
    others_after : (γ n place : ℕ) (seen others : List (ℕ × E)) → n ≤ place + length seen
        → Tells (⟦ entered γ n ⟧ ∗ ⟦ counted place (seen ++ others) ⟧) (entries_of γ others ≡ [])
    others_after γ n place [] others le = others_later γ n place others (omega arith)
    others_after γ n place (x ∷ seen) others le =
        let after : ℕ = place + 1 in let none : Type 0 = entries_of γ others ≡ [] in
        qed 𝓛 (‵ (entered γ n) ∷ ‵ (counted place (x ∷ seen ++ others)) ∷ []) ∵ move ! (1 ∷ []) $ fsplit ! $ move ! (2 ∷ 1 ∷ []) $
        use2 𝓛 (given none (‵ (entered γ n) ⊛ ‵ (counted after (seen ++ others)))) (others_after γ n after seen others (omega arith)) $
        learn ! (λ is. split ! $ check ! is $ move ! (2 ∷ 1 ∷ []) $ fjoin ! $ move ! (1 ∷ 0 ∷ []) $ done !)

    -- the same of a whole log
    others_follow : (γ : ℕ) (seen entries : List (ℕ × E)) (p : IsPrefix seen entries)
        → Tells (⟦ entered γ (length seen) ⟧ ∗ ⟦ counted 0 entries ⟧) (entries_of γ p.0 ≡ [])
    others_follow γ seen entries p =
        subst (λ (all : List (ℕ × E)). Tells (⟦ entered γ (length seen) ⟧ ∗ ⟦ counted 0 all ⟧) (entries_of γ p.0 ≡ [])) p.1
        (others_after γ (length seen) 0 seen p.0 (omega arith))

    -- one more entry, whose caller has seen it
    counted_more : (γ : ℕ) (e : E) (n place : ℕ) (xs : List (ℕ × E)) → n ≡ place + length xs + 1
        → ⟦ counted place xs ⟧ ∗ ⟦ at_least numbers γ n ⟧ ⊢ ⟦ counted place (xs ++ (γ, e) ∷ []) ⟧
    counted_more γ e n place [] is =
        let first : n ≡ place + 1 = omega (arith, is) in
        qed 𝓛 (‵ ftrue ∷ ‵ (at_least numbers γ n) ∷ []) ∵ rewrite ! 1 (λ (k : ℕ). ‵ (at_least numbers γ k)) first refl $
        move ! (1 ∷ 0 ∷ []) $ fjoin ! $ done !
    counted_more γ e n place (x ∷ xs) is =
        qed 𝓛 (‵ (counted place (x ∷ xs)) ∷ ‵ (at_least numbers γ n) ∷ []) ∵ fsplit ! $ move ! (1 ∷ 2 ∷ []) $
        use2 𝓛 (‵ (counted (place + 1) (xs ++ (γ, e) ∷ []))) (counted_more γ e n (place + 1) xs (omega (arith, is))) $
        move ! (1 ∷ 0 ∷ []) $ fjoin ! $ done !

    module _ (code : Coded E) where
      abbrev coded : Coded (ℕ × E)
      coded = coded× coded_ℕ code

      -- the log has these entries
      abbrev log : ℕ → List (ℕ × E) → Fml
      log η entries = latest logs full_share η (kept code entries)

      begins_in : (one other : List (ℕ × E)) → IsPrefix (kept code one) (kept code other) → IsPrefix one other
      begins_in = prefix_map coded.code coded.inj

      -- what a caller has seen begins the log
      seen_begins : (η : ℕ) (seen entries : List (ℕ × E)) → Tells (⟦ log η entries ⟧ ∗ ⟦ reached code η seen ⟧) (IsPrefix seen entries)
      seen_begins η [] entries = guard_i 𝓤 (IsPrefix [] entries) (⟦ log η entries ⟧ ∗ ⟦ reached code η [] ⟧) (entries, refl)
      seen_begins η (x ∷ seen) entries =
          let now : List Gv = kept code entries in let before : List Gv = kept code (x ∷ seen) in
          qed 𝓛 (‵ (log η entries) ∷ ‵ (at_least logs η before) ∷ []) ∵
          use2 𝓛 (given (IsPrefix before now) (‵ (log η entries) ⊛ ‵ (at_least logs η before)))
          (latest_bounds logs 𝓛 full_share η now before) $
          learn ! (λ p. split ! $ check ! (begins_in (x ∷ seen) entries p) $ done !)

      -- all entries may be seen
      log_shows : (η : ℕ) (entries : List (ℕ × E)) → ⟦ log η entries ⟧ ⊢ ⟦ log η entries ⟧ ∗ ⟦ reached code η entries ⟧
      log_shows η [] = qed 𝓛 (‵ (log η []) ∷ []) ∵ nothing ! $ move ! (1 ∷ 0 ∷ []) $ done !
      log_shows η (x ∷ xs) = let now : List Gv = kept code (x ∷ xs) in latest_shows logs 𝓛 full_share η now now (prefix_refl now)

      -- a caller sees more
      sees : (γ m n : ℕ) → m ≤ n → ⟦ entered γ m ⟧ ⊢ H.⇛ ⟦ entered γ n ⟧
      sees γ m n le = via 𝓤 _ (latest_grows numbers 𝓛 γ m n le) (basic 𝓛 _)

      -- the log goes on
      log_grows : (η : ℕ) (entries more : List (ℕ × E)) → ⟦ log η entries ⟧ ⊢ H.⇛ ⟦ log η (entries ++ more) ⟧
      log_grows η entries more =
          let longer : IsPrefix (kept code entries) (kept code (entries ++ more)) =
          (kept code more, sym (map-append coded.code entries more)) in
          via 𝓤 _ (latest_grows logs 𝓛 η (kept code entries) (kept code (entries ++ more)) longer) (basic 𝓛 _)

      -- a log without entries
      pub opens : emp 𝓤 ⊢ H.⇛ (ex 𝓤 (λ (η : ℕ). ⟦ pen_owns code η [] ⟧))
      opens =
          qed 𝓛 [] ∵ updating ! $
          use0 𝓛 (later (any (λ (η : ℕ). ‵ (log η [])))) (via 𝓤 _ (latest_new logs 𝓛 []) (basic 𝓛 _)) $ await ! tt $ pick ! (λ η.
          now ! $ nothing ! $ move ! (1 ∷ 0 ∷ []) $ fjoin ! $ show ! (λ (γ : ℕ). ⟦ pen_owns code γ [] ⟧) η $ done !)

      -- a caller that has seen nothing
      pub enters : (η : ℕ) → emp 𝓤 ⊢ H.⇛ (ex 𝓤 (λ (γ : ℕ). ⟦ seen_owns code η γ [] ⟧))
      enters η =
          qed 𝓛 [] ∵ updating ! $
          use0 𝓛 (later (any (λ (γ : ℕ). ‵ (entered γ 0)))) (via 𝓤 _ (latest_new numbers 𝓛 0) (basic 𝓛 _)) $ await ! tt $ pick ! (λ γ.
          now ! $ nothing ! $ move ! (1 ∷ 0 ∷ []) $ fjoin ! $ show ! (λ (δ : ℕ). ⟦ seen_owns code η δ [] ⟧) γ $ done !)

      -- a caller is shown all entries
      pub shows : (η ζ γ : ℕ) (seen entries : List (ℕ × E)) → ζ ≡ η
          → ⟦ pen_owns code η entries ⟧ ∗ ⟦ seen_owns code ζ γ seen ⟧
          ⊢ H.⇛ (guard 𝓤 (Follows γ seen entries) (⟦ pen_owns code η entries ⟧ ∗ ⟦ seen_owns code η γ entries ⟧))
      shows η ζ γ seen entries same =
          let m : ℕ = length seen in let n : ℕ = length entries in
          qed 𝓛 (‵ (pen_owns code η entries) ∷ ‵ (seen_owns code ζ γ seen) ∷ []) ∵
          rewrite ! 1 (λ (k : ℕ). ‵ (seen_owns code k γ seen)) same refl $
          updating ! $ fsplit ! $ move ! (2 ∷ []) $ fsplit ! $
          -- [the number that it has seen; that they were reached; the log; whose its entries are]
          move ! (2 ∷ 1 ∷ []) $
          use2 𝓛 (given (IsPrefix seen entries) (‵ (log η entries) ⊛ ‵ (reached code η seen))) (seen_begins η seen entries) $
          learn ! (λ p. split ! $ move ! (1 ∷ []) $ drop ! $
          use1 𝓛 (‵ (log η entries) ⊛ ‵ (reached code η entries)) (log_shows η entries) $ split ! $ move ! (2 ∷ 3 ∷ []) $
          use2 𝓛 (given (entries_of γ p.0 ≡ []) (‵ (entered γ m) ⊛ ‵ (counted 0 entries))) (others_follow γ seen entries p) $
          learn ! (λ none. split ! $
          use1 𝓛 (later (‵ (entered γ n))) (sees γ m n (omega (arith, ap length p.1, length-append seen p.0))) $ await ! tt $
          -- [the number; whose the entries are; the log; that all were reached]
          now ! $ check ! (p.0, sym p.1, none) $
          move ! (2 ∷ 1 ∷ []) $ fjoin ! $ move ! (1 ∷ 2 ∷ []) $ fjoin ! $ move ! (1 ∷ 0 ∷ []) $ done !))

      -- an entry of a caller that has seen all is added
      pub adds : (η ζ γ : ℕ) (e : E) (seen entries : List (ℕ × E)) → ζ ≡ η → seen ≡ entries
          → ⟦ pen_owns code η entries ⟧ ∗ ⟦ seen_owns code ζ γ seen ⟧
          ⊢ H.⇛ (guard 𝓤 ⊤ (⟦ pen_owns code η (entries ++ (γ, e) ∷ []) ⟧ ∗ ⟦ seen_owns code η γ (entries ++ (γ, e) ∷ []) ⟧))
      adds η ζ γ e seen entries same shown =
          let all : List (ℕ × E) = entries ++ (γ, e) ∷ [] in let m : ℕ = length entries in let n : ℕ = length all in
          let more : n ≡ m + 1 = length-append entries ((γ, e) ∷ []) in
          qed 𝓛 (‵ (pen_owns code η entries) ∷ ‵ (seen_owns code ζ γ seen) ∷ []) ∵
          rewrite ! 1 (λ (k : ℕ). ‵ (seen_owns code k γ seen)) same refl $
          rewrite ! 1 (λ (xs : List (ℕ × E)). ‵ (seen_owns code η γ xs)) shown refl $
          updating ! $ fsplit ! $ move ! (2 ∷ []) $ fsplit ! $ move ! (1 ∷ []) $ drop ! $
          -- [the number that it has seen; the log; whose its entries are]
          use1 𝓛 (later (‵ (entered γ n))) (sees γ m n (omega (arith, more))) $ await ! tt $
          use1 𝓛 (‵ (entered γ n) ⊛ ‵ (at_least numbers γ n)) (latest_shows numbers 𝓛 full_share γ n n (omega arith)) $ split ! $
          move ! (3 ∷ 1 ∷ []) $ use2 𝓛 (‵ (counted 0 all)) (counted_more γ e n 0 entries (omega (arith, more))) $
          move ! (2 ∷ []) $ use1 𝓛 (later (‵ (log η all))) (log_grows η entries ((γ, e) ∷ [])) $ await ! tt $
          use1 𝓛 (‵ (log η all) ⊛ ‵ (reached code η all)) (log_shows η all) $ split ! $
          -- [the log; that all were reached; whose the entries are; the number]
          now ! $ check ! tt $
          move ! (0 ∷ 2 ∷ []) $ fjoin ! $ move ! (2 ∷ 1 ∷ []) $ fjoin ! $ move ! (1 ∷ 0 ∷ []) $ done !

      -- of what two callers have seen one begins the other
      abbrev Either : List (ℕ × E) → List (ℕ × E) → Type 0
      Either one other = IsPrefix one other ⊎ IsPrefix other one

      either_begins : (η : ℕ) (one other : List (ℕ × E)) → Tells (⟦ reached code η one ⟧ ∗ ⟦ reached code η other ⟧) (Either one other)
      either_begins η [] other =
          guard_i 𝓤 (Either [] other) (⟦ reached code η [] ⟧ ∗ ⟦ reached code η other ⟧) (inl (other, refl))
      either_begins η (x ∷ one) [] =
          guard_i 𝓤 (Either (x ∷ one) []) (⟦ reached code η (x ∷ one) ⟧ ∗ ⟦ reached code η [] ⟧) (inr (x ∷ one, refl))
      either_begins η (x ∷ one) (y ∷ other) =
          let a = kept code (x ∷ one) in let b = kept code (y ∷ other) in let A = at_least logs η a in let B = at_least logs η b in
          qed 𝓛 (‵ A ∷ ‵ B ∷ []) ∵
          use1 𝓛 (‵ A ⊛ ‵ A) (at_least_dup logs 𝓛 η a) $ split ! $ move ! (2 ∷ []) $
          use1 𝓛 (‵ B ⊛ ‵ B) (at_least_dup logs 𝓛 η b) $ split ! $ move ! (2 ∷ 0 ∷ []) $
          use2 𝓛 (any (λ (c : List Gv). given (Least IsPrefix a b c) (‵ (at_least logs η c)))) (at_least_join logs 𝓛 η a b) $
          pick ! (λ c. learn ! (λ least. drop ! $
          check ! (⊎_elim (λ p. inl (begins_in (x ∷ one) (y ∷ other) p)) (λ p. inr (begins_in (y ∷ other) (x ∷ one) p))
          (prefix_either a b c least.0 least.1)) $
          move ! (1 ∷ 0 ∷ []) $ done !))

      -- two callers compare what they have seen
      pub compares : (η ζ γ δ : ℕ) (one other : List (ℕ × E)) → η ≡ ζ
          → ⟦ seen_owns code η γ one ⟧ ∗ ⟦ seen_owns code ζ δ other ⟧
          ⊢ H.⇛ (guard 𝓤 (Either one other × (γ ≢ δ)) (⟦ seen_owns code η γ one ⟧ ∗ ⟦ seen_owns code ζ δ other ⟧))
      compares η ζ γ δ one other same =
          let m : ℕ = length one in let n : ℕ = length other in
          qed 𝓛 (‵ (seen_owns code η γ one) ∷ ‵ (seen_owns code ζ δ other) ∷ []) ∵
          rewrite ! 1 (λ (k : ℕ). ‵ (seen_owns code k δ other)) (sym same) refl $
          updating ! $ fsplit ! $ move ! (2 ∷ []) $ fsplit ! $
          -- [the other's number; what it has seen; the one's number; what it has seen]
          move ! (3 ∷ 1 ∷ []) $
          use2 𝓛 (given (Either one other) (‵ (reached code η one) ⊛ ‵ (reached code η other))) (either_begins η one other) $
          learn ! (λ begins. split ! $ move ! (3 ∷ 2 ∷ []) $
          use2 𝓛 (given (γ ≢ δ) (‵ (entered γ m) ⊛ ‵ (entered δ n))) (two_numbers γ δ m n) $ learn ! (λ apart. split ! $
          now ! $ check ! (begins, apart) $
          move ! (1 ∷ 3 ∷ []) $ fjoin ! $ rewrite ! 0 (λ (k : ℕ). ‵ (seen_owns code k δ other)) same refl $
          move ! (1 ∷ 2 ∷ []) $ fjoin ! $ done !))
