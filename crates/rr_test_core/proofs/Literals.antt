-- Finite maps that are written out as lists of entries, and how they change: with these, closed states compute.
use Rattle.std.proofs.Common.{◌≡◌, ℕ, Bool, true, not, T, length, arith, List, [], ◌∷◌, refl, sym, ap, subst, ◌∙◌}
use Rattle.std.specs.declared.cmp.Ordering.{Ordering}
use Rattle.std.specs.Ordering.{eq_by_cmp, nat_cmp}
use Rattle.std.specs.Cmp.{IsTotalOrder, nat_cmp_total}
use Rattle.std.specs.FinMap.{IsAntisymmetric, nat_cmp-IsAntisymmetric, entries, get, insert, remove, retain_keys, empty, from_sorted, same_entries_map, len-entries, len-empty, entries-from_sorted, entries-insert, get-from_sorted, find, put, is_sorted}
use Rattle.std.specs.FinMap.Entries.{where_key}
use Rattle.rr_protocol.specs.Keys.{RequestKey, ResponseKey, request_key_cmp as by_request, response_key_cmp as by_response}
use Rattle.rr_protocol.proofs.EntriesLaws.{entries-retain_keys, entries-remove}
use Rattle.rr_protocol.proofs.KeyLaws.{request_keys_total, response_keys_total, request_keys_exact, response_keys_exact}

no_length : {X : Type 0} (xs : List X) → length xs ≡ 0 → xs ≡ []
no_length [] e = refl
no_length (x ∷ xs) e = absurd (omega (arith, e))

true_holds : (b : Bool) → b ≡ true → T b
true_holds b e = subst T (sym e) tt

module _ {A X : Type 0} (cmp : A → A → Ordering) where
  pub entries_lit : (es : List (A × X)) → is_sorted cmp es ≡ true → entries (from_sorted {R = cmp} es) ≡ es
  entries_lit es s = entries-from_sorted cmp es (true_holds _ s)

  pub get_lit : (es : List (A × X)) (key : A) → is_sorted cmp es ≡ true → get (from_sorted {R = cmp} es) key ≡ find cmp key es
  get_lit es key s = get-from_sorted cmp es key (true_holds _ s)

  pub empty_lit : empty {X = X} {R = cmp} ≡ from_sorted []
  empty_lit = same_entries_map _ _ (no_entries ∙ sym (entries_lit [] refl))
    where
      no_entries : entries (empty {X = X} {R = cmp}) ≡ []
      no_entries = no_length (entries (empty {X = X} {R = cmp})) (sym (len-entries (empty {X = X} {R = cmp})) ∙ len-empty cmp X)

  module _ (o : IsTotalOrder cmp) (exact : IsAntisymmetric cmp) where
    pub insert_lit : (es : List (A × X)) (key : A) (x : X) → is_sorted cmp es ≡ true → is_sorted cmp (put cmp key x es) ≡ true
        → insert (from_sorted {R = cmp} es) key x ≡ from_sorted (put cmp key x es)
    insert_lit es key x s t =
        same_entries_map _ _ (entries-insert o (from_sorted es) key x ∙ ap (put cmp key x) (entries_lit es s)
        ∙ sym (entries_lit (put cmp key x es) t))

    pub retain_lit : (es : List (A × X)) (p : A → Bool) → is_sorted cmp es ≡ true → is_sorted cmp (where_key cmp p es) ≡ true
        → retain_keys (from_sorted {R = cmp} es) p ≡ from_sorted (where_key cmp p es)
    retain_lit es p s t =
        same_entries_map _ _ (entries-retain_keys o exact (from_sorted es) p ∙ ap (where_key cmp p) (entries_lit es s)
        ∙ sym (entries_lit (where_key cmp p es) t))

    pub remove_lit : (es : List (A × X)) (key : A) → is_sorted cmp es ≡ true
        → is_sorted cmp (where_key cmp (λ x. not (eq_by_cmp cmp key x)) es) ≡ true
        → remove (from_sorted {R = cmp} es) key ≡ from_sorted (where_key cmp (λ x. not (eq_by_cmp cmp key x)) es)
    remove_lit es key s t =
        same_entries_map _ _ (entries-remove o exact (from_sorted es) key
        ∙ ap (where_key cmp (λ x. not (eq_by_cmp cmp key x))) (entries_lit es s)
        ∙ sym (entries_lit (where_key cmp (λ x. not (eq_by_cmp cmp key x)) es) t))

-- the entries of other keys
abbrev without : {A X : Type 0} → (A → A → Ordering) → A → List (A × X) → List (A × X)
without cmp key es = where_key cmp (λ x. not (eq_by_cmp cmp key x)) es

module _ {X : Type 0} where
  pub empty_numbers : empty {X = X} {R = nat_cmp} ≡ from_sorted []
  empty_numbers = empty_lit nat_cmp

  pub empty_request_keys : empty {X = X} {R = by_request} ≡ from_sorted []
  empty_request_keys = empty_lit by_request

  pub empty_response_keys : empty {X = X} {R = by_response} ≡ from_sorted []
  empty_response_keys = empty_lit by_response

  pub insert_numbers : (es : List (ℕ × X)) (key : ℕ) (x : X) → is_sorted nat_cmp es ≡ true → is_sorted nat_cmp (put nat_cmp key x es) ≡ true
      → insert (from_sorted {R = nat_cmp} es) key x ≡ from_sorted (put nat_cmp key x es)
  insert_numbers = insert_lit nat_cmp nat_cmp_total nat_cmp-IsAntisymmetric

  pub retain_numbers : (es : List (ℕ × X)) (p : ℕ → Bool) → is_sorted nat_cmp es ≡ true → is_sorted nat_cmp (where_key nat_cmp p es) ≡ true
      → retain_keys (from_sorted {R = nat_cmp} es) p ≡ from_sorted (where_key nat_cmp p es)
  retain_numbers = retain_lit nat_cmp nat_cmp_total nat_cmp-IsAntisymmetric

  pub remove_numbers : (es : List (ℕ × X)) (key : ℕ) → is_sorted nat_cmp es ≡ true
      → is_sorted nat_cmp (where_key nat_cmp (λ x. not (eq_by_cmp nat_cmp key x)) es) ≡ true
      → remove (from_sorted {R = nat_cmp} es) key ≡ from_sorted (where_key nat_cmp (λ x. not (eq_by_cmp nat_cmp key x)) es)
  remove_numbers = remove_lit nat_cmp nat_cmp_total nat_cmp-IsAntisymmetric

module _ {X : Type 0} (es : List (RequestKey × X)) (sorted : is_sorted by_request es ≡ true) where
  pub insert_request_keys : (key : RequestKey) (x : X) → is_sorted by_request (put by_request key x es) ≡ true
      → insert (from_sorted {R = by_request} es) key x ≡ from_sorted (put by_request key x es)
  insert_request_keys key x = insert_lit by_request request_keys_total request_keys_exact es key x sorted

  pub retain_request_keys : (p : RequestKey → Bool) → is_sorted by_request (where_key by_request p es) ≡ true
      → retain_keys (from_sorted {R = by_request} es) p ≡ from_sorted (where_key by_request p es)
  retain_request_keys p = retain_lit by_request request_keys_total request_keys_exact es p sorted

  pub remove_request_keys : (key : RequestKey) → is_sorted by_request (without by_request key es) ≡ true
      → remove (from_sorted {R = by_request} es) key ≡ from_sorted (without by_request key es)
  remove_request_keys key = remove_lit by_request request_keys_total request_keys_exact es key sorted

module _ {X : Type 0} (es : List (ResponseKey × X)) (sorted : is_sorted by_response es ≡ true) where
  pub insert_response_keys : (key : ResponseKey) (x : X) → is_sorted by_response (put by_response key x es) ≡ true
      → insert (from_sorted {R = by_response} es) key x ≡ from_sorted (put by_response key x es)
  insert_response_keys key x = insert_lit by_response response_keys_total response_keys_exact es key x sorted

  pub retain_response_keys : (p : ResponseKey → Bool) → is_sorted by_response (where_key by_response p es) ≡ true
      → retain_keys (from_sorted {R = by_response} es) p ≡ from_sorted (where_key by_response p es)
  retain_response_keys p = retain_lit by_response response_keys_total response_keys_exact es p sorted

  pub remove_response_keys : (key : ResponseKey) → is_sorted by_response (without by_response key es) ≡ true
      → remove (from_sorted {R = by_response} es) key ≡ from_sorted (without by_response key es)
  remove_response_keys key = remove_lit by_response response_keys_total response_keys_exact es key sorted

-- the rules for the three kinds of key
pub ruleset literals = (
  entries_lit,
  get_lit,
  empty_numbers,
  insert_numbers,
  retain_numbers,
  remove_numbers,
  empty_request_keys,
  insert_request_keys,
  retain_request_keys,
  remove_request_keys,
  empty_response_keys,
  insert_response_keys,
  retain_response_keys,
  remove_response_keys,
)
