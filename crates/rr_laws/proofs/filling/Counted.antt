-- The requests that are known to live are counted as live ones.
use Rattle.std.proofs.Common.{◌≡◌, ℕ, ◌≤◌, Bool, true, false, eqb, List, ◌∷◌, ◌++◌, map, Option, Some, None, refl, sym, ap, ◌∙◌, subst, ⊎_elim, arith}
use Rattle.std.specs.Prelude.{filter, filter_map}
use Rattle.std.specs.Cmp.{IsEquivalence}
use Rattle.std.specs.List.{list_any}
use Rattle.std.specs.Option.{option_map_or}
use Rattle.std.specs.FinMap as fin_map
use Rattle.std.proofs.lemmas.Bool.{eq-eqb, eqb-true}
use Rattle.std.proofs.lemmas.List.Folds.{list_any-append}
use Rattle.std.proofs.lemmas.Map.Made.{length-le_from_is_member}
use Rattle.rr_table.proofs.ListFacts.{or_true, any-append, any-filter, any-map, any-filter_map}
use Rattle.rr_table.proofs.MapFacts.{any_value}
use Rattle.rr_table.proofs.Members.{any_of_all, any-flat, entry_there}
use Rattle.rr_protocol.specs.declared.limits.Limits.{Limits}
use Rattle.rr_protocol.proofs.KeyLaws.{request_keys_total}
use Rattle.rr_protocol.specs.Keys.{RequestKey}
use Rattle.rr_protocol.specs.Lists.{list_of, all_elements}
use Rattle.rr_protocol.specs.Messages.{RequestMessage, Handle, RequestMutUninit, RequestMut, PendingResponse, ActiveRequest, ResponseMutUninit, ResponseMut, Response, request_in}
use Rattle.rr_protocol.specs.State.{State, all_handles}
use Rattle.rr_protocol.specs.Counts.{live_requests}
use Rattle.rr_laws.specs.Roles.{role_of, question_of}
use Rattle.rr_laws.specs.Filling.{only_client, is_request, is_about, IsHeld, IsListed, Lives, IsHolding}
use Rattle.rr_laws.proofs.FreeChannels.{each_once, length-each_once, any_each_once}
use Rattle.rr_laws.proofs.RoleLaws.{handle_of}

-- equality of numbers, as a test
equal_numbers : IsEquivalence eqb
equal_numbers = record {
  refl = λ n. eq-eqb n n refl;
  symm = λ n k. either_way n k (eqb n k) refl (eqb k n) refl;
  congr = λ n k j same. ap (λ m. eqb m j) (eqb-true n k same);
}
  where
    either_way : (n k : ℕ) (a : Bool) → eqb n k ≡ a → (b : Bool) → eqb k n ≡ b → a ≡ b
    either_way n k true e true f = refl
    either_way n k true e false f = sym (eq-eqb k n (sym (eqb-true n k e))) ∙ f
    either_way n k false e true f = sym e ∙ eq-eqb n k (sym (eqb-true k n f))
    either_way n k false e false f = refl

module _ {Q QH P PH K : Type 0} (s : State Q QH P PH K) where
  abbrev messages : List (RequestMessage Q QH)
  messages = filter_map request_in (all_handles s) ++ all_elements s.requests

  abbrev live_numbers : List ℕ
  live_numbers = map (λ m. m.number) (filter (λ m. eqb m.client only_client) messages)

  -- what is among the messages is among the live numbers
  among : (n : ℕ) → list_any (λ m. is_request n (question_of m)) messages ≡ true → list_any (λ m. eqb m n) live_numbers ≡ true
  among n here =
      any-map (λ (m : RequestMessage Q QH). m.number) (λ m. eqb m n) (filter (λ m. eqb m.client only_client) messages)
      ∙ any-filter (λ m. eqb m.number n) (λ m. eqb m.client only_client) messages here

  in_handles : (n : ℕ) → IsHeld s (λ j. j ≡ j) n → list_any (λ m. is_request n (question_of m)) (filter_map request_in (all_handles s)) ≡ true
  in_handles n held =
      let h = handle_of s.handles held.0 held.1 held.3 in
      any-filter_map request_in (λ m. is_request n (question_of m)) (all_handles s)
      ∙ any-map (λ (x : ℕ × Handle Q QH P PH). x.1) (λ x. option_map_or (λ m. is_request n (question_of m)) (request_in x) false)
      (fin_map.entries s.handles)
      ∙ any_value (λ x. option_map_or (λ m. is_request n (question_of m)) (request_in x) false) s.handles held.0 h.0 h.1
      (this h.0 (ap (is_about n) h.2 ∙ held.4))
    where
      this : (h : Handle Q QH P PH) → is_about n (role_of h) ≡ true
          → option_map_or (λ m. is_request n (question_of m)) (request_in h) false ≡ true
      this (RequestMutUninit m) about = about
      this (RequestMut m) about = about
      this (PendingResponse p) about = about
      this (ActiveRequest a) about = about
      this (ResponseMutUninit m) about = absurd (cc)
      this (ResponseMut m) about = absurd (cc)
      this (Response m) about = absurd (cc)

  in_lists : (n : ℕ) → IsListed s n → list_any (λ m. is_request n (question_of m)) (all_elements s.requests) ≡ true
  in_lists n listed =
      go (fin_map.get s.requests listed.0) refl listed.1
    where
      go : (o : Option (RequestMessage Q QH × List (RequestMessage Q QH))) → fin_map.get s.requests listed.0 ≡ o
          → list_any (λ m. is_request n (question_of m)) (list_of o) ≡ true
          → list_any (λ m. is_request n (question_of m)) (all_elements s.requests) ≡ true
      go None e here = absurd (cc)
      go (Some kept) e here =
          any-flat (λ m. is_request n (question_of m)) (λ (k : RequestMessage Q QH × List (RequestMessage Q QH)). k.0 ∷ k.1) (fin_map.values s.requests)
          ∙ any-map (λ (x : RequestKey × (RequestMessage Q QH × List (RequestMessage Q QH))). x.1)
          (λ k. list_any (λ m. is_request n (question_of m)) (k.0 ∷ k.1)) (fin_map.entries s.requests)
          ∙ entry_there request_keys_total (λ k. list_any (λ m. is_request n (question_of m)) (k.0 ∷ k.1)) s.requests listed.0 kept e here

  -- a request that lives is one of them
  lives_counted : (n : ℕ) → Lives s n → list_any (λ m. eqb m n) live_numbers ≡ true
  lives_counted n lives = among n (⊎_elim
      (λ held. any-append (λ m. is_request n (question_of m)) (filter_map request_in (all_handles s)) (all_elements s.requests) (in_handles n held))
      (λ listed. list_any-append (λ m. is_request n (question_of m)) (filter_map request_in (all_handles s)) (all_elements s.requests)
      ∙ or_true (list_any (λ m. is_request n (question_of m)) (filter_map request_in (all_handles s))) _ (in_lists n listed))
      lives)

  -- so the pool's count is at most that of the live ones
  pub live_at_least : (limits : Limits) (pool count : ℕ) → IsHolding s limits pool count → count ≤ live_requests s only_client
  live_at_least limits pool count h =
      omega (
        arith,
        h.counted,
        length-le_from_is_member equal_numbers h.numbers (each_once live_numbers) h.distinct member,
        length-each_once live_numbers,
      )
    where
      same_test : (q : ℕ) (xs : List ℕ) → list_any (λ m. eqb m q) xs ≡ list_any (λ m. eqb q m) xs
      same_test q xs = ap (λ (t : ℕ → Bool). list_any t xs) (λ i m. equal_numbers.symm m q i)

      member : (q : ℕ) → list_any (λ m. eqb q m) h.numbers ≡ true → list_any (λ m. eqb q m) (each_once live_numbers) ≡ true
      member q there =
          let lives = any_of_all (λ m. eqb q m) h.numbers h.live there in
          let is : q ≡ lives.0 = eqb-true q lives.0 lives.2 in
          sym (same_test q (each_once live_numbers)) ∙ any_each_once q live_numbers (lives_counted q (subst (Lives s) (sym is) lives.1))
