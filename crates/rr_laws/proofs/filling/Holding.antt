-- What is held is held still, or one request more.
use Rattle.std.proofs.Common.{◌≡◌, ℕ, ◌+◌, ◌<◌, Bool, true, false, eqb, [], ◌∷◌, ◌++◌, Some, refl, ◌∙◌, subst, ⊎_elim, inl, inr, arith}
use Rattle.std.specs.Prelude.{◌≢◌, IsSomeAnd}
use Rattle.std.specs.FinMap.{get}
use Rattle.std.specs.List.{list_any}
use Rattle.std.proofs.lemmas.Bool.{eqb-true, ne_eqb}
use Rattle.std.proofs.lemmas.List.{length-append}
use Rattle.rr_table.proofs.ListFacts.{all_append, all_each}
use Rattle.rr_table.proofs.Members.{any_of_all}
use Rattle.rr_protocol.specs.declared.limits.Limits.{Limits}
use Rattle.rr_protocol.specs.Keys.{RequestKey}
use Rattle.rr_protocol.specs.Lists.{at}
use Rattle.rr_protocol.specs.Messages.{RequestMessage}
use Rattle.rr_protocol.specs.State.{State, client_at}
use Rattle.rr_laws.specs.Roles.{Question, Role, LoanedRequest, SentRequest, ReceivedRequest, LoanedResponse, ReceivedResponse, roles_of, question_of, subject_of}
use Rattle.rr_laws.specs.Reached.{IsReached}
use Rattle.rr_laws.specs.Filling.{only_client, is_request, is_about, Lives, IsHolding}
use Rattle.rr_laws.proofs.Counts.{and_first, and_second}
use Rattle.rr_laws.proofs.Distinct.{distinct_append}

-- the number of a request that passes
pub number_is : (n : ℕ) (q : Question) → is_request n q ≡ true → q.number ≡ n
number_is n q e = eqb-true q.number n (and_second (eqb q.client only_client) (eqb q.number n) e)

-- and its client
pub request_client : (n : ℕ) (q : Question) → is_request n q ≡ true → q.client ≡ only_client
request_client n q e = eqb-true q.client only_client (and_first (eqb q.client only_client) (eqb q.number n) e)

-- the request that a role is about
about_subject : (n : ℕ) (role : Role) → is_about n role ≡ true → (subject_of role).number ≡ n
about_subject n (LoanedRequest q) e = number_is n q e
about_subject n (SentRequest q) e = number_is n q e
about_subject n (ReceivedRequest server q) e = number_is n q e
about_subject n (LoanedResponse a) e = absurd (cc)
about_subject n (ReceivedResponse a) e = absurd (cc)

-- a request that lives has a number that was given
pub lives_below : {Q QH P PH K : Type 0} (s : State Q QH P PH K) → IsReached s → (n : ℕ) → Lives s n → n < s.next
lives_below {Q} {QH} s fits n lives =
    ⊎_elim
    (λ held. subst (λ k. k < s.next) (about_subject n held.1 held.4) ((fits.handles held.0 held.1 held.3).known.below))
    (λ listed. let f = any_of_all (λ (m : RequestMessage Q QH). is_request n (question_of m)) (at s.requests listed.0)
    (fits.request_lists.each listed.0) listed.1 in
    subst (λ k. k < s.next) (number_is n (question_of f.0) f.2) (f.1.known.below))
    lives

-- a request that lives goes on living where handles keep their roles and lists lose nothing
pub lives_kept : {Q QH P PH K : Type 0} (old new : State Q QH P PH K)
    → ((j : ℕ) (role : Role) → get (roles_of old.handles) j ≡ Some role → get (roles_of new.handles) j ≡ Some role)
    → ((t : RequestMessage Q QH → Bool) (key : RequestKey) → list_any t (at old.requests key) ≡ true → list_any t (at new.requests key) ≡ true)
    → (n : ℕ) → Lives old n → Lives new n
lives_kept old new roles lists n lives =
    ⊎_elim
    (λ held. inl (held.0, held.1, refl, roles held.0 held.1 held.3, held.4))
    (λ listed. inr (listed.0, lists (λ m. is_request n (question_of m)) listed.0 listed.1))
    lives

module _ {Q QH P PH K : Type 0} (old new : State Q QH P PH K) (limits : Limits) (pool count : ℕ) (holding : IsHolding old limits pool count)
    (reached : IsReached new) (same_limits : new.limits ≡ old.limits)
    (client : IsSomeAnd (client_at new only_client) (λ c. (c.pool_size ≡ pool) × (c.has_value ≡ true)))
    (others : (key : RequestKey) → key.client ≢ only_client → at new.requests key ≡ [])
    (keeps : (n : ℕ) → Lives old n → Lives new n) where
  -- as much as before
  pub holds_still : IsHolding new limits pool count
  holds_still = record {
    reached = reached;
    limits_are = same_limits ∙ holding.limits_are;
    client = client;
    others = others;
    numbers = holding.numbers;
    distinct = holding.distinct;
    live = all_each (Lives old) (Lives new) keeps holding.numbers holding.live;
    counted = holding.counted;
    fits = holding.fits;
  }

  -- and one more, under the next number
  pub holds_more : Lives new old.next → count < pool → IsHolding new limits pool (count + 1)
  holds_more one room = record {
    reached = reached;
    limits_are = same_limits ∙ holding.limits_are;
    client = client;
    others = others;
    numbers = holding.numbers ++ old.next ∷ [];
    distinct = distinct_append holding.numbers old.next holding.distinct (all_each (Lives old) (λ n. eqb n old.next ≡ false)
        (λ n lives. ne_eqb n old.next (λ same. absurd (let below = lives_below old holding.reached n lives in omega (arith, same, below))))
        holding.numbers holding.live);
    live = all_append (Lives new) holding.numbers old.next (all_each (Lives old) (Lives new) keeps holding.numbers holding.live) one;
    counted = omega (arith, holding.counted, length-append holding.numbers (old.next ∷ []));
    fits = omega (arith, room);
  }
