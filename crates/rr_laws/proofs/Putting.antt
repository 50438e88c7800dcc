-- Lists of entries fit after a message came, or after some were dropped.
use Rattle.std.proofs.Common.{◌≡◌, ℕ, ◌<◌, ◌≤◌, Bool, true, false, cond, not, List, [], ◌∷◌, ◌++◌, length, drop, refl, sym, ap, ◌∙◌, subst, arith}
use Rattle.std.specs.Prelude.{fold}
use Rattle.std.specs.List.{AllByRecursion}
use Rattle.std.specs.declared.cmp.Ordering.{Ordering}
use Rattle.std.specs.declared.cmp.Ordering.TheVariants.{Less, Equal, Greater}
use Rattle.std.specs.Ordering.{is_eq}
use Rattle.std.specs.Cmp.{IsTotalOrder}
use Rattle.std.specs.FinMap as fin_map
use Rattle.std.proofs.Math.Seq.{drop-length}
use Rattle.std.proofs.lemmas.List.{length-append, length-drop}
use Rattle.std.proofs.lemmas.Bool.{leb-false}
use Rattle.rr_protocol.specs.declared.limits.Limits.{Limits}
use Rattle.rr_protocol.specs.Lists.{Lists, at, with_at}
use Rattle.rr_protocol.specs.Keys.{RequestKey, ResponseKey, request_key_cmp, response_key_cmp}
use Rattle.rr_protocol.specs.Messages.{RequestMessage, ResponseMessage}
use Rattle.rr_protocol.specs.Ports.{Client, Server}
use Rattle.rr_protocol.specs.Sends.{is_full, put}
use Rattle.rr_protocol.proofs.KeyLaws.{request_keys_total, request_keys_exact, response_keys_total, response_keys_exact}
use Rattle.rr_protocol.proofs.ListsLaws.{at-with_at, at-retain_keys}
use Rattle.rr_laws.specs.Roles.{Roles}
use Rattle.rr_laws.specs.Reached.{RequestFits, RequestsFit, ResponseFits, ResponsesFit}
use Rattle.rr_table.proofs.ListFacts.{all_append, all_drop}
use Rattle.rr_laws.proofs.Staying.{Shrinks}

module _ {X : Type 0} where
  -- what holds of each entry and of the message holds after it came
  pub all_put : (R : X → Type 0) (overflow : Bool) (capacity : ℕ) (entries : List X) (message : X) → AllByRecursion R entries → R message
      → AllByRecursion R (put overflow capacity entries message)
  all_put R overflow capacity entries message all one = go (is_full capacity entries) overflow
    where
      go : (full over : Bool) → AllByRecursion R (cond (not full)
          (entries ++ message ∷ []) (cond over (drop 1 entries ++ message ∷ []) entries))
      go false over = all_append R entries message all one
      go true true = all_append R (drop 1 entries) message (all_drop R 1 entries all) one
      go true false = all

  -- a list that has no more than its capacity has no more after a message came
  pub length-put_le : (overflow : Bool) (capacity : ℕ) (entries : List X) (message : X) → 0 < capacity → length entries ≤ capacity
      → length (put overflow capacity entries message) ≤ capacity
  length-put_le overflow capacity entries message some short = go (is_full capacity entries) overflow refl
    where
      go : (full over : Bool) → is_full capacity entries ≡ full
          → length (cond (not full) (entries ++ message ∷ []) (cond over (drop 1 entries ++ message ∷ []) entries)) ≤ capacity
      go false over e = omega (arith, length-append entries (message ∷ []), leb-false capacity (length entries) e)
      go true true e = omega (arith, length-append (drop 1 entries) (message ∷ []), length-drop 1 entries)
      go true false e = short

module _ {A X : Type 0} {cmp : A → A → Ordering} (o : IsTotalOrder cmp) (exact : fin_map.IsAntisymmetric cmp) where
  -- what holds of each list and of a new one at one key
  pub each_list_with : (R : A → List X → Type 0) (lists : Lists cmp X) (key : A) (xs : List X) → R key xs → ((k : A) → R k (at lists k))
      → (k : A) → R k (at (with_at lists key xs) k)
  each_list_with R lists key xs here each k = subst (R k) (sym (at-with_at o lists key xs k)) (go (cmp k key) refl)
    where
      go : (r : Ordering) → cmp k key ≡ r → R k (cond (is_eq r) xs (at lists k))
      go Less e = each k
      go Equal e = subst (λ j. R j xs) (sym (exact k key e)) here
      go Greater e = each k

  -- what holds of each entry and of a message holds after it came to the lists of some keys
  pub each_put : (R : X → Type 0) (overflow : Bool) (capacity : ℕ) (message : X) → R message → (keys : List A) (lists : Lists cmp X)
      → ((k : A) → AllByRecursion R (at lists k))
      → (k : A) → AllByRecursion R (at (fold (λ ls key. with_at ls key (put overflow capacity (at ls key) message)) lists keys) k)
  each_put R overflow capacity message one [] lists each = each
  each_put R overflow capacity message one (key ∷ keys) lists each =
      each_put R overflow capacity message one keys (with_at lists key (put overflow capacity (at lists key) message))
      (each_list_with (λ k xs. AllByRecursion R xs) lists key _ (all_put R overflow capacity (at lists key) message (each key) one) each)

  -- lists of which those under some keys were dropped
  pub shrinks_retained : (lists : Lists cmp X) (p : A → Bool) → Shrinks lists (fin_map.retain_keys lists p)
  shrinks_retained lists p key = go (p key) refl
    where
      go : (b : Bool) → p key ≡ b → (k : ℕ) × (at (fin_map.retain_keys lists p) key ≡ drop k (at lists key))
      go true e = (0, at-retain_keys o exact lists p key ∙ ap (λ b. cond b (at lists key) []) e)
      go false e = (
        length (at lists key),
        at-retain_keys o exact lists p key ∙ ap (λ b. cond b (at lists key) []) e
            ∙ sym (drop-length (at lists key)),
      )

  -- lists of which one lost its first entry
  pub shrinks_taken : (lists : Lists cmp X) (key : A) (x : X) (rest : List X) → at lists key ≡ x ∷ rest
      → Shrinks lists (with_at lists key rest)
  shrinks_taken lists key x rest e k = go (cmp k key) refl
    where
      go : (r : Ordering) → cmp k key ≡ r → (i : ℕ) × (at (with_at lists key rest) k ≡ drop i (at lists k))
      go Less c = (0, at-with_at o lists key rest k ∙ ap (λ r. cond (is_eq r) rest (at lists k)) c)
      go Greater c = (0, at-with_at o lists key rest k ∙ ap (λ r. cond (is_eq r) rest (at lists k)) c)
      go Equal c = (
        1,
        at-with_at o lists key rest k ∙ ap (λ r. cond (is_eq r) rest (at lists k)) c
            ∙ sym (ap (drop 1) (ap (at lists) (exact k key c) ∙ e)),
      )

module _ {T H K : Type 0} (limits : Limits) (servers : List (Server K)) (roles : Roles) (next : ℕ) (overflow : Bool)
    (message : RequestMessage T H) (some : 0 < limits.max_active_requests_per_client) where
  requests_with : (lists : Lists request_key_cmp (RequestMessage T H)) (key : RequestKey)
      → RequestFits limits servers roles next key message → RequestsFit limits servers roles next lists →
      RequestsFit limits servers roles next (with_at lists key (put overflow limits.max_active_requests_per_client (at lists key) message))
  requests_with lists key one fits =
      let entries = put overflow limits.max_active_requests_per_client (at lists key) message in
      record {
        each = each_list_with request_keys_total request_keys_exact
            (λ k xs. AllByRecursion (RequestFits limits servers roles next k) xs) lists key entries
            (all_put _ overflow limits.max_active_requests_per_client (at lists key) message (fits.each key) one) fits.each;
        short = each_list_with request_keys_total request_keys_exact
            (λ k xs. length xs ≤ limits.max_active_requests_per_client) lists key entries
            (length-put_le overflow limits.max_active_requests_per_client (at lists key) message some (fits.short key)) fits.short;
      }

  -- a request that came to some lists
  pub requests_with_put : (keys : List RequestKey) (lists : Lists request_key_cmp (RequestMessage T H))
      → AllByRecursion (λ key. RequestFits limits servers roles next key message) keys →
      RequestsFit limits servers roles next lists →
      RequestsFit limits servers roles next (fold (λ ls key. with_at ls key
      (put overflow limits.max_active_requests_per_client (at ls key) message)) lists keys)
  requests_with_put [] lists one fits = fits
  requests_with_put (key ∷ keys) lists one fits = requests_with_put keys _ one.1 (requests_with lists key one.0 fits)

-- a response that came to a list
pub responses_with_put : {T H K : Type 0} (limits : Limits) (clients : List (Client K)) (servers : List (Server K)) (roles : Roles)
    (next : ℕ) (overflow : Bool) (message : ResponseMessage T H) → 0 < limits.max_response_buffer_size →
    (lists : Lists response_key_cmp (ResponseMessage T H)) (key : ResponseKey) → ResponseFits clients servers roles next key message
    → ResponsesFit limits clients servers roles next lists →
    ResponsesFit limits clients servers roles next (with_at lists key (put overflow limits.max_response_buffer_size (at lists key) message))
responses_with_put limits clients servers roles next overflow message some lists key one fits =
    let entries = put overflow limits.max_response_buffer_size (at lists key) message in
    record {
      each = each_list_with response_keys_total response_keys_exact
          (λ k xs. AllByRecursion (ResponseFits clients servers roles next k) xs) lists key entries
          (all_put _ overflow limits.max_response_buffer_size (at lists key) message (fits.each key) one) fits.each;
      short = each_list_with response_keys_total response_keys_exact (λ k xs. length xs ≤ limits.max_response_buffer_size) lists key entries
          (length-put_le overflow limits.max_response_buffer_size (at lists key) message some (fits.short key)) fits.short;
    }
