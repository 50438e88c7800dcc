-- Requests and responses stay apart as roles come and go and entries are dropped.
use Rattle.std.proofs.Common.{◌≡◌, ℕ, suc, zero, ◌+◌, ◌<◌, ◌≤◌, Bool, true, false, eqb, List, [], ◌∷◌, drop, Some, None, refl, sym, ap, ◌∙◌, subst, ⊎_elim, arith}
use Rattle.std.specs.Prelude.{count_by}
use Rattle.std.specs.List.{AllByRecursion}
use Rattle.std.specs.FinMap.{get, insert, remove}
use Rattle.std.proofs.lemmas.Bool.{cases_eq, eqb-true}
use Rattle.rr_table.specs.Maps.{mark}
use Rattle.rr_table.proofs.MapLaws.{get-insert_other, get-remove_same, get-remove_other}
use Rattle.rr_protocol.specs.declared.limits.Limits.{Limits}
use Rattle.rr_protocol.specs.Lists.{Lists, at}
use Rattle.rr_protocol.specs.Keys.{ResponseKey, response_key_cmp}
use Rattle.rr_protocol.specs.Messages.{ResponseMessage}
use Rattle.rr_protocol.specs.Ports.{Client, Server}
use Rattle.rr_laws.specs.Roles.{Question, Role, Roles, asking, asking_at}
use Rattle.rr_laws.specs.Reached.{ResponseFits, ResponsesFit}
use Rattle.rr_laws.specs.Apart.{ChannelsApart, standing, ResponsesApart, AreApart}
use Rattle.rr_table.proofs.Counting.{count-cons}
use Rattle.rr_laws.proofs.Staying.{Shrinks, asking_stays_with, asking_stays_without}

-- no request is asked for that was not
abbrev pub AsksNothingNew : Roles → Roles → Type 0
AsksNothingNew roles later = (k : ℕ) (p : Question) → asking_at later k ≡ Some p → asking_at roles k ≡ Some p

-- no handle under a number that was given and had none
abbrev pub NamesNothingNew : Roles → Roles → ℕ → Type 0
NamesNothingNew roles later next = (k : ℕ) → k < next → get roles k ≡ None → get later k ≡ None

-- channels stay apart where no request is asked for anew
pub channels_stay_apart : (roles later : Roles) → AsksNothingNew roles later → ChannelsApart roles → ChannelsApart later
channels_stay_apart roles later old apart n k q p e f client channel = apart n k q p (old n q e) (old k p f) client channel

module _ (roles : Roles) where
  -- a role that asks for what the one in its place asked for, or for nothing
  pub asks_nothing_new_with : (n : ℕ) (role : Role) → ((p : Question) → asking role ≡ Some p → asking_at roles n ≡ Some p)
      → AsksNothingNew roles (insert roles n role)
  asks_nothing_new_with n role same k p e = asking_stays_with roles n (k + 1) role same k p (omega arith) e

  -- one role less
  pub asks_nothing_new_without : (n : ℕ) → AsksNothingNew roles (remove roles n)
  asks_nothing_new_without n k p e = asking_stays_without roles n (k + 1) k p (omega arith) e

  -- a role under the next number names no number that was given
  pub names_nothing_new_with_next : (next : ℕ) (role : Role) → NamesNothingNew roles (insert roles next role) next
  names_nothing_new_with_next next role k below none = get-insert_other roles next role k (λ is. absurd (omega arith)) ∙ none

  -- nor does one in the place of another
  pub names_nothing_new_at : (n next : ℕ) (old role : Role) → get roles n ≡ Some old → NamesNothingNew roles (insert roles n role) next
  names_nothing_new_at n next old role at k below none = get-insert_other roles n role k
      (λ is. absurd (let f : None ≡ Some old = sym none ∙ ap (get roles) is ∙ at in cc)) ∙ none

  -- nor does one role less
  pub names_nothing_new_without : (n next : ℕ) → NamesNothingNew roles (remove roles n) next
  names_nothing_new_without n next k below none = ⊎_elim
      (λ is. get-remove_same roles n k is)
      (λ other. get-remove_other roles n k other ∙ none)
      (cases_eq k n)

-- what is left of a list has no more that pass a test
pub count-drop : {X : Type 0} (p : X → Bool) (k : ℕ) (xs : List X) → count_by p (drop k xs) ≤ count_by p xs
count-drop p zero xs = omega arith
count-drop p (suc k) [] = omega arith
count-drop p (suc k) (x ∷ xs) = omega (arith, count-drop p k xs, count-cons p x xs)

module _ {T H : Type 0} where
  -- lists that lost entries at the front have no more of any number
  pub standing_shrinks : (lists shorter : Lists response_key_cmp (ResponseMessage T H)) → Shrinks lists shorter
      → (number : ℕ) (key : ResponseKey) → standing shorter number key ≤ standing lists number key
  standing_shrinks lists shorter shrinks number key =
      subst (λ entries. count_by (λ m. eqb m.number number) entries ≤ standing lists number key) (sym (shrinks key).1)
      (count-drop (λ m. eqb m.number number) (shrinks key).0 (at lists key))

  -- a number that stands somewhere was given
  pub standing_below : {K : Type 0} {clients : List (Client K)} {servers : List (Server K)} (limits : Limits) (roles : Roles) (next : ℕ)
      (lists : Lists response_key_cmp (ResponseMessage T H)) → ResponsesFit limits clients servers roles next lists
      → (number : ℕ) (key : ResponseKey) → 0 < standing lists number key → number < next
  standing_below {clients = clients} {servers = servers} limits roles next lists fits number key some =
      go (at lists key) (fits.each key) some
    where
      go : (entries : List (ResponseMessage T H)) → AllByRecursion (ResponseFits clients servers roles next key) entries
          → 0 < count_by (λ m. eqb m.number number) entries → number < next
      go [] all some = absurd (omega arith)
      go (m ∷ entries) all some = first (go entries all.1) (eqb m.number number) refl
        where
          first : (0 < count_by (λ x. eqb x.number number) entries → number < next) → (b : Bool) → eqb m.number number ≡ b → number < next
          first rest true is = omega (arith, eqb-true m.number number is, all.0.below)
          first rest false is = rest (omega (
            arith,
            some,
            count-cons (λ (x : ResponseMessage T H). eqb x.number number) m entries,
            ap mark is,
          ))

  -- responses stay apart where no list has more of a number, and no number that was given names a new handle
  pub responses_stay_apart : {K : Type 0} {clients : List (Client K)} {servers : List (Server K)} (limits : Limits) (roles later : Roles)
      (next : ℕ) (lists shorter : Lists response_key_cmp (ResponseMessage T H)) → ResponsesFit limits clients servers roles next lists →
      NamesNothingNew roles later next → ((number : ℕ) (key : ResponseKey) → standing shorter number key ≤ standing lists number key)
      → ResponsesApart roles lists → ResponsesApart later shorter
  responses_stay_apart limits roles later next lists shorter fits old fewer apart =
      record {
        once = λ number key. omega (arith, fewer number key, apart.once number key);
        one_list = λ number key other here there. apart.one_list number key other (omega (arith, fewer number key, here))
            (omega (arith, fewer number other, there));
        no_handle = λ number key here.
            let before : 0 < standing lists number key = omega (arith, fewer number key, here) in
            old number (standing_below limits roles next lists fits number key before) (apart.no_handle number key before);
      }

  -- both stay, where the lists of responses are the same
  pub stay_apart : {K : Type 0} {clients : List (Client K)} {servers : List (Server K)} (limits : Limits) (roles later : Roles) (next : ℕ)
      (lists shorter : Lists response_key_cmp (ResponseMessage T H)) → ResponsesFit limits clients servers roles next lists →
      AsksNothingNew roles later → NamesNothingNew roles later next
      → ((number : ℕ) (key : ResponseKey) → standing shorter number key ≤ standing lists number key) → AreApart roles lists
      → AreApart later shorter
  stay_apart limits roles later next lists shorter fits asks names fewer apart =
      record {
        channels = channels_stay_apart roles later asks apart.channels;
        responses = responses_stay_apart limits roles later next lists shorter fits names fewer apart.responses;
      }

  -- the same lists have as many
  pub no_fewer : (lists : Lists response_key_cmp (ResponseMessage T H)) (number : ℕ) (key : ResponseKey)
      → standing lists number key ≤ standing lists number key
  no_fewer lists number key = omega arith
