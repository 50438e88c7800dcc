-- What moves from one state to another: roles that are put in or go, and lists of responses that are dropped.
use Rattle.std.proofs.Common.{◌≡◌, ℕ, ◌≤◌, Bool, true, false, cond, List, [], map, Option, Some, None, refl, sym, ap, ◌∙◌, subst, ⊎_elim, inl, inr, arith}
use Rattle.std.specs.Prelude.{◌⊎◌, option_and_then}
use Rattle.std.specs.Option.{option_map_or}
use Rattle.std.specs.FinMap as fin_map
use Rattle.std.specs.FinMap.{get, insert}
use Rattle.std.proofs.lemmas.Bool.{cases_eq}
use Rattle.rr_table.proofs.MapLaws.{get-insert_same, get-insert_other, get-insert_cases}
use Rattle.rr_protocol.specs.Lists.{Lists, at}
use Rattle.rr_protocol.specs.Keys.{ResponseKey, response_key_cmp}
use Rattle.rr_protocol.specs.Messages.{ResponseMessage}
use Rattle.rr_protocol.specs.State.{State}
use Rattle.rr_protocol.proofs.KeyLaws.{response_keys_total, response_keys_exact}
use Rattle.rr_protocol.proofs.ListsLaws.{at-retain_keys}
use Rattle.rr_laws.specs.Roles.{Question, Role, Roles, roles_of}
use Rattle.rr_laws.specs.Following.{waiting_question, is_servers, channel_key, entries_for, queued, Moves, MovesQuietly}

module _ {T H : Type 0} where
  -- each list is the same or was dropped
  abbrev pub DropsLists : Lists response_key_cmp (ResponseMessage T H) → Lists response_key_cmp (ResponseMessage T H) → Type 0
  DropsLists lists rest = (key : ResponseKey) → (at rest key ≡ at lists key) ⊎ (at rest key ≡ [])

  -- no list was dropped
  pub drops_none : (lists : Lists response_key_cmp (ResponseMessage T H)) → DropsLists lists lists
  drops_none lists key = inl refl

  -- those under some keys were
  pub drops_retained : (lists : Lists response_key_cmp (ResponseMessage T H)) (kept : ResponseKey → Bool)
      → DropsLists lists (fin_map.retain_keys lists kept)
  drops_retained lists kept key = go (kept key) refl
    where
      go : (b : Bool) → kept key ≡ b → (at (fin_map.retain_keys lists kept) key ≡ at lists key)
          ⊎ (at (fin_map.retain_keys lists kept) key ≡ [])
      go true e = inl (at-retain_keys response_keys_total response_keys_exact lists kept key ∙ ap (λ b. cond b (at lists key) []) e)
      go false e = inr (at-retain_keys response_keys_total response_keys_exact lists kept key ∙ ap (λ b. cond b (at lists key) []) e)

  -- and more after that
  pub drops_more : (lists rest less : Lists response_key_cmp (ResponseMessage T H)) → DropsLists lists rest → DropsLists rest less
      → DropsLists lists less
  drops_more lists rest less first then key = ⊎_elim
      (λ same. ⊎_elim (λ was. inl (same ∙ was)) (λ gone. inr (same ∙ gone)) (first key))
      (λ gone. inr gone)
      (then key)

  -- the entries for a request that waits
  pub entries-waiting : (roles : Roles) (lists : Lists response_key_cmp (ResponseMessage T H)) (server p : ℕ) (role : Role) (q : Question)
      → get roles p ≡ Some role → waiting_question role ≡ Some q →
      entries_for roles lists server p ≡ map (λ m. m.number) (at lists (channel_key server q))
  entries-waiting roles lists server p role q e w =
      ap (λ o. option_map_or (λ q. map (λ m. m.number) (at lists (channel_key server q))) o []) (ap (option_and_then waiting_question) e
      ∙ w)

  -- no role of a request that waits has any
  pub entries-none : (roles : Roles) (lists : Lists response_key_cmp (ResponseMessage T H)) (server p : ℕ)
      → option_and_then waiting_question (get roles p) ≡ None → entries_for roles lists server p ≡ []
  entries-none roles lists server p none = ap (λ o. option_map_or (λ q. map (λ m. m.number) (at lists (channel_key server q))) o []) none

  -- the same role has the same entries
  pub entries-same_role : (roles later : Roles) (lists : Lists response_key_cmp (ResponseMessage T H)) (server p : ℕ)
      → get later p ≡ get roles p → entries_for later lists server p ≡ entries_for roles lists server p
  entries-same_role roles later lists server p same = ap (λ r. option_map_or (λ q. map (λ m. m.number) (at lists (channel_key server q)))
      (option_and_then waiting_question r) []) same

  -- roles that were there, over lists of which some were dropped, have the same entries or none
  pub entries_fewer : (roles later : Roles) (lists rest : Lists response_key_cmp (ResponseMessage T H))
      → ((n : ℕ) (role : Role) → get later n ≡ Some role → get roles n ≡ Some role) → DropsLists lists rest →
      (server p : ℕ) → (entries_for later rest server p ≡ []) ⊎ (entries_for later rest server p ≡ entries_for roles lists server p)
  entries_fewer roles later lists rest was drops server p = go (get later p) refl
    where
      go : (o : Option Role) → get later p ≡ o → (entries_for later rest server p ≡ [])
          ⊎ (entries_for later rest server p ≡ entries_for roles lists server p)
      go None is = inl (entries-none later rest server p (ap (option_and_then waiting_question) is))
      go (Some role) is = asked (waiting_question role) refl
        where
          asked : (o : Option Question) → waiting_question role ≡ o → (entries_for later rest server p ≡ [])
              ⊎ (entries_for later rest server p ≡ entries_for roles lists server p)
          asked None none = inl (entries-none later rest server p (ap (option_and_then waiting_question) is ∙ none))
          asked (Some q) some = ⊎_elim
              (λ same. inr (entries-waiting later rest server p role q is some ∙ ap (map (λ m. m.number)) same
              ∙ sym (entries-waiting roles lists server p role q (was p role is) some)))
              (λ gone. inl (entries-waiting later rest server p role q is some ∙ ap (map (λ m. m.number)) gone))
              (drops (channel_key server q))

  -- the entries for a role that waits for nothing
  pub none_for : (roles : Roles) (lists : Lists response_key_cmp (ResponseMessage T H)) (n : ℕ) (role : Role) → waiting_question role ≡ None
      → (server : ℕ) → entries_for (insert roles n role) lists server n ≡ []
  none_for roles lists n role none server = entries-none (insert roles n role) lists server n
      (ap (option_and_then waiting_question) (get-insert_same roles n role n refl) ∙ none)

module _ {Q QH P PH K : Type 0} where
  -- roles that were there, and lists of which some were dropped
  pub moves_quietly : (old new : State Q QH P PH K) → old.next ≤ new.next
      → ((n : ℕ) (role : Role) → get (roles_of new.handles) n ≡ Some role → get (roles_of old.handles) n ≡ Some role) →
      DropsLists old.responses new.responses → MovesQuietly old new
  moves_quietly old new more was drops = record {
    next = more;
    roles = λ n role servers e. inl (was n role e);
    entries = λ server p. entries_fewer (roles_of old.handles) (roles_of new.handles) old.responses new.responses was drops server p;
  }

  -- the same roles and lists
  pub moves_same : (old new : State Q QH P PH K) → old.next ≤ new.next → roles_of new.handles ≡ roles_of old.handles
      → new.responses ≡ old.responses → MovesQuietly old new
  moves_same old new more same lists =
      moves_quietly old new more (λ n role e. sym (ap (λ r. get r n) same) ∙ e) (λ key. inl (ap (λ l. at l key) lists))

  -- what moves, and then moves quietly
  pub then_quietly : {Gains : ℕ → Role → Type 0} {GoesOn : ℕ → ℕ → List ℕ → List ℕ → Type 0} (old mid new : State Q QH P PH K)
      → Moves Gains GoesOn old mid → MovesQuietly mid new → Moves Gains GoesOn old new
  then_quietly {Gains} {GoesOn} old mid new first then = record {
    next = omega (arith, first.next, then.next);
    roles = λ n role servers e. ⊎_elim (λ was. first.roles n role servers was) (λ gained. absurd gained) (then.roles n role servers e);
    entries = λ server p. ⊎_elim
        (λ gone. inl gone)
        (λ same. ⊎_elim
        (λ gone. inl (same ∙ gone))
        (λ goes. inr (subst (GoesOn server p (queued old server p)) (sym same) goes))
        (first.entries server p))
        (then.entries server p);
  }

  -- one more role, over the same lists, where no entries stand for it
  pub moves_with_role : {Gains : ℕ → Role → Type 0} (old new : State Q QH P PH K) (n : ℕ) (role : Role) → old.next ≤ new.next
      → roles_of new.handles ≡ insert (roles_of old.handles) n role → new.responses ≡ old.responses →
      (is_servers role ≡ true → Gains n role) → ((server : ℕ)
      → entries_for (insert (roles_of old.handles) n role) old.responses server n ≡ [])
      → Moves Gains (λ server p before after. after ≡ before) old new
  moves_with_role {Gains} old new n role more same lists gains none = record {
    next = more;
    roles = λ k other servers e. ⊎_elim
        (λ this. inr (subst (λ r. is_servers r ≡ true → Gains k r) this.1
        (subst (λ j. is_servers role ≡ true → Gains j role) (sym this.0) gains) servers))
        (λ was. inl was.1)
        (get-insert_cases (roles_of old.handles) n role k other (sym (ap (λ r. get r k) same) ∙ e));
    entries = λ server p.
        let now : queued new server p ≡ entries_for (insert (roles_of old.handles) n role) old.responses server p =
        ap (λ r. entries_for r new.responses server p) same ∙ ap
        (λ l. entries_for (insert (roles_of old.handles) n role) l server p) lists in
        ⊎_elim
        (λ is. inl (now ∙ subst (λ j. entries_for (insert (roles_of old.handles) n role) old.responses server j ≡ []) (sym is)
        (none server)))
        (λ other. inr (now ∙ entries-same_role (roles_of old.handles) (insert (roles_of old.handles) n role) old.responses server p
        (get-insert_other (roles_of old.handles) n role p other)))
        (cases_eq p n);
  }
