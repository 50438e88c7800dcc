-- The marks of a request that was sent: each connected server may answer it.
use Rattle.std.proofs.Common.{◌≡◌, ◌≢◌, ◌<◌, ◌+◌, ◌*◌, ◌≤◌, ℕ, suc, true, false, List, [], ◌∷◌, Some, length, get_or, map, refl, sym, ap, ◌∙◌, ⊎_elim, arith}
use Rattle.std.specs.Prelude.{◌==◌, slice_get, slice_set, filter}
use Rattle.std.proofs.lemmas.Bool.{cases_eq, cases_lt, eq-eqb, ne_eqb}
use Rattle.std.proofs.lemmas.List.{get_or-set_same, get_or-set_other, length-set}
use Rattle.rr_store.specs.Parts.{Parts, ServerPart}
use Rattle.rr_store.specs.Views.{no_server, sender_of, is_marked, marked}
use Rattle.rr_store.specs.Sound.{IsSoundStore, Hand}
use Rattle.rr_store.specs.Sending.{marks_for, with_marks}
use Rattle.rr_store.proofs.querying.Connected.{mark_within}
use Rattle.rr_store.proofs.base.lists.EachOnce.{IsApart, passed_by, reached, stays}
use Rattle.rr_store.proofs.base.views.Counts.{listed}
use Rattle.rr_store.proofs.releasing.active.MayAnswer.{mark_of, filter_same}
use Rattle.rr_store.proofs.base.lists.Replaced.{set_past}
use Rattle.rr_store.proofs.base.senders.Numbered.{numbered_once}
use Rattle.rr_store.proofs.base.senders.Connected.{servers_placed}

-- where each element passes, none goes
pub filter_all : {X : Type 0} (xs : List X) → filter (λ x. true) xs ≡ xs
filter_all [] = refl
filter_all {X} (x ∷ xs) = ap (λ (ys : List X). x ∷ ys) (filter_all xs)

-- a mark is set
abbrev set_one : List ℕ → ℕ × ℕ → List ℕ
set_one marks mark = slice_set marks mark.0 mark.1

-- there are as many marks as before
pub as_many_marks : (marks : List ℕ) (set : List (ℕ × ℕ)) → length (with_marks marks set) ≡ length marks
as_many_marks marks set = stays set_one (λ ms. length ms) (λ ms m. length-set ms m.0 m.1) set marks

module _ {X : Type 0} (index number : X → ℕ) where
  abbrev mark_for : X → ℕ × ℕ
  mark_for x = (index x, number x)

  abbrev look : List ℕ → ℕ → ℕ
  look marks j = get_or marks j no_server

  here : (marks : List ℕ) (mark : ℕ × ℕ) → mark.0 < length marks → look (set_one marks mark) mark.0 ≡ mark.1
  here marks mark inside = get_or-set_same marks mark.0 mark.1 no_server inside

  there : (marks : List ℕ) (mark : ℕ × ℕ) (j : ℕ) → mark.0 ≢ j → look (set_one marks mark) j ≡ look marks j
  there marks mark j other = get_or-set_other marks mark.0 j mark.1 no_server (λ e. other (sym e))

  keeps : (marks : List ℕ) (mark : ℕ × ℕ) (j : ℕ) → j < length marks → j < length (set_one marks mark)
  keeps marks mark j h = omega (arith, h, length-set marks mark.0 mark.1)

  -- another mark is as it was
  pub set_there : (xs : List X) (marks : List ℕ) (j : ℕ) → ((i : ℕ) (x : X) → slice_get xs i ≡ Some x → index x ≢ j)
      → look (with_marks marks (map mark_for xs)) j ≡ look marks j
  set_there = passed_by set_one (λ m. m.0) look (λ m old. m.1) (λ marks j. j < length marks) here there keeps mark_for

  -- of these each stands once
  pub set_here : (xs : List X) (marks : List ℕ) → IsApart index xs → (i : ℕ) (x : X) → slice_get xs i ≡ Some x → index x < length marks
      → look (with_marks marks (map mark_for xs)) (index x) ≡ number x
  set_here = reached set_one (λ m. m.0) look (λ m old. m.1) (λ marks j. j < length marks) here there keeps mark_for

  -- no number comes that none of these has
  pub none_set : (xs : List X) (marks : List ℕ) (j server : ℕ) → ((i : ℕ) (x : X) → slice_get xs i ≡ Some x → number x ≢ server)
      → (get_or marks j no_server == server) ≡ false
      → (get_or (with_marks marks (map (λ x. (index x, number x)) xs)) j no_server == server) ≡ false
  none_set [] marks j server other none = none
  none_set (x ∷ xs) marks j server other none =
      none_set xs (set_one marks (index x, number x)) j server (λ i y at. other (suc i) y at)
      (⊎_elim
      (λ e. ⊎_elim
      (λ h. ap (λ k. get_or (set_one marks (index x, number x)) k no_server == server) (sym e)
      ∙ ap (λ m. m == server) (get_or-set_same marks (index x) (number x) no_server h) ∙ ne_eqb (number x) server (other 0 x refl))
      (λ h. ap (λ (ms : List ℕ). get_or ms j no_server == server) (set_past marks (index x) (number x) h) ∙ none)
      (cases_lt (index x) (length marks)))
      (λ n. ap (λ m. m == server) (get_or-set_other marks (index x) j (number x) no_server (λ e. n (sym e))) ∙ none)
      (cases_eq (index x) j))

module _ {Q QH P PH K : Type 0} (p : Parts Q QH P PH K) (hand : Hand) (sound : IsSoundStore p hand) where
  pub places_apart : IsApart (λ (s : ServerPart K). s.receiver) p.servers
  places_apart i j s t at there e = sound.server_ports.receivers_once i j s.connected t.connected
      (listed (λ (s : ServerPart K). s.connected) p.servers i s at) (listed (λ (s : ServerPart K). s.connected) p.servers j t there) e

  pub numbers_apart : IsApart (λ (s : ServerPart K). s.port.id) p.servers
  numbers_apart i j s t at there e = numbered_once sound.server_ports i j s.connected t.connected
      (listed (λ (s : ServerPart K). s.connected) p.servers i s at) (listed (λ (s : ServerPart K). s.connected) p.servers j t there) e

  -- a server's number is below the next one
  pub servers_below : (i : ℕ) (s : ServerPart K) → slice_get p.servers i ≡ Some s → s.port.id < p.next
  servers_below i s at =
      let own = sound.server_ports.own i s.connected (listed (λ (s : ServerPart K). s.connected) p.servers i s at) in
      omega (arith, sound.server_ports.numbered s.sender own.0, own.1)

  module _ (sender slot : ℕ) (there : sender < length p.client_senders)
      (inside : slot < length (sender_of sender p.client_senders).messages.held) where
    abbrev old : List ℕ
    old = (sender_of sender p.client_senders).may_answer

    abbrev pub new : List ℕ
    new = with_marks old (marks_for p.limits.max_servers slot p.servers)

    abbrev index : ServerPart K → ℕ
    index s = slot * p.limits.max_servers + s.receiver

    indices_apart : IsApart index p.servers
    indices_apart i j s t at at_t e = places_apart i j s t at at_t (omega (arith, e))

    -- each server may answer
    pub awaited_here : (i : ℕ) (s : ServerPart K) → slice_get p.servers i ≡ Some s
        → is_marked p.limits.max_servers new slot s.receiver s.port.id ≡ true
    awaited_here i s at =
        eq-eqb _ s.port.id (set_here index (λ s. s.port.id) p.servers old indices_apart i s at
        (mark_within slot (length (sender_of sender p.client_senders).messages.held) p.limits.max_servers s.receiver (length old) inside
        (servers_placed p hand sound i s at) (sound.sized.marks sender there)))

    -- another slot's marks are as they were
    pub awaited_there : (j r server : ℕ) → r < p.limits.max_servers → slot ≢ j
        → is_marked p.limits.max_servers new j r server ≡ is_marked p.limits.max_servers old j r server
    awaited_there j r server fits other =
        ap (λ m. m == server) (set_there index (λ s. s.port.id) p.servers old (j * p.limits.max_servers + r)
        (λ i s at same. other (mark_of p.limits.max_servers slot s.receiver j r (servers_placed p hand sound i s at) fits same).0))

    -- and a server that is still to come may answer none
    pub awaited_none : (j r server : ℕ) → p.next ≤ server → is_marked p.limits.max_servers old j r server ≡ false
        → is_marked p.limits.max_servers new j r server ≡ false
    awaited_none j r server later none =
        none_set index (λ s. s.port.id) p.servers old (j * p.limits.max_servers + r) server
        (λ i s at same. absurd (omega (arith, same, servers_below i s at, later))) none

    -- so the request waits for all servers
    pub waits_for_all : marked p.limits.max_servers p.servers new slot ≡ map (λ s. s.port.id) p.servers
    waits_for_all =
        ap (map (λ (s : ServerPart K). s.port.id))
        (filter_same (λ (s : ServerPart K). is_marked p.limits.max_servers new slot s.receiver s.port.id)
        (λ s. true) p.servers awaited_here ∙ filter_all p.servers)

    -- and another one for those for which it did
    pub waits_as_before : (j : ℕ) → slot ≢ j → marked p.limits.max_servers p.servers new j ≡ marked p.limits.max_servers p.servers old j
    waits_as_before j other =
        ap (map (λ (s : ServerPart K). s.port.id))
        (filter_same (λ (s : ServerPart K). is_marked p.limits.max_servers new j s.receiver s.port.id)
        (λ s. is_marked p.limits.max_servers old j s.receiver s.port.id) p.servers
        (λ i s at. awaited_there j s.receiver s.port.id (servers_placed p hand sound i s at) other))
