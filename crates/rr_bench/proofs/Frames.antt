-- Servers in a list.
use Rattle.std.proofs.Common.{◌≡◌, ◌<◌, ℕ, List, [], ◌∷◌, ◌++◌, length, get_or, slice_index_or, refl, sym, ap, ◌∙◌, arith, length-append}
use Rattle.std.proofs.lemmas.List.{get_or_push}
use Rattle.std.proofs.lemmas.List.Elements.{All-nil, All-cons, All-append}
use Rattle.rr_protocol.specs.declared.kind.Kind.TheVariants as kind
use Rattle.rr_protocol.specs.State.{State}
use Rattle.rr_ports.specs.Facts.{IsA, Names, Keeps}
use Rattle.rr_ports.proofs.Frames.{kept}
use Rattle.rr_bench.specs.Onlookers.{AreServers}

module _ {Q QH P PH K : Type 0} (s : State Q QH P PH K) where
  pub none_yet : AreServers s []
  unfolding AreServers
  none_yet = All-nil (λ server. Names s server kind.Server)

  pub one_more : (servers : List ℕ) (server : ℕ) → AreServers s servers → Names s server kind.Server
      → AreServers s (servers ++ server ∷ [])
  unfolding AreServers
  one_more servers server are names =
      All-append (λ server. Names s server kind.Server) servers (server ∷ []) are
      (All-cons (λ server. Names s server kind.Server) server [] names (All-nil (λ server. Names s server kind.Server)))

  pub one_of_them : (servers : List ℕ) (i : ℕ) (d : ℕ) → AreServers s servers → i < length servers
      → Names s (slice_index_or servers i d) kind.Server
  unfolding AreServers
  one_of_them servers i d are h = are i d h

-- servers stay servers
pub kept_servers : {Q QH P PH K : Type 0} (old new : State Q QH P PH K) (servers : List ℕ) → Keeps [] old new
    → AreServers old servers → AreServers new servers
unfolding AreServers
kept_servers old new servers keeps are i d h = kept [] old new (slice_index_or servers i d) (IsA kind.Server) keeps tt (are i d h)

-- what leaves a list is what came last
pub popped : (all before after : List ℕ) (n m : ℕ) → all ≡ before ++ n ∷ [] → all ≡ after ++ m ∷ [] → n ≡ m
popped all before after n m came left =
    let same : length after ≡ length before =
    omega (arith, length-append before (n ∷ []), length-append after (m ∷ []), ap length (sym came ∙ left)) in
    sym (get_or_push before n 0 (length before) refl) ∙ ap (λ l. get_or l (length before) 0) (sym came ∙ left)
    ∙ get_or_push after m 0 (length before) same

pub ruleset servers = (none_yet, one_more, one_of_them, kept_servers)
