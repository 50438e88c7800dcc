-- The value of a server goes.
use Rattle.std.proofs.Common.{◌≡◌, ◌<◌, ℕ, None, Some, Option, length, false, refl, sym, ap, ◌∙◌, subst, arith}
use Rattle.std.specs.Prelude.{◌==◌, IsSome, IsSomeAnd, option_map, slice_get, slice_set}
use Rattle.std.specs.List.{position}
use Rattle.std.proofs.lemmas.Bool.{eqb-true}
use Rattle.std.proofs.lemmas.List.{get_or-set_same, length-set}
use Rattle.std.proofs.lemmas.Option.{slice_get_within, slice_get-get_or}
use Rattle.rr_protocol.specs.declared.kind.Kind.TheVariants as kind
use Rattle.rr_protocol.specs.Ports.{Server}
use Rattle.rr_protocol.specs.Queries.{kind_at}
use Rattle.rr_protocol.specs.Releases.{without_port_value}
use Rattle.rr_store.specs.Leaving.{without_server_value}
use Rattle.rr_store.specs.Order.{IsRising}
use Rattle.rr_store.specs.Parts.{ServerPart, Parts}
use Rattle.rr_store.specs.Reaching.{IsCore}
use Rattle.rr_store.specs.Sound.{IsSoundStore, empty_hand}
use Rattle.rr_store.specs.Views.{server_of, state_of}
use Rattle.rr_store.proofs.base.lists.Replaced.{Standing, find_mapped, standing, standing_nowhere}
use Rattle.rr_store.proofs.base.lookups.Numbers.{server_there}
use Rattle.rr_store.proofs.base.senders.Owners.{servers_rise}
use Rattle.rr_store.proofs.base.views.Counts.{listed}
use Rattle.rr_releasing.proofs.laws.leaving.ServerValue.{server_value_sound}
use Rattle.rr_releasing.proofs.laws.leaving.ServerValueView.{server_value_view}

module _ {Q QH P PH K : Type 0} (p : Parts Q QH P PH K) (core : IsCore p) (n : ℕ)
    (its_kind : kind_at (state_of p) n ≡ Some kind.Server) where
  -- there is a server with the number
  pub found_asked : IsSome (position (λ (s : ServerPart K). s.port.id == n) p.servers)
  found_asked = go (position (λ (s : ServerPart K). s.port.id == n) p.servers) refl
    where
      go : (o : Option ℕ) → position (λ (s : ServerPart K). s.port.id == n) p.servers ≡ o → IsSome o
      go (Some i) e = refl
      go None e = absurd (server_there (state_of p) n its_kind (find_mapped server_of (λ (d : Server K). d.id == n) p.servers
          ∙ ap (option_map server_of) (standing_nowhere (λ (s : ServerPart K). s.port.id == n) p.servers e)))

  -- and servers stand in the order of their numbers
  pub order_asked : IsRising (λ (s : ServerPart K). s.port.id) p.servers
  order_asked = servers_rise p empty_hand core.sound

  module _ (index : ℕ) (found_at : position (λ (s : ServerPart K). s.port.id == n) p.servers ≡ Some index) where
    it : Standing (λ (s : ServerPart K). s.port.id == n) p.servers index
    it = standing (λ (s : ServerPart K). s.port.id == n) p.servers index found_at

    named : it.it.port.id ≡ n
    named = eqb-true _ _ it.passes

    pub index_asked : index < length p.servers
    index_asked = slice_get_within p.servers index it.it it.at

    pub its_sender_asked : IsSomeAnd (slice_get p.servers index) (λ s. s.sender < length p.server_senders)
    its_sender_asked = subst (λ o. IsSomeAnd o (λ s. s.sender < length p.server_senders)) (sym it.at)
        (core.sound.server_ports.own index it.it.connected (listed (λ (s : ServerPart K). s.connected) p.servers index it.it it.at)).0

    module _ (t : Parts Q QH P PH K)
        (ended : IsSomeAnd (slice_get p.servers index) (λ s. t ≡ without_server_value p index s)) where
      t_is : t ≡ without_server_value p index it.it
      t_is = subst (λ o. IsSomeAnd o (λ s. t ≡ without_server_value p index s)) it.at ended

      pub sound_then : IsSoundStore t empty_hand
      sound_then = subst (λ q. IsSoundStore q empty_hand) (sym t_is) (server_value_sound p core.sound index it.it it.at)

      -- the server without its value
      abbrev gone : ServerPart K
      gone = record it.it { connected = record it.it.connected { port = record it.it.port { has_value = false } } }

      pub named_then : IsSomeAnd (slice_get t.servers index) (λ s. s.port.id ≡ n)
      named_then =
          subst (λ (q : Parts Q QH P PH K). IsSomeAnd (slice_get q.servers index) (λ s. s.port.id ≡ n)) (sym t_is)
          (subst (λ o. IsSomeAnd o (λ (s : ServerPart K). s.port.id ≡ n)) (sym set_there) named)
        where
          set_there : slice_get (slice_set p.servers index gone) index ≡ Some gone
          set_there =
              slice_get-get_or (slice_set p.servers index gone) index gone
              (omega (arith, index_asked, length-set p.servers index gone))
              ∙ ap Some (get_or-set_same p.servers index gone gone index_asked)

      pub gone_then : state_of t ≡ without_port_value (state_of p) n
      gone_then = ap state_of t_is ∙ server_value_view p core.sound index it.it it.at ∙ ap (without_port_value (state_of p)) named
