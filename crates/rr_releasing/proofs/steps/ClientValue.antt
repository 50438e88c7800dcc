-- The value of a client goes.
use Rattle.std.proofs.Common.{◌≡◌, ◌<◌, ℕ, None, Some, Option, length, false, refl, sym, ap, ◌∙◌, subst, arith}
use Rattle.std.specs.Prelude.{◌==◌, IsSome, IsSomeAnd, option_map, slice_get, slice_set}
use Rattle.std.specs.List.{position}
use Rattle.std.proofs.lemmas.Bool.{eqb-true}
use Rattle.std.proofs.lemmas.List.{get_or-set_same, length-set}
use Rattle.std.proofs.lemmas.Option.{slice_get_within, slice_get-get_or}
use Rattle.rr_protocol.specs.declared.kind.Kind.TheVariants as kind
use Rattle.rr_protocol.specs.Ports.{Client}
use Rattle.rr_protocol.specs.Queries.{kind_at}
use Rattle.rr_protocol.specs.Releases.{without_port_value}
use Rattle.rr_store.specs.Leaving.{without_client_value}
use Rattle.rr_store.specs.Order.{IsRising}
use Rattle.rr_store.specs.Parts.{ClientPart, Parts}
use Rattle.rr_store.specs.Reaching.{IsCore}
use Rattle.rr_store.specs.Sound.{IsSoundStore, empty_hand}
use Rattle.rr_store.specs.Views.{client_of, state_of}
use Rattle.rr_store.proofs.base.lists.Replaced.{Standing, find_mapped, standing, standing_nowhere}
use Rattle.rr_store.proofs.base.lookups.Numbers.{client_there}
use Rattle.rr_store.proofs.base.senders.Owners.{clients_rise}
use Rattle.rr_store.proofs.base.views.Counts.{listed}
use Rattle.rr_releasing.proofs.laws.leaving.ClientValue.{client_value_sound}
use Rattle.rr_releasing.proofs.laws.leaving.ClientValueView.{client_value_view}

module _ {Q QH P PH K : Type 0} (p : Parts Q QH P PH K) (core : IsCore p) (n : ℕ)
    (its_kind : kind_at (state_of p) n ≡ Some kind.Client) where
  -- there is a client with the number
  pub found_asked : IsSome (position (λ (c : ClientPart K). c.port.id == n) p.clients)
  found_asked = go (position (λ (c : ClientPart K). c.port.id == n) p.clients) refl
    where
      go : (o : Option ℕ) → position (λ (c : ClientPart K). c.port.id == n) p.clients ≡ o → IsSome o
      go (Some i) e = refl
      go None e = absurd (client_there (state_of p) n its_kind (find_mapped client_of (λ (d : Client K). d.id == n) p.clients
          ∙ ap (option_map client_of) (standing_nowhere (λ (c : ClientPart K). c.port.id == n) p.clients e)))

  -- and clients stand in the order of their numbers
  pub order_asked : IsRising (λ (c : ClientPart K). c.port.id) p.clients
  order_asked = clients_rise p empty_hand core.sound

  module _ (index : ℕ) (found_at : position (λ (c : ClientPart K). c.port.id == n) p.clients ≡ Some index) where
    it : Standing (λ (c : ClientPart K). c.port.id == n) p.clients index
    it = standing (λ (c : ClientPart K). c.port.id == n) p.clients index found_at

    named : it.it.port.id ≡ n
    named = eqb-true _ _ it.passes

    pub index_asked : index < length p.clients
    index_asked = slice_get_within p.clients index it.it it.at

    pub its_sender_asked : IsSomeAnd (slice_get p.clients index) (λ c. c.sender < length p.client_senders)
    its_sender_asked = subst (λ o. IsSomeAnd o (λ c. c.sender < length p.client_senders)) (sym it.at)
        (core.sound.client_ports.own index it.it.connected (listed (λ (c : ClientPart K). c.connected) p.clients index it.it it.at)).0

    module _ (t : Parts Q QH P PH K)
        (ended : IsSomeAnd (slice_get p.clients index) (λ c. t ≡ without_client_value p index c)) where
      t_is : t ≡ without_client_value p index it.it
      t_is = subst (λ o. IsSomeAnd o (λ c. t ≡ without_client_value p index c)) it.at ended

      pub sound_then : IsSoundStore t empty_hand
      sound_then = subst (λ q. IsSoundStore q empty_hand) (sym t_is) (client_value_sound p core.sound index it.it it.at)

      -- the client without its value
      abbrev gone : ClientPart K
      gone = record it.it { connected = record it.it.connected { port = record it.it.port { has_value = false } } }

      pub named_then : IsSomeAnd (slice_get t.clients index) (λ c. c.port.id ≡ n)
      named_then =
          subst (λ (q : Parts Q QH P PH K). IsSomeAnd (slice_get q.clients index) (λ c. c.port.id ≡ n)) (sym t_is)
          (subst (λ o. IsSomeAnd o (λ (c : ClientPart K). c.port.id ≡ n)) (sym set_there) named)
        where
          set_there : slice_get (slice_set p.clients index gone) index ≡ Some gone
          set_there =
              slice_get-get_or (slice_set p.clients index gone) index gone
              (omega (arith, index_asked, length-set p.clients index gone))
              ∙ ap Some (get_or-set_same p.clients index gone gone index_asked)

      pub gone_then : state_of t ≡ without_port_value (state_of p) n
      gone_then = ap state_of t_is ∙ client_value_view p core.sound index it.it it.at ∙ ap (without_port_value (state_of p)) named
