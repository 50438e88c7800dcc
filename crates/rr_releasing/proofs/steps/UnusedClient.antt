-- Whether the client of a sender leaves.
use Rattle.std.proofs.Common.{◌≡◌, ◌<◌, ℕ, Bool, true, false, cond, Some, is_some, length, map, refl, sym, ap, ◌∙◌, subst, ⊎_elim, arith}
use Rattle.std.specs.Prelude.{◌==◌, ◌||◌, IsSome, IsSomeAnd, nat_lt, slice_get}
use Rattle.std.specs.List.{position}
use Rattle.std.proofs.lemmas.Bool.{eq-eqb, eqb-true}
use Rattle.std.proofs.lemmas.Option.{slice_get_cases}
use Rattle.rr_table.proofs.ListFacts.{any_found}
use Rattle.rr_table.proofs.Members.{any_there}
use Rattle.rr_protocol.specs.Counts.{is_in_use}
use Rattle.rr_protocol.specs.Ports.{Client}
use Rattle.rr_protocol.specs.Releases.{after_client_left, after_server_left, without_unused_port}
use Rattle.rr_protocol.specs.State.{State, client_at}
use Rattle.rr_store.specs.Leaving.{is_borrowing, is_client_used}
use Rattle.rr_store.specs.Order.{IsRising}
use Rattle.rr_store.specs.Parts.{ClientPart, Parts}
use Rattle.rr_store.specs.Sound.{HasPort, IsSoundStore, empty_hand}
use Rattle.rr_store.specs.Views.{client_of, sender_of, state_of}
use Rattle.rr_store.proofs.base.lists.Replaced.{standing}
use Rattle.rr_store.proofs.base.senders.Owners.{clients_rise, first_by}
use Rattle.rr_store.proofs.base.senders.Ports.{found_within}
use Rattle.rr_store.proofs.base.views.Counts.{listed}
use Rattle.rr_releasing.proofs.laws.leaving.InUse.{client_in_use_is}

module _ {Q QH P PH K : Type 0} (s : State Q QH P PH K) (n : ℕ) where
  -- a port that is in use stays
  stays : is_in_use s n ≡ true → s ≡ without_unused_port s n
  stays used = sym (ap (λ b. cond b s (cond (is_some (client_at s n)) (after_client_left s n) (after_server_left s n))) used)

  -- a client that isn't leaves
  leaves : is_in_use s n ≡ false → is_some (client_at s n) ≡ true → after_client_left s n ≡ without_unused_port s n
  leaves unused connected =
      sym (ap (λ b. cond b s (cond (is_some (client_at s n)) (after_client_left s n) (after_server_left s n))) unused
      ∙ ap (λ b. cond b (after_client_left s n) (after_server_left s n)) connected)

module _ {Q QH P PH K : Type 0} (p : Parts Q QH P PH K) (sound : IsSoundStore p empty_hand) (sender : ℕ)
    (has : HasPort (λ (c : ClientPart K). c.sender) p.clients sender) where
  own : (has.1.sender < length p.client_senders) × ((sender_of has.1.sender p.client_senders).owner ≡ has.1.port.id)
  own =
      let o = sound.client_ports.own has.0 has.1.connected (listed (λ (c : ClientPart K). c.connected) p.clients has.0 has.1 has.2) in
      (o.0, o.1)

  abbrev owner : ℕ
  owner = (sender_of sender p.client_senders).owner

  owner_is : owner ≡ has.1.port.id
  owner_is = ap (λ l. (sender_of l p.client_senders).owner) (sym has.3) ∙ own.1

  pub sender_asked : sender < length p.client_senders
  sender_asked = omega (arith, own.0, has.3)

  pub rising_asked : IsRising (λ (c : ClientPart K). c.port.id) p.clients
  rising_asked = clients_rise p empty_hand sound

  pub found_asked : IsSome (position (λ (c : ClientPart K). c.port.id == owner) p.clients)
  found_asked =
      subst IsSome (sym (first_by (λ (c : ClientPart K). c.port.id) p.clients owner has.0 has.1 has.2 (sym owner_is)).found) refl

  -- its value lives
  pub value_then : (value : Bool) → value ≡ (sender_of sender p.client_senders).has_value → value ≡ true
      → state_of p ≡ without_unused_port (state_of p) owner
  value_then value told lives =
      let is : has.1.port.has_value ≡ true = sym (sound.client_ports.valued has.0 has.1.connected
      (listed (λ (c : ClientPart K). c.connected) p.clients has.0 has.1 has.2))
      ∙ ap (λ l. (sender_of l p.client_senders).has_value) has.3 ∙ sym told ∙ lives in
      let used : is_client_used p has.1 ≡ true = ap (λ b. b || (nat_lt 0 (sender_of has.1.sender p.client_senders).loans || (nat_lt 0 (sender_of has.1.sender p.client_senders).pendings
      || is_borrowing p.server_senders has.1.receiver))) is in
      stays (state_of p) owner (ap (is_in_use (state_of p)) owner_is ∙ client_in_use_is p sound has.0 has.1 has.2 ∙ used)

  -- it is found at an index
  module _ (index : ℕ) (found_at : position (λ (c : ClientPart K). c.port.id == owner) p.clients ≡ Some index) where
    pub index_asked : index < length p.clients
    index_asked = found_within (λ (c : ClientPart K). c.port.id == owner) p.clients index found_at

    -- what becomes of it by its index becomes of it by its number
    pub left_by : (t : Parts Q QH P PH K)
        → IsSomeAnd (slice_get p.clients index) (λ c. state_of t ≡ without_unused_port (state_of p) c.port.id)
        → state_of t ≡ without_unused_port (state_of p) owner
    left_by t told =
        let it = standing (λ (c : ClientPart K). c.port.id == owner) p.clients index found_at in
        subst (λ o. IsSomeAnd o (λ (c : ClientPart K). state_of t ≡ without_unused_port (state_of p) c.port.id)) it.at told
        ∙ ap (without_unused_port (state_of p)) (eqb-true _ _ it.passes)

-- a client at an index
module _ {Q QH P PH K : Type 0} (p : Parts Q QH P PH K) (sound : IsSoundStore p empty_hand) (index : ℕ) (c : ClientPart K)
    (at : slice_get p.clients index ≡ Some c) where
  here : slice_get (map (λ (c : ClientPart K). c.connected) p.clients) index ≡ Some c.connected
  here = listed (λ (c : ClientPart K). c.connected) p.clients index c at

  pub its_sender_asked : c.sender < length p.client_senders
  its_sender_asked = (sound.client_ports.own index c.connected here).0

  pub receivers_asked : (l : ℕ) → l < length p.server_senders → c.receiver < length (sender_of l p.server_senders).messages.borrowed
  receivers_asked l there =
      omega (arith, sound.client_ports.placed index c.connected here, (sound.sized.server_senders l there).borrowed)

-- whether the client at an index leaves
module _ {Q QH P PH K : Type 0} (p : Parts Q QH P PH K) (sound : IsSoundStore p empty_hand) (index : ℕ) (there : index < length p.clients) where
  it : (c : ClientPart K) × (slice_get p.clients index ≡ Some c)
  it = ⊎_elim (λ h. (h.0, h.2)) (λ h. absurd (omega (arith, h.0, there))) (slice_get_cases p.clients index).1

  -- what is told of the client at the index
  told_of : (R : ClientPart K → Type 0) → IsSomeAnd (slice_get p.clients index) R → R it.0
  told_of R told = subst (λ o. IsSomeAnd o R) it.1 told

  of_it : (R : ClientPart K → Type 0) → R it.0 → IsSomeAnd (slice_get p.clients index) R
  of_it R told = subst (λ o. IsSomeAnd o R) (sym it.1) told

  module _ (used : Bool) (told : (c : ClientPart K) → slice_get p.clients index ≡ Some c → used ≡ is_client_used p c) where
    in_use : is_in_use (state_of p) it.0.port.id ≡ used
    in_use = client_in_use_is p sound index it.0 it.1 ∙ sym (told it.0 it.1)

    -- it is in use
    pub used_then : used ≡ true → IsSomeAnd (slice_get p.clients index) (λ c. state_of p ≡ without_unused_port (state_of p) c.port.id)
    used_then is = of_it (λ c. state_of p ≡ without_unused_port (state_of p) c.port.id) (stays (state_of p) it.0.port.id (in_use ∙ is))

    pub unused_asked : used ≡ false → IsSomeAnd (slice_get p.clients index) (λ c. is_client_used p c ≡ false)
    unused_asked is = of_it (λ c. is_client_used p c ≡ false) (sym (told it.0 it.1) ∙ is)

    -- the client is connected
    connected : is_some (client_at (state_of p) it.0.port.id) ≡ true
    connected =
        any_found (λ (c : Client K). c.id == it.0.port.id) (map client_of p.clients)
        ∙ any_there (λ (c : Client K). c.id == it.0.port.id) (map client_of p.clients) index (client_of it.0)
        (listed client_of p.clients index it.0 it.1) (eq-eqb it.0.port.id it.0.port.id refl)

    -- it left
    pub left_then : used ≡ false → (t : Parts Q QH P PH K)
        → IsSomeAnd (slice_get p.clients index) (λ c. state_of t ≡ after_client_left (state_of p) c.port.id)
        → IsSomeAnd (slice_get p.clients index) (λ c. state_of t ≡ without_unused_port (state_of p) c.port.id)
    left_then is t left =
        of_it (λ c. state_of t ≡ without_unused_port (state_of p) c.port.id)
        (told_of (λ c. state_of t ≡ after_client_left (state_of p) c.port.id) left
        ∙ leaves (state_of p) it.0.port.id (in_use ∙ is) connected)
