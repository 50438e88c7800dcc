-- Whether the server of a sender leaves.
use Rattle.std.proofs.Common.{◌≡◌, ◌<◌, ℕ, Bool, true, false, cond, Some, is_some, length, map, refl, sym, ap, ◌∙◌, subst, ⊎_elim, arith}
use Rattle.std.specs.Prelude.{◌==◌, ◌||◌, IsSome, IsSomeAnd, nat_lt, slice_get}
use Rattle.std.specs.List.{list_any, position}
use Rattle.std.proofs.lemmas.Bool.{eqb-true}
use Rattle.std.proofs.lemmas.Option.{slice_get_cases}
use Rattle.rr_table.proofs.ListFacts.{any_found}
use Rattle.rr_table.proofs.Members.{any_gives}
use Rattle.rr_protocol.specs.Counts.{is_in_use}
use Rattle.rr_protocol.specs.Ports.{Client}
use Rattle.rr_protocol.specs.Releases.{after_client_left, after_server_left, without_unused_port}
use Rattle.rr_protocol.specs.State.{State, client_at}
use Rattle.rr_store.specs.Leaving.{is_borrowing, is_server_used}
use Rattle.rr_store.specs.Order.{IsRising}
use Rattle.rr_store.specs.Parts.{Parts, ServerPart}
use Rattle.rr_store.specs.Sound.{HasPort, IsSoundStore, empty_hand}
use Rattle.rr_store.specs.Views.{client_of, sender_of, state_of}
use Rattle.rr_store.proofs.base.lists.Replaced.{standing}
use Rattle.rr_store.proofs.base.lists.Adding.{mapped}
use Rattle.rr_store.proofs.base.senders.Owners.{servers_rise, first_by}
use Rattle.rr_store.proofs.base.senders.Ports.{found_within}
use Rattle.rr_store.proofs.base.views.Counts.{listed}
use Rattle.rr_releasing.proofs.laws.leaving.InUse.{server_in_use_is}

module _ {Q QH P PH K : Type 0} (s : State Q QH P PH K) (n : ℕ) where
  -- a port that is in use stays
  stays : is_in_use s n ≡ true → s ≡ without_unused_port s n
  stays used = sym (ap (λ b. cond b s (cond (is_some (client_at s n)) (after_client_left s n) (after_server_left s n))) used)

  -- a server that isn't leaves
  leaves : is_in_use s n ≡ false → is_some (client_at s n) ≡ false → after_server_left s n ≡ without_unused_port s n
  leaves unused no_client =
      sym (ap (λ b. cond b s (cond (is_some (client_at s n)) (after_client_left s n) (after_server_left s n))) unused
      ∙ ap (λ b. cond b (after_client_left s n) (after_server_left s n)) no_client)

module _ {Q QH P PH K : Type 0} (p : Parts Q QH P PH K) (sound : IsSoundStore p empty_hand) (sender : ℕ)
    (has : HasPort (λ (s : ServerPart K). s.sender) p.servers sender) where
  own : (has.1.sender < length p.server_senders) × ((sender_of has.1.sender p.server_senders).owner ≡ has.1.port.id)
  own =
      let o = sound.server_ports.own has.0 has.1.connected (listed (λ (s : ServerPart K). s.connected) p.servers has.0 has.1 has.2) in
      (o.0, o.1)

  abbrev owner : ℕ
  owner = (sender_of sender p.server_senders).owner

  owner_is : owner ≡ has.1.port.id
  owner_is = ap (λ l. (sender_of l p.server_senders).owner) (sym has.3) ∙ own.1

  pub sender_asked : sender < length p.server_senders
  sender_asked = omega (arith, own.0, has.3)

  pub rising_asked : IsRising (λ (s : ServerPart K). s.port.id) p.servers
  rising_asked = servers_rise p empty_hand sound

  pub found_asked : IsSome (position (λ (s : ServerPart K). s.port.id == owner) p.servers)
  found_asked =
      subst IsSome (sym (first_by (λ (s : ServerPart K). s.port.id) p.servers owner has.0 has.1 has.2 (sym owner_is)).found) refl

  -- its value lives
  pub value_then : (value : Bool) → value ≡ (sender_of sender p.server_senders).has_value → value ≡ true
      → state_of p ≡ without_unused_port (state_of p) owner
  value_then value told lives =
      let is : has.1.port.has_value ≡ true = sym (sound.server_ports.valued has.0 has.1.connected
      (listed (λ (s : ServerPart K). s.connected) p.servers has.0 has.1 has.2))
      ∙ ap (λ l. (sender_of l p.server_senders).has_value) has.3 ∙ sym told ∙ lives in
      let used : is_server_used p has.1 ≡ true = ap (λ b. b || (nat_lt 0 (sender_of has.1.sender p.server_senders).loans || is_borrowing p.client_senders has.1.receiver)) is in
      stays (state_of p) owner (ap (is_in_use (state_of p)) owner_is ∙ server_in_use_is p sound has.0 has.1 has.2 ∙ used)

  -- it is found at an index
  module _ (index : ℕ) (found_at : position (λ (s : ServerPart K). s.port.id == owner) p.servers ≡ Some index) where
    pub index_asked : index < length p.servers
    index_asked = found_within (λ (s : ServerPart K). s.port.id == owner) p.servers index found_at

    -- what becomes of it by its index becomes of it by its number
    pub left_by : (t : Parts Q QH P PH K)
        → IsSomeAnd (slice_get p.servers index) (λ s. state_of t ≡ without_unused_port (state_of p) s.port.id)
        → state_of t ≡ without_unused_port (state_of p) owner
    left_by t told =
        let it = standing (λ (s : ServerPart K). s.port.id == owner) p.servers index found_at in
        subst (λ o. IsSomeAnd o (λ (s : ServerPart K). state_of t ≡ without_unused_port (state_of p) s.port.id)) it.at told
        ∙ ap (without_unused_port (state_of p)) (eqb-true _ _ it.passes)

-- a server at an index
module _ {Q QH P PH K : Type 0} (p : Parts Q QH P PH K) (sound : IsSoundStore p empty_hand) (index : ℕ) (s : ServerPart K)
    (at : slice_get p.servers index ≡ Some s) where
  here : slice_get (map (λ (s : ServerPart K). s.connected) p.servers) index ≡ Some s.connected
  here = listed (λ (s : ServerPart K). s.connected) p.servers index s at

  pub its_sender_asked : s.sender < length p.server_senders
  its_sender_asked = (sound.server_ports.own index s.connected here).0

  pub receivers_asked : (l : ℕ) → l < length p.client_senders → s.receiver < length (sender_of l p.client_senders).messages.borrowed
  receivers_asked l there =
      omega (arith, sound.server_ports.placed index s.connected here, (sound.sized.client_senders l there).borrowed)

-- whether the server at an index leaves
module _ {Q QH P PH K : Type 0} (p : Parts Q QH P PH K) (sound : IsSoundStore p empty_hand) (index : ℕ) (there : index < length p.servers) where
  it : (s : ServerPart K) × (slice_get p.servers index ≡ Some s)
  it = ⊎_elim (λ h. (h.0, h.2)) (λ h. absurd (omega (arith, h.0, there))) (slice_get_cases p.servers index).1

  -- what is told of the server at the index
  told_of : (R : ServerPart K → Type 0) → IsSomeAnd (slice_get p.servers index) R → R it.0
  told_of R told = subst (λ o. IsSomeAnd o R) it.1 told

  of_it : (R : ServerPart K → Type 0) → R it.0 → IsSomeAnd (slice_get p.servers index) R
  of_it R told = subst (λ o. IsSomeAnd o R) (sym it.1) told

  module _ (used : Bool) (told : (s : ServerPart K) → slice_get p.servers index ≡ Some s → used ≡ is_server_used p s) where
    in_use : is_in_use (state_of p) it.0.port.id ≡ used
    in_use = server_in_use_is p sound index it.0 it.1 ∙ sym (told it.0 it.1)

    -- it is in use
    pub used_then : used ≡ true → IsSomeAnd (slice_get p.servers index) (λ s. state_of p ≡ without_unused_port (state_of p) s.port.id)
    used_then is = of_it (λ s. state_of p ≡ without_unused_port (state_of p) s.port.id) (stays (state_of p) it.0.port.id (in_use ∙ is))

    pub unused_asked : used ≡ false → IsSomeAnd (slice_get p.servers index) (λ s. is_server_used p s ≡ false)
    unused_asked is = of_it (λ s. is_server_used p s ≡ false) (sym (told it.0 it.1) ∙ is)

    -- no client has its number
    no_client : is_some (client_at (state_of p) it.0.port.id) ≡ false
    no_client = any_found (λ (c : Client K). c.id == it.0.port.id) (map client_of p.clients) ∙ go _ refl
      where
        go : (b : Bool) → list_any (λ (c : Client K). c.id == it.0.port.id) (map client_of p.clients) ≡ b
            → list_any (λ (c : Client K). c.id == it.0.port.id) (map client_of p.clients) ≡ false
        go false e = e
        go true e =
            let a = any_gives (λ (c : Client K). c.id == it.0.port.id) (map client_of p.clients) e in
            let m = mapped client_of p.clients a.0 a.1 a.2 in
            absurd (sound.have_ports.apart a.0 index m.0 it.0 m.1 it.1
            (ap (λ (c : Client K). c.id) m.2 ∙ eqb-true a.1.id it.0.port.id a.3))

    -- it left
    pub left_then : used ≡ false → (t : Parts Q QH P PH K)
        → IsSomeAnd (slice_get p.servers index) (λ s. state_of t ≡ after_server_left (state_of p) s.port.id)
        → IsSomeAnd (slice_get p.servers index) (λ s. state_of t ≡ without_unused_port (state_of p) s.port.id)
    left_then is t left =
        of_it (λ s. state_of t ≡ without_unused_port (state_of p) s.port.id)
        (told_of (λ s. state_of t ≡ after_server_left (state_of p) s.port.id) left
        ∙ leaves (state_of p) it.0.port.id (in_use ∙ is) no_client)
