-- The port that sends from a sender, and the ports by number.
use Rattle.std.proofs.Common.{◌≡◌, ℕ, Bool, List, Some, sym, ap, ◌∙◌}
use Rattle.std.specs.Prelude.{◌==◌, slice_get}
use Rattle.std.specs.List.{position}
use Rattle.std.proofs.lemmas.Bool.{eq-eqb, eqb-true}
use Rattle.rr_store.specs.Order.{IsRising}
use Rattle.rr_store.specs.Parts.{Connected, ClientPart, ServerPart, Parts}
use Rattle.rr_store.specs.Sound.{HasPort, IsSoundStore, Hand}
use Rattle.rr_store.specs.Views.{sender_of}
use Rattle.rr_store.proofs.base.lists.Rising.{rising_once, rising_unmapped}
use Rattle.rr_store.proofs.base.senders.Ports.{sender_found}
use Rattle.rr_store.proofs.base.views.Counts.{listed}

-- the first element that passes a test on what is read of it, and where it stands
pub record First {X Y : Type 0} (read : X → Y) (test : X → Bool) (xs : List X) (y : Y) : Type 0 where
  pub index : ℕ
  pub it : X
  pub found : position test xs ≡ Some index
  pub at : slice_get xs index ≡ Some it
  pub is : read it ≡ y

-- where one stands that passes, one is found
pub first_by : {X : Type 0} (read : X → ℕ) (xs : List X) (n i : ℕ) (x : X) → slice_get xs i ≡ Some x → read x ≡ n
    → First read (λ x. read x == n) xs n
first_by read xs n i x at is =
    let r = sender_found (λ x. read x == n) xs i x at (eq-eqb (read x) n is) in
    record { index = r.0; it = r.2.it; found = r.1; at = r.2.at; is = eqb-true _ _ r.2.passes }

-- where numbers rise, what has one is found by it
pub found_by_number : {X : Type 0} (read : X → ℕ) (xs : List X) → IsRising read xs → (n i : ℕ) (x : X) → slice_get xs i ≡ Some x
    → read x ≡ n → position (λ x. read x == n) xs ≡ Some i
found_by_number read xs rising n i x at is =
    let f = first_by read xs n i x at is in
    f.found ∙ ap Some (rising_once read xs rising f.index i f.it x f.at at (f.is ∙ sym is))

-- the port that sends from a sender is found by it
pub port_of_sender : {X : Type 0} (sender : X → ℕ) (ports : List X) (l : ℕ) → HasPort sender ports l
    → First sender (λ x. sender x == l) ports l
port_of_sender sender ports l has = first_by sender ports l has.0 has.1 has.2 has.3

module _ {Q QH P PH K : Type 0} (p : Parts Q QH P PH K) (hand : Hand) (sound : IsSoundStore p hand) where
  -- a sender knows the receiver of its port
  pub client_receiver : (l : ℕ) (f : First (λ (c : ClientPart K). c.sender) (λ (c : ClientPart K). c.sender == l) p.clients l)
      → (sender_of l p.client_senders).receiver ≡ f.it.receiver
  client_receiver l f =
      ap (λ l. (sender_of l p.client_senders).receiver) (sym f.is)
      ∙ sound.client_ports.received f.index f.it.connected (listed (λ (c : ClientPart K). c.connected) p.clients f.index f.it f.at)

  pub server_receiver : (l : ℕ) (f : First (λ (s : ServerPart K). s.sender) (λ (s : ServerPart K). s.sender == l) p.servers l)
      → (sender_of l p.server_senders).receiver ≡ f.it.receiver
  server_receiver l f =
      ap (λ l. (sender_of l p.server_senders).receiver) (sym f.is)
      ∙ sound.server_ports.received f.index f.it.connected (listed (λ (s : ServerPart K). s.connected) p.servers f.index f.it f.at)

  -- and its number
  pub client_owner : (l : ℕ) (f : First (λ (c : ClientPart K). c.sender) (λ (c : ClientPart K). c.sender == l) p.clients l)
      → (sender_of l p.client_senders).owner ≡ f.it.port.id
  client_owner l f =
      ap (λ l. (sender_of l p.client_senders).owner) (sym f.is)
      ∙ (sound.client_ports.own f.index f.it.connected (listed (λ (c : ClientPart K). c.connected) p.clients f.index f.it f.at)).1

  pub server_owner : (l : ℕ) (f : First (λ (s : ServerPart K). s.sender) (λ (s : ServerPart K). s.sender == l) p.servers l)
      → (sender_of l p.server_senders).owner ≡ f.it.port.id
  server_owner l f =
      ap (λ l. (sender_of l p.server_senders).owner) (sym f.is)
      ∙ (sound.server_ports.own f.index f.it.connected (listed (λ (s : ServerPart K). s.connected) p.servers f.index f.it f.at)).1

  -- ports stand in the order of their numbers
  pub clients_rise : IsRising (λ (c : ClientPart K). c.port.id) p.clients
  clients_rise = rising_unmapped (λ (c : ClientPart K). c.connected) (λ (c : Connected K). c.port.id) p.clients sound.client_ports.rising

  pub servers_rise : IsRising (λ (s : ServerPart K). s.port.id) p.servers
  servers_rise = rising_unmapped (λ (s : ServerPart K). s.connected) (λ (c : Connected K). c.port.id) p.servers sound.server_ports.rising

  -- a port is found by the number that its sender knows
  pub client_named : (l : ℕ) (f : First (λ (c : ClientPart K). c.sender) (λ (c : ClientPart K). c.sender == l) p.clients l)
      → position (λ (c : ClientPart K). c.port.id == (sender_of l p.client_senders).owner) p.clients ≡ Some f.index
  client_named l f = found_by_number (λ (c : ClientPart K). c.port.id) p.clients clients_rise (sender_of l p.client_senders).owner
      f.index f.it f.at (sym (client_owner l f))

  pub server_named : (l : ℕ) (f : First (λ (s : ServerPart K). s.sender) (λ (s : ServerPart K). s.sender == l) p.servers l)
      → position (λ (s : ServerPart K). s.port.id == (sender_of l p.server_senders).owner) p.servers ≡ Some f.index
  server_named l f = found_by_number (λ (s : ServerPart K). s.port.id) p.servers servers_rise (sender_of l p.server_senders).owner
      f.index f.it f.at (sym (server_owner l f))
