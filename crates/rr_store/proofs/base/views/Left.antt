-- Ports that left are none of the connected ones, and a port has no messages that others receive.
use Rattle.std.proofs.Common.{◌≡◌, ◌≢◌, ◌&&◌, ℕ, Bool, true, false, List, [], Option, None, Some, find, map, refl, sym, ap, ◌∙◌}
use Rattle.std.specs.Prelude.{◌==◌, slice_get}
use Rattle.std.specs.Cmp.{IsTotalOrder}
use Rattle.std.specs.FinMap.{IsAntisymmetric}
use Rattle.std.specs.List.{list_any}
use Rattle.std.specs.declared.cmp.Ordering.{Ordering}
use Rattle.std.proofs.lemmas.Bool.{eqb-true, and_parts}
use Rattle.rr_protocol.specs.Lists.{Lists, at, filled_keys}
use Rattle.rr_protocol.specs.Keys.{RequestKey, ResponseKey}
use Rattle.rr_protocol.proofs.KeyLaws.{request_keys_total, request_keys_exact, response_keys_total, response_keys_exact}
use Rattle.rr_laws.proofs.Filled.{filled_gives}
use Rattle.rr_store.specs.declared.port.LeftPort.{LeftPort}
use Rattle.rr_store.specs.Expired.{requests_from, responses_from}
use Rattle.rr_store.specs.Parts.{ClientPart, Connected, Parts, Sender, ServerPart}
use Rattle.rr_store.specs.Sound.{Hand, HasPort, HasSenders, HaveLeft, IsSoundStore}
use Rattle.rr_store.specs.Views.{request_lists, requests_at, response_lists, responses_at, sender_of}
use Rattle.rr_store.proofs.base.lists.Adding.{mapped}
use Rattle.rr_store.proofs.base.lists.Found.{found_passes, found_somewhere}
use Rattle.rr_store.proofs.base.views.Counts.{listed}
use Rattle.rr_store.proofs.base.views.Keyed.{at_requests, at_responses}

-- a port that left has another number than each connected port's sender
left_apart : {T N H K C : Type 0} (connected : C → Connected K) {next ports : ℕ} (cs : List C) (senders : List (Sender T N H))
    → HasSenders next ports (map connected cs) senders → (left : List LeftPort) → HaveLeft (map connected cs) left senders
    → (i l sender : ℕ) → slice_get (map (λ l. l.number) left) i ≡ Some l → HasPort (λ c. (connected c).sender) cs sender
    → (sender_of sender senders).owner ≢ l
left_apart {K = K} connected cs senders n left has i l sender at port same =
    let x = mapped (λ (l : LeftPort). l.number) left i l at in
    let own = has.own i x.0 x.1 in
    let here = listed connected cs port.0 port.1 port.2 in
    let there = (n.own port.0 (connected port.1) here).0 in
    has.apart i port.0 x.0 (connected port.1) x.1 here
    (n.owned_once x.0.sender (connected port.1).sender own.0 there
    (own.1 ∙ x.2 ∙ sym same ∙ sym (ap (λ l. (sender_of l senders).owner) port.3)))

-- no key is filled that passes a test, where each that passes it has the empty list
pub none_filled : {A X : Type 0} {cmp : A → A → Ordering} → IsTotalOrder cmp → IsAntisymmetric cmp → (t : A → Bool) (lists : Lists cmp X)
    → ((key : A) → t key ≡ true → at lists key ≡ []) → list_any t (filled_keys lists) ≡ false
none_filled o exact t lists none = go (list_any t (filled_keys lists)) refl
  where
    go : (b : Bool) → list_any t (filled_keys lists) ≡ b → list_any t (filled_keys lists) ≡ false
    go false e = e
    go true e = let f = filled_gives o exact t lists e in absurd (f.1 (none f.0 f.2))

module _ {Q QH P PH K : Type 0} (p : Parts Q QH P PH K) (hand : Hand) (sound : IsSoundStore p hand) where
  pub left_client_apart : (i l sender : ℕ) → slice_get (map (λ l. l.number) p.left_clients) i ≡ Some l
      → HasPort (λ c. c.sender) p.clients sender → (sender_of sender p.client_senders).owner ≢ l
  left_client_apart = left_apart (λ (c : ClientPart K). c.connected) p.clients p.client_senders sound.client_ports p.left_clients
      sound.have_ports.left_clients

  pub left_server_apart : (i l sender : ℕ) → slice_get (map (λ l. l.number) p.left_servers) i ≡ Some l
      → HasPort (λ s. s.sender) p.servers sender → (sender_of sender p.server_senders).owner ≢ l
  left_server_apart = left_apart (λ (s : ServerPart K). s.connected) p.servers p.server_senders sound.server_ports p.left_servers
      sound.have_ports.left_servers

  -- no response waits for a server
  pub no_responses_to : (i : ℕ) (s : ServerPart K) → slice_get p.servers i ≡ Some s → (l : ℕ)
      → responses_from (response_lists p) s.port.id l ≡ false
  no_responses_to i s at_s l =
      none_filled response_keys_total response_keys_exact (λ key. key.server == l && key.client == s.port.id) (response_lists p)
      (λ key h. at_responses p key
      ∙ none key (eqb-true key.client s.port.id (and_parts (key.server == l) (key.client == s.port.id) h).1) _ refl)
    where
      none : (key : ResponseKey) → key.client ≡ s.port.id → (o : Option (ClientPart K)) → find (λ c. c.port.id == key.client) p.clients ≡ o
          → responses_at p key ≡ []
      none key same None e = rw e refl
      none key same (Some c) e =
          let j = found_somewhere (λ (c : ClientPart K). c.port.id == key.client) p.clients c e in
          absurd (sound.have_ports.apart j.0 i c s j.1 at_s
          (eqb-true c.port.id key.client (found_passes (λ (c : ClientPart K). c.port.id == key.client) p.clients c e) ∙ same))

  -- and no request for a client
  pub no_requests_to : (i : ℕ) (c : ClientPart K) → slice_get p.clients i ≡ Some c → (l : ℕ)
      → requests_from (request_lists p) c.port.id l ≡ false
  no_requests_to i c at_c l =
      none_filled request_keys_total request_keys_exact (λ key. key.server == c.port.id && key.client == l) (request_lists p)
      (λ key h. at_requests p key
      ∙ none key (eqb-true key.server c.port.id (and_parts (key.server == c.port.id) (key.client == l) h).0) _ refl)
    where
      none : (key : RequestKey) → key.server ≡ c.port.id → (o : Option (ServerPart K)) → find (λ s. s.port.id == key.server) p.servers ≡ o
          → requests_at p key ≡ []
      none key same None e = rw e refl
      none key same (Some s) e =
          let j = found_somewhere (λ (s : ServerPart K). s.port.id == key.server) p.servers s e in
          absurd (sound.have_ports.apart i j.0 c s at_c j.1
          (sym (eqb-true s.port.id key.server (found_passes (λ (s : ServerPart K). s.port.id == key.server) p.servers s e) ∙ same)))
