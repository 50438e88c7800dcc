-- How states settle as a handle or a port value is released.
use Rattle.std.proofs.Common.{◌≡◌, ℕ, ◌≤◌, Bool, true, false, cond, not, eqb, ◌&&◌, map, Option, Some, None, option_map, refl, sym, ap, ◌∙◌, subst, ⊎_elim, inl, inr, arith}
use Rattle.std.specs.Prelude.{◌≢◌, find, option_and_then}
use Rattle.std.specs.Option.{option_map_or}
use Rattle.std.specs.FinMap as fin_map
use Rattle.std.specs.FinMap.{get, remove}
use Rattle.std.proofs.lemmas.Bool.{cases_eq, eqb-true, ne_eqb}
use Rattle.rr_table.proofs.MapLaws.{get-remove_cases}
use Rattle.rr_protocol.specs.Lists.{at}
use Rattle.rr_protocol.specs.Messages.{Handle, RequestMutUninit, RequestMut, PendingResponse, ActiveRequest, ResponseMutUninit, ResponseMut, Response, Pending, port_of}
use Rattle.rr_protocol.specs.Ports.{Port, Client, Server}
use Rattle.rr_protocol.specs.State.{State, handle_at}
use Rattle.rr_protocol.specs.Releases.{without_unused_port, without_port_value, without_value, without_server, after_handle_gone, after_release}
use Rattle.rr_laws.specs.Roles.{Question, Role, SentRequest, roles_of, question_of, asking}
use Rattle.rr_laws.specs.Reached.{IsReached}
use Rattle.rr_laws.specs.Apart.{ChannelsApart}
use Rattle.rr_laws.specs.Left.{IsLeftFit}
use Rattle.rr_laws.specs.Following.{channel_key}
use Rattle.rr_laws.specs.Settling.{Settles}
use Rattle.rr_table.proofs.ListFacts.{find-changed, any-map, any_weaker}
use Rattle.rr_laws.proofs.RoleLaws.{role_at, roles-remove, roles-changed}
use Rattle.rr_laws.proofs.Releasing.{without_server-role, handle_gone_reached}
use Rattle.rr_laws.proofs.Leaving.{without_value_id, without_port_value_reached}
use Rattle.rr_laws.proofs.LeftPorts.{left_with_clients, left_with_servers}
use Rattle.rr_laws.proofs.LeftSteps.{handle_gone_left}
use Rattle.rr_laws.proofs.Occurring.{false_is_true}
use Rattle.rr_laws.proofs.Settling.{StaysAsMade, settles_by, same_servers, same_held, same_requests, then_settles}
use Rattle.rr_laws.proofs.SettlingReleases.{retained_kept, entries-serving, unused_port_settles}

-- a port without its value is as it was made
without_value_made : {K : Type 0} (n : ℕ) (port : Port K) → ((without_value n port).strategy ≡ port.strategy)
    × ((without_value n port).handler ≡ port.handler)
without_value_made n port = go (eqb port.id n)
  where
    go : (b : Bool) → ((cond b (record port { has_value = false }) port).strategy ≡ port.strategy)
        × ((cond b (record port { has_value = false }) port).handler ≡ port.handler)
    go true = (refl, refl)
    go false = (refl, refl)

module _ {Q QH P PH K : Type 0} where
  -- a role that is there after a handle was taken away was there before
  removed_role : (s : State Q QH P PH K) (n k : ℕ) (role : Role) → get (roles_of (remove s.handles n)) k ≡ Some role → (k ≢ n)
      × (get (roles_of s.handles) k ≡ Some role)
  removed_role s n k role e = get-remove_cases (roles_of s.handles) n k role (sym (ap (λ r. get r k) (roles-remove s.handles n)) ∙ e)

  -- a handle is gone, and no list with it
  plainly_gone : {Begins : ℕ → ℕ → Type 0} {Ends : ℕ → Type 0} (s new : State Q QH P PH K) (n : ℕ) → s.next ≤ new.next
      → roles_of new.handles ≡ roles_of (remove s.handles n) → new.responses ≡ s.responses → new.servers ≡ s.servers
      → new.requests ≡ s.requests →
      Settles Begins Ends (λ server p before after. after ≡ before) s new
  plainly_gone {Begins} {Ends} s new n more roles responses servers requests =
      settles_by s new more (same_servers s new servers) (same_held Ends s new servers)
      (λ k role q asks e. (removed_role s n k role (sym (ap (λ r. get r k) roles) ∙ e)).1)
      (λ server p was serves. entries-serving s new server p serves.0.0
      (removed_role s n p (SentRequest serves.0.0) (sym (ap (λ r. get r p) roles) ∙ serves.0.1)).1 serves.0.1
      (ap (λ l. at l (channel_key server serves.0.0)) responses))
      (same_requests s new requests)

  -- a pending response is gone, and with it all entries of its channel
  pending_gone : {Begins : ℕ → ℕ → Type 0} {Ends : ℕ → Type 0} (s : State Q QH P PH K) → ChannelsApart (roles_of s.handles)
      → (n : ℕ) (p : Pending Q QH) → handle_at s n ≡ Some (PendingResponse p) →
      Settles Begins Ends (λ server p before after. after ≡ before) s
      (after_handle_gone (record s { handles = remove s.handles n }) (PendingResponse p))
  pending_gone {Begins} {Ends} s apart n p is =
      let new : State Q QH P PH K = after_handle_gone (record s { handles = remove s.handles n }) (PendingResponse p) in
      settles_by s new (omega arith) (same_servers s new refl) (same_held Ends s new refl)
      (λ k role q asks e. (removed_role s n k role e).1)
      (λ server r was serves.
      let before = removed_role s n r (SentRequest serves.0.0) serves.0.1 in
      entries-serving s new server r serves.0.0 before.1 serves.0.1
      (retained_kept s.responses (λ key. not (eqb key.client p.message.client && eqb key.channel p.message.channel))
      (channel_key server serves.0.0)
      (other_channel r serves.0.0 before.0 before.1 (eqb serves.0.0.client p.message.client)
      (eqb serves.0.0.channel p.message.channel) refl refl)))
      (same_requests s new refl)
    where
      other_channel : (r : ℕ) (q : Question) → r ≢ n → get (roles_of s.handles) r ≡ Some (SentRequest q) → (a b : Bool)
          → eqb q.client p.message.client ≡ a → eqb q.channel p.message.channel ≡ b → not (a && b) ≡ true
      other_channel r q other waits true true client channel =
          absurd (other (apart r n q (question_of p.message) (ap (option_and_then asking) waits)
          (ap (option_and_then asking) (role_at s.handles n (PendingResponse p) is)) (eqb-true q.client p.message.client client)
          (eqb-true q.channel p.message.channel channel)))
      other_channel r q other waits true false client channel = refl
      other_channel r q other waits false b client channel = refl

  -- a handle is gone, and what goes with it
  handle_gone_settles : {Begins : ℕ → ℕ → Type 0} {Ends : ℕ → Type 0} (s : State Q QH P PH K) → ChannelsApart (roles_of s.handles)
      → (n : ℕ) (h : Handle Q QH P PH) → handle_at s n ≡ Some h →
      Settles Begins Ends (λ server p before after. after ≡ before) s (after_handle_gone (record s { handles = remove s.handles n }) h)
  handle_gone_settles s apart n (RequestMutUninit m) is = plainly_gone s _ n (omega arith) refl refl refl refl
  handle_gone_settles s apart n (RequestMut m) is = plainly_gone s _ n (omega arith) refl refl refl refl
  handle_gone_settles s apart n (PendingResponse p) is = pending_gone s apart n p is
  handle_gone_settles s apart n (ActiveRequest a) is = plainly_gone s _ n (omega arith)
      (roles-changed (without_server a.server) (without_server-role a.server) (remove s.handles n) a.message.number) refl refl refl
  handle_gone_settles s apart n (ResponseMutUninit m) is = plainly_gone s _ n (omega arith) refl refl refl refl
  handle_gone_settles s apart n (ResponseMut m) is = plainly_gone s _ n (omega arith) refl refl refl refl
  handle_gone_settles s apart n (Response m) is = plainly_gone s _ n (omega arith) refl refl refl refl

  -- a port value is gone
  value_gone_settles : {Begins : ℕ → ℕ → Type 0} {Ends : ℕ → Type 0} (s : State Q QH P PH K) (n : ℕ) → Ends n
      → Settles Begins Ends (λ server p before after. after ≡ before) s (without_port_value s n)
  value_gone_settles {Begins} {Ends} s n ends =
      settles_by s (without_port_value s n) (omega arith)
      (λ k c e. made k c (find (λ (d : Server K). eqb d.id k) s.servers) refl
      (sym (find-changed (λ (d : Server K). d.id) (λ (d : Server K). record d { port = without_value n d.port })
      (λ d. without_value_id n d.port) k s.servers) ∙ e))
      (λ k h. ⊎_elim
      (λ same. inr (subst Ends (sym same) ends))
      (λ other. inl (any-map (λ (d : Server K). record d { port = without_value n d.port })
      (λ (c : Server K). eqb c.id k && c.has_value) s.servers
      ∙ any_weaker (λ (c : Server K). eqb c.id k && c.has_value)
      (λ (c : Server K). eqb (without_value n c.port).id k && (without_value n c.port).has_value)
      (λ c h. stays k other c.port (eqb c.id n) refl h) s.servers h))
      (cases_eq k n))
      (λ k role q asks e. e) (λ server p was serves. refl) (same_requests s (without_port_value s n) refl)
    where
      made : (k : ℕ) (c : Server K) (o : Option (Server K)) → find (λ d. eqb d.id k) s.servers ≡ o
          → option_map (λ (d : Server K). record d { port = without_value n d.port }) o ≡ Some c → StaysAsMade s k c
      made k c None is e = absurd (let f : None ≡ Some c = e in cc)
      made k c (Some d) is e =
          let same : record d { port = without_value n d.port } ≡ c =
          (let f : Some (record d { port = without_value n d.port }) ≡ Some c = e in cc) in
          let m = without_value_made n d.port in
          (d, is, ap (λ (x : Server K). x.strategy) (sym same) ∙ m.0, ap (λ (x : Server K). x.handler) (sym same) ∙ m.1)

      stays : (k : ℕ) → k ≢ n → (port : Port K) (b : Bool) → eqb port.id n ≡ b → (eqb port.id k && port.has_value) ≡ true
          → (eqb (cond b (record port { has_value = false }) port).id k && (cond b (record port { has_value = false }) port).has_value)
          ≡ true
      stays k other port true is h = absurd (false_is_true (sym (ap (λ b. b && port.has_value)
          (ne_eqb port.id k (λ same. other (sym same ∙ eqb-true port.id n is)))) ∙ h))
      stays k other port false is h = h

  -- a release
  pub after_release_settles : {Begins : ℕ → ℕ → Type 0} {Ends : ℕ → Type 0} (s : State Q QH P PH K) (n : ℕ) → IsReached s
      → ChannelsApart (roles_of s.handles) → IsLeftFit s → (handle_at s n ≡ None → Ends n) →
      Settles Begins Ends (λ server p before after. after ≡ before) s (after_release s n)
  after_release_settles {Begins} {Ends} s n fits apart left ends = go (handle_at s n) refl
    where
      port_left : IsLeftFit (without_port_value s n)
      port_left =
          left_with_servers (map (λ (c : Client K). record c { port = without_value n c.port }) s.clients) s.servers s.expired s.next
          (left_with_clients s.clients s.servers s.expired s.next left (λ (c : Client K). record c { port = without_value n c.port })
          (λ c. without_value_id n c.port))
          (λ (c : Server K). record c { port = without_value n c.port }) (λ c. without_value_id n c.port)

      go : (o : Option (Handle Q QH P PH)) → handle_at s n ≡ o → Settles Begins Ends (λ server p before after. after ≡ before) s
          (option_map_or (λ handle. without_unused_port (after_handle_gone (record s { handles = fin_map.remove s.handles n }) handle)
          (port_of handle)) o (without_unused_port (without_port_value s n) n))
      go None is = then_settles s (without_port_value s n) _ (value_gone_settles s n (ends is))
          (unused_port_settles (without_port_value s n) n (without_port_value_reached s n fits) port_left)
      go (Some h) is = then_settles s (after_handle_gone (record s { handles = fin_map.remove s.handles n }) h) _
          (handle_gone_settles s apart n h is)
          (unused_port_settles (after_handle_gone (record s { handles = fin_map.remove s.handles n }) h) (port_of h)
          (handle_gone_reached s fits n h is) (handle_gone_left s n left h))
