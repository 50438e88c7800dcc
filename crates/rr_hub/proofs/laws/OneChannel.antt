-- A channel is held by one request that is on loan or waits for answers, and a number by one server or one client.
use Rattle.std.proofs.Common.{suc, ◌≡◌, ◌<◌, ℕ, cond, List, [], ◌∷◌, Bool, true, false, Option, Some, None, length, option_map, refl, sym, ap, ◌∙◌}
use Rattle.std.specs.Prelude.{◌==◌, find, is_some, option_and_then, slice_get}
use Rattle.std.specs.FinMap as fin_map
use Rattle.rr_table.proofs.MapLaws.{get-map_values}
use Rattle.rr_table.specs.TableView.{TableEntry}
use Rattle.std.proofs.lemmas.Bool.{eqb-true}
use Rattle.rr_protocol.specs.Ports.{Client, Server}
use Rattle.rr_protocol.specs.State.{State}
use Rattle.rr_laws.specs.Apart.{ChannelsApart}
use Rattle.rr_laws.specs.Reached.{IsReached, has_client, has_server}
use Rattle.rr_laws.proofs.Connected.{not_both}
use Rattle.rr_laws.specs.Roles.{Question, Role, LoanedRequest, SentRequest, ReceivedRequest, LoanedResponse, ReceivedResponse, question_of, role_of, roles_of, asking, asking_at}
use Rattle.rr_laws.proofs.RoleLaws.{get-roles}
use Rattle.rr_store.specs.declared.handle_entry.HandleEntry.{HandleEntry}
use Rattle.rr_store.specs.declared.handle_entry.Stage.{Stage}
use Rattle.rr_store.specs.declared.handle_entry.Stage.TheVariants as stage
use Rattle.rr_store.specs.Parts.{Parts, ServerPart}
use Rattle.rr_store.specs.Sound.{IsSoundStore, empty_hand, is_of_request}
use Rattle.rr_store.specs.Views.{client_of, handle_in, handle_of, request_at, sender_of, server_of, state_of}
use Rattle.rr_store.proofs.base.hands.Stages.{handle_uses_request}
use Rattle.rr_store.proofs.base.lists.Adding.{mapped}
use Rattle.rr_store.proofs.base.lists.Rising.{rising_once}
use Rattle.rr_store.proofs.base.senders.Owners.{servers_rise}
use Rattle.rr_store.proofs.base.views.Agreeing.{request_sender}

-- what has a number among others stands somewhere
numbered : {X : Type 0} (id : X → ℕ) (xs : List X) (n : ℕ) → is_some (find (λ x. id x == n) xs) ≡ true
    → (i : ℕ) × (x : X) × (slice_get xs i ≡ Some x) × (id x ≡ n)
numbered id [] n e = absurd (let f : false ≡ true = e in cc)
numbered {X} id (x ∷ xs) n e = go (numbered id xs n) (id x == n) refl e
  where
    go : (is_some (find (λ x. id x == n) xs) ≡ true → (i : ℕ) × (y : X) × (slice_get xs i ≡ Some y) × (id y ≡ n)) → (b : Bool)
        → (id x == n) ≡ b → is_some (cond b (Some x) (find (λ x. id x == n) xs)) ≡ true
        → (i : ℕ) × (y : X) × (slice_get (x ∷ xs) i ≡ Some y) × (id y ≡ n)
    go behind true is e = (0, x, refl, eqb-true (id x) n is)
    go behind false is e = let r = behind e in (suc r.0, r.1, r.2, r.3)

-- a request that is on loan or waits for answers stands under its number
pub own_number : {Q QH P PH K : Type 0} (s : State Q QH P PH K) → IsReached s → (n : ℕ) (q : Question)
    → asking_at (roles_of s.handles) n ≡ Some q → n ≡ q.number
own_number s reached n q at = go (fin_map.get (roles_of s.handles) n) refl at
  where
    go : (o : Option Role) → fin_map.get (roles_of s.handles) n ≡ o → option_and_then asking o ≡ Some q → n ≡ q.number
    go None is e = absurd (let f : None ≡ Some q = e in cc)
    go (Some (LoanedRequest r)) is e =
        let own : r.number ≡ n = (reached.handles n (LoanedRequest r) is).own_number in
        let same : r ≡ q = (let f : Some r ≡ Some q = e in cc) in
        sym own ∙ ap (λ (x : Question). x.number) same
    go (Some (SentRequest r)) is e =
        let own : r.number ≡ n = (reached.handles n (SentRequest r) is).own_number in
        let same : r ≡ q = (let f : Some r ≡ Some q = e in cc) in
        sym own ∙ ap (λ (x : Question). x.number) same
    go (Some (ReceivedRequest server r)) is e = absurd (let f : None ≡ Some q = e in cc)
    go (Some (LoanedResponse a)) is e = absurd (let f : None ≡ Some q = e in cc)
    go (Some (ReceivedResponse a)) is e = absurd (let f : None ≡ Some q = e in cc)

module _ {Q QH P PH K : Type 0} (p : Parts Q QH P PH K) (sound : IsSoundStore p empty_hand) where
  -- where a request stands that is on loan or waits for answers, and under which number
  record Stands (n : ℕ) (q : Question) : Type 0 where
    sender : ℕ
    slot : ℕ
    within : sender < length p.client_senders
    owner : q.client ≡ (sender_of sender p.client_senders).owner
    is : question_of (request_at p sender slot) ≡ q
    number : n ≡ q.number

  -- of these stages alone
  of_stage : (g : Stage) (sender slot : ℕ) (q : Question) → asking (role_of (handle_in p g sender slot)) ≡ Some q
      → (is_of_request g ≡ true) × (question_of (request_at p sender slot) ≡ q)
  of_stage stage.RequestMutUninit sender slot q e = (refl, (cc))
  of_stage stage.RequestMut sender slot q e = (refl, (cc))
  of_stage (stage.PendingResponse hint connections) sender slot q e = (refl, (cc))
  of_stage (stage.ActiveRequest server loans) sender slot q e = absurd (let f : None ≡ Some q = e in cc)
  of_stage stage.ResponseMutUninit sender slot q e = absurd (let f : None ≡ Some q = e in cc)
  of_stage stage.ResponseMut sender slot q e = absurd (let f : None ≡ Some q = e in cc)
  of_stage stage.Response sender slot q e = absurd (let f : None ≡ Some q = e in cc)

  stands : ((n : ℕ) (q : Question) → asking_at (roles_of (state_of p).handles) n ≡ Some q → n ≡ q.number) → (n : ℕ) (q : Question)
      → asking_at (roles_of (state_of p).handles) n ≡ Some q → Stands n q
  stands own n q at =
      go (fin_map.get p.table.entries n) refl
      (sym (ap (option_and_then asking) (get-roles (state_of p).handles n ∙ ap (option_map role_of) (get-map_values (handle_of p) p.table.entries n))) ∙ at)
    where
      go : (o : Option (TableEntry HandleEntry)) → fin_map.get p.table.entries n ≡ o
          → option_and_then asking (option_map role_of (option_map (handle_of p) o)) ≡ Some q → Stands n q
      go None is e = absurd (let f : None ≡ Some q = e in cc)
      go (Some s) is e =
          let h = of_stage s.value.stage s.value.sender s.value.slot q e in record {
            sender = s.value.sender;
            slot = s.value.slot;
            within = request_sender p empty_hand sound.counted n s is h.0;
            owner = sym (ap (λ (x : Question). x.client) h.1)
                ∙ sound.addressed.requests s.value.sender s.value.slot (handle_uses_request p empty_hand sound.counted n s is h.0);
            is = h.1;
            number = own n q at;
          }

  -- no two such requests of a client are on one channel
  pub one_channel : ((n : ℕ) (q : Question) → asking_at (roles_of (state_of p).handles) n ≡ Some q → n ≡ q.number)
      → ChannelsApart (roles_of (state_of p).handles)
  one_channel own n k q r at there client channel =
      let a = stands own n q at in
      let b = stands own k r there in
      let sender : a.sender ≡ b.sender =
      sound.client_ports.owned_once a.sender b.sender a.within b.within (sym a.owner ∙ client ∙ b.owner) in
      let slot : a.slot ≡ b.slot = ap (λ (x : Question). x.channel) a.is ∙ channel ∙ sym (ap (λ (x : Question). x.channel) b.is) in
      let same : q ≡ r = sym a.is ∙ ap (λ (x : ℕ × ℕ). question_of (request_at p x.0 x.1)) (let e : (a.sender, a.slot) ≡ (b.sender, b.slot) = cc in e) ∙ b.is in
      a.number ∙ ap (λ (x : Question). x.number) same ∙ sym b.number

  -- no two servers have one number
  pub one_number : (i j : ℕ) (x y : Server K) → slice_get (state_of p).servers i ≡ Some x → slice_get (state_of p).servers j ≡ Some y
      → x.id ≡ y.id → i ≡ j
  one_number i j x y at there same =
      let a = mapped server_of p.servers i x at in
      let b = mapped server_of p.servers j y there in
      rising_once (λ (s : ServerPart K). s.port.id) p.servers (servers_rise p empty_hand sound) i j a.0 b.0 a.1 b.1
      (ap (λ (c : Server K). c.id) a.2 ∙ same ∙ sym (ap (λ (c : Server K). c.id) b.2))

  -- no client has a server's number
  pub one_kind : (n : ℕ) → has_client (state_of p).clients n ≡ true → has_server (state_of p).servers n ≡ false
  one_kind n client =
      not_both (has_server (state_of p).servers n) (λ server.
      let a = numbered (λ (c : Client K). c.id) (state_of p).clients n client in
      let b = numbered (λ (c : Server K). c.id) (state_of p).servers n server in
      let c = mapped client_of p.clients a.0 a.1 a.2 in
      let s = mapped server_of p.servers b.0 b.1 b.2 in
      sound.have_ports.apart a.0 b.0 c.0 s.0 c.1 s.1
      (ap (λ (x : Client K). x.id) c.2 ∙ a.3 ∙ sym (ap (λ (x : Server K). x.id) s.2 ∙ b.3)))
