-- What is true of ports, senders and rows stays true while messages and handles change.
use Rattle.std.proofs.Common.{◌≡◌, ◌≢◌, ◌<◌, ◌≤◌, ◌+◌, ◌*◌, ◌^◌, ℕ, List, Some, option_map, length, map, refl, sym, ap, ◌∙◌, subst, ⊎_elim, arith}
use Rattle.std.specs.Prelude.{slice_get, slice_set}
use Rattle.std.specs.Ordering.{nat_cmp}
use Rattle.std.specs.FinMap as fin_map
use Rattle.std.proofs.lemmas.Option.{slice_get-map}
use Rattle.rr_table.specs.TableView.{TableEntry}
use Rattle.rr_store.specs.declared.handle_entry.HandleEntry.{HandleEntry}
use Rattle.rr_store.specs.declared.details.RequestDetails.{RequestDetails}
use Rattle.rr_store.specs.declared.details.ResponseDetails.{ResponseDetails}
use Rattle.rr_store.specs.declared.port.LeftPort.{LeftPort}
use Rattle.rr_store.specs.Parts.{Parts, Connected, ClientPart, Sender}
use Rattle.rr_store.specs.Views.{sender_of, no_sender}
use Rattle.rr_store.specs.Sound.{IsSoundStore, IsSized, HavePorts, HaveLeft, HasPort, HasSenders, Hand}
use Rattle.rr_store.specs.Frames.{SenderAlike, SendersAlike, moved, SameFrame}
use Rattle.std.proofs.lemmas.Bool.{cases_eq, cases_lt}
use Rattle.std.proofs.lemmas.List.{get_or-set_same, get_or-set_other, length-map, length-set}
use Rattle.std.proofs.lemmas.Option.{get_or_from_slice_get}
use Rattle.rr_store.proofs.base.lists.Adding.{mapped}
use Rattle.rr_store.proofs.base.lists.Replaced.{set_past, map-set_alike}

-- a part of the one list is read of an element of the other
pub before_it : {C D : Type 0} (read : C → D) (before after : List C) → map read after ≡ map read before → (i : ℕ) (c : C)
    → slice_get after i ≡ Some c → (d : C) × (slice_get before i ≡ Some d) × (read d ≡ read c)
before_it {D = D} read before after alike i c at =
    mapped read before i (read c)
    (ap (λ (ds : List D). slice_get ds i) (sym alike) ∙ slice_get-map read after i ∙ ap (option_map read) at)

module _ {T N H K : Type 0} (ports : List (Connected K)) (senders others : List (Sender T N H)) (same : SendersAlike senders others) where
  -- ports have their senders as before
  pub senders_kept : (next later most : ℕ) → next ≤ later → HasSenders next most ports senders → HasSenders later most ports others
  senders_kept next later most le has = record {
    few = has.few;
    own = λ i c at.
        let o = has.own i c at in
        let is = same.each c.sender in
        (omega (arith, o.0, same.many), is.owner ∙ o.1, is.slots ∙ o.2, is.room ∙ o.3);
    received = λ i c at. (same.each c.sender).receiver ∙ has.received i c at;
    valued = λ i c at. (same.each c.sender).has_value ∙ has.valued i c at;
    owned_once = λ i j h g e. has.owned_once i j (omega (arith, h, same.many)) (omega (arith, g, same.many))
        (sym (same.each i).owner ∙ e ∙ (same.each j).owner);
    numbered = λ i h. omega (arith, has.numbered i (omega (arith, h, same.many)), (same.each i).owner, le);
    placed = has.placed;
    receivers_once = has.receivers_once;
    rising = has.rising;
  }

  -- and so have those that left
  pub left_kept : (left : List LeftPort) → HaveLeft ports left senders → HaveLeft ports left others
  left_kept left has = record {
    own = λ i l at. let o = has.own i l at in (omega (arith, o.0, same.many), (same.each l.sender).owner ∙ o.1);
    apart = has.apart;
    once = has.once;
  }

module _ {T N H : Type 0} (senders : List (Sender T N H)) (l : ℕ) (sender : Sender T N H) where
  -- one sender became another that is alike
  pub senders_set : SenderAlike (sender_of l senders) sender → SendersAlike senders (slice_set senders l sender)
  senders_set alike = record {
    many = length-set senders l sender;
    each = λ k. ⊎_elim (λ e. ⊎_elim (λ h. at_it k e h) (λ h. past k h) (cases_lt l (length senders))) (λ n. other k n) (cases_eq k l);
  }
    where
      same : (k : ℕ) → sender_of k (slice_set senders l sender) ≡ sender_of k senders
          → SenderAlike (sender_of k senders) (sender_of k (slice_set senders l sender))
      same k e = let R : Sender T N H → Type 0 = SenderAlike (sender_of k senders) in
          subst R (sym e) (record { owner = refl; row = refl; receiver = refl; has_value = refl; slots = refl; room = refl; marks = refl; shaped = λ r c n h. h })

      at_it : (k : ℕ) → k ≡ l → l < length senders → SenderAlike (sender_of k senders) (sender_of k (slice_set senders l sender))
      at_it k e h =
          let R : ℕ → Type 0 = λ k. SenderAlike (sender_of k senders) (sender_of k (slice_set senders l sender)) in
          let S : Sender T N H → Type 0 = SenderAlike (sender_of l senders) in
          subst R (sym e) (subst S (sym (get_or-set_same senders l sender no_sender h)) alike)

      past : (k : ℕ) → length senders ≤ l → SenderAlike (sender_of k senders) (sender_of k (slice_set senders l sender))
      past k h = same k (ap (λ (ls : List (Sender T N H)). sender_of k ls) (set_past senders l sender h))

      other : (k : ℕ) → k ≢ l → SenderAlike (sender_of k senders) (sender_of k (slice_set senders l sender))
      other k n = same k (get_or-set_other senders l k sender no_sender n)

-- one element became another of which the same is read
pub ports_set : {C D : Type 0} (read : C → D) (items : List C) (i : ℕ) (c d : C) → slice_get items i ≡ Some c → read d ≡ read c
    → map read (slice_set items i d) ≡ map read items
ports_set read items i c d at same = map-set_alike read items i d c (same ∙ sym (ap read (get_or_from_slice_get items i c c at)))

-- where a change leaves the frame, what is true of ports, senders and rows stays true
module _ {Q QH P PH K : Type 0} (p : Parts Q QH P PH K) (hand : Hand) (sound : IsSoundStore p hand)
    (clients : List (ClientPart K)) (client_senders : List (Sender Q RequestDetails QH))
    (server_senders : List (Sender P ResponseDetails PH))
    (entries : fin_map.FinMap nat_cmp (TableEntry HandleEntry)) (next : ℕ)
    (frame : SameFrame p clients client_senders server_senders next)
  where
    abbrev after : Parts Q QH P PH K
    after = moved p clients client_senders server_senders entries next

    pub client_before : (i : ℕ) (c : ClientPart K) → slice_get clients i ≡ Some c → (d : ClientPart K) × (slice_get p.clients i ≡ Some d)
        × (d.connected ≡ c.connected)
    client_before = before_it (λ c. c.connected) p.clients clients frame.clients_alike

    pub client_after : (i : ℕ) (c : ClientPart K) → slice_get p.clients i ≡ Some c → (d : ClientPart K) × (slice_get clients i ≡ Some d)
        × (d.connected ≡ c.connected)
    client_after = before_it (λ c. c.connected) clients p.clients (sym frame.clients_alike)

    pub framed_client_ports : HasSenders next p.limits.max_clients (map (λ c. c.connected) clients) client_senders
    framed_client_ports =
        subst (λ (ports : List (Connected K)). HasSenders next p.limits.max_clients ports client_senders) (sym frame.clients_alike)
        (senders_kept _ _ _ frame.client_senders_alike p.next next p.limits.max_clients frame.numbers sound.client_ports)

    pub framed_server_ports : HasSenders next p.limits.max_servers (map (λ s. s.connected) p.servers) server_senders
    framed_server_ports = senders_kept _ _ _ frame.server_senders_alike p.next next p.limits.max_servers frame.numbers sound.server_ports

    -- and so do the ports of handles, if there are no new ones
    pub framed_have_ports : ((k : ℕ) (s : TableEntry HandleEntry) → fin_map.get entries k ≡ Some s → fin_map.get p.table.entries k ≡ Some s)
        → HavePorts after
    framed_have_ports before =
        let n = sound.have_ports in
        let stays : (sender : ℕ) → HasPort (λ (c : ClientPart K). c.sender) p.clients sender
        → HasPort (λ (c : ClientPart K). c.sender) clients sender = λ sender has. let d = client_after has.0 has.1 has.2 in
        (has.0, d.0, d.1, ap (λ (f : Connected K). f.sender) d.2 ∙ has.3) in
        record {
          handles = λ k s at. let h = n.handles k s (before k s at) in record {
            request_loan = λ is. stays s.value.sender (h.request_loan is);
            pending = λ is. stays s.value.sender (h.pending is);
            response_loan = h.response_loan;
          };
          apart = λ i j c s at there same. let d = client_before i c at in
              n.apart i j d.0 s d.1 there (ap (λ (f : Connected K). f.port.id) d.2 ∙ same);
          left_clients = subst (λ (ports : List (Connected K)). HaveLeft ports p.left_clients client_senders) (sym frame.clients_alike)
              (left_kept _ _ _ frame.client_senders_alike p.left_clients n.left_clients);
          left_servers = left_kept _ _ _ frame.server_senders_alike p.left_servers n.left_servers;
          client_room = omega (
            arith,
            n.client_room,
            length-map clients (λ (c : ClientPart K). c.connected),
            length-map p.clients (λ (c : ClientPart K). c.connected),
            ap length frame.clients_alike,
          );
          server_room = n.server_room;
        }

    pub framed_sized : next ≤ 2 ^ 62 → ((i : ℕ) (c : ClientPart K) → slice_get clients i ≡ Some c → c.loans_made ≤ next) → IsSized after
    framed_sized fits made =
        let n = sound.sized in
        record {
          limits_fit = n.limits_fit;
          client_senders = λ l h. (frame.client_senders_alike.each l).shaped _ _ _
              (n.client_senders l (omega (arith, h, frame.client_senders_alike.many)));
          server_senders = λ l h. (frame.server_senders_alike.each l).shaped _ _ _
              (n.server_senders l (omega (arith, h, frame.server_senders_alike.many)));
          marks = λ l h. (frame.client_senders_alike.each l).marks ∙ n.marks l (omega (arith, h, frame.client_senders_alike.many))
              ∙ sym (ap (λ k. k * p.limits.max_servers) (frame.client_senders_alike.each l).slots);
          next_fits = fits;
          channels = λ l h. omega (
            arith,
            n.channels l (omega (arith, h, frame.client_senders_alike.many)),
            (frame.client_senders_alike.each l).slots,
          );
          loans_made = made;
          most_loans = n.most_loans;
          rows_fit = λ l h. omega (
            arith,
            n.rows_fit l (omega (arith, h, frame.client_senders_alike.many)),
            ap (λ k. (p.limits.max_servers + 1) * k) (frame.client_senders_alike.each l).slots,
          );
        }
