-- The ports of one side and their senders, with one more port that sends from a new sender.
use Rattle.std.proofs.Common.{◌≡◌, ◌≢◌, ◌<◌, ◌≤◌, ◌+◌, ℕ, List, [], ◌∷◌, ◌++◌, Option, None, Some, option_map, length, get_or, map, replicate, sym, ap, ◌∙◌, subst, arith, refl}
use Rattle.std.specs.Prelude.{slice_get}
use Rattle.std.proofs.lemmas.List.{length-append, length-map, length-replicate, map-append, get_or-replicate}
use Rattle.std.proofs.lemmas.Option.{slice_get-map}
use Rattle.rr_sender.specs.Senders.{Messages, times, all_entries}
use Rattle.rr_sender.proofs.EntryLaws.{times-empty}
use Rattle.rr_store.specs.declared.port.LeftPort.{LeftPort}
use Rattle.rr_store.specs.Parts.{Connected, Sender}
use Rattle.rr_store.specs.Views.{sender_of}
use Rattle.rr_store.specs.Sound.{HasPort, HasSenders, HaveLeft, IsShaped}
use Rattle.rr_store.specs.Creating.{IsNew}
use Rattle.rr_creating.proofs.laws.NewSenders.{IsPut, each_added, apart_added, new_queue, new_slots}
use Rattle.rr_store.proofs.base.lists.Adding.{given_before}
use Rattle.rr_store.proofs.base.lists.Tallies.{snoc_cases, snoc_keeps}

-- a sender from which nothing was sent has its size
pub new_shaped : {T N H : Type 0} {slots room receivers channels capacity : ℕ} {details : N} {m : Messages T N H}
    → IsNew slots room receivers channels capacity details m → IsShaped receivers channels capacity m
new_shaped {T} {N} {H} {slots} {room} {receivers} {channels} {capacity} {details} {m} new = let slots_are = new_slots new in record {
  contents = new.contents ∙ sym slots_are;
  details = ap length new.details ∙ length-replicate slots details ∙ sym slots_are;
  user_headers = new.user_headers ∙ sym slots_are;
  queues = ap length new.queues ∙ length-replicate receivers (replicate channels []);
  borrowed = ap length new.borrowed ∙ length-replicate receivers (replicate channels 0);
  queue_channels = λ r h. ap (λ (q : List (List (List ℕ))). length (get_or q r [])) new.queues
      ∙ ap length (get_or-replicate receivers r (replicate channels []) [] h)
      ∙ length-replicate channels [];
  borrowed_channels = λ r h. ap (λ (q : List (List ℕ)). length (get_or q r [])) new.borrowed
      ∙ ap length (get_or-replicate receivers r (replicate channels 0) [] h)
      ∙ length-replicate channels 0;
  capacity_is = new.capacity_is;
  within = λ r c. omega (arith, ap length (new_queue m new r c));
  inside = λ slot some. absurd (omega (
    arith,
    some,
    ap (λ (q : List (List (List ℕ))). times slot (all_entries q)) new.queues,
    times-empty slot receivers channels,
  ));
}

-- a sender's port is still there
pub port_stays : {C : Type 0} (sender : C → ℕ) (ports : List C) (new : C) (n : ℕ) → HasPort sender ports n
    → HasPort sender (ports ++ new ∷ []) n
port_stays sender ports new n has = (has.0, has.1, snoc_keeps ports new has.0 has.1 has.2, has.3)

-- a later number may be the next one
pub later_next : {T N H K : Type 0} {next ports : ℕ} {connected : List (Connected K)} {senders : List (Sender T N H)}
    → HasSenders next ports connected senders
    → HasSenders (next + 1) ports connected senders
later_next n = record {
  few = n.few;
  own = n.own;
  received = n.received;
  valued = n.valued;
  owned_once = n.owned_once;
  numbered = λ i h. omega (arith, n.numbered i h);
  placed = n.placed;
  receivers_once = n.receivers_once;
  rising = n.rising;
}

-- of ports that left those are still listed that don't send from a sender, each once
pub record AreKept (sender : ℕ) (left after : List LeftPort) : Type 0 where
  pub were : (i : ℕ) (l : LeftPort) → slice_get after i ≡ Some l → (j : ℕ) × (slice_get left j ≡ Some l)
  pub apart : (i : ℕ) (l : LeftPort) → slice_get after i ≡ Some l → l.sender ≢ sender
  pub once : (i j : ℕ) (l m : LeftPort) → slice_get after i ≡ Some l → slice_get after j ≡ Some m → l.sender ≡ m.sender → i ≡ j
  pub fewer : length after ≤ length left

module _ {T N H K C : Type 0} (connected : C → Connected K) (next ports : ℕ) (cs : List C) {senders after : List (Sender T N H)}
    (n : HasSenders next ports (map connected cs) senders) (port : C)
    {index : ℕ} {last : Sender T N H} (put : IsPut index last senders after)
    {slots room receivers channels capacity : ℕ} {details : N} (new : IsNew slots room receivers channels capacity details last.messages)
    (alone : (i : ℕ) (c : Connected K) → slice_get (map connected cs) i ≡ Some c → c.sender ≢ index)
    (its_sender : (connected port).sender ≡ index) (its_id : (connected port).port.id ≡ next) (owned : last.owner ≡ next)
    (slots_are : length last.messages.held ≡ (connected port).port.pool_size)
    (room_is : last.messages.room ≡ (connected port).port.initial_max_slice_len)
    (receiver_is : last.receiver ≡ (connected port).receiver) (value_is : last.has_value ≡ (connected port).port.has_value)
    (inside : (connected port).receiver < ports)
    (vacant : (i : ℕ) (c : C) → slice_get cs i ≡ Some c → (connected c).receiver ≢ (connected port).receiver) (few : length cs < ports)
  where
    -- a port of the longer list is one of the list's, or the new one
    connected_cases : {Z : Type 0} (i : ℕ) (c : Connected K) → slice_get (map connected (cs ++ port ∷ [])) i ≡ Some c
        → (slice_get (map connected cs) i ≡ Some c → i < length cs → Z)
        → (i ≡ length cs → connected port ≡ c
        → Z) → Z
    connected_cases i c at before fresh =
        snoc_cases (map connected cs) _ i c
        (sym (ap (λ (cs : List (Connected K)). slice_get cs i) (map-append connected cs _)) ∙ at)
        (λ e h. before e (omega (arith, h, length-map cs connected)))
        (λ e is. fresh (omega (arith, e, length-map cs connected)) is)

    -- no port has the receiver of the new one
    another : (i : ℕ) (c : Connected K) → slice_get (map connected cs) i ≡ Some c → c.receiver ≡ (connected port).receiver → ⊥
    another i c at same = go (slice_get cs i) refl (sym (slice_get-map connected cs i) ∙ at)
      where
        go : (o : Option C) → slice_get cs i ≡ o → option_map connected o ≡ Some c → ⊥
        go None e f = let no : None ≡ Some c = f in cc
        go (Some x) e f = let is : Some (connected x) ≡ Some c = f in let also : connected x ≡ c = cc in
            vacant i x e (ap (λ (c : Connected K). c.receiver) also ∙ same)

    -- the sender of a port that was there is as it was
    kept_sender : (i : ℕ) (c : Connected K) → slice_get (map connected cs) i ≡ Some c
        → sender_of c.sender after ≡ sender_of c.sender senders
    kept_sender i c at = put.others c.sender (alone i c at)

    -- and the new port has the new one
    new_sender : sender_of (connected port).sender after ≡ last
    new_sender = ap (λ l. sender_of l after) its_sender ∙ put.here

    -- each port has a sender of its own
    pub port_added : HasSenders (next + 1) ports (map connected (cs ++ port ∷ [])) after
    port_added =
        record {
          few = omega (arith, few, length-map (cs ++ port ∷ []) connected, length-append cs (port ∷ []));
          own = λ i c at. connected_cases i c at
              (λ before h. let o = n.own i c before in
              let e = kept_sender i c before in (
                put.stay c.sender o.0,
                ap (λ (x : Sender T N H). x.owner) e ∙ o.1,
                ap (λ (x : Sender T N H). length x.messages.held) e ∙ o.2,
                ap (λ (x : Sender T N H). x.messages.room) e ∙ o.3,
              ))
              (λ end is.
              let IsOwn : Connected K → Type 0 = λ c. (c.sender < length after)
              × ((sender_of c.sender after).owner ≡ c.port.id)
              × (length (sender_of c.sender after).messages.held ≡ c.port.pool_size)
              × ((sender_of c.sender after).messages.room ≡ c.port.initial_max_slice_len) in
              subst IsOwn is (
                omega (arith, its_sender, put.there),
                ap (λ (x : Sender T N H). x.owner) new_sender ∙ owned ∙ sym its_id,
                ap (λ (x : Sender T N H). length x.messages.held) new_sender ∙ slots_are,
                ap (λ (x : Sender T N H). x.messages.room) new_sender ∙ room_is,
              ));
          received = λ i c at. connected_cases i c at
              (λ before h. ap (λ (x : Sender T N H). x.receiver) (kept_sender i c before) ∙ n.received i c before)
              (λ end is.
              let Knows : Connected K → Type 0 = λ c. (sender_of c.sender after).receiver ≡ c.receiver in
              subst Knows is (ap (λ (x : Sender T N H). x.receiver) new_sender ∙ receiver_is));
          valued = λ i c at. connected_cases i c at
              (λ before h. ap (λ (x : Sender T N H). x.has_value) (kept_sender i c before) ∙ n.valued i c before)
              (λ end is.
              let Knows : Connected K → Type 0 = λ c. (sender_of c.sender after).has_value ≡ c.port.has_value in
              subst Knows is (ap (λ (x : Sender T N H). x.has_value) new_sender ∙ value_is));
          owned_once = apart_added put (λ x. x.owner) (λ l _ h same. omega (arith, n.numbered l h, owned, same)) n.owned_once;
          numbered = each_added put (λ _ x. x.owner < next + 1) (λ l h. omega (arith, n.numbered l h)) (omega (arith, owned));
          placed = λ i c at. connected_cases i c at (λ before h. n.placed i c before)
              (λ end is. omega (arith, inside, ap (λ (c : Connected K). c.receiver) is));
          receivers_once = λ i j c d at there same. connected_cases i c at
              (λ before h. connected_cases j d there
              (λ also g. n.receivers_once i j c d before also same)
              (λ end is. absurd (another i c before (same ∙ sym (ap (λ (c : Connected K). c.receiver) is)))))
              (λ end is. connected_cases j d there
              (λ also g. absurd (another j d also (sym same ∙ sym (ap (λ (c : Connected K). c.receiver) is))))
              (λ too also. end ∙ sym too));
          rising = λ i j c d at there less. connected_cases i c at
              (λ before h. connected_cases j d there
              (λ also g. n.rising i j c d before also less)
              (λ end is. omega (
                arith,
                given_before next ports _ senders n i c before,
                its_id,
                ap (λ (c : Connected K). c.port.id) is,
              )))
              (λ end is. connected_cases j d there
              (λ also g. absurd (omega (arith, less, end, g)))
              (λ too also. absurd (omega (arith, less, end, too))));
        }

    -- the senders of ports that are still listed as left are as they were
    pub left_added : {left left_after : List LeftPort} → AreKept index left left_after → HaveLeft (map connected cs) left senders
        → HaveLeft (map connected (cs ++ port ∷ [])) left_after after
    left_added kept has = record {
      own = λ i l at.
          let was = kept.were i l at in
          let o = has.own was.0 l was.1 in (
            put.stay l.sender o.0,
            ap (λ (x : Sender T N H). x.owner) (put.others l.sender (kept.apart i l at)) ∙ o.1,
          );
      apart = λ i j l c at there.
          let was = kept.were i l at in
          connected_cases j c there (λ before h. has.apart was.0 j l c was.1 before)
          (λ end is same. kept.apart i l at (same ∙ ap (λ (c : Connected K). c.sender) (sym is) ∙ its_sender));
      once = kept.once;
    }
