-- The two sites of a new sender: behind all others, and in the place of one that nothing uses, which a port had that left.
use Rattle.std.proofs.Common.{◌≡◌, ◌≢◌, ◌<◌, ℕ, zero, suc, Bool, true, false, cond, List, [], ◌∷◌, ◌++◌, Some, length, get_or, refl, sym, ap, ◌∙◌, subst, ⊎_elim, arith}
use Rattle.std.specs.Prelude.{◌==◌, slice_get, slice_set}
use Rattle.std.specs.List.{remove}
use Rattle.std.specs.FinMap as fin_map
use Rattle.std.proofs.lemmas.Bool.{cases_lt, cases_eq, eq-eqb, eqb-true}
use Rattle.std.proofs.lemmas.List.{get_or_past, get_or-set_other, get_or-set_same, length-append, length-set}
use Rattle.std.proofs.lemmas.List.Edits.{length-remove}
use Rattle.std.proofs.lemmas.Option.{get_or_from_slice_get, slice_get-get_or, slice_get_within}
use Rattle.std.proofs.Math.ListN.{get_or-append}
use Rattle.std.proofs.Math.Seq.{get_or-append_seam}
use Rattle.rr_table.specs.TableView.{TableEntry}
use Rattle.rr_sender.specs.Senders.{Messages, queue_at, times, used_below, used_count, uses}
use Rattle.rr_sender.proofs.EntryLaws.{times-at_two}
use Rattle.rr_store.specs.declared.port.LeftPort.{LeftPort}
use Rattle.rr_store.specs.Creating.{Site, is_idle, idle_left, last_site, left_at, left_site}
use Rattle.rr_store.specs.declared.handle_entry.HandleEntry.{HandleEntry}
use Rattle.rr_store.specs.Parts.{Connected, Parts, Sender}
use Rattle.rr_store.specs.Sound.{HaveLeft, IsCounted, IsShaped, empty_hand, is_of_request, is_of_response, request_uses, response_uses}
use Rattle.rr_store.specs.Views.{no_sender, sender_of}
use Rattle.rr_store.proofs.base.hands.Stages.{handle_uses_request, handle_uses_response}
use Rattle.rr_store.proofs.base.lists.Removed.{elsewhere, one_place, stood}
use Rattle.rr_store.proofs.base.lists.Replaced.{Standing, standing}
use Rattle.rr_store.proofs.base.senders.Entries.{used_inside}
use Rattle.rr_creating.proofs.laws.NewPort.{AreKept}
use Rattle.rr_creating.proofs.laws.NewSenders.{IsIdle, IsPut, IsRowed}

-- no slot stands in a list
none_listed : (slots : List ℕ) → ((i : ℕ) → times i slots ≡ 0) → slots ≡ []
none_listed [] none = refl
none_listed (x ∷ slots) none = absurd (omega (arith, none x, ap {B = ℕ} (λ b. cond b 1 0) (eq-eqb x x refl)))

module _ {T N H : Type 0} (m : Messages T N H) where
  -- of as many slots as there are none is used
  none_used : (n : ℕ) → used_below m n ≡ 0 → (i : ℕ) → i < n → uses m i ≡ 0
  none_used zero none i h = absurd (omega (arith, h))
  none_used (suc n) none i h =
      let rest : used_below m n ≡ 0 = omega (arith, none) in
      ⊎_elim (λ e. ap (uses m) e ∙ last (uses m n == 0) refl) (λ o. none_used n rest i (omega (arith, h, o))) (cases_eq i n)
    where
      last : (b : Bool) → (uses m n == 0) ≡ b → uses m n ≡ 0
      last true e = eqb-true (uses m n) 0 e
      last false e = absurd (omega (arith, none, ap {B = ℕ} (λ b. cond b 0 1) e))

  module _ {receivers channels capacity : ℕ} (shaped : IsShaped receivers channels capacity m) (idle : (used_count m == 0) ≡ true) where
    unused : (i : ℕ) → uses m i ≡ 0
    unused i =
        ⊎_elim (λ h. none_used (length m.held) (eqb-true (used_count m) 0 idle) i h)
        (λ h. ⊎_elim (λ some. absurd (omega (arith, h, used_inside m shaped i some))) (λ none. omega (arith, none)) (cases_lt 0 (uses m i)))
        (cases_lt i (length m.held))

    -- a sender of which no slot is used is idle
    pub counted_idle : IsIdle m
    counted_idle = record {
      used = unused;
      queues = λ r c. ⊎_elim
          (λ h. ⊎_elim
          (λ g. none_listed (queue_at m r c) (λ i. omega (arith, unused i, times-at_two m.queues r c h g i)))
          (λ g. get_or_past (get_or m.queues r []) c [] g)
          (cases_lt c (length (get_or m.queues r []))))
          (λ h. ap (λ (row : List (List ℕ)). get_or row c []) (get_or_past m.queues r [] h))
          (cases_lt r (length m.queues));
    }

-- a sender that isn't there is idle
pub nobody_idle : {T N H : Type 0} → IsIdle (no_sender {T = T} {N = N} {H = H}).messages
nobody_idle = record { used = λ i. refl; queues = λ r c. refl }

module _ {T N H : Type 0} (senders : List (Sender T N H)) (new : Sender T N H) where
  -- behind all others
  pub put_last : IsPut (length senders) new senders (senders ++ new ∷ [])
  put_last = record {
    there = omega (arith, length-append senders (new ∷ []));
    here = get_or-append_seam senders new [] no_sender;
    idle = subst (λ (l : Sender T N H). IsIdle l.messages) (sym (get_or_past senders (length senders) no_sender (omega arith))) nobody_idle;
    others = λ l n. ⊎_elim (λ h. get_or-append senders (new ∷ []) no_sender l h)
        (λ h. get_or_past (senders ++ new ∷ []) l no_sender (omega (arith, h, n, length-append senders (new ∷ [])))
        ∙ sym (get_or_past senders l no_sender h))
        (cases_lt l (length senders));
    stay = λ l h. omega (arith, h, length-append senders (new ∷ []));
    known = λ l n h. omega (arith, n, h, length-append senders (new ∷ []));
  }

  -- in the place of another
  pub put_over : (index : ℕ) → index < length senders → IsIdle (sender_of index senders).messages
      → IsPut index new senders (slice_set senders index new)
  put_over index within idle = record {
    there = omega (arith, within, length-set senders index new);
    here = get_or-set_same senders index new no_sender within;
    idle = idle;
    others = λ l n. get_or-set_other senders index l new no_sender n;
    stay = λ l h. omega (arith, h, length-set senders index new);
    known = λ l n h. omega (arith, h, length-set senders index new);
  }

-- a row behind all others, and one in the place of another
pub row_last : (rows : List ℕ) (len : ℕ) → IsRowed (length rows) len rows (rows ++ len ∷ [])
row_last rows len = record {
  there = omega (arith, length-append rows (len ∷ []));
  here = get_or-append_seam rows len [] 0;
  others = λ r n h. (omega (arith, h, length-append rows (len ∷ [])), get_or-append rows (len ∷ []) 0 r h);
}

pub row_over : (rows : List ℕ) (row len : ℕ) → row < length rows → IsRowed row len rows (slice_set rows row len)
row_over rows row len within = record {
  there = omega (arith, within, length-set rows row len);
  here = get_or-set_same rows row len 0 within;
  others = λ r n h. (omega (arith, h, length-set rows row len), get_or-set_other rows row r len 0 n);
}

module _ {T N H K : Type 0} {connected : List (Connected K)} {left : List LeftPort} {senders : List (Sender T N H)}
    (has : HaveLeft connected left senders) where
  -- all ports that left are still listed
  pub kept_all : AreKept (length senders) left left
  kept_all = record {
    were = λ i l at. (i, at);
    apart = λ i l at same. omega (arith, same, (has.own i l at).0);
    once = has.once;
    fewer = omega arith;
  }

  module _ (index : ℕ) (within : index < length left) where
    -- the port that left as the one at an index
    pub left_there : slice_get left index ≡ Some (left_at index left)
    left_there = slice_get-get_or left index _ within

    -- all others are
    pub kept_others : AreKept (left_at index left).sender left (remove left index)
    kept_others = record {
      were = λ i l at. let s = stood left index within i l at in (s.place, s.at);
      apart = λ i l at same.
          let s = stood left index within i l at in
          elsewhere left index within i l s (has.once s.place index l (left_at index left) s.at left_there same);
      once = λ i j l m at there same.
          let s = stood left index within i l at in
          let t = stood left index within j m there in
          one_place left index within i j l m s t (has.once s.place t.place l m s.at t.at same);
      fewer = omega (arith, length-remove left index within);
    }

-- a new sender fits into a site: nothing uses what stands there, no port sends from there, and no other sender has the row
pub record IsSited {T N H U M G K : Type 0} (connected : List (Connected K)) (left : List LeftPort) (senders : List (Sender T N H))
    (others : List (Sender U M G)) (rows : List ℕ) (row_len : ℕ) (new : Sender T N H) (site : Site T N H) : Type 0 where
  pub put : IsPut site.sender new senders site.senders
  pub rowed : IsRowed site.row row_len rows site.rows
  pub kept : AreKept site.sender left site.left
  pub ports : (i : ℕ) (c : Connected K) → slice_get connected i ≡ Some c → c.sender ≢ site.sender
  pub rows_apart : (l : ℕ) → l ≢ site.sender → l < length senders → (sender_of l senders).row ≢ site.row
  pub other_rows : (l : ℕ) → l < length others → (sender_of l others).row ≢ site.row

-- a port that left of whose sender nothing is used
module _ {T N H K : Type 0} {connected : List (Connected K)} {left : List LeftPort} {senders : List (Sender T N H)}
    (has : HaveLeft connected left senders) (index : ℕ) (idle : idle_left senders left ≡ Some index) where
  it : Standing (λ l. is_idle (sender_of l.sender senders)) left index
  it = standing (λ (l : LeftPort). is_idle (sender_of l.sender senders)) left index idle

  pub idle_listed : index < length left
  idle_listed = slice_get_within left index it.it it.at

  pub idle_sender : (left_at index left).sender < length senders
  idle_sender = (has.own index (left_at index left) (left_there has index idle_listed)).0

  its_idle : is_idle (sender_of (left_at index left).sender senders) ≡ true
  its_idle = ap (λ (l : LeftPort). is_idle (sender_of l.sender senders)) (get_or_from_slice_get left index it.it _ it.at) ∙ it.passes

module _ {T N H U M G K : Type 0} {connected : List (Connected K)} {left : List LeftPort} {senders : List (Sender T N H)}
    {others : List (Sender U M G)} {rows : List ℕ} (row_len : ℕ) (has : HaveLeft connected left senders)
    (rowed : (l : ℕ) → l < length senders → (sender_of l senders).row < length rows) where
  -- behind all others
  pub last_sited : (new : Sender T N H) → ((i : ℕ) (c : Connected K) → slice_get connected i ≡ Some c → c.sender < length senders)
      → ((l : ℕ) → l < length others → (sender_of l others).row < length rows)
      → IsSited connected left senders others rows row_len new (last_site senders left rows row_len new)
  last_sited new there other_rowed = record {
    put = put_last senders new;
    rowed = row_last rows row_len;
    kept = kept_all has;
    ports = λ i c at same. omega (arith, there i c at, same);
    rows_apart = λ l n h same. omega (arith, rowed l h, same);
    other_rows = λ l h same. omega (arith, other_rowed l h, same);
  }

  -- in the place of a port that left
  module _ (new : ℕ → Sender T N H) (index : ℕ) (idle : idle_left senders left ≡ Some index) where
    pub left_sited : {receivers channels capacity : ℕ}
        → ((l : ℕ) → l < length senders → IsShaped receivers channels capacity (sender_of l senders).messages)
        → ((l k : ℕ) → l < length senders → k < length senders → (sender_of l senders).row ≡ (sender_of k senders).row → l ≡ k)
        → ((l k : ℕ) → l < length senders → k < length others → (sender_of l senders).row ≢ (sender_of k others).row)
        → IsSited connected left senders others rows row_len (new (sender_of (left_at index left).sender senders).row)
        (left_site senders left rows row_len new index)
    left_sited shaped rows_once rows_apart =
        let sender = (left_at index left).sender in
        let there = idle_sender has index idle in
        let listed = idle_listed has index idle in
        record {
          put = put_over senders _ sender there
              (counted_idle (sender_of sender senders).messages (shaped sender there) (its_idle has index idle));
          rowed = row_over rows (sender_of sender senders).row row_len (rowed sender there);
          kept = kept_others has index listed;
          ports = λ i c at same. has.apart index i (left_at index left) c (left_there has index listed) at (sym same);
          rows_apart = λ l n h same. n (rows_once l sender h there same);
          other_rows = λ l h same. rows_apart sender l there h (sym same);
        }

module _ {Q QH P PH K : Type 0} (p : Parts Q QH P PH K) (counted : IsCounted p empty_hand) (index : ℕ) where
  -- no handle is of a message of a sender that nothing uses
  pub request_elsewhere : IsIdle (sender_of index p.client_senders).messages → (k : ℕ) (s : TableEntry HandleEntry)
      → fin_map.get p.table.entries k ≡ Some s → is_of_request s.value.stage ≡ true → s.value.sender ≢ index
  request_elsewhere idle k s at is same = omega (
    arith,
    handle_uses_request p empty_hand counted k s at is,
    ap (λ l. request_uses p l s.value.slot) same,
    idle.used s.value.slot,
  )

  pub response_elsewhere : IsIdle (sender_of index p.server_senders).messages → (k : ℕ) (s : TableEntry HandleEntry)
      → fin_map.get p.table.entries k ≡ Some s → is_of_response s.value.stage ≡ true → s.value.sender ≢ index
  response_elsewhere idle k s at is same = omega (
    arith,
    handle_uses_response p empty_hand counted k s at is,
    ap (λ l. response_uses p l s.value.slot) same,
    idle.used s.value.slot,
  )
