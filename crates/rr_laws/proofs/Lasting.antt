-- From one state to another: the limits stay, numbers grow, and who is connected has the pool that it had, and does at full queues what it did.
use Rattle.std.proofs.Common.{◌≡◌, ℕ, ◌≤◌, Bool, true, false, cond, not, eqb, List, [], ◌∷◌, ◌++◌, map, Option, Some, None, option_map, refl, sym, ap, ◌∙◌, subst, ⊎_elim, inl, inr, arith}
use Rattle.std.specs.Prelude.{◌⊎◌, find, filter}
use Rattle.rr_protocol.specs.declared.limits.Limits.{Limits}
use Rattle.rr_protocol.specs.declared.settings.BackpressureStrategy.{BackpressureStrategy}
use Rattle.rr_protocol.specs.Ports.{Client, Server}
use Rattle.rr_protocol.specs.State.{State}
use Rattle.rr_table.proofs.ListFacts.{find-gone, find-changed}
use Rattle.rr_laws.proofs.LeftPorts.{found-append_cases}

module _ {X V : Type 0} (id : X → ℕ) (lasting : X → V) where
  -- who is there was there before, and this of it lasts, or has a number that is not below this one
  abbrev pub PortsLast : List X → List X → ℕ → Type 0
  PortsLast xs ys next =
      (n : ℕ) (y : X) → find (λ x. eqb (id x) n) ys ≡ Some y
      → ((x : X) × (find (λ x. eqb (id x) n) xs ≡ Some x) × (lasting y ≡ lasting x)) ⊎ (next ≤ n)

  pub ports_same : (xs : List X) (next : ℕ) → PortsLast xs xs next
  ports_same xs next n y e = inl (y, e, refl)

  -- from one list to a second, and from that to a third
  pub ports_then : (xs ys zs : List X) (next after : ℕ) → next ≤ after → PortsLast xs ys next → PortsLast ys zs after → PortsLast xs zs next
  ports_then xs ys zs next after more first second n z e = ⊎_elim
      (λ was. ⊎_elim (λ before. inl (before.0, before.1, was.2 ∙ before.2)) (λ new. inr new) (first n was.0 was.1))
      (λ new. inr (omega (arith, more, new)))
      (second n z e)

  -- one more came
  pub ports_with_one : (xs : List X) (one : X) → PortsLast xs (xs ++ one ∷ []) (id one)
  ports_with_one xs one n y e = ⊎_elim (λ was. inl (y, was, refl)) (λ now. inr (omega (arith, now.0))) (found-append_cases id xs one n y e)

  -- each changed, but for its number and what lasts of it
  pub ports_changed : (f : X → X) → ((x : X) → id (f x) ≡ id x) → ((x : X) → lasting (f x) ≡ lasting x) → (xs : List X) (next : ℕ)
      → PortsLast xs (map f xs) next
  ports_changed f same kept xs next n y e = go (find (λ x. eqb (id x) n) xs) refl (sym (find-changed id f same n xs) ∙ e)
    where
      go : (o : Option X) → find (λ x. eqb (id x) n) xs ≡ o → option_map f o ≡ Some y
          → ((x : X) × (find (λ x. eqb (id x) n) xs ≡ Some x) × (lasting y ≡ lasting x)) ⊎ (next ≤ n)
      go None is e = absurd (cc)
      go (Some x) is e = inl (x, is, sym (ap lasting (let g : f x ≡ y = cc in g)) ∙ kept x)

  -- those with one number are gone
  pub ports_without : (gone : ℕ) (xs : List X) (next : ℕ) → PortsLast xs (filter (λ x. not (eqb (id x) gone)) xs) next
  ports_without gone xs next n y e = go (eqb n gone) (sym (find-gone id gone n xs) ∙ e)
    where
      go : (b : Bool) → cond b None (find (λ x. eqb (id x) n) xs) ≡ Some y
          → ((x : X) × (find (λ x. eqb (id x) n) xs ≡ Some x) × (lasting y ≡ lasting x)) ⊎ (next ≤ n)
      go true e = absurd (cc)
      go false e = inl (y, e, refl)

module _ {K : Type 0} where
  -- what lasts of a client: how its pool is made, and what it does at a full queue
  abbrev pub client_lasting : Client K → ℕ × ℕ × BackpressureStrategy × Option K
  client_lasting c = (c.pool_size, c.initial_max_slice_len, c.strategy, c.handler)

  -- what a server's is
  abbrev pub server_lasting : Server K → ℕ × ℕ × ℕ × BackpressureStrategy × Option K
  server_lasting c = (c.pool_size, c.initial_max_slice_len, c.max_loaned_responses_per_request, c.strategy, c.handler)

module _ {Q QH P PH K : Type 0} where
  -- limits stay, numbers grow, and so do both lists of ports
  pub record Lasts (old new : State Q QH P PH K) : Type 0 where
    pub limits : new.limits ≡ old.limits
    pub next : old.next ≤ new.next
    pub clients : PortsLast (λ (c : Client K). c.id) client_lasting old.clients new.clients old.next
    pub servers : PortsLast (λ (c : Server K). c.id) server_lasting old.servers new.servers old.next

  -- what of a state lasts
  abbrev pub frame_of : State Q QH P PH K → Limits × ℕ × List (Client K) × List (Server K)
  frame_of s = (s.limits, s.next, s.clients, s.servers)

  -- more numbers were given, and no port changed
  pub lasts_with_more : (old new : State Q QH P PH K) → new.limits ≡ old.limits → old.next ≤ new.next → new.clients ≡ old.clients
      → new.servers ≡ old.servers → Lasts old new
  lasts_with_more old new limits next clients servers =
      record {
        limits = limits;
        next = next;
        clients = subst (λ xs. PortsLast (λ (c : Client K). c.id) client_lasting old.clients xs old.next) (sym clients)
            (ports_same (λ (c : Client K). c.id) client_lasting old.clients old.next);
        servers = subst (λ xs. PortsLast (λ (c : Server K). c.id) server_lasting old.servers xs old.next) (sym servers)
            (ports_same (λ (c : Server K). c.id) server_lasting old.servers old.next);
      }

  -- all of it stayed
  pub lasts_by_frame : (old new : State Q QH P PH K) → frame_of new ≡ frame_of old → Lasts old new
  lasts_by_frame old new e =
      let Frame = Limits × ℕ × List (Client K) × List (Server K) in
      lasts_with_more old new (ap (λ (f : Frame). f.0) e) (let same = ap (λ (f : Frame). f.1) e in omega (arith, same))
      (ap (λ (f : Frame). f.2) e) (ap (λ (f : Frame). f.3) e)

  -- from one state to a second, and from that to a third
  pub lasts_then : (old mid new : State Q QH P PH K) → Lasts old mid → Lasts mid new → Lasts old new
  lasts_then old mid new first second =
      record {
        limits = second.limits ∙ first.limits;
        next = let a = first.next in let b = second.next in omega (arith, a, b);
        clients = ports_then (λ (c : Client K). c.id) client_lasting old.clients mid.clients new.clients old.next mid.next first.next
            first.clients second.clients;
        servers = ports_then (λ (c : Server K). c.id) server_lasting old.servers mid.servers new.servers old.next mid.next first.next
            first.servers second.servers;
      }
