-- Who is listed as left is gone, as ports come and leave.
use Rattle.std.proofs.Common.{◌≡◌, ℕ, ◌+◌, ◌≤◌, Bool, true, false, cond, not, eqb, List, [], ◌∷◌, ◌++◌, map, length, Option, Some, None, refl, sym, ap, ◌∙◌, subst, ⊎_elim, inl, inr, arith}
use Rattle.std.specs.Prelude.{◌⊎◌, ◌-◌, fold, find, filter, is_some}
use Rattle.std.specs.List.{AllByRecursion}
use Rattle.std.specs.Ordering.{nat_cmp}
use Rattle.std.specs.Cmp.{nat_cmp_total}
use Rattle.std.specs.FinMap.{nat_cmp-IsAntisymmetric}
use Rattle.std.proofs.lemmas.Bool.{eq-eqb, eqb-true}
use Rattle.rr_table.proofs.ListFacts.{all_each, all_append, all_drop, find-append, find-gone}
use Rattle.rr_protocol.specs.declared.limits.Limits.{Limits}
use Rattle.rr_protocol.specs.Lists.{Lists, at, with_at}
use Rattle.rr_protocol.specs.Ports.{Client, Server}
use Rattle.rr_protocol.specs.State.{State}
use Rattle.rr_protocol.specs.Releases.{has_responses_from, has_requests_from, kept_senders, room_for_expired_clients, with_expired_client, with_expired_server}
use Rattle.rr_laws.specs.Reached.{has_server, PortsFit}
use Rattle.rr_laws.specs.Left.{IsGone, LeftFit}
use Rattle.rr_laws.proofs.Connected.{has_below, hasn't-append, has-same, not_both}
use Rattle.rr_laws.proofs.Putting.{each_list_with}

module _ {X : Type 0} (id : X → ℕ) where
  -- who is there after one more came was there before, or is that one
  pub has-append_cases : (xs : List X) (y : X) (n : ℕ) → is_some (find (λ x. eqb (id x) n) (xs ++ y ∷ [])) ≡ true
      → (is_some (find (λ x. eqb (id x) n) xs) ≡ true) ⊎ (id y ≡ n)
  has-append_cases xs y n h = go (find (λ x. eqb (id x) n) xs) (eqb (id y) n) refl refl
      (sym (ap is_some (find-append (λ x. eqb (id x) n) xs y)) ∙ h)
    where
      go : (o : Option X) (b : Bool) → find (λ x. eqb (id x) n) xs ≡ o → eqb (id y) n ≡ b
          → is_some (cond (is_some o) o (cond b (Some y) None)) ≡ true → (is_some (find (λ x. eqb (id x) n) xs) ≡ true) ⊎ (id y ≡ n)
      go (Some x) b is e h = inl (ap is_some is)
      go None true is e h = inr (eqb-true (id y) n e)
      go None false is e h = absurd (cc)

  -- who is found after one more came was there before, or is that one
  pub found-append_cases : (xs : List X) (y : X) (n : ℕ) (x : X) → find (λ x. eqb (id x) n) (xs ++ y ∷ []) ≡ Some x
      → (find (λ x. eqb (id x) n) xs ≡ Some x) ⊎ ((id y ≡ n) × (y ≡ x))
  found-append_cases xs y n x e = go (find (λ x. eqb (id x) n) xs) (eqb (id y) n) refl refl
      (sym (find-append (λ x. eqb (id x) n) xs y) ∙ e)
    where
      go : (o : Option X) (b : Bool) → find (λ x. eqb (id x) n) xs ≡ o → eqb (id y) n ≡ b
          → cond (is_some o) o (cond b (Some y) None) ≡ Some x → (find (λ x. eqb (id x) n) xs ≡ Some x) ⊎ ((id y ≡ n) × (y ≡ x))
      go (Some z) b is same e = inl (is ∙ e)
      go None true is same e = inr (eqb-true (id y) n same, (cc))
      go None false is same e = absurd (let f : None ≡ Some x = e in cc)

  -- those with a number that is gone are not there
  pub hasn't-gone : (gone : ℕ) (xs : List X) → is_some (find (λ x. eqb (id x) gone) (filter (λ x. not (eqb (id x) gone)) xs)) ≡ false
  hasn't-gone gone xs = ap is_some (find-gone id gone gone xs)
      ∙ ap (λ b. is_some (cond b None (find (λ x. eqb (id x) gone) xs))) (eq-eqb gone gone refl)

  hidden : (b : Bool) (o : Option X) → is_some (cond b None o) ≡ true → is_some o ≡ true
  hidden true o h = absurd (cc)
  hidden false o h = h

  -- who is there after some are gone was there before
  pub had : (gone n : ℕ) (xs : List X) → is_some (find (λ x. eqb (id x) n) (filter (λ x. not (eqb (id x) gone)) xs)) ≡ true
      → is_some (find (λ x. eqb (id x) n) xs) ≡ true
  had gone n xs h = hidden (eqb n gone) _ (sym (ap is_some (find-gone id gone n xs)) ∙ h)

module _ {K : Type 0} (clients : List (Client K)) (servers : List (Server K)) (expired : Lists nat_cmp ℕ) (next : ℕ)
    (fits : LeftFit clients servers expired next) where
  -- more numbers were given
  pub left_with_more : (after : ℕ) → next ≤ after → LeftFit clients servers expired after
  left_with_more after more =
      record {
        one_kind = fits.one_kind;
        gone = λ n. all_each _ _ (λ c g. record { below = omega (arith, more, g.below); no_client = g.no_client; no_server = g.no_server })
            (at expired n) (fits.gone n);
      }

  -- a client with the next number
  pub left_with_client : (limits : Limits) → PortsFit limits clients servers next → (new : Client K) → new.id ≡ next
      → LeftFit (clients ++ new ∷ []) servers expired (next + 1)
  left_with_client limits ports new is =
      record {
        one_kind = λ n h. ⊎_elim
            (λ before. fits.one_kind n before)
            (λ same. not_both (has_server servers n) (λ there. let low = has_below (λ c. c.id) servers n next ports.server_numbers there in
            omega (arith, low, is, same)))
            (has-append_cases (λ c. c.id) clients new n h);
        gone = λ n. all_each _ _ (λ c g. record {
          below = omega (arith, g.below);
          no_client = hasn't-append (λ x. x.id) clients new c (λ same. let low = g.below in omega (arith, low, is, same)) g.no_client;
          no_server = g.no_server;
        }) (at expired n) (fits.gone n);
      }

  -- a server with the next number
  pub left_with_server : (limits : Limits) → PortsFit limits clients servers next → (new : Server K) → new.id ≡ next
      → LeftFit clients (servers ++ new ∷ []) expired (next + 1)
  left_with_server limits ports new is =
      record {
        one_kind = λ n h. hasn't-append (λ c. c.id) servers new n
            (λ same. let low = has_below (λ c. c.id) clients n next ports.client_numbers h in omega (arith, low, is, same))
            (fits.one_kind n h);
        gone = λ n. all_each _ _ (λ c g. record {
          below = omega (arith, g.below);
          no_client = g.no_client;
          no_server = hasn't-append (λ x. x.id) servers new c (λ same. let low = g.below in omega (arith, low, is, same)) g.no_server;
        }) (at expired n) (fits.gone n);
      }

  -- clients that changed, but for their numbers
  pub left_with_clients : (f : Client K → Client K) → ((c : Client K) → (f c).id ≡ c.id) → LeftFit (map f clients) servers expired next
  left_with_clients f same =
      record {
        one_kind = λ n h. fits.one_kind n (sym (has-same (λ c. c.id) f same clients n) ∙ h);
        gone = λ n. all_each _ _ (λ c e. record {
          below = e.below;
          no_client = has-same (λ x. x.id) f same clients c
              ∙ e.no_client;
          no_server = e.no_server;
        }) (at expired n) (fits.gone n);
      }

  -- servers that changed, but for their numbers
  pub left_with_servers : (f : Server K → Server K) → ((c : Server K) → (f c).id ≡ c.id) → LeftFit clients (map f servers) expired next
  left_with_servers f same =
      record {
        one_kind = λ n h. has-same (λ c. c.id) f same servers n ∙ fits.one_kind n h;
        gone = λ n. all_each _ _ (λ c e. record {
          below = e.below;
          no_client = e.no_client;
          no_server = has-same (λ x. x.id) f same servers c ∙ e.no_server;
        }) (at expired n) (fits.gone n);
      }

  -- a receiver's list that holds no one else
  pub left_with_list : (key : ℕ) (rest : List ℕ) → AllByRecursion (IsGone clients servers next) rest
      → LeftFit clients servers (with_at expired key rest) next
  left_with_list key rest all =
      record {
        one_kind = fits.one_kind;
        gone = each_list_with nat_cmp_total nat_cmp-IsAntisymmetric
            (λ k xs. AllByRecursion (IsGone clients servers next) xs) expired key rest all fits.gone;
      }

-- the newest of some senders and one more
kept_all : (R : ℕ → Type 0) (room : ℕ) (senders : List ℕ) (sender : ℕ) → AllByRecursion R senders → R sender
    → AllByRecursion R (kept_senders room senders sender)
kept_all R room senders sender all one = all_drop R (length senders + 1 - room)
    (senders ++ sender ∷ []) (all_append R senders sender all one)

-- what is chosen where a test fails
otherwise : {X : Type 0} (b : Bool) (x y : X) → b ≡ false → cond b x y ≡ y
otherwise true x y e = absurd (let f : false ≡ true = sym e in cc)
otherwise false x y e = refl

module _ {Q QH P PH K : Type 0} where
  -- what holds of all that are listed as left
  abbrev pub AllListed : (ℕ → Type 0) → State Q QH P PH K → Type 0
  AllListed R s = (n : ℕ) → AllByRecursion R (at s.expired n)

  either_listed : (R : ℕ → Type 0) (b : Bool) (x y : State Q QH P PH K) → AllListed R x → AllListed R y → AllListed R (cond b x y)
  either_listed R true x y e f = e
  either_listed R false x y e f = f

  -- and of a client that leaves
  pub listed_clients : (R : ℕ → Type 0) (client : ℕ) → R client → (servers : List ℕ) (s : State Q QH P PH K) → AllListed R s
      → AllListed R (fold (with_expired_client client) s servers)
  listed_clients R client one [] s all = all
  listed_clients R client one (server ∷ servers) s all =
      listed_clients R client one servers (with_expired_client client s server)
      (either_listed R (has_requests_from s server client) _ s
      (each_list_with nat_cmp_total nat_cmp-IsAntisymmetric (λ k xs. AllByRecursion R xs) s.expired server _
      (kept_all R (room_for_expired_clients s) (at s.expired server) client (all server) one) all) all)

  -- and of a server that leaves
  pub listed_servers : (R : ℕ → Type 0) (server : ℕ) → R server → (clients : List ℕ) (s : State Q QH P PH K) → AllListed R s
      → AllListed R (fold (with_expired_server server) s clients)
  listed_servers R server one [] s all = all
  listed_servers R server one (client ∷ clients) s all =
      listed_servers R server one clients (with_expired_server server s client)
      (either_listed R (has_responses_from s client server) _ s
      (each_list_with nat_cmp_total nat_cmp-IsAntisymmetric (λ k xs. AllByRecursion R xs) s.expired client _
      (kept_all R s.limits.client_expired_connection_buffer (at s.expired client) server (all client) one) all) all)

  -- where a client has no responses from a server, nothing expires
  none_expired : (server client : ℕ) (s : State Q QH P PH K) → has_responses_from s client server ≡ false
      → with_expired_server server s client ≡ s
  none_expired server client s e = otherwise (has_responses_from s client server) _ s e

  -- of a server that leaves, if some client has responses from it
  pub listed_sender : (R : ℕ → Type 0) (server : ℕ) (clients : List ℕ) (s : State Q QH P PH K)
      → ((client : ℕ) → has_responses_from s client server ≡ true → R server) → AllListed R s
      → AllListed R (fold (with_expired_server server) s clients)
  listed_sender R server [] s one all = all
  listed_sender R server (client ∷ clients) s one all =
      go (has_responses_from s client server) refl (listed_sender R server clients s one all)
    where
      go : (b : Bool) → has_responses_from s client server ≡ b → AllListed R (fold (with_expired_server server) s clients)
          → AllListed R (fold (with_expired_server server) (with_expired_server server s client) clients)
      go true e rest = listed_servers R server (one client e) (client ∷ clients) s all
      go false e rest = subst (λ (x : State Q QH P PH K). AllListed R (fold (with_expired_server server) x clients))
          (sym (none_expired server client s e)) rest
