-- Who is connected as ports come, change and go, and what that leaves of the facts of handles and lists.
use Rattle.std.proofs.Common.{◌≡◌, ℕ, ◌<◌, Bool, true, false, cond, not, eqb, List, [], ◌∷◌, ◌++◌, map, Option, Some, None, option_map, refl, ap, ◌∙◌, subst, arith}
use Rattle.std.specs.Prelude.{◌≢◌, ◌||◌, find, filter, is_some}
use Rattle.std.specs.List.{AllByRecursion}
use Rattle.std.specs.FinMap.{get}
use Rattle.std.proofs.lemmas.Bool.{ne_eqb, eqb-true}
use Rattle.rr_protocol.specs.declared.limits.Limits.{Limits}
use Rattle.rr_protocol.specs.Lists.{Lists, at}
use Rattle.rr_protocol.specs.Keys.{RequestKey, request_key_cmp, response_key_cmp}
use Rattle.rr_protocol.specs.Messages.{RequestMessage, ResponseMessage}
use Rattle.rr_protocol.specs.Ports.{Client, Server}
use Rattle.rr_laws.specs.Roles.{Role, LoanedRequest, SentRequest, ReceivedRequest, LoanedResponse, ReceivedResponse, Roles}
use Rattle.rr_laws.specs.Reached.{has_client, has_server, is_port, has_port, PortsFit, HandlesFit, RequestFits, RequestsFit, ResponsesFit}
use Rattle.rr_table.proofs.ListFacts.{all_each, all_found, passes_found, find-append, find-gone, find-changed}

module _ {X : Type 0} (id : X → ℕ) where
  -- who was there is there after one more came
  pub has-append : (xs : List X) (y : X) (n : ℕ) → is_some (find (λ x. eqb (id x) n) xs) ≡ true
      → is_some (find (λ x. eqb (id x) n) (xs ++ y ∷ [])) ≡ true
  has-append xs y n h = rw (find-append (λ x. eqb (id x) n) xs y) (go (find (λ x. eqb (id x) n) xs) h)
    where
      go : (o : Option X) → is_some o ≡ true → is_some (cond (is_some o) o (cond (eqb (id y) n) (Some y) None)) ≡ true
      go None h = absurd (cc)
      go (Some x) h = refl

  -- and after each changed, but for its number
  pub has-changed : (f : X → X) → ((x : X) → id (f x) ≡ id x) → (xs : List X) (n : ℕ) → is_some (find (λ x. eqb (id x) n) xs) ≡ true
      → is_some (find (λ x. eqb (id x) n) (map f xs)) ≡ true
  has-changed f same xs n h = rw (find-changed id f same n xs) (go (find (λ x. eqb (id x) n) xs) h)
    where
      go : (o : Option X) → is_some o ≡ true → is_some (option_map f o) ≡ true
      go None h = absurd (cc)
      go (Some x) h = refl

  -- and after those with another number are gone
  pub has-gone : (gone n : ℕ) (xs : List X) → n ≢ gone → is_some (find (λ x. eqb (id x) n) xs) ≡ true
      → is_some (find (λ x. eqb (id x) n) (filter (λ x. not (eqb (id x) gone)) xs)) ≡ true
  has-gone gone n xs other h = rw (find-gone id gone n xs, ne_eqb n gone other) h

  -- who is connected has a number that was given
  pub has_below : (xs : List X) (n next : ℕ) → AllByRecursion (λ x. id x < next) xs → is_some (find (λ x. eqb (id x) n) xs) ≡ true
      → n < next
  has_below xs n next below h = go (find (λ x. eqb (id x) n) xs) refl h
    where
      go : (o : Option X) → find (λ x. eqb (id x) n) xs ≡ o → is_some o ≡ true → n < next
      go None e h = absurd (cc)
      go (Some x) e h = subst (λ k. k < next) (eqb-true _ _ (passes_found _ xs x e)) (all_found _ _ xs x below e)

  -- who was not there is not there after one more with another number came
  pub hasn't-append : (xs : List X) (y : X) (n : ℕ) → id y ≢ n → is_some (find (λ x. eqb (id x) n) xs) ≡ false
      → is_some (find (λ x. eqb (id x) n) (xs ++ y ∷ [])) ≡ false
  hasn't-append xs y n other h = rw (find-append (λ x. eqb (id x) n) xs y, ne_eqb (id y) n other) (go (find (λ x. eqb (id x) n) xs) h)
    where
      go : (o : Option X) → is_some o ≡ false → is_some (cond (is_some o) o None) ≡ false
      go None h = refl
      go (Some x) h = absurd (cc)

  -- who is there after each changed, but for its number
  pub has-same : (f : X → X) → ((x : X) → id (f x) ≡ id x) → (xs : List X) (n : ℕ)
      → is_some (find (λ x. eqb (id x) n) (map f xs)) ≡ is_some (find (λ x. eqb (id x) n) xs)
  has-same f same xs n = ap is_some (find-changed id f same n xs) ∙ go (find (λ x. eqb (id x) n) xs)
    where
      go : (o : Option X) → is_some (option_map f o) ≡ is_some o
      go None = refl
      go (Some x) = refl

  still_hidden : (b : Bool) (o : Option X) → is_some o ≡ false → is_some (cond b None o) ≡ false
  still_hidden true o h = refl
  still_hidden false o h = h

  -- and who was not there is not there after some are gone
  pub hadn't : (gone n : ℕ) (xs : List X) → is_some (find (λ x. eqb (id x) n) xs) ≡ false
      → is_some (find (λ x. eqb (id x) n) (filter (λ x. not (eqb (id x) gone)) xs)) ≡ false
  hadn't gone n xs h = ap is_some (find-gone id gone n xs) ∙ still_hidden (eqb n gone) _ h

-- a test that can't pass fails
pub not_both : (b : Bool) → (b ≡ true → ⊥) → b ≡ false
not_both true h = absurd (h refl)
not_both false h = refl

-- the client or server whose role it is
abbrev pub port_number : Role → ℕ
port_number (LoanedRequest q) = q.client
port_number (SentRequest q) = q.client
port_number (ReceivedRequest server q) = server
port_number (LoanedResponse a) = a.server
port_number (ReceivedResponse a) = a.client

module _ {K : Type 0} (clients later : List (Client K)) (servers after : List (Server K)) where
  -- a port that both lists of ports have
  pub port_stays : (role : Role) →
      (has_client clients (port_number role) ≡ true → has_client later (port_number role) ≡ true) →
      (has_server servers (port_number role) ≡ true → has_server after (port_number role) ≡ true) →
      has_port clients servers role ≡ true → has_port later after role ≡ true
  port_stays (LoanedRequest q) f g h = f h
  port_stays (SentRequest q) f g h = f h
  port_stays (ReceivedRequest server q) f g h = g h
  port_stays (LoanedResponse a) f g h = g h
  port_stays (ReceivedResponse a) f g h = f h

  -- a number that is no port's, where no list gains it
  pub no_port_stays : (n : ℕ) → (has_client clients n ≡ false → has_client later n ≡ false)
      → (has_server servers n ≡ false → has_server after n ≡ false) → is_port clients servers n ≡ false → is_port later after n ≡ false
  no_port_stays n f g h = go (has_client clients n) (has_server servers n) refl refl h
    where
      go : (a b : Bool) → has_client clients n ≡ a → has_server servers n ≡ b → (a || b) ≡ false → is_port later after n ≡ false
      go false false e d h = ap (λ a. a || has_server after n) (f e) ∙ g d
      go false true e d h = absurd (cc)
      go true b e d h = absurd (cc)

  -- no number below this one becomes a port's
  abbrev pub NoPortComes : ℕ → Type 0
  NoPortComes next = (n : ℕ) → n < next → is_port clients servers n ≡ false → is_port later after n ≡ false

  -- handles fit as long as the port of each is connected, and none comes under its number
  pub handles_with_ports : (limits : Limits) (roles : Roles) (next : ℕ)
      → ((n : ℕ) (role : Role) → get roles n ≡ Some role → has_port clients servers role ≡ true → has_port later after role ≡ true)
      → NoPortComes next → HandlesFit limits clients servers roles next → HandlesFit limits later after roles next
  handles_with_ports limits roles next stays comes fits n role e =
      let f = fits n role e in
      record {
        below = f.below;
        own_number = f.own_number;
        no_port = comes n f.below f.no_port;
        connected = stays n role e f.connected;
        known = f.known;
        channel = f.channel;
      }

  -- lists of responses fit as long as no port comes under the number of one
  pub responses_with_ports : {T H : Type 0} (limits : Limits) (roles : Roles) (next : ℕ) → NoPortComes next
      → (lists : Lists response_key_cmp (ResponseMessage T H)) → ResponsesFit limits clients servers roles next lists
      → ResponsesFit limits later after roles next lists
  responses_with_ports limits roles next comes lists fits =
      record {
        each = λ key. all_each _ _ (λ m f.
            record {
              server = f.server;
              client = f.client;
              channel = f.channel;
              below = f.below;
              no_request = f.no_request;
              no_port = comes m.number f.below f.no_port;
              answers = f.answers;
            }) (at lists key) (fits.each key);
        short = fits.short;
      }

-- the next number is no port's
pub no_port_at_next : {K : Type 0} (limits : Limits) (clients : List (Client K)) (servers : List (Server K)) (next : ℕ)
    → PortsFit limits clients servers next → is_port clients servers next ≡ false
no_port_at_next limits clients servers next ports =
    ap (λ a. a || has_server servers next) (not_both (has_client clients next) (λ there. above (has_below _ clients next next
    ports.client_numbers there))) ∙ not_both (has_server servers next) (λ there. above (has_below _ servers next next
    ports.server_numbers there))
  where
    above : next < next → ⊥
    above less = omega arith

module _ {K T H : Type 0} (servers after : List (Server K)) (limits : Limits) (roles : Roles) (next : ℕ) where
  -- an entry fits as long as its server is connected
  pub request_with_servers : (key : RequestKey) → (has_server servers key.server ≡ true → has_server after key.server ≡ true)
      → (entries : List (RequestMessage T H)) →
      AllByRecursion (RequestFits limits servers roles next key) entries → AllByRecursion (RequestFits limits after roles next key) entries
  request_with_servers key stays entries fits =
      all_each _ _ (λ m f. record { client = f.client; server = stays f.server; known = f.known; channel = f.channel }) entries fits

  -- all lists fit as long as each server is connected
  pub requests_with_servers : ((n : ℕ) → has_server servers n ≡ true → has_server after n ≡ true)
      → (lists : Lists request_key_cmp (RequestMessage T H)) →
      RequestsFit limits servers roles next lists → RequestsFit limits after roles next lists
  requests_with_servers stays lists fits =
      record { each = λ key. request_with_servers key (stays key.server) (at lists key) (fits.each key); short = fits.short }
