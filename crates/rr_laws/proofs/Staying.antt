-- Facts of handles and of lists that stay as roles come and go.
use Rattle.std.proofs.Common.{◌≡◌, ℕ, ◌<◌, ◌≤◌, List, length, drop, Option, Some, None, refl, sym, ap, ◌∙◌, subst, ⊎_elim, arith}
use Rattle.std.specs.Prelude.{◌≢◌, option_and_then}
use Rattle.std.specs.List.{AllByRecursion}
use Rattle.std.specs.FinMap.{get, insert, remove}
use Rattle.std.proofs.lemmas.Bool.{cases_eq}
use Rattle.std.proofs.lemmas.List.{length-drop}
use Rattle.rr_table.proofs.MapLaws.{get-insert_same, get-insert_other, get-remove_cases, get-remove_other}
use Rattle.rr_protocol.specs.declared.limits.Limits.{Limits}
use Rattle.rr_protocol.specs.Lists.{Lists, at}
use Rattle.rr_protocol.specs.Keys.{request_key_cmp, response_key_cmp}
use Rattle.rr_protocol.specs.Messages.{RequestMessage, ResponseMessage}
use Rattle.rr_protocol.specs.Ports.{Client, Server}
use Rattle.rr_laws.specs.Roles.{Question, Role, SentRequest, Roles, asking, asking_at, subject_of}
use Rattle.rr_laws.specs.Reached.{PortsFit, IsKnown, RoleFits, RequestFits, RequestsFit, ResponseFits, ResponsesFit}
use Rattle.rr_table.proofs.ListFacts.{all_each, all_drop}

-- a request that its client has later under a number that was given before, it had before
abbrev pub AskingStays : Roles → Roles → ℕ → Type 0
AskingStays roles later next = (k : ℕ) (p : Question) → k < next → asking_at later k ≡ Some p → asking_at roles k ≡ Some p

-- a request that waits for answers waits later
abbrev pub WaitingStays : Roles → Roles → Type 0
WaitingStays roles later = (k : ℕ) (q : Question) → get roles k ≡ Some (SentRequest q) → get later k ≡ Some (SentRequest q)

module _ (roles : Roles) where
  asking_same : (later : Roles) (k : ℕ) (p : Question) → get later k ≡ get roles k → asking_at later k ≡ Some p → asking_at roles k ≡ Some p
  asking_same later k p same e = sym (ap (option_and_then asking) same) ∙ e

  -- a role under a new number
  pub asking_stays_with_new : (next : ℕ) (role : Role) → AskingStays roles (insert roles next role) next
  asking_stays_with_new next role k p below e = asking_same (insert roles next role) k p
      (get-insert_other roles next role k (λ is. absurd (omega arith))) e

  -- a role in place of another that asks for the same, or one that asks for nothing
  pub asking_stays_with : (n next : ℕ) (role : Role) → ((p : Question) → asking role ≡ Some p → asking_at roles n ≡ Some p)
      → AskingStays roles (insert roles n role) next
  asking_stays_with n next role same k p below e = ⊎_elim
      (λ is. subst (λ j. asking_at roles j ≡ Some p) (sym is)
      (same p (sym (ap (option_and_then asking) (get-insert_same roles n role k is)) ∙ e)))
      (λ other. asking_same (insert roles n role) k p (get-insert_other roles n role k other) e)
      (cases_eq k n)

  -- one role less
  pub asking_stays_without : (n next : ℕ) → AskingStays roles (remove roles n) next
  asking_stays_without n next k p below e = go (get (remove roles n) k) refl e
    where
      go : (o : Option Role) → get (remove roles n) k ≡ o → option_and_then asking o ≡ Some p → asking_at roles k ≡ Some p
      go None is e = absurd (cc)
      go (Some role) is e = ap (option_and_then asking) ((get-remove_cases roles n k role is).1) ∙ e

  -- a role in a place where no request waits
  pub waiting_stays_with : (n : ℕ) (role : Role) → ((q : Question) → get roles n ≢ Some (SentRequest q))
      → WaitingStays roles (insert roles n role)
  waiting_stays_with n role not k q e = get-insert_other roles n role k (λ is. not q (subst (λ j. get roles j ≡ Some (SentRequest q)) is e))
      ∙ e

  -- one role less, in a place where no request waits
  pub waiting_stays_without : (n : ℕ) → ((q : Question) → get roles n ≢ Some (SentRequest q)) → WaitingStays roles (remove roles n)
  waiting_stays_without n not k q e = get-remove_other roles n k (λ is. not q (subst (λ j. get roles j ≡ Some (SentRequest q)) is e)) ∙ e

-- lists of which some lost entries at the front
abbrev pub Shrinks : {A X : Type 0} {cmp : A → A → _} → Lists cmp X → Lists cmp X → Type 0
Shrinks {A} lists shorter = (key : A) → (k : ℕ) × (at shorter key ≡ drop k (at lists key))

module _ (roles later : Roles) (next after : ℕ) (more : next ≤ after) (asking_stays : AskingStays roles later next) where
  -- a known request
  pub known_stays : (q : Question) → IsKnown roles next q → IsKnown later after q
  known_stays q known = record { below = omega (arith, known.below); same = λ p e. known.same p (asking_stays q.number p known.below e) }

  -- a number at which no request was asked for has none later
  pub no_request_later : (k : ℕ) → k < next → asking_at roles k ≡ None → asking_at later k ≡ None
  no_request_later k below none = go (asking_at later k) refl
    where
      go : (o : Option Question) → asking_at later k ≡ o → asking_at later k ≡ None
      go None e = e
      go (Some p) e = absurd (let f = asking_stays k p below e in cc)

  module _ {K : Type 0} (limits : Limits) (servers : List (Server K)) where
    -- a role that fits
    pub role_stays : (clients : List (Client K)) (n : ℕ) (role : Role) → RoleFits limits clients servers roles next n role
        → RoleFits limits clients servers later after n role
    role_stays clients n role fits =
        record {
          below = omega (arith, fits.below);
          own_number = fits.own_number;
          no_port = fits.no_port;
          connected = fits.connected;
          known = known_stays (subject_of role) fits.known;
          channel = fits.channel;
        }

    -- lists of requests that fit
    pub requests_stay : {T H : Type 0} (lists : Lists request_key_cmp (RequestMessage T H)) → RequestsFit limits servers roles next lists
        → RequestsFit limits servers later after lists
    requests_stay {T} {H} lists fits =
        record {
          each = λ key. all_each (RequestFits limits servers roles next key) (RequestFits limits servers later after key) (λ m f.
              record { client = f.client; server = f.server; known = known_stays _ f.known; channel = f.channel }) (at lists key)
              (fits.each key);
          short = fits.short;
        }

    -- lists of responses that fit
    pub responses_stay : {T H : Type 0} (clients : List (Client K)) → WaitingStays roles later
        → (lists : Lists response_key_cmp (ResponseMessage T H)) → ResponsesFit limits clients servers roles next lists
        → ResponsesFit limits clients servers later after lists
    responses_stay {T} {H} clients waiting_stays lists fits =
        record {
          each = λ key. all_each (ResponseFits clients servers roles next key) (ResponseFits clients servers later after key) (λ m f.
              record {
                server = f.server;
                client = f.client;
                channel = f.channel;
                below = omega (arith, f.below);
                no_request = no_request_later m.number f.below f.no_request;
                no_port = f.no_port;
                answers = waiting_stays m.request _ f.answers;
              }) (at lists key) (fits.each key);
          short = fits.short;
        }

module _ {T H : Type 0} (limits : Limits) (roles : Roles) (next : ℕ) where
  -- lists of requests fit after they lost entries at the front
  pub requests_shrink : {K : Type 0} (servers : List (Server K)) (lists shorter : Lists request_key_cmp (RequestMessage T H))
      → Shrinks lists shorter →
      RequestsFit limits servers roles next lists → RequestsFit limits servers roles next shorter
  requests_shrink servers lists shorter shrinks fits =
      record {
        each = λ key. subst (AllByRecursion (RequestFits limits servers roles next key)) (sym (shrinks key).1)
            (all_drop _ (shrinks key).0 (at lists key) (fits.each key));
        short = λ key. omega (arith, ap length (shrinks key).1, length-drop (shrinks key).0 (at lists key), fits.short key);
      }

  -- lists of responses fit after they lost entries at the front
  pub responses_shrink : {K : Type 0} (clients : List (Client K)) (servers : List (Server K))
      (lists shorter : Lists response_key_cmp (ResponseMessage T H)) → Shrinks lists shorter
      → ResponsesFit limits clients servers roles next lists → ResponsesFit limits clients servers roles next shorter
  responses_shrink clients servers lists shorter shrinks fits =
      record {
        each = λ key. subst (AllByRecursion (ResponseFits clients servers roles next key)) (sym (shrinks key).1)
            (all_drop _ (shrinks key).0 (at lists key) (fits.each key));
        short = λ key. omega (arith, ap length (shrinks key).1, length-drop (shrinks key).0 (at lists key), fits.short key);
      }

-- more numbers were given
pub ports_with_more : {K : Type 0} (limits : Limits) (clients : List (Client K)) (servers : List (Server K)) (next after : ℕ) → next ≤ after
    →
    PortsFit limits clients servers next → PortsFit limits clients servers after
ports_with_more limits clients servers next after more fits =
    record {
      few_clients = fits.few_clients;
      few_servers = fits.few_servers;
      client_numbers = all_each _ _ (λ c h. omega (arith, h)) clients fits.client_numbers;
      server_numbers = all_each _ _ (λ c h. omega (arith, h)) servers fits.server_numbers;
      client_pools = fits.client_pools;
      server_loans = fits.server_loans;
    }
