-- The one client is created first, and then one server after another.
use Rattle.std.proofs.Common.{◌≡◌, ℕ, ◌<◌, true, false, eqb, List, [], ◌∷◌, Option, Some, None, refl, sym, ap, ◌∙◌, subst, arith}
use Rattle.std.specs.Prelude.{IsSomeAnd, is_some, find, nat_eq}
use Rattle.std.specs.FinMap.{get-empty}
use Rattle.std.specs.List.{AllByRecursion, IsDistinct}
use Rattle.std.proofs.lemmas.Bool.{eqb-true, ne_eqb}
use Rattle.rr_table.proofs.ListFacts.{all_each, all_found, passes_found}
use Rattle.rr_slots.specs.declared.family.Family.TheVariants.{Typed}
use Rattle.rr_protocol.specs.declared.limits.Limits.{Limits}
use Rattle.rr_protocol.specs.declared.settings.BackpressureAction.{BackpressureAction}
use Rattle.rr_protocol.specs.declared.settings.ClientSettings.{ClientSettings}
use Rattle.rr_protocol.specs.declared.settings.ServerSettings.{ServerSettings}
use Rattle.rr_protocol.specs.Limits.{hub_refusal, worst_case_requests}
use Rattle.rr_protocol.specs.Creation.{pool_size_of, with_client}
use Rattle.rr_protocol.specs.Keys.{request_key, request_key_cmp}
use Rattle.rr_protocol.specs.Lists.{list_of, at}
use Rattle.rr_protocol.specs.Messages.{RequestMessage}
use Rattle.rr_protocol.specs.Ports.{Server}
use Rattle.rr_protocol.specs.State.{State, client_at, empty_hub}
use Rattle.rr_protocol.specs.declared.command.Command.{Command}
use Rattle.rr_protocol.specs.declared.reply.Reply.{Reply}
use Rattle.rr_protocol.specs.Step.{Step, client_settings}
use Rattle.rr_laws.specs.Roles.{roles_of}
use Rattle.rr_laws.specs.Reached.{RequestFits, IsReached}
use Rattle.rr_laws.specs.Filling.{only_client, Lives, IsHolding, IsServed}
use Rattle.rr_laws.proofs.Creating.{empty_hub_reached}
use Rattle.rr_laws.proofs.Opening.{some_and}
use Rattle.rr_laws.proofs.Stepping.{step_reached}
use Rattle.rr_laws.proofs.filling.Holding.{holds_still}

-- where there are no numbers, none stands twice
distinct_none : IsDistinct nat_eq []
unfolding IsDistinct
distinct_none = tt

module _ {T H K : Type 0} (action : K → ℕ → ℕ → BackpressureAction) (IsDefaultElement : T → Type 0) (IsDefaultHeader : H → Type 0)
    (limits : Limits) where
  -- nothing is held at first
  pub client_created : (node_id : ℕ) → hub_refusal limits ≡ None → (settings : ClientSettings K) (k : ℕ) (new : State T H T H K)
      → Step action IsDefaultElement IsDefaultHeader Typed (empty_hub limits node_id) (Command.CreateClient settings) (Reply.Created k) new
      → IsHolding new limits (pool_size_of (worst_case_requests limits) settings.pool) 0 × (k ≡ only_client)
  client_created node_id makes_hub settings k new step = (
    subst (λ (s : State T H T H K). IsHolding s limits (pool_size_of (worst_case_requests limits) settings.pool) 0) (sym step.2) start,
    step.1,
  )
    where
      start : IsHolding {Q = T} {QH = H} {P = T} {PH = H} {K = K} (with_client (empty_hub limits node_id) (client_settings Typed settings)) limits
          (pool_size_of (worst_case_requests limits) settings.pool) 0
      start = record {
        reached = subst (λ (s : State T H T H K). IsReached s) step.2
            (step_reached action IsDefaultElement IsDefaultHeader Typed (empty_hub limits node_id)
            (empty_hub_reached limits node_id makes_hub) (Command.CreateClient settings) (Reply.Created k) new step);
        limits_are = refl;
        client = (refl, refl);
        others = λ key other. ap list_of (get-empty request_key_cmp key);
        numbers = [];
        distinct = distinct_none;
        live = tt;
        counted = refl;
        fits = omega arith;
      }

  module _ (pool count : ℕ) (old : State T H T H K) (holding : IsHolding old limits pool count) (settings : ServerSettings K) (k : ℕ)
      (new : State T H T H K)
      (step : Step action IsDefaultElement IsDefaultHeader Typed old (Command.CreateServer settings) (Reply.Created k) new) where
    -- as much is held as before
    pub server_holds : IsHolding new limits pool count
    server_holds =
        holds_still old new limits pool count holding
        (step_reached action IsDefaultElement IsDefaultHeader Typed old holding.reached (Command.CreateServer settings) (Reply.Created k) new step)
        (ap (λ (s : State T H T H K). s.limits) step.2)
        (subst (λ (s : State T H T H K). IsSomeAnd (client_at s only_client) (λ c. (c.pool_size ≡ pool) × (c.has_value ≡ true)))
        (sym step.2) holding.client)
        (λ key other. ap (λ (s : State T H T H K). at s.requests key) step.2 ∙ holding.others key other)
        (λ n lives. subst (λ (s : State T H T H K). Lives s n) (sym step.2) lives)

    -- no request stands in a list to a server that isn't there
    none_before : at old.requests (request_key only_client old.next) ≡ []
    none_before = go (at old.requests (request_key only_client old.next)) (holding.reached.request_lists.each (request_key only_client old.next))
      where
        go : (xs : List (RequestMessage T H))
            → AllByRecursion (RequestFits old.limits old.servers (roles_of old.handles) old.next (request_key only_client old.next)) xs → xs ≡ []
        go [] fits = refl
        go (m ∷ xs) fits =
            let there = some_and (find (λ c. eqb c.id old.next) old.servers) (λ c. c ≡ c) (is_there _ (fits.0.server)) in
            let number = eqb-true (there.0.id) old.next (passes_found (λ c. eqb c.id old.next) old.servers there.0 there.1) in
            let below = all_found (λ (c : Server K). c.id < old.next) (λ c. eqb c.id old.next) old.servers there.0
            holding.reached.ports.server_numbers there.1 in
            absurd (omega (arith, number, below))
          where
            is_there : (o : Option (Server K)) → is_some o ≡ true → IsSomeAnd o (λ c. c ≡ c)
            is_there None e = absurd (let g : false ≡ true = e in cc)
            is_there (Some c) e = refl

    -- the new server is served, and no request stands in the list to it
    pub server_served : IsServed new k []
    server_served = subst (λ (s : State T H T H K). IsServed s k []) (sym step.2) (record {
      older = old.servers;
      newest = _;
      servers_are = refl;
      newest_is = sym step.1;
      older_others = all_each (λ (c : Server K). c.id < old.next) (λ c. eqb c.id k ≡ false)
          (λ c below. ne_eqb c.id k (λ same. absurd (omega (arith, same, step.1, below)))) old.servers holding.reached.ports.server_numbers;
      entries_are = ap (λ n. at old.requests (request_key only_client n)) step.1 ∙ none_before;
    })
