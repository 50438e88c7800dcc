-- Codes of states and of their parts, which distinguish states for the prover.
use Rattle.std.specs.Prelude.{◌≡◌, ◌⊎◌, ℕ, Bool, true, false, if◌then◌else◌, List, Option, refl}
use Rattle.std.proofs.Common.{inl, inr}
use Rattle.std.specs.Coded.{Coded, code_by, coded×, coded⊎, coded_ℕ, coded_bool, coded_list, coded_option}
use Rattle.std.specs.declared.cmp.Ordering.{Ordering}
use Rattle.std.specs.Ordering.{nat_cmp}
use Rattle.std.specs.FinMap as fin_map
use Rattle.rr_protocol.specs.declared.limits.Limits.{Limits}
use Rattle.rr_protocol.specs.declared.settings.BackpressureStrategy.{BackpressureStrategy}
use Rattle.rr_protocol.specs.declared.settings.BackpressureStrategy.TheVariants.{RetryUntilDelivered, DiscardData}
use Rattle.rr_protocol.specs.declared.settings.AllocationStrategy.{AllocationStrategy}
use Rattle.rr_protocol.specs.declared.settings.AllocationStrategy.TheVariants.{Static, BestFit, PowerOfTwo}
use Rattle.rr_protocol.specs.Lists.{Lists}
use Rattle.rr_protocol.specs.Keys.{RequestKey, ResponseKey, request_key_cmp, response_key_cmp}
use Rattle.rr_protocol.specs.Messages.{Content, RequestMessage, ResponseMessage, Pending, Active, Handle, RequestMutUninit, RequestMut, PendingResponse, ActiveRequest, ResponseMutUninit, ResponseMut, Response}
use Rattle.rr_protocol.specs.Ports.{Port, Client, Server}
use Rattle.rr_protocol.specs.State.{State}

module _ {A X : Type 0} {cmp : A → A → Ordering} where
  -- from those of the keys and the elements
  abbrev pub lists_code : Coded A → Coded X → Coded (Lists cmp X)
  lists_code key element = fin_map.code key (coded× element (coded_list element))

abbrev pub request_key_code : Coded RequestKey
request_key_code =
    code_by (ℕ × ℕ) (coded× coded_ℕ coded_ℕ) (λ k. (k.client, k.server)) (λ p. record { client = p.0; server = p.1 })
    (λ _. refl)

abbrev pub response_key_code : Coded ResponseKey
response_key_code =
    code_by (ℕ × (ℕ × ℕ)) (coded× coded_ℕ (coded× coded_ℕ coded_ℕ)) (λ k. (k.server, (k.client, k.channel)))
    (λ p. record { server = p.0; client = p.1.0; channel = p.1.1 }) (λ _. refl)

abbrev pub limits_code : Coded Limits
limits_code =
    let number = coded_ℕ in
    let flag = coded_bool in
    code_by (ℕ × (ℕ × (ℕ × (ℕ × (ℕ × (ℕ × (Bool × (Bool × (Bool × (ℕ × ℕ))))))))))
    (coded× number (coded× number (coded× number
    (coded× number (coded× number (coded× number
    (coded× flag (coded× flag (coded× flag (coded× number number))))))))))
    (λ l. (
      l.max_clients,
      (
        l.max_servers,
        (
          l.max_loaned_requests,
          (
            l.max_active_requests_per_client,
            (
              l.max_response_buffer_size,
              (
                l.max_borrowed_responses_per_pending_response,
                (
                  l.enable_safe_overflow_for_requests,
                  (
                    l.enable_safe_overflow_for_responses,
                    (
                      l.enable_fire_and_forget_requests,
                      (
                        l.client_expired_connection_buffer,
                        l.server_expired_connection_buffer,
                      ),
                    ),
                  ),
                ),
              ),
            ),
          ),
        ),
      ),
    ))
    (λ p. record {
      max_clients = p.0;
      max_servers = p.1.0;
      max_loaned_requests = p.1.1.0;
      max_active_requests_per_client = p.1.1.1.0;
      max_response_buffer_size = p.1.1.1.1.0;
      max_borrowed_responses_per_pending_response = p.1.1.1.1.1.0;
      enable_safe_overflow_for_requests = p.1.1.1.1.1.1.0;
      enable_safe_overflow_for_responses = p.1.1.1.1.1.1.1.0;
      enable_fire_and_forget_requests = p.1.1.1.1.1.1.1.1.0;
      client_expired_connection_buffer = p.1.1.1.1.1.1.1.1.1.0;
      server_expired_connection_buffer = p.1.1.1.1.1.1.1.1.1.1;
    })
    (λ _. refl)

module _ {T H : Type 0} where
  abbrev pub content_code : Coded T → Coded H → Coded (Content T H)
  content_code t h =
      code_by (H × (ℕ × List T)) (coded× h (coded× coded_ℕ (coded_list t)))
      (λ c. (c.user_header, (c.asked_len, c.elements)))
      (λ p. record { user_header = p.0; asked_len = p.1.0; elements = p.1.1 }) (λ _. refl)

  abbrev pub request_code : Coded T → Coded H → Coded (RequestMessage T H)
  request_code t h =
      code_by (ℕ × (ℕ × (ℕ × (ℕ × Content T H))))
      (coded× coded_ℕ (coded× coded_ℕ (coded× coded_ℕ (coded× coded_ℕ (content_code t h)))))
      (λ m. (m.number, (m.client, (m.request_id, (m.channel, m.content)))))
      (λ p. record { number = p.0; client = p.1.0; request_id = p.1.1.0; channel = p.1.1.1.0; content = p.1.1.1.1 })
      (λ _. refl)

  abbrev pub response_code : Coded T → Coded H → Coded (ResponseMessage T H)
  response_code t h =
      code_by (ℕ × (ℕ × (ℕ × (ℕ × (ℕ × (ℕ × (ℕ × Content T H)))))))
      (coded× coded_ℕ (coded× coded_ℕ (coded× coded_ℕ
      (coded× coded_ℕ (coded× coded_ℕ (coded× coded_ℕ (coded× coded_ℕ (content_code t h))))))))
      (λ m. (
        m.number,
        (
          m.server,
          (
            m.active_request,
            (m.request, (m.request_id, (m.client, (m.channel, m.content)))),
          ),
        ),
      ))
      (λ p. record {
        number = p.0;
        server = p.1.0;
        active_request = p.1.1.0;
        request = p.1.1.1.0;
        request_id = p.1.1.1.1.0;
        client = p.1.1.1.1.1.0;
        channel = p.1.1.1.1.1.1.0;
        content = p.1.1.1.1.1.1.1;
      }) (λ _. refl)

  abbrev pub pending_code : Coded T → Coded H → Coded (Pending T H)
  pending_code t h =
      code_by (RequestMessage T H × (Bool × (ℕ × List ℕ)))
      (coded× (request_code t h) (coded× coded_bool (coded× coded_ℕ (coded_list coded_ℕ))))
      (λ p. (p.message, (p.hint, (p.connections, p.servers))))
      (λ p. record { message = p.0; hint = p.1.0; connections = p.1.1.0; servers = p.1.1.1 }) (λ _. refl)

  abbrev pub active_code : Coded T → Coded H → Coded (Active T H)
  active_code t h =
      code_by (RequestMessage T H × ℕ) (coded× (request_code t h) coded_ℕ)
      (λ a. (a.message, a.server)) (λ p. record { message = p.0; server = p.1 }) (λ _. refl)

-- a handle as the message of one of seven kinds
abbrev pub HandleParts : Type 0 → Type 0 → Type 0 → Type 0 → Type 0
HandleParts Q QH P PH =
    RequestMessage Q QH ⊎ (RequestMessage Q QH
    ⊎ (Pending Q QH ⊎ (Active Q QH ⊎ (ResponseMessage P PH ⊎ (ResponseMessage P PH ⊎ ResponseMessage P PH)))))

module _ {Q QH P PH : Type 0} where
  abbrev pub parts_of : Handle Q QH P PH → HandleParts Q QH P PH
  parts_of (RequestMutUninit m) = inl m
  parts_of (RequestMut m) = inr (inl m)
  parts_of (PendingResponse p) = inr (inr (inl p))
  parts_of (ActiveRequest a) = inr (inr (inr (inl a)))
  parts_of (ResponseMutUninit m) = inr (inr (inr (inr (inl m))))
  parts_of (ResponseMut m) = inr (inr (inr (inr (inr (inl m)))))
  parts_of (Response m) = inr (inr (inr (inr (inr (inr m)))))

  abbrev pub handle_of : HandleParts Q QH P PH → Handle Q QH P PH
  handle_of (inl m) = RequestMutUninit m
  handle_of (inr (inl m)) = RequestMut m
  handle_of (inr (inr (inl p))) = PendingResponse p
  handle_of (inr (inr (inr (inl a)))) = ActiveRequest a
  handle_of (inr (inr (inr (inr (inl m))))) = ResponseMutUninit m
  handle_of (inr (inr (inr (inr (inr (inl m)))))) = ResponseMut m
  handle_of (inr (inr (inr (inr (inr (inr m)))))) = Response m

  pub handle_of-parts_of : (h : Handle Q QH P PH) → handle_of (parts_of h) ≡ h
  handle_of-parts_of (RequestMutUninit m) = refl
  handle_of-parts_of (RequestMut m) = refl
  handle_of-parts_of (PendingResponse p) = refl
  handle_of-parts_of (ActiveRequest a) = refl
  handle_of-parts_of (ResponseMutUninit m) = refl
  handle_of-parts_of (ResponseMut m) = refl
  handle_of-parts_of (Response m) = refl

  abbrev pub handle_code : Coded Q → Coded QH → Coded P → Coded PH → Coded (Handle Q QH P PH)
  handle_code q qh p ph =
      let request = request_code q qh in
      let response = response_code p ph in
      code_by (HandleParts Q QH P PH)
      (coded⊎ request (coded⊎ request (coded⊎ (pending_code q qh)
      (coded⊎ (active_code q qh) (coded⊎ response (coded⊎ response response))))))
      parts_of handle_of handle_of-parts_of

abbrev pub strategy_flag : BackpressureStrategy → Bool
strategy_flag RetryUntilDelivered = true
strategy_flag DiscardData = false

abbrev pub strategy_of_flag : Bool → BackpressureStrategy
strategy_of_flag true = RetryUntilDelivered
strategy_of_flag false = DiscardData

pub strategy_of_flag-strategy_flag : (s : BackpressureStrategy) → strategy_of_flag (strategy_flag s) ≡ s
strategy_of_flag-strategy_flag RetryUntilDelivered = refl
strategy_of_flag-strategy_flag DiscardData = refl

abbrev pub strategy_code : Coded BackpressureStrategy
strategy_code = code_by Bool coded_bool strategy_flag strategy_of_flag strategy_of_flag-strategy_flag

abbrev pub allocation_flags : AllocationStrategy → Bool × Bool
allocation_flags Static = (true, true)
allocation_flags BestFit = (false, true)
allocation_flags PowerOfTwo = (false, false)

abbrev pub allocation_of_flags : Bool × Bool → AllocationStrategy
allocation_of_flags flags = if flags.0 then Static else if flags.1 then BestFit else PowerOfTwo

pub allocation_of_flags-allocation_flags : (s : AllocationStrategy) → allocation_of_flags (allocation_flags s) ≡ s
allocation_of_flags-allocation_flags Static = refl
allocation_of_flags-allocation_flags BestFit = refl
allocation_of_flags-allocation_flags PowerOfTwo = refl

abbrev pub allocation_code : Coded AllocationStrategy
allocation_code =
    code_by (Bool × Bool) (coded× coded_bool coded_bool) allocation_flags allocation_of_flags
    allocation_of_flags-allocation_flags

module _ {K : Type 0} where
  abbrev pub port_code : Coded K → Coded (Port K)
  port_code k =
      code_by (ℕ × (BackpressureStrategy × (Option K × (AllocationStrategy × (ℕ × (ℕ × Bool))))))
      (coded× coded_ℕ (coded× strategy_code (coded× (coded_option k)
      (coded× allocation_code (coded× coded_ℕ (coded× coded_ℕ coded_bool))))))
      (λ p. (
        p.id,
        (
          p.strategy,
          (
            p.handler,
            (
              p.allocation_strategy,
              (p.initial_max_slice_len, (p.pool_size, p.has_value)),
            ),
          ),
        ),
      ))
      (λ p. record {
        id = p.0;
        strategy = p.1.0;
        handler = p.1.1.0;
        allocation_strategy = p.1.1.1.0;
        initial_max_slice_len = p.1.1.1.1.0;
        pool_size = p.1.1.1.1.1.0;
        has_value = p.1.1.1.1.1.1;
      }) (λ _. refl)

  abbrev pub client_code : Coded K → Coded (Client K)
  client_code k =
      code_by (Port K × ℕ) (coded× (port_code k) coded_ℕ) (λ c. (c.port, c.loans_made))
      (λ p. record { port = p.0; loans_made = p.1 }) (λ _. refl)

  abbrev pub server_code : Coded K → Coded (Server K)
  server_code k =
      code_by (Port K × ℕ) (coded× (port_code k) coded_ℕ)
      (λ s. (s.port, s.max_loaned_responses_per_request))
      (λ p. record { port = p.0; max_loaned_responses_per_request = p.1 }) (λ _. refl)

module _ {Q QH P PH K : Type 0} where
  abbrev pub state_code : Coded Q → Coded QH → Coded P → Coded PH → Coded K → Coded (State Q QH P PH K)
  state_code q qh p ph k =
      code_by
      (Limits × (ℕ × (List (Client K) × (List (Server K)
      × (fin_map.FinMap nat_cmp (Handle Q QH P PH)
      × (Lists request_key_cmp (RequestMessage Q QH)
      × (Lists response_key_cmp (ResponseMessage P PH) × (Lists nat_cmp ℕ × ℕ))))))))
      (coded× limits_code (coded× coded_ℕ (coded× (coded_list (client_code k))
      (coded× (coded_list (server_code k)) (coded× (fin_map.code coded_ℕ (handle_code q qh p ph))
      (coded× (lists_code request_key_code (request_code q qh))
      (coded× (lists_code response_key_code (response_code p ph)) (coded× (lists_code coded_ℕ coded_ℕ) coded_ℕ))))))))
      (λ s. (
        s.limits,
        (
          s.node_id,
          (
            s.clients,
            (s.servers, (s.handles, (s.requests, (s.responses, (s.expired, s.next))))),
          ),
        ),
      ))
      (λ p. record {
        limits = p.0;
        node_id = p.1.0;
        clients = p.1.1.0;
        servers = p.1.1.1.0;
        handles = p.1.1.1.1.0;
        requests = p.1.1.1.1.1.0;
        responses = p.1.1.1.1.1.1.0;
        expired = p.1.1.1.1.1.1.1.0;
        next = p.1.1.1.1.1.1.1.1;
      }) (λ _. refl)
