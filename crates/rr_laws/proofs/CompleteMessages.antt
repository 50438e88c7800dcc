-- Messages stay complete as handles come, change and go, and as lists get and lose entries.
use Rattle.std.proofs.Common.{◌≡◌, ℕ, Bool, true, false, cond, Option, Some, None, refl, sym, ap, subst, ⊎_elim}
use Rattle.std.specs.List.{AllByRecursion}
use Rattle.std.specs.Option.{option_map_or}
use Rattle.std.specs.Ordering.{nat_cmp}
use Rattle.std.specs.FinMap.{FinMap, insert, remove}
use Rattle.std.proofs.lemmas.List.{length-set}
use Rattle.rr_table.proofs.MapLaws.{get-insert_cases, get-remove_cases}
use Rattle.rr_table.proofs.ListFacts.{all_drop}
use Rattle.rr_protocol.specs.Lists.{Lists}
use Rattle.rr_protocol.specs.Keys.{request_key_cmp, response_key_cmp}
use Rattle.rr_protocol.specs.Messages.{Content, RequestMessage, ResponseMessage, Handle, RequestMutUninit, RequestMut, PendingResponse, ActiveRequest, ResponseMutUninit, ResponseMut, Response, with_hint}
use Rattle.rr_protocol.specs.Writing.{is_complete, with_element_at, with_user_header, with_request_content, with_response_content}
use Rattle.rr_protocol.specs.State.{State, handle_at, with_changed}
use Rattle.rr_protocol.specs.Releases.{without_server}
use Rattle.rr_laws.specs.Complete.{HasComplete, AreComplete, MessagesComplete}
use Rattle.rr_laws.proofs.Staying.{Shrinks}

module _ {Q QH P PH : Type 0} (handles : FinMap nat_cmp (Handle Q QH P PH)) (requests : Lists request_key_cmp (RequestMessage Q QH))
    (responses : Lists response_key_cmp (ResponseMessage P PH)) (all : AreComplete handles requests responses) where
  -- one more handle, or another one
  pub complete_with : (n : ℕ) (h : Handle Q QH P PH) → HasComplete h → AreComplete (insert handles n h) requests responses
  complete_with n h here =
      record {
        in_handles = λ k x e. ⊎_elim
            (λ is. subst (λ (y : Handle Q QH P PH). HasComplete y) is.1 here)
            (λ before. all.in_handles k x before.1)
            (get-insert_cases handles n h k x e);
        in_requests = all.in_requests;
        in_responses = all.in_responses;
      }

  -- one handle less
  pub complete_without : (n : ℕ) → AreComplete (remove handles n) requests responses
  complete_without n =
      record {
        in_handles = λ k x e. all.in_handles k x (get-remove_cases handles n k x e).1;
        in_requests = all.in_requests;
        in_responses = all.in_responses;
      }

  -- lists of requests that lost entries at the front
  pub complete_requests : (shorter : Lists request_key_cmp (RequestMessage Q QH)) → Shrinks requests shorter
      → AreComplete handles shorter responses
  complete_requests shorter shrinks =
      record {
        in_handles = all.in_handles;
        in_requests = λ key. subst (AllByRecursion (λ m. is_complete m.content ≡ true)) (sym (shrinks key).1)
            (all_drop _ (shrinks key).0 _ (all.in_requests key));
        in_responses = all.in_responses;
      }

  -- lists of responses that did
  pub complete_responses : (shorter : Lists response_key_cmp (ResponseMessage P PH)) → Shrinks responses shorter
      → AreComplete handles requests shorter
  complete_responses shorter shrinks =
      record {
        in_handles = all.in_handles;
        in_requests = all.in_requests;
        in_responses = λ key. subst (AllByRecursion (λ m. is_complete m.content ≡ true)) (sym (shrinks key).1)
            (all_drop _ (shrinks key).0 _ (all.in_responses key));
      }

module _ {Q QH P PH K : Type 0} (s : State Q QH P PH K) (n : ℕ) (change : Handle Q QH P PH → Handle Q QH P PH) where
  -- a handle that is there becomes another
  pub changed_there : (h : Handle Q QH P PH) → handle_at s n ≡ Some h
      → with_changed s n change ≡ record s { handles = insert s.handles n (change h) }
  changed_there h is =
      ap (λ o. record s { handles = option_map_or (λ handle. insert s.handles n (change handle)) o s.handles }) is

  -- a change after which the message is complete, if it was
  pub changed_complete : ((h : Handle Q QH P PH) → handle_at s n ≡ Some h → HasComplete h → HasComplete (change h))
      → MessagesComplete s → MessagesComplete (with_changed s n change)
  changed_complete keeps all = go (handle_at s n) refl
    where
      go : (o : Option (Handle Q QH P PH)) → handle_at s n ≡ o
          → AreComplete (option_map_or (λ handle. insert s.handles n (change handle)) o s.handles) s.requests s.responses
      go None e = all
      go (Some h) e = complete_with s.handles s.requests s.responses all n (change h) (keeps h e (all.in_handles n h e))

  -- a write that may have found no room
  pub pushed_complete : (pushed : Bool) (new : State Q QH P PH K) → new ≡ cond pushed (with_changed s n change) s
      → ((h : Handle Q QH P PH) → handle_at s n ≡ Some h → HasComplete h → pushed ≡ true → HasComplete (change h))
      → MessagesComplete s → MessagesComplete new
  pushed_complete true new is keeps all = subst (λ (x : State Q QH P PH K). MessagesComplete x) (sym is)
      (changed_complete (λ h e c. keeps h e c refl) all)
  pushed_complete false new is keeps all = subst (λ (x : State Q QH P PH K). MessagesComplete x) (sym is) all

module _ {T H : Type 0} where
  -- this keeps a complete content complete
  abbrev pub KeepsComplete : (Content T H → Content T H) → Type 0
  KeepsComplete change = (c : Content T H) → is_complete c ≡ true → is_complete (change c) ≡ true

  -- another user header does
  pub header_keeps : (header : H) → KeepsComplete (with_user_header header)
  header_keeps header c e = e

  -- so does another element in place of one
  pub element_keeps : (i : ℕ) (element : T) → KeepsComplete (with_element_at i element)
  element_keeps i element c e = rw (length-set c.elements i element) e

module _ {Q QH P PH : Type 0} where
  -- a hint changes no message
  pub hint_complete : (h : Handle Q QH P PH) → HasComplete h → HasComplete (with_hint h)
  hint_complete (RequestMutUninit m) e = e
  hint_complete (RequestMut m) e = e
  hint_complete (PendingResponse p) e = e
  hint_complete (ActiveRequest a) e = e
  hint_complete (ResponseMutUninit m) e = e
  hint_complete (ResponseMut m) e = e
  hint_complete (Response m) e = e

  -- nor does a server that will not answer
  pub without_server_complete : (server : ℕ) (h : Handle Q QH P PH) → HasComplete h → HasComplete (without_server server h)
  without_server_complete server (RequestMutUninit m) e = e
  without_server_complete server (RequestMut m) e = e
  without_server_complete server (PendingResponse p) e = e
  without_server_complete server (ActiveRequest a) e = e
  without_server_complete server (ResponseMutUninit m) e = e
  without_server_complete server (ResponseMut m) e = e
  without_server_complete server (Response m) e = e

  -- a write in a request that keeps what is complete
  pub request_content_complete : (change : Content Q QH → Content Q QH) → KeepsComplete change → (h : Handle Q QH P PH) → HasComplete h
      → HasComplete (with_request_content change h)
  request_content_complete change keeps (RequestMutUninit m) e = e
  request_content_complete change keeps (RequestMut m) e = keeps m.content e
  request_content_complete change keeps (PendingResponse p) e = e
  request_content_complete change keeps (ActiveRequest a) e = e
  request_content_complete change keeps (ResponseMutUninit m) e = e
  request_content_complete change keeps (ResponseMut m) e = e
  request_content_complete change keeps (Response m) e = e

  -- and one in a response
  pub response_content_complete : (change : Content P PH → Content P PH) → KeepsComplete change → (h : Handle Q QH P PH) → HasComplete h
      → HasComplete (with_response_content change h)
  response_content_complete change keeps (RequestMutUninit m) e = e
  response_content_complete change keeps (RequestMut m) e = e
  response_content_complete change keeps (PendingResponse p) e = e
  response_content_complete change keeps (ActiveRequest a) e = e
  response_content_complete change keeps (ResponseMutUninit m) e = e
  response_content_complete change keeps (ResponseMut m) e = keeps m.content e
  response_content_complete change keeps (Response m) e = e
