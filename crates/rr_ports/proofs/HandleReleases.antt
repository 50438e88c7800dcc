-- What is queued stays as a handle goes whose port's value lives.
use Rattle.std.proofs.Common.{◌≡◌, ◌≢◌, ℕ, suc, Bool, true, false, cond, not, [], ◌∷◌, Some, None, map, refl, ap, ◌∙◌, subst}
use Rattle.std.specs.Prelude.{◌&&◌, ◌||◌, ◌==◌, option_and_then}
use Rattle.std.specs.FinMap as fin_map
use Rattle.std.proofs.lemmas.Bool.{and_parts, eqb-true}
use Rattle.rr_protocol.proofs.KeyLaws.{response_keys_total, response_keys_exact}
use Rattle.rr_protocol.proofs.ListsLaws.{at-retain_keys}
use Rattle.rr_protocol.specs.declared.kind.Kind.{Kind}
use Rattle.rr_protocol.specs.Keys.{ResponseKey}
use Rattle.rr_protocol.specs.Lists.{at}
use Rattle.rr_protocol.specs.Messages.{Handle, Pending, PendingResponse, ResponseMessage, port_of}
use Rattle.rr_protocol.specs.Queries.{kind_at, kind_of}
use Rattle.rr_protocol.specs.Releases.{after_handle_gone, after_release}
use Rattle.rr_protocol.specs.State.{State, handle_at, is_client_value, is_server_value}
use Rattle.rr_laws.specs.Apart.{ChannelsApart}
use Rattle.rr_laws.specs.Roles.{Question, question_of, roles_of}
use Rattle.rr_ports.specs.Facts.{Has, Keeps, Names, Of, Shown, about_at, numbers_left, shown_at}
use Rattle.rr_ports.specs.Owning.{KeepsOwned, Owns}
use Rattle.rr_ports.proofs.OwningLaws.{released_frees, released_owned}
use Rattle.rr_ports.specs.Queues.{Awaits, KeepsAwaited, KeepsHeard, responses_to}
use Rattle.rr_ports.proofs.Asking.{there}
use Rattle.rr_ports.proofs.AwaitedLaws.{apart_channel, released_handle}
use Rattle.rr_ports.proofs.Belonging.{belongs}
use Rattle.rr_ports.proofs.FactLaws.{handle_shows}
use Rattle.rr_ports.proofs.HeardLaws.{client_lives, pending_there, server_lives}
use Rattle.rr_ports.proofs.NameLaws.{each_handle, handle_no_port}
use Rattle.rr_ports.proofs.QueueLaws.{Stays, awaited_stays, heard_stays, kind_stays, read_stays, stays_but}
use Rattle.rr_ports.proofs.ReleaseLaws.{release_keeps, release_tells}

or_first : (a b : Bool) → a ≡ true → (a || b) ≡ true
or_first true b e = refl
or_first false b e = absurd (let f : false ≡ true = e in cc)

or_second : (a b : Bool) → b ≡ true → (a || b) ≡ true
or_second true b e = refl
or_second false b e = e

module _ {Q QH P PH K : Type 0} where
  -- the value of a port lives
  abbrev pub IsUsed : State Q QH P PH K → ℕ → Type 0
  IsUsed s port = (is_client_value s port || is_server_value s port) ≡ true

  pub client_used : (s : State Q QH P PH K) (port : ℕ) → Names s port Kind.Client → IsUsed s port
  unfolding Has
  client_used s port named = or_first (is_client_value s port) (is_server_value s port) (client_lives s port named)

  pub server_used : (s : State Q QH P PH K) (port : ℕ) → Names s port Kind.Server → IsUsed s port
  unfolding Has
  server_used s port named = or_second (is_client_value s port) (is_server_value s port) (server_lives s port named)

module _ {Q QH P PH K : Type 0} (old new : State Q QH P PH K) (n : ℕ) (released : new ≡ after_release old n) (k : Kind) (client : Kind.Client ≢ k)
    (server : Kind.Server ≢ k) (is : kind_at old n ≡ Some k) (port request : ℕ) (of : Has old n (Of port request)) (used : IsUsed old port) where
  handle : Handle Q QH P PH
  handle = (there old n k client server is).0

  stood : handle_at old n ≡ Some handle
  unfolding handle
  stood = (there old n k client server is).1

  its_port : port_of handle ≡ port
  its_port = belongs old n k client server is handle stood port request of

  gone : State Q QH P PH K
  gone = record old { handles = fin_map.remove old.handles n }

  left : new ≡ after_handle_gone gone handle
  unfolding gone
  left = released ∙ released_handle old n handle stood (ap (λ i. is_client_value old i || is_server_value old i) its_port ∙ used)

  stays : Stays (n ∷ []) old new
  stays = stays_but n old new (λ i other. ap (λ t. shown_at t i) released ∙ (release_keeps old n).shown i other)

  -- what servers hear
  pub released_heard : KeepsHeard (n ∷ []) old new
  unfolding gone
  released_heard =
      heard_stays (n ∷ []) old new stays
      (ap (λ t. t.requests) left
      ∙ each_handle (λ h. (after_handle_gone gone h).requests ≡ old.requests) (λ m. refl) (λ m. refl) (λ p. refl) (λ a. refl) (λ m. refl) (λ m. refl) (λ m. refl) handle)

  -- what requests await, where the handle is no pending response
  pub released_awaited : Kind.PendingResponse ≢ k → KeepsAwaited (n ∷ []) old new
  unfolding gone handle
  released_awaited other =
      awaited_stays (n ∷ []) old new stays
      (ap (λ t. t.responses) left
      ∙ each_handle (λ h. Kind.PendingResponse ≢ kind_of h → (after_handle_gone gone h).responses ≡ old.responses) (λ m no. refl) (λ m no. refl) (λ p no. absurd (no refl))
      (λ a no. refl) (λ m no. refl) (λ m no. refl) (λ m no. refl) handle (λ e. other (e ∙ (there old n k client server is).2)))

-- what other requests await, where it is one
module _ {Q QH P PH K : Type 0} (old new : State Q QH P PH K) (n : ℕ) (released : new ≡ after_release old n) (is : kind_at old n ≡ Some Kind.PendingResponse)
    (port request : ℕ) (of : Has old n (Of port request)) (used : IsUsed old port) (channels : ChannelsApart (roles_of old.handles)) where
  pending : Pending Q QH
  pending = (pending_there old n is).0

  shows : about_at old n ≡ Some (question_of pending.message)
  unfolding pending
  shows =
      ap (option_and_then (λ (x : Shown Q P). x.origin.about))
      (handle_shows old n (PendingResponse (pending_there old n is).0) (handle_no_port old n Kind.PendingResponse (λ e. cc) (λ e. cc) is).0 (pending_there old n is).1)

  its_client : pending.message.client ≡ port
  unfolding pending
  its_client =
      let p = pending_there old n is in
      belongs old n Kind.PendingResponse (λ e. cc) (λ e. cc) is (PendingResponse p.0) p.1 port request of

  emptied : (key : ResponseKey) → (key.client == pending.message.client && key.channel == pending.message.channel) ≡ false
      → at new.responses key ≡ at old.responses key
  unfolding pending
  emptied key apart =
      let p = pending_there old n is in
      let gone : State Q QH P PH K = record old { handles = fin_map.remove old.handles n } in
      ap (λ t. at t.responses key)
      (released ∙ released_handle old n (PendingResponse p.0) p.1 (ap (λ i. is_client_value old i || is_server_value old i) its_client ∙ used))
      ∙ at-retain_keys response_keys_total response_keys_exact old.responses
      (λ (x : ResponseKey). not (x.client == (p.0).message.client && x.channel == (p.0).message.channel)) key
      ∙ ap (λ b. cond (not b) (at old.responses key) []) apart

  pub pending_released : KeepsAwaited (n ∷ []) old new
  unfolding KeepsAwaited Awaits Has
  pending_released r server answers apart awaits =
      let q = (awaits.1).0 in
      let stays = stays_but n old new (λ i other. ap (λ t. shown_at t i) released ∙ (release_keeps old n).shown i other) in
      let same : (i : ℕ) → at new.responses (responses_to q i) ≡ at old.responses (responses_to q i) =
      λ i. emptied (responses_to q i) (unlike q (awaits.1).1 (q.client == pending.message.client && q.channel == pending.message.channel) refl) in (
        kind_stays (n ∷ []) old new stays r apart Kind.PendingResponse awaits.0,
        (
          q,
          read_stays (n ∷ []) old new stays r apart (λ o. option_and_then (λ (x : Shown Q P). x.origin.about) o ≡ Some q) (λ e. absurd (let f : None ≡ Some q = e in cc)) (awaits.1).1,
          record {
            elements = ap (map (λ (m : ResponseMessage P PH). m.content.elements)) (same server) ∙ ((awaits.1).2).elements;
            others = λ i differs. same i ∙ ((awaits.1).2).others i differs;
          },
        ),
      )
    where
      unlike : (q : Question) → about_at old r ≡ Some q → (b : Bool) → (q.client == pending.message.client && q.channel == pending.message.channel) ≡ b → b ≡ false
      unlike q about true e =
          let both = and_parts (q.client == pending.message.client) (q.channel == pending.message.channel) e in
          absurd (apart_channel old channels n is (question_of pending.message) shows r awaits.0 q about apart.0
          (eqb-true q.client pending.message.client both.0) (eqb-true q.channel pending.message.channel both.1))
      unlike q about false e = refl

-- what the call of a handle tells of its release
module _ {Q QH P PH K : Type 0} {core hub new : State Q QH P PH K} {id n : ℕ} (view : core ≡ hub) (same : id ≡ n) (released : new ≡ after_release core id) where
  gone_is : new ≡ after_release hub n
  gone_is = released ∙ ap (λ s. after_release s id) view ∙ ap (after_release hub) same

  -- of another handle than a pending response
  pub handle_release_tells : (k port_kind : Kind) → Kind.Client ≢ k → Kind.Server ≢ k → Kind.PendingResponse ≢ k
      → ((s : State Q QH P PH K) (port : ℕ) → Names s port port_kind → IsUsed s port) → Names hub n k → record {
        released : new ≡ after_release hub n;
        keeps : Keeps (n ∷ []) hub new;
        numbers : numbers_left new ≡ numbers_left hub;
        heard : (port request : ℕ) → Has hub n (Of port request) → Names hub port port_kind → KeepsHeard (n ∷ []) hub new;
        awaited : (port request : ℕ) → Has hub n (Of port request) → Names hub port port_kind → KeepsAwaited (n ∷ []) hub new;
        owned : KeepsOwned [] hub new;
        frees : (port request most : ℕ) → Has hub n (Of port request) → Owns hub port (suc most) → Owns new port most;
      }
  unfolding Has
  handle_release_tells k port_kind client server pending uses is =
      let tells = release_tells view same released in record {
        released = tells.released;
        keeps = tells.keeps;
        numbers = tells.numbers;
        heard = λ port request of named. released_heard hub new n gone_is k client server is port request of (uses hub port named);
        awaited = λ port request of named. released_awaited hub new n gone_is k client server is port request of (uses hub port named) pending;
        owned = released_owned hub new n gone_is;
        frees = λ port request most of. released_frees hub new n gone_is k client server is port request of most;
      }

  -- of a pending response
  pub pending_release_tells : ChannelsApart (roles_of core.handles) → Names hub n Kind.PendingResponse → record {
    released : new ≡ after_release hub n;
    keeps : Keeps (n ∷ []) hub new;
    numbers : numbers_left new ≡ numbers_left hub;
    heard : (port request : ℕ) → Has hub n (Of port request) → Names hub port Kind.Client → KeepsHeard (n ∷ []) hub new;
    awaited : (port request : ℕ) → Has hub n (Of port request) → Names hub port Kind.Client → KeepsAwaited (n ∷ []) hub new;
    owned : KeepsOwned [] hub new;
    frees : (port request most : ℕ) → Has hub n (Of port request) → Owns hub port (suc most) → Owns new port most;
  }
  unfolding Has
  pending_release_tells channels is =
      let tells = release_tells view same released in record {
        released = tells.released;
        keeps = tells.keeps;
        numbers = tells.numbers;
        heard = λ port request of named. released_heard hub new n gone_is Kind.PendingResponse (λ e. cc) (λ e. cc) is port request of (client_used hub port named);
        awaited = λ port request of named. pending_released hub new n gone_is is port request of (client_used hub port named)
            (subst (λ s. ChannelsApart (roles_of s.handles)) view channels);
        owned = released_owned hub new n gone_is;
        frees = λ port request most of. released_frees hub new n gone_is Kind.PendingResponse (λ e. cc) (λ e. cc) is port request of most;
      }
