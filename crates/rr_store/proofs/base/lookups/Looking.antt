-- What is seen under the number of a handle, and where its message stands.
use Rattle.std.proofs.Common.{◌≡◌, ℕ, Bool, true, false, cond, List, Option, None, Some, map, length, refl, sym, ap, ◌∙◌, arith, option_map}
use Rattle.std.specs.Prelude.{◌||◌, ◌&&◌, ◌==◌, [], ◌∷◌, filter, nat_lt}
use Rattle.std.specs.List.{list_any}
use Rattle.std.specs.FinMap as fin_map
use Rattle.std.proofs.lemmas.Bool.{lt-ltb}
use Rattle.rr_table.specs.TableView.{TableEntry, TableView, value_at}
use Rattle.rr_table.proofs.MapLaws.{get-map_values}
use Rattle.rr_table.proofs.TableLaws.{is_fresh}
use Rattle.rr_protocol.specs.declared.kind.Kind.{Kind}
use Rattle.rr_protocol.specs.Queries.{kind_of, kind_at}
use Rattle.rr_protocol.specs.State.{State, handle_at, is_client_value, is_server_value}
use Rattle.rr_store.specs.declared.handle_entry.HandleEntry.{HandleEntry}
use Rattle.rr_store.specs.declared.handle_entry.Stage.{Stage}
use Rattle.rr_store.specs.declared.handle_entry.Stage.TheVariants as stage
use Rattle.rr_store.specs.declared.port.ClientPort.{ClientPort}
use Rattle.rr_store.specs.declared.port.ServerPort.{ServerPort}
use Rattle.rr_store.specs.Ports.{client_part, server_part}
use Rattle.rr_store.specs.Kinds.{stage_kind}
use Rattle.rr_store.specs.Parts.{Parts}
use Rattle.rr_store.specs.Views.{client_of, server_of, handle_in, handle_of, state_of}

-- a value under a number is that of an entry
pub table_entry_under : {E : Type 0} (t : TableView E) (n : ℕ) (v : E) → value_at t n ≡ Some v → (s : TableEntry E)
    × (fin_map.get t.entries n ≡ Some s)
    × (s.value ≡ v)
table_entry_under {E} t n v h = go (fin_map.get t.entries n) refl h
  where
    go : (o : Option (TableEntry E)) → fin_map.get t.entries n ≡ o → option_map (λ s. s.value) o ≡ Some v → (s : TableEntry E)
        × (fin_map.get t.entries n ≡ Some s) × (s.value ≡ v)
    go None at e = absurd (let f : None ≡ Some v = e in cc)
    go (Some s) at e = (s, at, (let f : Some s.value ≡ Some v = e in cc))

-- a test of what each element is mapped to
pub list_any-map : {X Y : Type 0} (f : X → Y) (t : Y → Bool) (xs : List X) → list_any t (map f xs) ≡ list_any (λ x. t (f x)) xs
list_any-map f t [] = refl
list_any-map f t (x ∷ xs) = ap (λ b. t (f x) || b) (list_any-map f t xs)

-- some pass a test where the list of those that pass has an element
pub some_pass : {X Y : Type 0} (t : X → Bool) (f : X → Y) (xs : List X) → list_any t xs ≡ nat_lt 0 (length (map f (filter t xs)))
some_pass t f [] = refl
some_pass t f (x ∷ xs) = elim (t x) as (λ b. (b || list_any t xs) ≡ nat_lt 0 (length (map f (cond b (x ∷ filter t xs) (filter t xs))))) [
  | true ↦ sym (lt-ltb 0 (length (map f (x ∷ filter t xs))) (omega arith))
  | false ↦ some_pass t f xs
]

module _ {Q QH P PH : Type 0} {K : Type 0} (p : Parts Q QH P PH K) where
  -- what is seen under a number is what its entry shows
  pub handle_at-state_of : (n : ℕ) → handle_at (state_of p) n ≡ option_map (handle_of p) (fin_map.get p.table.entries n)
  handle_at-state_of n = get-map_values (handle_of p) p.table.entries n

  -- what a look-up found is shown
  pub shown : (n : ℕ) (entry : HandleEntry) → value_at p.table n ≡ Some entry
      → handle_at (state_of p) n ≡ Some (handle_in p entry.stage entry.sender entry.slot)
  shown n entry h =
      let f = table_entry_under p.table n entry h in
      handle_at-state_of n ∙ ap (option_map (handle_of p)) f.1 ∙ ap (λ (v : HandleEntry). Some (handle_in p v.stage v.sender v.slot)) f.2

  -- and where it found nothing, nothing is
  pub nothing_shown : (n : ℕ) → value_at p.table n ≡ None → handle_at (state_of p) n ≡ None
  nothing_shown n h = handle_at-state_of n ∙ ap (option_map (handle_of p)) (is_fresh p.table n h)

  -- a handle's kind is its stage's
  pub kind-handle_in : (g : Stage) (sender slot : ℕ) → kind_of (handle_in p g sender slot) ≡ stage_kind g
  kind-handle_in stage.RequestMutUninit sender slot = refl
  kind-handle_in stage.RequestMut sender slot = refl
  kind-handle_in (stage.PendingResponse hint connections) sender slot = refl
  kind-handle_in (stage.ActiveRequest server loans) sender slot = refl
  kind-handle_in stage.ResponseMutUninit sender slot = refl
  kind-handle_in stage.ResponseMut sender slot = refl
  kind-handle_in stage.Response sender slot = refl

  -- the kind of what a look-up found
  pub kind_shown : (n : ℕ) (entry : HandleEntry) → value_at p.table n ≡ Some entry
      → option_map kind_of (handle_at (state_of p) n) ≡ Some (stage_kind entry.stage)
  kind_shown n entry h = ap (option_map kind_of) (shown n entry h) ∙ ap Some (kind-handle_in entry.stage entry.sender entry.slot)

-- the stored ports have a number where those that are seen have it
pub client_seen : {K : Type 0} (clients stored : List (ClientPort K)) (n : ℕ) (b : Bool) → stored ≡ clients
    → b ≡ list_any (λ c. c.port.id == n && c.port.has_value) stored
    → list_any (λ c. c.id == n && c.has_value) (map client_of (map client_part clients)) ≡ b
client_seen clients stored n b is tells =
    list_any-map client_of (λ c. c.id == n && c.has_value) (map client_part clients)
    ∙ list_any-map client_part (λ c. c.port.id == n && c.port.has_value) clients
    ∙ ap (list_any (λ c. c.port.id == n && c.port.has_value)) (sym is) ∙ sym tells

-- the same of servers
pub server_seen : {K : Type 0} (servers stored : List (ServerPort K)) (n : ℕ) (b : Bool) → stored ≡ servers
    → b ≡ list_any (λ s. s.port.id == n && s.port.has_value) stored
    → list_any (λ s. s.id == n && s.has_value) (map server_of (map server_part servers)) ≡ b
server_seen servers stored n b is tells =
    list_any-map server_of (λ s. s.id == n && s.has_value) (map server_part servers)
    ∙ list_any-map server_part (λ s. s.port.id == n && s.port.has_value) servers
    ∙ ap (list_any (λ s. s.port.id == n && s.port.has_value)) (sym is) ∙ sym tells

module _ {Q QH P PH K : Type 0} (s : State Q QH P PH K) (n : ℕ) where
  -- clients come first, then servers, then handles
  pub kind_client : is_client_value s n ≡ true → Some Kind.Client ≡ kind_at s n
  kind_client h = sym (ap (λ b. cond b (Some Kind.Client) (cond (is_server_value s n) (Some Kind.Server)
      (option_map kind_of (handle_at s n)))) h)

  -- where no client has the number
  pub not_client : is_client_value s n ≡ false → cond (is_server_value s n) (Some Kind.Server)
      (option_map kind_of (handle_at s n)) ≡ kind_at s n
  not_client h = sym (ap (λ b. cond b (Some Kind.Client) (cond (is_server_value s n) (Some Kind.Server)
      (option_map kind_of (handle_at s n)))) h)

  -- where a server has it
  pub kind_server : is_client_value s n ≡ false → is_server_value s n ≡ true → Some Kind.Server ≡ kind_at s n
  kind_server c h = sym (ap (λ b. cond b (Some Kind.Server) (option_map kind_of (handle_at s n))) h) ∙ not_client c

  -- where no port has it
  pub kind_handle : is_client_value s n ≡ false → is_server_value s n ≡ false → option_map kind_of (handle_at s n) ≡ kind_at s n
  kind_handle c h = sym (ap (λ b. cond b (Some Kind.Server) (option_map kind_of (handle_at s n))) h) ∙ not_client c
