-- What a list that fills a pool shows in the end.
use Rattle.std.proofs.Common.{◌≡◌, ℕ, zero, suc, ◌+◌, ◌*◌, ◌<◌, ◌≤◌, true, false, ◌&&◌, List, [], ◌∷◌, ◌++◌, map, length, Some, None, refl, sym, ap, ◌∙◌, subst, ⊎_elim, inl, inr, arith}
use Rattle.std.specs.Prelude.{◌⊎◌, slice_get, nat_le}
use Rattle.std.specs.List.{AllByRecursion}
use Rattle.std.proofs.Math.Nat.{mul_assoc, two-mul}
use Rattle.std.proofs.lemmas.Bool.{cases_lt, le-leb}
use Rattle.rr_table.proofs.Members.{any_there}
use Rattle.rr_slots.specs.declared.family.Family.TheVariants.{Typed}
use Rattle.rr_protocol.specs.declared.limits.Limits.{Limits}
use Rattle.rr_protocol.specs.declared.no_handler.NoHandler.{NoHandler}
use Rattle.rr_protocol.specs.Creation.{pool_size_of}
use Rattle.rr_protocol.specs.Limits.{hub_refusal, worst_case_requests}
use Rattle.rr_protocol.specs.declared.command.Command.{Command}
use Rattle.rr_protocol.specs.declared.reply.Reply.{Reply}
use Rattle.rr_protocol.specs.AnswerRule.{Event}
use Rattle.rr_protocol.specs.Run.{Run}
use Rattle.rr_protocol.specs.State.{empty_hub}
use Rattle.rr_laws.specs.Filling.{only_client}
use Rattle.rr_laws.specs.Unreduced.{asked_in}
use Rattle.rr_laws.specs.Whole.{creates_whole_client}
use Rattle.rr_laws.proofs.Tests.{positive}
use Rattle.rr_laws.proofs.WholePools.{never_runs_dry}
use Rattle.rr_run.specs.declared.least.filling.Filling.{Filling}
use Rattle.rr_run.specs.Filled.{IsFilled, IsFilledUp, IsNoted, IsSameHub}
use Rattle.rr_run.specs.Numbers.{IsZero, follow_strategy}
use Rattle.rr_run.specs.Least.{reduced_client, WantsMemory, ShowsPool}
use Rattle.rr_run.proofs.Pools.{run_length}

module _ {C R : Type 0} where
  -- two lists of one length as one of pairs
  paired : (cs : List C) (rs : List R) → length rs ≡ length cs
      → (events : List (C × R)) × (map (λ e. e.0) events ≡ cs) × (map (λ e. e.1) events ≡ rs)
  paired [] [] same = ([], refl, refl)
  paired (c ∷ cs) (r ∷ rs) same = let rest = paired cs rs (omega (arith, same)) in ((c, r) ∷ rest.0, ap (λ l. c ∷ l) rest.1, ap (λ l. r ∷ l) rest.2)
  paired [] (r ∷ rs) same = absurd (omega (arith, same))
  paired (c ∷ cs) [] same = absurd (omega (arith, same))

  -- and what stands at an index in both, with what stands before and after it
  parted : (cs : List C) (rs : List R) (i : ℕ) (c : C) (r : R) → length rs ≡ length cs → slice_get cs i ≡ Some c → slice_get rs i ≡ Some r
      → (before after : List (C × R)) × (map (λ e. e.0) (before ++ (c, r) ∷ after) ≡ cs) × (map (λ e. e.1) (before ++ (c, r) ∷ after) ≡ rs)
  parted [] rs i c r same e f = absurd (let g : None ≡ Some c = e in cc)
  parted (x ∷ cs) [] i c r same e f = absurd (let g : None ≡ Some r = f in cc)
  parted (x ∷ cs) (y ∷ rs) zero c r same e f =
      let g : Some x ≡ Some c = e in
      let h : Some y ≡ Some r = f in
      let first : c ≡ x = cc in
      let other : r ≡ y = cc in
      let rest = paired cs rs (omega (arith, same)) in
      ([], rest.0, ap (λ z. z ∷ map (λ e. e.0) rest.0) first ∙ ap (λ l. x ∷ l) rest.1, ap (λ z. z ∷ map (λ e. e.1) rest.0) other ∙ ap (λ l. y ∷ l) rest.2)
  parted (x ∷ cs) (y ∷ rs) (suc i) c r same e f =
      let rest = parted cs rs i c r (omega (arith, same)) e f in
      ((x, y) ∷ rest.0, rest.1, ap (λ l. x ∷ l) rest.2, ap (λ l. y ∷ l) rest.3)

-- what holds of each element holds of the one at an index
at_index : {X : Type 0} (P : X → Type 0) (xs : List X) (i : ℕ) (x : X) → AllByRecursion P xs → slice_get xs i ≡ Some x → P x
at_index P [] i x all e = absurd (let g : None ≡ Some x = e in cc)
at_index P (y ∷ ys) zero x all e = let g : Some y ≡ Some x = e in let is : y ≡ x = cc in subst P is all.0
at_index P (y ∷ ys) (suc i) x all e = at_index P ys i x all.1 e

module _ (f : Filling) (makes_hub : hub_refusal f.limits ≡ None) (noted : IsNoted f) where
  -- the first command creates the client with a whole pool, where the override's answer is as large
  creates_whole : (len : ℕ) → len ≡ 1 → worst_case_requests f.limits ≤ f.pool
      → creates_whole_client {T = ℕ} {H = ℕ} Typed f.limits only_client len (Command.CreateClient (reduced_client {K = NoHandler} f.pool), Reply.Created only_client) ≡ true
  creates_whole len one whole =
      ap (λ b. b && nat_le len 1) (le-leb (worst_case_requests f.limits) f.pool whole) ∙ ap (λ n. nat_le n 1) one

  -- then no loan is answered with want of memory
  none_wants : worst_case_requests f.limits ≤ f.pool → WantsMemory f.commands.items f.replies.items → ⊥
  none_wants whole (zero, len, command, reply, here, there, asks, wants) =
      let e : Some (Command.CreateClient (reduced_client f.pool)) ≡ Some command =
      ap (λ cs. slice_get cs 0) (sym noted.one_client.commands_are) ∙ here in
      let is : Command.CreateClient (reduced_client f.pool) ≡ command = cc in
      absurd (let g : None ≡ Some (only_client, len) = ap asked_in is ∙ asks in cc)
  none_wants whole (suc i, len, command, reply, here, there, asks, wants) =
      let one = noted.one_client in
      let lengths = run_length f.commands.items f.replies.items (empty_hub f.limits 0) f.runner noted.run in
      let parts = parted one.others one.other_replies i command reply
      (omega (arith, lengths, ap length one.commands_are, ap length one.replies_are))
      (ap (λ cs. slice_get cs (suc i)) (sym one.commands_are) ∙ here) (ap (λ rs. slice_get rs (suc i)) (sym one.replies_are) ∙ there) in
      let first : Event ℕ ℕ NoHandler = (Command.CreateClient (reduced_client f.pool), Reply.Created only_client) in
      let history : List (Event ℕ ℕ NoHandler) = (first ∷ parts.0) ++ (command, reply) ∷ parts.1 in
      let run : Run follow_strategy IsZero IsZero Typed (empty_hub f.limits 0) (map (λ e. e.0) history) (map (λ e. e.1) history) f.runner =
      subst (λ cs. Run follow_strategy IsZero IsZero Typed (empty_hub f.limits 0) cs (map (λ e. e.1) history) f.runner)
      (one.commands_are ∙ ap (λ cs. Command.CreateClient (reduced_client f.pool) ∷ cs) (sym parts.2))
      (subst (λ rs. Run follow_strategy IsZero IsZero Typed (empty_hub f.limits 0) f.commands.items rs f.runner)
      (one.replies_are ∙ ap (λ rs. Reply.Created only_client ∷ rs) (sym parts.3)) noted.run) in
      let short = at_index (λ c. (n len : ℕ) → asked_in c ≡ Some (n, len) → len ≡ 1) f.commands.items (suc i) command noted.short here
      only_client len asks in
      let dry = never_runs_dry follow_strategy IsZero IsZero Typed f.limits 0 makes_hub history f.runner run (first ∷ parts.0) parts.1 command
      reply only_client len refl asks
      (inl (any_there (creates_whole_client Typed f.limits only_client len) (first ∷ parts.0) 0 first refl (creates_whole len short whole))) in
      absurd (let e : false ≡ true = sym dry ∙ wants in cc)

  -- so a full pool, or one that took the worst case, shows which pool is enough
  pub shows : WantsMemory f.commands.items f.replies.items ⊎ (worst_case_requests f.limits ≤ f.pool)
      → ShowsPool f.limits f.pool f.commands.items f.replies.items
  shows end = record {
    run = (f.runner, noted.run);
    one_client = noted.one_client;
    least = (
      λ wants. ⊎_elim (λ below. below) (λ whole. absurd (none_wants whole wants)) (cases_lt f.pool (worst_case_requests f.limits)),
      λ below. ⊎_elim (λ wants. wants) (λ whole. absurd (omega (arith, below, whole))) end,
    );
  }

-- a pool that took the worst case is as large
pub took_worst_case : (f : Filling) → IsFilled f → hub_refusal f.limits ≡ None → f.live ≡ worst_case_requests f.limits
    → worst_case_requests f.limits ≤ f.pool
took_worst_case f filled makes_hub live =
    let p = positive f.limits makes_hub in
    enough (worst_case_requests f.limits) f.pool
    (more f.limits.max_loaned_requests f.limits.max_active_requests_per_client (f.limits.max_servers * 2 * f.limits.max_active_requests_per_client)
    p.loaned p.active) (subst (λ n. n ≤ pool_size_of (worst_case_requests f.limits) (Some f.pool)) live filled.holding.fits)
  where
    enough : (n pool : ℕ) → 2 ≤ n → n ≤ pool_size_of n (Some pool) → n ≤ pool
    enough n pool two fits = omega (arith, two, fits)

    more : (a b c : ℕ) → 0 < a → 0 < b → 2 ≤ a + b + c
    more a b c some other = omega (arith, some, other)

-- as many requests as all commands leave alive
worst_case_is : (servers active loans : ℕ) → servers * (active + active) + active + loans ≡ loans + active + servers * 2 * active
worst_case_is servers active loans =
    let twice : servers * 2 * active ≡ servers * (active + active) = mul_assoc servers 2 active ∙ ap (λ n. servers * n) (two-mul active) in
    omega (arith, twice)

-- what is shown once the pool is full, or all commands were carried out
pub fill_shows : (limits : Limits) (pool : ℕ) (old new : Filling) → hub_refusal limits ≡ None
    → IsFilled old × (old.live ≡ 0) × (old.limits ≡ limits) × (old.pool ≡ pool) → IsSameHub old new
    → IsFilledUp old new → ShowsPool limits pool new.commands.items new.replies.items
fill_shows limits pool old new makes_hub begun same end =
    subst (λ l. ShowsPool l pool new.commands.items new.replies.items) (same.limits ∙ begun.2)
    (subst (λ p. ShowsPool new.limits p new.commands.items new.replies.items) (same.pool ∙ begun.3) (⊎_elim
    (λ grown. shows new hub grown.filled.noted (inr (took_worst_case new grown.filled hub
    (omega (
      arith,
      grown.live,
      begun.1,
      worst_case_is old.limits.max_servers old.limits.max_active_requests_per_client old.limits.max_loaned_requests,
      ap worst_case_requests same.limits,
    )))))
    (λ full. shows new hub full.noted (inl full.wants))
    end))
  where
    hub : hub_refusal new.limits ≡ None
    hub = ap hub_refusal (same.limits ∙ begun.2) ∙ makes_hub
