-- A side with a port more.
use Rattle.std.proofs.Common.{◌≡◌, ◌<◌, ℕ, List, [], ◌∷◌, ◌++◌, length, map, get_or, sym, ap, ◌∙◌, subst}
use Rattle.std.specs.Prelude.{slice_set}
use Rattle.std.proofs.lemmas.List.{map-append}
use Rattle.rr_store.specs.declared.port.LeftPort.{LeftPort}
use Rattle.rr_store.specs.declared.port.OwnedSender.{OwnedSender}
use Rattle.rr_store.specs.Parts.{Sender}
use Rattle.rr_store.specs.Ports.{sender_part}
use Rattle.rr_store.specs.Sides.{SideParts}
use Rattle.rr_store.specs.Views.{sender_of}
use Rattle.rr_store.proofs.base.lookups.Asking.{sender_is, senders_many}

-- a sender is there by a number that was told
pub sender_read : {B N H T : Type 0} (items : List (OwnedSender B N H T)) {sender told : ℕ} → sender < length (map sender_part items)
    → told ≡ sender → told < length items
sender_read items {sender} there is = subst (λ n. n < length items) (sym is) (senders_many items sender there)

-- the row of a sender that was read by a number that was told
pub row_is : {B N H T : Type 0} (items : List (OwnedSender B N H T)) (sender told : ℕ) → sender < length (map sender_part items)
    → told ≡ sender → (x : OwnedSender B N H T) → x ≡ get_or items told x
    → (sender_of sender (map sender_part items)).row ≡ x.row
row_is items sender told there is x read =
    ap (λ n. (sender_of n (map sender_part items)).row) (sym is)
    ∙ ap (λ (l : Sender _ _ _). l.row)
    (sender_is items told x (sender_read items there is) read)

-- what is made of numbers that were told
new_is : {X : Type 0} (new : ℕ → ℕ → ℕ → X) {a a' b b' n n' : ℕ} → a ≡ a' → b ≡ b' → n ≡ n' → new a b n ≡ new a' b' n'
new_is new {a} {a'} {b} {b'} {n} {n'} first second third =
    ap (λ x. new x b n) first ∙ ap (λ x. new a' x n) second ∙ ap (new a' b') third

-- one made of numbers that were told, in a place that was
pub new_set : {X : Type 0} (xs : List X) (new : ℕ → ℕ → ℕ → X) {i i' a a' b b' n n' : ℕ} → i ≡ i' → a ≡ a' → b ≡ b' → n ≡ n'
    → slice_set xs i (new a b n) ≡ slice_set xs i' (new a' b' n')
new_set xs new {i} {i'} {a} {a'} {b} {b'} {n} {n'} place first second third =
    ap (λ x. slice_set xs x (new a b n)) place ∙ ap (slice_set xs i') (new_is new first second third)

-- and behind all others of a side
pub new_last : {B N H T : Type 0} {items before after : List (OwnedSender B N H T)} (x : OwnedSender B N H T)
    → after ≡ before ++ x ∷ [] → before ≡ items → (new : ℕ → ℕ → ℕ → Sender T N H) {a' b' n' : ℕ}
    → sender_part x ≡ new x.owner x.row x.receiver → x.owner ≡ a' → x.row ≡ b' → x.receiver ≡ n'
    → map sender_part after ≡ map sender_part items ++ new a' b' n' ∷ []
new_last {items} {before} x pushed kept new is first second third =
    ap (map sender_part) (pushed ∙ ap (λ xs. xs ++ x ∷ []) kept) ∙ map-append sender_part items (x ∷ [])
    ∙ ap (λ y. map sender_part items ++ y ∷ []) (is ∙ new_is new first second third)

-- a side of which these parts are as told
pub changed : {T N H P : Type 0} (s : SideParts T N H P) {senders told_senders : List (Sender T N H)} {ports told_ports : List P}
    {left told_left : List LeftPort} {room told_room : ℕ} → senders ≡ told_senders → ports ≡ told_ports → left ≡ told_left
    → room ≡ told_room
    → record s { senders = senders; ports = ports; left = left; room = room }
    ≡ record s { senders = told_senders; ports = told_ports; left = told_left; room = told_room }
changed s {senders} {told_senders} {ports} {told_ports} {left} {told_left} {room} first second third fourth =
    ap (λ x. record s { senders = x; ports = ports; left = left; room = room }) first
    ∙ ap (λ x. record s { senders = told_senders; ports = x; left = left; room = room }) second
    ∙ ap (λ x. record s { senders = told_senders; ports = told_ports; left = x; room = room }) third
    ∙ ap (λ x. record s { senders = told_senders; ports = told_ports; left = told_left; room = x }) fourth
