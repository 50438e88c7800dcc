-- A slot of a sender is held once less, and what the sender counts may change.
use Rattle.std.proofs.Common.{◌≡◌, ◌<◌, ◌+◌, ◌-◌, ℕ, Bool, List, [], length, map, refl, sym, ap, ◌∙◌, ⊎_elim, arith}
use Rattle.std.specs.Prelude.{◌==◌, ◌&&◌, slice_index, slice_index_or, slice_set}
use Rattle.std.proofs.lemmas.Bool.{cases_eq, eq-eqb, ne_eqb}
use Rattle.std.proofs.lemmas.List.{get_or-set_same, get_or-set_other, length-set}
use Rattle.rr_table.specs.Maps.{mark}
use Rattle.rr_sender.specs.Senders.{Messages}
use Rattle.rr_store.specs.Parts.{Sender}
use Rattle.rr_store.specs.Views.{sender_of, no_sender}
use Rattle.rr_store.specs.Frames.{SenderAlike, SendersAlike}
use Rattle.rr_store.proofs.base.frames.Frames.{senders_set}
use Rattle.rr_store.proofs.base.senders.Counted.{its_mark, other_mark}
use Rattle.rr_store.proofs.base.lists.Replaced.{set_alike, map-set_alike}
use Rattle.rr_store.proofs.base.lookups.Shown.{held_within}
use Rattle.rr_releasing.proofs.laws.Uncounted.{bare_sender}

module _ {T N H : Type 0} (senders : List (Sender T N H)) (sender slot : ℕ) (borrowed : List (List ℕ)) (loans pendings : ℕ) where
  abbrev pub m : Messages T N H
  m = (sender_of sender senders).messages

  -- the sender then, with other counts of what was received, of loans and of pending responses
  abbrev pub less : Sender T N H
  less = record (sender_of sender senders) {
    loans = loans;
    pendings = pendings;
    messages = record m { held = slice_set m.held slot (slice_index m.held slot - 1); borrowed = borrowed };
  }

  -- every sender then
  abbrev pub senders_less : List (Sender T N H)
  senders_less = slice_set senders sender less

  -- what is the same of the new sender is the same of each
  pub same_of : {Y : Type 0} (f : Sender T N H → Y) → f less ≡ f (sender_of sender senders) → (k : ℕ)
      → f (sender_of k senders_less) ≡ f (sender_of k senders)
  same_of f same k = set_alike senders sender less no_sender f same k

  -- another sender is as it was
  pub there_is : (k : ℕ) → (sender ≡ k → ⊥) → sender_of k senders_less ≡ sender_of k senders
  there_is k n = get_or-set_other senders sender k less no_sender (λ e. n (sym e))

  -- but for counts, the senders are as they were
  pub bare_less : map bare_sender senders_less ≡ map bare_sender senders
  bare_less = map-set_alike bare_sender senders sender less no_sender refl

module _ {T N H : Type 0} (senders : List (Sender T N H)) (sender slot : ℕ) (borrowed : List (List ℕ)) (loans pendings : ℕ)
    (many : length borrowed ≡ length (sender_of sender senders).messages.borrowed)
    (each : (r : ℕ) → length (slice_index_or borrowed r []) ≡ length (slice_index_or (sender_of sender senders).messages.borrowed r []))
  where
    as_many : length (less senders sender slot borrowed loans pendings).messages.held ≡ length (sender_of sender senders).messages.held
    as_many = length-set (m senders sender slot borrowed loans pendings).held slot _

    less_alike : SenderAlike (sender_of sender senders) (less senders sender slot borrowed loans pendings)
    less_alike = record {
      owner = refl;
      row = refl;
      receiver = refl;
      has_value = refl;
      slots = as_many;
      room = refl;
      marks = refl;
      shaped = λ r n k h. record {
        contents = h.contents ∙ sym as_many;
        details = h.details ∙ sym as_many;
        user_headers = h.user_headers ∙ sym as_many;
        queues = h.queues;
        borrowed = many ∙ h.borrowed;
        queue_channels = h.queue_channels;
        borrowed_channels = λ i l. each i ∙ h.borrowed_channels i l;
        capacity_is = h.capacity_is;
        within = h.within;
        inside = λ j waits. omega (arith, h.inside j waits, as_many);
      };
    }

    -- the senders are of the same sizes
    pub less_senders : SendersAlike senders (senders_less senders sender slot borrowed loans pendings)
    less_senders = senders_set senders sender (less senders sender slot borrowed loans pendings) less_alike

module _ {T N H : Type 0} (senders : List (Sender T N H)) (sender slot : ℕ) (borrowed : List (List ℕ)) (loans pendings : ℕ)
    (there : sender < length senders)
    (some : 0 < slice_index (sender_of sender senders).messages.held slot) where
  abbrev old : List ℕ
  old = (sender_of sender senders).messages.held

  abbrev new : Sender T N H
  new = less senders sender slot borrowed loans pendings

  abbrev after : List (Sender T N H)
  after = senders_less senders sender slot borrowed loans pendings

  -- the sender is the new one
  pub here_is : sender_of sender after ≡ new
  here_is = get_or-set_same senders sender new no_sender there

  -- one slot is held once less
  pub held_less : (k j : ℕ) → slice_index (sender_of k after).messages.held j + mark (sender == k && slot == j) ≡ slice_index
      (sender_of k senders).messages.held j
  held_less k j =
      ⊎_elim
      (λ e. let now : slice_index (sender_of k after).messages.held j ≡ slice_index new.messages.held j = ap
      (λ (x : Sender T N H). slice_index x.messages.held j) (sym (ap (λ k. sender_of k after) e) ∙ here_is) in
      let was : slice_index (sender_of k senders).messages.held j ≡ slice_index old j = sym
      (ap (λ k. slice_index (sender_of k senders).messages.held j) e) in
      ⊎_elim
      (λ f. omega (
        arith,
        now,
        was,
        some,
        ap (λ b. slice_index new.messages.held b) (sym f),
        get_or-set_same old slot (slice_index old slot - 1) 0 (held_within old slot some),
        ap (λ b. slice_index old b) f,
        ap mark (λ i. eq-eqb sender k e i && eq-eqb slot j f i),
      ))
      (λ n. omega (
        arith,
        now,
        was,
        get_or-set_other old slot j (slice_index old slot - 1) 0 (λ f. n (sym f)),
        ap mark (λ i. eq-eqb sender k e i && ne_eqb slot j n i),
      ))
      (cases_eq slot j))
      (λ n. omega (
        arith,
        ap (λ (x : Sender T N H). slice_index x.messages.held j) (there_is senders sender slot borrowed loans pendings k n),
        ap (λ b. mark (b && slot == j)) (ne_eqb sender k n),
      ))
      (cases_eq sender k)

  -- a count of the sender's has one less if the handle was counted in it, and no other sender's has
  pub count_less : (count : Sender T N H → ℕ) (counts : Bool) → count new + mark counts ≡ count (sender_of sender senders) → (k : ℕ)
      → count (sender_of k after) + mark (counts && sender == k) ≡ count (sender_of k senders)
  count_less count counts fewer k =
      ⊎_elim
      (λ e. omega (
        arith,
        fewer,
        ap count (sym (ap (λ k. sender_of k after) e) ∙ here_is),
        ap (λ k. count (sender_of k senders)) e,
        its_mark counts sender k e,
      ))
      (λ n. omega (
        arith,
        ap count (there_is senders sender slot borrowed loans pendings k n),
        other_mark counts sender k n,
      ))
      (cases_eq sender k)
