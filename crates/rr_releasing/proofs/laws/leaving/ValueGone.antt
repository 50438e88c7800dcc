-- Ports and their senders as the value of one port goes.
use Rattle.std.proofs.Common.{◌≡◌, ◌≢◌, ◌<◌, ℕ, List, Some, length, refl, sym, ap, ◌∙◌, subst, arith}
use Rattle.std.specs.Prelude.{false, slice_get, slice_set}
use Rattle.std.proofs.lemmas.List.{get_or-set_same, get_or-set_other, length-set}
use Rattle.rr_store.specs.declared.port.LeftPort.{LeftPort}
use Rattle.rr_store.specs.Leaving.{valueless}
use Rattle.rr_store.specs.Parts.{Connected, Sender}
use Rattle.rr_store.specs.Sound.{HasSenders, HaveLeft}
use Rattle.rr_store.specs.Views.{no_sender, sender_of}
use Rattle.rr_store.proofs.base.frames.Frames.{before_it, ports_set}
use Rattle.rr_store.proofs.base.lists.Replaced.{set_alike, set_cases}
use Rattle.rr_store.proofs.base.senders.Numbered.{numbered_once}

-- a port without its value
abbrev pub valueless_port : {K : Type 0} → Connected K → Connected K
valueless_port k = record k { port = record k.port { has_value = false } }

module _ {T N H K : Type 0} (next most : ℕ) (ports : List (Connected K)) (senders : List (Sender T N H))
    (n : HasSenders next most ports senders) (index : ℕ) (port : Connected K) (at_port : slice_get ports index ≡ Some port) where
  abbrev pub after_ports : List (Connected K)
  after_ports = slice_set ports index (valueless_port port)

  abbrev own : Sender T N H
  own = sender_of port.sender senders

  abbrev pub after_senders : List (Sender T N H)
  after_senders = slice_set senders port.sender (valueless own)

  -- but for its value each port is as it was
  was : (i : ℕ) (k : Connected K) → slice_get after_ports i ≡ Some k → (j : Connected K) × (slice_get ports i ≡ Some j)
      × (valueless_port j ≡ valueless_port k)
  was = before_it valueless_port ports after_ports (ports_set valueless_port ports index port (valueless_port port) at_port refl)

  -- and so is each sender
  same : {Y : Type 0} (f : Sender T N H → Y) → f (valueless own) ≡ f own → (l : ℕ)
      → f (sender_of l after_senders) ≡ f (sender_of l senders)
  same f e l = set_alike senders port.sender (valueless own) no_sender f e l

  many : length after_senders ≡ length senders
  many = length-set senders port.sender (valueless own)

  there : (l : ℕ) → l < length after_senders → l < length senders
  there l h = omega (arith, h, many)

  -- a sender knows whether the value of its port lives
  valued : (i : ℕ) (k : Connected K) → slice_get after_ports i ≡ Some k → (sender_of k.sender after_senders).has_value ≡ k.port.has_value
  valued i k at = set_cases ports index (valueless_port port) i k at
      (λ e is.
      let Knows : Connected K → Type 0 = λ k. (sender_of k.sender after_senders).has_value ≡ k.port.has_value in
      subst Knows is (ap (λ (x : Sender T N H). x.has_value)
      (get_or-set_same senders port.sender (valueless own) no_sender (n.own index port at_port).0)))
      (λ other before.
      let apart : k.sender ≢ port.sender = λ e. other (numbered_once n i index k port before at_port
      (sym (n.own i k before).1 ∙ ap (λ l. (sender_of l senders).owner) e ∙ (n.own index port at_port).1)) in
      ap (λ (x : Sender T N H). x.has_value) (get_or-set_other senders port.sender k.sender (valueless own) no_sender apart)
      ∙ n.valued i k before)

  pub senders_valueless : HasSenders next most after_ports after_senders
  senders_valueless = record {
    few = omega (arith, n.few, length-set ports index (valueless_port port));
    own = λ i k at. let j = was i k at in let o = n.own i j.0 j.1 in
        subst (λ (k : Connected K). (k.sender < length after_senders) × ((sender_of k.sender after_senders).owner ≡ k.port.id)
        × (length (sender_of k.sender after_senders).messages.held ≡ k.port.pool_size)
        × ((sender_of k.sender after_senders).messages.room ≡ k.port.initial_max_slice_len)) j.2 (
          omega (arith, o.0, many),
          same (λ x. x.owner) refl j.0.sender ∙ o.1,
          same (λ x. length x.messages.held) refl j.0.sender ∙ o.2,
          same (λ x. x.messages.room) refl j.0.sender ∙ o.3,
        );
    received = λ i k at. let j = was i k at in
        subst (λ (k : Connected K). (sender_of k.sender after_senders).receiver ≡ k.receiver) j.2
        (same (λ x. x.receiver) refl j.0.sender ∙ n.received i j.0 j.1);
    valued = valued;
    owned_once = λ i j h g e. n.owned_once i j (there i h) (there j g) (sym (same (λ x. x.owner) refl i) ∙ e ∙ same (λ x. x.owner) refl j);
    numbered = λ l h. omega (arith, n.numbered l (there l h), same (λ x. x.owner) refl l);
    placed = λ i k at. let j = was i k at in subst (λ (k : Connected K). k.receiver < most) j.2 (n.placed i j.0 j.1);
    receivers_once = λ i j k m at also e. let x = was i k at in let y = was j m also in
        n.receivers_once i j x.0 y.0 x.1 y.1
        (ap (λ (k : Connected K). k.receiver) x.2 ∙ e ∙ ap (λ (k : Connected K). k.receiver) (sym y.2));
    rising = λ i j k m at also less. let x = was i k at in let y = was j m also in omega (
      arith,
      n.rising i j x.0 y.0 x.1 y.1 less,
      ap (λ (k : Connected K). k.port.id) x.2,
      ap (λ (k : Connected K). k.port.id) y.2,
    );
  }

  -- ports that left are as they were
  pub left_valueless : (left : List LeftPort) → HaveLeft ports left senders → HaveLeft after_ports left after_senders
  left_valueless left has = record {
    own = λ i l at. let o = has.own i l at in (omega (arith, o.0, many), same (λ x. x.owner) refl l.sender ∙ o.1);
    apart = λ i j l k at also e. let x = was j k also in
        has.apart i j l x.0 at x.1 (e ∙ ap (λ (k : Connected K). k.sender) (sym x.2));
    once = has.once;
  }
