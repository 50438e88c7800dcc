-- The ports of one side and their senders, without one port.
use Rattle.std.proofs.Common.{◌≡◌, ◌≢◌, ◌<◌, ℕ, List, [], ◌∷◌, ◌++◌, Some, length, map, sym, ap, ◌∙◌, subst, arith}
use Rattle.std.specs.Prelude.{slice_get}
use Rattle.std.specs.List.{remove}
use Rattle.std.proofs.lemmas.List.Edits.{length-remove}
use Rattle.std.proofs.lemmas.Option.{slice_get_within}
use Rattle.rr_store.specs.declared.port.LeftPort.{LeftPort}
use Rattle.rr_store.specs.Parts.{Connected, Sender}
use Rattle.rr_store.specs.Sound.{HasSenders, HaveLeft}
use Rattle.rr_store.specs.Views.{sender_of}
use Rattle.rr_store.proofs.base.lists.Removed.{Stood, elsewhere, map-remove, one_place, rises, stood}
use Rattle.rr_store.proofs.base.lists.Tallies.{snoc_cases}
use Rattle.rr_store.proofs.base.senders.Numbered.{numbered_once}

module _ {T N H K : Type 0} (next ports : ℕ) (cs : List (Connected K)) (senders : List (Sender T N H))
    (n : HasSenders next ports cs senders) (index : ℕ) (port : Connected K) (at_port : slice_get cs index ≡ Some port) where
  within : index < length cs
  within = slice_get_within cs index port at_port

  was : (i : ℕ) (c : Connected K) → slice_get (remove cs index) i ≡ Some c → Stood cs index i c
  was i c at = stood cs index within i c at

  -- each other port has its sender
  one_gone : HasSenders next ports (remove cs index) senders
  one_gone = record {
    few = omega (arith, n.few, length-remove cs index within);
    own = λ i c at. let s = was i c at in n.own s.place c s.at;
    received = λ i c at. let s = was i c at in n.received s.place c s.at;
    valued = λ i c at. let s = was i c at in n.valued s.place c s.at;
    owned_once = n.owned_once;
    numbered = n.numbered;
    placed = λ i c at. let s = was i c at in n.placed s.place c s.at;
    receivers_once = λ i j c d at there same.
        let s = was i c at in
        let t = was j d there in
        one_place cs index within i j c d s t (n.receivers_once s.place t.place c d s.at t.at same);
    rising = λ i j c d at there less.
        let s = was i c at in
        let t = was j d there in
        n.rising s.place t.place c d s.at t.at (rises cs index within i j c d s t less);
  }

  -- no other port has its sender
  others_apart : (i : ℕ) (c : Connected K) → slice_get (remove cs index) i ≡ Some c → port.sender ≢ c.sender
  others_apart i c at same =
      let s = was i c at in
      let own = n.own s.place c s.at in
      let its = n.own index port at_port in
      elsewhere cs index within i c s
      (numbered_once n s.place index c port s.at at_port
      (sym own.1 ∙ ap (λ l. (sender_of l senders).owner) (sym same) ∙ its.1))

  -- and it is one that left
  one_left : (left : List LeftPort) → HaveLeft cs left senders
      → HaveLeft (remove cs index) (left ++ record { number = port.port.id; sender = port.sender } ∷ []) senders
  one_left left has = record {
    own = λ i l at. snoc_cases left last i l at (λ before h. has.own i l before)
        (λ end is. subst (λ (l : LeftPort). (l.sender < length senders) × ((sender_of l.sender senders).owner ≡ l.number)) is
        (let own = n.own index port at_port in (own.0, own.1)));
    apart = λ i j l c at there. snoc_cases left last i l at (λ before h. let s = was j c there in has.apart i s.place l c before s.at)
        (λ end is. subst (λ (l : LeftPort). l.sender ≢ c.sender) is (others_apart j c there));
    once = λ i j l m at there same. snoc_cases left last i l at
        (λ before h. snoc_cases left last j m there
        (λ also g. has.once i j l m before also same)
        (λ end is. absurd (has.apart i index l port before at_port (same ∙ sym (ap (λ (l : LeftPort). l.sender) is)))))
        (λ end is. snoc_cases left last j m there
        (λ also g. absurd (has.apart j index m port also at_port (sym same ∙ sym (ap (λ (l : LeftPort). l.sender) is))))
        (λ too also. end ∙ sym too));
  }
    where
      last : LeftPort
      last = record { number = port.port.id; sender = port.sender }

module _ {T N H K C : Type 0} (connected : C → Connected K) (next ports : ℕ) (cs : List C) (senders : List (Sender T N H))
    (n : HasSenders next ports (map connected cs) senders) (index : ℕ) (port : C)
    (at_port : slice_get (map connected cs) index ≡ Some (connected port)) where
  -- the same of what ports are read of
  pub port_gone : HasSenders next ports (map connected (remove cs index)) senders
  port_gone = subst (λ (cs : List (Connected K)). HasSenders next ports cs senders) (sym (map-remove connected cs index))
      (one_gone next ports (map connected cs) senders n index (connected port) at_port)

  pub port_left : (left : List LeftPort) → HaveLeft (map connected cs) left senders
      → HaveLeft (map connected (remove cs index))
      (left ++ record { number = (connected port).port.id; sender = (connected port).sender } ∷ []) senders
  port_left left has =
      subst (λ (cs : List (Connected K)). HaveLeft cs (left ++ record
      { number = (connected port).port.id; sender = (connected port).sender } ∷ []) senders) (sym (map-remove connected cs index))
      (one_left next ports (map connected cs) senders n index (connected port) at_port left has)
