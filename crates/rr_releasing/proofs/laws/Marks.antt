-- A server may not answer any more: what stays of the senders.
use Rattle.std.proofs.Common.{◌≡◌, ◌<◌, ◌+◌, ◌*◌, ℕ, List, length, refl, sym, ap, ◌∙◌, subst, ⊎_elim}
use Rattle.std.specs.Prelude.{◌==◌, ◌&&◌, not}
use Rattle.std.proofs.lemmas.Bool.{cases_eq, cases_lt, eq-eqb, ne_eqb}
use Rattle.std.proofs.lemmas.List.{get_or-set_same, get_or-set_other, length-set}
use Rattle.rr_store.specs.Loaning.{with_sender_at}
use Rattle.rr_store.specs.Parts.{Sender}
use Rattle.rr_store.specs.Releasing.{without_mark}
use Rattle.rr_store.specs.Rewrites.{SenderRewritten, SendersRewritten}
use Rattle.rr_store.specs.Views.{no_sender, no_server, sender_of, is_marked}
use Rattle.rr_store.proofs.base.lists.Replaced.{set_past}
use Rattle.rr_store.proofs.releasing.active.MayAnswer.{mark_cleared, not_marked, true_stays}

module _ {T N H : Type 0} (senders : List (Sender T N H)) (sender index : ℕ) where
  -- the senders without the mark
  abbrev pub cleared : List (Sender T N H)
  cleared = with_sender_at senders sender (without_mark index)

  abbrev own : Sender T N H
  own = sender_of sender senders

  own_rewritten : SenderRewritten own (without_mark index own)
  own_rewritten = record {
    outline = refl;
    contents = refl;
    user_headers = refl;
    marks = length-set own.may_answer index no_server;
    none_more = λ i server fits none. not_marked own.may_answer index i server fits none;
  }

  unwritten : (l : Sender T N H) → SenderRewritten l l
  unwritten l = record { outline = refl; contents = refl; user_headers = refl; marks = refl; none_more = λ i server fits none. none }

  -- all but the mark stays
  pub mark_rewritten : SendersRewritten senders cleared
  mark_rewritten = record {
    many = length-set senders sender (without_mark index own);
    each = λ l. ⊎_elim
        (λ e. ⊎_elim
        (λ h. let R : ℕ → Type 0 = λ k. SenderRewritten (sender_of k senders) (sender_of k cleared) in
        let S : Sender T N H → Type 0 = SenderRewritten own in
        subst R (sym e) (subst S (sym (get_or-set_same senders sender (without_mark index own) no_sender h)) own_rewritten))
        (λ h. let S : List (Sender T N H) → Type 0 = λ ls. SenderRewritten (sender_of l senders) (sender_of l ls) in
        subst S (sym (set_past senders sender (without_mark index own) h)) (unwritten (sender_of l senders)))
        (cases_lt sender (length senders)))
        (λ n. let S : Sender T N H → Type 0 = SenderRewritten (sender_of l senders) in
        subst S (sym (get_or-set_other senders sender l (without_mark index own) no_sender n)) (unwritten (sender_of l senders)))
        (cases_eq l sender);
  }

  -- that mark is gone, and every other as it was
  pub marked_then : sender < length senders → (receivers l i r server : ℕ) → server < no_server
      → is_marked receivers (sender_of l cleared).may_answer i r server
      ≡ (is_marked receivers (sender_of l senders).may_answer i r server && not (sender == l && index == (i * receivers + r)))
  marked_then there receivers l i r server fits =
      ⊎_elim
      (λ e. ap (λ k. is_marked receivers (sender_of k cleared).may_answer i r server) (sym e)
      ∙ ap (λ (x : Sender T N H). is_marked receivers x.may_answer i r server)
      (get_or-set_same senders sender (without_mark index own) no_sender there)
      ∙ mark_cleared own.may_answer index (i * receivers + r) server fits
      ∙ ap (λ k. is_marked receivers (sender_of k senders).may_answer i r server && not (index == (i * receivers + r))) e
      ∙ sym (ap (λ b. is_marked receivers (sender_of l senders).may_answer i r server && not (b && index == (i * receivers + r)))
      (eq-eqb sender l e)))
      (λ n. ap (λ (x : Sender T N H). is_marked receivers x.may_answer i r server)
      (get_or-set_other senders sender l (without_mark index own) no_sender (λ e. n (sym e)))
      ∙ true_stays (is_marked receivers (sender_of l senders).may_answer i r server)
      ∙ sym (ap (λ b. is_marked receivers (sender_of l senders).may_answer i r server && not (b && index == (i * receivers + r)))
      (ne_eqb sender l n)))
      (cases_eq sender l)
