-- What other slots and the queues show stays while one slot of one sender is written.
use Rattle.std.proofs.Common.{◌≡◌, ◌≢◌, ◌<◌, ℕ, List, [], find, map, length, refl, sym, ap, ◌∙◌, subst, ⊎_elim, arith}
use Rattle.std.specs.Prelude.{◌==◌, slice_index_or, slice_set}
use Rattle.std.specs.Option.{option_map_or}
use Rattle.std.proofs.lemmas.Bool.{cases_eq}
use Rattle.std.proofs.lemmas.List.{length-set, get_or-set_same, get_or-set_other}
use Rattle.rr_slots.specs.Pools.{Written, nothing_written}
use Rattle.rr_sender.specs.Senders.{Messages, all_entries, content_at, queue_at, times, with_changed_at, with_user_header}
use Rattle.rr_store.proofs.base.senders.Queues.{times_queue}
use Rattle.rr_store.proofs.base.lists.Replaced.{find_read, map_without}
use Rattle.rr_store.specs.Parts.{Sender}
use Rattle.rr_store.specs.Views.{no_sender, sender_of}
use Rattle.rr_store.specs.Rewrites.{SenderRewritten, SendersRewritten, outline_of}

module _ {T N H : Type 0} where
  -- in one slot another content and another user header may stand, and all else stays
  pub record IsWritten (before after : Messages T N H) (slot : ℕ) : Type 0 where
    pub rest : after ≡ record before { contents = after.contents; user_headers = after.user_headers }
    pub contents : length after.contents ≡ length before.contents
    pub user_headers : length after.user_headers ≡ length before.user_headers
    pub other_content : (i : ℕ) → i ≢ slot → content_at after i ≡ content_at before i
    pub other_header : (i : ℕ) → i ≢ slot → (spare : H)
        → slice_index_or after.user_headers i spare ≡ slice_index_or before.user_headers i spare

  -- so where the content of a slot changed
  pub content_written : (m : Messages T N H) (slot : ℕ) (change : Written T → Written T) → IsWritten m (with_changed_at m slot change) slot
  content_written m slot change = record {
    rest = refl;
    contents = length-set m.contents slot (change (content_at m slot));
    user_headers = refl;
    other_content = λ i other. get_or-set_other m.contents slot i (change (content_at m slot)) (nothing_written 0) other;
    other_header = λ i other spare. refl;
  }

  -- and where its user header became another
  pub header_written : (m : Messages T N H) (slot : ℕ) (header : H) → IsWritten m (with_user_header m slot header) slot
  header_written m slot header = record {
    rest = refl;
    contents = refl;
    user_headers = length-set m.user_headers slot header;
    other_content = λ i other. refl;
    other_header = λ i other spare. get_or-set_other m.user_headers slot i header spare other;
  }

module _ {T N H : Type 0} (senders : List (Sender T N H)) (sender : ℕ) where
  -- the messages of the sender
  abbrev before : Messages T N H
  before = (sender_of sender senders).messages

  module _ (new : Messages T N H) where
    -- the sender with other messages
    abbrev pub after_write : Sender T N H
    after_write = record (sender_of sender senders) { messages = new }

    -- the senders with it
    abbrev pub with_written : List (Sender T N H)
    with_written = slice_set senders sender after_write

  -- the senders after the content of a slot changed
  abbrev pub with_slot : ℕ → (Written T → Written T) → List (Sender T N H)
  with_slot slot change = with_written (with_changed_at before slot change)

  module _ (new : Messages T N H) (slot : ℕ) (written : IsWritten before new slot) (within : sender < length senders) where
    -- what stands in its place then, and elsewhere
    pub at_sender : sender_of sender (with_written new) ≡ after_write new
    at_sender = get_or-set_same senders sender (after_write new) no_sender within

    at_other : (l : ℕ) → l ≢ sender → sender_of l (with_written new) ≡ sender_of l senders
    at_other l other = get_or-set_other senders sender l (after_write new) no_sender other

    -- what is true of the changed sender and of others is true of each
    each_sender : (R : Sender T N H → Sender T N H → Type 0) → R (sender_of sender senders) (after_write new)
        → ((l : Sender T N H) → R l l) → (l : ℕ) → R (sender_of l senders) (sender_of l (with_written new))
    each_sender R its same l =
        ⊎_elim
        (λ e. subst (λ k. R (sender_of k senders) (sender_of k (with_written new))) (sym e)
        (subst (R (sender_of sender senders)) (sym at_sender) its))
        (λ n. subst (R (sender_of l senders)) (sym (at_other l n)) (same (sender_of l senders)))
        (cases_eq l sender)

    -- all but what stands in the slot stays
    pub slot_rewritten : SendersRewritten senders (with_written new)
    slot_rewritten = record {
      many = length-set senders sender (after_write new);
      each = each_sender SenderRewritten
          (record {
            outline = ap (λ (m : Messages T N H). outline_of (after_write m)) written.rest;
            contents = written.contents;
            user_headers = written.user_headers;
            marks = refl;
            none_more = λ i server fits none. none;
          })
          (λ l. record { outline = refl; contents = refl; user_headers = refl; marks = refl; none_more = λ i server fits none. none });
    }

    -- and who may answer
    pub marks_same : (l : ℕ) → (sender_of l (with_written new)).may_answer ≡ (sender_of l senders).may_answer
    marks_same = each_sender (λ a b. b.may_answer ≡ a.may_answer) refl (λ l. refl)

    -- what a slot shows
    module _ {M : Type 0} (show : Messages T N H → ℕ → M) (blind : (i : ℕ) → i ≢ slot → show new i ≡ show before i) where
      -- another slot of any sender
      pub shown_other : (l i : ℕ) → (l ≡ sender → i ≡ slot → ⊥)
          → show (sender_of l (with_written new)).messages i ≡ show (sender_of l senders).messages i
      shown_other l i other =
          ⊎_elim
          (λ e. ap (λ k. show (sender_of k (with_written new)).messages i) e ∙ ap (λ (x : Sender T N H). show x.messages i) at_sender
          ∙ blind i (other e)
          ∙ sym (ap (λ k. show (sender_of k senders).messages i) e))
          (λ n. ap (λ (x : Sender T N H). show x.messages i) (at_other l n))
          (cases_eq l sender)

      -- the queues show the same where the slot is in none of them
      pub waiting_same : times slot (all_entries before.queues) ≡ 0 → (owner receiver channel : ℕ)
          → option_map_or (λ l. map (show l.messages) (queue_at l.messages receiver channel)) (find (λ l. l.owner == owner)
          (with_written new)) []
          ≡ option_map_or (λ l. map (show l.messages) (queue_at l.messages receiver channel)) (find (λ l. l.owner == owner) senders) []
      waiting_same unseen owner receiver channel =
          find_read (λ l. l.owner == owner) (λ l. map (show l.messages) (queue_at l.messages receiver channel)) [] senders sender
          (after_write new) no_sender refl
          (ap (λ (m : Messages T N H). map (show new) (queue_at m receiver channel)) written.rest
          ∙ map_without (show before) (show new) slot blind (queue_at before receiver channel)
          (omega (arith, unseen, times_queue before slot receiver channel)))
