-- Senders of which slots that lost their last use are emptied.
use Rattle.std.proofs.Common.{ℕ, zero, suc, List, [], ◌∷◌, map, refl, sym, ◌∙◌}
use Rattle.std.specs.Prelude.{slice_set}
use Rattle.std.proofs.lemmas.List.{length-set, length-map}
use Rattle.rr_sender.specs.Senders.{Messages, emptied_among, is_left}
use Rattle.rr_sender.proofs.EmptiedLaws.{length-emptied_where, used_stays}
use Rattle.rr_store.specs.declared.details.RequestDetails.{RequestDetails}
use Rattle.rr_store.specs.declared.details.ResponseDetails.{ResponseDetails}
use Rattle.rr_store.specs.Emptying.{MessagesEmptied, SenderEmptied, SendersEmptied, PartsEmptied}
use Rattle.rr_store.specs.Parts.{Parts, Sender}
use Rattle.rr_store.specs.Views.{no_sender, sender_of}

module _ {T N H : Type 0} where
  -- messages that stay
  pub messages_stay : (m : Messages T N H) → MessagesEmptied m m
  messages_stay m = record { rest = refl; many = refl; used = λ slot h. refl }

  -- some slots that nothing uses are emptied
  pub among_emptied : (slots : List ℕ) (m : Messages T N H) → MessagesEmptied m (emptied_among slots m)
  among_emptied slots m = record {
    rest = refl;
    many = length-emptied_where (is_left slots m) m.contents;
    used = λ slot h. used_stays m slots slot h;
  }

  -- a sender that stays
  pub sender_stays : (l : Sender T N H) → SenderEmptied l l
  sender_stays l = record { rest = refl; messages = messages_stay l.messages }

  pub senders_stay : (senders : List (Sender T N H)) → SendersEmptied senders senders
  senders_stay senders = record { many = refl; each = λ l. sender_stays (sender_of l senders) }

  -- one of the senders became another
  pub one_emptied : (senders : List (Sender T N H)) (sender : ℕ) (before after : Sender T N H) → SenderEmptied before after
      → SendersEmptied (slice_set senders sender before) (slice_set senders sender after)
  one_emptied senders sender before after emptied = record {
    many = length-set senders sender after ∙ sym (length-set senders sender before);
    each = each senders sender;
  }
    where
      each : (senders : List (Sender T N H)) (sender l : ℕ)
          → SenderEmptied (sender_of l (slice_set senders sender before)) (sender_of l (slice_set senders sender after))
      each [] sender l = sender_stays no_sender
      each (x ∷ senders) zero zero = emptied
      each (x ∷ senders) zero (suc l) = sender_stays (sender_of l senders)
      each (x ∷ senders) (suc sender) zero = sender_stays x
      each (x ∷ senders) (suc sender) (suc l) = each senders sender l

  -- each of them did
  pub each_emptied : (f g : Sender T N H → Sender T N H) → ((l : Sender T N H) → SenderEmptied (f l) (g l)) → (senders : List (Sender T N H))
      → SendersEmptied (map f senders) (map g senders)
  each_emptied f g emptied senders = record {
    many = length-map senders g ∙ sym (length-map senders f);
    each = each senders;
  }
    where
      each : (senders : List (Sender T N H)) (l : ℕ) → SenderEmptied (sender_of l (map f senders)) (sender_of l (map g senders))
      each [] l = sender_stays no_sender
      each (x ∷ senders) zero = emptied x
      each (x ∷ senders) (suc l) = each senders l

module _ {Q QH P PH K : Type 0} (p : Parts Q QH P PH K) where
  -- a core of which the sender of some requests is emptied, or that of some responses
  pub requests_emptied : (senders : List (Sender Q RequestDetails QH)) (sender : ℕ) (before after : Sender Q RequestDetails QH)
      → SenderEmptied before after
      → PartsEmptied (record p { client_senders = slice_set senders sender before }) (record p { client_senders = slice_set senders sender after })
  requests_emptied senders sender before after e = record {
    rest = refl;
    client_senders = one_emptied senders sender before after e;
    server_senders = senders_stay p.server_senders;
  }

  pub responses_emptied : (senders : List (Sender P ResponseDetails PH)) (sender : ℕ) (before after : Sender P ResponseDetails PH)
      → SenderEmptied before after
      → PartsEmptied (record p { server_senders = slice_set senders sender before }) (record p { server_senders = slice_set senders sender after })
  responses_emptied senders sender before after e = record {
    rest = refl;
    client_senders = senders_stay p.client_senders;
    server_senders = one_emptied senders sender before after e;
  }
