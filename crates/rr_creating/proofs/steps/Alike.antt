-- Senders of one shape have the same queues, and a new one too.
use Rattle.std.proofs.Common.{◌≡◌, ◌<◌, ℕ, List, length}
use Rattle.rr_sender.specs.Senders.{Messages}
use Rattle.rr_store.specs.Creating.{IsNew}
use Rattle.rr_store.specs.KnownWaiting.{AreAlike, AreSentAgain}
use Rattle.rr_store.specs.Parts.{Sender}
use Rattle.rr_store.specs.Sound.{IsShaped}
use Rattle.rr_store.specs.Views.{sender_of}

module _ {T N H : Type 0} (senders : List (Sender T N H)) (receivers channels capacity : ℕ)
    (shaped : (l : ℕ) → l < length senders → IsShaped receivers channels capacity (sender_of l senders).messages) where
  pub shaped_alike : AreAlike receivers channels senders
  shaped_alike = record {
    rows = λ l there. (shaped l there).queues;
    columns = λ l r there at. (shaped l there).queue_channels r at;
  }

  pub shaped_again : {M U V : Type 0} (slots room : ℕ) (detail : U) (m : Messages M U V) → IsNew slots room receivers channels capacity detail m
      → AreSentAgain senders m.queues
  shaped_again slots room detail m new = (receivers, channels, new.queues, shaped_alike)
