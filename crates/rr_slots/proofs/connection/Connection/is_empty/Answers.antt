use Rattle.std.proofs.Common.{◌≡◌, []}
use Rattle.std.proofs.lemmas.List.Elements.{All-map}
use Rattle.rr_slots.proofs.Queues.{empty-buffers}
use Rattle.rr_slots.proofs.connection.Connection.is_empty.Goals as goal

pub returns : goal.returns
returns c =
    let told = rw c.as_slice.ensures.value at c.are_empty.ensures in
    rw (← c.self.view_is) (
      λ empty. All-map (λ queue. queue ≡ []) (λ buffer. buffer.items) c.self.inside.queues.items (told.0 empty),
      λ empty. told.1 (empty-buffers c.self.inside.queues.items empty),
    )
