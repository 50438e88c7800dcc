use Rattle.std.proofs.Common.{◌≡◌, ◌+◌, ◌*◌, ◌^◌, [], ◌∷◌, ◌++◌, length, rules, ap, ◌∙◌}
use Rattle.rr_locked.specs.Machine.{HubReply}
use Rattle.rr_locked.specs.Receipts.{receipt, entry_number}
use Rattle.rr_locked.proofs.Growing.{book-more, seat-more}
use Rattle.rr_locked.proofs.book.Book.apply.Goals as goal

pub invariant_of-self-2 : goal.invariant_of-self-2
invariant_of-self-2 g c =
    let h = c.self.inside.history.items in
    let command = c.args.command in
    let at : c.len-place.result ≡ length h = search rules in
    let kept : c.in-Ok.kept ≡ c.apply-reply.result = c.in-Ok.ensures.ok in
    let shown : c.in-Ok-copied.shown ≡ c.apply-reply.result = c.in-Ok-copied.ensures.ok in
    let pushed : c.push_reserved.new.self.items ≡ h ++ (command, c.in-Ok.kept) ∷ [] = search rules in
    book-more c.self.inside.runner c.apply-reply.new.self c.self.inside.limits c.self.inside.node_id.0 h c.push_reserved.new.self.items command c.apply-reply.result c.self.inside.made c.self.inside.tokens.total c.add_for.new.book.total c.self.inside.rest.parts c.self.inside.rest.amount g.L.Ledger.parts
    c.self.invariant c.apply-reply.ensures.step
    (c.add_for.ensures.total ∙ (λ i. c.self.inside.tokens.total + 2 ^ (84 * entry_number (at i) command (shown i))))
    (pushed ∙ ap (λ (r : HubReply). h ++ (command, r) ∷ []) kept)
    (search rules)

pub invariant_of-seat-2 : goal.invariant_of-seat-2
invariant_of-seat-2 g c =
    seat-more c.seat.inside.receipts.items c.push_reserved-2.new.self.items (receipt c.len-place.result c.args.command c.in-Ok-copied.shown) c.seat.inside.next c.seat.inside.share.parts c.add_for.new.share.parts c.seat.inside.share.amount c.add_for.new.share.amount
    c.seat.invariant (search rules) (search rules) (search rules) (search rules) (search rules)
