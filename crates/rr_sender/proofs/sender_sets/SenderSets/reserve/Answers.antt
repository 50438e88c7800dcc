use Rattle.std.proofs.Common.{◌≡◌, ◌∙◌, ap, arith}
use Rattle.rr_sender.specs.BitSets.{IsColumnAdded}
use Rattle.rr_sender.specs.SenderSets.{IsEven}
use Rattle.rr_sender.proofs.BitLaws.{added_there}
use Rattle.rr_sender.proofs.SetLaws.{knows_more, knows_as_many, room}
use Rattle.rr_sender.proofs.sender_sets.SenderSets.reserve.Goals as goal
use Rattle.rr_sender.proofs.sender_sets.SenderSets.reserve.Goals.{After-push_column-2, then-index-eq0+in_ok-notes, else-index-eq0}

-- the sets to which the column comes
same : (c : After-push_column-2) → c.if-index-eq0.self-inside.members.columns.items ≡ c.self.inside.members.columns.items
same c = elim c.if-index-eq0.branch [
  | then-index-eq0+in_ok-notes w ↦ ap (λ s. s.members.columns.items) w.self-inside-is ∙ c.new_column.ensures.same
  | else-index-eq0 w ↦ ap (λ s. s.members.columns.items) w.self-inside-is ∙ c.new_column.ensures.same
]

added : (c : After-push_column-2) → IsColumnAdded c.args.sets c.self.inside.members c.push_column-2.new.self
added c = added_there c.args.sets _ c.self.inside.members _ (same c) (c.push_column-2.ensures c.args.sets c.in_ok-column.ensures.column)

even : (c : After-push_column-2) → IsEven c.args.sets c.self.inside.members
even c = rw (← c.self.view_is) at c.requires.even

pub invariant_of-self-2 : goal.invariant_of-self-2
invariant_of-self-2 c =
    let next = rw (← c.self.view_is) at c.requires.next in
    elim c.if-index-eq0.branch [
      | then-index-eq0+in_ok-notes w ↦ rw w.self-inside-is (knows_more c.self.inside.members c.self.inside.words c.self.invariant c.args.sets
          c.args.sender _ (even c) (omega (arith, c.if-index-columns.false, c.columns.ensures)) next c.ranges.sender.fits (added c) _ w.if-index-eq0.true
          (added_there c.args.sets _ c.self.inside.words _ w.new_column-then-index-eq0.ensures.same
          (w.push_column.ensures c.args.sets w.in_ok-notes.ensures.column)))
      | else-index-eq0 w ↦ rw w.self-inside-is (knows_as_many c.self.inside.members c.self.inside.words c.self.invariant c.args.sets
          c.args.sender _ (even c) (omega (arith, c.if-index-columns.false, c.columns.ensures)) next c.ranges.sender.fits (added c) w.if-index-eq0.false)
    ]

pub returns-clause-ok : goal.returns-clause-ok
returns-clause-ok c =
    let next = rw (← c.self.view_is) at c.requires.next in
    rw (← c.self.view_is) (room c.self.inside.members c.self.inside.words c.self.invariant c.args.sets c.args.sender _ (even c)
    (omega (arith, c.if-index-columns.false, c.columns.ensures)) next c.ranges.sender.fits (added c))
