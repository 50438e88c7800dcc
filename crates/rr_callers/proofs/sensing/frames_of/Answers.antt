use Rattle.std.proofs.Common.{◌≡◌, [], ◌∷◌, ◌++◌, Some, ap, arith, cond, sym, ◌∙◌}
use Rattle.rr_ports.specs.Facts.{Asks}
use Rattle.rr_ports.proofs.FactLaws.{keeps_both}
use Rattle.rr_ports.proofs.Frames.{kept}
use Rattle.rr_callers.specs.Sensing.{extremes_of, extremes_over, frame}
use Rattle.rr_callers.proofs.Sensed.{extremes_next}
use Rattle.rr_callers.proofs.sensing.frames_of.Goals as goal

pub loop-time-preserved : goal.loop-time-preserved
loop-time-preserved c =
    let so_far = c.loop-time.invariant in
    let channels = c.args.channels.now in
    let samples = frame channels c.loop-time.time in
    let asks = kept [] c.args.hub.now c.loop-time.hub c.args.active.now (Asks channels) so_far.0 tt c.requires.asks in
    let queued = c.in-Ok.ensures.frame channels asks in
    let sent = keeps_both c.args.hub.now c.loop-time.hub c.send_frame.new.hub so_far.0 c.in-Ok.ensures.keeps in
    let is : Some c.in-Ok-Some.extremes ≡ Some (extremes_of samples) = sym c.in-Ok-Some.field-0-is ∙ c.in-Ok-Some.ensures.extremes samples queued in
    let read : c.in-Ok-Some.extremes ≡ extremes_of samples = cc in (
      keeps_both c.args.hub.now c.send_frame.new.hub c.read.new.hub sent c.in-Ok-Some.ensures.keeps,
      c.in-Ok-Some.ensures.done samples queued,
      c.push.ensures.items
          ∙ ap (λ b. cond b (c.loop-time.came.items ++ c.in-Ok-Some.extremes ∷ []) c.loop-time.came.items) c.if-is_err.ensures.negation
          ∙ ap (λ xs. xs ++ c.in-Ok-Some.extremes ∷ []) so_far.2
          ∙ ap (λ e. extremes_over channels c.loop-time.time ++ e ∷ []) read ∙ sym (extremes_next channels c.loop-time.time),
      (let a = so_far.3 in let b = c.in-Ok.ensures.numbers in let d = c.in-Ok-Some.ensures.numbers in omega (arith, a, b, d)),
    )
