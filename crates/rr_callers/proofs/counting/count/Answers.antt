use Rattle.std.proofs.Common.{◌<◌, [], ◌∷◌, length, Err, ap, sym, arith}
use Rattle.std.proofs.lemmas.List.FromFn.{length-map-range_with_len}
use Rattle.rr_protocol.specs.declared.kind.Kind.TheVariants as kind
use Rattle.rr_ports.specs.Facts.{Buffers, IsA, Of}
use Rattle.rr_ports.proofs.FactLaws.{buffered, keeps_both}
use Rattle.rr_ports.proofs.Frames.{kept}
use Rattle.rr_callers.specs.Singles.{singles}
use Rattle.rr_callers.proofs.Singles.{singles_next}
use Rattle.rr_callers.proofs.counting.count.Goals as goal

pub loop-value-preserved : goal.loop-value-preserved
loop-value-preserved c =
    let so_far = c.loop-value.invariant in
    let buffers = kept [] c.args.hub.now c.loop-value.hub c.args.pending.now (Buffers c.args.count) so_far.0 tt c.requires.room in
    let room : length (singles 0 c.loop-value.value) < c.loop-value.hub.limits.max_response_buffer_size =
    buffered c.loop-value.hub c.args.pending.now c.args.count (length (singles 0 c.loop-value.value)) buffers
    (omega (arith, length-map-range_with_len (λ value. value ∷ []) 0 c.loop-value.value, c.loop-value-test.true)) in (
      keeps_both c.args.hub.now c.loop-value.hub c.send_copy.new.hub so_far.0 c.in_ok-send_copy.ensures.keeps,
      rw (singles_next c.loop-value.value) (c.in_ok-send_copy.ensures.next c.args.server.now c.args.pending.now (singles 0 c.loop-value.value)
          (kept [] c.args.hub.now c.loop-value.hub c.args.active.now (Of c.args.server.now c.args.pending.now) so_far.0 tt c.requires.of)
          (kept [] c.args.hub.now c.loop-value.hub c.args.server.now (IsA kind.Server) so_far.0 tt c.requires.server) so_far.1 room),
      (let a = so_far.2 in let b = c.in_ok-send_copy.ensures.numbers in omega (arith, a, b)),
    )

pub returns-in_err-send_copy-clause-delivered : goal.returns-in_err-send_copy-clause-delivered
returns-in_err-send_copy-clause-delivered c told =
    let so_far = c.loop-value.invariant in
    let buffers = kept [] c.args.hub.now c.loop-value.hub c.args.pending.now (Buffers c.args.count) so_far.0 tt c.requires.room in
    let room : length (singles 0 c.loop-value.value) < c.loop-value.hub.limits.max_response_buffer_size =
    buffered c.loop-value.hub c.args.pending.now c.args.count (length (singles 0 c.loop-value.value)) buffers
    (omega (arith, length-map-range_with_len (λ value. value ∷ []) 0 c.loop-value.value, c.loop-value-test.true)) in
    c.in_err-send_copy.ensures.room c.args.server.now c.args.pending.now (singles 0 c.loop-value.value)
    (kept [] c.args.hub.now c.loop-value.hub c.args.active.now (Of c.args.server.now c.args.pending.now) so_far.0 tt c.requires.of) so_far.1 room
    (ap Err (sym (rw told at c.from_residual.ensures.1)))
