-- The extremes of frames, with one more frame.
use Rattle.std.proofs.Common.{◌≡◌, ◌+◌, ℕ, List, [], ◌∷◌, ◌++◌, ap, map, ◌∙◌}
use Rattle.std.specs.List.{range_with_len}
use Rattle.std.proofs.lemmas.List.{map-append}
use Rattle.rr_callers.specs.Sensing.{extremes_of, extremes_over, frame}
use Rattle.rr_callers.proofs.Singles.{range_next}

pub extremes_next : (channels : List ℕ) (time : ℕ) → extremes_over channels (time + 1) ≡ extremes_over channels time ++ extremes_of (frame channels time) ∷ []
extremes_next channels time =
    ap (map (λ at. extremes_of (frame channels at))) (range_next time)
    ∙ map-append (λ at. extremes_of (frame channels at)) (range_with_len 0 time) (time ∷ [])
