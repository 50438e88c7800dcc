-- A sensor: what its channels measure, and the extremes of frames.
use Rattle.std.specs.Prelude.{ℕ, ◌+◌, ◌-◌, ◌*◌, ◌%◌, ◌^◌, List, fold, map, max, min}
use Rattle.std.specs.List.{range_with_len}
use Rattle.rr_callers.specs.declared.sensing.Extremes.{Extremes}

-- a frame: the measurement of each channel at a time
abbrev pub frame : List ℕ → ℕ → List ℕ
frame channels time = map (λ channel. (channel * 100 % 2 ^ 64 + time) % 2 ^ 64) channels

-- the least sample and the most
abbrev pub extremes_of : List ℕ → Extremes
extremes_of samples = record { least = fold min (2 ^ 64 - 1) samples; most = fold max 0 samples }

-- the extremes of this many frames, from time 0 on
abbrev pub extremes_over : List ℕ → ℕ → List Extremes
extremes_over channels frames = map (λ time. extremes_of (frame channels time)) (range_with_len 0 frames)
