use Rattle.std.proofs.Common.{ℕ, List, Bool, ◌++◌}
use Rattle.std.specs.List.{flat_map}
use Rattle.std.specs.Simd.{first_chunks}
use Rattle.file_model.specs.Pcm.{interleaved}
use Rattle.flac_stream.specs.Frames.{in_bytes, WasFed}
use Rattle.flac_stream.proofs.digest.SoundDigest.feed_rows.Given as goal

-- the samples before the place are fed
abbrev pub invariant-loop-place : goal.invariant-loop-place
invariant-loop-place l =
    (asked : Bool) (message : List ℕ) → WasFed asked l.fn.self message
    → WasFed asked l.self (message ++ flat_map (in_bytes l.count) (interleaved l.place (first_chunks l.block l.channels l.scratch.cells)))
