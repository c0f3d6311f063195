use Rattle.std.proofs.Common.{ℕ, List, Bool, ◌++◌, take}
use Rattle.std.specs.List.{flat_map}
use Rattle.std.specs.Simd.{first_chunks}
use Rattle.file_model.specs.Pcm.{frame_at}
use Rattle.flac_stream.specs.Frames.{in_bytes, WasFed}
use Rattle.flac_stream.proofs.digest.SoundDigest.feed_row.Given as goal

-- the samples of the channels so far are fed
abbrev pub invariant-loop-channel : goal.invariant-loop-channel
invariant-loop-channel l =
    (asked : Bool) (message : List ℕ) → WasFed asked l.fn.self message
    → WasFed asked l.self (message ++ flat_map (in_bytes l.count) (frame_at (take l.channel (first_chunks l.block l.channels l.scratch.cells)) l.place))
