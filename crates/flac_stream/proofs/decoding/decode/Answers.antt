use Rattle.std.proofs.Common.{arith}
use Rattle.flac_stream.proofs.Infos.{info_fits}
use Rattle.flac_stream.proofs.decoding.decode.Goals as goal

pub scratch_size_for-size-requires : goal.scratch_size_for-size-requires
scratch_size_for-size-requires c = let within = info_fits _ _ c.in_ok-opening.ensures.ok.says in let few = within.few in omega (arith, few)

pub decode_frames-requires-clause-some : goal.decode_frames-requires-clause-some
decode_frames-requires-clause-some c = (info_fits _ _ c.in_ok-opening.ensures.ok.says).some

pub decode_frames-requires-clause-few : goal.decode_frames-requires-clause-few
decode_frames-requires-clause-few c = (info_fits _ _ c.in_ok-opening.ensures.ok.says).few

pub decode_frames-requires-clause-low : goal.decode_frames-requires-clause-low
decode_frames-requires-clause-low c = (info_fits _ _ c.in_ok-opening.ensures.ok.says).low

pub decode_frames-requires-clause-high : goal.decode_frames-requires-clause-high
decode_frames-requires-clause-high c = (info_fits _ _ c.in_ok-opening.ensures.ok.says).high
