use Rattle.std.proofs.Common.{arith}
use Rattle.flac_stream.proofs.Endings.{is_started}
use Rattle.flac_stream.proofs.Infos.{info_fits}
use Rattle.flac_stream.proofs.files.read.Goals as goal

pub scratch_size_for-size-requires : goal.scratch_size_for-size-requires
scratch_size_for-size-requires c = let within = info_fits _ _ c.in_ok-opening.ensures.ok.says in let few = within.few in omega (arith, few)

pub read_frames-requires-clause-place : goal.read_frames-requires-clause-place
read_frames-requires-clause-place c = c.in_ok-opening.ensures.ok.opened.kept.inside

pub read_frames-requires-clause-started : goal.read_frames-requires-clause-started
read_frames-requires-clause-started c = is_started _ _ _ _ _ c.in_ok-opening.ensures.ok

pub read_frames-requires-clause-some : goal.read_frames-requires-clause-some
read_frames-requires-clause-some c = (info_fits _ _ c.in_ok-opening.ensures.ok.says).some

pub read_frames-requires-clause-few : goal.read_frames-requires-clause-few
read_frames-requires-clause-few c = (info_fits _ _ c.in_ok-opening.ensures.ok.says).few

pub read_frames-requires-clause-low : goal.read_frames-requires-clause-low
read_frames-requires-clause-low c = (info_fits _ _ c.in_ok-opening.ensures.ok.says).low

pub read_frames-requires-clause-high : goal.read_frames-requires-clause-high
read_frames-requires-clause-high c = (info_fits _ _ c.in_ok-opening.ensures.ok.says).high
