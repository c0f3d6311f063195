use Rattle.flac_predict.proofs.Pairing.{RestoredPairs}
use Rattle.flac_predict.proofs.channels.undo_stereo.Given as goal

abbrev pub invariant-loop-place : goal.invariant-loop-place
invariant-loop-place l = RestoredPairs l.kind l.depth l.place l.first l.second l.initial.first l.initial.second
