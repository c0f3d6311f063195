use Rattle.std.proofs.Common.{◌∙◌, ◌++◌, List, ℕ, ap, rules}
use Rattle.flac_stream.proofs.Digests.{gathered_more}
use Rattle.flac_stream.proofs.digest.SoundDigest.feed_sample.Goals as goal

pub returns : goal.returns
returns c = λ asked message fed. record {
  asked_is = fed.asked_is;
  holds = λ yes. let was = fed.holds yes in (was.0, was.1, gathered_more was.0 c.args.self.now.piece.items _ message _ was.2 (search rules));
}
