use Rattle.std.proofs.Common.{◌++◌, ◌∙◌, ℕ, List, ap, rules}
use Rattle.flac_stream.proofs.Digests.{gathered_none}
use Rattle.flac_stream.proofs.digest.SoundDigest.hash_whole_pieces.Goals as goal

pub returns : goal.returns
returns c = λ asked message fed. record {
  asked_is = fed.asked_is;
  holds =
      λ yes. let was = fed.holds yes in (
        was.0 ++ c.as_slice.result.now,
        c.update.ensures was.0 was.1,
        gathered_none was.0 c.as_slice.result.now _ message (ap (λ (xs : List ℕ). was.0 ++ xs) c.as_slice.ensures.value ∙ was.2) (search rules),
      );
}
