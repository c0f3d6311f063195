use Rattle.std.proofs.Common.{[], refl, ap, sym, ◌∙◌, rules}
use Rattle.std.specs.Prelude.{not}
use Rattle.flac_stream.proofs.digest.SoundDigest.new.Goals as goal

pub returns : goal.returns
returns c = record {
  asked_is = search rules;
  holds = λ asked. ([], c.new-hasher.ensures, search rules);
}
