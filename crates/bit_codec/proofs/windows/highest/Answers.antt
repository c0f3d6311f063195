-- Two shifts are one.
use Rattle.bit_codec.proofs.ReaderLemmas.{two_shifts}
use Rattle.bit_codec.proofs.windows.highest.Goals as goal

pub returns : goal.returns
returns c = two_shifts c.args.window c.args.count c.requires
