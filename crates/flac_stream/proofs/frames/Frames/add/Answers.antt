use Rattle.std.proofs.Common.{ℕ, subst}
use Rattle.flac_stream.specs.Frames.{FedFrame}
use Rattle.flac_stream.proofs.frames.Frames.add.Goals as goal

pub returns-clause-fed : goal.returns-clause-fed
returns-clause-fed c =
    subst (λ (n : ℕ). FedFrame n c.args.block c.args.info.now.channels c.args.scratch.now.cells c.args.self.now.digest c.feed.new.self)
    c.bytes_for-count.ensures.value c.in_ok-feed.ensures
