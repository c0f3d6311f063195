use Rattle.std.proofs.Common.{ℕ, OnOk, sym, subst}
use Rattle.flac_stream.specs.Frames.{FedFrame}
use Rattle.flac_stream.proofs.Digests.{unasked}
use Rattle.flac_stream.proofs.digest.SoundDigest.feed.Goals as goal

pub returns-then-not-is_asked : goal.returns-then-not-is_asked
returns-then-not-is_asked c = λ asked message fed. unasked asked c.args.self.now message _ fed c.if-not-is_asked.true

pub returns-in-2 : goal.returns-in-2
returns-in-2 c =
    subst (λ (n : ℕ). OnOk c.feed_rows.result (FedFrame n c.args.block c.args.channels c.args.scratch.now.cells c.args.self.now c.feed_rows.new.self))
    (sym c.in-2.is) c.feed_rows.ensures

pub returns-in-3 : goal.returns-in-3
returns-in-3 c =
    subst (λ (n : ℕ). OnOk c.feed_rows-in-3.result (FedFrame n c.args.block c.args.channels c.args.scratch.now.cells c.args.self.now c.feed_rows-in-3.new.self))
    (sym c.in-3.is) c.feed_rows-in-3.ensures
