use Rattle.std.proofs.Common.{drop}
use Rattle.file_model.specs.declared.flac_rules.FlacRule.TheVariants.{TooManySamples}
use Rattle.flac_frames.specs.Frames.{frame_in}
use Rattle.flac_frames.specs.Headers.{header_of}
use Rattle.flac_stream.proofs.NextFrames.{header_broken, too_many, next_answers, samples_fit, turned, unturned}
use Rattle.flac_stream.proofs.frames.read_next.Goals as goal

pub returns-in-Err-clause-frame : goal.returns-in-Err-clause-frame
returns-in-Err-clause-frame c =
    let h = c.in-Err.ensures.header in
    (h.0, header_broken c.args.info.now c.args.before (drop c.args.at c.args.bytes.now) h.0 h.1, h.2)

pub returns-then-is_too_much-clause-frame : goal.returns-then-is_too_much-clause-frame
returns-then-is_too_much-clause-frame c = (
  TooManySamples,
  too_many c.args.info.now c.args.before (drop c.args.at c.args.bytes.now) (header_of c.in-Ok.header) c.in-Ok.ensures.header
      (turned _ _ c.is_too_much.ensures c.if-is_too_much.true),
  c.breaks.ensures,
)

pub returns-clause-frame : goal.returns-clause-frame
returns-clause-frame c =
    next_answers c.read_frame.result (frame_in c.read_frame.new.scratch.cells c.args.info.now.channels c.args.at) c.args.at c.args.info.now c.args.before
    (drop c.args.at c.args.bytes.now) (header_of c.in-Ok.header) c.in-Ok.ensures.header
    (unturned _ _ c.is_too_much.ensures c.if-is_too_much.false) c.read_frame.ensures.frame

pub returns-clause-read : goal.returns-clause-read
returns-clause-read c =
    samples_fit c.read_frame.result c.args.info.now c.args.before (drop c.args.at c.args.bytes.now) (header_of c.in-Ok.header) c.in-Ok.ensures.header
    (unturned _ _ c.is_too_much.ensures c.if-is_too_much.false) c.requires.some c.read_frame.ensures.headed
