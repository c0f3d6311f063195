use Rattle.std.proofs.Common.{◌≡◌, ◌≤◌, ◌<◌, ◌+◌, inl, inr, length, arith}
use Rattle.flac_stream.proofs.Sounding.{next_there}
use Rattle.flac_stream.proofs.sound.FlacSound.fill_part.Goals as goal

pub overflow_add-frame : goal.overflow_add-frame
overflow_add-frame c =
    let there = c.frames.invariant.there c.frames-test.true in
    let few = c.frame_of-frame.ensures.few in
    record { fits = omega (arith, there, few) }

pub frames-preserved : goal.frames-preserved
frames-preserved c =
    let s = c.args.self.now in
    let file = s.file.now in
    let frame = c.frames.frame in
    let done = c.fill_from_frame-done.result in
    let long = c.fill_from_frame-done.ensures.long in
    let all = c.frames.invariant.long in
    let within = c.fill_from_frame-done.ensures.within in
    let inside = c.requires.inside in
    let there = c.frames.invariant.there c.frames-test.true in
    let ends = c.fill_from_frame-done.ensures.next in
    record {
      written = c.fill_from_frame-done.ensures.written;
      within = omega (arith, within, long);
      there = λ more. next_there file frame (c.args.start + done) there (ends (omega (arith, more, long))) (omega (arith, more, long, all, inside));
      behind = λ more. (let end = ends (omega (arith, more, long)) in omega (arith, end));
      before = λ more.
          (let end = ends (omega (arith, more, long)) in
          let next = next_there file frame (c.args.start + done) there end (omega (arith, more, long, all, inside)) in
          let rise = s.frames.rise (frame + 1) next in omega (arith, end, rise));
      long = omega (arith, long, all);
      room = (let kept = c.fill_from_frame-done.ensures.room in let so_far = c.frames.invariant.room in omega (arith, kept, so_far));
    }
