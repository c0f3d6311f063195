use Rattle.json_bodies.proofs.Recordings.{recording_members}
use Rattle.json_bodies.proofs.replies.recording_object.Goals as goal

pub returns : goal.returns
returns c =
    rw (
      c.in_ok-levels.ensures,
      c.in_ok-number-5.ensures,
      c.in_ok-text-2.ensures,
      c.in_ok-text.ensures,
      c.in_ok-number-4.ensures,
      c.in_ok-number-3.ensures,
      c.in_ok-number-2.ensures,
      c.in_ok-number.ensures,
      c.in_ok-album.ensures,
      c.new-object.ensures,
      c.from.ensures,
      c.from-2.ensures,
      c.from-3.ensures,
      c.from-4.ensures,
      c.kind_text.ensures,
      c.as_str.ensures,
    )
    (recording_members c.args.row.now)
