use Rattle.json_bodies.proofs.Recordings.{album_members}
use Rattle.json_bodies.proofs.replies.album_object.Goals as goal

pub returns : goal.returns
returns c =
    rw (
      c.in_ok-levels.ensures,
      c.in_ok-ids.ensures,
      c.in_ok-text.ensures,
      c.in_ok-number.ensures,
      c.new-object.ensures,
      c.from.ensures,
      c.as_str.ensures,
    ) (album_members c.args.row.now c.args.ids.now)
