use Rattle.std.proofs.Common.{◌∙◌, ap}
use Rattle.serde_json.specs.Written.{has_float}
use Rattle.json_bodies.proofs.Recordings.{no_float-album}
use Rattle.json_bodies.proofs.replies.album_text.Goals as goal

pub into_text-requires : goal.into_text-requires
into_text-requires c = ap has_float c.in_ok-object.ensures ∙ no_float-album c.args.row.now c.args.ids.now
