-- Objects of JSON that are put together.
use Rattle.std.specs.Prelude.{codes}
use Rattle.lib_base.specs.declared.files.Summary.{Summary}
use Rattle.serde_json.specs.Data.{Members, put, string}
use Rattle.serde_json.specs.View.{members_view}
use Rattle.sound_model.specs.Texts.{peak_text}
use Rattle.library_model.specs.Bodies.{level_data}
use Rattle.json_bodies.specs.declared.objects.Object.{Object}

-- the members that were put
abbrev pub members_of : Object → Members
members_of o = members_view o.members.entries

-- members, and the levels of a summary beside them, each under its key
abbrev pub with_levels : Summary → Members → Members
with_levels s members =
    put (codes "true_peak") (level_data s.true_peak)
    (put (codes "short") (level_data s.short_term)
    (put (codes "range") (level_data s.range)
    (put (codes "peak") (string (peak_text s.peak))
    (put (codes "momentary") (level_data s.momentary)
    (put (codes "loudness") (level_data s.loudness)
    (put (codes "gain") (level_data s.gain) members))))))
