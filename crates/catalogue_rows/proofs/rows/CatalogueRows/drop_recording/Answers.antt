use Rattle.std.proofs.Common.{arith, refl}
use Rattle.catalogue_rows.proofs.Held.{Holds-drop}
use Rattle.catalogue_rows.proofs.rows.CatalogueRows.drop_recording.Goals as goal

pub returns-clause-held : goal.returns-clause-held
returns-clause-held c t holds =
    Holds-drop c.lift.new.self _ t c.args.id (c.lift.ensures.but t holds) c.drop_row.ensures.items refl refl refl

pub returns-clause-room : goal.returns-clause-room
returns-clause-room c more has =
    let mid = c.lift.ensures.room.room more has in
    record {
      albums = mid.albums;
      recordings = omega (arith, mid.recordings, c.drop_row.ensures.len, c.drop_row.ensures.capacity);
      replies = mid.replies;
    }
