use Rattle.std.proofs.Common.{arith}
use Rattle.catalogue_rows.proofs.rows.CatalogueRows.put_reply.Goals as goal

pub returns-clause-room : goal.returns-clause-room
returns-clause-room c more has = record {
  albums = omega (arith, has.albums);
  recordings = omega (arith, has.recordings);
  replies = c.put.ensures.room more has.replies;
}
