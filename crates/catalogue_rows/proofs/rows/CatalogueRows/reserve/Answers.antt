use Rattle.std.proofs.Common.{arith, sym, subst}
use Rattle.catalogue_rows.specs.Places.{HavePlaces}
use Rattle.catalogue_rows.proofs.rows.CatalogueRows.reserve.Goals as goal

pub returns-in_err-reserve-3-clause-kept : goal.returns-in_err-reserve-3-clause-kept
returns-in_err-reserve-3-clause-kept c = record {
  room = λ more has. record {
    albums = omega (arith, has.albums, c.reserve.ensures.len, c.reserve.ensures.capacity);
    recordings = omega (arith, has.recordings, c.reserve-2.ensures.len, c.reserve-2.ensures.capacity);
    replies = c.reserve-3.ensures.kept more has.replies;
  };
  places = λ more has. subst (HavePlaces more) (sym c.reserve.ensures.items) has;
}

pub returns-clause-kept : goal.returns-clause-kept
returns-clause-kept c = record {
  room = λ more has. record {
    albums = omega (arith, has.albums, c.reserve.ensures.len, c.reserve.ensures.capacity);
    recordings = omega (arith, has.recordings, c.reserve-2.ensures.len, c.reserve-2.ensures.capacity);
    replies = c.reserve-3.ensures.kept more has.replies;
  };
  places = λ more has. subst (HavePlaces more) (sym c.reserve.ensures.items) has;
}
