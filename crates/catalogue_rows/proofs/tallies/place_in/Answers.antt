use Rattle.std.proofs.Common.{ℕ, Option, subst}
use Rattle.catalogue_rows.specs.Places.{HavePlaces}
use Rattle.catalogue_rows.specs.Room.{and_one}
use Rattle.catalogue_rows.proofs.Albums.{places_beside}
use Rattle.catalogue_rows.proofs.tallies.place_in.Goals as goal

pub returns-in_default-clause-places : goal.returns-in_default-clause-places
returns-in_default-clause-places c more all = places_beside c.args.album more c.args.albums.now.items all

pub returns-in-Some-album-clause-places : goal.returns-in-Some-album-clause-places
returns-in-Some-album-clause-places c more all =
    c.put_into.ensures.places more
    (subst (λ (album : Option ℕ). HavePlaces (and_one album more) c.args.albums.now.items) c.in-Some-album.is all)

pub returns-in-None-clause-places : goal.returns-in-None-clause-places
returns-in-None-clause-places c more all = places_beside c.args.album more c.args.albums.now.items all
