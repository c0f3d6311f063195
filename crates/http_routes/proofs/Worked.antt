-- Worked rows: targets that find a route, and short ones that find none.
use Rattle.std.proofs.Common.{◌≡◌, ◌∷◌, [], Some, None, codes, refl}
use Rattle.std.specs.Char.{encode_utf8}
use Rattle.std.specs.Str.{chars, is_utf8}
use Rattle.matchit.proofs.OnLiterals.{matchit_on_literals}
use Rattle.http_routes.specs.declared.resources.Resource.TheVariants as at
use Rattle.http_routes.specs.Ids.{id_asked, id_text}
use Rattle.http_routes.specs.Resources.{resource_found}
use Rattle.http_routes.specs.Routes.{allowed, methods_of, route_found}
use Rattle.http_routes.specs.declared.routes.Route.TheVariants.{Albums, Recordings, AlbumRecordings, Audio, RecordingAlbum, Recording, Album}

-- Each path finds its route.
pub route_found-each : route_found (codes "/albums") ∷ route_found (codes "/recordings")
    ∷ route_found (codes "/albums/7/recordings") ∷ route_found (codes "/recordings/7/audio")
    ∷ route_found (codes "/recordings/7/album") ∷ route_found (codes "/recordings/7") ∷ route_found (codes "/albums/7") ∷ []
    ≡ Some Albums ∷ Some Recordings ∷ Some AlbumRecordings ∷ Some Audio ∷ Some RecordingAlbum ∷ Some Recording ∷ Some Album ∷ []
unfolding matchit_on_literals
route_found-each = refl

-- The root finds none.
pub route_found-root : route_found (codes "/") ≡ None
unfolding matchit_on_literals
route_found-root = refl

-- The methods of a recording, as they are allowed.
pub allowed-recording : allowed (methods_of Recording) ≡ codes "GET, DELETE"
allowed-recording = refl

-- An id is what stands between the second slash and the third, or the end.
pub id_text-each : id_text (codes "/recordings/7/audio") ∷ id_text (codes "/albums/12") ∷ id_text (codes "/albums") ∷ []
    ≡ codes "7" ∷ codes "12" ∷ [] ∷ []
id_text-each = refl

-- The first id, the last one, and texts that write none.
pub id_asked-each : id_asked (codes "1") ∷ id_asked (codes "2147483646") ∷ id_asked (codes "2147483647") ∷ id_asked (codes "0")
    ∷ id_asked (codes "01") ∷ id_asked (codes "-1") ∷ id_asked (codes "+1") ∷ id_asked (codes "1a") ∷ id_asked [] ∷ []
    ≡ 1 ∷ 2147483646 ∷ 0 ∷ 0 ∷ 0 ∷ 0 ∷ 0 ∷ 0 ∷ 0 ∷ []
id_asked-each = refl

-- What targets name.
pub resource_found-each : resource_found (codes "/recordings") ∷ resource_found (codes "/recordings/7/audio")
    ∷ resource_found (codes "/albums/2147483647/recordings") ∷ resource_found (codes "/") ∷ []
    ≡ Some at.Recordings ∷ Some (at.Audio 7) ∷ Some (at.AlbumRecordings 0) ∷ None ∷ []
unfolding matchit_on_literals is_utf8 chars encode_utf8
resource_found-each = refl
