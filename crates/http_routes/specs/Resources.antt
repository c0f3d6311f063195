-- What a target names.
use Rattle.std.specs.Prelude.{ℕ, List, Option, None, option_map, if◌then◌else◌}
use Rattle.std.specs.Str.{is_utf8}
use Rattle.http_routes.specs.declared.resources.Resource.{Resource}
use Rattle.http_routes.specs.declared.resources.Resource.TheVariants as at
use Rattle.http_routes.specs.declared.routes.Route.{Route}
use Rattle.http_routes.specs.declared.routes.Route.TheVariants.{Albums, Recordings, AlbumRecordings, Audio, RecordingAlbum, Recording, Album}
use Rattle.http_routes.specs.Ids.{id_asked, id_text}
use Rattle.http_routes.specs.Routes.{route_found}

-- what a route with that id names
abbrev pub resource_at : ℕ → Route → Resource
resource_at id Albums = at.Albums
resource_at id Recordings = at.Recordings
resource_at id AlbumRecordings = at.AlbumRecordings id
resource_at id Audio = at.Audio id
resource_at id RecordingAlbum = at.RecordingAlbum id
resource_at id Recording = at.Recording id
resource_at id Album = at.Album id

-- the route of what is named
abbrev pub route_of : Resource → Route
route_of at.Albums = Albums
route_of at.Recordings = Recordings
route_of (at.AlbumRecordings id) = AlbumRecordings
route_of (at.Audio id) = Audio
route_of (at.RecordingAlbum id) = RecordingAlbum
route_of (at.Recording id) = Recording
route_of (at.Album id) = Album

-- what a target names: that of the route that it finds, with the id that it writes; nothing if it is no UTF-8
abbrev pub resource_found : List ℕ → Option Resource
resource_found target = if is_utf8 target then option_map (resource_at (id_asked (id_text target))) (route_found target) else None
