-- The routes, and the one that a target finds.
use Rattle.std.specs.Prelude.{ℕ, Bool, List, [], ◌∷◌, ◌++◌, codes, Option, None, Some, Result, Ok, Err, option_map}
use Rattle.std.specs.List.{list_any}
use Rattle.std.specs.Str.{bytes_eq}
use Rattle.matchit.specs.Order.{placed}
use Rattle.matchit.specs.Route.{Scan, parse_route}
use Rattle.matchit.specs.Router.{RouteOf, route_from}
use Rattle.matchit.specs.Rows.{RowsOf}
use Rattle.matchit.specs.Seek.{first}
use Rattle.matchit.specs.declared.error.InsertError.{InsertError}
use Rattle.http_routes.specs.declared.routes.Route.{Route}
use Rattle.http_routes.specs.declared.routes.Route.TheVariants.{Albums, Recordings, AlbumRecordings, Audio, RecordingAlbum, Recording, Album}

-- paths in the order in which a router tries them, each with its route
abbrev pub Rows : Type 0
Rows = RowsOf (RouteOf Route)

-- what is read of a path, put in its place
abbrev pub with_scan : Route → Result Scan InsertError → Rows → Rows
with_scan route (Ok scan) rows = placed (scan.pattern, route_from scan route) rows
with_scan route (Err e) rows = rows

-- a path put in its place
abbrev pub with_path : Route → List ℕ → Rows → Rows
with_path route path rows = with_scan route (parse_route path) rows

-- paths put in their places, one after another
abbrev pub with_paths : List (Route × List ℕ) → Rows → Rows
with_paths [] rows = rows
with_paths ((route, path) ∷ others) rows = with_paths others (with_path route path rows)

-- the paths that are built
abbrev pub paths : List (Route × List ℕ)
paths =
    (Albums, codes "/albums") ∷ (Recordings, codes "/recordings")
    ∷ (AlbumRecordings, codes "/albums/{a}/recordings") ∷ (Audio, codes "/recordings/{r}/audio")
    ∷ (RecordingAlbum, codes "/recordings/{r}/album") ∷ (Recording, codes "/recordings/{r}")
    ∷ (Album, codes "/albums/{a}") ∷ []

-- the router that they make
abbrev pub routes : Rows
routes = with_paths paths []

-- the route that a target finds, by the search that matchit defines
abbrev pub route_found : List ℕ → Option Route
route_found target = option_map (λ (r : RouteOf Route). r.value) (first routes target)

-- the methods of a route (RFC 9110 section 9.3)
abbrev pub methods_of : Route → List (List ℕ)
methods_of Albums = codes "POST" ∷ []
methods_of Recordings = codes "POST" ∷ []
methods_of AlbumRecordings = codes "POST" ∷ []
methods_of Audio = codes "PUT" ∷ []
methods_of RecordingAlbum = codes "PUT" ∷ []
methods_of Recording = codes "GET" ∷ codes "DELETE" ∷ []
methods_of Album = codes "GET" ∷ codes "DELETE" ∷ []

-- the methods of a route, and none without one
abbrev pub methods_if : Option Route → List (List ℕ)
methods_if (Some route) = methods_of route
methods_if None = []

-- the route has that method
abbrev pub has_method : List ℕ → Route → Bool
has_method method route = list_any (bytes_eq method) (methods_of route)

-- methods as a line `Allow` names them, a comma and a space between two
abbrev pub allowed : List (List ℕ) → List ℕ
allowed [] = []
allowed (method ∷ []) = method
allowed (method ∷ next ∷ methods) = method ++ codes ", " ++ allowed (next ∷ methods)
