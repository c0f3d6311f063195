-- The lines of a reply, piece by piece.
use Rattle.std.proofs.Common.{◌≡◌, ℕ, List, [], ◌∷◌, ◌++◌, codes, refl, append_assoc}
use Rattle.http_routes.specs.declared.routes.Route.{Route}
use Rattle.http_routes.specs.declared.routes.Route.TheVariants.{Albums, Recordings, AlbumRecordings, Audio, RecordingAlbum, Recording, Album}
use Rattle.http_routes.specs.Routes.{allowed, methods_of}
use Rattle.http_model.specs.Spelling.{allowing, line}

-- The pieces in a row are the first two lines, whatever they are.
regroup_front : (version status space reason end type kind : List ℕ)
    → version ++ (status ++ (space ++ (reason ++ (end ++ (type ++ (kind ++ end))))))
    ≡ (version ++ status ++ space ++ reason) ++ end ++ ((type ++ kind) ++ end)
regroup_front version status space reason end type kind = simp append_assoc

-- The pieces in a row are the lines of the status and of the body's type.
pub front-pieces : (status reason kind : List ℕ)
    → codes "HTTP/1.1 " ++ (status ++ (32 ∷ (reason ++ (13 ∷ 10 ∷ (codes "Content-Type: " ++ (kind ++ 13 ∷ 10 ∷ []))))))
    ≡ line (codes "HTTP/1.1 " ++ status ++ codes " " ++ reason) ++ line (codes "Content-Type: " ++ kind)
front-pieces status reason kind =
    regroup_front (codes "HTTP/1.1 ") status (codes " ") reason (13 ∷ 10 ∷ []) (codes "Content-Type: ") kind

-- The pieces in a row are the lines from the length of the body on, whatever they are.
regroup_tail : (length size end closing : List ℕ)
    → length ++ (size ++ (end ++ (closing ++ end))) ≡ ((length ++ size) ++ end) ++ closing ++ end
regroup_tail length size end closing = simp append_assoc

-- The pieces in a row are the lines of a reply from the length of its body on.
pub tail-pieces : (size closing : List ℕ)
    → codes "Content-Length: " ++ (size ++ (13 ∷ 10 ∷ (closing ++ 13 ∷ 10 ∷ []))) ≡ line (codes "Content-Length: " ++ size) ++ closing ++ line []
tail-pieces size closing = regroup_tail (codes "Content-Length: ") size (13 ∷ 10 ∷ []) closing

-- The line of a route's methods, piece by piece.
pub allow-pieces : (methods : List ℕ) → codes "Allow: " ++ (methods ++ 13 ∷ 10 ∷ []) ≡ line (codes "Allow: " ++ methods)
allow-pieces methods = simp append_assoc

-- A route has methods, which it allows.
pub allowing-route : (route : Route) → allowing (methods_of route) ≡ line (codes "Allow: " ++ allowed (methods_of route))
allowing-route Albums = refl
allowing-route Recordings = refl
allowing-route AlbumRecordings = refl
allowing-route Audio = refl
allowing-route RecordingAlbum = refl
allowing-route Recording = refl
allowing-route Album = refl
