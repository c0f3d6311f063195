use Rattle.std.proofs.Common.{◌≡◌, ◌∙◌, ℕ, List, codes, ap}
use Rattle.http_routes.specs.Routes.{Rows, with_path}
use Rattle.http_routes.specs.declared.routes.Route.{Route}
use Rattle.http_routes.specs.declared.routes.Route.TheVariants.{Albums, Recordings, AlbumRecordings, Audio, RecordingAlbum, Recording, Album}
use Rattle.http_routes.proofs.routes.Paths.new.Goals as goal

-- the same path more
more : (route : Route) (path : List ℕ) (a b : Rows) → a ≡ b → with_path route path a ≡ with_path route path b
more route path a b same = ap (with_path route path) same

pub invariant_of-result : goal.invariant_of-result
invariant_of-result c =
    c.in_ok-router-7.ensures
    ∙ more Album (codes "/albums/{a}") _ _ (c.in_ok-router-6.ensures
    ∙ more Recording (codes "/recordings/{r}") _ _ (c.in_ok-router-5.ensures
    ∙ more RecordingAlbum (codes "/recordings/{r}/album") _ _ (c.in_ok-router-4.ensures
    ∙ more Audio (codes "/recordings/{r}/audio") _ _ (c.in_ok-router-3.ensures
    ∙ more AlbumRecordings (codes "/albums/{a}/recordings") _ _ (c.in_ok-router-2.ensures
    ∙ more Recordings (codes "/recordings") _ _ (c.in_ok-router.ensures
    ∙ more Albums (codes "/albums") _ _ (c.new-router.ensures)))))))

pub returns : goal.returns
returns c = invariant_of-result c
