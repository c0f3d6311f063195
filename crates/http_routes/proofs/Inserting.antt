-- A path that a router took stands in its place.
use Rattle.std.proofs.Common.{◌≡◌, Result, Ok, Err, ap, inl, inr, sym}
use Rattle.std.specs.Prelude.{is_ok}
use Rattle.std.proofs.lemmas.Bool.{false≢true}
use Rattle.matchit.specs.Route.{Scan}
use Rattle.matchit.specs.Router.{InsertsRead}
use Rattle.matchit.specs.declared.error.InsertError.{InsertError}
use Rattle.http_routes.specs.Routes.{Rows, with_scan}
use Rattle.http_routes.specs.declared.routes.Route.{Route}

-- What was read of the path was taken.
pub taken : (read : Result Scan InsertError) (route : Route) (old new : Rows) (u : Unit {0})
    → InsertsRead read route old new (Ok u) → new ≡ with_scan route read old
taken (Ok scan) route old new u put = put.1
taken (Err e) route old new u put =
    elim put.1 [
      | inl same ↦ absurd (false≢true (sym (ap is_ok same)))
      | inr same ↦ absurd (false≢true (sym (ap is_ok same)))
    ]
