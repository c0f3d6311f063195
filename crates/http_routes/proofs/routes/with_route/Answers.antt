use Rattle.matchit.specs.Route.{parse_route}
use Rattle.http_routes.proofs.Inserting.{taken}
use Rattle.http_routes.proofs.routes.with_route.Goals as goal

pub returns-in-Ok : goal.returns-in-Ok
returns-in-Ok c = taken (parse_route c.args.path.now) c.args.route c.args.router c.insert.new.self _ c.in-Ok.ensures
