use Rattle.catalogue_core.proofs.Loading.{Opens-loaded}
use Rattle.catalogue_core.proofs.libraries.Library.open.Goals as goal

pub returns-in-Ok : goal.returns-in-Ok
returns-in-Ok g c = Opens-loaded _ _ c.in-Ok.tables c.library_of.result c.in-Ok.ensures c.library_of.ensures
