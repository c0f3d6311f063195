use Rattle.std.proofs.Common.{rules, ◌≡◌, ◌&&◌, Bool, true, false, refl}
use Rattle.clap.specs.Words.{is_simple, app_of}
use Rattle.cli_words.proofs.applications.read_matches.Goals as goal

-- the first of two tests that both hold
first : (a b : Bool) → (a && b) ≡ true → a ≡ true
first true b both = refl
first false b both = both

pub returns-in-Ok : goal.returns-in-Ok
returns-in-Ok c = (
  c.in-Ok.ensures.kinds c.requires,
  (c.in-Ok.ensures.matches (first (is_simple (app_of c.args.application)) _ c.requires)).0,
)
