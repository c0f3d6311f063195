-- What a request sees of the replies that a library keeps.
use Rattle.std.specs.Prelude.{ℕ, List}
use Rattle.std.specs.Option.{option_map}
use Rattle.kept_replies.specs.Seeing.{SeenAs}
use Rattle.kept_replies.specs.declared.replies.Seen.{Seen}
use Rattle.library_model.specs.Machine.{kept_under}
use Rattle.library_model.specs.Stands.{reply_row}
use Rattle.library_model.specs.State.{State}

-- A request with this token and this mark sees what the state keeps under the token: the reply again where the mark is that of the kept
-- one, that the token is another request's where it is not, or that it is fresh.
abbrev pub Sees : State → List ℕ → List ℕ → Seen → Type 0
Sees s token mark what = SeenAs (option_map reply_row (kept_under token s.replies)) mark what
