-- What was found that a request asks.
use Rattle.std.specs.Prelude.{ℕ, List, []}
use Rattle.http_inbox.specs.declared.heads.Heading.{Heading}
use Rattle.http_inbox.specs.Heads.{IsHeadingOf}
use Rattle.httparse.specs.Grammar.{RequestHead}
use Rattle.kept_replies.specs.Tokens.{text_of}
use Rattle.library_model.specs.Asked as asked
use Rattle.http_routes.specs.Routes.{methods_if}
use Rattle.http_model.specs.Asking.{name_values, wanted_at}
use Rattle.http_model.specs.Requests.{Framed}
use Rattle.http_asking.specs.declared.asking.Asking.{Asking}
use Rattle.http_asking.specs.declared.asking.Asking.TheVariants.{Refused, Question, Change}
use Rattle.http_asking.specs.declared.wants.Wanted.{Wanted}
use Rattle.http_asking.specs.declared.wants.Wanted.TheVariants.{Malformed, Command}

-- what is said that a request asks
abbrev pub said : Asking → Framed → asked.Asked
said (Refused reply allows) q = asked.refused reply
said (Question about) q = asked.question about
said (Change token mark resource) q = asked.change (text_of token) mark (wanted_at resource (name_values q.head) q.body)

-- the methods that it says the reply names
abbrev pub allowed_by : Asking → List (List ℕ)
allowed_by (Refused reply allows) = methods_if allows
allowed_by (Question about) = []
allowed_by (Change token mark resource) = []

-- what is said that a change wants
abbrev pub wanted_said : Wanted → asked.Wanted
wanted_said (Malformed reply) = asked.malformed reply
wanted_said (Command command) = asked.command command

-- a head begins the bytes, and the heading says where its parts lie
abbrev pub HasHeading : List ℕ → Heading → Type 0
HasHeading bytes heading = (head : RequestHead) × IsHeadingOf bytes heading head
