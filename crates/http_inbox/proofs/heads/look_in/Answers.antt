use Rattle.std.proofs.Common.{◌∙◌, length}
use Rattle.http_inbox.proofs.HeadLemmas.{heading_found, HasNoHead-overflow}
use Rattle.http_inbox.proofs.heads.look_in.Goals as goal

pub returns-in-Complete : goal.returns-in-Complete
returns-in-Complete c =
    heading_found c.args.bytes.now c.parse_head.new.headers c.in-Complete.head c.heading_of.result
    c.in-Complete.ensures.found.0 c.in-Complete.ensures.found.1 c.requires.short (c.in-Complete.ensures.places ∙ c.requires.few)
    c.heading_of.ensures.len c.heading_of.ensures.method c.heading_of.ensures.target c.heading_of.ensures.fields

pub returns-in-Invalid : goal.returns-in-Invalid
returns-in-Invalid c = (
  c.requires.some,
  HasNoHead-overflow c.args.bytes.now (length c.args.headers.now) c.requires.few c.in-Invalid.ensures.found,
)
