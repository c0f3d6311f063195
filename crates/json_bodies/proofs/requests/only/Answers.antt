use Rattle.std.proofs.Common.{rules, ◌≡◌, ◌==◌, ◌∙◌, true, false, Some, length, sym}
use Rattle.serde_json.specs.Find.{as_object}
use Rattle.serde_json.specs.View.{view, members_view}
use Rattle.json_bodies.proofs.Reading.{only-entries}
use Rattle.json_bodies.proofs.requests.only.Goals as goal

pub returns-then-len-eq1 : goal.returns-then-len-eq1
returns-then-len-eq1 c =
    let entries = c.in_ok-members.members.now.entries in
    let known : Some (members_view entries) ≡ as_object (view c.args.value.now) = search rules in
    let one : (length entries == 1) ≡ true = search rules in
    c.get.ensures ∙ sym (only-entries c.args.key.now (view c.args.value.now) entries true known one)

pub returns-else-len-eq1 : goal.returns-else-len-eq1
returns-else-len-eq1 c =
    let entries = c.in_ok-members.members.now.entries in
    let known : Some (members_view entries) ≡ as_object (view c.args.value.now) = search rules in
    let other : (length entries == 1) ≡ false = search rules in
    sym (only-entries c.args.key.now (view c.args.value.now) entries false known other)
