use Rattle.std.proofs.Common.{◌∙◌, ap}
use Rattle.md5.specs.Md5.{md5}
use Rattle.http_asking.proofs.MarkLemmas.{parts}
use Rattle.http_asking.proofs.marks.mark_of.Goals as goal

pub returns : goal.returns
returns c =
    let one = c.update.ensures _ c.new-hasher.ensures in
    let two = c.update-2.ensures _ one in
    let three = c.update-3.ensures _ two in
    let four = c.update-4.ensures _ three in
    let five = c.update-5.ensures _ four in
    let six = c.update-6.ensures _ five in
    let seven = c.update-7.ensures _ six in
    c.finalize.ensures _ seven ∙ ap md5 (parts c.args.method.now c.args.target.now c.args.name.now c.args.body.now _ _ _
    c.as_slice.ensures c.as_slice-2.ensures c.as_slice-3.ensures)
