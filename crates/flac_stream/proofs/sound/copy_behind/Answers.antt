use Rattle.std.proofs.Common.{◌≡◌, ◌+◌, ◌++◌, List, take, sym, subst}
use Rattle.std.specs.Prelude.{ℤ}
use Rattle.lib_base.specs.Sounds.{part}
use Rattle.flac_stream.proofs.Sounding.{copied_behind}
use Rattle.flac_stream.proofs.sound.copy_behind.Goals as goal

pub returns-clause-written : goal.returns-clause-written
returns-clause-written c =
    let old = c.args.out.now in
    let done = c.args.done in
    let count = c.copy_front.result in
    let copied = copied_behind old c.copy_front.new.out c.args.samples.now done count c.args.from c.requires.done c.copy_front.ensures.written in
    subst (λ (front : List ℤ). take (done + count) (front ++ c.copy_front.new.out) ≡ take done old ++ part c.args.samples.now c.args.from count)
    (sym c.split_at_mut-rest.ensures.front) copied
