use Rattle.std.proofs.Common.{◌≡◌, ◌+◌, ℕ, Bool, List, drop, ap, sym, ◌∙◌}
use Rattle.bit_codec.specs.Reader.{left}
use Rattle.file_model.specs.Bits.{bits}
use Rattle.file_model.specs.FlacFile.{bits_number}
use Rattle.flac_stream.proofs.Infos.{number_behind}
use Rattle.flac_stream.proofs.info.number_in.Goals as goal

pub unreachable-requires : goal.unreachable-requires
unreachable-requires c =
    let whole = number_behind c.args.content.now _ c.args.from c.args.count c.requires.stands c.requires.inside in
    let cut = c.in-Err.ensures.gives in cc

pub returns-clause-value : goal.returns-clause-value
returns-clause-value c =
    let whole = number_behind c.args.content.now _ c.args.from c.args.count c.requires.stands c.requires.inside in
    let read = sym c.in-Ok.ensures.gives ∙ whole in
    let same : (c.in-Ok.value, left c.take.new.self) ≡ (bits_number c.args.content.now c.args.from c.args.count, drop (c.args.from + c.args.count) (bits c.args.content.now)) = cc in
    ap (λ (p : ℕ × List Bool). p.0) same

pub returns-clause-moved : goal.returns-clause-moved
returns-clause-moved c =
    let whole = number_behind c.args.content.now _ c.args.from c.args.count c.requires.stands c.requires.inside in
    let read = sym c.in-Ok.ensures.gives ∙ whole in
    let same : (c.in-Ok.value, left c.take.new.self) ≡ (bits_number c.args.content.now c.args.from c.args.count, drop (c.args.from + c.args.count) (bits c.args.content.now)) = cc in
    ap (λ (p : ℕ × List Bool). p.1) same
