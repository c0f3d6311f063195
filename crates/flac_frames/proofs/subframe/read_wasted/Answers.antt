use Rattle.std.proofs.Common.{sym, arith}
use Rattle.bit_codec.specs.Reader.{left}
use Rattle.file_model.proofs.OutcomesLemmas.{gives_same}
use Rattle.flac_frames.specs.Subframes.{coding_as}
use Rattle.flac_frames.proofs.Subframes.{none_wasted, some_wasted, wasted_cut, on_ok_then}
use Rattle.flac_frames.proofs.Wholes.{field_shorter}
use Rattle.flac_frames.proofs.subframe.read_wasted.Goals as goal

-- none are wasted
pub returns-in-Ok-eq0-clause-gives : goal.returns-in-Ok-eq0-clause-gives
returns-in-Ok-eq0-clause-gives c =
    none_wasted c.args.depth (coding_as c.args.coding) c.in-Ok-eq0.field-0 (left c.args.reader.now) (left c.take.new.self) c.requires c.in-Ok-eq0.ensures.gives
    (omega arith)

pub returns-in-Ok-eq0-clause-later : goal.returns-in-Ok-eq0-clause-later
returns-in-Ok-eq0-clause-later c = let shorter = field_shorter 1 _ _ _ c.in-Ok-eq0.ensures.gives in omega (arith, shorter)

-- some are
pub returns-in-Ok-clause-gives : goal.returns-in-Ok-clause-gives
returns-in-Ok-clause-gives c =
    gives_same _ c.read_some_wasted.result _ _
    (sym (some_wasted c.args.depth (coding_as c.args.coding) c.in-Ok.field-0 (left c.args.reader.now) (left c.take.new.self) c.in-Ok.ensures.gives
    (λ none. absurd (omega (arith, none)))))
    c.read_some_wasted.ensures.gives

pub returns-in-Ok-clause-later : goal.returns-in-Ok-clause-later
returns-in-Ok-clause-later c =
    let shorter = field_shorter 1 _ _ _ c.in-Ok.ensures.gives in
    on_ok_then c.read_some_wasted.result (λ less. omega (arith, shorter, less)) c.read_some_wasted.ensures.later

-- the flag is cut
pub returns-in-Err-clause-gives : goal.returns-in-Err-clause-gives
returns-in-Err-clause-gives c =
    wasted_cut c.args.depth (coding_as c.args.coding) (left c.args.reader.now) c.in-Err.fault c.into.result c.in-Err.ensures.gives c.into.ensures
