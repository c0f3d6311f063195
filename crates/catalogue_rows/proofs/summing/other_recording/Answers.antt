use Rattle.std.proofs.Common.{◌≡◌, refl, subst}
use Rattle.lib_base.specs.declared.files.Summary.{Summary}
use Rattle.sound_model.specs.Albums.{SummarisesMeasured}
use Rattle.sound_model.specs.Blocks.{blocks_of, windows_of}
use Rattle.sound_model.proofs.SummaryLaws.{Summarises-unique}
use Rattle.catalogue_rows.proofs.Summed.{summary_same, summary_differs}
use Rattle.catalogue_rows.proofs.summing.other_recording.Goals as goal

pub returns-then-eq : goal.returns-then-eq
returns-then-eq c measured is =
    let same : c.summary.result ≡ c.args.row.now.summary = summary_same c.summary.result c.args.row.now.summary c.if-eq.ensures in
    subst (λ (s : Summary). SummarisesMeasured measured s) same (c.summary.ensures.value measured is)

pub returns : goal.returns
returns c measured is =
    let differs = summary_differs c.summary.result c.args.row.now.summary c.if-eq.ensures in (
      λ has. differs
          (Summarises-unique measured.frames (blocks_of measured.energies) (windows_of measured.energies) measured.peak c.summary.result
          c.args.row.now.summary (c.summary.ensures.value measured is) has),
      rw c.from.ensures refl,
    )
