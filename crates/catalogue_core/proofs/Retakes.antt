-- New takes are decided as the machine decides them.
use Rattle.std.proofs.Common.{◌≡◌, ◌+◌, ◌++◌, ◌==◌, ℕ, false, List, [], ◌∷◌, Option, None, Some, map, nat_le, refl, sym, ap, ◌∙◌, subst}
use Rattle.std.specs.List.{find}
use Rattle.album_merge.specs.Tallies.{Tallied, StandsForMeasured}
use Rattle.catalogue_rows.specs.Making.{FitsAll}
use Rattle.lib_base.specs.declared.files.Measured.{Measured}
use Rattle.lib_base.specs.declared.files.Summary.{Summary}
use Rattle.lib_base.specs.declared.limits.TheConstants.{NUMBERS_END}
use Rattle.file_model.specs.Pcm.{Pcm}
use Rattle.keeper_store.specs.Changes.{changed, changed_all, next_numbers}
use Rattle.keeper_store.specs.declared.contents.Change.TheVariants.{Counters, DropSegments, PutAlbum, PutSegments}
use Rattle.keeper_store.specs.declared.contents.Tables.{Tables}
use Rattle.keeper_store.specs.declared.row_types.AlbumRow.{AlbumRow}
use Rattle.keeper_store.specs.declared.row_types.RecordingRow.{RecordingRow}
use Rattle.library_model.specs.Batches.{AreResummed, ids_in, retake_batch, retake_changes, retake_row}
use Rattle.library_model.specs.Bodies.{row_reply}
use Rattle.library_model.specs.Findings.{Finds, measured as found, measured_of}
use Rattle.library_model.specs.RowRules.{measured_in}
use Rattle.library_model.specs.Stands.{IsValid, IsWithinLimit, segments_of, tables_of}
use Rattle.library_model.specs.State.{State}
use Rattle.library_model.specs.declared.messages.Command.TheVariants.{Retake}
use Rattle.sound_model.specs.Summaries.{IsWithinBounds}
use Rattle.library_model.proofs.LeadsRetake.{retake_leads}
use Rattle.library_model.proofs.RowsPut.{measured_in-put, retake_frees, retake_puts, unnamed_next}
use Rattle.catalogue_core.specs.Imports.{HasRow, IsOpenTo, IsTake}
use Rattle.catalogue_core.specs.Plans.{DecidedFrom, IsPlan}
use Rattle.catalogue_core.specs.Resumming.{IsResummedIn, JoinsNamed, in_list}
use Rattle.catalogue_core.specs.declared.plans.Decision.TheVariants.{Planned}
use Rattle.catalogue_core.specs.declared.plans.Plan.{Plan}
use Rattle.catalogue_core.proofs.Closings.{closing_fits, resummed_list, resummed_there}
use Rattle.catalogue_core.proofs.Imports.{measured_after}
use Rattle.catalogue_core.proofs.Planned.{planned}
use Rattle.catalogue_core.proofs.Puts.{fits_recording, joins_named, others_measured}
use Rattle.catalogue_core.proofs.Taken.{finds_take}

-- the row of a recording with another file
abbrev row_in : State → RecordingRow → List ℕ → Measured → Summary → RecordingRow
row_in s old file m summary = retake_row (next_numbers (tables_of s)) old file m summary

-- the tables once it is there, before the segments of the take before go
abbrev pub tables_after : State → RecordingRow → List ℕ → Measured → Summary → Tables
tables_after s old file m summary = changed_all (retake_changes (next_numbers (tables_of s)) m (row_in s old file m summary)) (tables_of s)

-- A new take stays in its album, if it is in one.
pub retake_joins : (s : State) (id : ℕ) (old : RecordingRow) (file : List ℕ) (m : Measured) (tally : Tallied) → IsValid s → HasRow s id old
    → IsWithinBounds m → StandsForMeasured tally m
    → JoinsNamed old.album old.id tally (tables_of s) (tables_after s old file m tally.summary)
retake_joins s id old file m tally valid there within stands =
    let t = tables_of s in
    let next = tables_after s old file m tally.summary in
    let row = row_in s old file m tally.summary in
    let puts = retake_puts s id old file m tally.summary valid there in
    let same = measured_after (changed (Counters s.next_album s.next_recording (s.next_take + 1)) t) row m tally within stands refl refl refl in
    joins_named t next row old.album tally refl
    (record { recordings = refl; others = others_measured row.id (segments_of s.next_take m) t next (unnamed_next s valid) refl })
    puts (subst (StandsForMeasured tally) (sym same) stands)

-- What is planned of a new take of which that is measured, with its levels, and the row of its album.
pub record IsRetake (s : State) (old : RecordingRow) (file : List ℕ) (summary : Summary) (resummed : Option AlbumRow) (plan : Plan) (m : Measured) : Type 0 where
  pub is : IsPlan (retake_changes (next_numbers (tables_of s)) m (row_in s old file m summary) ++ DropSegments old.take ∷ map PutAlbum (in_list resummed))
      (Some old.take) (row_reply 200 (row_in s old file m summary)) plan
  pub sums : IsResummedIn (tables_of s) (tables_after s old file m summary) old.album resummed
  pub tally : Tallied
  pub fresh : plan.fresh ≡ record { tally = Some tally; album = None }
  pub stands : StandsForMeasured tally m
  pub levels : tally.summary ≡ summary

-- Its changes can be made of the tables.
retake_fits : (s : State) (id : ℕ) (old : RecordingRow) (file : List ℕ) (m : Measured) (tally : Tallied) (albums : List AlbumRow) (token mark : List ℕ)
    → IsValid s → HasRow s id old → IsWithinBounds m → StandsForMeasured tally m
    → AreResummed (tables_of s).albums (tables_after s old file m tally.summary) (ids_in old.album) albums
    → FitsAll (retake_batch (next_numbers (tables_of s)) m old (row_in s old file m tally.summary) albums token mark
    (row_reply 200 (row_in s old file m tally.summary))) (record { tally = Some tally; album = None }) (tables_of s)
retake_fits s id old file m tally albums token mark valid there within stands sums =
    let t = tables_of s in
    let row = row_in s old file m tally.summary in
    let now = changed (PutSegments (segments_of s.next_take m)) (changed (Counters s.next_album s.next_recording (s.next_take + 1)) t) in
    let same : measured_in now row ≡ m =
    measured_after (changed (Counters s.next_album s.next_recording (s.next_take + 1)) t) row m tally within stands refl refl refl in
    let puts = retake_puts s id old file m tally.summary valid there in
    let fits = fits_recording t now row (Some tally) puts refl refl (subst (StandsForMeasured tally) (sym same) stands) in
    let after = tables_after s old file m tally.summary in
    let frees = retake_frees s id old file m tally.summary valid there in (
      tt,
      (
        unnamed_next s valid,
        (
          fits,
          (
            frees,
            closing_fits albums token mark (row_reply 200 row) (record { tally = None; album = None }) (changed (DropSegments old.take) after)
                (resummed_there t after (ids_in old.album) albums sums),
          ),
        ),
      ),
    )

-- A planned take of a sound is what is decided.
retake_of_sound : (s : State) (token mark : List ℕ) (id : ℕ) (old : RecordingRow) (file : List ℕ) (sound : Pcm) (summary : Summary)
    (resummed : Option AlbumRow) (plan : Plan) → IsOpenTo s token → HasRow s id old → IsWithinLimit file → Finds file (found sound summary)
    → IsWithinBounds (measured_of sound) → nat_le NUMBERS_END s.next_take ≡ false
    → IsRetake s old file summary resummed plan (measured_of sound) → DecidedFrom s token mark (Retake id file) (Planned plan)
retake_of_sound s token mark id old file sound summary resummed plan open_ there limit finds within left retake =
    let t = tables_of s in
    let m = measured_of sound in
    let row = row_in s old file m summary in
    let albums = in_list resummed in
    let sums = resummed_list t (tables_after s old file m summary) old.album resummed retake.sums in
    let leads = retake_leads s token mark id old file sound summary albums open_.valid open_.fresh limit there finds left sums in
    let Fits : Summary → Type 0 = λ u. AreResummed t.albums (tables_after s old file m u) (ids_in old.album) albums
    → FitsAll (retake_batch (next_numbers t) m old (row_in s old file m u) albums token mark (row_reply 200 (row_in s old file m u)))
    (record { tally = Some retake.tally; album = None }) t in
    let fits = subst Fits retake.levels (retake_fits s id old file m retake.tally albums token mark open_.valid there within retake.stands) sums in
    planned s token mark (Retake id file) (retake_changes (next_numbers t) m row ++ DropSegments old.take ∷ map PutAlbum albums) (Some old.take)
    (row_reply 200 row) plan retake.is leads (rw retake.fresh fits)

-- So is one of what is measured of an accepted file.
pub retake_decided : (s : State) (token mark : List ℕ) (id : ℕ) (old : RecordingRow) (file : List ℕ) (m : Measured) (tally : Tallied)
    (resummed : Option AlbumRow) (plan : Plan) → IsOpenTo s token → HasRow s id old → IsTake file m tally
    → nat_le NUMBERS_END s.next_take ≡ false → IsRetake s old file tally.summary resummed plan m
    → DecidedFrom s token mark (Retake id file) (Planned plan)
retake_decided s token mark id old file m tally resummed plan open_ there take left retake =
    let is = take.measured.measured_is in
    retake_of_sound s token mark id old file take.sound tally.summary resummed plan open_ there take.within (finds_take file m tally take)
    (subst IsWithinBounds is take.measured.within) left (subst (IsRetake s old file tally.summary resummed plan) is retake)
