-- Imports are decided as the machine decides them.
use Rattle.std.proofs.Common.{◌≡◌, ◌+◌, ◌++◌, ◌∙◌, ℕ, true, false, List, [], ◌∷◌, Option, None, Some, map, refl, sym, ap, subst}
use Rattle.album_merge.specs.Tallies.{Tallied, StandsForMeasured}
use Rattle.catalogue_rows.specs.Making.{FitsAll}
use Rattle.catalogue_rows.specs.Seeing.{is_full_in}
use Rattle.catalogue_rows.specs.declared.fresh.Fresh.{Fresh}
use Rattle.file_model.specs.Pcm.{Pcm}
use Rattle.lib_base.specs.declared.files.Measured.{Measured}
use Rattle.lib_base.specs.declared.files.Summary.{Summary}
use Rattle.keeper_store.specs.Changes.{changed, changed_all, next_numbers}
use Rattle.keeper_store.specs.declared.contents.Change.TheVariants.{Counters, PutAlbum, PutSegments}
use Rattle.keeper_store.specs.declared.contents.Tables.{Tables}
use Rattle.keeper_store.specs.declared.row_types.AlbumRow.{AlbumRow}
use Rattle.keeper_store.specs.declared.row_types.RecordingRow.{RecordingRow}
use Rattle.library_model.specs.Batches.{AreResummed, crowds, ids_in, import_batch, import_changes, import_row}
use Rattle.library_model.specs.Bodies.{row_reply}
use Rattle.library_model.specs.Findings.{Finds, measured as found, measured_of}
use Rattle.library_model.specs.RowRules.{album_is_there, measured_in}
use Rattle.library_model.specs.Stands.{IsValid, IsWithinLimit, segments_of, tables_of}
use Rattle.library_model.specs.State.{State}
use Rattle.library_model.specs.declared.messages.Command.TheVariants.{Import}
use Rattle.library_model.specs.declared.messages.Reply.{Reply}
use Rattle.sound_model.specs.Summaries.{IsWithinBounds}
use Rattle.library_model.proofs.LeadsImport.{import_leads}
use Rattle.library_model.proofs.RowsPut.{import_puts, measured_in-put, unnamed_next}
use Rattle.catalogue_core.specs.Imports.{IsHome, IsOpenTo, IsTake}
use Rattle.catalogue_core.specs.Looking.{lacks_numbers}
use Rattle.catalogue_core.specs.Plans.{DecidedFrom, IsPlan}
use Rattle.catalogue_core.specs.Resumming.{IsResummedIn, JoinsNamed, in_list}
use Rattle.catalogue_core.specs.declared.plans.Decision.TheVariants.{Planned}
use Rattle.catalogue_core.specs.declared.plans.Plan.{Plan}
use Rattle.catalogue_core.proofs.Closings.{closing_fits, resummed_list, resummed_there}
use Rattle.catalogue_core.proofs.Planned.{planned}
use Rattle.catalogue_core.proofs.Puts.{fits_recording, joins_named, others_measured}
use Rattle.catalogue_core.proofs.Taken.{finds_take}

-- the row of an import into a state
abbrev row_in : State → Option ℕ → List ℕ → List ℕ → Measured → Summary → RecordingRow
row_in s album name file m summary = import_row (next_numbers (tables_of s)) album name file m summary

-- the tables once it is there
abbrev pub tables_after : State → Option ℕ → List ℕ → List ℕ → Measured → Summary → Tables
tables_after s album name file m summary =
    changed_all (import_changes (next_numbers (tables_of s)) m (row_in s album name file m summary)) (tables_of s)

-- what the tables have as measured of it is what was measured, once its segments are there
pub measured_after : (t : Tables) (row : RecordingRow) (m : Measured) (tally : Tallied) → IsWithinBounds m
    → StandsForMeasured tally m → row.channels ≡ m.channels → row.depth ≡ m.depth → row.summary ≡ tally.summary
    → measured_in (changed (PutSegments (segments_of row.take m)) t) row ≡ m
measured_after t row m tally within stands channels depth levels =
    measured_in-put t row m within channels depth
    (ap (λ (u : Summary). u.frames) levels ∙ stands.summary.frames_kept) (ap (λ (u : Summary). u.peak) levels ∙ stands.summary.peak_kept)

-- An import joins its album, if one is named.
pub import_joins : (s : State) (album : Option ℕ) (name file : List ℕ) (m : Measured) (tally : Tallied) → IsValid s
    → album_is_there album (tables_of s).albums ≡ true → crowds None album (tables_of s).recordings ≡ false → IsWithinBounds m
    → StandsForMeasured tally m
    → JoinsNamed album s.next_recording tally (tables_of s) (tables_after s album name file m tally.summary)
import_joins s album name file m tally valid there few within stands =
    let t = tables_of s in
    let next = tables_after s album name file m tally.summary in
    let row = row_in s album name file m tally.summary in
    let puts = import_puts s album name file m tally.summary valid there few in
    let same = measured_after (changed (Counters s.next_album (s.next_recording + 1) (s.next_take + 1)) t) row m tally within stands refl refl refl in
    joins_named t next row album tally refl
    (record { recordings = refl; others = others_measured row.id (segments_of s.next_take m) t next (unnamed_next s valid) refl })
    puts (subst (StandsForMeasured tally) (sym same) stands)

-- An import crowds an album that is full.
pub crowds_none : (t : Tables) (album : Option ℕ) → crowds None album t.recordings ≡ is_full_in t album
crowds_none t None = refl
crowds_none t (Some album) = refl

-- What is planned of an import of which that is measured, with its levels, and the row of its album.
pub record IsImport (s : State) (album : Option ℕ) (name file : List ℕ) (summary : Summary) (resummed : Option AlbumRow) (plan : Plan) (m : Measured) : Type 0 where
  pub is : IsPlan (import_changes (next_numbers (tables_of s)) m (row_in s album name file m summary) ++ map PutAlbum (in_list resummed)) None
      (row_reply 201 (row_in s album name file m summary)) plan
  pub sums : IsResummedIn (tables_of s) (tables_after s album name file m summary) album resummed
  pub tally : Tallied
  pub fresh : plan.fresh ≡ record { tally = Some tally; album = None }
  pub stands : StandsForMeasured tally m
  pub levels : tally.summary ≡ summary

-- Its changes can be made of the tables.
import_fits : (s : State) (album : Option ℕ) (name file : List ℕ) (m : Measured) (tally : Tallied) (albums : List AlbumRow) (token mark : List ℕ)
    → IsValid s → album_is_there album (tables_of s).albums ≡ true → crowds None album (tables_of s).recordings ≡ false → IsWithinBounds m
    → StandsForMeasured tally m
    → AreResummed (tables_of s).albums (tables_after s album name file m tally.summary) (ids_in album) albums
    → FitsAll (import_batch (next_numbers (tables_of s)) m (row_in s album name file m tally.summary) albums token mark
    (row_reply 201 (row_in s album name file m tally.summary))) (record { tally = Some tally; album = None }) (tables_of s)
import_fits s album name file m tally albums token mark valid there few within stands sums =
    let t = tables_of s in
    let row = row_in s album name file m tally.summary in
    let now = changed (PutSegments (segments_of s.next_take m)) (changed (Counters s.next_album (s.next_recording + 1) (s.next_take + 1)) t) in
    let same : measured_in now row ≡ m =
    measured_after (changed (Counters s.next_album (s.next_recording + 1) (s.next_take + 1)) t) row m tally within stands refl refl refl in
    let puts = import_puts s album name file m tally.summary valid there few in
    let fits = fits_recording t now row (Some tally) puts refl refl (subst (StandsForMeasured tally) (sym same) stands) in
    let after = tables_after s album name file m tally.summary in (
      tt,
      (
        unnamed_next s valid,
        (
          fits,
          closing_fits albums token mark (row_reply 201 row) (record { tally = None; album = None }) after (resummed_there t after (ids_in album) albums sums),
        ),
      ),
    )

-- A planned import of a sound is what is decided.
import_of_sound : (s : State) (token mark : List ℕ) (album : Option ℕ) (name file : List ℕ) (sound : Pcm) (summary : Summary)
    (resummed : Option AlbumRow) (plan : Plan) → IsOpenTo s token → IsHome s album name → IsWithinLimit file → Finds file (found sound summary)
    → IsWithinBounds (measured_of sound) → crowds None album (tables_of s).recordings ≡ false → lacks_numbers (next_numbers (tables_of s)) ≡ false
    → IsImport s album name file summary resummed plan (measured_of sound) → DecidedFrom s token mark (Import album name file) (Planned plan)
import_of_sound s token mark album name file sound summary resummed plan open_ home limit finds within few left import =
    let t = tables_of s in
    let m = measured_of sound in
    let row = row_in s album name file m summary in
    let albums = in_list resummed in
    let sums = resummed_list t (tables_after s album name file m summary) album resummed import.sums in
    let leads = import_leads s token mark album name file sound summary albums open_.valid open_.fresh home.named limit home.there finds few left sums in
    let Fits : Summary → Type 0 = λ u. AreResummed t.albums (tables_after s album name file m u) (ids_in album) albums
    → FitsAll (import_batch (next_numbers t) m (row_in s album name file m u) albums token mark (row_reply 201 (row_in s album name file m u)))
    (record { tally = Some import.tally; album = None }) t in
    let fits = subst Fits import.levels
    (import_fits s album name file m import.tally albums token mark open_.valid home.there few within import.stands) sums in
    planned s token mark (Import album name file) (import_changes (next_numbers t) m row ++ map PutAlbum albums) None (row_reply 201 row) plan import.is
    leads (rw import.fresh fits)

-- So is one of what is measured of an accepted file.
pub import_decided : (s : State) (token mark : List ℕ) (album : Option ℕ) (name file : List ℕ) (m : Measured) (tally : Tallied)
    (resummed : Option AlbumRow) (plan : Plan) → IsOpenTo s token → IsHome s album name → IsTake file m tally
    → crowds None album (tables_of s).recordings ≡ false → lacks_numbers (next_numbers (tables_of s)) ≡ false
    → IsImport s album name file tally.summary resummed plan m → DecidedFrom s token mark (Import album name file) (Planned plan)
import_decided s token mark album name file m tally resummed plan open_ home take few left import =
    let is = take.measured.measured_is in
    import_of_sound s token mark album name file take.sound tally.summary resummed plan open_ home take.within (finds_take file m tally take)
    (subst IsWithinBounds is take.measured.within) few left (subst (IsImport s album name file tally.summary resummed plan) is import)
