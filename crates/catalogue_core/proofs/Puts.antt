-- Recordings that are put with a new take, or moved.
use Rattle.std.proofs.Common.{◌≡◌, ◌≢◌, ◌≤◌, ◌==◌, ℕ, Bool, true, false, cond, nat_lt, List, [], ◌∷◌, Option, None, Some, refl, sym, ap, ◌∙◌, subst, arith}
use Rattle.std.specs.List.{AllByRecursion}
use Rattle.std.specs.Prelude.{IfSome}
use Rattle.std.proofs.lemmas.Bool.Decides.{nat_tests}
use Rattle.album_merge.specs.Tallies.{Tallied, StandsForMeasured}
use Rattle.catalogue_rows.specs.Making.{FitsRecording, HasTally, Moves}
use Rattle.catalogue_rows.specs.Trying.{HasPlaceFor, MeasuresOthers, PutsRow}
use Rattle.lib_base.specs.declared.files.Measured.{Measured}
use Rattle.lib_base.specs.declared.limits.TheConstants.{MOST_MEMBERS}
use Rattle.keeper_store.specs.Changes.{changed}
use Rattle.keeper_store.specs.EnergyBytes.{energies_in}
use Rattle.keeper_store.specs.Puts.{put, recording_less, segments_less}
use Rattle.keeper_store.specs.declared.contents.Change.TheVariants.{PutSegments}
use Rattle.keeper_store.specs.declared.contents.Tables.{Tables}
use Rattle.keeper_store.specs.declared.row_types.AlbumRow.{AlbumRow}
use Rattle.keeper_store.specs.declared.row_types.RecordingRow.{RecordingRow}
use Rattle.keeper_store.specs.declared.row_types.SegmentRow.{SegmentRow}
use Rattle.library_model.specs.RowRules.{album_is_there, energies_of_take, has_album, measured_in, member_count}
use Rattle.library_model.specs.Stands.{segments_of}
use Rattle.library_model.proofs.Counting.{at_there}
use Rattle.library_model.proofs.Imports.{AllByRecursion-weaker}
use Rattle.library_model.proofs.RowsPut.{PutsRecording, Unnamed}
use Rattle.catalogue_core.specs.Resumming.{JoinsNamed, MovesIntoNamed}

-- the album that is named, if one is, has not too many recordings
pub few_in : (t : Tables) (row : RecordingRow) → PutsRecording t row
    → IfSome row.album (λ album. member_count album (put recording_less row t.recordings) ≤ MOST_MEMBERS)
few_in t row puts = by_album row.album puts.there
  where
    by_album : (album : Option ℕ) → album_is_there album t.albums ≡ true
        → IfSome album (λ album. member_count album (put recording_less row t.recordings) ≤ MOST_MEMBERS)
    by_album None there = tt
    by_album (Some album) there =
        at_there (λ (id : ℕ). member_count id (put recording_less row t.recordings) ≤ MOST_MEMBERS) album t.albums puts.few there

-- the album that is named has a place for the recording
pub place_for : (t next : Tables) (row : RecordingRow) (album : ℕ) → row.album ≡ Some album → PutsRow row t next → PutsRecording t row
    → HasPlaceFor album t next
place_for t next row album is comes puts = record {
  there = subst (λ (a : Option ℕ). album_is_there a t.albums ≡ true) is puts.there;
  few = subst (λ (rows : List RecordingRow). member_count album rows ≤ MOST_MEMBERS) (sym comes.recordings)
      (subst (λ (a : Option ℕ). IfSome a (λ album. member_count album (put_row row t) ≤ MOST_MEMBERS)) is (few_in t row puts));
}
  where
    put_row : RecordingRow → Tables → List RecordingRow
    put_row row t = put recording_less row t.recordings

-- A recording can be put into tables that have the same albums and recordings, where it has a tally.
pub fits_recording : (t now : Tables) (row : RecordingRow) (tally : Option Tallied) → PutsRecording t row → now.albums ≡ t.albums
    → now.recordings ≡ t.recordings → HasTally tally row now → FitsRecording row tally now
fits_recording t now row tally puts albums recordings has = record {
  there = subst (λ (rows : List AlbumRow). album_is_there row.album rows ≡ true) (sym albums) puts.there;
  few = subst (λ (rows : List RecordingRow). IfSome row.album (λ album. member_count album (put recording_less row rows) ≤ MOST_MEMBERS))
      (sym recordings) (few_in t row puts);
  its = has;
}

-- A recording that is put with a new take joins the album that it names, if it names one.
pub joins_named : (t next : Tables) (row : RecordingRow) (album : Option ℕ) (tally : Tallied) → row.album ≡ album → PutsRow row t next
    → PutsRecording t row → StandsForMeasured tally (measured_in next row) → JoinsNamed album row.id tally t next
joins_named t next row None tally is put puts stands = tt
joins_named t next row (Some album) tally is put puts stands = (
  record {
    comes = record { row = row; puts = put; same = refl; inside = is };
    stands = stands;
  },
  place_for t next row album is put puts,
)

-- One that moves with its own tally does so too.
pub moves_named : (t next : Tables) (row : RecordingRow) (album : Option ℕ) → row.album ≡ album → PutsRow row t next
    → PutsRecording t row → Moves row t → measured_in next row ≡ measured_in t row → MovesIntoNamed album row.id t next
moves_named t next row None is put puts moves same = tt
moves_named t next row (Some album) is put puts moves same = (
  record {
    comes = record { row = row; puts = put; same = refl; inside = is };
    moves = moves;
    measured = same;
  },
  place_for t next row album is put puts,
)

-- the energies of another take stay where segments are put
energies_put : (take : ℕ) (row : SegmentRow) (rows : List SegmentRow) → take ≢ row.take
    → energies_of_take take (put segments_less row rows) ≡ energies_of_take take rows
energies_put take row [] apart =
    let test : (row.take == take) ≡ false = grind (arith, nat_tests, apart) in rw test refl
energies_put take row (s ∷ rows) apart =
    cases (energies_put take row rows apart) (nat_lt s.take row.take) refl (nat_lt row.take s.take) refl
  where
    test : (row.take == take) ≡ false
    test = grind (arith, nat_tests, apart)

    cases : energies_of_take take (put segments_less row rows) ≡ energies_of_take take rows
        → (first : Bool) → nat_lt s.take row.take ≡ first → (second : Bool) → nat_lt row.take s.take ≡ second
        → energies_of_take take (cond first (s ∷ put segments_less row rows) (cond second (row ∷ s ∷ rows) (row ∷ rows)))
        ≡ energies_of_take take (s ∷ rows)
    cases rest true is second also = ap (λ (es : List ℕ). cond (s.take == take) (energies_in s.energies) es) rest
    cases rest false is true also = rw test refl
    cases rest false is false also =
        let other : (s.take == take) ≡ false = grind (arith, nat_tests, is, also, apart) in
        rw (test, other) refl

-- The same is measured of all recordings that do not name the take whose segments are put.
pub others_measured : (id : ℕ) (segments : SegmentRow) (t next : Tables) → Unnamed segments.take t.recordings
    → next.segments ≡ put segments_less segments t.segments → MeasuresOthers id t next
others_measured id segments t next unnamed is =
    AllByRecursion-weaker (λ (r : RecordingRow). r.take ≢ segments.take)
    (λ (r : RecordingRow). r.id ≢ id → measured_in next r ≡ measured_in t r) t.recordings
    (λ r apart other. ap (measured_with r) (ap (energies_of_take r.take) is ∙ energies_put r.take segments t.segments apart)) unnamed
  where
    measured_with : RecordingRow → List ℕ → Measured
    measured_with r es = record {
      channels = r.channels;
      depth = r.depth;
      frames = r.summary.frames;
      energies = es;
      peak = r.summary.peak;
    }
