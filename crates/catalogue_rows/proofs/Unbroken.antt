-- Tables of which no row breaks another rule than that of summaries: what holds of their rows.
use Rattle.std.proofs.Common.{◌≡◌, ◌≤◌, ◌%◌, ◌/◌, ℕ, Bool, true, false, not, cond, List, [], ◌∷◌, length, nat_lt, nat_le, ◌==◌, Option, Some, None, refl, sym, ap, ◌∙◌, subst, arith}
use Rattle.std.specs.Prelude.{◌&&◌, ◌||◌, ⊤, All, Contains}
use Rattle.std.specs.List.{AllByRecursion, list_all, find}
use Rattle.std.specs.Option.{option_or}
use Rattle.std.proofs.lemmas.Bool.Decides.{nat_tests}
use Rattle.std.proofs.lemmas.List.Elements.{All-nil, All-cons, All-contains, All-from_recursion}
use Rattle.lib_base.specs.declared.limits.TheConstants.{MOST_CHANNELS, GREATEST_ENERGY, MOST_SAMPLES, GREATEST_PEAK, MOST_MEMBERS, SEGMENT_FRAMES}
use Rattle.keeper_store.specs.declared.contents.Tables.{Tables}
use Rattle.keeper_store.specs.declared.row_types.AlbumRow.{AlbumRow}
use Rattle.keeper_store.specs.declared.row_types.RecordingRow.{RecordingRow}
use Rattle.keeper_store.specs.declared.row_types.ReplyRow.{ReplyRow}
use Rattle.keeper_store.specs.declared.row_types.SegmentRow.{SegmentRow}
use Rattle.keeper_store.specs.EnergyBytes.{energies_in}
use Rattle.keeper_store.specs.Orders.{albums_in_order, recordings_in_order, replies_in_order, segments_in_order}
use Rattle.keeper_store.specs.Puts.{IsOrder, Ascends, album_less, recording_less, reply_less, segments_less}
use Rattle.keeper_store.proofs.Putting.{AllByRecursion-weaken}
use Rattle.library_model.specs.declared.bad_rows.BadRow.{BadRow}
use Rattle.library_model.specs.declared.bad_rows.RowRule.{RowRule}
use Rattle.library_model.specs.declared.bad_rows.RowTable.{RowTable}
use Rattle.library_model.specs.declared.bad_rows.RowTable.TheVariants.{Counters}
use Rattle.library_model.specs.RowRules.{first_bad_row, first_bad_of, bad_at, bad_album, bad_recording, bad_segments, bad_reply, counters_rule, album_rule, recording_rule, energies_rule, is_placed, is_depth, is_sound, are_energies_of, BesideRow, recording_before, beside_row, album_is_there, has_segments, is_named, frames_of_take, member_count, energies_of_take, measured_in}
use Rattle.sound_model.specs.Summaries.{IsWithinBounds}
use Rattle.catalogue_rows.specs.Measuring.{AreDecoded, IsDecodedTake}

-- ---- what tests tell

or_none : {A : Type 0} (a b : Option A) → option_or a b ≡ None → (a ≡ None) × (b ≡ None)
or_none None b is = (refl, is)
or_none (Some x) b is = (cc is, cc is)

bad_at_none : (table : RowTable) (id : ℕ) (rule : Option RowRule) → bad_at table id rule ≡ None → rule ≡ None
bad_at_none table id None is = refl
bad_at_none table id (Some rule) is = cc is

if_none : {A : Type 0} (test : Bool) (x : A) (rest : Option A) → cond test (Some x) rest ≡ None → (test ≡ false) × (rest ≡ None)
if_none true x rest is = (cc is, cc is)
if_none false x rest is = (refl, is)

else_none : {A : Type 0} (test : Bool) (x : A) → cond test None (Some x) ≡ None → test ≡ true
else_none true x is = refl
else_none false x is = cc is

not_false : (test : Bool) → not test ≡ false → test ≡ true
not_false true is = refl
not_false false is = cc is

pub and_true : (a b : Bool) → (a && b) ≡ true → (a ≡ true) × (b ≡ true)
and_true true b is = (refl, is)
and_true false b is = (cc is, cc is)

neither : (a b : Bool) → (not a || b) ≡ false → (a ≡ true) × (b ≡ false)
neither true b is = (refl, is)
neither false b is = (cc is, cc is)

or_false : (a b : Bool) → (a || b) ≡ false → (a ≡ false) × (b ≡ false)
or_false true b is = (cc is, cc is)
or_false false b is = (refl, is)

-- ---- rows tried one after another

-- the rows seen, the nearest first, in front of those that are left
abbrev pub onto : {A : Type 0} → List A → List A → List A
onto [] rows = rows
onto (s ∷ seen) rows = onto seen (s ∷ rows)

-- what follows where a row is not bad holds of each, if none is
each : {A : Type 0} → (bad : List A → A → Option BadRow) (P : A → Type 0) (all seen rows : List A) → onto seen rows ≡ all
    → ((before : List A) (row : A) (rest : List A) → onto before (row ∷ rest) ≡ all → bad before row ≡ None → P row)
    → first_bad_of bad seen rows ≡ None → AllByRecursion P rows
each bad P all seen [] split says none = tt
each bad P all seen (row ∷ rows) split says none =
    let both = or_none (bad seen row) (first_bad_of bad (row ∷ seen) rows) none in
    (says seen row rows split both.0, each bad P all (row ∷ seen) rows split says both.1)

-- a row is after the nearest of those seen
abbrev IsAfter : {A : Type 0} → (A → A → Bool) → List A → A → Type 0
IsAfter less [] row = ⊤
IsAfter less (s ∷ seen) row = less s row ≡ true

abbrev AllAfter : {A : Type 0} → (A → A → Bool) → List A → List A → Type 0
AllAfter less [] rows = ⊤
AllAfter less (s ∷ seen) rows = AllByRecursion (λ r. less s r ≡ true) rows

-- rows ascend of which each that is not bad is after the one before
rising : {A : Type 0} → (less : A → A → Bool) → IsOrder less → (bad : List A → A → Option BadRow)
    → ((seen : List A) (row : A) → bad seen row ≡ None → IsAfter less seen row)
    → (seen rows : List A) → first_bad_of bad seen rows ≡ None → AllAfter less seen rows × Ascends less rows
rising less order bad says [] [] none = (tt, tt)
rising less order bad says (s ∷ seen) [] none = (tt, tt)
rising less order bad says [] (row ∷ rows) none =
    let both = or_none (bad [] row) (first_bad_of bad (row ∷ []) rows) none in
    let rest = rising less order bad says (row ∷ []) rows both.1 in
    (tt, (rest.0, rest.1))
rising less order bad says (s ∷ seen) (row ∷ rows) none =
    let both = or_none (bad (s ∷ seen) row) (first_bad_of bad (row ∷ s ∷ seen) rows) none in
    let up : less s row ≡ true = says (s ∷ seen) row both.0 in
    let rest = rising less order bad says (row ∷ s ∷ seen) rows both.1 in (
      (up, AllByRecursion-weaken (λ r. less row r ≡ true) (λ r. less s r ≡ true) (λ r later. order.chain s row r up later) rows rest.0),
      (rest.0, rest.1),
    )

-- ---- what a row's rule tells

album_facts : (next before members : ℕ) (row : AlbumRow) → album_rule next before members row ≡ None
    → (nat_lt before row.id ≡ true) × (nat_lt MOST_MEMBERS members ≡ false)
album_facts next before members row none =
    let placed = if_none (not (is_placed before next row.id)) _ _ none in
    let named = if_none _ _ _ placed.1 in
    let few = if_none _ _ _ named.1 in
    ((and_true _ _ (not_false _ placed.0)).0, few.0)

record RecordingFacts (before : ℕ) (beside : BesideRow) (row : RecordingRow) : Type 0 where
  up : nat_lt before row.id ≡ true
  album : beside.album_there ≡ true
  sound : is_sound row ≡ true
  segments : beside.segments_there ≡ true
  first : beside.take_named ≡ false

recording_facts : (next_id next_take before : ℕ) (beside : BesideRow) (row : RecordingRow)
    → recording_rule next_id next_take before beside row ≡ None → RecordingFacts before beside row
recording_facts next_id next_take before beside row none =
    let placed = if_none _ _ _ none in
    let there = if_none _ _ _ placed.1 in
    let named = if_none _ _ _ there.1 in
    let sound = if_none _ _ _ named.1 in
    let taken = if_none _ _ _ sound.1 in
    let both = neither _ _ taken.0 in
    record {
      up = (and_true _ _ (and_true _ _ (not_false _ placed.0)).0).0;
      album = not_false _ there.0;
      sound = not_false _ sound.0;
      segments = both.0;
      first = both.1;
    }

-- ---- energies

-- numbers that pass the test of a bound are within it
within_from : (most : ℕ) (es : List ℕ) → list_all (λ e. nat_le e most) es ≡ true → All (λ e. e ≤ most) es
within_from most [] is = All-nil (λ e. e ≤ most)
within_from most (e ∷ es) is =
    let both = and_true (nat_le e most) (list_all (λ x. nat_le x most) es) is in
    let first : nat_le e most ≡ true = both.0 in
    let here : e ≤ most = grind (arith, nat_tests, first) in
    All-cons (λ (x : ℕ). x ≤ most) e es here (within_from most es both.1)

-- bytes that decode to energies of so many frames
pub record AreEnergiesOf (frames : ℕ) (bytes : List ℕ) : Type 0 where
  pub whole : length bytes % 11 ≡ 0
  pub small : All (λ e. e ≤ GREATEST_ENERGY) (energies_in bytes)
  pub count : length (energies_in bytes) ≡ frames / SEGMENT_FRAMES

energies_tested : (frames : ℕ) (bytes : List ℕ) → are_energies_of frames bytes ≡ true → AreEnergiesOf frames bytes
energies_tested frames bytes is =
    let all : Bool = list_all (λ e. nat_le e GREATEST_ENERGY) (energies_in bytes) in
    let last = and_true ((length bytes % 11 == 0) && all) (length (energies_in bytes) == frames / SEGMENT_FRAMES) is in
    let first = and_true (length bytes % 11 == 0) all last.0 in
    let whole : (length bytes % 11 == 0) ≡ true = first.0 in
    let count : (length (energies_in bytes) == frames / SEGMENT_FRAMES) ≡ true = last.1 in
    record {
      whole = grind (arith, nat_tests, whole);
      small = within_from GREATEST_ENERGY (energies_in bytes) first.1;
      count = grind (arith, nat_tests, count);
    }

-- the energies of a take that is found
abbrev pub energies_found : Option SegmentRow → List ℕ
energies_found None = []
energies_found (Some row) = energies_in row.energies

-- the energies of a take are those of the first row of it
pub energies_are_found : (take : ℕ) (segments : List SegmentRow)
    → energies_of_take take segments ≡ energies_found (find (λ (s : SegmentRow). s.take == take) segments)
energies_are_found take [] = refl
energies_are_found take (s ∷ segments) = cases (energies_are_found take segments) (s.take == take)
  where
    cases : energies_of_take take segments ≡ energies_found (find (λ (r : SegmentRow). r.take == take) segments) → (here : Bool)
        → cond here (energies_in s.energies) (energies_of_take take segments)
        ≡ energies_found (cond here (Some s) (find (λ (r : SegmentRow). r.take == take) segments))
    cases rest true = refl
    cases rest false = rest

-- a take that has segments is found, and what holds of all rows holds of its row
pub record FoundSegments (P : SegmentRow → Type 0) (take : ℕ) (segments : List SegmentRow) : Type 0 where
  pub row : SegmentRow
  pub found : find (λ (s : SegmentRow). s.take == take) segments ≡ Some row
  pub same : row.take ≡ take
  pub holds : P row

found_segments : (P : SegmentRow → Type 0) (take : ℕ) (segments : List SegmentRow) → has_segments take segments ≡ true
    → AllByRecursion P segments → FoundSegments P take segments
found_segments P take [] has all = absurd (bad has)
  where
    bad : false ≡ true → ⊥
    bad is = cc is
found_segments P take (s ∷ segments) has all =
    cases (λ more. found_segments P take segments more all.1) (s.take == take) refl has
  where
    cases : (has_segments take segments ≡ true → FoundSegments P take segments) → (here : Bool) → (s.take == take) ≡ here
        → (here || has_segments take segments) ≡ true → FoundSegments P take (s ∷ segments)
    cases rest true is has_it = record {
      row = s;
      found = rw is refl;
      same = grind (arith, nat_tests, is);
      holds = all.0;
    }
    cases rest false is has_it =
        let more = rest has_it in
        record { row = more.row; found = rw is more.found; same = more.same; holds = more.holds }

-- the frames of a take that none of the rows seen names are those of the first row that is left
frames_onto : (take : ℕ) (seen rows : List RecordingRow) → is_named take seen ≡ false
    → frames_of_take take (onto seen rows) ≡ frames_of_take take rows
frames_onto take [] rows none = refl
frames_onto take (s ∷ seen) rows none =
    let both = or_false (s.take == take) (is_named take seen) none in
    frames_onto take seen (s ∷ rows) both.1 ∙ rw both.0 refl

frames_here : (seen : List RecordingRow) (row : RecordingRow) (rows : List RecordingRow) → is_named row.take seen ≡ false
    → frames_of_take row.take (onto seen (row ∷ rows)) ≡ Some row.summary.frames
frames_here seen row rows none =
    let same : (row.take == row.take) ≡ true = grind (arith, nat_tests) in
    frames_onto row.take seen (row ∷ rows) none ∙ rw same refl

-- what the tests of a sound tell
sound_facts : (row : RecordingRow) → is_sound row ≡ true → (row.summary.frames ≤ MOST_SAMPLES) × (row.summary.peak ≤ GREATEST_PEAK)
sound_facts row is =
    let before : Bool = nat_le 1 row.channels && nat_le row.channels MOST_CHANNELS && is_depth row.kind row.depth in
    let last = and_true (before && nat_le row.summary.frames MOST_SAMPLES) (nat_le row.summary.peak GREATEST_PEAK) is in
    let both = and_true before (nat_le row.summary.frames MOST_SAMPLES) last.0 in
    let frames : nat_le row.summary.frames MOST_SAMPLES ≡ true = both.1 in
    let peak : nat_le row.summary.peak GREATEST_PEAK ≡ true = last.1 in
    (grind (arith, nat_tests, frames), grind (arith, nat_tests, peak))

-- ---- what holds of the tables

-- No row breaks another rule than that of summaries.
pub record Unbroken (t : Tables) : Type 0 where
  pub albums_ascend : Ascends album_less t.albums
  pub recordings_ascend : Ascends recording_less t.recordings
  pub segments_ascend : Ascends segments_less t.segments
  pub replies_ascend : Ascends reply_less t.replies
  pub few : AllByRecursion (λ (a : AlbumRow). member_count a.id t.recordings ≤ MOST_MEMBERS) t.albums
  pub albums_there : AllByRecursion (λ (r : RecordingRow). album_is_there r.album t.albums ≡ true) t.recordings
  pub within : AllByRecursion (λ (r : RecordingRow). IsWithinBounds (measured_in t r)) t.recordings
  pub decoded : AllByRecursion (λ (r : RecordingRow).
      FoundSegments (λ s. AreEnergiesOf r.summary.frames s.energies) r.take t.segments) t.recordings

-- what is told of one row
record RecordingHolds (t : Tables) (row : RecordingRow) : Type 0 where
  album : album_is_there row.album t.albums ≡ true
  segments : FoundSegments (λ s. AreEnergiesOf row.summary.frames s.energies) row.take t.segments
  within : IsWithinBounds (measured_in t row)

-- the energies of a take's row are those of the frames of the recording that names it
abbrev EnergiesRight : Tables → SegmentRow → Type 0
EnergiesRight t s = (frames : ℕ) → frames_of_take s.take t.recordings ≡ Some frames → AreEnergiesOf frames s.energies

segments_right : (t : Tables) → first_bad_of (bad_segments t) [] t.segments ≡ None → AllByRecursion (EnergiesRight t) t.segments
segments_right t none =
    each (bad_segments t) (EnergiesRight t) t.segments [] t.segments refl
    (λ before row rest split is frames frames_are.
    let rule = bad_at_none _ _ _ is in
    let placed = if_none _ _ _ rule in
    let energies : energies_rule (frames_of_take row.take t.recordings) row.energies ≡ None = placed.1 in
    let tested : energies_rule (Some frames) row.energies ≡ None = ap (λ f. energies_rule f row.energies) (sym frames_are) ∙ energies in
    energies_tested frames row.energies (else_none _ _ tested))
    none

recording_holds : (t : Tables) → AllByRecursion (EnergiesRight t) t.segments → (before : List RecordingRow) (row : RecordingRow)
    (rest : List RecordingRow) → onto before (row ∷ rest) ≡ t.recordings → bad_recording t before row ≡ None → RecordingHolds t row
recording_holds t right before row rest split is =
    let facts = recording_facts t.next_recording t.next_take (recording_before before) (beside_row t before row) row (bad_at_none _ _ _ is) in
    let frames : frames_of_take row.take t.recordings ≡ Some row.summary.frames =
    ap (frames_of_take row.take) (sym split) ∙ frames_here before row rest facts.first in
    let there = found_segments (EnergiesRight t) row.take t.segments facts.segments right in
    let energies : AreEnergiesOf row.summary.frames there.row.energies =
    there.holds row.summary.frames (ap (λ take. frames_of_take take t.recordings) there.same ∙ frames) in
    let sound = sound_facts row facts.sound in
    let kept : energies_of_take row.take t.segments ≡ energies_in there.row.energies =
    energies_are_found row.take t.segments ∙ ap energies_found there.found in
    record {
      album = facts.album;
      segments = record { row = there.row; found = there.found; same = there.same; holds = energies };
      within = record {
        frames = sound.0;
        count = ap (λ (es : List ℕ). length es) kept ∙ energies.count;
        energies = subst (λ (es : List ℕ). All (λ e. e ≤ GREATEST_ENERGY) es) (sym kept) energies.small;
        peak = sound.1;
      };
    }

-- each row holds what its tests tell
pub unbroken : (t : Tables) → first_bad_row t ≡ None → Unbroken t
unbroken t none =
    let counters = or_none (bad_at Counters 1 (counters_rule t)) _ none in
    let albums = or_none (first_bad_of (bad_album t) [] t.albums) _ counters.1 in
    let recordings = or_none (first_bad_of (bad_recording t) [] t.recordings) _ albums.1 in
    let segments = or_none (first_bad_of (bad_segments t) [] t.segments) _ recordings.1 in
    let right = segments_right t segments.0 in
    let held = each (bad_recording t) (RecordingHolds t) t.recordings [] t.recordings refl (recording_holds t right) recordings.0 in
    record {
      albums_ascend = (rising album_less albums_in_order (bad_album t) (albums_rise t) [] t.albums albums.0).1;
      recordings_ascend = (rising recording_less recordings_in_order (bad_recording t) (recordings_rise t) [] t.recordings recordings.0).1;
      segments_ascend = (rising segments_less segments_in_order (bad_segments t) (segments_rise t) [] t.segments segments.0).1;
      replies_ascend = (rising reply_less replies_in_order bad_reply replies_rise [] t.replies segments.1).1;
      few = each (bad_album t) (λ a. member_count a.id t.recordings ≤ MOST_MEMBERS) t.albums [] t.albums refl (albums_few t) albums.0;
      albums_there = AllByRecursion-weaken (RecordingHolds t) _ (λ r h. h.album) t.recordings held;
      within = AllByRecursion-weaken (RecordingHolds t) _ (λ r h. h.within) t.recordings held;
      decoded = AllByRecursion-weaken (RecordingHolds t) _ (λ r h. h.segments) t.recordings held;
    }
  where
    albums_rise : (s : Tables) (seen : List AlbumRow) (row : AlbumRow) → bad_album s seen row ≡ None → IsAfter album_less seen row
    albums_rise s [] row is = tt
    albums_rise s (r ∷ seen) row is = (album_facts _ _ _ row (bad_at_none _ _ _ is)).0

    albums_few : (s : Tables) (before : List AlbumRow) (row : AlbumRow) (rest : List AlbumRow) → onto before (row ∷ rest) ≡ s.albums
        → bad_album s before row ≡ None → member_count row.id s.recordings ≤ MOST_MEMBERS
    albums_few s before row rest split is =
        let few = (album_facts _ _ _ row (bad_at_none _ _ _ is)).1 in grind (arith, nat_tests, few)

    recordings_rise : (s : Tables) (seen : List RecordingRow) (row : RecordingRow) → bad_recording s seen row ≡ None
        → IsAfter recording_less seen row
    recordings_rise s [] row is = tt
    recordings_rise s (r ∷ seen) row is =
        (recording_facts s.next_recording s.next_take r.id (beside_row s (r ∷ seen) row) row (bad_at_none _ _ _ is)).up

    segments_rise : (s : Tables) (seen : List SegmentRow) (row : SegmentRow) → bad_segments s seen row ≡ None → IsAfter segments_less seen row
    segments_rise s [] row is = tt
    segments_rise s (r ∷ seen) row is =
        let placed = if_none _ _ _ (bad_at_none _ _ _ is) in (and_true _ _ (not_false _ placed.0)).0

    replies_rise : (seen : List ReplyRow) (row : ReplyRow) → bad_reply seen row ≡ None → IsAfter reply_less seen row
    replies_rise [] row is = tt
    replies_rise (r ∷ seen) row is =
        let rises = if_none _ _ _ (bad_at_none _ _ _ is) in not_false _ rises.0

-- what is measured of a recording is within its bounds
pub measured_within : (t : Tables) (row : RecordingRow) → first_bad_row t ≡ None → Contains t.recordings row → IsWithinBounds (measured_in t row)
measured_within t row none there =
    let P : RecordingRow → Type 0 = λ r. IsWithinBounds (measured_in t r) in
    All-contains P t.recordings row (All-from_recursion P t.recordings (unbroken t none).within) there

-- and the row of its take is decoded
pub decoded_take : (t : Tables) (row : RecordingRow) → first_bad_row t ≡ None → Contains t.recordings row → IsDecodedTake row.take t.segments
decoded_take t row none there other found =
    let P : RecordingRow → Type 0 = λ r. FoundSegments (λ s. AreEnergiesOf r.summary.frames s.energies) r.take t.segments in
    let its = All-contains P t.recordings row (All-from_recursion P t.recordings (unbroken t none).decoded) there in
    let same : its.row ≡ other = cc (its.found, found) in
    subst (λ (s : SegmentRow). AreDecoded s.energies) same (record { whole = its.holds.whole; small = its.holds.small })
