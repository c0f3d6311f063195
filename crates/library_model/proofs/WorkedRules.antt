-- Tables that break a rule, each with its first bad row, worked by hand. Each has counters above the numbers of its rows.
use Rattle.std.proofs.Common.{◌≡◌, ◌+◌, ℕ, true, false, Some, None, Option, List, [], ◌∷◌, codes, refl}
use Rattle.std.specs.Prelude.{replicate}
use Rattle.std.specs.Char.{encode_utf8}
use Rattle.std.specs.Str.{is_utf8, chars}
use Rattle.lib_base.specs.declared.files.Kind.TheVariants.{Wave, Flac}
use Rattle.lib_base.specs.declared.files.Summary.{Summary}
use Rattle.lib_base.specs.declared.limits.TheConstants.{GREATEST_ENERGY}
use Rattle.keeper_store.specs.declared.contents.Tables.{Tables}
use Rattle.keeper_store.specs.declared.row_types.AlbumRow.{AlbumRow}
use Rattle.keeper_store.specs.declared.row_types.RecordingRow.{RecordingRow}
use Rattle.keeper_store.specs.declared.row_types.SegmentRow.{SegmentRow}
use Rattle.keeper_store.specs.declared.row_types.ReplyRow.{ReplyRow}
use Rattle.keeper_store.specs.EnergyBytes.{row_bytes}
use Rattle.keeper_store.specs.Changes.{empty_tables}
use Rattle.library_model.specs.declared.bad_rows.BadRow.{BadRow}
use Rattle.library_model.specs.declared.bad_rows.RowRule.TheVariants.{OtherNumber, NoAlbum, OtherText, OtherSound, OtherEnergies, OtherTake, OtherStatus}
use Rattle.library_model.specs.declared.bad_rows.RowRule.{RowRule}
use Rattle.library_model.specs.declared.bad_rows.RowTable.TheVariants.{Counters, Albums, Recordings, Segments, Replies}
use Rattle.library_model.specs.declared.bad_rows.RowTable.{RowTable}
use Rattle.library_model.specs.Names.{is_name, is_token}
use Rattle.library_model.specs.RowRules.{first_bad_row}

-- a summary of so many frames, without levels
abbrev summary_of : ℕ → Summary
summary_of frames = record {
  frames = frames;
  loudness = None;
  range = None;
  momentary = None;
  short_term = None;
  true_peak = None;
  peak = 0;
  gain = None;
}

abbrev album : ℕ → AlbumRow
album id = record { id = id; name = codes "Home"; summary = summary_of 0 }

-- a wave of one segment
abbrev recording : ℕ → Option ℕ → ℕ → RecordingRow
recording id album take = record {
  id = id;
  album = album;
  name = codes "One";
  take = take;
  kind = Wave;
  channels = 2;
  depth = 16;
  digest = replicate 16 0;
  summary = summary_of 4800;
}

abbrev segments : ℕ → SegmentRow
segments take = record { take = take; energies = row_bytes (258 ∷ []) }

abbrev reply : List ℕ → ℕ → ReplyRow
reply token status = record { token = token; mark = replicate 16 0; status = status; body = [] }

-- two albums, two recordings, their segments, two kept replies
abbrev whole : Tables
whole = record {
  next_album = 5;
  next_recording = 9;
  next_take = 7;
  albums = album 2 ∷ album 4 ∷ [];
  recordings = recording 3 (Some 2) 6 ∷ recording 8 None 1 ∷ [];
  segments = segments 1 ∷ segments 6 ∷ [];
  replies = reply (codes "a-1") 200 ∷ reply (codes "b") 201 ∷ [];
}

abbrev bad : RowTable → ℕ → RowRule → Option BadRow
bad table id rule = Some (record { table = table; id = id; rule = rule })

no_row : first_bad_row empty_tables ≡ None
no_row = refl

no_bad_row : first_bad_row whole ≡ None
unfolding is_utf8 chars encode_utf8
no_bad_row = refl

-- rule 1: a counter past its end, an id at its counter, ids that fall, a take 0
counter_past_the_end : first_bad_row (record whole { next_take = 2147483648 }) ≡ bad Counters 1 OtherNumber
counter_past_the_end = refl

id_at_its_counter : first_bad_row (record whole { next_album = 4 }) ≡ bad Albums 4 OtherNumber
unfolding is_utf8 chars encode_utf8
id_at_its_counter = refl

ids_fall : first_bad_row (record whole { recordings = recording 8 None 1 ∷ recording 3 (Some 2) 6 ∷ [] }) ≡ bad Recordings 3 OtherNumber
unfolding is_utf8 chars encode_utf8
ids_fall = refl

take_zero : first_bad_row (record whole { recordings = recording 3 None 0 ∷ [] }) ≡ bad Recordings 3 OtherNumber
unfolding is_utf8 chars encode_utf8
take_zero = refl

-- rule 2
album_not_there : first_bad_row (record whole { recordings = recording 3 (Some 9) 6 ∷ [] }) ≡ bad Recordings 3 NoAlbum
unfolding is_utf8 chars encode_utf8
album_not_there = refl

-- rule 3: a control character in a name, a space in a token
control_in_a_name : first_bad_row (record whole { albums = (record (album 2) { name = 31 ∷ [] }) ∷ [] }) ≡ bad Albums 2 OtherText
unfolding is_utf8 chars encode_utf8
control_in_a_name = refl

space_in_a_token : first_bad_row (record whole { replies = reply (codes "a-1") 200 ∷ reply (codes "b c") 201 ∷ [] }) ≡ bad Replies 2 OtherText
unfolding is_utf8 chars encode_utf8
space_in_a_token = refl

-- rule 4: a wave of 20 bits; FLAC can have them
wave_of_20_bits : first_bad_row (record whole { recordings = (record (recording 3 (Some 2) 6) { depth = 20 }) ∷ recording 8 None 1 ∷ [] }) ≡ bad Recordings 3 OtherSound
unfolding is_utf8 chars encode_utf8
wave_of_20_bits = refl

flac_of_20_bits : first_bad_row (record whole { recordings = (record (recording 3 (Some 2) 6) { kind = Flac; depth = 20 }) ∷ recording 8 None 1 ∷ [] }) ≡ None
unfolding is_utf8 chars encode_utf8
flac_of_20_bits = refl

-- rule 5: twelve bytes, an energy too great, one energy too many
twelve_bytes : first_bad_row (record whole { segments = segments 1 ∷ (record { take = 6; energies = replicate 12 0 }) ∷ [] }) ≡ bad Segments 6 OtherEnergies
unfolding is_utf8 chars encode_utf8
twelve_bytes = refl

energy_too_great : first_bad_row (record whole { segments = (record { take = 1; energies = row_bytes ((GREATEST_ENERGY + 1) ∷ []) }) ∷ segments 6 ∷ [] }) ≡ bad Segments 1 OtherEnergies
unfolding is_utf8 chars encode_utf8
energy_too_great = refl

one_too_many : first_bad_row (record whole { segments = (record { take = 1; energies = row_bytes (1 ∷ 2 ∷ []) }) ∷ segments 6 ∷ [] }) ≡ bad Segments 1 OtherEnergies
unfolding is_utf8 chars encode_utf8
one_too_many = refl

-- rule 6: no segments, a take named twice, segments that no recording names
no_segments : first_bad_row (record whole { segments = segments 1 ∷ [] }) ≡ bad Recordings 3 OtherTake
unfolding is_utf8 chars encode_utf8
no_segments = refl

take_named_twice : first_bad_row (record whole { recordings = recording 3 (Some 2) 6 ∷ recording 8 None 6 ∷ [] }) ≡ bad Recordings 8 OtherTake
unfolding is_utf8 chars encode_utf8
take_named_twice = refl

segments_alone : first_bad_row (record whole { segments = segments 1 ∷ segments 2 ∷ segments 6 ∷ [] }) ≡ bad Segments 2 OtherTake
unfolding is_utf8 chars encode_utf8
segments_alone = refl

-- rule 9, at the second reply
status_202 : first_bad_row (record whole { replies = reply (codes "a-1") 200 ∷ reply (codes "b") 202 ∷ [] }) ≡ bad Replies 2 OtherStatus
unfolding is_utf8 chars encode_utf8
status_202 = refl

-- of two faults of one row the lower rule, of two rows the earlier table
lower_rule : first_bad_row (record whole { replies = reply (codes "a c") 202 ∷ [] }) ≡ bad Replies 1 OtherText
unfolding is_utf8 chars encode_utf8
lower_rule = refl

earlier_table : first_bad_row (record whole { segments = segments 6 ∷ segments 1 ∷ []; replies = reply (codes "a") 202 ∷ [] }) ≡ bad Segments 1 OtherNumber
unfolding is_utf8 chars encode_utf8
earlier_table = refl

-- 200 bytes at most in a name, 64 in a token, and none is no token
longest_name : (is_name (replicate 200 97) ≡ true) × (is_name (replicate 201 97) ≡ false) × (is_name [] ≡ true)
unfolding is_utf8 chars encode_utf8
longest_name = (refl, refl, refl)

longest_token : (is_token (replicate 64 97) ≡ true) × (is_token (replicate 65 97) ≡ false) × (is_token [] ≡ false)
longest_token = (refl, refl, refl)
