-- Where a reader stands behind whole bytes.
use Rattle.std.proofs.Common.{◌≡◌, ◌≤◌, ◌+◌, ◌-◌, ◌*◌, ◌/◌, ◌%◌, ℕ, List, Bool, length, length-drop, drop, ap, arith}
use Rattle.bit_codec.specs.declared.reader.BitReader.{BitReader}
use Rattle.bit_codec.specs.Reader.{left, source, place}
use Rattle.bit_codec.proofs.ReaderLemmas.{stands}
use Rattle.file_model.specs.Bits.{bits}
use Rattle.file_model.specs.FlacHeader.{bytes_before}
use Rattle.file_model.proofs.BitsLemmas.{length-bits}
use Rattle.std.specs.Prelude.{Ok}
use Rattle.file_model.specs.Fields.{field}
use Rattle.flac_frames.specs.Headers.{TakesBytes}
use Rattle.flac_frames.proofs.Wholes.{field_shorter}

-- the reader stands at a whole byte, behind so many bytes from a place on
pub record StandsBehind (bytes : List ℕ) (at : ℕ) (reader : BitReader) : Type 0 where
  pub whole : place reader % 8 ≡ 0
  pub from : 8 * at ≤ place reader
  pub before : 8 * (at + bytes_before (drop at bytes) (left reader)) ≡ place reader

pub stands_behind : (bytes : List ℕ) (at : ℕ) (reader : BitReader) → source reader ≡ bytes → at ≤ length bytes
    → TakesBytes (bits (drop at bytes)) (left reader) → StandsBehind bytes at reader
stands_behind bytes at reader is within takes =
    let here = stands reader in
    let size = ap length is in
    let long = length-bits (drop at bytes) in
    let rest = length-drop at bytes in
    record { whole = omega (arith, takes.0, takes.1); from = omega (arith, takes.0, takes.1); before = omega (arith, takes.0, takes.1) }

-- a check of one byte more
pub byte_more : (bytes : List ℕ) (value : ℕ) (before behind : List Bool) → TakesBytes (bits bytes) before → field 8 before ≡ Ok (value, behind)
    → bytes_before bytes behind ≡ bytes_before bytes before + 1
byte_more bytes value before behind takes is =
    let long = length-bits bytes in
    let shorter = field_shorter 8 value before behind is in
    omega (arith, takes.0, takes.1, shorter)

-- four readings of whole bytes, one after another
pub four_whole : (all start one two three four : List Bool) → start ≡ all → TakesBytes start one → TakesBytes one two → TakesBytes two three
    → TakesBytes three four → TakesBytes all four
four_whole all start one two three four is a b c d =
    let size = ap length is in (omega (arith, a.0, b.0, c.0, d.0), omega (arith, a.1, b.1, c.1, d.1))

-- its bytes are there
pub byte_inside : (bytes : List ℕ) (value : ℕ) (before behind : List Bool) → TakesBytes (bits bytes) before → field 8 before ≡ Ok (value, behind)
    → bytes_before bytes before + 1 ≤ length bytes
byte_inside bytes value before behind takes is =
    let long = length-bits bytes in
    let shorter = field_shorter 8 value before behind is in
    omega (arith, takes.0, takes.1, shorter)
