-- What makes a wave file.
use Rattle.std.proofs.Common.{◌≡◌, ◌<◌, ◌≤◌, ◌^◌, ◌+◌, ◌*◌, ◌/◌, ◌%◌, inl, inr, ℕ, Bool, true, false, cond, List, [], ◌∷◌, ◌++◌, length, take, drop, length-drop, length-take, refl, ap, ◌∙◌, sym, subst, arith}
use Rattle.std.specs.Prelude.{flat_map, codes, nat_eq}
use Rattle.std.specs.Cmp.Lexicographic.{pointwise}
use Rattle.std.proofs.Math.Nat.{div-add-mod, div-le_self}
use Rattle.std.proofs.lemmas.Nat.{le_bytes_4}
use Rattle.std.proofs.lemmas.List.{take-append-drop, drop-drop}
use Rattle.lib_base.specs.Sounds.{part, IsSample, IsSound}
use Rattle.lib_base.specs.declared.limits.TheConstants.{MOST_CHANNELS}
use Rattle.file_model.specs.declared.wave_fields.TheConstants.{SIZE_AT, FORM_AT, CHUNKS_AT}
use Rattle.file_model.specs.Channels.{first_channels}
use Rattle.file_model.specs.Chunks.{Chunk, Placed, Begins, named_from, next_head, named, number_at, four_bytes}
use Rattle.file_model.specs.Format.{IsFormat, channels_of, depth_of, align_of}
use Rattle.file_model.specs.Pcm.{interleaved}
use Rattle.file_model.specs.Wave.{IsWaveOf, IsNear, AtMostOneBext, sample_bytes}
use Rattle.file_model.proofs.Interleaving.{length-first_channels, equal-first_channels, All-first_channels, interleaved-channels}
use Rattle.file_model.specs.Samples.{samples_in}
use Rattle.file_model.proofs.Samples.{IsDepth, AreBytes, AreBytes-drop, AreBytes-take, length-samples_in, bytes-samples_in, All-samples_in}
use Rattle.file_model.proofs.Spellings.{reads_back}
use Rattle.file_model.proofs.Waves.{sound_in, align_is}

-- ---- what holds of each content

abbrev pub EachContent : (List ℕ → Type 0) → List Chunk → Type 0
EachContent P [] = Unit {0}
EachContent P (chunk ∷ chunks) = P chunk.content × EachContent P chunks

abbrev pub EachPlaced : (List ℕ → Type 0) → List Placed → Type 0
EachPlaced P [] = Unit {0}
EachPlaced P (placed ∷ more) = P placed.content × EachPlaced P more

kept : (P : List ℕ → Type 0) (test : Bool) (placed : Placed) (more : List Placed) → P placed.content → EachPlaced P more
    → EachPlaced P (cond test (placed ∷ more) more)
kept P true placed more first rest = (first, rest)
kept P false placed more first rest = rest

pub each_named : (P : List ℕ → Type 0) (head : ℕ) (name : List ℕ) (chunks : List Chunk) → EachContent P chunks → EachPlaced P (named_from head name chunks)
each_named P head name [] each = tt
each_named P head name (chunk ∷ chunks) each =
    kept P (pointwise nat_eq chunk.name name) _ _ each.0 (each_named P (next_head head chunk) name chunks each.1)

-- a content is of bytes, and as long as its length field can say
pub record IsContent (content : List ℕ) : Type 0 where
  pub are_bytes : AreBytes content
  pub short : length content < 2 ^ 32

pub each_content : (bytes : List ℕ) (chunks : List Chunk) (rest : List ℕ) → AreBytes bytes → Begins bytes chunks rest → EachContent IsContent chunks
each_content bytes [] rest are begins = tt
each_content bytes (chunk ∷ chunks) rest are begins =
    let back = reads_back bytes chunk begins.0 begins.1 begins.2 begins.3 begins.4 in
    let content : take (number_at bytes 4) (drop 8 bytes) ≡ chunk.content = ap (λ (c : Chunk). c.content) back.first in
    let of_bytes : AreBytes chunk.content = subst AreBytes content (AreBytes-take (number_at bytes 4) (drop 8 bytes) (AreBytes-drop 8 bytes are)) in
    let more : AreBytes begins.1 = subst AreBytes back.next (AreBytes-drop (8 + number_at bytes 4 + number_at bytes 4 % 2) bytes are) in
    (record { are_bytes = of_bytes; short = begins.2.content_fits }, each_content begins.1 chunks rest more begins.5)

pub content_named : (bytes : List ℕ) (chunks : List Chunk) (name : List ℕ) (placed : Placed) (more : List Placed) → AreBytes bytes
    → Begins (drop CHUNKS_AT bytes) chunks [] → named name chunks ≡ placed ∷ more → IsContent placed.content
content_named bytes chunks name placed more are begins found =
    (subst (EachPlaced IsContent) found
    (each_named IsContent CHUNKS_AT name chunks (each_content (drop CHUNKS_AT bytes) chunks [] (AreBytes-drop CHUNKS_AT bytes are) begins))).0

-- ---- the sound

made_sound : (k d n : ℕ) (samples : List ℕ) → IsDepth d → 1 ≤ k → k ≤ MOST_CHANNELS → n < 2 ^ 60 → length samples ≡ d / 8 * (k * n) → AreBytes samples
    → IsSound (first_channels k k n (samples_in d (k * n) samples)) d n
made_sound k d n samples known some few short whole are =
    let ys = samples_in d (k * n) samples in
    let count = length-first_channels k k n ys in
    let long = length-samples_in d (k * n) samples in
    let depths : (4 ≤ d) × (d ≤ 24) = elim known [ inl sixteen ↦ (omega (arith, sixteen), omega (arith, sixteen)) | inr more ↦ (omega (arith, more), omega (arith, more)) ] in
    record {
      has_channel = omega (arith, count, some);
      few_channels = omega (arith, count, few);
      least_depth = depths.0;
      greatest_depth = depths.1;
      short = short;
      equal = equal-first_channels k k n ys;
      within = All-first_channels (IsSample d) k k n ys (omega arith) long (All-samples_in d (k * n) samples known whole are);
    }

made_holds : (k d n : ℕ) (samples : List ℕ) → IsDepth d → length samples ≡ d / 8 * (k * n) → AreBytes samples
    → samples ≡ flat_map (sample_bytes d) (interleaved n (first_channels k k n (samples_in d (k * n) samples)))
made_holds k d n samples known whole are =
    let ys = samples_in d (k * n) samples in
    sym (ap (flat_map (sample_bytes d)) (interleaved-channels k n ys (length-samples_in d (k * n) samples)) ∙ bytes-samples_in d (k * n) samples known whole are)

-- as many bytes as whole frames take
frames_whole : (size k whole align : ℕ) → align ≡ size * k → whole % align ≡ 0 → whole ≡ size * (k * (whole / align))
frames_whole size k whole align is none =
    let split = div-add-mod whole align in
    let joined : whole ≡ align * (whole / align) = omega (arith, split, none) in
    joined ∙ ap (λ (n : ℕ). n * (whole / align)) is ∙ (let regrouped : size * k * (whole / align) ≡ size * (k * (whole / align)) = omega arith in regrouped)

frames_short : (whole align : ℕ) → whole < 2 ^ 32 → whole / align < 2 ^ 60
frames_short whole align short = let least = div-le_self whole align in omega (arith, least, short)

-- a part, and what follows it
pub part_and_rest : (xs : List ℕ) (at count : ℕ) (p rest : List ℕ) → part xs at count ≡ p → drop (at + count) xs ≡ rest → drop at xs ≡ p ++ rest
part_and_rest xs at count p rest is follows =
    sym (take-append-drop count (drop at xs)) ∙ ap (λ (front : List ℕ). front ++ drop count (drop at xs)) is
    ∙ ap (λ (back : List ℕ). p ++ back) (drop-drop count at xs ∙ follows)

pub AreBytes-part : (bytes : List ℕ) (at count : ℕ) → AreBytes bytes → AreBytes (part bytes at count)
AreBytes-part bytes at count are = AreBytes-take count (drop at bytes) (AreBytes-drop at bytes are)

pub number_fits : (bytes : List ℕ) (at : ℕ) → AreBytes bytes → number_at bytes at < 2 ^ 32
number_fits bytes at are =
    let four = AreBytes-part bytes at 4 are in
    let a = four 0 in let b = four 1 in let c = four 2 in let d = four 3 in omega (arith, a, b, c, d)

-- the number that is read at a place is written there
pub four_bytes-number_at : (bytes : List ℕ) (at : ℕ) → AreBytes bytes → at + 4 ≤ length bytes → four_bytes (number_at bytes at) ≡ part bytes at 4
four_bytes-number_at bytes at are inside =
    le_bytes_4 (part bytes at 4) (number_at bytes at) (let left = length-drop at bytes in length-take 4 (drop at bytes) ∙ omega (arith, left, inside))
    (AreBytes-part bytes at 4 are) refl

head_written : (bytes : List ℕ) → AreBytes bytes → CHUNKS_AT ≤ length bytes → part bytes 0 4 ≡ codes "RIFF" → part bytes FORM_AT 4 ≡ codes "WAVE"
    → bytes ≡ codes "RIFF" ++ (four_bytes (number_at bytes 4) ++ (codes "WAVE" ++ drop CHUNKS_AT bytes))
head_written bytes are long riff form =
    part_and_rest bytes 0 4 _ _ riff (part_and_rest bytes 4 4 _ _ (sym (four_bytes-number_at bytes 4 are (omega (arith, long))))
    (part_and_rest bytes 8 4 _ _ form refl))

-- bytes with the head, chunks, format and whole frames of a wave are a wave
pub wave_made : (bytes : List ℕ) (chunks : List Chunk) (format samples : Placed) → AreBytes bytes → CHUNKS_AT ≤ length bytes
    → part bytes 0 4 ≡ codes "RIFF" → part bytes FORM_AT 4 ≡ codes "WAVE" → IsNear (number_at bytes SIZE_AT) (length bytes)
    → Begins (drop CHUNKS_AT bytes) chunks [] → named (codes "fmt ") chunks ≡ format ∷ [] → named (codes "data") chunks ≡ samples ∷ []
    → AtMostOneBext (named (codes "bext") chunks)
    → IsFormat format.content (channels_of format.content) (depth_of format.content)
    → 1 ≤ channels_of format.content → channels_of format.content ≤ MOST_CHANNELS → length samples.content % align_of format.content ≡ 0
    → IsWaveOf bytes chunks (sound_in format.content samples.content)
wave_made bytes chunks format samples are long riff form near begins one_format one_data one_bext is some few whole =
    let k = channels_of format.content in
    let d = depth_of format.content in
    let n = length samples.content / align_of format.content in
    let is_content = content_named bytes chunks (codes "data") samples [] are begins one_data in
    let size = frames_whole (d / 8) k (length samples.content) (align_of format.content) (is.align_field ∙ align_is k d is.depth_known) whole in
    record {
      size = number_at bytes 4;
      body = drop CHUNKS_AT bytes;
      written = head_written bytes are long riff form;
      size_fits = number_fits bytes 4 are;
      near = near;
      spelled = begins;
      format = format;
      data_chunk = samples;
      one_format = one_format;
      one_data = one_data;
      one_bext = one_bext;
      is_format = subst (λ (count : ℕ). IsFormat format.content count d) (sym (length-first_channels k k n (samples_in d (k * n) samples.content))) is;
      samples = made_holds k d n samples.content is.depth_known size is_content.are_bytes;
      is_sound = made_sound k d n samples.content is.depth_known some few (frames_short _ _ is_content.short) size is_content.are_bytes;
    }
