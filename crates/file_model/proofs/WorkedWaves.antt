-- Worked files, byte for byte.
use Rattle.std.proofs.Common.{◌≡◌, ◌≤◌, ℕ, List, [], ◌∷◌, ◌++◌, length, inl, inr, refl, lit<, arith}
use Rattle.std.specs.Prelude.{ℤ, pos, negsuc, All, codes}
use Rattle.std.proofs.lemmas.Int.{ints}
use Rattle.std.proofs.lemmas.List.Elements.{All-nil, All-cons, All-from_recursion}
use Rattle.lib_base.specs.Sounds.{IsSample}
use Rattle.file_model.specs.Chunks.{Chunk, IsChunk}
use Rattle.file_model.specs.declared.wave_rules.WaveRule.TheVariants.{OtherSize, CutChunk, RepeatedChunk, OtherAlign, PartFrame}
use Rattle.file_model.specs.Pcm.{Pcm}
use Rattle.file_model.specs.Rules.{Breaks}
use Rattle.file_model.specs.Wave.{IsWave}

-- ---- four samples in 52 bytes

-- 0, 16384, -16384 and 1
abbrev pub four_samples : List ℤ
four_samples = pos 0 ∷ pos 16384 ∷ negsuc 16383 ∷ pos 1 ∷ []

-- a `fmt ` content: 16 bits at 48,000 Hz, with so many channels and bytes of a frame
abbrev format_content : ℕ → ℕ → List ℕ
format_content channels align = 1 ∷ 0 ∷ channels ∷ 0 ∷ 128 ∷ 187 ∷ 0 ∷ 0 ∷ 0 ∷ 119 ∷ 1 ∷ 0 ∷ align ∷ 0 ∷ 16 ∷ 0 ∷ []

abbrev four_content : List ℕ
four_content = 0 ∷ 0 ∷ 0 ∷ 64 ∷ 0 ∷ 192 ∷ 1 ∷ 0 ∷ []

-- the 52 bytes that hold them, with this number of channels
abbrev pub four_frames : ℕ → List ℕ
four_frames channels =
    82 ∷ 73 ∷ 70 ∷ 70 ∷ 44 ∷ 0 ∷ 0 ∷ 0 ∷ 87 ∷ 65 ∷ 86 ∷ 69
    ∷ 102 ∷ 109 ∷ 116 ∷ 32 ∷ 16 ∷ 0 ∷ 0 ∷ 0 ∷ 1 ∷ 0 ∷ channels ∷ 0 ∷ 128 ∷ 187 ∷ 0 ∷ 0 ∷ 0 ∷ 119 ∷ 1 ∷ 0 ∷ 2 ∷ 0 ∷ 16 ∷ 0
    ∷ 100 ∷ 97 ∷ 116 ∷ 97 ∷ 8 ∷ 0 ∷ 0 ∷ 0 ∷ 0 ∷ 0 ∷ 0 ∷ 64 ∷ 0 ∷ 192 ∷ 1 ∷ 0 ∷ []

-- a sound of 16 bits
abbrev pub sixteen_bits : ℕ → List (List ℤ) → Pcm
sixteen_bits frames lists = record { depth = 16; frames = frames; lists = lists }

abbrev chunk : List ℕ → List ℕ → Chunk
chunk name content = record { name = name; content = content }

four_samples_fit : All (IsSample 16) four_samples
four_samples_fit =
    All-from_recursion (IsSample 16) four_samples
    ((omega (arith, ints), omega (arith, ints)), ((omega (arith, ints), omega (arith, ints)), ((omega (arith, ints), omega (arith, ints)), ((omega (arith, ints), omega (arith, ints)), tt))))

short_chunk : (name content : List ℕ) → length name ≡ 4 → length content ≤ 40 → IsChunk (chunk name content)
short_chunk name content four short = record { name_length = four; content_fits = omega (arith, short) }

pub four_frames_read : IsWave (four_frames 1) (sixteen_bits 4 (four_samples ∷ []))
four_frames_read = (
  chunk (codes "fmt ") (format_content 1 2) ∷ chunk (codes "data") four_content ∷ [],
  record {
    size = 44;
    body = _;
    written = refl;
    size_fits = lit< tt;
    near = (omega arith, omega arith);
    spelled = (
      [],
      _,
      short_chunk (codes "fmt ") (format_content 1 2) refl (omega arith),
      refl,
      inl refl,
      ([], _, short_chunk (codes "data") four_content refl (omega arith), refl, inl refl, refl),
    );
    format = record { head = 12; content = format_content 1 2 };
    data_chunk = record { head = 36; content = four_content };
    one_format = refl;
    one_data = refl;
    one_bext = inl refl;
    is_format = record {
      long = omega arith;
      pcm = inl refl;
      channels_field = refl;
      rate_field = refl;
      depth_field = refl;
      depth_known = inl refl;
      align_field = refl;
    };
    samples = refl;
    is_sound = record {
      has_channel = omega arith;
      few_channels = omega arith;
      least_depth = omega arith;
      greatest_depth = omega arith;
      short = lit< tt;
      equal = All-cons (λ (xs : List ℤ). length xs ≡ 4) four_samples [] refl (All-nil (λ (xs : List ℤ). length xs ≡ 4));
      within = All-cons (λ (xs : List ℤ). All (IsSample 16) xs) four_samples [] four_samples_fit (All-nil (λ (xs : List ℤ). All (IsSample 16) xs));
    };
  },
)

-- ---- 24 bits, with an odd chunk before, and no pad byte at the end

-- a `fmt ` content: one channel of 24 bits at 48,000 Hz
abbrev wide_content : List ℕ
wide_content = 1 ∷ 0 ∷ 1 ∷ 0 ∷ 128 ∷ 187 ∷ 0 ∷ 0 ∷ 0 ∷ 0 ∷ 0 ∷ 0 ∷ 3 ∷ 0 ∷ 24 ∷ 0 ∷ []

-- the least sample of 24 bits
abbrev wide_sample : List ℕ
wide_sample = 0 ∷ 0 ∷ 128 ∷ []

-- a `LIST` chunk of one byte and a pad byte 7, the format, and three bytes of data: 57 bytes, with the size field one too many
abbrev wide_frame : List ℕ
wide_frame =
    82 ∷ 73 ∷ 70 ∷ 70 ∷ 50 ∷ 0 ∷ 0 ∷ 0 ∷ 87 ∷ 65 ∷ 86 ∷ 69 ∷ 76 ∷ 73 ∷ 83 ∷ 84 ∷ 1 ∷ 0 ∷ 0 ∷ 0 ∷ 9 ∷ 7
    ∷ 102 ∷ 109 ∷ 116 ∷ 32 ∷ 16 ∷ 0 ∷ 0 ∷ 0 ∷ 1 ∷ 0 ∷ 1 ∷ 0 ∷ 128 ∷ 187 ∷ 0 ∷ 0 ∷ 0 ∷ 0 ∷ 0 ∷ 0 ∷ 3 ∷ 0 ∷ 24 ∷ 0
    ∷ 100 ∷ 97 ∷ 116 ∷ 97 ∷ 3 ∷ 0 ∷ 0 ∷ 0 ∷ 0 ∷ 0 ∷ 128 ∷ []

wide_sample_fits : All (IsSample 24) (negsuc 8388607 ∷ [])
wide_sample_fits = All-from_recursion (IsSample 24) (negsuc 8388607 ∷ []) ((omega (arith, ints), omega (arith, ints)), tt)

pub wide_frame_read : IsWave wide_frame (record { depth = 24; frames = 1; lists = (negsuc 8388607 ∷ []) ∷ [] })
wide_frame_read = (
  chunk (codes "LIST") (9 ∷ []) ∷ chunk (codes "fmt ") wide_content ∷ chunk (codes "data") wide_sample ∷ [],
  record {
    size = 50;
    body = _;
    written = refl;
    size_fits = lit< tt;
    near = (omega arith, omega arith);
    spelled = (
      7 ∷ [],
      _,
      short_chunk (codes "LIST") (9 ∷ []) refl (omega arith),
      refl,
      inl refl,
      (
        [],
        _,
        short_chunk (codes "fmt ") wide_content refl (omega arith),
        refl,
        inl refl,
        ([], _, short_chunk (codes "data") wide_sample refl (omega arith), refl, inr (refl, refl), refl),
      ),
    );
    format = record { head = 22; content = wide_content };
    data_chunk = record { head = 46; content = wide_sample };
    one_format = refl;
    one_data = refl;
    one_bext = inl refl;
    is_format = record {
      long = omega arith;
      pcm = inl refl;
      channels_field = refl;
      rate_field = refl;
      depth_field = refl;
      depth_known = inr refl;
      align_field = refl;
    };
    samples = refl;
    is_sound = record {
      has_channel = omega arith;
      few_channels = omega arith;
      least_depth = omega arith;
      greatest_depth = omega arith;
      short = lit< tt;
      equal = All-cons (λ (xs : List ℤ). length xs ≡ 1) (negsuc 8388607 ∷ []) [] refl (All-nil (λ (xs : List ℤ). length xs ≡ 1));
      within = All-cons (λ (xs : List ℤ). All (IsSample 24) xs) (negsuc 8388607 ∷ []) [] wide_sample_fits (All-nil (λ (xs : List ℤ). All (IsSample 24) xs));
    };
  },
)

-- ---- broken files: two frames of one channel in 48 bytes, with an edit

abbrev edited : ℕ → ℕ → ℕ → List ℕ → List ℕ
edited size align data_length more =
    82 ∷ 73 ∷ 70 ∷ 70 ∷ size ∷ 0 ∷ 0 ∷ 0 ∷ 87 ∷ 65 ∷ 86 ∷ 69
    ∷ 102 ∷ 109 ∷ 116 ∷ 32 ∷ 16 ∷ 0 ∷ 0 ∷ 0 ∷ 1 ∷ 0 ∷ 1 ∷ 0 ∷ 128 ∷ 187 ∷ 0 ∷ 0 ∷ 0 ∷ 119 ∷ 1 ∷ 0 ∷ align ∷ 0 ∷ 16 ∷ 0
    ∷ 100 ∷ 97 ∷ 116 ∷ 97 ∷ data_length ∷ 0 ∷ 0 ∷ 0 ∷ 1 ∷ 0 ∷ 2 ∷ 0 ∷ more

abbrev two_content : List ℕ
two_content = 1 ∷ 0 ∷ 2 ∷ 0 ∷ []

-- the size field is 38, two fewer than the bytes behind it
pub size_is_broken : Breaks (edited 38 2 4 []) OtherSize 4
size_is_broken = (λ near. let far = near.1 in omega (arith, far), refl)

-- the `data` chunk says that it has a byte more than there is
pub cut_is_broken : Breaks (edited 40 2 5 []) CutChunk 36
cut_is_broken = (
  chunk (codes "fmt ") (format_content 1 2) ∷ [],
  codes "data" ++ (5 ∷ 0 ∷ 0 ∷ 0 ∷ two_content),
  ([], _, short_chunk (codes "fmt ") (format_content 1 2) refl (omega arith), refl, inl refl, refl),
  omega arith,
  inr (omega arith),
  refl,
)

-- an empty `data` chunk behind the first
pub repeat_is_broken : Breaks (edited 48 2 4 (codes "data" ++ (0 ∷ 0 ∷ 0 ∷ 0 ∷ []))) RepeatedChunk 48
repeat_is_broken = (
  chunk (codes "fmt ") (format_content 1 2) ∷ chunk (codes "data") two_content ∷ chunk (codes "data") [] ∷ [],
  (
    [],
    _,
    short_chunk (codes "fmt ") (format_content 1 2) refl (omega arith),
    refl,
    inl refl,
    (
      [],
      _,
      short_chunk (codes "data") two_content refl (omega arith),
      refl,
      inl refl,
      ([], [], short_chunk (codes "data") [] refl (omega arith), refl, inl refl, refl),
    ),
  ),
  refl,
)

-- four bytes a frame, where there are two
pub align_is_broken : Breaks (edited 40 4 4 []) OtherAlign 32
align_is_broken = (
  chunk (codes "fmt ") (format_content 1 4) ∷ chunk (codes "data") two_content ∷ [],
  (
    [],
    _,
    short_chunk (codes "fmt ") (format_content 1 4) refl (omega arith),
    refl,
    inl refl,
    ([], _, short_chunk (codes "data") two_content refl (omega arith), refl, inl refl, refl),
  ),
  (record { head = 12; content = format_content 1 4 }, refl, (λ (same : 4 ≡ 2). omega (arith, same)), refl),
)

-- three bytes of data, then a pad byte
pub frames_are_broken : Breaks (edited 40 2 3 []) PartFrame 36
frames_are_broken = (
  chunk (codes "fmt ") (format_content 1 2) ∷ chunk (codes "data") (1 ∷ 0 ∷ 2 ∷ []) ∷ [],
  (
    [],
    _,
    short_chunk (codes "fmt ") (format_content 1 2) refl (omega arith),
    refl,
    inl refl,
    (0 ∷ [], _, short_chunk (codes "data") (1 ∷ 0 ∷ 2 ∷ []) refl (omega arith), refl, inl refl, refl),
  ),
  (
    record { head = 12; content = format_content 1 2 },
    record { head = 36; content = 1 ∷ 0 ∷ 2 ∷ [] },
    refl,
    refl,
    (λ (same : 1 ≡ 0). omega (arith, same)),
    refl,
  ),
)
