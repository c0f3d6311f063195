-- Worked blocks of comments, and the rules that edits of them break.
use Rattle.std.proofs.Common.{◌≡◌, ℕ, List, [], ◌∷◌, ◌++◌, replicate, None, Some, Ok, Err, refl}
use Rattle.std.specs.Prelude.{codes}
use Rattle.lib_base.specs.declared.outcomes.Rule.TheVariants.{K}
use Rattle.file_model.specs.declared.comment_rules.CommentRule.TheVariants.{CutVendor, CutComment, BytesLeft}
use Rattle.file_model.specs.Comments.{count_at, text_at, comments_at}
use Rattle.file_model.specs.Files.{comments_in, Reads}
use Rattle.file_model.specs.Outcomes.{times_at}
use Rattle.file_model.specs.Reading.{broken}

-- no vendor and no comment
none : List ℕ
none = replicate 8 0

-- the vendor `ab`, and the comments `A=1` and one of no bytes
two : List ℕ
two = 2 ∷ 0 ∷ 0 ∷ 0 ∷ codes "ab" ++ (2 ∷ 0 ∷ 0 ∷ 0 ∷ 3 ∷ 0 ∷ 0 ∷ 0 ∷ codes "A=1" ++ (0 ∷ 0 ∷ 0 ∷ 0 ∷ []))

row_none : comments_at none ≡ Ok (record { vendor = []; entries = [] })
unfolding none count_at text_at times_at comments_at
row_none = refl

row_two : comments_at two ≡ Ok (record { vendor = codes "ab"; entries = codes "A=1" ∷ [] ∷ [] })
unfolding two count_at text_at times_at comments_at
row_two = refl

-- a vendor of five bytes, of which four are there
row_cut_vendor : comments_at (5 ∷ replicate 7 0) ≡ Err (record { rule = CutVendor; place = 0 })
unfolding count_at text_at times_at comments_at
row_cut_vendor = refl

-- not even the vendor's length
row_no_vendor : comments_at (replicate 3 0) ≡ Err (record { rule = CutVendor; place = 0 })
unfolding count_at text_at times_at comments_at
row_no_vendor = refl

-- a count of which three bytes are there
row_cut_count : comments_at (replicate 7 0) ≡ Err (record { rule = CutComment; place = 4 })
unfolding count_at text_at times_at comments_at
row_cut_count = refl

-- one comment is counted, and its length is not there
row_cut_comment : comments_at (replicate 4 0 ++ 1 ∷ replicate 3 0) ≡ Err (record { rule = CutComment; place = 8 })
unfolding count_at text_at times_at comments_at
row_cut_comment = refl

row_bytes_left : comments_at (two ++ 0 ∷ []) ≡ Err (record { rule = BytesLeft; place = 21 })
unfolding two count_at text_at times_at comments_at
row_bytes_left = refl

-- ---- in a file

-- comments behind STREAMINFO, whose content has 34 bytes: the block's content begins at 46
row_in_file : comments_in 4 (record { kind = 0; content = replicate 34 0 } ∷ record { kind = 4; content = 5 ∷ replicate 7 0 } ∷ [])
    ≡ Err (record { rule = CutVendor; place = 46 })
unfolding count_at text_at times_at comments_at
row_in_file = refl

row_right_in_file : comments_in 4 (record { kind = 0; content = [] } ∷ record { kind = 4; content = two } ∷ [])
    ≡ Ok (Some (record { vendor = codes "ab"; entries = codes "A=1" ∷ [] ∷ [] }))
unfolding two count_at text_at times_at comments_at
row_right_in_file = refl

-- padding and no comments
row_none_in_file : comments_in 4 (record { kind = 0; content = [] } ∷ record { kind = 1; content = 5 ∷ [] } ∷ []) ≡ Ok None
row_none_in_file = refl

-- other bytes than `RIFF` or `fLaC`
row_other_kind : Reads (codes "PK") (broken (K 1) 0)
row_other_kind = refl
