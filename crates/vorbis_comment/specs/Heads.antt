-- What stands before the comments of a block.
use Rattle.std.specs.Prelude.{ℕ, List, Result, Ok}
use Rattle.file_model.specs.declared.comment_rules.CommentBreak.{CommentBreak}
use Rattle.file_model.specs.declared.comment_rules.CommentRule.TheVariants.{CutVendor, CutComment}
use Rattle.file_model.specs.Comments.{breaks_before, count_at, text_at}
use Rattle.file_model.specs.Outcomes.{◌>>=◌}

-- the vendor
abbrev pub vendor_at : List ℕ → Result (List ℕ × List ℕ) CommentBreak
vendor_at content = text_at (breaks_before content CutVendor content) content

-- how many comments there are, a number at the start of these bytes, the last ones of the content
abbrev pub entries_count_at : List ℕ → List ℕ → Result (ℕ × List ℕ) CommentBreak
entries_count_at content bytes = count_at (breaks_before content CutComment bytes) bytes

-- the vendor, the count, and the bytes behind it
unfoldable pub head_at : List ℕ → Result ((List ℕ × ℕ) × List ℕ) CommentBreak
head_at content = do
  vendor ← vendor_at content
  count ← entries_count_at content vendor.1
  Ok ((vendor.0, count.0), count.1)
