-- Comments as spans of a block's content.
use Rattle.std.specs.Prelude.{◌≤◌, ◌-◌, ℕ, List, length, map, All}
use Rattle.lib_base.specs.Sounds.{part}
use Rattle.lib_base.specs.declared.files.Span.{Span}
use Rattle.file_model.specs.Comments.{Comments}

-- the bytes that lie in a span
abbrev pub text_in : List ℕ → Span → List ℕ
text_in content span = part content span.start (span.end - span.start)

-- the span lies in the content
pub record IsWithin (content : List ℕ) (span : Span) : Type 0 where
  pub ordered : span.start ≤ span.end
  pub inside : span.end ≤ length content

-- the vendor and the comments that lie in spans
abbrev pub comments_of : List ℕ → Span → List Span → Comments
comments_of content vendor entries = record { vendor = text_in content vendor; entries = map (text_in content) entries }

-- all of these spans lie in the content
pub record AreWithin (content : List ℕ) (vendor : Span) (entries : List Span) : Type 0 where
  pub vendor_within : IsWithin content vendor
  pub entries_within : All (IsWithin content) entries
