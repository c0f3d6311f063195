use Rattle.std.proofs.Common.{◌≡◌, ◌≤◌, ◌-◌, length, drop, map}
use Rattle.std.specs.Prelude.{All}
use Rattle.file_model.specs.Comments.{entry_at}
use Rattle.file_model.specs.Outcomes.{times_at}
use Rattle.vorbis_comment.specs.Spans.{text_in, IsWithin}
use Rattle.vorbis_comment.proofs.Times.{with_front}
use Rattle.vorbis_comment.proofs.entries.read_entries.Given as goal

-- the comments so far, and those that are still to come
abbrev pub invariant-loop-index : goal.invariant-loop-index
invariant-loop-index l = record {
  goes :
      with_front (map (text_in l.content) l.spans.items) (times_at (entry_at l.content) (l.count - l.index) (drop l.end l.content))
      ≡ times_at (entry_at l.content) l.count (drop l.at l.content);
  within : All (IsWithin l.content) l.spans.items;
  inside : l.end ≤ length l.content;
}
