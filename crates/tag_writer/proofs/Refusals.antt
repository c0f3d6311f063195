-- What refuses a file.
use Rattle.std.proofs.Common.{◌≡◌, inl, inr, ◌≤◌, ◌+◌, ◌-◌, ℕ, List, length, Option, None, Some, refl, ap, sym, ◌∙◌, subst, arith}
use Rattle.lib_base.specs.Kinds.{kind_named}
use Rattle.lib_base.specs.Sounds.{part}
use Rattle.lib_base.specs.declared.files.Kind.{Kind}
use Rattle.lib_base.specs.declared.files.Kind.TheVariants.{Wave, Flac}
use Rattle.lib_base.specs.declared.files.Span.{Span}
use Rattle.lib_base.specs.declared.outcomes.Broken.{Broken as Fault}
use Rattle.lib_base.specs.declared.outcomes.Refused.{Refused}
use Rattle.lib_base.specs.declared.outcomes.Refused.TheVariants.{Broken, Memory}
use Rattle.file_model.specs.declared.comment_rules.KindRule.TheVariants.{OtherKind}
use Rattle.file_model.specs.Comments.{comments_at}
use Rattle.file_model.specs.Files.{kind_rule_of, in_file, ReadsAs, Reads}
use Rattle.file_model.specs.Reading.{broken}
use Rattle.file_model.proofs.CommentLaws.{breaks_inside}
use Rattle.flac_stream.specs.Answers.{IsRefusalOf as IsFlacOnlyRefusal}
use Rattle.flac_stream.specs.Shape.{Shape, IsReadOf}
use Rattle.vorbis_comment.specs.Answers.{IsRefusalOf as IsBlockRefusal}
use Rattle.wave_chunks.specs.Answers.{IsRefusalOf as IsWaveRefusal}
use Rattle.tag_writer.specs.Answers.{IsFlacRead, IsRefusalOf, IsFlacRefusalOf, IsCommentsSpan, AreComments, IsRefusalAt}

-- bytes of no kind
pub kind_refused : (bytes : List ℕ) → kind_named bytes ≡ None → Reads bytes (broken (kind_rule_of OtherKind) 0)
kind_refused bytes is = subst (λ (kind : Option Kind). ReadsAs kind bytes (broken (kind_rule_of OtherKind) 0)) (sym is) refl

-- bytes of a wave
pub wave_refused : (bytes : List ℕ) (refused : Refused) → kind_named bytes ≡ Some Wave → IsWaveRefusal bytes refused → IsRefusalOf bytes refused
wave_refused bytes (Broken fault) is reads =
    subst (λ (kind : Option Kind). ReadsAs kind bytes (broken fault.rule fault.place)) (sym is) reads
wave_refused bytes Memory is reads = tt

-- bytes of a FLAC file
pub flac_refused : (bytes : List ℕ) (refused : Refused) → kind_named bytes ≡ Some Flac → IsFlacRefusalOf bytes refused → IsRefusalOf bytes refused
flac_refused bytes (Broken fault) is reads =
    subst (λ (kind : Option Kind). ReadsAs kind bytes (broken fault.rule fault.place)) (sym is) reads
flac_refused bytes Memory is reads = tt

-- bytes that are none
pub stream_refused : (bytes : List ℕ) (refused : Refused) → IsFlacOnlyRefusal bytes refused → IsFlacRefusalOf bytes refused
stream_refused bytes (Broken fault) reads = inl reads
stream_refused bytes Memory reads = tt

-- ---- comments

-- right comments
pub comments_right : (bytes : List ℕ) (file : Shape) (span : Span) (content : List ℕ) (read : IsReadOf bytes file) → IsCommentsSpan bytes read.blocks span
    → content ≡ part bytes span.start (span.end - span.start) → AreComments content → IsFlacRead bytes file
comments_right bytes file span content read lies is (comments, are) = record {
  read = read;
  comments = Some comments;
  right = lies.reads ∙ ap (λ (xs : List ℕ). in_file span.start (comments_at xs)) (sym is) ∙ ap (in_file span.start) are;
}

-- comments that break a rule
pub comments_refused : (bytes : List ℕ) (file : Shape) (span : Span) (content : List ℕ) (refused : Refused) (read : IsReadOf bytes file)
    → IsCommentsSpan bytes read.blocks span → content ≡ part bytes span.start (span.end - span.start) → IsRefusalAt content span.start refused
    → IsFlacRefusalOf bytes refused
comments_refused bytes file span content (Broken fault) read lies is (found, breaks, told) =
    inr (
      read.sound,
      record { rule = found.rule; place = span.start + found.place },
      record {
        blocks = read.blocks;
        info = file.info;
        frames = read.frames;
        reads = read.reads;
        comments_are = lies.reads ∙ ap (λ (xs : List ℕ). in_file span.start (comments_at xs)) (sym is) ∙ ap (in_file span.start) breaks;
      },
      ap (λ (f : Fault). f.rule) told,
      ap (λ (f : Fault). f.place) told,
    )
comments_refused bytes file span content Memory read lies is refuses = tt

-- a block of comments is broken within its content, or at its end
pub refused_inside : (content : List ℕ) (refused : Refused) (fault : Fault) → refused ≡ Broken fault → IsBlockRefusal content refused
    → fault.place ≤ length content
refused_inside content (Broken other) fault is (found, breaks, told) =
    let inside = breaks_inside content found breaks in
    let place = ap (λ (f : Fault). f.place) told in
    let same : other ≡ fault = cc in
    subst (λ (f : Fault). f.place ≤ length content) same (omega (arith, place, inside))
refused_inside content Memory fault is refuses = absurd cc
