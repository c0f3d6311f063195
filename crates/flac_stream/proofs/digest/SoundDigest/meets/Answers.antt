use Rattle.std.proofs.Common.{◌++◌, ◌∙◌, ℕ, List, sym, ap}
use Rattle.std.specs.Prelude.{nat_eq}
use Rattle.std.specs.Cmp.Lexicographic.{pointwise}
use Rattle.md5.specs.Md5.{md5}
use Rattle.flac_stream.proofs.Digests.{met_unasked, met_asked}
use Rattle.flac_stream.proofs.digest.SoundDigest.meets.Goals as goal

pub returns-then-not-is_asked : goal.returns-then-not-is_asked
returns-then-not-is_asked c = λ message fed. met_unasked c.args.self.is_asked _ _ fed.asked_is c.if-not-is_asked.true

pub returns : goal.returns
returns c = λ message fed.
    let yes = c.if-not-is_asked.false in
    let was = fed.holds (sym fed.asked_is ∙ yes) in
    let whole = c.finalize-digest.ensures _ (c.update.ensures was.0 was.1) in
    c.is_same.ensures ∙ ap (pointwise nat_eq c.args.wanted.now) (whole ∙ ap md5 (ap (λ (xs : List ℕ). was.0 ++ xs) c.as_slice.ensures.value ∙ was.2)) ∙ met_asked c.args.self.is_asked _ _ fed.asked_is yes
