-- Eight bytes from the place on, and its bits fallen off at the top.
use Rattle.std.proofs.Common.{ℕ, List, take, ap, ◌∙◌, arith}
use Rattle.file_model.specs.Bits.{bits, number}
use Rattle.bit_codec.specs.Reader.{source, place, left}
use Rattle.bit_codec.proofs.WindowsLemmas.{window_at}
use Rattle.bit_codec.proofs.reader.BitReader.window.Goals as goal

pub returns : goal.returns
unfolding source place left
returns c =
    window_at c.args.self.now.bytes.now c.args.self.now.byte c.args.self.now.bit c.word.result (omega arith) (omega arith)
    (c.word.ensures ∙ ap (λ (xs : List ℕ). number (bits (take 8 xs))) c.split_at.ensures.back)
