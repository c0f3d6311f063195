use Rattle.std.proofs.Common.{ℕ, List, ◌++◌, get_or, ap, sym, ◌∙◌, arith}
use Rattle.file_model.specs.Crc.{crc16}
use Rattle.file_model.proofs.BitsLemmas.{first_eight}
use Rattle.bit_codec.proofs.CheckLemmas.{crc16_bytes}
use Rattle.bit_codec.proofs.checks.after_eight.Goals as goal

pub returns : goal.returns
returns c = λ before is.
    crc16_bytes before c.args.check (λ (i : ℕ). get_or c.args.next.now i 0) _ _ _ _ _ _ _ _ (λ (i : ℕ). omega (arith, c.type_inv.next i)) is
    c.frame_entry-7.ensures c.frame_entry-8.ensures c.frame_entry.ensures c.frame_entry-2.ensures
    c.frame_entry-3.ensures c.frame_entry-4.ensures c.frame_entry-5.ensures c.frame_entry-6.ensures
    ∙ ap (λ (xs : List ℕ). crc16 (before ++ xs)) (sym (first_eight c.args.next.now c.requires))
