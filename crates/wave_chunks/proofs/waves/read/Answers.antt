use Rattle.std.proofs.Common.{◌≡◌, ◌∙◌, ◌-◌, ◌/◌, ℕ, ap, refl}
use Rattle.wave_chunks.proofs.Whole.{read_is}
use Rattle.wave_chunks.proofs.waves.read.Goals as goal

frames_are : (length divisor start end align : ℕ) → length ≡ end - start → divisor ≡ align → length / divisor ≡ (end - start) / align
frames_are length divisor start end align is same = ap (λ (n : ℕ). n / divisor) is ∙ ap (λ (n : ℕ). (end - start) / n) same

pub returns-clause-ok : goal.returns-clause-ok
returns-clause-ok c =
    read_is c.args.bytes.now _ c.in_ok-format.format c.in_ok-samples.samples (λ i. (c.type_inv.bytes i).fits) c.in_ok-check_head.ensures.headed
    c.in_ok-chunks.ensures.ok c.in_ok-format.ensures.format c.in_ok-samples.ensures.samples c.in_ok-samples.ensures.whole c.in_ok-check_bext.ensures.right
    c.from-2.ensures c.from-3.ensures (frames_are _ _ _ _ _ c.length_of.ensures c.from.ensures) refl
