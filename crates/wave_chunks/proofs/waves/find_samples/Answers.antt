use Rattle.std.proofs.Common.{◌≡◌, ◌∙◌, ◌%◌, ◌-◌, ℕ, subst, ap, sym}
use Rattle.std.specs.Prelude.{codes}
use Rattle.wave_chunks.specs.Spans.{AtMostOne}
use Rattle.wave_chunks.proofs.Locating.{part_frame, none_below_part_frame, none_below_short_bext}
use Rattle.wave_chunks.proofs.waves.find_samples.Goals as goal

rest_is : (length divisor start end align : ℕ) → length ≡ end - start → divisor ≡ align → length % divisor ≡ (end - start) % align
rest_is length divisor start end align is same = ap (λ (n : ℕ). n % divisor) is ∙ ap (λ (n : ℕ). (end - start) % n) same

whole_is : (c : goal.Else-length_of-from-ne0) → (c.in-Some.span.end - c.in-Some.span.start) % c.args.format.align ≡ 0
whole_is c = sym (rest_is _ _ c.in-Some.span.start c.in-Some.span.end _ c.length_of.ensures c.from.ensures) ∙ c.if-length_of-from-ne0.false

pub returns-then-length_of-from-ne0-clause-err : goal.returns-then-length_of-from-ne0-clause-err
returns-then-length_of-from-ne0-clause-err c =
    let bytes = c.args.bytes.now in
    let has = subst (AtMostOne bytes (codes "data")) c.in-Some.is c.requires.found in
    c.broken-then-length_of-from-ne0.ensures bytes
    (none_below_part_frame bytes c.in-Some.span has c.requires.lower)
    (part_frame bytes c.in-Some.span c.args.format _ c.requires.format has
    (λ none. c.if-length_of-from-ne0.true (rest_is _ _ c.in-Some.span.start c.in-Some.span.end _ c.length_of.ensures c.from.ensures ∙ none)) c.head_before.ensures)

pub returns-clause-passed : goal.returns-clause-passed
returns-clause-passed c =
    none_below_short_bext c.args.bytes.now c.in-Some.span c.args.format c.requires.format
    (subst (AtMostOne c.args.bytes.now (codes "data")) c.in-Some.is c.requires.found) (whole_is c) c.requires.lower

pub returns-clause-whole : goal.returns-clause-whole
returns-clause-whole c = whole_is c
