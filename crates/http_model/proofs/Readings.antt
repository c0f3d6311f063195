-- What a head reads is shorter than the bytes that it begins.
use Rattle.std.proofs.Common.{◌≡◌, ℕ, ◌+◌, ◌<◌, List, ◌∷◌, ◌++◌, length, take, drop, sym, ap, ◌∙◌, arith, length-append}
use Rattle.std.proofs.Math.Seq.{take-append_seam, drop-append_seam}
use Rattle.httparse.specs.Grammar.{RequestHead, ReadsRequest, print_request, print_blank, print_version, print_end, print_section}

-- Lists with equally long fronts are equal only where their fronts and their rests are.
pub append-split : (a b r t : List ℕ) → length a ≡ length b → a ++ r ≡ b ++ t → (a ≡ b) × (r ≡ t)
append-split a b r t long same = (
  sym (take-append_seam a r) ∙ ap (take (length a)) same ∙ ap (λ n. take n (b ++ t)) long ∙ take-append_seam b t,
  sym (drop-append_seam a r) ∙ ap (drop (length a)) same ∙ ap (λ n. drop n (b ++ t)) long ∙ drop-append_seam b t,
)

-- The bytes of a head are more than those of its method.
pub print_request-longer : (a b c d e f rest : List ℕ) → length rest + length b < length ((a ++ b ++ 32 ∷ c ++ 32 ∷ d ++ e ++ f) ++ rest)
print_request-longer a b c d e f rest = simp length-append (omega arith)

-- A request has bytes.
pub ReadsRequest-shorter : (bytes : List ℕ) (h : RequestHead) (rest : List ℕ) → ReadsRequest bytes h rest
    → length rest < length bytes
unfolding print_request
ReadsRequest-shorter bytes h rest x =
    let longer = print_request-longer (print_blank h.blank) h.method h.target (print_version h.minor)
    (print_end h.line_end) (print_section h.fields h.last) rest in
    omega (arith, longer, ap length x.1)
