use Rattle.std.proofs.Common.{◌≡◌, ◌≤◌, ◌&&◌, ℕ, Bool, true, List, length, map, nat_le, string_bytes, String, Global, sym, ap, ◌∙◌, rules, arith}
use Rattle.std.proofs.lemmas.Bool.{le-leb}
use Rattle.std.proofs.lemmas.List.{length-map}
use Rattle.std.proofs.lemmas.List.Folds.{list_all-map}
use Rattle.std.specs.List.{list_all}
use Rattle.cli_words.specs.Commands.{is_put, are_put}
use Rattle.cli_words.proofs.commands.are_put.Goals as goal

-- a test of each word, where there are not too many
tested : (b : Bool) (words : List (String Global)) → length words ≤ 8 → b ≡ list_all (λ w. is_put (string_bytes w)) words
    → b ≡ are_put (map string_bytes words)
tested b words few each =
    let short : nat_le (length (map string_bytes words)) 8 ≡ true =
    le-leb (length (map string_bytes words)) 8 (omega (arith, length-map words string_bytes)) in
    each ∙ sym (list_all-map is_put string_bytes words)
    ∙ sym (ap (λ (a : Bool). a && list_all is_put (map string_bytes words)) short)

pub returns-then-words-le-MOST_WORDS : goal.returns-then-words-le-MOST_WORDS
returns-then-words-le-MOST_WORDS c = tested _ c.args.words.now c.if-words-le-MOST_WORDS.true c.each_is_put.ensures
