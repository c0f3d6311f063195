use Rattle.std.proofs.Common.{◌≡◌, ℤ, List, take, length, subst, rules, arith}
use Rattle.std.specs.List.{All}
use Rattle.std.proofs.lemmas.List.{take_all}
use Rattle.true_peak.proofs.Lows.{Low, low_stays}
use Rattle.true_peak.proofs.runs.Run.greatest_with.Goals as goal

pub returns-then-self-eq11 : goal.returns-then-self-eq11
returns-then-self-eq11 c =
    let xs = c.args.self.history.before in
    let eleven : length xs ≡ 11 = search rules in
    let whole : take c.args.self.low xs ≡ xs = take_all c.args.self.low xs (omega arith) in
    let Lows : List ℤ → Type 0 = λ ys. All (Low c.args.self.greatest) ys in
    low_stays c.args.value xs c.args.self.greatest (c.requires.low c.if-is_low.true) (subst Lows whole c.args.self.are_low)
