use Rattle.std.proofs.Common.{◌≡◌, length, rules}
use Rattle.true_peak.proofs.Shifts.{shifted, small_shifted}
use Rattle.true_peak.proofs.history.History.after.Goals as goal

pub invariant_of-result : goal.invariant_of-result
invariant_of-result c =
    let eleven : length c.args.self.before ≡ 11 = search rules in
    record { within = small_shifted c.args.value c.args.self.before c.requires eleven c.args.self.within }

pub returns : goal.returns
returns c =
    let eleven : length c.args.self.before ≡ 11 = search rules in
    shifted c.args.value c.args.self.before c.requires eleven c.args.self.within
