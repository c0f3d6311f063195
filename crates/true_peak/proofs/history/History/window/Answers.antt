use Rattle.std.proofs.Common.{◌≡◌, length, rules}
use Rattle.true_peak.proofs.Shifts.{with_all, small_all}
use Rattle.true_peak.proofs.history.History.window.Goals as goal

pub returns-clause-window : goal.returns-clause-window
returns-clause-window c =
    let eleven : length c.args.self.before ≡ 11 = search rules in
    with_all c.args.value c.args.self.before c.requires eleven c.args.self.within

pub returns-clause-within : goal.returns-clause-within
returns-clause-within c =
    let eleven : length c.args.self.before ≡ 11 = search rules in
    small_all c.args.value c.args.self.before c.requires eleven c.args.self.within
