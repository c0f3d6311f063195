use Rattle.std.proofs.Common.{rules, map, string_bytes}
use Rattle.cli_words.proofs.Ranges.{named-within}
use Rattle.cli_words.proofs.commands.read_command.Goals as goal

pub returns-in-Some-clause-within : goal.returns-in-Some-clause-within
returns-in-Some-clause-within c =
    let within = named-within c.as_str.result.now (map string_bytes c.args.words.now) in search rules
