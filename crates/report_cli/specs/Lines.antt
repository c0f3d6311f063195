-- The lines that a run writes.
use Rattle.std.specs.Prelude.{◌≡◌, ◌⊎◌, ℕ, List, [], ◌∷◌, ◌++◌, codes, decimal}
use Rattle.std.specs.Io.KnownBytes.{Appends}
use Rattle.lib_base.specs.Writes.{AppendsPart, SinkView}
use Rattle.library_model.specs.declared.bad_rows.BadRow.{BadRow}
use Rattle.library_model.specs.RowRules.{bad_row_text}
use Rattle.library_http.specs.declared.serving.How.{How}
use Rattle.library_http.specs.declared.serving.How.TheVariants.{Ended, Unframeable, Turns, SourceFault, SinkFault, Memory}
use Rattle.report_cli.specs.declared.statuses.Status.{Status}
use Rattle.report_cli.specs.declared.statuses.Status.TheVariants as status
use Rattle.report_cli.specs.Statuses.{code}

-- the line for words that are no command
abbrev pub usage_line : List ℕ
usage_line = codes "usage: loudlib session, serve, report, audit, trial or tag" ++ 10 ∷ []

-- the line for a row that breaks a rule, as `bad row: table 3 id 3 rule 2`
abbrev pub bad_row_line : BadRow → List ℕ
bad_row_line bad = codes "bad row: " ++ bad_row_text bad ++ 10 ∷ []

-- the word for how a connection ended
abbrev pub end_word : How → List ℕ
end_word Ended = codes "ended"
end_word Unframeable = codes "unframeable"
end_word Turns = codes "turns"
end_word SourceFault = codes "source-fault"
end_word SinkFault = codes "sink-fault"
end_word Memory = codes "memory"

-- the line for the connection of that number, by the word for its end, and how many requests it was answered
abbrev pub end_line : ℕ → List ℕ → ℕ → List ℕ
end_line number word answered =
    codes "connection " ++ decimal number ++ codes " " ++ word ++ codes " " ++ decimal answered ++ 10 ∷ []

-- a fault of the sink, or want of memory
abbrev pub IsBrokenOff : ℕ → Type 0
IsBrokenOff n = (n ≡ code status.SinkFault) ⊎ (n ≡ code status.Memory)

-- The line was written, and the status is the one that was meant; or a part of it was written, and the run broke off.
abbrev pub Prints : List ℕ → Status → SinkView → SinkView → ℕ → Type 0
Prints line meant sink_before sink_now n =
    ((n ≡ code meant) × Appends sink_before.written sink_now.written line)
    ⊎ (IsBrokenOff n × AppendsPart sink_before.written sink_now.written line)
