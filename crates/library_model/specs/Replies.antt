-- Replies (RFC 8259).
use Rattle.std.specs.Prelude.{ℕ, List, ◌++◌, codes, decimal}
use Rattle.lib_base.specs.declared.outcomes.Rule.{Rule}
use Rattle.lib_base.specs.Rules.{rule_text}
use Rattle.library_model.specs.declared.messages.BodyKind.TheVariants.{Json}
use Rattle.library_model.specs.declared.messages.Reply.{Reply}
use Rattle.library_model.specs.declared.refusals.Refusal.{Refusal}
use Rattle.library_model.specs.declared.refusals.Refusal.TheVariants.{Format}
use Rattle.library_model.specs.Refusals.{status_of, word_of}

-- a reply of JSON
abbrev pub json : ℕ → List ℕ → Reply
json status body = record { status = status; kind = Json; body = body }

-- a refusal: its status, and its word as JSON
abbrev pub refusal : Refusal → Reply
refusal cause = json (status_of cause) (codes "{\"error\":\"" ++ word_of cause ++ codes "\"}")

-- the refusal of a file that breaks a rule at a place
abbrev pub format_refusal : Rule → ℕ → Reply
format_refusal rule place =
    json (status_of Format) (codes "{\"error\":\"" ++ word_of Format
    ++ codes "\",\"place\":" ++ decimal place ++ codes ",\"rule\":\"" ++ rule_text rule ++ codes "\"}")
