-- What reading a block answers besides its comments.
use Rattle.std.specs.Prelude.{◌≡◌, ℕ, List, ⊤, Result, Err}
use Rattle.lib_base.specs.declared.outcomes.Refused.{Refused}
use Rattle.lib_base.specs.declared.outcomes.Refused.TheVariants.{Broken, Memory}
use Rattle.file_model.specs.declared.comment_rules.CommentBreak.{CommentBreak}
use Rattle.file_model.specs.Comments.{comment_rule_of, comments_at}

-- the refusal tells this rule and place
abbrev pub RefusesBy : Refused → CommentBreak → Type 0
RefusesBy refused found = refused ≡ Broken (record { rule = comment_rule_of found.rule; place = found.place })

-- The refusal is that of this reading: by its rule, at its place. Want of memory says nothing of it.
abbrev pub Refuses : {Y : Type 0} → Refused → Result Y CommentBreak → Type 0
Refuses (Broken fault) read =
    (found : CommentBreak) × (read ≡ Err found) × (fault ≡ record { rule = comment_rule_of found.rule; place = found.place })
Refuses Memory read = ⊤

-- the refusal is that of this content
abbrev pub IsRefusalOf : List ℕ → Refused → Type 0
IsRefusalOf content refused = Refuses refused (comments_at content)
