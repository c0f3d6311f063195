use Rattle.std.proofs.Common.{◌≡◌, ◌∙◌, ap, append_assoc, string_bytes}
use Rattle.library_model.specs.declared.refusals.Refusal.TheVariants.{Format}
use Rattle.library_model.specs.Refusals.{status_of}
use Rattle.library_model.specs.Replies.{json, format_refusal}
use Rattle.json_bodies.proofs.replies.refuse_format.Goals as goal

pub returns : goal.returns
returns c =
    let told = rw c.word-word.ensures at c.in_ok-text.ensures.ok in
    let text : string_bytes c.in_ok-text.text ≡ (format_refusal c.args.broken.rule c.args.broken.place).body =
    told ∙ simp append_assoc in
    c.json_reply.ensures ∙ rw c.status.ensures (ap (json (status_of Format)) text)
