use Rattle.std.proofs.Common.{◌≡◌, ◌∙◌, IfOk, sym, subst}
use Rattle.std.proofs.lemmas.Result.{IfOk-weaker}
use Rattle.library_model.specs.Machine.{question_reply}
use Rattle.library_model.specs.Stands.{tables_of}
use Rattle.library_model.specs.declared.messages.Question.{Question}
use Rattle.library_model.specs.declared.messages.Question.TheVariants as about
use Rattle.catalogue_core.specs.Asking.{album_reply_in, recording_reply_in}
use Rattle.catalogue_core.proofs.Asked.{album_replied, recording_replied}
use Rattle.catalogue_core.proofs.asking.ask.Goals as goal

pub returns-in-Recording-clause-answers : goal.returns-in-Recording-clause-answers
returns-in-Recording-clause-answers g c = λ s keeps.
    let id = c.in-Recording.id in
    subst (λ (question : Question). IfOk c.ask_recording.result (λ reply. reply ≡ question_reply s question)) (sym c.in-Recording.is)
    (IfOk-weaker c.ask_recording.result (λ reply. reply ≡ recording_reply_in (tables_of s) id) (λ reply. reply ≡ question_reply s (about.Recording id))
    (λ reply same. same ∙ recording_replied s id) (c.ask_recording.ensures (tables_of s) keeps.rows))

pub returns-in-Album-clause-answers : goal.returns-in-Album-clause-answers
returns-in-Album-clause-answers g c = λ s keeps.
    let id = c.in-Album.id in
    subst (λ (question : Question). IfOk c.ask_album.result (λ reply. reply ≡ question_reply s question)) (sym c.in-Album.is)
    (IfOk-weaker c.ask_album.result (λ reply. reply ≡ album_reply_in (tables_of s) id) (λ reply. reply ≡ question_reply s (about.Album id))
    (λ reply same. same ∙ album_replied s id) (c.ask_album.ensures (tables_of s) keeps.rows))
