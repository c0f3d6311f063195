-- Commands that bring a file, and those that bring none.
use Rattle.std.proofs.Common.{◌≡◌, ℕ, true, false, List, Option, None, Some, refl, sym, ap, ◌∙◌}
use Rattle.keeper_store.specs.Blobs.{Blobs}
use Rattle.library_model.specs.Asked.{puts_file}
use Rattle.library_model.specs.Stands.{HoldsFileOf}
use Rattle.library_model.specs.declared.messages.Command.{Command}
use Rattle.library_model.specs.declared.messages.Command.TheVariants.{NewAlbum, Import, Retake, Regroup, RemoveRecording, RemoveAlbum}
use Rattle.catalogue_core.specs.Settling.{file_of}

-- A command that brings a file puts it.
pub brings_puts : (wanted : Command) (file : List ℕ) → file_of wanted ≡ Some file → puts_file wanted ≡ true
brings_puts (NewAlbum name) file is = absurd (cc is)
brings_puts (Import album name own) file is = refl
brings_puts (Retake recording own) file is = refl
brings_puts (Regroup recording album) file is = absurd (cc is)
brings_puts (RemoveRecording recording) file is = absurd (cc is)
brings_puts (RemoveAlbum album) file is = absurd (cc is)

-- One that brings none puts none.
pub brings_none : (wanted : Command) → file_of wanted ≡ None → puts_file wanted ≡ false
brings_none (NewAlbum name) is = refl
brings_none (Import album name own) is = absurd (cc is)
brings_none (Retake recording own) is = absurd (cc is)
brings_none (Regroup recording album) is = refl
brings_none (RemoveRecording recording) is = refl
brings_none (RemoveAlbum album) is = refl

-- A key that holds the file that a command brings holds its file.
pub holds_brought : (wanted : Command) (file : List ℕ) (key : ℕ) (blobs : Blobs) → file_of wanted ≡ Some file → blobs key ≡ Some file
    → HoldsFileOf wanted key blobs
holds_brought (NewAlbum name) file key blobs is holds = tt
holds_brought (Import album name own) file key blobs is holds = holds ∙ sym is
holds_brought (Retake recording own) file key blobs is holds = holds ∙ sym is
holds_brought (Regroup recording album) file key blobs is holds = tt
holds_brought (RemoveRecording recording) file key blobs is holds = tt
holds_brought (RemoveAlbum album) file key blobs is holds = tt

-- Where it brings none, any key does.
pub holds_none : (wanted : Command) (key : ℕ) (blobs : Blobs) → file_of wanted ≡ None → HoldsFileOf wanted key blobs
holds_none (NewAlbum name) key blobs is = tt
holds_none (Import album name own) key blobs is = absurd (cc is)
holds_none (Retake recording own) key blobs is = absurd (cc is)
holds_none (Regroup recording album) key blobs is = tt
holds_none (RemoveRecording recording) key blobs is = tt
holds_none (RemoveAlbum album) key blobs is = tt
