-- What the library is asked.
use Rattle.std.specs.Prelude.{◌||◌, not, ℕ, Bool, true, false, List}
use Rattle.library_model.specs.declared.messages.Command.{Command}
use Rattle.library_model.specs.declared.messages.Command.TheVariants.{NewAlbum, Import, Retake, Regroup, RemoveRecording, RemoveAlbum}
use Rattle.library_model.specs.declared.messages.Question.{Question}
use Rattle.library_model.specs.declared.messages.Reply.{Reply}

-- what a change wants: nothing, where its name or its body breaks its form, or a command
pub data Wanted : Type 0 where
  malformed : Reply → Wanted
  command : Command → Wanted

-- nothing, where no route leads there or its token breaks its form; a question, which changes nothing; or a change, with its token and
-- its mark, the MD5 of what it asks
pub data Asked : Type 0 where
  refused : Reply → Asked
  question : Question → Asked
  change : List ℕ → List ℕ → Wanted → Asked

-- a command that is accepted puts a file into the vault
abbrev pub puts_file : Command → Bool
puts_file (NewAlbum name) = false
puts_file (Import album name file) = true
puts_file (Retake recording file) = true
puts_file (Regroup recording album) = false
puts_file (RemoveRecording recording) = false
puts_file (RemoveAlbum album) = false

-- what is asked comes to the vault, where it is accepted
abbrev pub asks_vault : Asked → Bool
asks_vault (refused reply) = false
asks_vault (question about) = false
asks_vault (change token mark (malformed reply)) = false
asks_vault (change token mark (command wanted)) = puts_file wanted

-- a command that is accepted may take a file out of the vault
abbrev pub takes_file : Command → Bool
takes_file (NewAlbum name) = false
takes_file (Import album name file) = false
takes_file (Retake recording file) = true
takes_file (Regroup recording album) = false
takes_file (RemoveRecording recording) = true
takes_file (RemoveAlbum album) = false

-- what is asked never comes to the vault: it neither brings a file nor takes one out
abbrev pub spares_vault : Asked → Bool
spares_vault (refused reply) = true
spares_vault (question about) = true
spares_vault (change token mark (malformed reply)) = true
spares_vault (change token mark (command wanted)) = not (puts_file wanted || takes_file wanted)
