-- What each refusal replies (RFC 9110 section 15).
use Rattle.std.specs.Prelude.{ℕ, List}
use Rattle.library_model.specs.declared.refusals.Refusal.{Refusal}
use Rattle.library_model.specs.declared.refusals.Refusal.TheVariants.{NoRecording, NoAlbum, NotEmpty, AlbumFull, Format, TokenUsed, Ids, Vault, Keeper, Memory}
use Rattle.library_model.specs.declared.refusals.TheConstants.{NO_RECORDING, NO_ALBUM, NOT_EMPTY, ALBUM_FULL, FORMAT, TOKEN_USED, IDS, VAULT, KEEPER, MEMORY}

-- the status and the word of a refusal, from the one table of them
abbrev pub refusal_row : Refusal → ℕ × record { now : List ℕ }
refusal_row NoRecording = NO_RECORDING
refusal_row NoAlbum = NO_ALBUM
refusal_row NotEmpty = NOT_EMPTY
refusal_row AlbumFull = ALBUM_FULL
refusal_row Format = FORMAT
refusal_row TokenUsed = TOKEN_USED
refusal_row Ids = IDS
refusal_row Vault = VAULT
refusal_row Keeper = KEEPER
refusal_row Memory = MEMORY

-- its status
abbrev pub status_of : Refusal → ℕ
status_of refusal = (refusal_row refusal).0

-- the word that names it
abbrev pub word_of : Refusal → List ℕ
word_of refusal = (refusal_row refusal).1.now
