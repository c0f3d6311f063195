-- Two rows of albums in the order of their ids.
use Rattle.std.specs.Prelude.{List, [], ◌∷◌, Option, None, Some, nat_lt, if◌then◌else◌}
use Rattle.keeper_store.specs.declared.row_types.AlbumRow.{AlbumRow}

-- rows of albums, of which each may be missing, the lesser id first
abbrev pub ascending : Option AlbumRow → Option AlbumRow → List AlbumRow
ascending None None = []
ascending None (Some b) = b ∷ []
ascending (Some a) None = a ∷ []
ascending (Some a) (Some b) = if nat_lt b.id a.id then b ∷ a ∷ [] else a ∷ b ∷ []
