-- The room that plans need.
use Rattle.std.proofs.Common.{◌≡◌, ◌≤◌, ◌+◌, ℕ, Bool, true, false, cond, nat_lt, List, [], ◌∷◌, ◌++◌, length, map, Option, None, Some, refl, sym, subst, arith}
use Rattle.std.specs.List.{AllByRecursion}
use Rattle.std.specs.Prelude.{IfSome}
use Rattle.album_merge.specs.Members.{Kept}
use Rattle.catalogue_rows.specs.Room.{HasPlaceIn, HasRoom, HasRoomFor, one_in, puts_into}
use Rattle.catalogue_rows.specs.declared.fresh.Fresh.{Fresh}
use Rattle.catalogue_rows.specs.declared.kept.KeptAlbum.{KeptAlbum}
use Rattle.catalogue_rows.specs.declared.rows.CatalogueRows.{CatalogueRows}
use Rattle.lib_base.specs.declared.files.Measured.{Measured}
use Rattle.keeper_store.specs.declared.contents.Change.{Change}
use Rattle.keeper_store.specs.declared.contents.Change.TheVariants.{DropAlbum, DropRecording, DropSegments, PutAlbum, PutRecording}
use Rattle.keeper_store.specs.declared.contents.NextNumbers.{NextNumbers}
use Rattle.keeper_store.specs.declared.row_types.AlbumRow.{AlbumRow}
use Rattle.keeper_store.specs.declared.row_types.RecordingRow.{RecordingRow}
use Rattle.library_model.specs.Batches.{closing, import_changes, new_album_changes, retake_changes}
use Rattle.library_model.specs.declared.messages.Reply.{Reply}
use Rattle.catalogue_core.specs.Moving.{ascending}
use Rattle.catalogue_core.specs.Plans.{IsPlan, batch_of, kept_last}
use Rattle.catalogue_core.specs.Resumming.{in_list}
use Rattle.catalogue_core.specs.declared.plans.Plan.{Plan}

-- less room than there is
room_less : (rows : CatalogueRows) (n m : ℕ) → m ≤ n → HasRoom rows n → HasRoom rows m
room_less rows n m less has = record {
  albums = omega (arith, has.albums, less);
  recordings = omega (arith, has.recordings, less);
  replies = omega (arith, has.replies, less);
}

-- fewer places than there are
places_less : (f g : ℕ → ℕ) → ((id : ℕ) → g id ≤ f id) → (albums : List KeptAlbum)
    → AllByRecursion (λ (kept : KeptAlbum). f kept.row.id ≤ kept.members.spare) albums
    → AllByRecursion (λ (kept : KeptAlbum). g kept.row.id ≤ kept.members.spare) albums
places_less f g less [] all = tt
places_less f g less (a ∷ albums) all = (omega (arith, all.0, less a.row.id), places_less f g less albums all.1)

-- Changes that put no more than one recording into one album, and bring no new album, have the room that was made for them.
pub room_for : (rows : CatalogueRows) (fresh : Fresh) (changes : List Change) (album : Option ℕ) (n : ℕ) → HasRoom rows n → length changes ≤ n
    → HasPlaceIn rows album → ((id : ℕ) → puts_into changes id ≤ one_in album id) → fresh.album ≡ None → HasRoomFor rows fresh changes
room_for rows fresh changes album n room few place less none = record {
  room = room_less rows n (length changes) few room;
  places = places_less (one_in album) (puts_into changes) less rows.albums.items place;
  new = subst (λ (a : Option Kept). IfSome a (λ (kept : Kept). (id : ℕ) → puts_into changes id ≤ kept.spare)) (sym none) tt;
}

-- no places are always there
no_places : (albums : List KeptAlbum) (f : ℕ → ℕ) → ((id : ℕ) → f id ≡ 0) → AllByRecursion (λ (kept : KeptAlbum). f kept.row.id ≤ kept.members.spare) albums
no_places [] f none = tt
no_places (a ∷ albums) f none = (omega (arith, none a.row.id), no_places albums f none)

-- Changes that put no recording into an album have the room that was made for them.
pub room_for_none : (rows : CatalogueRows) (fresh : Fresh) (changes : List Change) (n : ℕ) → HasRoom rows n → length changes ≤ n
    → ((id : ℕ) → puts_into changes id ≡ 0) → HasRoomFor rows fresh changes
room_for_none rows fresh changes n room few none = record {
  room = room_less rows n (length changes) few room;
  places = no_places rows.albums.items (puts_into changes) none;
  new = new fresh.album;
}
  where
    new : (album : Option Kept) → IfSome album (λ (kept : Kept). (id : ℕ) → puts_into changes id ≤ kept.spare)
    new None = tt
    new (Some kept) = λ id. omega (arith, none id)

-- the end of a batch is one change longer than the albums that it puts
closing_long : (albums : List AlbumRow) (token mark : List ℕ) (reply : Reply) → length (closing albums token mark reply) ≡ length albums + 1
closing_long [] token mark reply = refl
closing_long (row ∷ albums) token mark reply = let rest = closing_long albums token mark reply in omega (arith, rest)

-- and puts no recording
closing_puts : (albums : List AlbumRow) (token mark : List ℕ) (reply : Reply) (id : ℕ) → puts_into (closing albums token mark reply) id ≡ 0
closing_puts [] token mark reply id = refl
closing_puts (row ∷ albums) token mark reply id = let rest = closing_puts albums token mark reply id in omega (arith, rest)

-- one album at most
listed_few : {A : Type 0} (x : Option A) → length (in_list x) ≤ 1
listed_few None = omega arith
listed_few (Some x) = omega arith

-- or two
ascending_few : (a b : Option AlbumRow) → length (ascending a b) ≤ 2
ascending_few None None = omega arith
ascending_few None (Some b) = omega arith
ascending_few (Some a) None = omega arith
ascending_few (Some a) (Some b) = cases (nat_lt b.id a.id)
  where
    cases : (less : Bool) → length (cond less (b ∷ a ∷ []) (a ∷ b ∷ [])) ≤ 2
    cases true = omega arith
    cases false = omega arith

-- the rows have the room that a plan needs, whatever its reply is kept under
abbrev HasRoomOf : CatalogueRows → Plan → Type 0
HasRoomOf rows plan = (token mark : List ℕ) → HasRoomFor rows plan.fresh (batch_of token mark plan)

-- A plan has the room that its changes have.
plan_room : (rows : CatalogueRows) (changes : List Change) (released : Option ℕ) (reply : Reply) (plan : Plan) → IsPlan changes released reply plan
    → ((token mark : List ℕ) → HasRoomFor rows plan.fresh (kept_last changes token mark reply)) → HasRoomOf rows plan
plan_room rows changes released reply plan is room = λ token mark. rw (is.changes_are, is.reply_is) (room token mark)

-- That of a new album has it.
pub new_album_room : (rows : CatalogueRows) (next : NextNumbers) (row : AlbumRow) (reply : Reply) (plan : Plan) → HasRoom rows 6
    → IsPlan (new_album_changes next row) None reply plan → HasRoomOf rows plan
new_album_room rows next row reply plan room is =
    plan_room rows (new_album_changes next row) None reply plan is
    (λ token mark. room_for_none rows plan.fresh (kept_last (new_album_changes next row) token mark reply) 6 room (omega arith) (λ id. refl))

-- That of a removed album has it.
pub remove_album_room : (rows : CatalogueRows) (id : ℕ) (reply : Reply) (plan : Plan) → HasRoom rows 6
    → IsPlan (DropAlbum id ∷ []) None reply plan → HasRoomOf rows plan
remove_album_room rows id reply plan room is =
    plan_room rows (DropAlbum id ∷ []) None reply plan is
    (λ token mark. room_for_none rows plan.fresh (kept_last (DropAlbum id ∷ []) token mark reply) 6 room (omega arith) (λ other. refl))

-- That of an import has it.
pub import_room : (rows : CatalogueRows) (next : NextNumbers) (m : Measured) (row : RecordingRow) (resummed : Option AlbumRow) (reply : Reply) (plan : Plan)
    → HasRoom rows 6 → HasPlaceIn rows row.album → plan.fresh.album ≡ None
    → IsPlan (import_changes next m row ++ map PutAlbum (in_list resummed)) None reply plan → HasRoomOf rows plan
import_room rows next m row resummed reply plan room place none is =
    plan_room rows (import_changes next m row ++ map PutAlbum (in_list resummed)) None reply plan is
    (λ token mark. room_for rows plan.fresh (import_changes next m row ++ closing (in_list resummed) token mark reply) row.album 6 room
    (omega (arith, closing_long (in_list resummed) token mark reply, listed_few resummed)) place
    (λ id. omega (arith, closing_puts (in_list resummed) token mark reply id)) none)

-- That of a new take has it.
pub retake_room : (rows : CatalogueRows) (next : NextNumbers) (m : Measured) (row : RecordingRow) (taken : ℕ) (resummed : Option AlbumRow) (reply : Reply)
    (plan : Plan) → HasRoom rows 6 → HasPlaceIn rows row.album → plan.fresh.album ≡ None
    → IsPlan (retake_changes next m row ++ DropSegments taken ∷ map PutAlbum (in_list resummed)) (Some taken) reply plan → HasRoomOf rows plan
retake_room rows next m row taken resummed reply plan room place none is =
    plan_room rows (retake_changes next m row ++ DropSegments taken ∷ map PutAlbum (in_list resummed)) (Some taken) reply plan is
    (λ token mark. room_for rows plan.fresh (retake_changes next m row ++ DropSegments taken ∷ closing (in_list resummed) token mark reply) row.album 6 room
    (omega (arith, closing_long (in_list resummed) token mark reply, listed_few resummed)) place
    (λ id. omega (arith, closing_puts (in_list resummed) token mark reply id)) none)

-- That of a move has it.
pub regroup_room : (rows : CatalogueRows) (row : RecordingRow) (left joined : Option AlbumRow) (reply : Reply) (plan : Plan)
    → HasRoom rows 6 → HasPlaceIn rows row.album → plan.fresh.album ≡ None
    → IsPlan (PutRecording row ∷ map PutAlbum (ascending left joined)) None reply plan → HasRoomOf rows plan
regroup_room rows row left joined reply plan room place none is =
    plan_room rows (PutRecording row ∷ map PutAlbum (ascending left joined)) None reply plan is
    (λ token mark. room_for rows plan.fresh (PutRecording row ∷ closing (ascending left joined) token mark reply) row.album 6 room
    (omega (arith, closing_long (ascending left joined) token mark reply, ascending_few left joined)) place
    (λ id. omega (arith, closing_puts (ascending left joined) token mark reply id)) none)

-- That of a recording that stays has it.
pub stay_room : (rows : CatalogueRows) (reply : Reply) (plan : Plan) → HasRoom rows 6 → IsPlan [] None reply plan → HasRoomOf rows plan
stay_room rows reply plan room is =
    plan_room rows [] None reply plan is
    (λ token mark. room_for_none rows plan.fresh (kept_last [] token mark reply) 6 room (omega arith) (λ id. refl))

-- That of a removal has it.
pub remove_room : (rows : CatalogueRows) (id taken : ℕ) (resummed : Option AlbumRow) (reply : Reply) (plan : Plan) → HasRoom rows 6
    → IsPlan (DropRecording id ∷ DropSegments taken ∷ map PutAlbum (in_list resummed)) (Some taken) reply plan → HasRoomOf rows plan
remove_room rows id taken resummed reply plan room is =
    plan_room rows (DropRecording id ∷ DropSegments taken ∷ map PutAlbum (in_list resummed)) (Some taken) reply plan is
    (λ token mark. room_for_none rows plan.fresh (DropRecording id ∷ DropSegments taken ∷ closing (in_list resummed) token mark reply) 6 room
    (omega (arith, closing_long (in_list resummed) token mark reply, listed_few resummed))
    (λ other. omega (arith, closing_puts (in_list resummed) token mark reply other)))
