use Rattle.std.proofs.Common.{List, Option, length, map, refl, sym, ap, ◌∙◌, subst}
use Rattle.keeper_store.specs.declared.row_types.AlbumRow.{AlbumRow}
use Rattle.keeper_store.specs.declared.row_types.RecordingRow.{RecordingRow}
use Rattle.keeper_store.specs.declared.row_types.ReplyRow.{ReplyRow}
use Rattle.keeper_store.specs.Puts.{Ascends, album_less, recording_less, reply_less}
use Rattle.kept_replies.specs.Holding as replies
use Rattle.album_merge.specs.Members.{Kept, IsAlbumOf}
use Rattle.album_merge.specs.Tallies.{Tallied}
use Rattle.library_model.specs.RowRules.{measured_in}
use Rattle.catalogue_rows.specs.Holding.{HasOwn, album_of, album_row, album_members, recording_row, own_tally}
use Rattle.catalogue_rows.proofs.Placed.{AllZip-as, AllZip-long, AllZip-parts, Ascends-parts}
use Rattle.catalogue_rows.proofs.opening.keep.Goals as goal

pub join_albums-requires : goal.join_albums-requires
join_albums-requires c =
    let t = c.args.tables in
    ap (λ (l : List AlbumRow). length l) c.into_vec.ensures
    ∙ AllZip-long (λ (r : AlbumRow) (kept : Kept). IsAlbumOf kept (album_of t t.recordings r.id)) t.albums c.args.built.albums.items
    c.requires.built.albums

pub join_recordings-requires : goal.join_recordings-requires
join_recordings-requires c =
    let t = c.args.tables in
    ap (λ (l : List RecordingRow). length l) c.into_vec-2.ensures
    ∙ AllZip-long (λ (r : RecordingRow) (tally : Option Tallied). HasOwn r.album tally (measured_in t r)) t.recordings c.args.built.tallies.items
    c.requires.built.tallies

pub of-requires : goal.of-requires
of-requires c = subst (λ (l : List ReplyRow). Ascends reply_less l) (sym c.into_vec-3.ensures) c.requires.order.replies

pub invariant_of-result : goal.invariant_of-result
invariant_of-result c =
    let albums = c.in_ok-albums.ensures.rows ∙ c.into_vec.ensures in
    let recordings = c.in_ok-recordings.ensures.rows ∙ c.into_vec-2.ensures in
    record {
      albums_ascend = Ascends-parts album_less album_row c.in_ok-albums.albums.items
          (subst (λ (l : List AlbumRow). Ascends album_less l) (sym albums) c.requires.order.albums);
      recordings_ascend = Ascends-parts recording_less recording_row c.in_ok-recordings.recordings.items
          (subst (λ (l : List RecordingRow). Ascends recording_less l) (sym recordings) c.requires.order.recordings);
    }

pub returns : goal.returns
returns c =
    let t = c.args.tables in
    let albums = c.in_ok-albums.ensures.rows ∙ c.into_vec.ensures in
    let recordings = c.in_ok-recordings.ensures.rows ∙ c.into_vec-2.ensures in
    let InAlbum : AlbumRow → Kept → Type 0 = λ r kept. IsAlbumOf kept (album_of t t.recordings r.id) in
    let Own : RecordingRow → Option Tallied → Type 0 = λ r tally. HasOwn r.album tally (measured_in t r) in
    record {
      numbers = refl;
      albums = albums;
      recordings = recordings;
      replies = subst (λ (l : List ReplyRow). replies.Holds c.in_ok-replies.replies l) c.into_vec-3.ensures c.in_ok-replies.ensures;
      in_albums = AllZip-parts InAlbum album_row album_members c.in_ok-albums.albums.items
          (AllZip-as InAlbum t.albums (map album_row c.in_ok-albums.albums.items) c.args.built.albums.items
          (map album_members c.in_ok-albums.albums.items) albums c.in_ok-albums.ensures.albums c.requires.built.albums);
      beside = AllZip-parts Own recording_row own_tally c.in_ok-recordings.recordings.items
          (AllZip-as Own t.recordings (map recording_row c.in_ok-recordings.recordings.items) c.args.built.tallies.items
          (map own_tally c.in_ok-recordings.recordings.items) recordings c.in_ok-recordings.ensures.tallies c.requires.built.tallies);
    }
