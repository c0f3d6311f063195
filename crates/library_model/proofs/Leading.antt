-- Batches that lead to the state that an accepted command makes.
use Rattle.std.proofs.Common.{◌≡◌, ◌∙◌, ℕ, true, Option, None, List, [], ◌∷◌, ◌++◌, map, refl, sym, ap, subst}
use Rattle.std.specs.List.{AllByRecursion}
use Rattle.keeper_store.specs.Changes.{changed, changed_all}
use Rattle.keeper_store.specs.Puts.{Ascends, album_less}
use Rattle.keeper_store.specs.declared.contents.Change.{Change}
use Rattle.keeper_store.specs.declared.contents.Change.TheVariants.{PutAlbum, PutReply}
use Rattle.keeper_store.specs.declared.contents.Tables.{Tables}
use Rattle.keeper_store.specs.declared.row_types.AlbumRow.{AlbumRow}
use Rattle.library_model.specs.declared.messages.Command.{Command}
use Rattle.library_model.specs.declared.messages.Reply.{Reply}
use Rattle.library_model.specs.Asked.{change, command}
use Rattle.library_model.specs.Batches.{AreResummed, closing, kept_row}
use Rattle.library_model.specs.InOrder.{AreInOrder}
use Rattle.library_model.specs.Machine.{Decides, DecidesChange, DecidesCommand, Sums, Verdict, accepts, kept_reply, kept_under, makes, taken_out, with_albums}
use Rattle.library_model.specs.Stands.{IsFound, IsSummed, Resums, album_row, tables_of}
use Rattle.library_model.specs.State.{Album, Kept, State, album_before}
use Rattle.library_model.proofs.Closing.{Alike-same, ButFor, Measures, Resums-put_over, changed_all-append, put_over, tables_of-put_over}
use Rattle.library_model.proofs.InOrderLemmas.{AllByRecursion-unmap}
use Rattle.library_model.proofs.Keeping.{tables_of-kept, with_kept}
use Rattle.library_model.proofs.ValidRows.{all_measured, measured_in-members}

-- A batch leads from a state to the one that an accepted command makes, in which these takes are no more.
pub record Leads (s : State) (token mark : List ℕ) (wanted : Command) (batch : List Change) (taken : List ℕ) (reply : Reply) : Type 0 where
  pub next : State
  pub decides : Decides s (change token mark (command wanted)) (accepts reply next)
  pub rows : changed_all batch (tables_of s) ≡ tables_of next
  pub released : taken_out s next ≡ taken

-- A command under a fresh token makes a state, whose albums are not summed yet, and its tables are these changes of those before.
pub record Makes (s u : State) (token : List ℕ) (wanted : Command) (changes : List Change) (reply : Reply) : Type 0 where
  pub fresh : kept_under token s.replies ≡ None
  pub decides : (v : Verdict) → Sums (makes (λ _. reply) u) v → DecidesCommand s wanted v
  pub rows : changed_all changes (tables_of s) ≡ tables_of u

-- albums whose rows ascend do
Ascends-albums : (albums : List Album) → Ascends album_less (map album_row albums) → Ascends album_before albums
Ascends-albums [] rise = tt
Ascends-albums (a ∷ albums) rise =
    (AllByRecursion-unmap (λ (row : AlbumRow). album_less (album_row a) row ≡ true) album_row albums rise.0, Ascends-albums albums rise.1)

-- Of a state whose tables are in order, albums ascend.
pub albums_rise : (u : State) → AreInOrder (tables_of u) → Ascends album_before u.albums
albums_rise u are = Ascends-albums u.albums are.albums

-- The tables of a state in order, whose files are found, have as measured what is measured of its sounds.
pub measures_made : (u : State) → AreInOrder (tables_of u) → AllByRecursion IsFound u.recordings → Measures (tables_of u) u.recordings
measures_made u are files = λ id. measured_in-members (tables_of u) id u.recordings (all_measured u are files)

-- Changes that make the tables of such a state, closed by the rows of the albums whose recordings change, lead to it.
pub leads_closed : (s u : State) (token mark : List ℕ) (wanted : Command) (changes : List Change) (ids : List ℕ) (rows : List AlbumRow)
    (taken : List ℕ) (reply : Reply) (n : Tables) → Makes s u token wanted changes reply → Ascends album_before u.albums → Measures n u.recordings
    → AllByRecursion (ButFor ids (IsSummed u.recordings)) u.albums → AreResummed (map album_row u.albums) n ids rows
    → taken_out s u ≡ taken → Leads s token mark wanted (changes ++ closing rows token mark reply) taken reply
leads_closed s u token mark wanted changes ids rows taken reply n made rise measures others resummed out =
    let albums : List Album = put_over rows u.albums in
    let resums : Resums u.recordings u.albums albums =
    Resums-put_over u.recordings n ids rows u.albums u.albums measures (Alike-same u.albums) rise resummed others in
    let summed : State = with_albums u albums in
    let kept : Kept = kept_reply token mark reply in
    record {
      next = with_kept summed kept;
      decides = subst (λ (k : Option Kept). DecidesChange s token mark (command wanted) k (accepts reply (with_kept summed kept)))
          (sym made.fresh) (accepts reply summed, made.decides (accepts reply summed) (albums, resums, refl), refl);
      rows = changed_all-append changes (closing rows token mark reply) (tables_of s)
          ∙ ap (changed_all (closing rows token mark reply)) made.rows
          ∙ changed_all-append (map PutAlbum rows) (PutReply (kept_row token mark reply) ∷ []) (tables_of u)
          ∙ ap (changed (PutReply (kept_row token mark reply))) (tables_of-put_over rows u)
          ∙ sym (tables_of-kept summed kept);
      released = out;
    }
