use Rattle.std.proofs.Common.{◌≡◌, ◌∙◌, ℕ, nat_lt, sym, ap, true≢false}
use Rattle.album_merge.specs.Members.{ids_of}
use Rattle.library_model.proofs.Looking.{has_album-none}
use Rattle.catalogue_core.proofs.Found.{count_ids}
use Rattle.catalogue_core.proofs.looking.has_members.Goals as goal

pub returns-in-Some : goal.returns-in-Some
returns-in-Some c = λ t holds there.
    ap (λ (n : ℕ). nat_lt 0 n) (c.len.ensures.value ∙ count_ids c.args.id t.recordings (ids_of c.in-Some.members.now) (c.in-Some.ensures.ids t holds))

pub returns-in-None : goal.returns-in-None
returns-in-None c = λ t holds there.
    absurd (true≢false (sym there ∙ has_album-none c.args.id t.albums (c.in-None.ensures.none t holds)))
