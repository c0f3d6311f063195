-- A token that is fresh in a library is fresh in the state that it keeps.
use Rattle.std.proofs.Common.{◌≡◌, ℕ, List, Option, None, Some, map, refl, sym, ap, ◌∙◌, subst}
use Rattle.std.specs.List.{find}
use Rattle.std.specs.Option.{option_map}
use Rattle.std.specs.Str.{bytes_eq}
use Rattle.keeper_store.specs.declared.row_types.ReplyRow.{ReplyRow}
use Rattle.kept_replies.specs.Rows.{kept_of}
use Rattle.kept_replies.specs.declared.replies.KeptReply.{KeptReply}
use Rattle.kept_replies.proofs.Finding.{find_kept}
use Rattle.library_model.specs.Machine.{kept_under}
use Rattle.library_model.specs.Stands.{tables_of}
use Rattle.library_model.specs.State.{State}
use Rattle.library_model.proofs.Looking.{fresh_token}
use Rattle.catalogue_core.specs.Kept.{IsFresh, Keeps}
use Rattle.catalogue_core.specs.declared.libraries.Library.{Library}

-- where no kept reply is found, no row is
no_row : (row : Option ReplyRow) → option_map kept_of row ≡ None → row ≡ None
no_row None is = refl
no_row (Some row) is = absurd (cc is)

-- Nothing is kept under the token.
pub fresh_under : (library : Library) (s : State) (token : List ℕ) → Keeps library s → IsFresh library token → kept_under token s.replies ≡ None
fresh_under library s token keeps fresh =
    let rows : List ReplyRow = (tables_of s).replies in
    let kept : find (λ (k : KeptReply). bytes_eq k.token token) (map kept_of rows) ≡ None =
    subst (λ (ks : List KeptReply). find (λ (k : KeptReply). bytes_eq k.token token) ks ≡ None) keeps.rows.replies fresh in
    fresh_token s token (no_row (find (λ (row : ReplyRow). bytes_eq row.token token) rows) (sym (find_kept token rows) ∙ kept))
