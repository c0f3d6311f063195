-- Kept replies: what is kept stays, and a state that keeps one more is valid.
use Rattle.std.proofs.Common.{◌≡◌, Ordering, Less, Equal, Greater, ℕ, Bool, true, false, cond, true≢false, Option, None, Some, List, [], ◌∷◌, refl, sym, ap, ◌∙◌, subst}
use Rattle.std.specs.Prelude.{nat_eq}
use Rattle.std.specs.Cmp.Lexicographic.{pointwise, slice_cmp, bytes_decides, nat_list_cmp_total, texts_ties}
use Rattle.std.specs.Ordering.{is_lt, nat_cmp, is_eq, ordering_reverse}
use Rattle.keeper_store.specs.Changes.{changed}
use Rattle.keeper_store.specs.Puts.{put, reply_less}
use Rattle.keeper_store.specs.declared.contents.Change.TheVariants.{PutReply}
use Rattle.keeper_store.specs.declared.row_types.ReplyRow.{ReplyRow}
use Rattle.keeper_store.proofs.Putting.{map-put}
use Rattle.library_model.specs.InOrder.{AreInOrder, IsKeptStatus}
use Rattle.library_model.specs.Machine.{kept_under}
use Rattle.library_model.specs.Names.{is_token}
use Rattle.library_model.specs.Stands.{IsValid, reply_row, tables_of}
use Rattle.library_model.specs.State.{Kept, State, kept_before}
use Rattle.library_model.proofs.InOrderLemmas.{AreInOrder-put_reply}

-- ---- a state that keeps one more

-- a state with one more kept reply
abbrev pub with_kept : State → Kept → State
with_kept s kept = record s { replies = put kept_before kept s.replies }

-- Its tables have one more row.
pub tables_of-kept : (s : State) (kept : Kept) → tables_of (with_kept s kept) ≡ changed (PutReply (reply_row kept)) (tables_of s)
tables_of-kept s kept =
    ap (λ (rows : List ReplyRow). record (tables_of s) { replies = rows })
    (map-put kept_before reply_less reply_row (λ a b. refl) kept s.replies)

-- It is valid.
pub kept-IsValid : (s : State) (kept : Kept) → IsValid s → is_token kept.token ≡ true → IsKeptStatus kept.status
    → IsValid (with_kept s kept)
kept-IsValid s kept valid token status = record {
  rows = subst AreInOrder (sym (tables_of-kept s kept)) (AreInOrder-put_reply (tables_of s) (reply_row kept) valid.rows token status);
  files = valid.files;
  summed = valid.summed;
}

-- ---- what is kept stays

-- two that are compared both ways, of which neither is less, are equal
ties : (one other : Ordering) → one ≡ ordering_reverse other → is_lt one ≡ false → is_lt other ≡ false → is_eq one ≡ true
ties Less other back not_one not_other = absurd (true≢false not_one)
ties Equal other back not_one not_other = refl
ties Greater Less back not_one not_other = absurd (true≢false not_other)
ties Greater Equal back not_one not_other = ap is_eq back
ties Greater Greater back not_one not_other = absurd (true≢false (sym (ap is_lt back) ∙ not_one))

-- tokens of which neither comes before the other are one
same_token : (a b : List ℕ) → is_lt (slice_cmp nat_cmp a b) ≡ false → is_lt (slice_cmp nat_cmp b a) ≡ false → pointwise nat_eq a b ≡ true
same_token a b not_one not_other =
    texts_ties a b
    ∙ ties (slice_cmp nat_cmp a b) (slice_cmp nat_cmp b a) (nat_list_cmp_total.antisymm a b) not_one not_other

-- a row that is looked for is found behind one that is passed over
found_behind : (token : List ℕ) (r : Kept) (rows : List Kept) → kept_under token (r ∷ rows) ≡ None
    → (pointwise nat_eq r.token token ≡ false) × (kept_under token rows ≡ None)
found_behind token r rows fresh = cases (pointwise nat_eq r.token token) refl fresh
  where
    cases : (here : Bool) → pointwise nat_eq r.token token ≡ here → cond here (Some r) (kept_under token rows) ≡ None
        → (pointwise nat_eq r.token token ≡ false) × (kept_under token rows ≡ None)
    cases true is fresh = absurd (cc fresh)
    cases false is fresh = (is, fresh)

-- a token that is kept is not a fresh one
unlike : (new token : List ℕ) (kept : Kept) (rows : List Kept) (same : Bool) → kept_under new rows ≡ None
    → kept_under token rows ≡ Some kept → pointwise nat_eq new token ≡ same → pointwise nat_eq new token ≡ false
unlike new token kept rows false fresh is told = told
unlike new token kept rows true fresh is told =
    let one : new ≡ token = (bytes_decides new token).0 told in
    let none : kept_under token rows ≡ None = subst (λ (t : List ℕ). kept_under t rows ≡ None) one fresh in
    absurd (cc (sym none ∙ is))

-- what is found in front, or behind
behind : (here : Bool) (r kept : Kept) (one other : Option Kept) → (one ≡ Some kept → other ≡ Some kept)
    → cond here (Some r) one ≡ Some kept → cond here (Some r) other ≡ Some kept
behind true r kept one other rest is = is
behind false r kept one other rest is = rest is

-- What is kept under a token stays, where a reply is kept under a fresh one.
pub kept_under-put : (token : List ℕ) (new kept : Kept) (rows : List Kept) → kept_under new.token rows ≡ None
    → kept_under token rows ≡ Some kept → kept_under token (put kept_before new rows) ≡ Some kept
kept_under-put token new kept [] fresh is = absurd (cc is)
kept_under-put token new kept (r ∷ rows) fresh is =
    cases (kept_before r new) (kept_before new r) refl refl
    (kept_under-put token new kept rows (found_behind new.token r rows fresh).1)
  where
    other : pointwise nat_eq new.token token ≡ false
    other = unlike new.token token kept (r ∷ rows) (pointwise nat_eq new.token token) fresh is refl

    cases : (first second : Bool) → kept_before r new ≡ first → kept_before new r ≡ second
        → (kept_under token rows ≡ Some kept → kept_under token (put kept_before new rows) ≡ Some kept)
        → kept_under token (cond first (r ∷ put kept_before new rows) (cond second (new ∷ r ∷ rows) (new ∷ rows))) ≡ Some kept
    cases true second below above rest =
        behind (pointwise nat_eq r.token token) r kept (kept_under token rows) (kept_under token (put kept_before new rows)) rest is
    cases false true below above rest = rw other is
    cases false false below above rest =
        absurd (true≢false (sym (same_token r.token new.token below above) ∙ (found_behind new.token r rows fresh).0))

-- What is put under a fresh token is kept under it.
pub kept_under-own : (new : Kept) (rows : List Kept) → kept_under new.token rows ≡ None
    → kept_under new.token (put kept_before new rows) ≡ Some new
kept_under-own new [] fresh =
    let itself : pointwise nat_eq new.token new.token ≡ true = (bytes_decides new.token new.token).1 refl in rw itself refl
kept_under-own new (r ∷ rows) fresh =
    cases (kept_before r new) (kept_before new r) (kept_under-own new rows (found_behind new.token r rows fresh).1)
  where
    itself : pointwise nat_eq new.token new.token ≡ true
    itself = (bytes_decides new.token new.token).1 refl

    cases : (first second : Bool) → kept_under new.token (put kept_before new rows) ≡ Some new
        → kept_under new.token (cond first (r ∷ put kept_before new rows) (cond second (new ∷ r ∷ rows) (new ∷ rows))) ≡ Some new
    cases true second rest = rw (found_behind new.token r rows fresh).0 rest
    cases false true rest = rw itself refl
    cases false false rest = rw itself refl
