-- The first row with another summary, as far as rows were tried.
use Rattle.std.proofs.Common.{◌≡◌, ◌<◌, ◌+◌, ℕ, zero, suc, List, [], ◌∷◌, ◌++◌, length, map, take, Bool, true, false, is_some, Option, Some, None, refl, sym, ap, ◌∙◌, subst, arith, inl, inr, ℤ, ◌==◌, true≢false}
use Rattle.std.specs.List.{AllByRecursion}
use Rattle.std.specs.Prelude.{◌&&◌}
use Rattle.std.specs.Option.{option_or, option_eq}
use Rattle.std.specs.Ordering.{int_eq}
use Rattle.std.proofs.lemmas.Bool.Decides.{nat_tests, Decides-int_eq}
use Rattle.std.proofs.Math.ListN.{get_or}
use Rattle.std.proofs.lemmas.List.{take_more}
use Rattle.lib_base.specs.declared.files.Measured.{Measured}
use Rattle.lib_base.specs.declared.files.Summary.{Summary}
use Rattle.keeper_store.specs.declared.contents.Tables.{Tables}
use Rattle.keeper_store.specs.declared.row_types.AlbumRow.{AlbumRow}
use Rattle.keeper_store.specs.declared.row_types.RecordingRow.{RecordingRow}
use Rattle.album_merge.specs.Members.{measured_of}
use Rattle.sound_model.specs.Albums.{IsAlbumSummary}
use Rattle.library_model.specs.declared.bad_rows.BadRow.{BadRow}
use Rattle.library_model.specs.RowRules.{IsFirstWithout, IsSummedAlbum, IsSummedRecording, other_album_summary, other_recording_summary, measured_in, members_in}
use Rattle.catalogue_rows.specs.Opening.{IsFirstAnswer, IsFirstOther, IsOther}
use Rattle.catalogue_rows.specs.Holding.{album_of}
use Rattle.catalogue_rows.proofs.Unbroken.{and_true}

-- a first one stays the first with more rows behind
first_grows : {A : Type 0} (Fact : A → Type 0) (told : A → BadRow) (xs rest : List A) (bad : BadRow) → IsFirstWithout Fact told xs bad
    → IsFirstWithout Fact told (xs ++ rest) bad
first_grows Fact told [] rest bad is = absurd is
first_grows Fact told (x ∷ xs) rest bad (inl here) = inl here
first_grows Fact told (x ∷ xs) rest bad (inr later) = inr (later.0, first_grows Fact told xs rest bad later.1)

all_more : {A : Type 0} (Fact : A → Type 0) (xs : List A) (x : A) → AllByRecursion Fact xs → Fact x → AllByRecursion Fact (xs ++ x ∷ [])
all_more Fact [] x all here = (here, tt)
all_more Fact (y ∷ xs) x all here = (all.0, all_more Fact xs x all.1 here)

-- after rows that have the fact, one that has not is the first
first_last : {A : Type 0} (Fact : A → Type 0) (told : A → BadRow) (xs : List A) (x : A) → AllByRecursion Fact xs → (Fact x → ⊥)
    → IsFirstWithout Fact told (xs ++ x ∷ []) (told x)
first_last Fact told [] x all not_here = inl (not_here, refl)
first_last Fact told (y ∷ xs) x all not_here = inr (all.0, first_last Fact told xs x all.1 not_here)

-- one row more is tried
pub other_more : {A : Type 0} (Fact : A → Type 0) (told : A → BadRow) (xs : List A) (x : A) (so_far here : Option BadRow)
    → IsFirstOther Fact told xs so_far → IsOther (Fact x) (told x) here → IsFirstOther Fact told (xs ++ x ∷ []) (option_or so_far here)
other_more Fact told xs x (Some bad) here is at = first_grows Fact told xs (x ∷ []) bad is
other_more Fact told xs x None None is at = all_more Fact xs x is at
other_more Fact told xs x None (Some bad) is at =
    subst (IsFirstWithout Fact told (xs ++ x ∷ [])) (sym at.1) (first_last Fact told xs x is at.0)

-- the row at a place is the first where those before it have the fact
pub first_at : {A : Type 0} (Fact : A → Type 0) (told : A → BadRow) (xs : List A) (i : ℕ) (x : A) (bad : BadRow)
    → AllByRecursion Fact (take i xs) → i < length xs → x ≡ get_or xs i x → (Fact x → ⊥) → bad ≡ told x → IsFirstWithout Fact told xs bad
first_at Fact told [] i x bad all inside is not_here told_is = absurd (omega (arith, inside))
first_at Fact told (y ∷ xs) zero x bad all inside is not_here told_is =
    inl (subst (λ z. Fact z → ⊥) is not_here, told_is ∙ ap told is)
first_at Fact told (y ∷ xs) (suc i) x bad all inside is not_here told_is =
    inr (all.0, first_at Fact told xs i x bad all.1 (omega (arith, inside)) is not_here told_is)

-- the row at a place, where it is told
pub first_found : {A : Type 0} (Fact : A → Type 0) (told : A → BadRow) (xs : List A) (i : ℕ) (x : A) (here : Option BadRow)
    → is_some here ≡ true → AllByRecursion Fact (take i xs) → i < length xs → x ≡ get_or xs i x → IsOther (Fact x) (told x) here
    → IsFirstOther Fact told xs here
first_found Fact told xs i x None some all inside is at = absurd (false_true some)
  where
    false_true : false ≡ true → ⊥
    false_true is_not = cc is_not
first_found Fact told xs i x (Some bad) some all inside is at = first_at Fact told xs i x bad all inside is at.0 at.1

-- where it is not, the fact holds of one row more
pub none_more : {A : Type 0} (Fact : A → Type 0) (told : A → BadRow) (xs : List A) (i : ℕ) (x : A) (here : Option BadRow)
    → is_some here ≡ false → AllByRecursion Fact (take i xs) → i < length xs → x ≡ get_or xs i x → IsOther (Fact x) (told x) here
    → AllByRecursion Fact (take (i + 1) xs)
none_more {A} Fact told xs i x None none all inside is at =
    let more : take (i + 1) xs ≡ take i xs ++ x ∷ [] = take_more xs i x inside ∙ ap (λ (y : A). take i xs ++ y ∷ []) (sym is) in
    subst (λ (l : List A). AllByRecursion Fact l) (sym more) (all_more Fact (take i xs) x all at)
none_more Fact told xs i x (Some bad) none all inside is at = absurd (true_false none)
  where
    true_false : true ≡ false → ⊥
    true_false is_not = cc is_not

-- what is measured of an album's recordings
pub measured_of-album : (t : Tables) (rows : List RecordingRow) (id : ℕ)
    → measured_of (album_of t rows id) ≡ map (measured_in t) (members_in id rows)
measured_of-album t rows id = of_rows (members_in id rows)
  where
    of_rows : (rs : List RecordingRow) → measured_of (map (λ (r : RecordingRow). (r.id, measured_in t r)) rs) ≡ map (measured_in t) rs
    of_rows [] = refl
    of_rows (r ∷ rs) = ap (λ (l : List Measured). measured_in t r ∷ l) (of_rows rs)

-- what holds of the same rows
pub IsFirstOther-same : {A : Type 0} (F G : A → Type 0) (told : A → BadRow) → ((x : A) → F x → G x) → ((x : A) → G x → F x)
    → (xs : List A) (o : Option BadRow) → IsFirstOther F told xs o → IsFirstOther G told xs o
IsFirstOther-same F G told to back [] None is = tt
IsFirstOther-same F G told to back (x ∷ xs) None is = (to x is.0, IsFirstOther-same F G told to back xs None is.1)
IsFirstOther-same F G told to back [] (Some bad) is = absurd is
IsFirstOther-same F G told to back (x ∷ xs) (Some bad) (inl here) = inl ((λ has. here.0 (back x has)), here.1)
IsFirstOther-same F G told to back (x ∷ xs) (Some bad) (inr later) =
    inr (to x later.0, IsFirstOther-same F G told to back xs (Some bad) later.1)

-- the first album with another summary, by what albums stand for
pub albums_other : (t : Tables) (o : Option BadRow)
    → IsFirstOther (λ (row : AlbumRow). IsAlbumSummary (measured_of (album_of t t.recordings row.id)) row.summary) other_album_summary t.albums o
    → IsFirstOther (IsSummedAlbum t) other_album_summary t.albums o
albums_other t o is =
    IsFirstOther-same (λ (row : AlbumRow). IsAlbumSummary (measured_of (album_of t t.recordings row.id)) row.summary) (IsSummedAlbum t)
    other_album_summary (λ row. subst (λ (l : List Measured). IsAlbumSummary l row.summary) (measured_of-album t t.recordings row.id))
    (λ row. subst (λ (l : List Measured). IsAlbumSummary l row.summary) (sym (measured_of-album t t.recordings row.id))) t.albums o is

-- the answer for all rows is that for albums, or else that for recordings
pub other_is : (t : Tables) (album recording : Option BadRow) → IsFirstOther (IsSummedAlbum t) other_album_summary t.albums album
    → IsFirstOther (IsSummedRecording t) other_recording_summary t.recordings recording → IsFirstAnswer t (option_or album recording)
other_is t (Some bad) recording albums recordings = inl albums
other_is t None None albums recordings = (albums, recordings)
other_is t None (Some bad) albums recordings = inr (albums, recordings)

-- ---- summaries compared field by field

-- the test of two summaries
abbrev pub same_fields : Summary → Summary → Bool
same_fields a b =
    (a.frames == b.frames)
    && (option_eq int_eq a.loudness b.loudness
    && (option_eq int_eq a.range b.range
    && (option_eq int_eq a.momentary b.momentary
    && (option_eq int_eq a.short_term b.short_term
    && (option_eq int_eq a.true_peak b.true_peak
    && ((a.peak == b.peak)
    && option_eq int_eq a.gain b.gain))))))

same_level : (p q : Option ℤ) → option_eq int_eq p q ≡ true → p ≡ q
same_level None None is = refl
same_level None (Some y) is = cc is
same_level (Some x) None is = cc is
same_level (Some x) (Some y) is = ap (λ (z : ℤ). Some z) ((Decides-int_eq x y).0 is)

level_itself : (p : Option ℤ) → option_eq int_eq p p ≡ true
level_itself None = refl
level_itself (Some x) = (Decides-int_eq x x).1 refl

abbrev of_fields : ℕ → Option ℤ → Option ℤ → Option ℤ → Option ℤ → Option ℤ → ℕ → Option ℤ → Summary
of_fields frames loudness range momentary short_term true_peak peak gain = record {
  frames = frames;
  loudness = loudness;
  range = range;
  momentary = momentary;
  short_term = short_term;
  true_peak = true_peak;
  peak = peak;
  gain = gain;
}

-- summaries that pass are the same
pub summary_same : (a b : Summary) → true ≡ same_fields a b → a ≡ b
summary_same a b is =
    let e0 = and_true _ _ (sym is) in
    let e1 = and_true _ _ e0.1 in
    let e2 = and_true _ _ e1.1 in
    let e3 = and_true _ _ e2.1 in
    let e4 = and_true _ _ e3.1 in
    let e5 = and_true _ _ e4.1 in
    let e6 = and_true _ _ e5.1 in
    let frames_test : (a.frames == b.frames) ≡ true = e0.0 in
    let peak_test : (a.peak == b.peak) ≡ true = e6.0 in
    let frames : a.frames ≡ b.frames = grind (arith, nat_tests, frames_test) in
    let peak : a.peak ≡ b.peak = grind (arith, nat_tests, peak_test) in
    fields a.frames b.frames a.loudness b.loudness a.range b.range a.momentary b.momentary a.short_term b.short_term a.true_peak b.true_peak
    a.peak b.peak a.gain b.gain frames (same_level a.loudness b.loudness e1.0) (same_level a.range b.range e2.0)
    (same_level a.momentary b.momentary e3.0) (same_level a.short_term b.short_term e4.0) (same_level a.true_peak b.true_peak e5.0) peak
    (same_level a.gain b.gain e6.1)
  where
    fields : (f f' : ℕ) (l l' r r' m m' s s' t t' : Option ℤ) (p p' : ℕ) (g g' : Option ℤ) → f ≡ f' → l ≡ l' → r ≡ r' → m ≡ m' → s ≡ s' → t ≡ t'
        → p ≡ p' → g ≡ g' → of_fields f l r m s t p g ≡ of_fields f' l' r' m' s' t' p' g'
    fields f f' l l' r r' m m' s s' t t' p p' g g' e0 e1 e2 e3 e4 e5 e6 e7 = rw (e0, e1, e2, e3, e4, e5, e6, e7) refl

-- and summaries that don't differ
pub summary_differs : (a b : Summary) → false ≡ same_fields a b → a ≡ b → ⊥
summary_differs a b is same = true≢false (sym (is ∙ ap (same_fields a) (sym same) ∙ itself a))
  where
    itself : (s : Summary) → same_fields s s ≡ true
    itself s =
        let frames : (s.frames == s.frames) ≡ true = grind (arith, nat_tests) in
        let peak : (s.peak == s.peak) ≡ true = grind (arith, nat_tests) in
        rw (
          frames,
          level_itself s.loudness,
          level_itself s.range,
          level_itself s.momentary,
          level_itself s.short_term,
          level_itself s.true_peak,
          peak,
          level_itself s.gain,
        ) refl
