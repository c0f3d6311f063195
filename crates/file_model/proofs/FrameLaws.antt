-- Bytes have at most one outcome as a frame: one that is a frame is broken by no rule, and its
-- samples are one.
use Rattle.std.proofs.Common.{◌≡◌, ◌^◌, ℕ, List, [], ◌∷◌, Option, None, Some, ap, sym, ◌∙◌}
use Rattle.std.specs.Prelude.{ℤ, pos, ◌*ℤ◌, map, Bool}
use Rattle.file_model.specs.declared.flac_info.Info.{Info}
use Rattle.file_model.specs.declared.flac_rules.FlacRule.TheVariants.{OutOfRange}
use Rattle.file_model.specs.declared.pairs.Stereo.{Stereo}
use Rattle.file_model.specs.FlacHeader.{FlacHeader, header_at}
use Rattle.file_model.specs.FlacFrame.{depths_of, Channels, IsPairOf, Sounding, footer_at, Body, Frame}
use Rattle.file_model.specs.Subframe.{Coded, subframe_at, IsSpelledBy, Channel}
use Rattle.file_model.proofs.OutcomesLemmas.{HoldsOnce, is_decides, then_decides, finds_decides}
use Rattle.file_model.proofs.Predictions.{Spells_unique}
use Rattle.file_model.proofs.Pairings.{SpellsPair_unique}

-- a coded subframe spells one list of samples
pub IsSpelledBy_unique : (depth : ℕ) (coded : Coded) → HoldsOnce (IsSpelledBy depth coded)
IsSpelledBy_unique depth coded one other h k =
    let same = Spells_unique _ h.spelled k.spelled _ _ _ h.spells k.spells in
    h.shifted ∙ ap (map (λ (s : ℤ). s *ℤ pos (2 ^ coded.wasted))) same ∙ sym k.shifted

-- a channel has at most one outcome
pub Channel_decides : (block depth : ℕ) (rest : List Bool) → HoldsOnce (Channel block depth rest)
Channel_decides block depth rest =
    then_decides _ _ (is_decides (subframe_at block depth rest))
    (λ coded. then_decides _ _ (finds_decides (IsSpelledBy depth coded.0) OutOfRange (IsSpelledBy_unique depth coded.0)) (λ samples. is_decides _))

-- so have channels, one after another
pub Channels_decides : (block : ℕ) (depths : List ℕ) (rest : List Bool) → HoldsOnce (Channels block depths rest)
Channels_decides block [] rest = is_decides _
Channels_decides block (depth ∷ depths) rest =
    then_decides _ _ (Channel_decides block depth rest)
    (λ first. then_decides _ _ (Channels_decides block depths first.1) (λ others. is_decides _))

-- two coded channels stand for one left and one right
pub IsPairOf_unique : (kind : Stereo) (depth : ℕ) (first second : List ℤ) → HoldsOnce (IsPairOf kind depth first second)
IsPairOf_unique kind depth first second one other (left, right, is, spells) (left', right', is', spells') =
    let same = SpellsPair_unique kind left right left' right' first second depth spells spells' in
    let lefts : left ≡ left' = same.0 in
    let rights : right ≡ right' = same.1 in cc

-- so has undoing a pair
pub Sounding_decides : (stereo : Option Stereo) (depth : ℕ) (lists : List (List ℤ)) → HoldsOnce (Sounding stereo depth lists)
Sounding_decides None depth lists = is_decides _
Sounding_decides (Some kind) depth [] = is_decides _
Sounding_decides (Some kind) depth (first ∷ []) = is_decides _
Sounding_decides (Some kind) depth (first ∷ second ∷ others) = finds_decides _ OutOfRange (IsPairOf_unique kind depth first second)

-- so has what follows a header
pub Body_decides : (info : Info) (bytes : List ℕ) (header : FlacHeader) → HoldsOnce (Body info bytes header)
Body_decides info bytes header =
    then_decides _ _ (Channels_decides header.block (depths_of info.channels info.depth header.stereo) _)
    (λ coded. then_decides _ _ (Sounding_decides header.stereo info.depth coded.0)
    (λ lists. then_decides _ _ (is_decides (footer_at bytes coded.1)) (λ end. is_decides _)))

-- bytes have at most one outcome: a frame, whose samples are one, or one rule
pub Frame_decides : (info : Info) (bytes : List ℕ) → HoldsOnce (Frame info bytes)
Frame_decides info bytes = then_decides _ _ (is_decides (header_at info bytes)) (Body_decides info bytes)
