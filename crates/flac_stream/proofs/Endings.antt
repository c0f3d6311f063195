-- The end of a file: what STREAMINFO says of all frames.
use Rattle.std.proofs.Common.{◌≡◌, inr, ℕ, Bool, true, false, List, [], length, drop, Option, Result, Ok, Err, refl, ap, sym, ◌∙◌, subst, arith}
use Rattle.std.proofs.lemmas.List.{drop_all}
use Rattle.lib_base.specs.declared.outcomes.Broken.{Broken}
use Rattle.lib_base.specs.declared.outcomes.Refused.TheVariants.{Broken as Faulty}
use Rattle.file_model.specs.declared.flac_info.Info.{Info}
use Rattle.file_model.specs.declared.flac_rules.FlacRule.TheVariants.{OtherTotal, OtherMd5}
use Rattle.file_model.specs.FlacBreaks.{FlacBreaks}
use Rattle.file_model.specs.FlacFile.{FlacBreak, breaks_at, is_total, is_md5, blocks_of, FramesUpTo, sound_in, sound_at}
use Rattle.file_model.specs.FlacFrame.{FlacFrame}
use Rattle.file_model.specs.Outcomes.{◌>>=◌, holds}
use Rattle.file_model.specs.Pcm.{Pcm}
use Rattle.flac_stream.specs.declared.blocks.Block.{Block as Stored}
use Rattle.flac_stream.specs.declared.digest.SoundDigest.{SoundDigest}
use Rattle.flac_stream.specs.declared.frames.FramePlace.{FramePlace}
use Rattle.flac_stream.specs.Answers.{IsRefusalOf, AnswersBreak}
use Rattle.flac_stream.specs.Blocks.{IsOpening}
use Rattle.flac_stream.specs.Frames.{IsStarted, AreHeard}
use Rattle.flac_stream.specs.Shape.{IsReadOf}

-- the two rules of a sound
ended : Bool → Bool → Pcm → Result Pcm FlacBreak
ended total md5 sound = do
  _ ← holds total (breaks_at OtherTotal 13)
  _ ← holds md5 (breaks_at OtherMd5 18)
  Ok sound

pub other_total : (info : Info) (frames : List FlacFrame) → is_total info.total (blocks_of frames) ≡ false
    → sound_at info frames ≡ Err (breaks_at OtherTotal 13)
unfolding sound_at ended
other_total info frames other = ap (λ (a : Bool). ended a (is_md5 info.md5 (sound_in info frames)) (sound_in info frames)) other

pub other_md5 : (info : Info) (frames : List FlacFrame) → is_total info.total (blocks_of frames) ≡ true → is_md5 info.md5 (sound_in info frames) ≡ false
    → sound_at info frames ≡ Err (breaks_at OtherMd5 18)
unfolding sound_at ended
other_md5 info frames fits other =
    ap (λ (a : Bool). ended a (is_md5 info.md5 (sound_in info frames)) (sound_in info frames)) fits
    ∙ ap (λ (b : Bool). ended true b (sound_in info frames)) other

pub both_met : (info : Info) (frames : List FlacFrame) → is_total info.total (blocks_of frames) ≡ true → is_md5 info.md5 (sound_in info frames) ≡ true
    → sound_at info frames ≡ Ok (sound_in info frames)
unfolding sound_at ended
both_met info frames fits same =
    ap (λ (a : Bool). ended a (is_md5 info.md5 (sound_in info frames)) (sound_in info frames)) fits
    ∙ ap (λ (b : Bool). ended true b (sound_in info frames)) same

-- the file has begun, up to its first frame
pub is_started : (bytes : List ℕ) (info : Info) (spans : List Stored) (comments : Option ℕ) (start : ℕ) → IsOpening bytes info spans comments start
    → IsStarted bytes info start
is_started bytes info spans comments start opening = record { blocks = opening.opened.blocks; head = opening.opened.head; says = opening.says }

-- frames up to the end
pub heard_whole : (info : Info) (bytes : List ℕ) (start : ℕ) (frames : List FlacFrame) → FramesUpTo info 0 (drop start bytes) frames (drop (length bytes) bytes)
    → FramesUpTo info 0 (drop start bytes) frames []
heard_whole info bytes start frames goes =
    subst (λ (xs : List ℕ). FramesUpTo info 0 (drop start bytes) frames xs) (drop_all (length bytes) bytes (omega arith)) goes

-- the rule that the end breaks
pub end_refused : (bytes : List ℕ) (info : Info) (spans : List Stored) (comments : Option ℕ) (start count : ℕ) (places : List FramePlace) (digest : SoundDigest)
    (broken : Broken)
    → IsOpening bytes info spans comments start → (h : AreHeard info bytes start (length bytes) count places digest)
    → AnswersBreak (λ (done : Unit {0}). sound_in info h.frames) (Err broken) (sound_at info h.frames) → IsRefusalOf bytes (Faulty broken)
end_refused bytes info spans comments start count places digest fault opening h met =
    let found = met.0 in (
      found.rule,
      ap (λ (f : Broken). f.rule) met.2,
      subst (FlacBreaks bytes found.rule) (sym (ap (λ (f : Broken). f.place) met.2))
          (inr (inr (inr (inr (record {
            blocks = opening.opened.blocks;
            frame_bytes = drop start bytes;
            head = opening.opened.head;
            info = info;
            says = opening.says;
            frames = h.frames;
            whole = heard_whole info bytes start h.frames h.goes;
            breaks = met.1;
          }))))),
    )

pub file_read : (bytes : List ℕ) (info : Info) (spans : List Stored) (comments : Option ℕ) (start count : ℕ) (places : List FramePlace) (digest : SoundDigest)
    → IsOpening bytes info spans comments start → (h : AreHeard info bytes start (length bytes) count places digest)
    → sound_at info h.frames ≡ Ok (sound_in info h.frames)
    → IsReadOf bytes (record { info = info; blocks = spans; comments = comments; frames = count; sound_start = start; places = places })
file_read bytes info spans comments start count places digest opening h met = record {
  blocks = opening.opened.blocks;
  frames = h.frames;
  sound = sound_in info h.frames;
  reads =
      record {
        frame_bytes = drop start bytes;
        head = opening.opened.head;
        says = opening.says;
        whole = heard_whole info bytes start h.frames h.goes;
        sounds = met;
      };
  starts = refl;
  kept = opening.opened.kept;
  count_is = sym h.count_is;
  places_are = h.places_are;
}
