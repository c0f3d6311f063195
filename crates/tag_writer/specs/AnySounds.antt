-- A sound of either kind.
use Rattle.std.specs.Prelude.{ℕ, ℤ, List}
use Rattle.lib_base.specs.Sounds.{IsSound}
use Rattle.wave_chunks.specs.declared.wave_sounds.WaveSound.{WaveSound}
use Rattle.flac_stream.specs.declared.sound.FlacSound.{FlacSound}
use Rattle.tag_writer.specs.declared.any_sound.AnySound.{AnySound}
use Rattle.tag_writer.specs.declared.any_sound.AnySound.TheVariants.{Wave, Flac}

-- what is seen of the sound, of whichever kind it is
abbrev pub any_of : {X : Type 0} → (WaveSound → X) → (FlacSound → X) → AnySound → X
any_of wave flac (Wave sound) = wave sound
any_of wave flac (Flac sound) = flac sound

-- sounds of both kinds are sounds
pub any_is_sound : (wave_lists : WaveSound → List (List ℤ)) (flac_lists : FlacSound → List (List ℤ)) (wave_depth : WaveSound → ℕ)
    (flac_depth : FlacSound → ℕ) (wave_frames : WaveSound → ℕ) (flac_frames : FlacSound → ℕ)
    → ((s : WaveSound) → IsSound (wave_lists s) (wave_depth s) (wave_frames s)) → ((s : FlacSound) → IsSound (flac_lists s) (flac_depth s) (flac_frames s))
    → (s : AnySound) → IsSound (any_of wave_lists flac_lists s) (any_of wave_depth flac_depth s) (any_of wave_frames flac_frames s)
any_is_sound wl fl wd fd wf ff wave flac (Wave sound) = wave sound
any_is_sound wl fl wd fd wf ff wave flac (Flac sound) = flac sound
