use Rattle.std.proofs.Common.{◌≡◌, ℕ, List, sym, subst}
use Rattle.std.specs.Prelude.{ℤ}
use Rattle.file_model.specs.FlacFile.{IsFlac}
use Rattle.flac_stream.proofs.Endings.{end_refused}
use Rattle.flac_stream.proofs.FileSounds.{IsFlac_sounds}
use Rattle.flac_stream.proofs.Listing.{decoded_is}
use Rattle.flac_stream.proofs.decoding.close.Goals as goal

pub new-requires : goal.new-requires
new-requires c =
    let heard = c.requires.decoded.frames_are in
    IsFlac_sounds c.args.bytes.now _
    (decoded_is c.args.bytes.now c.args.opening.info _ _ _ _ _ c.requires.opened c.requires.decoded (c.in-Ok.ensures heard.frames heard.count_is heard.fed))

-- a sound of these parts
same_sound : (bytes : List ℕ) (depth other : ℕ) (frames many : ℕ) (lists xs : List (List ℤ)) → depth ≡ other → frames ≡ many → lists ≡ xs
    → IsFlac bytes (record { depth = other; frames = many; lists = xs }) → IsFlac bytes (record { depth = depth; frames = frames; lists = lists })
same_sound bytes depth other frames many lists xs depths counts same is =
    subst (λ (d : ℕ). IsFlac bytes (record { depth = d; frames = frames; lists = lists })) (sym depths)
    (subst (λ (n : ℕ). IsFlac bytes (record { depth = other; frames = n; lists = lists })) (sym counts)
    (subst (λ (ys : List (List ℤ)). IsFlac bytes (record { depth = other; frames = many; lists = ys })) (sym same) is))

pub returns-in-Ok-clause-ok : goal.returns-in-Ok-clause-ok
returns-in-Ok-clause-ok c =
    let heard = c.requires.decoded.frames_are in
    same_sound c.args.bytes.now _ _ _ _ _ _ c.new.ensures.depth c.new.ensures.frames c.new.ensures.lists
    (decoded_is c.args.bytes.now c.args.opening.info _ _ _ _ _ c.requires.opened c.requires.decoded (c.in-Ok.ensures heard.frames heard.count_is heard.fed))

pub returns-clause-err : goal.returns-clause-err
returns-clause-err c =
    let heard = c.requires.decoded.frames_are in
    end_refused c.args.bytes.now c.args.opening.info _ _ _ _ _ _ c.in-Err.broken c.requires.opened heard
    (c.in-Err.ensures heard.frames heard.count_is heard.fed)
