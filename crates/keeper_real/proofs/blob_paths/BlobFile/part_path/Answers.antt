use Rattle.std.proofs.Common.{◌++◌, ◌∙◌, ap}
use Rattle.std.proofs.lemmas.Fmt.{contents_after_writes}
use Rattle.arrayvec.specs.ArrayString.{ArrayString}
use Rattle.keeper_real.specs.Paths.{part_path}
use Rattle.keeper_real.proofs.blob_paths.BlobFile.part_path.Goals as goal

-- the path began empty, and what was written was appended
pub returns-in-Ok : goal.returns-in-Ok
returns-in-Ok c =
    contents_after_writes _ (λ (s : ArrayString). s.bytes) (λ _ _ _ t. t) _ _ _ c.in-Ok.ensures.writes
    ∙ ap (λ l. l ++ part_path c.args.self.now.folder.now c.args.self.now.key) c.new-path.ensures
