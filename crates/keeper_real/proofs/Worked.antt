-- Paths, worked out.
use Rattle.std.specs.Prelude.{◌≡◌, codes, refl}
use Rattle.std.specs.Fmt.{digits}
use Rattle.keeper_real.specs.Paths.{blob_path, part_path}

blob-of-a-key : blob_path (codes "takes") 7 ≡ codes "takes/7.bin"
unfolding digits
blob-of-a-key = refl

part-of-a-key : part_path (codes "old/takes") 4294967295 ≡ codes "old/takes/4294967295.part"
unfolding digits
part-of-a-key = refl
