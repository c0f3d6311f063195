-- Where blobs stand in a folder.
use Rattle.std.specs.Prelude.{ℕ, List, ◌++◌, codes, false}
use Rattle.std.specs.Fmt.{digits}

-- the file of a key, as `takes/7.bin`
abbrev pub blob_path : List ℕ → ℕ → List ℕ
blob_path folder key = folder ++ codes "/" ++ digits 10 false key ++ codes ".bin"

-- the file that becomes it once it is whole, as `takes/7.part`
abbrev pub part_path : List ℕ → ℕ → List ℕ
part_path folder key = folder ++ codes "/" ++ digits 10 false key ++ codes ".part"
