-- What the keys of a vault hold.
use Rattle.std.specs.Prelude.{◌≡◌, ◌≢◌, ℕ, List, Option}

-- the bytes that each key holds, if any
abbrev pub Blobs : Type 0
Blobs = ℕ → Option (List ℕ)

-- each key holds what it held
abbrev pub AllKept : Blobs → Blobs → Type 0
AllKept old new = (key : ℕ) → new key ≡ old key

-- each key but this one holds what it held
abbrev pub OthersKept : ℕ → Blobs → Blobs → Type 0
OthersKept key old new = (other : ℕ) → other ≢ key → new other ≡ old other
