-- The kind that the first four bytes of a file name.
use Rattle.std.specs.Prelude.{ℕ, List, Option, None, Some, codes, if◌then◌else◌, nat_eq}
use Rattle.std.specs.List.{starts_with}
use Rattle.lib_base.specs.declared.files.Kind.{Kind}
use Rattle.lib_base.specs.declared.files.Kind.TheVariants.{Wave, Flac}

-- `RIFF` names a wave (RIFF), `fLaC` FLAC (RFC 9639 section 6)
abbrev pub kind_named : List ℕ → Option Kind
kind_named bytes =
    if starts_with nat_eq bytes (codes "RIFF") then Some Wave
    else if starts_with nat_eq bytes (codes "fLaC") then Some Flac
    else None
