-- Which numbers are left.
use Rattle.std.specs.Prelude.{◌||◌, Bool, nat_le}
use Rattle.lib_base.specs.declared.limits.TheConstants.{NUMBERS_END}
use Rattle.keeper_store.specs.declared.contents.NextNumbers.{NextNumbers}

-- no number is left for the next recording, or none for its take
abbrev pub lacks_numbers : NextNumbers → Bool
lacks_numbers next = nat_le NUMBERS_END next.recording || nat_le NUMBERS_END next.take
