-- What follows a head, as it is answered.
use Rattle.std.specs.Prelude.{ℕ, List, Option, Some, None, if◌then◌else◌}
use Rattle.std.specs.Str.Parse.{digits_value}
use Rattle.http_model.specs.Requests.{Extent, refused, long, is_size}
use Rattle.http_inbox.specs.declared.extents.BodySize.{BodySize}
use Rattle.http_inbox.specs.declared.extents.BodySize.TheVariants.{Long, Refused}

-- the number that a value of Content-Length writes (RFC 9110 section 8.6)
abbrev pub size_written : List ℕ → Option ℕ
size_written digits = if is_size digits then Some (digits_value 10 digits) else None

-- what an answer says
abbrev pub extent_said : BodySize → Extent
extent_said (Long size) = long size
extent_said (Refused cause) = refused cause
