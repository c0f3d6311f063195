use Rattle.std.proofs.Common.{◌≡◌, ◌<◌, ◌^◌, drop}
use Rattle.http_inbox.proofs.ExtentLemmas.{read_on}
use Rattle.http_inbox.proofs.extents.size_of.Given as goal

-- the digits that are left follow those of the number
abbrev pub invariant-digits : goal.invariant-digits
invariant-digits l = record {
  same : read_on 0 l.digits ≡ read_on l.number (drop l.digit-index l.digits);
  short : l.number < 10 ^ l.digit-index;
}
