use Rattle.std.proofs.Common.{map, drop}
use Rattle.httparse.specs.Spans.{header_bytes}
use Rattle.http_model.specs.Fields.{values_of}
use Rattle.http_inbox.proofs.FieldLemmas.{Found}
use Rattle.http_inbox.proofs.heads.field_span.Given as goal

-- what was found, and then the values of the headers that are left
abbrev pub invariant-headers : goal.invariant-headers
invariant-headers l =
    Found l.bytes l.found (values_of l.name (map (header_bytes l.bytes) l.headers))
    (values_of l.name (map (header_bytes l.bytes) (drop l.header-index l.headers)))
