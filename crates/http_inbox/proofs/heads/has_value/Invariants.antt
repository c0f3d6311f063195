use Rattle.std.proofs.Common.{◌≡◌, map, drop}
use Rattle.std.specs.List.{list_any}
use Rattle.httparse.specs.Spans.{header_bytes}
use Rattle.http_model.specs.Fields.{is_named, values_of}
use Rattle.http_inbox.proofs.heads.has_value.Given as goal

-- no header line passed so far
abbrev pub invariant-headers : goal.invariant-headers
invariant-headers l =
    list_any (is_named l.value) (values_of l.name (map (header_bytes l.bytes) l.headers))
    ≡ list_any (is_named l.value) (values_of l.name (map (header_bytes l.bytes) (drop l.header-index l.headers)))
