-- What the parser's answers say of the head that begins some bytes.
use Rattle.std.proofs.Common.{◌≡◌, ◌≤◌, ◌<◌, ℕ, List, [], ◌++◌, length, take, drop, map, sym, ap, ◌∙◌, subst, arith, length-take}
use Rattle.std.proofs.lemmas.List.{length-map}
use Rattle.httparse.specs.declared.spans.HeaderSpan.{HeaderSpan}
use Rattle.httparse.specs.declared.spans.RequestSpans.{RequestSpans}
use Rattle.httparse.specs.Grammar.{RequestHead, ReadsRequest, HasNoRequest}
use Rattle.httparse.specs.Spans.{IsRequestWithin, IsRequestOf, IsWithin, RequestOverflows, header_bytes, name_and_value, span_bytes}
use Rattle.http_model.specs.Requests.{HeadAt, HasNoHead, head_limit, field_limit}
use Rattle.http_model.proofs.Readings.{ReadsRequest-shorter}
use Rattle.http_inbox.specs.declared.heads.Heading.{Heading}
use Rattle.http_inbox.specs.Heads.{GivesFields, IsHeadingOf}

-- No head begins no bytes.
pub HasNoHead-nil : (bytes : List ℕ) → bytes ≡ [] → HasNoHead bytes
HasNoHead-nil bytes none head rest x =
    let shorter = ReadsRequest-shorter bytes head rest x.reads in
    omega (arith, shorter, ap length none)

-- A head has a byte at least.
pub head_limit-some : 0 < head_limit
unfolding head_limit
head_limit-some = omega arith

-- Where no head of the grammar begins the bytes, none within the limits does.
pub HasNoHead-partial : (bytes : List ℕ) → HasNoRequest bytes → HasNoHead bytes
HasNoHead-partial bytes none head rest x = none head rest x.reads

-- Where each head has too many header lines however the bytes go on, none within the limits begins them.
pub HasNoHead-overflow : (bytes : List ℕ) (room : ℕ) → room ≡ field_limit → RequestOverflows room bytes
    → (more : List ℕ) → HasNoHead (bytes ++ more)
HasNoHead-overflow bytes room is over more head rest x =
    let many = over more head rest x.reads in
    let few = x.few in
    omega (arith, is, many, few)

-- as many fields as headers were written
fields_few : (bytes : List ℕ) (headers : List HeaderSpan) (r : RequestSpans) (found : IsRequestOf bytes headers r)
    → length found.0.fields ≤ length headers
fields_few bytes headers r found =
    omega (
      arith,
      ap length found.1.fields,
      length-map (take r.headers headers) (header_bytes bytes),
      length-map found.0.fields name_and_value,
      length-take r.headers headers,
    )

-- The head that the parser found is within the limits, and the heading is its own.
pub heading_found : (bytes : List ℕ) (headers : List HeaderSpan) (r : RequestSpans) (heading : Heading)
    → IsRequestWithin bytes headers r → IsRequestOf bytes headers r → length bytes ≤ head_limit → length headers ≡ field_limit
    → heading.len ≡ r.len → heading.method ≡ r.method → heading.target ≡ r.path
    → GivesFields bytes heading r.version (map (header_bytes bytes) (take r.headers headers))
    → (head : RequestHead) × IsHeadingOf bytes heading head
heading_found bytes headers r heading within found short few len method target gives =
    let at = found.1 in
    let fits : r.len ≤ length bytes = within.section.len_fits in
    let fields : length found.0.fields ≤ length headers = fields_few bytes headers r found in
    let inside : IsWithin (length bytes) r.method = (within.method.0, omega (arith, within.method.1, fits)) in
    let aims : IsWithin (length bytes) r.path = (within.path.0, omega (arith, within.path.1, fits)) in (
      found.0,
      record {
        at = record {
          reads = subst (λ (n : ℕ). ReadsRequest bytes found.0 (drop n bytes)) (sym len) at.reads;
          short = omega (arith, at.len, fits, short);
          few = omega (arith, fields, few);
        };
        fits = omega (arith, len, fits);
        method_in = subst (IsWithin (length bytes)) (sym method) inside;
        method = ap (span_bytes bytes) method ∙ at.method;
        target_in = subst (IsWithin (length bytes)) (sym target) aims;
        target = ap (span_bytes bytes) target ∙ at.path;
        values = subst (λ (n : ℕ). GivesFields bytes heading n (map name_and_value found.0.fields)) at.version
            (subst (GivesFields bytes heading r.version) at.fields gives);
      },
    )

-- No byte is there yet.
pub open_nothing : (bytes : List ℕ) → length bytes ≡ 0 → HasNoHead bytes × (length bytes < head_limit)
open_nothing bytes none =
    let some : (head : RequestHead) (rest : List ℕ) → ¬ HeadAt bytes head rest =
    λ head rest x. let shorter = ReadsRequest-shorter bytes head rest x.reads in omega (arith, shorter, none) in
    (some, omega (arith, none, head_limit-some))
