use Rattle.std.proofs.Common.{◌≡◌, ◌≢◌, [], length, rules, arith}
use Rattle.std.proofs.lemmas.List.{nil_from_length}
use Rattle.library_http.proofs.Turning.{TakesFinding-held, TakesFinding-looked, TakesFinding-looked_end, TakesFinding-looked_fault}
use Rattle.library_http.proofs.serving.end_at_limit.Goals as goal

pub returns-then-not-is_empty-clause-takes : goal.returns-then-not-is_empty-clause-takes
returns-then-not-is_empty-clause-takes g c =
    let some : c.args.inbox.now ≢ [] = search rules in
    TakesFinding-held c.args.inbox.now (g.S.Source.shown c.args.source.now) some

pub returns-in-Ok-eq0-clause-takes : goal.returns-in-Ok-eq0-clause-takes
returns-in-Ok-eq0-clause-takes g c =
    let zero : length c.args.inbox.now ≡ 0 = search rules in
    let none : c.args.inbox.now ≡ [] = nil_from_length c.args.inbox.now zero in
    let nothing : c.in-Ok-eq0.field-0 ≡ 0 = search rules in
    let reads = rw nothing at (rw c.in-Ok-eq0.is at c.read.ensures) in
    TakesFinding-looked_end c.args.inbox.now _ (g.S.Source.shown c.args.source.now) (g.S.Source.shown c.read.new.self) none reads (omega arith)

pub returns-in-Ok-clause-takes : goal.returns-in-Ok-clause-takes
returns-in-Ok-clause-takes g c =
    let zero : length c.args.inbox.now ≡ 0 = search rules in
    let none : c.args.inbox.now ≡ [] = nil_from_length c.args.inbox.now zero in
    let reads = rw c.in-Ok.is at c.read.ensures in
    let some : c.in-Ok.field-0 ≢ 0 = search rules in
    TakesFinding-looked c.args.inbox.now _ c.in-Ok.field-0 (g.S.Source.shown c.args.source.now) (g.S.Source.shown c.read.new.self) none reads some

pub returns-in-Err-clause-takes : goal.returns-in-Err-clause-takes
returns-in-Err-clause-takes g c =
    let zero : length c.args.inbox.now ≡ 0 = search rules in
    let none : c.args.inbox.now ≡ [] = nil_from_length c.args.inbox.now zero in
    let reads = rw c.in-Err.is at c.read.ensures in
    TakesFinding-looked_fault c.args.inbox.now _ _ (g.S.Source.shown c.args.source.now) (g.S.Source.shown c.read.new.self) none reads
