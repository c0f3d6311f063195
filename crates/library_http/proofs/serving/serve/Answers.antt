use Rattle.std.proofs.Common.{◌≡◌, ◌<◌, ◌≤◌, ◌+◌, ◌-◌, ℕ, suc, [], List, refl, sym, subst, rules, arith}
use Rattle.library_http.specs.declared.serving.How.TheVariants as how
use Rattle.library_http.specs.Turns.{Passed, SoFar}
use Rattle.library_http.specs.World.{world}
use Rattle.library_http.proofs.Framing.{Passed-closed, Passed-limit, Passed-none, Passed-stopped, Passed-turn}
use Rattle.library_http.proofs.Served.{SoFar-ends, SoFar-none, SoFar-turn}
use Rattle.library_http.proofs.Turning.{Serves-limit}
use Rattle.library_http.proofs.serving.serve.Goals as goal

pub requests-init : goal.requests-init
requests-init g c = (
  omega arith,
  λ start keeps more is.
      let source = g.S.Source.shown c.args.source.now in
      let sink = g.K.Sink.shown c.args.sink.now in
      let w = world c.args.library.now (g.D.Keeper.shown c.args.keeper.now) (g.V.Vault.shown c.args.vault.now) in
      let all : more ≡ c.args.requests = omega (arith, is) in
      subst (λ (held : List ℕ). SoFar c.args.requests more start 0 held source source sink sink w w) (sym c.requires.empty)
      (subst (λ (n : ℕ). SoFar n more start 0 [] source source sink sink w w) all (SoFar-none more start source sink w keeps)),
  omega arith,
  omega arith,
  record { of_keeper = omega arith; of_vault = omega arith },
  λ more is.
      let source = g.S.Source.shown c.args.source.now in
      let all : more ≡ c.args.requests = omega (arith, is) in
      subst (λ (held : List ℕ). Passed c.args.requests more 0 held source source) (sym c.requires.empty)
      (subst (λ (n : ℕ). Passed n more 0 [] source source) all (Passed-none more source)),
)

pub requests-preserved : goal.requests-preserved
requests-preserved g c =
    let below : c.requests.answered < c.args.requests = search rules in
    let later = c.requests.invariant.4 in
    let turn = c.in-Answered.ensures in (
      omega (arith, below),
      λ start keeps more is.
          let so_far = c.requests.invariant.1 start keeps (suc more) (omega (arith, is)) in
          SoFar-turn c.args.requests more start c.requests.answered c.requests.inbox c.serve_one.new.inbox (g.S.Source.shown c.args.source.now)
          (g.S.Source.shown c.requests.source) (g.S.Source.shown c.serve_one.new.source) (g.K.Sink.shown c.args.sink.now)
          (g.K.Sink.shown c.requests.sink) (g.K.Sink.shown c.serve_one.new.sink)
          (world c.args.library.now (g.D.Keeper.shown c.args.keeper.now) (g.V.Vault.shown c.args.vault.now))
          (world c.requests.library (g.D.Keeper.shown c.requests.keeper) (g.V.Vault.shown c.requests.vault))
          (world c.serve_one.new.library (g.D.Keeper.shown c.serve_one.new.keeper) (g.V.Vault.shown c.serve_one.new.vault))
          so_far (turn.turn so_far.state so_far.keeps),
      omega (arith, c.requests.invariant.2, turn.source.later),
      omega (arith, c.requests.invariant.3, turn.sink.later),
      record {
        of_keeper = omega (arith, later.of_keeper, turn.later.of_keeper);
        of_vault = omega (arith, later.of_vault, turn.later.of_vault);
      },
      λ more is.
          let passed = c.requests.invariant.5 (suc more) (omega (arith, is)) in
          Passed-turn c.args.requests more c.requests.answered c.requests.inbox c.serve_one.new.inbox (g.S.Source.shown c.args.source.now)
          (g.S.Source.shown c.requests.source) (g.S.Source.shown c.serve_one.new.source) passed turn.finds.0 turn.finds.1,
    )

pub returns-in-Closed-clause-session : goal.returns-in-Closed-clause-session
returns-in-Closed-clause-session g c = λ start keeps.
    let below : c.requests.answered < c.args.requests = search rules in
    let more = c.args.requests - c.requests.answered - 1 in
    let so_far = c.requests.invariant.1 start keeps (suc more) (omega (arith, below)) in
    SoFar-ends c.args.requests (suc more) start c.requests.answered 1 (c.requests.answered + 1) how.Ended c.requests.inbox
    (g.S.Source.shown c.args.source.now) (g.S.Source.shown c.requests.source) (g.S.Source.shown c.serve_one.new.source)
    (g.K.Sink.shown c.args.sink.now) (g.K.Sink.shown c.requests.sink) (g.K.Sink.shown c.serve_one.new.sink)
    (world c.args.library.now (g.D.Keeper.shown c.args.keeper.now) (g.V.Vault.shown c.args.vault.now))
    (world c.requests.library (g.D.Keeper.shown c.requests.keeper) (g.V.Vault.shown c.requests.vault))
    (world c.serve_one.new.library (g.D.Keeper.shown c.serve_one.new.keeper) (g.V.Vault.shown c.serve_one.new.vault))
    so_far (c.in-Closed.ensures.turn so_far.state so_far.keeps more) refl

pub returns-in-Stopped-clause-session : goal.returns-in-Stopped-clause-session
returns-in-Stopped-clause-session g c = λ start keeps.
    let below : c.requests.answered < c.args.requests = search rules in
    let more = c.args.requests - c.requests.answered - 1 in
    let so_far = c.requests.invariant.1 start keeps (suc more) (omega (arith, below)) in
    SoFar-ends c.args.requests (suc more) start c.requests.answered 0 c.requests.answered c.in-Stopped.how c.requests.inbox
    (g.S.Source.shown c.args.source.now) (g.S.Source.shown c.requests.source) (g.S.Source.shown c.serve_one.new.source)
    (g.K.Sink.shown c.args.sink.now) (g.K.Sink.shown c.requests.sink) (g.K.Sink.shown c.serve_one.new.sink)
    (world c.args.library.now (g.D.Keeper.shown c.args.keeper.now) (g.V.Vault.shown c.args.vault.now))
    (world c.requests.library (g.D.Keeper.shown c.requests.keeper) (g.V.Vault.shown c.requests.vault))
    (world c.serve_one.new.library (g.D.Keeper.shown c.serve_one.new.keeper) (g.V.Vault.shown c.serve_one.new.vault))
    so_far (c.in-Stopped.ensures.turn so_far.state so_far.keeps more) (omega arith)

pub returns-clause-session : goal.returns-clause-session
returns-clause-session g c = λ start keeps.
    let reached : c.args.requests ≤ c.requests.answered = search rules in
    let so_far = c.requests.invariant.1 start keeps 0 (omega (arith, reached)) in
    let sink = g.K.Sink.shown c.requests.sink in
    let w = world c.requests.library (g.D.Keeper.shown c.requests.keeper) (g.V.Vault.shown c.requests.vault) in
    SoFar-ends c.args.requests 0 start c.requests.answered 0 c.requests.answered c.end_at_limit.result c.requests.inbox
    (g.S.Source.shown c.args.source.now) (g.S.Source.shown c.requests.source) (g.S.Source.shown c.end_at_limit.new.source)
    (g.K.Sink.shown c.args.sink.now) sink sink
    (world c.args.library.now (g.D.Keeper.shown c.args.keeper.now) (g.V.Vault.shown c.args.vault.now)) w w
    so_far (Serves-limit c.end_at_limit.result so_far.state c.requests.inbox (g.S.Source.shown c.requests.source)
    (g.S.Source.shown c.end_at_limit.new.source) sink w so_far.keeps c.end_at_limit.ensures.takes) (omega arith)

pub returns-in-Closed-clause-framed : goal.returns-in-Closed-clause-framed
returns-in-Closed-clause-framed g c =
    let below : c.requests.answered < c.args.requests = search rules in
    let more = c.args.requests - c.requests.answered - 1 in
    let finds = c.in-Closed.ensures.finds in
    Passed-closed c.args.requests more c.requests.answered c.requests.inbox c.serve_one.new.inbox (g.S.Source.shown c.args.source.now)
    (g.S.Source.shown c.requests.source) (g.S.Source.shown c.serve_one.new.source) (c.requests.invariant.5 (suc more) (omega (arith, below)))
    finds.0 finds.1

pub returns-in-Stopped-clause-framed : goal.returns-in-Stopped-clause-framed
returns-in-Stopped-clause-framed g c =
    let below : c.requests.answered < c.args.requests = search rules in
    let more = c.args.requests - c.requests.answered - 1 in
    Passed-stopped c.in-Stopped.how c.args.requests more c.requests.answered c.requests.inbox (g.S.Source.shown c.args.source.now)
    (g.S.Source.shown c.requests.source) (g.S.Source.shown c.serve_one.new.source) (c.requests.invariant.5 (suc more) (omega (arith, below)))
    c.in-Stopped.ensures.finds

pub returns-clause-framed : goal.returns-clause-framed
returns-clause-framed g c =
    let reached : c.args.requests ≤ c.requests.answered = search rules in
    Passed-limit c.end_at_limit.result c.args.requests c.requests.answered c.requests.inbox (g.S.Source.shown c.args.source.now)
    (g.S.Source.shown c.requests.source) (g.S.Source.shown c.end_at_limit.new.source) (c.requests.invariant.5 0 (omega (arith, reached)))
    c.end_at_limit.ensures.takes
