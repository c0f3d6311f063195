use Rattle.std.proofs.Common.{◌≡◌, ◌++◌, ℕ, List, sym, subst, ap, append-nil, arith}
use Rattle.std.specs.List.{flat_map}
use Rattle.std.specs.Simd.{first_chunks}
use Rattle.file_model.specs.Pcm.{interleaved}
use Rattle.flac_stream.specs.Frames.{in_bytes, WasFed}
use Rattle.flac_stream.proofs.Digests.{row_more}
use Rattle.flac_stream.proofs.digest.SoundDigest.feed_rows.Goals as goal

pub loop-place-init : goal.loop-place-init
loop-place-init c = λ asked message fed. subst (λ (m : List ℕ). WasFed asked c.args.self.now m) (sym (append-nil message)) fed

pub loop-place-preserved : goal.loop-place-preserved
loop-place-preserved c = λ asked message fed.
    let lists = first_chunks c.args.block c.args.channels c.args.scratch.now.cells in
    subst (λ (m : List ℕ). WasFed asked c.feed_row.new.self m)
    (row_more (in_bytes c.args.count) message c.loop-place.place lists)
    (c.in-Ok.ensures asked _ (c.loop-place.invariant asked message fed))

pub returns : goal.returns
returns c = λ asked message fed.
    let lists = first_chunks c.args.block c.args.channels c.args.scratch.now.cells in
    subst (λ (n : ℕ). WasFed asked c.loop-place.self (message ++ flat_map (in_bytes c.args.count) (interleaved n lists)))
    (let ends : c.loop-place.place ≡ c.args.block = omega arith in ends)
    (c.loop-place.invariant asked message fed)
