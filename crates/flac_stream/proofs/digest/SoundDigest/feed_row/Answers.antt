use Rattle.std.proofs.Common.{◌++◌, ◌∙◌, ℕ, ℤ, List, take, ap, sym, subst, append-nil, rules, arith, w32, FitsSigned}
use Rattle.std.specs.List.{flat_map}
use Rattle.std.proofs.lemmas.Int.{to_z-of_z}
use Rattle.file_model.specs.Pcm.{frame_at}
use Rattle.std.specs.Simd.{first_chunks}
use Rattle.flac_stream.specs.Frames.{in_bytes, WasFed}
use Rattle.flac_stream.proofs.Digests.{sample_more, frame_all, room_for}
use Rattle.flac_stream.proofs.Hearing.{length-first_chunks}
use Rattle.flac_stream.proofs.digest.SoundDigest.feed_row.Goals as goal

pub loop-channel-init : goal.loop-channel-init
loop-channel-init c = λ asked message fed. subst (λ (m : List ℕ). WasFed asked c.args.self.now m) (sym (append-nil message)) fed

pub sample_at-sample-requires-clause-room : goal.sample_at-sample-requires-clause-room
sample_at-sample-requires-clause-room c =
    room_for c.loop-channel.channel c.args.channels c.args.block _ (omega arith) c.requires.room

pub loop-channel-preserved : goal.loop-channel-preserved
loop-channel-preserved c = λ asked message fed.
    let lists = first_chunks c.args.block c.args.channels c.args.scratch.now.cells in
    let all = length-first_chunks c.args.block c.args.channels c.args.scratch.now.cells in
    let fits : FitsSigned w32 c.sample_at-sample.result = search rules in
    subst (λ (m : List ℕ). WasFed asked c.feed_sample.new.self m)
    (ap (λ (s : ℤ). (message ++ flat_map (in_bytes c.args.count) (frame_at (take c.loop-channel.channel lists) c.args.place)) ++ in_bytes c.args.count s)
    (to_z-of_z w32 c.sample_at-sample.result fits)
    ∙ sample_more (in_bytes c.args.count) message c.loop-channel.channel c.args.place lists c.sample_at-sample.result (omega (arith, all))
    (c.sample_at-sample.ensures c.args.channels (omega arith)))
    (c.in-Ok.ensures asked _ (c.loop-channel.invariant asked message fed))

pub returns : goal.returns
returns c = λ asked message fed.
    let lists = first_chunks c.args.block c.args.channels c.args.scratch.now.cells in
    let all = length-first_chunks c.args.block c.args.channels c.args.scratch.now.cells in
    subst (λ (m : List ℕ). WasFed asked c.hash_whole_pieces.new.self m)
    (frame_all (in_bytes c.args.count) message c.loop-channel.channel c.args.place lists (omega (arith, all)))
    (c.hash_whole_pieces.ensures asked _ (c.loop-channel.invariant asked message fed))
