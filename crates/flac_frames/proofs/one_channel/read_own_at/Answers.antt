use Rattle.std.proofs.Common.{◌≡◌, ◌*◌, ◌∙◌, ℕ, Ok, length, replicate, sym, subst, arith}
use Rattle.bit_codec.specs.Reader.{left}
use Rattle.file_model.specs.FlacFrame.{Channels}
use Rattle.flac_frames.proofs.Ones.{own_there}
use Rattle.flac_frames.proofs.one_channel.read_own_at.Goals as goal

pub returns-in-Ok : goal.returns-in-Ok
returns-in-Ok c = λ channels lists rest less are.
    let long : length c.split_at_mut-own.result.0.now ≡ c.args.block = omega arith in
    let here = subst (λ (n : ℕ). Channels n (replicate channels c.args.depth) (left c.args.reader.now) (Ok (lists, rest))) (sym long) are in
    own_there c.split_at_mut-behind.result.0.now c.read_own.new.own _ (c.args.index * c.args.block) c.args.block (omega arith) (omega arith)
    ∙ c.in-Ok.ensures channels lists rest less here

pub returns-in-Err : goal.returns-in-Err
returns-in-Err c = λ channels lists rest less are.
    let long : length c.split_at_mut-own.result.0.now ≡ c.args.block = omega arith in
    c.in-Err.ensures channels lists rest less
    (subst (λ (n : ℕ). Channels n (replicate channels c.args.depth) (left c.args.reader.now) (Ok (lists, rest))) (sym long) are)
