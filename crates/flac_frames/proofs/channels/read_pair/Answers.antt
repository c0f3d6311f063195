use Rattle.std.proofs.Common.{Ok, Err, length, refl}
use Rattle.bit_codec.specs.Reader.{left}
use Rattle.file_model.specs.Pairs.{first_depth, second_depth}
use Rattle.flac_frames.proofs.Sounds.{channel_as, first_refused, second_refused, pair_spelled, none_paired}
use Rattle.flac_frames.proofs.channels.read_pair.Goals as goal

pub returns-in-Err-clause-comes : goal.returns-in-Err-clause-comes
returns-in-Err-clause-comes c = λ channels.
    first_refused (length c.args.first.now) channels c.args.depth c.args.kind (left c.args.reader.now) c.in-Err.rule
    (channel_as (length c.args.first.now) (length c.args.first.now) (first_depth c.args.kind c.args.depth) c.first_depth.result (left c.args.reader.now)
    (Err c.in-Err.rule) refl c.first_depth.ensures c.in-Err.ensures.comes)

pub returns-in-Err-read_channel-clause-comes : goal.returns-in-Err-read_channel-clause-comes
returns-in-Err-read_channel-clause-comes c = λ channels.
    let one = channel_as (length c.args.first.now) (length c.args.first.now) (first_depth c.args.kind c.args.depth) c.first_depth.result (left c.args.reader.now)
    (Ok (c.read_channel.new.out, left c.read_channel.new.reader)) refl c.first_depth.ensures c.in-Ok.ensures.comes in
    second_refused (length c.args.first.now) channels c.args.depth c.args.kind (left c.args.reader.now) (left c.read_channel.new.reader) c.read_channel.new.out
    c.in-Err-read_channel.rule one
    (channel_as (length c.args.first.now) (length c.args.second.now) (second_depth c.args.kind c.args.depth) c.second_depth.result (left c.read_channel.new.reader)
    (Err c.in-Err-read_channel.rule) c.requires.equal c.second_depth.ensures c.in-Err-read_channel.ensures.comes)

pub returns-in-Ok-undo_stereo-clause-comes : goal.returns-in-Ok-undo_stereo-clause-comes
returns-in-Ok-undo_stereo-clause-comes c = λ channels.
    let one = channel_as (length c.args.first.now) (length c.args.first.now) (first_depth c.args.kind c.args.depth) c.first_depth.result (left c.args.reader.now)
    (Ok (c.read_channel.new.out, left c.read_channel.new.reader)) refl c.first_depth.ensures c.in-Ok.ensures.comes in
    let two = channel_as (length c.args.first.now) (length c.args.second.now) (second_depth c.args.kind c.args.depth) c.second_depth.result (left c.read_channel.new.reader)
    (Ok (c.read_channel-2.new.out, left c.read_channel-2.new.reader)) c.requires.equal c.second_depth.ensures c.in-Ok-read_channel.ensures.comes in
    pair_spelled (length c.args.first.now) channels c.args.depth c.args.kind (left c.args.reader.now) (left c.read_channel.new.reader)
    (left c.read_channel-2.new.reader) c.read_channel.new.out c.read_channel-2.new.out c.undo_stereo.new.first c.undo_stereo.new.second one two
    c.in-Ok-undo_stereo.ensures.restored

pub returns-in-Err-undo_stereo-clause-comes : goal.returns-in-Err-undo_stereo-clause-comes
returns-in-Err-undo_stereo-clause-comes c = λ channels.
    let one = channel_as (length c.args.first.now) (length c.args.first.now) (first_depth c.args.kind c.args.depth) c.first_depth.result (left c.args.reader.now)
    (Ok (c.read_channel.new.out, left c.read_channel.new.reader)) refl c.first_depth.ensures c.in-Ok.ensures.comes in
    let two = channel_as (length c.args.first.now) (length c.args.second.now) (second_depth c.args.kind c.args.depth) c.second_depth.result (left c.read_channel.new.reader)
    (Ok (c.read_channel-2.new.out, left c.read_channel-2.new.reader)) c.requires.equal c.second_depth.ensures c.in-Ok-read_channel.ensures.comes in
    none_paired (length c.args.first.now) channels c.args.depth c.args.kind (left c.args.reader.now) (left c.read_channel.new.reader)
    (left c.read_channel-2.new.reader) c.read_channel.new.out c.read_channel-2.new.out one two c.in-Err-undo_stereo.ensures.none
