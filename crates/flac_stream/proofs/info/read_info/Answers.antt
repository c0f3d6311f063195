use Rattle.std.proofs.Common.{◌∙◌}
use Rattle.flac_stream.proofs.Infos.{at_rate, info_is}
use Rattle.flac_stream.proofs.info.read_info.Goals as goal

pub number_in-rate-requires-clause-stands : goal.number_in-rate-requires-clause-stands
number_in-rate-requires-clause-stands c = c.at-reader.ensures.gives ∙ at_rate c.args.content.now c.requires

pub returns : goal.returns
returns c =
    info_is c.args.content.now _ _ _ _ _ _ _ c.requires c.number_in-rate.ensures.value c.number_in-channels.ensures.value
    c.number_in-depth.ensures.value c.number_in-high.ensures.value c.number_in-low.ensures.value c.joined.ensures c.digest_in.ensures
