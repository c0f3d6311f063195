use Rattle.std.proofs.Common.{◌≡◌, ℕ, List, [], length, get_or, ap, sym, ◌∙◌}
use Rattle.std.specs.Prelude.{ℤ}
use Rattle.std.proofs.lemmas.List.Elements.{All-get_or}
use Rattle.sound_model.specs.Segments.{weights}
use Rattle.measure_pool.proofs.Combining.{length-channel, totals_within, more_totals}
use Rattle.measure_pool.proofs.found.add_channel.Goals as goal

pub add_weighted-requires-clause-lengths : goal.add_weighted-requires-clause-lengths
add_weighted-requires-clause-lengths g c =
    let lists = g.S.Sound.lists c.args.sound.now in
    let frames = g.S.Sound.frames c.args.sound.now in
    let samples : List ℤ = get_or lists c.args.channel [] in
    let long = All-get_or (λ (xs : List ℤ). length xs ≡ frames) lists c.args.channel [] c.requires.channel c.requires.sound.equal in
    c.requires.count ∙ sym (length-channel (g.S.Sound.depth c.args.sound.now) frames samples c.args.energies.now long c.requires.energies)

pub add_weighted-requires-clause-within : goal.add_weighted-requires-clause-within
add_weighted-requires-clause-within g c =
    let lists = g.S.Sound.lists c.args.sound.now in
    let law = c.requires.sound in
    let frames = g.S.Sound.frames c.args.sound.now in
    let long = All-get_or (λ (xs : List ℤ). length xs ≡ frames) lists c.args.channel [] c.requires.channel law.equal in
    let weight_is = c.weight.ensures ∙ ap (λ (k : ℕ). get_or (weights k) c.args.channel 0) c.channels.ensures in
    totals_within (g.S.Sound.depth c.args.sound.now) frames c.args.channel c.weight.result lists c.args.totals.now c.args.energies.now
    law.has_channel law.few_channels c.requires.channel c.requires.count c.requires.totals long c.requires.energies weight_is

pub returns : goal.returns
returns g c =
    let lists = g.S.Sound.lists c.args.sound.now in
    let law = c.requires.sound in
    let frames = g.S.Sound.frames c.args.sound.now in
    let long = All-get_or (λ (xs : List ℤ). length xs ≡ frames) lists c.args.channel [] c.requires.channel law.equal in
    let weight_is = c.weight.ensures ∙ ap (λ (k : ℕ). get_or (weights k) c.args.channel 0) c.channels.ensures in
    more_totals (g.S.Sound.depth c.args.sound.now) frames c.args.channel c.weight.result lists c.args.totals.now c.args.energies.now
    c.add_weighted.new.total law.has_channel law.few_channels c.requires.channel c.requires.count c.requires.totals long c.requires.energies
    weight_is c.add_weighted.auto.total c.add_weighted.ensures.sums
