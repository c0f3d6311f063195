-- Texts worked by hand.
use Rattle.std.proofs.Common.{◌≡◌, ◌*◌, ◌^◌, pos, negsuc, refl}
use Rattle.std.specs.Prelude.{codes}
use Rattle.std.specs.Fmt.{digits}
use Rattle.sound_model.specs.Texts.{decimal_text, gain_text, peak_text, millionths}

-- the sign stands before a whole part of 0 too
of_5 : gain_text (pos 5) ≡ codes "0.05 dB"
unfolding digits
of_5 = refl

of_minus_5 : gain_text (negsuc 4) ≡ codes "-0.05 dB"
unfolding digits
of_minus_5 = refl

of_minus_1731 : gain_text (negsuc 1730) ≡ codes "-17.31 dB"
unfolding digits
of_minus_1731 = refl

of_0 : decimal_text (pos 0) ≡ codes "0.00"
unfolding digits
of_0 = refl

of_1000 : decimal_text (pos 1000) ≡ codes "10.00"
unfolding digits
of_1000 = refl

-- the least peak is rounded up to a millionth, full scale is 1
of_least_peak : peak_text 1 ≡ codes "0.000001"
unfolding digits millionths
of_least_peak = refl

of_no_peak : peak_text 0 ≡ codes "0.000000"
unfolding digits millionths
of_no_peak = refl

of_full_scale : peak_text (2 ^ 36) ≡ codes "1.000000"
unfolding digits millionths
of_full_scale = refl

-- 9141/8192 of a 16-bit step, 256 units of 2^-36 for each 8192th: 34.05 millionths
of_a_step : peak_text (9141 * 256) ≡ codes "0.000035"
unfolding digits millionths
of_a_step = refl
