-- Levels worked by hand.
use Rattle.std.proofs.Common.{◌≡◌, ◌*◌, ◌^◌, pos, negsuc, refl, arith}
use Rattle.sound_model.specs.Levels.{IsLevel, entry, hundredths, bucket_of}
use Rattle.sound_model.proofs.LevelTable.{later_places_pass}
use Rattle.sound_model.proofs.LevelLaws.{level_from_power, level_from_root}

-- ten decibels, and none
of_10_to_1 : IsLevel 10 1 (pos 2000)
unfolding entry
of_10_to_1 =
    level_from_power 10 1 1 0 (omega arith) (omega arith) (omega arith) (omega arith) (later_places_pass 1 (10 * 10 ^ 9) 10 (omega arith))

of_1_to_1 : IsLevel 1 1 (pos 0)
unfolding entry
of_1_to_1 =
    level_from_power 1 1 0 0 (omega arith) (omega arith) (omega arith) (omega arith) (later_places_pass 1 (10 ^ 9) 1 (omega arith))

-- a factor of 2 is 3.0103 decibels, rounded down to half a hundredth both ways
of_2_to_1 : IsLevel 2 1 (pos 602)
unfolding entry
of_2_to_1 =
    level_from_power 2 1 0 602 (omega arith) (omega arith) (omega arith) (omega arith) (later_places_pass 603 (2 * 10 ^ 9) 1 (omega arith))

of_1_to_2 : IsLevel 1 2 (negsuc 602)
unfolding entry
of_1_to_2 =
    level_from_root 1 2 0 1397 (omega arith) (omega arith) (omega arith) (omega arith) (later_places_pass 1398 (10 * 10 ^ 9) 2 (omega arith))

-- 2.99943 decibels: the entry of three decibels is 1,995,262,314
of_1995_to_1000 : IsLevel 1995 1000 (pos 599)
unfolding entry
of_1995_to_1000 =
    level_from_power 1995 1000 0 599 (omega arith) (omega arith) (omega arith) (omega arith)
    (later_places_pass 600 (1995 * 10 ^ 9) 1000 (omega arith))

-- in hundredths
hundredths_of_2000 : hundredths (pos 2000) ≡ pos 1000
unfolding hundredths
hundredths_of_2000 = refl

hundredths_of_0 : hundredths (pos 0) ≡ pos 0
unfolding hundredths
hundredths_of_0 = refl

hundredths_of_602 : hundredths (pos 602) ≡ pos 301
unfolding hundredths
hundredths_of_602 = refl

hundredths_of_minus_603 : hundredths (negsuc 602) ≡ negsuc 300
unfolding hundredths
hundredths_of_minus_603 = refl

hundredths_of_599 : hundredths (pos 599) ≡ pos 300
unfolding hundredths
hundredths_of_599 = refl

-- -70 dB is the first bucket's, -69.9 dB the second's, and the last one has all from 32.3 dB on
bucket_of_minus_14000 : bucket_of (negsuc 13999) ≡ 0
unfolding bucket_of
bucket_of_minus_14000 = refl

bucket_of_minus_13981 : bucket_of (negsuc 13980) ≡ 0
unfolding bucket_of
bucket_of_minus_13981 = refl

bucket_of_minus_13980 : bucket_of (negsuc 13979) ≡ 1
unfolding bucket_of
bucket_of_minus_13980 = refl

bucket_of_minus_50000 : bucket_of (negsuc 49999) ≡ 0
unfolding bucket_of
bucket_of_minus_50000 = refl

bucket_of_6460 : bucket_of (pos 6460) ≡ 1023
unfolding bucket_of
bucket_of_6460 = refl

bucket_of_50000 : bucket_of (pos 50000) ≡ 1023
unfolding bucket_of
bucket_of_50000 = refl
