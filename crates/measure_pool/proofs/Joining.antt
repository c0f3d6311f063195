-- The peaks of all jobs put together are the peak of the sound.
use Rattle.std.proofs.Common.{◌≡◌, ◌≤◌, ◌<◌, ◌+◌, ◌-◌, ◌*◌, ◌/◌, ◌%◌, ◌∙◌, ℕ, zero, suc, Bool, true, false, cond, nat_lt, List, [], take, length, get_or, max, min, refl, ap, sym, add-one, arith, All}
use Rattle.std.specs.Prelude.{ℤ}
use Rattle.std.proofs.lemmas.Bool.Decides.{nat_tests}
use Rattle.std.proofs.lemmas.List.{take_all}
use Rattle.std.proofs.lemmas.List.Elements.{All-get_or}
use Rattle.std.proofs.lemmas.Nat.{div-mul-add, mod-mul-add}
use Rattle.lib_base.specs.declared.limits.TheConstants.{PEAK_REACH}
use Rattle.sound_model.specs.Peaks.{peak_over, peak_of}
use Rattle.sound_model.proofs.PeakStretches.{peak_over-join, peak_of-step}
use Rattle.measure_pool.specs.Jobs.{found_by, peak_of_jobs}
use Rattle.measure_pool.specs.Plans.{IsPlanOf, cut_at, stretch_at, job_at, jobs_of}
use Rattle.measure_pool.specs.declared.plans.Plan.{Plan}
use Rattle.measure_pool.specs.declared.plans.Job.{Job}
use Rattle.measure_pool.specs.declared.plans.Job.TheVariants.{Whole, Segments, Peak}

-- the job of a channel that is gone over once
pub whole_job : (plan : Plan) (n : ℕ) → n < plan.whole → job_at plan n ≡ Whole n
whole_job plan n below =
    let test : nat_lt n plan.whole ≡ true = grind (arith, nat_tests, below) in
    ap (λ (b : Bool). cond b (Whole n) (cond (nat_lt n plan.channels) (Segments n) (Peak (stretch_at plan (n - plan.channels))))) test

-- the job of the energies of another channel
pub segments_job : (plan : Plan) (n : ℕ) → plan.whole ≤ n → n < plan.channels → job_at plan n ≡ Segments n
segments_job plan n past below =
    let first : nat_lt n plan.whole ≡ false = grind (arith, nat_tests, past) in
    let second : nat_lt n plan.channels ≡ true = grind (arith, nat_tests, below) in
    ap (λ (b : Bool). cond b (Whole n) (cond (nat_lt n plan.channels) (Segments n) (Peak (stretch_at plan (n - plan.channels))))) first
    ∙ ap (λ (b : Bool). cond b (Segments n) (Peak (stretch_at plan (n - plan.channels)))) second

-- the job of a stretch
pub stretch_job : (plan : Plan) (n : ℕ) → plan.whole ≤ plan.channels → plan.channels ≤ n → job_at plan n ≡ Peak (stretch_at plan (n - plan.channels))
stretch_job plan n within past =
    let first : nat_lt n plan.whole ≡ false = grind (arith, nat_tests, within, past) in
    let second : nat_lt n plan.channels ≡ false = grind (arith, nat_tests, past) in
    ap (λ (b : Bool). cond b (Whole n) (cond (nat_lt n plan.channels) (Segments n) (Peak (stretch_at plan (n - plan.channels))))) first
    ∙ ap (λ (b : Bool). cond b (Segments n) (Peak (stretch_at plan (n - plan.channels)))) second

max-none : (a b : ℕ) → b ≡ 0 → max a b ≡ a
max-none a b none = omega (arith, none)

max-assoc : (a b c : ℕ) → max (max a b) c ≡ max a (max b c)
max-assoc a b c = omega arith

-- after the jobs of channels gone over once, the peak is that of these channels
after_whole : (depth frames : ℕ) (lists : List (List ℤ)) (plan : Plan) (n : ℕ) → All (λ xs. length xs ≡ frames) lists → plan.whole ≤ length lists → n ≤ plan.whole
    → peak_of_jobs depth lists plan n ≡ peak_of depth frames (take n lists)
after_whole depth frames lists plan zero equal within inside = refl
after_whole depth frames lists plan (suc n) equal within inside =
    let below : n < length lists = omega (arith, within, inside) in
    let before = after_whole depth frames lists plan n equal within (omega (arith, inside)) in
    let long = All-get_or (λ (xs : List ℤ). length xs ≡ frames) lists n [] below equal in
    let own : (found_by depth lists (job_at plan n)).peak ≡ peak_over depth (get_or lists n []) 0 (frames + PEAK_REACH) =
    ap (λ (job : Job). (found_by depth lists job).peak) (whole_job plan n (omega (arith, inside)))
    ∙ ap (λ (count : ℕ). peak_over depth (get_or lists n []) 0 (count + PEAK_REACH)) long in
    peak_of-step depth frames lists n (peak_of_jobs depth lists plan n) (found_by depth lists (job_at plan n)).peak
    (peak_of_jobs depth lists plan (suc n)) below before own refl
    ∙ ap (λ (count : ℕ). peak_of depth frames (take count lists)) (add-one n)

-- jobs of energies alone leave the peak
after_segments : (depth frames : ℕ) (lists : List (List ℤ)) (plan : Plan) (m : ℕ) → All (λ xs. length xs ≡ frames) lists → plan.whole ≤ length lists
    → plan.whole + m ≤ plan.channels → peak_of_jobs depth lists plan (plan.whole + m) ≡ peak_of depth frames (take plan.whole lists)
after_segments depth frames lists plan zero equal within inside =
    let none : plan.whole + 0 ≡ plan.whole = omega arith in
    ap (λ (n : ℕ). peak_of_jobs depth lists plan n) none ∙ after_whole depth frames lists plan plan.whole equal within (omega arith)
after_segments depth frames lists plan (suc m) equal within inside =
    let n = plan.whole + m in
    let next : plan.whole + suc m ≡ suc n = omega arith in
    let own : (found_by depth lists (job_at plan n)).peak ≡ 0 =
    ap (λ (job : Job). (found_by depth lists job).peak) (segments_job plan n (omega arith) (omega (arith, inside))) in
    ap (λ (count : ℕ). peak_of_jobs depth lists plan count) next
    ∙ max-none (peak_of_jobs depth lists plan n) (found_by depth lists (job_at plan n)).peak own
    ∙ after_segments depth frames lists plan m equal within (omega (arith, inside))

-- the next stretch begins where one ends
cuts_rise : (plan : Plan) (i : ℕ) → cut_at plan i ≤ cut_at plan (i + 1)
cuts_rise plan i = let more : (i + 1) * plan.size ≡ i * plan.size + plan.size = omega arith in omega (arith, more)

-- what a job of a stretch finds
stretch_peak : (depth : ℕ) (lists : List (List ℤ)) (plan : Plan) (c i n : ℕ) → plan.whole ≤ plan.channels → i < plan.stretches
    → n ≡ plan.channels + (c * plan.stretches + i)
    → (found_by depth lists (job_at plan n)).peak ≡ peak_over depth (get_or lists (plan.whole + c) []) (cut_at plan i) (cut_at plan (i + 1))
stretch_peak depth lists plan c i n within inside is =
    let number : n - plan.channels ≡ c * plan.stretches + i = omega (arith, is) in
    let row = ap (λ (k : ℕ). k / plan.stretches) number ∙ div-mul-add c plan.stretches i inside in
    let place = ap (λ (k : ℕ). k % plan.stretches) number ∙ mod-mul-add c plan.stretches i inside in
    ap (λ (job : Job). (found_by depth lists job).peak) (stretch_job plan n within (omega (arith, is)))
    ∙ ap (λ (k : ℕ). peak_over depth (get_or lists (plan.whole + k) []) (cut_at plan ((n - plan.channels) % plan.stretches)) (cut_at plan ((n - plan.channels) % plan.stretches + 1))) row
    ∙ ap (λ (k : ℕ). peak_over depth (get_or lists (plan.whole + c) []) (cut_at plan k) (cut_at plan (k + 1))) place

-- after some stretches of a channel, the peak is that of the channels before it and of the places that they cover
after_stretches : (depth frames : ℕ) (lists : List (List ℤ)) (plan : Plan) (c i : ℕ) → plan.whole ≤ plan.channels → i ≤ plan.stretches
    → peak_of_jobs depth lists plan (plan.channels + c * plan.stretches) ≡ peak_of depth frames (take (plan.whole + c) lists)
    → peak_of_jobs depth lists plan (plan.channels + (c * plan.stretches + i))
    ≡ max (peak_of depth frames (take (plan.whole + c) lists)) (peak_over depth (get_or lists (plan.whole + c) []) 0 (cut_at plan i))
after_stretches depth frames lists plan c zero within inside before =
    let none : c * plan.stretches + 0 ≡ c * plan.stretches = omega arith in
    let first : cut_at plan 0 ≡ 0 = omega arith in
    ap (λ (n : ℕ). peak_of_jobs depth lists plan (plan.channels + n)) none ∙ before
    ∙ sym (max-none (peak_of depth frames (take (plan.whole + c) lists)) (peak_over depth (get_or lists (plan.whole + c) []) 0 (cut_at plan 0))
    (ap (λ (to : ℕ). peak_over depth (get_or lists (plan.whole + c) []) 0 to) first))
after_stretches depth frames lists plan c (suc i) within inside before =
    let samples = get_or lists (plan.whole + c) [] in
    let others = peak_of depth frames (take (plan.whole + c) lists) in
    let n = plan.channels + (c * plan.stretches + i) in
    let next : plan.channels + (c * plan.stretches + suc i) ≡ suc n = omega arith in
    ap (λ (count : ℕ). peak_of_jobs depth lists plan count) next
    ∙ ap (λ (peak : ℕ). max peak (found_by depth lists (job_at plan n)).peak)
    (after_stretches depth frames lists plan c i within (omega (arith, inside)) before)
    ∙ ap (λ (peak : ℕ). max (max others (peak_over depth samples 0 (cut_at plan i))) peak)
    (stretch_peak depth lists plan c i n within (omega (arith, inside)) refl)
    ∙ max-assoc others (peak_over depth samples 0 (cut_at plan i)) (peak_over depth samples (cut_at plan i) (cut_at plan (i + 1)))
    ∙ ap (λ (peak : ℕ). max others peak) (sym (peak_over-join depth samples 0 (cut_at plan i) (cut_at plan (i + 1)) (omega arith) (cuts_rise plan i)))
    ∙ ap (λ (k : ℕ). max others (peak_over depth samples 0 (cut_at plan k))) (add-one i)

-- after all stretches of some channels, the peak is that of these channels and of those before them
after_channels : (depth frames : ℕ) (lists : List (List ℤ)) (plan : Plan) (c : ℕ) → All (λ xs. length xs ≡ frames) lists → plan.whole ≤ plan.channels
    → plan.channels ≡ length lists → plan.end ≡ frames + PEAK_REACH → plan.end ≤ plan.stretches * plan.size → plan.whole + c ≤ plan.channels
    → peak_of_jobs depth lists plan (plan.channels + c * plan.stretches) ≡ peak_of depth frames (take (plan.whole + c) lists)
after_channels depth frames lists plan zero equal within all end covers inside =
    let left = plan.channels - plan.whole in
    let none : plan.channels + 0 * plan.stretches ≡ plan.whole + left = omega (arith, within) in
    let same : plan.whole ≡ plan.whole + 0 = omega arith in
    ap (λ (n : ℕ). peak_of_jobs depth lists plan n) none
    ∙ after_segments depth frames lists plan left equal (omega (arith, within, all)) (omega (arith, within))
    ∙ ap (λ (n : ℕ). peak_of depth frames (take n lists)) same
after_channels depth frames lists plan (suc c) equal within all end covers inside =
    let samples = get_or lists (plan.whole + c) [] in
    let row : plan.channels + suc c * plan.stretches ≡ plan.channels + (c * plan.stretches + plan.stretches) = omega arith in
    let last : cut_at plan plan.stretches ≡ frames + PEAK_REACH = omega (arith, end, covers) in
    let before = after_channels depth frames lists plan c equal within all end covers (omega (arith, inside)) in
    let next : (plan.whole + c) + 1 ≡ plan.whole + suc c = omega arith in
    let most : peak_of_jobs depth lists plan (plan.channels + (c * plan.stretches + plan.stretches))
    ≡ max (peak_of depth frames (take (plan.whole + c) lists)) (peak_over depth samples 0 (frames + PEAK_REACH)) =
    after_stretches depth frames lists plan c plan.stretches within (omega arith) before
    ∙ ap (λ (to : ℕ). max (peak_of depth frames (take (plan.whole + c) lists)) (peak_over depth samples 0 to)) last in
    ap (λ (n : ℕ). peak_of_jobs depth lists plan n) row
    ∙ peak_of-step depth frames lists (plan.whole + c) (peak_of depth frames (take (plan.whole + c) lists)) (peak_over depth samples 0 (frames + PEAK_REACH))
    (peak_of_jobs depth lists plan (plan.channels + (c * plan.stretches + plan.stretches))) (omega (arith, inside, all)) refl refl most
    ∙ ap (λ (n : ℕ). peak_of depth frames (take n lists)) next

-- all jobs of a plan find the peak of the sound
pub peak_of_all_jobs : (depth frames : ℕ) (lists : List (List ℤ)) (plan : Plan) → All (λ xs. length xs ≡ frames) lists → plan.whole ≤ plan.channels
    → plan.channels ≡ length lists → plan.end ≡ frames + PEAK_REACH → plan.end ≤ plan.stretches * plan.size
    → peak_of_jobs depth lists plan (jobs_of plan) ≡ peak_of depth frames lists
peak_of_all_jobs depth frames lists plan equal within all end covers =
    after_channels depth frames lists plan (plan.channels - plan.whole) equal within all end covers (omega (arith, within))
    ∙ ap (λ (xss : List (List ℤ)). peak_of depth frames xss) (take_all (plan.whole + (plan.channels - plan.whole)) lists (omega (arith, within, all)))
