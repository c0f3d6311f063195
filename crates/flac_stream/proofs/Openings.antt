-- The start of a file.
use Rattle.std.proofs.Common.{◌≡◌, ◌≢◌, ◌<◌, inl, inr, ℕ, Bool, true, false, List, length, drop, length-take, Option, Result, Ok, Err, refl, ap, sym, ◌∙◌, subst, arith}
use Rattle.std.specs.Prelude.{◌↔◌, IsTrue, codes}
use Rattle.lib_base.specs.Sounds.{part}
use Rattle.file_model.specs.declared.flac_info.Info.{Info}
use Rattle.file_model.specs.declared.flac_rules.FlacRule.{FlacRule}
use Rattle.file_model.specs.declared.flac_rules.FlacRule.TheVariants.{NoFlac}
use Rattle.file_model.specs.FlacBreaks.{FlacBreaks}
use Rattle.file_model.specs.FlacFile.{FlacBreak, info_at}
use Rattle.flac_stream.specs.declared.blocks.Block.{Block as Stored}
use Rattle.flac_stream.specs.Blocks.{Opens, IsOpening}
use Rattle.flac_stream.specs.Infos.{info_ruled, place_in}
use Rattle.flac_stream.proofs.Infos.{info_broken, info_whole}

pub no_mark : (bytes : List ℕ) → part bytes 0 4 ≢ codes "fLaC" → FlacBreaks bytes NoFlac 0
no_mark bytes other = inl (record { other = other; rule_is = refl; place_is = refl })

pub short_of_mark : (bytes : List ℕ) → length bytes < 4 → part bytes 0 4 ≢ codes "fLaC"
short_of_mark bytes short same =
    let size = ap length same in
    let taken = length-take 4 bytes in
    omega (arith, size, taken, short)

pub mark_there : (bytes wanted slice : List ℕ) (answer : Bool) → slice ≡ wanted → (IsTrue answer ↔ (part bytes 0 (length slice) ≡ slice))
    → answer ≡ true → part bytes 0 (length wanted) ≡ wanted
mark_there bytes wanted slice answer is tells holds = subst (λ (xs : List ℕ). part bytes 0 (length xs) ≡ xs) is (tells.0 holds)

pub mark_other : (bytes wanted slice : List ℕ) (answer : Bool) → slice ≡ wanted → (IsTrue answer ↔ (part bytes 0 (length slice) ≡ slice))
    → answer ≡ false → part bytes 0 (length wanted) ≢ wanted
mark_other bytes wanted slice answer is tells fails same =
    both answer fails (tells.1 (subst (λ (xs : List ℕ). part bytes 0 (length xs) ≡ xs) (sym is) same))
  where
    both : (test : Bool) → test ≡ false → test ≡ true → ⊥
    both test h k = cc

pub opening_is : (bytes content : List ℕ) (info : Info) (spans : List Stored) (comments : Option ℕ) (end : ℕ) → Opens bytes spans comments end
    → content ≡ part bytes 8 34 → info_ruled content ≡ Ok info → IsOpening bytes info spans comments end
opening_is bytes content info spans comments end opened is ruled = record {
  opened = opened;
  says = ap info_at (opened.info.content ∙ sym is) ∙ info_whole content info ruled;
}

pub info_refused : (bytes content : List ℕ) (rule : FlacRule) (place : ℕ) (spans : List Stored) (comments : Option ℕ) (end : ℕ)
    → Opens bytes spans comments end → content ≡ part bytes 8 34 → info_ruled content ≡ Err rule → place ≡ place_in rule → FlacBreaks bytes rule place
info_refused bytes content rule place spans comments end opened is ruled there =
    inr (inr (inl (record {
      blocks = opened.blocks;
      rest = drop end bytes;
      head = opened.head;
      breaks =
          ap info_at (opened.info.content ∙ sym is) ∙ info_broken content rule ruled ∙ ap (told rule) (sym there);
    })))
  where
    told : FlacRule → ℕ → Result Info FlacBreak
    told rule place = Err (record { rule = rule; place = place })
