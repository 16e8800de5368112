-- What a call that hands on refusals as faults was answered.
use Rattle.std.proofs.Common.{◌≡◌, ℕ, List, [], ◌∷◌, Result, Ok, Err, refl, sym, ap, ◌∙◌}
use Rattle.pf_base.specs.Clauses.Faults.{as_fault}
use Rattle.pf_base.specs.Refusal.{refused}
use Rattle.pf_base.specs.Text.Logical.{Grouped, Physical, grouped, logical_lines_of, physical_lines, unless_leading}
use Rattle.pf_base.specs.declared.text.logical.Logical.{Logical}
use Rattle.pf_base.specs.declared.text.logical.TextFault.{TextFault}
use Rattle.pf_base.specs.declared.text.logical.TextFault.TheVariants.{Continuation}
use Rattle.pf_base.specs.declared.refused.Cause.TheVariants.{C1}
use Rattle.pf_base.specs.declared.refused.ConfFault.{ConfFault}
use Rattle.pf_base.specs.declared.refused.Refused.{Refused}
use Rattle.pf_maincf.specs.Edit.{edited_in}
use Rattle.pf_maincf.specs.Settings.{Conf, conf_of, conf_with, settings_of, unless_continued}
use Rattle.pf_maincf.specs.declared.setting.Setting.{Setting}

pub there : {A : Type 0} (answer : Result A Refused) (x : A) → Ok x ≡ as_fault answer → answer ≡ Ok x
there (Ok y) x is = cc
there (Err refusal) x is = cc

-- a fault stays one after the first step
pub conf_fault : (file : List ℕ) (fault : ConfFault) (settings : Result (List Setting) Refused) → Err fault ≡ as_fault settings → Err fault ≡ as_fault (conf_with file settings)
conf_fault file fault (Ok settings) is = cc
conf_fault file fault (Err refusal) is = cc

pub edit_fault : (assignments : List Setting) (text : List ℕ) (fault : ConfFault) (conf : Result Conf Refused) → Err fault ≡ as_fault conf → Err fault ≡ as_fault (edited_in assignments text conf)
edit_fault assignments text fault (Ok conf) is = cc
edit_fault assignments text fault (Err refusal) is = cc

-- a line that continues nothing is refused
pub continued : (file text : List ℕ) (line : ℕ) → Err (Continuation line) ≡ logical_lines_of text → conf_of file text ≡ Err (refused file line C1 [])
unfolding conf_of
continued file text line is = ap (conf_with file) (by (grouped (physical_lines text)).leading is) where
  by : (leading : List Physical) → Err (Continuation line) ≡ unless_leading leading (grouped (physical_lines text)).logical
      → unless_continued file leading (settings_of file (grouped (physical_lines text)).logical) ≡ Err (refused file line C1 [])
  by [] is = cc
  by (first ∷ leading) is = let same : line ≡ first.number = cc in ap (λ n. Err (refused file n C1 [])) (sym same)

-- and else the settings are those of the logical lines
pub conf_of_lines : (file text : List ℕ) (lines : List Logical) → Ok lines ≡ logical_lines_of text → conf_of file text ≡ conf_with file (settings_of file lines)
unfolding conf_of
conf_of_lines file text lines is = ap (conf_with file) (by (grouped (physical_lines text)).leading is) where
  by : (leading : List Physical) → Ok lines ≡ unless_leading leading (grouped (physical_lines text)).logical
      → unless_continued file leading (settings_of file (grouped (physical_lines text)).logical) ≡ settings_of file lines
  by [] is = let same : lines ≡ (grouped (physical_lines text)).logical = cc in ap (settings_of file) (sym same)
  by (first ∷ leading) is = cc
