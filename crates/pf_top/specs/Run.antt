-- What a run leaves, by the command that its words name. The statuses are postgate's own, as is the line that says how the program is used.
use Rattle.std.specs.Prelude.{◌≡◌, ℕ, true, List, [], ◌∷◌, Option, None, Some, Result, ⊤, codes}
use Rattle.pf_base.specs.Outside.Objects.{Objects, status_of}
use Rattle.pf_base.specs.Outside.Statuses.{HasCauses, counts_of, is_among}
use Rattle.pf_base.specs.declared.outside.status.TheConstants.{LOG_FAILED, NO_MEMORY, USAGE}
use Rattle.pf_base.specs.declared.outside.texts.SinkFault.{SinkFault}
use Rattle.pf_tools.specs.Map.Run.{PostmapRun}
use Rattle.pf_tools.specs.Run.{PostconfRun}
use Rattle.pf_top.specs.Smtpd.{SaysLine, SmtpdRun}
use Rattle.pf_words.specs.declared.words.Words.{Words}
use Rattle.pf_words.specs.declared.words.Words.TheVariants.{Smtpd, Postconf, Postmap}

-- how the program is used
unfoldable pub usage_line : List ℕ
usage_line = codes "usage: postgate smtpd|relaycheck|postconf|postmap|workload\n"

-- words of no form
pub record Unformed (before now : Objects) (status : ℕ) : Type 0 where
  pub said : Result ⊤ SinkFault
  pub status_is : status ≡ status_of USAGE said
  pub says : SaysLine before.streams now.streams usage_line said
  pub files : now.files ≡ before.files
  -- which statuses there are, and why
  pub known : is_among (USAGE ∷ LOG_FAILED ∷ NO_MEMORY ∷ []) status ≡ true
  pub causes : HasCauses (counts_of before) (counts_of now) status

-- what a run of words leaves. The counts old and new are those of patterns that were refused for their size, which postmap alone reads.
abbrev pub Leaves : Option Words → Objects → Objects → ℕ → ℕ → ℕ → Type 0
Leaves None before now old new status = Unformed before now status × (new ≡ old)
Leaves (Some (Smtpd words)) before now old new status = SmtpdRun words before now status × (new ≡ old)
Leaves (Some (Postconf words)) before now old new status = PostconfRun words before now status × (new ≡ old)
Leaves (Some (Postmap words)) before now old new status = PostmapRun words before now old new status
