-- What a run leaves, put together.
use Rattle.std.proofs.Common.{◌≡◌, ℕ, Option, None, Some, Err, refl, sym, ap, subst, ◌∙◌}
use Rattle.pf_base.proofs.KnownLemmas.{stops_first}
use Rattle.pf_base.specs.Outside.Objects.{Objects, log_text}
use Rattle.pf_base.specs.declared.outside.status.TheConstants.{NO_MEMORY}
use Rattle.pf_base.specs.declared.outside.texts.SinkFault.TheVariants.{NoMemory}
use Rattle.pf_tools.proofs.ReportLaws.{starved}
use Rattle.pf_tools.proofs.RunLaws.{runs_short}
use Rattle.pf_tools.proofs.MapLaws.{took_postmap, took_starved}
use Rattle.pf_tools.specs.Map.Run.{PostmapRun}
use Rattle.pf_tools.specs.Run.{PostconfRun}
use Rattle.pf_top.proofs.StatusLemmas.{said_usage, took_course}
use Rattle.pf_top.specs.Run.{Leaves, Unformed, usage_line}
use Rattle.pf_top.specs.Smtpd.{SmtpdRun}
use Rattle.pf_top.specs.Smtpd.{Course as course}
use Rattle.pf_words.specs.declared.postconf.ConfWords.{ConfWords}
use Rattle.pf_words.specs.declared.postmap.MapWords.{MapWords}
use Rattle.pf_words.specs.declared.smtpd.SmtpdWords.{SmtpdWords}
use Rattle.pf_words.specs.declared.words.Words.{Words}
use Rattle.pf_words.specs.declared.words.Words.TheVariants.{Smtpd, Postconf, Postmap}

-- it was out of memory before the command was known
pub nothing_left : (words : Option Words) (o : Objects) (count : ℕ) → Leaves words o o count count NO_MEMORY
nothing_left None o count =
    (said_usage o o NO_MEMORY (Err NoMemory) refl (record { says = stops_first o.streams.sinks (log_text usage_line); input = refl }) refl, refl)
nothing_left (Some (Smtpd words)) o count = (took_course words o o NO_MEMORY course.starves refl ((refl, refl), refl), refl)
nothing_left (Some (Postconf words)) o count =
    (runs_short words o.files o.files o.streams.input o.streams.sinks.mail o.streams.sinks.out o.streams.sinks.log (starved words o.files o.files (refl, refl)) (λ is. refl), refl)
nothing_left (Some (Postmap words)) o count = took_postmap (took_starved words o count)

-- the words that were read are those of the command
module _ {before now : Objects} {old new : ℕ} {status : ℕ} {answer read : Option Words} {inner : Words} (same : answer ≡ read) (some : answer ≡ Some inner) where
  pub smtpd_left : {words : SmtpdWords} → inner ≡ Smtpd words → new ≡ old → SmtpdRun words before now status → Leaves read before now old new status
  smtpd_left is kept ran = subst (λ w. Leaves w before now old new status) (ap Some (sym is) ∙ sym some ∙ same) (ran, kept)

  pub postconf_left : {words : ConfWords} → inner ≡ Postconf words → new ≡ old → PostconfRun words before now status → Leaves read before now old new status
  postconf_left is kept ran = subst (λ w. Leaves w before now old new status) (ap Some (sym is) ∙ sym some ∙ same) (ran, kept)

  pub postmap_left : {words : MapWords} → inner ≡ Postmap words → PostmapRun words before now old new status → Leaves read before now old new status
  postmap_left is ran = subst (λ w. Leaves w before now old new status) (ap Some (sym is) ∙ sym some ∙ same) ran

pub unformed_left : {before now : Objects} {old new : ℕ} {status : ℕ} {answer read : Option Words} → answer ≡ read → answer ≡ None → new ≡ old → Unformed before now status
    → Leaves read before now old new status
unformed_left {before} {now} {old} {new} {status} same none kept ran = subst (λ w. Leaves w before now old new status) (sym none ∙ same) (ran, kept)
