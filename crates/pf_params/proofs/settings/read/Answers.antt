use Rattle.std.proofs.Common.{Ok, Err, sym, ap, ◌∙◌}
use Rattle.std.specs.Option.{option_map_or}
use Rattle.std.specs.Result.{result_err}
use Rattle.pf_catalogue.specs.Catalogue.{catalogue}
use Rattle.pf_params.proofs.ClassLaws.{all_read, both_refused, none_before}
use Rattle.pf_params.specs.Accepted.{accepted}
use Rattle.pf_params.specs.Classes.{class_names, class_rows}
use Rattle.pf_params.specs.Clauses.Readings.{held_readings, readings_of}
use Rattle.pf_params.specs.Parameters.{refusals}
use Rattle.pf_params.specs.Settled.{settled}
use Rattle.pf_params.proofs.settings.read.Goals as goal

pub invariant_of-result : goal.invariant_of-result
invariant_of-result c =
    let s = c.in_ok-known.known in
    let refusal = rw (c.as_slice.ensures, c.in_ok-names.ensures, c.parted-readings.ensures.refusal, c.in_ok-readings_of.ensures) at c.in_ok-held.ensures.refusal in (
      all_read (readings_of s catalogue) (none_before (result_err (readings_of s catalogue)) (refusals s (class_rows s (class_names s))) (sym refusal ∙ c.in-None.is))
          ∙ ap (λ r. Ok (held_readings r)) (sym c.in_ok-readings_of.ensures) ∙ ap Ok (sym c.parted-readings.ensures.held),
      rw (c.as_slice.ensures, c.in_ok-names.ensures) at c.in_ok-held.ensures.held,
    )

pub returns-in-Some : goal.returns-in-Some
unfolding accepted
returns-in-Some c =
    let s = settled c.args.main.now c.args.over.now in
    let refusal = rw (c.as_slice.ensures, c.in_ok-names.ensures, c.parted-readings.ensures.refusal, c.in_ok-readings_of.ensures, c.in_ok-known.ensures) at c.in_ok-held.ensures.refusal in
    sym (ap (λ first. option_map_or Err first (Ok s)) (sym (both_refused s) ∙ sym refusal ∙ c.in-Some.is))

pub returns-in-None : goal.returns-in-None
unfolding accepted
returns-in-None c =
    let s = settled c.args.main.now c.args.over.now in
    let refusal = rw (c.as_slice.ensures, c.in_ok-names.ensures, c.parted-readings.ensures.refusal, c.in_ok-readings_of.ensures, c.in_ok-known.ensures) at c.in_ok-held.ensures.refusal in
    ap Ok c.in_ok-known.ensures ∙ sym (ap (λ first. option_map_or Err first (Ok s)) (sym (both_refused s) ∙ sym refusal ∙ c.in-None.is))
