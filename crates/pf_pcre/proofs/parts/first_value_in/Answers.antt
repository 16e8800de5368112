use Rattle.std.proofs.Common.{refl, sym, ◌∙◌, arith, rules}
use Rattle.pf_pcre.specs.Clauses.Steps.{all_said}
use Rattle.pf_pcre.proofs.FindLaws.{walk_is_first}
use Rattle.pf_pcre.proofs.PartLaws.{walk_on}
use Rattle.pf_pcre.proofs.parts.first_value_in.Goals as goal

pub loop-place-init : goal.loop-place-init
loop-place-init c = record { few = omega arith; long = refl; same = refl; led = walk_is_first c.args.text.now (all_said c.args.items.now.items) }

pub returns-in-Found-clause-value : goal.returns-in-Found-clause-value
returns-in-Found-clause-value c =
    let step = rw (c.in-Found.is, c.loop-place.invariant.same) at c.in_ok-value.ensures.value in
    sym (walk_on c.args.text.now c.loop-place.skipped c.loop-place.place c.args.items.now.items _ _ (omega arith) c.loop-place.invariant.led step)

pub loop-place-preserved : goal.loop-place-preserved
loop-place-preserved c =
    let step = rw (c.in-On.is, c.loop-place.invariant.same) at c.in_ok-value.ensures.value in
    record {
      few = search rules;
      long = search rules;
      same = c.look_in.ensures.same ∙ c.loop-place.invariant.same;
      led = walk_on c.args.text.now c.loop-place.skipped c.loop-place.place c.args.items.now.items _ _ (omega arith) c.loop-place.invariant.led step;
    }
