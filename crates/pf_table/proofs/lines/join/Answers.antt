use Rattle.std.proofs.Common.{◌++◌, sym, ◌∙◌}
use Rattle.pf_table.proofs.AheadLaws.{joined, joined_step}
use Rattle.pf_table.proofs.TextLemmas.{of_ok}
use Rattle.pf_table.proofs.lines.join.Goals as goal

pub loop-more-preserved-then-whole : goal.loop-more-preserved-then-whole
loop-more-preserved-then-whole c = record {
  all = λ whole. joined_step c.loop-more.ahead c.in-Some.more.now c.next_continuing.new.self (c.args.text.now ++ joined c.args.ahead.now.leading) c.loop-more.joined
      c.extend-then-whole.new.self c.in-Some.ensures.line (c.loop-more.invariant.all c.if-whole.true)
      (of_ok c.extend-then-whole.result c.extend-then-whole.ensures.ok (sym c.is_ok-whole-then-whole.ensures.value ∙ whole));
  logical = c.in-Some.ensures.line.logical ∙ c.loop-more.invariant.logical;
}
