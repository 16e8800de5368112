use Rattle.std.proofs.Common.{◌∙◌, sym}
use Rattle.pf_listfile.proofs.ReadingLaws.{took}
use Rattle.pf_listfile.proofs.reading.add_words.Goals as goal

pub loop-word-preserved : goal.loop-word-preserved
loop-word-preserved c =
    let read = rw (c.in-Some.is, c.as_slice.ensures) at c.in_ok-item_of.ensures in
    took c.loop-word.items c.push.new.self c.args.words.now c.loop-word.word-index c.word-item.result c.in-Some.item c.loop-word-test.true c.word-item.is
    (sym read) c.in_ok-push-in-Some.ensures.ok ∙ c.loop-word.invariant
