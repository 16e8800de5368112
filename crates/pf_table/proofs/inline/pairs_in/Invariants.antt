use Rattle.std.proofs.Common.{◌≡◌, Some, drop}
use Rattle.std.specs.List.{fold}
use Rattle.pf_base.specs.Options.{◌>>=◌}
use Rattle.pf_table.specs.Inline.{item_pairs, pairs_in}
use Rattle.pf_table.specs.Pairs.{with_pair}
use Rattle.pf_table.specs.declared.pairs.Repeats.TheVariants.{First}
use Rattle.pf_table.proofs.inline.pairs_in.Given as goal

abbrev pub invariant-loop-item : goal.invariant-loop-item
invariant-loop-item l =
    pairs_in l.folds l.items ≡ (item_pairs l.folds (drop l.item-index l.items) >>= (λ behind. Some (fold (with_pair First) l.pairs behind)))
