use Rattle.std.proofs.Common.{◌≡◌, ◌++◌, drop}
use Rattle.std.specs.List.{fold}
use Rattle.pf_params.specs.Classes.{class_rows, classes_of}
use Rattle.pf_params.specs.Parameters.{refusals, with_lesser}
use Rattle.pf_params.proofs.classes.classes_of.Given as goal

abbrev pub invariant-loop-name : goal.invariant-loop-name
invariant-loop-name l = record {
  held : l.classes.held ++ classes_of l.known (class_rows l.known (drop l.name-index l.names)) ≡ classes_of l.known (class_rows l.known l.names);
  refusal : fold with_lesser l.classes.refusal (refusals l.known (class_rows l.known (drop l.name-index l.names))) ≡ fold with_lesser l.fn.before (refusals l.known (class_rows l.known l.names));
}
