use Rattle.std.proofs.Common.{drop}
use Rattle.pf_maps.proofs.TurnLaws.{OpensUpTo}
use Rattle.pf_maps.specs.Opening.{in_turn, tables_opened, text_table_opened}
use Rattle.pf_maps.proofs.opening.open_tables.Given as goal

abbrev pub invariant-loop-place : goal.invariant-loop-place
invariant-loop-place g l =
    OpensUpTo (g.F.Files.known l.initial.files) (g.F.Files.known l.files) l.initial.patterns l.patterns (λ event all. tables_opened event all l.folded l.specs)
    (λ event all. in_turn (text_table_opened all l.folded l.specs.file) event (drop l.place l.specs.texts)) l.tables
