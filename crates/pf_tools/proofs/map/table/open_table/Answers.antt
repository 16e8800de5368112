use Rattle.std.proofs.Common.{None, inl, refl, sym, ◌∙◌}
use Rattle.pf_tools.proofs.TableLaws.{opens_no_table, tables_are}
use Rattle.pf_tools.proofs.map.table.open_table.Goals as goal

pub returns-then-is_no_table : goal.returns-then-is_no_table
returns-then-is_no_table g c =
    opens_no_table c.args.words.now (g.F.Files.known c.args.files.now) c.args.patterns.now c.no_table.result
    (rw c.as_slice-table.ensures at (sym c.is_no_table.ensures ∙ c.if-is_no_table.true)) (rw c.as_slice-table.ensures at c.no_table.ensures)

pub returns : goal.returns
returns g c =
    let specs = c.in-Ok.ensures in
    let text = c.as_slice-table.ensures in
    let other = rw text at (sym c.is_no_table.ensures ∙ c.if-is_no_table.false) in
    record {
      event = c.open.ensures.event;
      known = λ files is. rw (← tables_are c.open.ensures.event c.args.words.now files other) (rw (specs, text) at (c.open.ensures.known files is));
      leaves = c.open.ensures.leaves;
      counts = c.open.ensures.counts;
      names = c.open.ensures.names;
    }

pub returns-in_default : goal.returns-in_default
returns-in_default g c = record { event = None; known = λ files is. tt; leaves = (refl, refl); counts = inl refl; names = refl }
