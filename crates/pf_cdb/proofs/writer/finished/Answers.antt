use Rattle.std.proofs.Common.{ap, ◌∙◌, length, map, arith}
use Rattle.pf_cdb.proofs.AddingLaws.{finished_is, header_fits, header_size, tables_fit}
use Rattle.pf_cdb.specs.Clauses.Gathered.{slot_lists}
use Rattle.pf_cdb.specs.Written.{filled}
use Rattle.pf_cdb.proofs.writer.finished.Goals as goal

pub add_header-requires : goal.add_header-requires
add_header-requires c =
    let tables = ap (λ l. map filled (slot_lists l)) c.as_slice.ensures.value ∙ ap (map filled) c.in_ok-buckets.ensures in
    let fit = tables_fit c.args.file c.args.slots.items _ c.requires tables in omega (arith, fit, c.len.ensures)

pub put_prefix-requires : goal.put_prefix-requires
put_prefix-requires c =
    let tables = ap (λ l. map filled (slot_lists l)) c.as_slice.ensures.value ∙ ap (map filled) c.in_ok-buckets.ensures in
    let size = header_size c.args.slots.items _ _ _ _ tables c.new-header.ensures c.in_ok-add_header.ensures in
    let fits = header_fits c.args.file c.args.slots.items _ c.requires size in omega (arith, fits, ap length c.as_slice-2.ensures)

pub returns : goal.returns
returns c =
    let tables = ap (λ l. map filled (slot_lists l)) c.as_slice.ensures.value ∙ ap (map filled) c.in_ok-buckets.ensures in
    let again = ap (λ l. map filled (slot_lists l)) c.as_slice-3.ensures.value ∙ ap (map filled) c.in_ok-buckets.ensures in
    record {
      whole =
          finished_is c.args.file c.args.slots.items _ _ _ _ _ _ _ _ c.requires tables again c.len.ensures c.new-header.ensures c.in_ok-add_header.ensures
          c.as_slice-2.ensures c.put_prefix.ensures c.in_ok-add_tables.ensures;
      buckets = c.in_ok-buckets.ensures;
    }
