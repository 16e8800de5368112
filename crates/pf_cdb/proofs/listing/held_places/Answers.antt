use Rattle.std.proofs.Common.{◌≡◌, ◌++◌, ap, ◌∙◌, sym, subst, eqb, arith}
use Rattle.std.specs.List.{flat_map, range_with_len}
use Rattle.std.proofs.lemmas.List.Filters.{dedup_is}
use Rattle.pf_cdb.specs.Clauses.Listed.{held_in}
use Rattle.pf_cdb.proofs.ListLaws.{held_listed, tables_more}
use Rattle.pf_cdb.proofs.listing.held_places.Goals as goal

pub loop-table-preserved : goal.loop-table-preserved
loop-table-preserved c =
    c.in_ok-add_places.ensures
    ∙ ap (λ l. l ++ held_in c.args.file.now c.loop-table.table) c.loop-table.invariant
    ∙ sym (tables_more (held_in c.args.file.now) c.loop-table.table)

pub returns : goal.returns
returns c =
    let end : c.loop-table.table ≡ 256 = omega arith in
    let all : c.loop-table.places.items ≡ flat_map (held_in c.args.file.now) (range_with_len 0 256) =
    subst (λ n. c.loop-table.places.items ≡ flat_map (held_in c.args.file.now) (range_with_len 0 n)) end c.loop-table.invariant in
    dedup_is eqb _ _ c.dedup.ensures.filtered
    ∙ held_listed c.args.file.now c.loop-table.places.items c.sort_unstable.new.self.items c.requires all c.sort_unstable.ensures.permutation
    c.sort_unstable.ensures.sorted
