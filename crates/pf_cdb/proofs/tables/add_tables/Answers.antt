use Rattle.std.proofs.Common.{◌++◌, map, ap, ◌∙◌, sym, arith}
use Rattle.std.specs.List.{flat_map}
use Rattle.std.proofs.lemmas.List.{take_all}
use Rattle.std.proofs.lemmas.List.Folds.{flat_map-map}
use Rattle.pf_cdb.specs.Written.{filled, table_bytes}
use Rattle.pf_cdb.proofs.tables.add_tables.Goals as goal

pub returns : goal.returns
returns c =
    c.loop-bucket.invariant
    ∙ ap (λ l. c.args.file.now ++ flat_map (λ v. table_bytes (filled v.items)) l) (take_all c.loop-bucket.bucket-index c.args.buckets.now (omega arith))
    ∙ ap (λ l. c.args.file.now ++ l)
    (sym (flat_map-map table_bytes filled (map (λ v. v.items) c.args.buckets.now)
    ∙ flat_map-map (λ s. table_bytes (filled s)) (λ v. v.items) c.args.buckets.now))
