use Rattle.std.proofs.Common.{◌≡◌, ◌+◌, ◌*◌, ◌++◌, length, ap, ◌∙◌, sym, append_assoc, arith}
use Rattle.pf_cdb.proofs.HeaderLaws.{header_next, size_next, tables_from}
use Rattle.pf_cdb.specs.Written.{bytes_of, header_bytes}
use Rattle.pf_cdb.proofs.tables.add_header.Goals as goal

pub table_end-end-requires : goal.table_end-end-requires
table_end-end-requires c =
    let count : c.slots_for-slots.result ≡ 2 * length c.bucket-item.result.items = omega (arith, c.slots_for-slots.ensures, c.len.ensures, c.bucket-item.result.ok.0) in
    let size = size_next (λ v. v.items) c.args.buckets.now c.bucket-item.result c.loop-bucket.bucket-index c.loop-bucket-test.true c.bucket-item.is in
    omega (arith, count, size, c.loop-bucket.invariant.size, c.requires)

pub add_place-requires : goal.add_place-requires
add_place-requires c =
    let count : c.slots_for-slots.result ≡ 2 * length c.bucket-item.result.items = omega (arith, c.slots_for-slots.ensures, c.len.ensures, c.bucket-item.result.ok.0) in
    let size = size_next (λ v. v.items) c.args.buckets.now c.bucket-item.result c.loop-bucket.bucket-index c.loop-bucket-test.true c.bucket-item.is in
    omega (arith, count, size, c.loop-bucket.invariant.size, c.requires)

pub loop-bucket-preserved : goal.loop-bucket-preserved
loop-bucket-preserved c =
    let i = c.loop-bucket.bucket-index in
    let at = c.loop-bucket.at in
    let slots = c.slots_for-slots.result in
    let count : slots ≡ 2 * length c.bucket-item.result.items = omega (arith, c.slots_for-slots.ensures, c.len.ensures, c.bucket-item.result.ok.0) in
    let size = size_next (λ v. v.items) c.args.buckets.now c.bucket-item.result i c.loop-bucket-test.true c.bucket-item.is in
    let rest = tables_from (λ v. v.items) c.args.buckets.now (i + 1) in
    let place = bytes_of at ++ bytes_of slots in
    record {
      size = omega (arith, count, size, c.table_end-end.ensures, c.loop-bucket.invariant.size);
      bytes =
          ap (λ l. l ++ header_bytes c.table_end-end.result rest) c.in_ok-add_place.ensures
          ∙ append_assoc c.loop-bucket.file place (header_bytes c.table_end-end.result rest)
          ∙ ap (λ n. c.loop-bucket.file ++ (place ++ header_bytes n rest)) c.table_end-end.ensures
          ∙ ap (λ l. c.loop-bucket.file ++ l)
          (sym (header_next (λ v. v.items) c.args.buckets.now c.bucket-item.result i at slots c.loop-bucket-test.true c.bucket-item.is count))
          ∙ c.loop-bucket.invariant.bytes;
    }
