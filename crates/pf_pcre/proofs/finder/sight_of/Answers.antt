use Rattle.std.proofs.Common.{◌≡◌, ◌++◌, ◌∙◌, ap, drop, length, sym, take}
use Rattle.std.proofs.Math.Seq.{take-append_seam}
use Rattle.pf_pcre.proofs.finder.sight_of.Goals as goal

pub returns-then-is_char_boundary-clause-near : goal.returns-then-is_char_boundary-clause-near
returns-then-is_char_boundary-clause-near c =
    let groups = c.find_near.new.groups in
    let long : c.args.cells.now.len ≡ length groups = sym (c.find_near.auto.groups ∙ c.as_mut_slice.ensures.len) in
    let whole : take c.args.cells.now.len (groups ++ drop (length groups) c.args.cells.now.items) ≡ groups =
    ap (λ n. take n (groups ++ drop (length groups) c.args.cells.now.items)) long ∙ take-append_seam groups (drop (length groups) c.args.cells.now.items) in
    rw whole (
      (length c.as_mut_slice.result.now, rw (c.as_bytes-bytes.ensures.value, c.in-Ok-Done-Some.field-0-is, c.in-Ok-Done-Some.field-0-0-is) at c.in-Ok-Done-Some.ensures.near),
      c.is_char_boundary.ensures.test.0 c.if-is_char_boundary.true,
    )
