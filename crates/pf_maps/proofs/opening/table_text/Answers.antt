use Rattle.std.proofs.Common.{Err, ap, refl}
use Rattle.pf_base.specs.declared.refused.Cause.TheVariants.{C10, C15}
use Rattle.pf_base.specs.Refusal.{refused}
use Rattle.pf_maps.proofs.OpenLaws.{kept_none, no_name, opens_failed, opens_large, opens_refused, opens_text}
use Rattle.pf_maps.proofs.SizeLaws.{small_one}
use Rattle.pf_maps.specs.Opening.{table_text}
use Rattle.pf_maps.proofs.opening.table_text.Goals as goal

pub returns-in_default-clause-opens : goal.returns-in_default-clause-opens
returns-in_default-clause-opens g c =
    rw c.of.ensures (opens_refused (g.F.Files.known c.args.files.now) (g.F.Files.known c.args.files.now) (λ failed all. table_text failed all c.args.place.now c.args.name.now)
    (refused c.args.place.now.file c.args.place.now.line C10 c.args.name.now) c.refuse.result (kept_none (g.F.Files.known c.args.files.now))
    (rw c.as_slice.ensures at c.refuse.ensures) (λ all known. no_name all c.args.place.now c.args.name.now c.in_default.ensures.cases.0))

pub returns-in_default-clause-small : goal.returns-in_default-clause-small
returns-in_default-clause-small g c =
    rw c.of.ensures (small_one (refused c.args.place.now.file c.args.place.now.line C10 c.args.name.now) c.refuse.result refl (rw c.as_slice.ensures at c.refuse.ensures))

pub returns-in-Ok-Some-clause-opens : goal.returns-in-Ok-Some-clause-opens
returns-in-Ok-Some-clause-opens g c =
    rw c.in-Ok-Some.bytes-is (opens_text (g.F.Files.known c.args.files.now) (g.F.Files.known c.read_all.new.files) c.args.place.now c.args.name.now c.in-Ok-Some.field-0 c.in-Ok-Some.bytes
    c.in-Ok.ensures.cases.1 c.in-Ok-Some.field-0-is (λ all known. rw c.in-Ok.ensures.cases.0 at (c.in-Ok-Some.ensures.known all known))
    (c.in-Ok-Some.ensures.tree.same, c.in-Ok-Some.ensures.tree.kept))

pub returns-in-Err-TooLarge-clause-opens : goal.returns-in-Err-TooLarge-clause-opens
returns-in-Err-TooLarge-clause-opens g c =
    rw c.of-in-Err-TooLarge.ensures (opens_large (g.F.Files.known c.args.files.now) (g.F.Files.known c.read_all.new.files) c.args.place.now c.args.name.now
    c.refuse-in-Err-TooLarge.result c.in-Ok.ensures.cases.1
    (λ all known. rw c.in-Ok.ensures.cases.0 at (c.in-Err-TooLarge.ensures.large all known (ap Err c.in-Err-TooLarge.field-0-is)))
    (c.in-Err-TooLarge.ensures.tree.same, c.in-Err-TooLarge.ensures.tree.large (ap Err c.in-Err-TooLarge.field-0-is))
    (rw c.as_slice-in-Err-TooLarge.ensures at c.refuse-in-Err-TooLarge.ensures))

pub returns-in-Err-TooLarge-clause-small : goal.returns-in-Err-TooLarge-clause-small
returns-in-Err-TooLarge-clause-small g c =
    rw c.of-in-Err-TooLarge.ensures (small_one (refused c.args.place.now.file c.args.place.now.line C15 c.args.name.now) c.refuse-in-Err-TooLarge.result refl
    (rw c.as_slice-in-Err-TooLarge.ensures at c.refuse-in-Err-TooLarge.ensures))

pub returns-in-Err-Failed-clause-opens : goal.returns-in-Err-Failed-clause-opens
returns-in-Err-Failed-clause-opens g c =
    opens_failed (g.F.Files.known c.args.files.now) (g.F.Files.known c.read_all.new.files) c.args.place.now c.args.name.now c.in-Ok-from_slice.file
    c.in-Ok.ensures.cases.1 c.in-Ok-from_slice.ensures (c.in-Err-Failed.ensures.tree.same, c.in-Err-Failed.ensures.tree.failed (ap Err c.in-Err-Failed.field-0-is))
