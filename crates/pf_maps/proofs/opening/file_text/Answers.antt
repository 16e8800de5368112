use Rattle.std.proofs.Common.{refl}
use Rattle.pf_maps.proofs.OpenLaws.{kept_none, no_name, opens_refused}
use Rattle.pf_maps.proofs.SizeLaws.{small_one}
use Rattle.pf_base.specs.declared.refused.Cause.TheVariants.{C10}
use Rattle.pf_base.specs.Refusal.{refused}
use Rattle.pf_maps.specs.Opening.{table_text}
use Rattle.pf_maps.proofs.opening.file_text.Goals as goal

pub returns-in_default-clause-opens : goal.returns-in_default-clause-opens
returns-in_default-clause-opens g c =
    rw c.of.ensures (opens_refused (g.F.Files.known c.args.files.now) (g.F.Files.known c.args.files.now)
    (λ failed all. table_text failed all (record { file = c.args.file.now; line = c.args.line }) c.args.name.now)
    (refused c.args.file.now c.args.line C10 c.args.name.now) c.refuse.result (kept_none (g.F.Files.known c.args.files.now))
    c.refuse.ensures (λ all known. no_name all (record { file = c.args.file.now; line = c.args.line }) c.args.name.now c.in_default.ensures.cases.0))

pub returns-in_default-clause-small : goal.returns-in_default-clause-small
returns-in_default-clause-small g c = rw c.of.ensures (small_one (refused c.args.file.now c.args.line C10 c.args.name.now) c.refuse.result refl c.refuse.ensures)
