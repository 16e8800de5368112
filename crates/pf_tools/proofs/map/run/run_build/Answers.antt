use Rattle.std.proofs.Common.{IsAscii, zero, suc, codes, refl, arith}
use Rattle.std.proofs.lemmas.Str.{IsUtf8-append, IsUtf8-from_ascii}
use Rattle.pf_tools.proofs.MapLaws.{took_put, took_starved, took_unbuilt}
use Rattle.pf_tools.specs.Map.Built.{text_name}
use Rattle.pf_tools.proofs.map.run.run_build.Goals as goal

ending : IsAscii (codes ".cdb")
ending zero = omega arith
ending (suc zero) = omega arith
ending (suc (suc zero)) = omega arith
ending (suc (suc (suc zero))) = omega arith
ending (suc (suc (suc (suc i)))) = omega arith

pub returns-in_default : goal.returns-in_default
returns-in_default g c = λ input out mail count. took_starved c.args.words.now _ count

pub put_built-requires : goal.put_built-requires
put_built-requires g c =
    rw (c.as_slice.ensures, c.in-Ok.ensures)
    (IsUtf8-append (text_name c.args.words.now.table) (codes ".cdb") c.in-Ok-build.ensures.text (IsUtf8-from_ascii (codes ".cdb") ending))

pub returns-in-Ok-build : goal.returns-in-Ok-build
returns-in-Ok-build g c = λ input out mail count.
    let put = rw (c.as_slice.ensures, c.in-Ok.ensures) at (c.put_built.ensures out mail) in
    took_put c.args.words.now c.args.repeats c.args.warned c.requires count _ _ (g.F.Files.known c.build.new.files) c.in-Ok-build.built c.in-Ok-build.ensures.opens refl put

pub returns : goal.returns
returns g c = λ input out mail count.
    took_unbuilt c.args.words.now c.args.repeats c.args.warned c.requires count _ _ c.in-Err.fault c.in-Err.ensures.opens c.in-Err.ensures.small (c.say_unopened.ensures out mail) refl
