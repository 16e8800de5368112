use Rattle.std.proofs.Common.{refl}
use Rattle.pf_maps.specs.Clauses.Seen.{meaning_in}
use Rattle.pf_tools.proofs.MapLaws.{took_query, took_unopened}
use Rattle.pf_tools.specs.Map.Lines.{value_at}
use Rattle.pf_tools.specs.Map.Said.{Task as task}
use Rattle.pf_words.specs.declared.postmap.MapJob.TheVariants as job
use Rattle.pf_tools.proofs.map.run.run_query.Goals as goal

pub returns-in-Ok : goal.returns-in-Ok
returns-in-Ok g c = λ input mail.
    took_query c.args.words.now _ _ _ _ c.args.key.now c.in-Ok.tables c.in-Ok.ensures refl c.requires (c.say_value.ensures mail (g.J.Sink.known c.args.log.now))

pub returns-in-Err : goal.returns-in-Err
returns-in-Err g c = λ input mail.
    took_unopened c.args.words.now _ _ _ _ (λ table. task.answers (value_at (meaning_in table) c.args.key.now)) (job.Query c.args.key.now) c.requires (λ happening files. refl)
    c.in-Err.fault c.in-Err.ensures (c.say_unopened.ensures (g.O.Sink.known c.args.out.now) mail) refl
