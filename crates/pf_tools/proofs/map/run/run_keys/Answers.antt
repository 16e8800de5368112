use Rattle.std.proofs.Common.{refl}
use Rattle.pf_maps.specs.Clauses.Seen.{meaning_in}
use Rattle.pf_tools.proofs.MapLaws.{took_keys, took_unopened}
use Rattle.pf_tools.specs.Map.Said.{Task as task}
use Rattle.pf_words.specs.declared.postmap.MapJob.TheVariants as job
use Rattle.pf_tools.proofs.map.run.run_keys.Goals as goal

pub returns-in-Ok : goal.returns-in-Ok
returns-in-Ok g c = λ mail.
    took_keys c.args.words.now _ _ _ _ c.in-Ok.tables c.in-Ok.ensures c.answer_keys.result c.requires c.keys_status.ensures (c.answer_keys.ensures mail (g.J.Sink.known c.args.log.now))

pub returns-in-Err : goal.returns-in-Err
returns-in-Err g c = λ mail.
    took_unopened c.args.words.now _ _ _ _ (λ table. task.serves (meaning_in table)) job.QueryInput c.requires (λ happening files. refl)
    c.in-Err.fault c.in-Err.ensures (c.say_unopened.ensures (g.O.Sink.known c.args.out.now) mail) refl
