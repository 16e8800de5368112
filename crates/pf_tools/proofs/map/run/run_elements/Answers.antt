use Rattle.std.proofs.Common.{refl}
use Rattle.pf_maps.specs.Clauses.Seen.{listed}
use Rattle.pf_tools.proofs.MapLaws.{took_elements, took_unopened}
use Rattle.pf_tools.specs.Map.Said.{Task as task}
use Rattle.pf_words.specs.declared.postmap.MapJob.TheVariants as job
use Rattle.pf_tools.proofs.map.run.run_elements.Goals as goal

pub returns-in-Ok : goal.returns-in-Ok
returns-in-Ok g c = λ input mail.
    took_elements c.args.words.now _ _ _ _ c.in-Ok.tables c.in-Ok.ensures refl c.requires (c.say_pairs.ensures mail (g.J.Sink.known c.args.log.now))

pub returns-in-Err : goal.returns-in-Err
returns-in-Err g c = λ input mail.
    took_unopened c.args.words.now _ _ _ _ (λ table. task.lists (listed table)) job.Elements c.requires (λ happening files. refl)
    c.in-Err.fault c.in-Err.ensures (c.say_unopened.ensures (g.O.Sink.known c.args.out.now) mail) refl
