use Rattle.pf_tools.proofs.MapLaws.{took_postmap}
use Rattle.pf_tools.proofs.map.run.postmap.Goals as goal

pub returns-in-Build : goal.returns-in-Build
returns-in-Build g c = λ mail. took_postmap (c.run_build.ensures (g.S.Source.known c.args.input.now) (g.O.Sink.known c.args.out.now) mail c.args.patterns.now)

pub returns-in-Query : goal.returns-in-Query
returns-in-Query g c = λ mail. took_postmap (c.run_query.ensures (g.S.Source.known c.args.input.now) mail)

pub returns-in-QueryInput : goal.returns-in-QueryInput
returns-in-QueryInput g c = λ mail. took_postmap (c.run_keys.ensures mail)

pub returns-in-Elements : goal.returns-in-Elements
returns-in-Elements g c = λ mail. took_postmap (c.run_elements.ensures (g.S.Source.known c.args.input.now) mail)
