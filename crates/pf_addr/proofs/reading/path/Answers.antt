use Rattle.pf_addr.proofs.reading.path.Goals as goal

pub returns-clause-reads : goal.returns-clause-reads
returns-clause-reads c = let is = c.in_ok-to_path.ensures in rw is c.in-Some.ensures.reads
