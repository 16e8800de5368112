use Rattle.pf_tools.proofs.TableLaws.{absent_is, fails_is, still_meant, value_is}
use Rattle.pf_tools.proofs.map.table.value_of.Goals as goal

pub returns-in-Ok-Value-clause-value : goal.returns-in-Ok-Value-clause-value
returns-in-Ok-Value-clause-value c =
    value_is c.args.tables.now c.args.key.now c.in-Ok-Value.value (rw c.in-Ok-Value.field-0-is at c.in-Ok-Value.ensures.answered)

pub returns-in-Ok-Value-clause-same : goal.returns-in-Ok-Value-clause-same
returns-in-Ok-Value-clause-same c = still_meant c.args.tables.now c.find.new.self c.find.result c.find.ensures.stays

pub returns-in-Ok-Absent-clause-value : goal.returns-in-Ok-Absent-clause-value
returns-in-Ok-Absent-clause-value c = absent_is c.args.tables.now c.args.key.now (rw c.in-Ok-Absent.field-0-is at c.in-Ok-Absent.ensures.answered)

pub returns-in-Ok-Absent-clause-same : goal.returns-in-Ok-Absent-clause-same
returns-in-Ok-Absent-clause-same c = still_meant c.args.tables.now c.find.new.self c.find.result c.find.ensures.stays

pub returns-in-Err-Fails-clause-value : goal.returns-in-Err-Fails-clause-value
returns-in-Err-Fails-clause-value c =
    fails_is c.args.tables.now c.args.key.now (rw c.in-Err-Fails.field-0-is at c.in-Err-Fails.ensures.answered (λ e. cc))

pub returns-in-Err-Fails-clause-same : goal.returns-in-Err-Fails-clause-same
returns-in-Err-Fails-clause-same c = still_meant c.args.tables.now c.find.new.self c.find.result c.find.ensures.stays

pub returns-in-Err-NoMemory-clause-same : goal.returns-in-Err-NoMemory-clause-same
returns-in-Err-NoMemory-clause-same c = still_meant c.args.tables.now c.find.new.self c.find.result c.find.ensures.stays
